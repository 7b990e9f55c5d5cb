use Rattle.std.proofs.Common.{◌≡◌, ◌<◌, ℕ, Option, slice_index, length, sym, refl, ap, ◌∙◌, subst, arith}
use Rattle.std.proofs.lemmas.Grind.{common_steps}
use Rattle.sift_buffer.specs.Cell.{taken}
use Rattle.sift_buffer.specs.Ranges.{place, shared_words}
use Rattle.sift_buffer.specs.Conduct.{put, with_heard}
use Rattle.sift_buffer.specs.Core.{hear}
use Rattle.sift_buffer.specs.Racks.{ranges_for, core_of, conduct_at}
use Rattle.sift_buffer.specs.declared.rack.Rack.{Rack}
use Rattle.sift_buffer.proofs.Beside.{may_hear}
use Rattle.sift_buffer.proofs.RackEvents.{lent, follows_by}
use Rattle.sift_buffer.proofs.rack_port.RackPort.hear.Goals as goal

pub returns-clause-follows : goal.returns-clause-follows
returns-clause-follows c =
    let x : Rack = c.args.self.now in let a = c.args in let w : Option ℕ = c.take-word.result in
    let at : ℕ = place (ranges_for x) a.from x.unit a.slot in
    let low : at < length x.words.items = rw x.wide (subst (λ (n : ℕ). n < shared_words (ranges_for x)) c.place-place.ensures.place
    c.place-place.ensures.below) in
    let cell = lent x.words.items at c.place-place.result c.index.result.now 0 c.place-place.ensures.place low c.index.ensures in
    let found : w ≡ taken (slice_index x.words.items at) a.stamp = c.take-word.ensures.word ∙ ap (λ (n : ℕ). taken n a.stamp) cell in
    follows_by x _ (hear x.unit a.from a.slot a.f a.stamp) (λ d. with_heard d a.f a.slot a.from a.stamp w) c.from.result c.index_mut-own.result.now
    c.note_heard.new.self
    (record {
      layout = refl;
      frames = refl;
      unit = refl;
      at_is = c.from.ensures ∙ c.get.ensures.number;
      lent_is = c.index_mut-own.ensures.value;
      noted = c.note_heard.ensures.conduct;
      beside = λ d strays. refl;
      acts = refl;
      looks = λ p ne. refl;
      last = λ p ne. refl;
      doer_is = refl;
      may = λ w. (x.here, may_hear (conduct_at x x.unit) (w x.unit) (ranges_for x) x.unit a.from a.slot a.f a.stamp c.requires);
      of = λ w i. put (core_of x w).of x.unit (with_heard ((core_of x w).of x.unit) a.f a.slot a.from a.stamp (sym found i));
      words = λ w. refl;
    })

pub invariant_of-self : goal.invariant_of-self
invariant_of-self c = grind (arith, common_steps)

pub note_heard-requires-clause-place : goal.note_heard-requires-clause-place
note_heard-requires-clause-place c = grind (arith, common_steps)
