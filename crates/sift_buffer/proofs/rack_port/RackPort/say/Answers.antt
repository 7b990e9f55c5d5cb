use Rattle.std.proofs.Common.{slice_set, sym, refl, ◌∙◌, arith}
use Rattle.std.proofs.lemmas.Grind.{common_steps}
use Rattle.sift_buffer.specs.Conduct.{with_said}
use Rattle.sift_buffer.specs.Core.{say}
use Rattle.sift_buffer.specs.Racks.{ranges_for, conduct_at}
use Rattle.sift_buffer.specs.declared.rack.Rack.{Rack}
use Rattle.sift_buffer.proofs.Beside.{may_say}
use Rattle.sift_buffer.proofs.RackEvents.{follows_by}
use Rattle.sift_buffer.proofs.rack_port.RackPort.say.Goals as goal

pub returns-clause-follows : goal.returns-clause-follows
returns-clause-follows c =
    let x : Rack = c.args.self.now in let a = c.args in
    follows_by x _ (say x.unit a.to a.slot a.f a.stamp a.word) (λ d. with_said d a.f a.slot a.to a.stamp a.word) c.from.result
    c.index_mut-own.result.now
    c.note_said.new.self (record {
      layout = refl;
      frames = refl;
      unit = refl;
      at_is = c.from.ensures ∙ c.get.ensures.number;
      lent_is = c.index_mut-own.ensures.value;
      noted = c.note_said.ensures.conduct;
      beside = λ d strays. refl;
      acts = refl;
      looks = λ p ne. refl;
      last = λ p ne. refl;
      doer_is = refl;
      may = λ w. (
        x.here,
        (may_say (conduct_at x x.unit) (w x.unit) (ranges_for x) x.unit a.to a.slot a.f a.stamp c.requires, c.pack.ensures.small),
      );
      of = λ w. refl;
      words = λ w i. slice_set x.words.items (sym c.place-place.ensures.place i) (sym c.pack.ensures.cell i);
    })

pub note_said-requires-clause-place : goal.note_said-requires-clause-place
note_said-requires-clause-place c = grind (arith, common_steps)

pub invariant_of-self : goal.invariant_of-self
invariant_of-self c = grind (arith, common_steps)
