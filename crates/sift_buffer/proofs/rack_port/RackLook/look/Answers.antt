use Rattle.std.proofs.Common.{◌≡◌, ◌≢◌, ◌<◌, ℕ, List, slice_index, slice_set, length, sym, refl, ◌∙◌, arith}
use Rattle.std.proofs.lemmas.List.{get_or-set_other}
use Rattle.sift_buffer.specs.Conduct.{put, with_seen}
use Rattle.sift_buffer.specs.Core.{look}
use Rattle.sift_buffer.specs.Racks.{core_of}
use Rattle.sift_buffer.specs.declared.rack.Rack.{Rack}
use Rattle.sift_buffer.proofs.RackEvents.{lent, follows_by}
use Rattle.sift_buffer.proofs.rack_port.RackLook.look.Goals as goal

pub returns-clause-follows : goal.returns-clause-follows
returns-clause-follows c =
    let x : Rack = c.args.self.now in let other : ℕ = c.args.other in let n : ℕ = c.index-number.result.now in
    let low : other < length x.words.items = rw x.wide (let h = c.requires.0 in omega arith) in
    let found : n ≡ slice_index x.words.items other =
    lent x.words.items other c.from.result n 0 (c.from.ensures ∙ c.get.ensures.number) low c.index-number.ensures in
    let at : c.from-unit.result ≡ x.unit = c.from-unit.ensures ∙ c.get-2.ensures.number in
    let beside : (ns : List ℕ) (p n : ℕ) → p ≢ x.unit → slice_index (slice_set ns c.from-unit.result n) p ≡ slice_index ns p =
    λ ns p n ne. get_or-set_other ns c.from-unit.result p n 0 (λ e. ne (e ∙ at)) in
    follows_by x _ (look x.unit other) (λ d. with_seen d other n) c.from-unit.result c.index_mut-own.result.now c.note_seen.new.self (record {
      layout = refl;
      frames = refl;
      unit = refl;
      at_is = at;
      lent_is = c.index_mut-own.ensures.value;
      noted = c.note_seen.ensures.conduct;
      beside = λ d strays. refl;
      acts = refl;
      looks = λ p ne. beside x.looks p _ ne;
      last = λ p ne i. record { unit = beside x.last_units p c.get-3.result ne i; number = beside x.last_numbers p n ne i };
      doer_is = refl;
      may = λ w. (x.here, c.requires);
      of = λ w i. put (core_of x w).of x.unit (with_seen ((core_of x w).of x.unit) other (sym found i));
      words = λ w. refl;
    })
