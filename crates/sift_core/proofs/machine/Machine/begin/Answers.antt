use Rattle.std.proofs.Common.{◌≡◌, ◌+◌, ℕ, slice_index, slice_index_or, slice_set, refl, sym, ap, ◌∙◌, subst, arith}
use Rattle.std.proofs.lemmas.Option.{same_Some}
use Rattle.std.specs.Vec.{with_item}
use Rattle.sift_mission.specs.Parts.{data_of}
use Rattle.sift_script.specs.declared.script.StormEntry.{StormEntry}
use Rattle.sift_core.specs.Courses.{lefts}
use Rattle.sift_core.proofs.Calls.{but_for_calls, rogue_at, storm_begun}
use Rattle.sift_core.proofs.machine.Machine.begin.Goals as goal

-- its rogue was called by the storm's number, and one call less is left at its seat
pub returns-clause-begun : goal.returns-clause-begun
returns-clause-begun g c =
    let here : c.from-place.result ≡ c.args.u = c.from-place.ensures ∙ c.get.ensures.number in
    let few = c.get.ensures.small in let long = c.requires.rogues in let number = c.get.ensures.number in
    storm_begun c.args.self.now c.args.u c.from-place.result here c.index_mut.result.now c.begin.new.self c.index_mut.ensures.value c.requires.unit
    (with_item c.args.self.now.seats c.from-place.result c.begin.new.self) refl c.begin.ensures.board g.R.Rogue.allows c.args.rogues.now _
    (slice_index_or c.args.rogues.now c.from-place.result c.index-rogues-place.result) c.begin.new.rogue
    (rogue_at c.args.rogues.now c.args.u c.from-place.result c.index-rogues-place.result (omega arith) here)
    (ap (λ (i : ℕ). slice_set c.args.rogues.now i c.begin.new.rogue) here) (data_of c.args.mission.now) c.begin.ensures
    (λ storm is. subst (λ (t : StormEntry). slice_index (lefts (data_of c.args.mission.now) c.args.self.now) c.args.u ≡ t.strays + 1)
    (same_Some _ _ (sym c.requires.storm.1 ∙ is)) c.requires.storm.2)

-- and nothing else has changed
pub returns-clause-rest : goal.returns-clause-rest
returns-clause-rest g c = but_for_calls c.args.self.now c.args.u c.from-place.result (c.from-place.ensures ∙ c.get.ensures.number) c.index_mut.result.now
    c.begin.new.self c.index_mut.ensures.value c.requires.unit (with_item c.args.self.now.seats c.from-place.result c.begin.new.self) refl c.begin.ensures.board
