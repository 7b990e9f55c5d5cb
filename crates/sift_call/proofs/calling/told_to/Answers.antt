use Rattle.std.proofs.Common.{◌≡◌, ◌∙◌, ℕ, List, Some, ap, drop, map, refl, string_bytes, subst}
use Rattle.sift_alone.specs.Flown.{flying_with}
use Rattle.sift_alone.specs.Given.{resting_storms}
use Rattle.sift_commands.specs.Command.{program}
use Rattle.sift_io.specs.Sure.{sure_inflow}
use Rattle.sift_row.specs.Laws.{AreKept}
use Rattle.sift_rogue.specs.Rogues.{AllowsDrawn}
use Rattle.sift_rogue.specs.declared.storm.Storm.{Storm}
use Rattle.sift_call.proofs.Statuses.{known}
use Rattle.sift_call.proofs.Sure.{told}
use Rattle.sift_call.specs.Room.{bytes_of}
use Rattle.sift_call.specs.Told.{IsTold}
use Rattle.sift_call.proofs.calling.told_to.Goals as goal

-- the storms that were made haven't begun
resting : (c : goal.After-drop-source-2) → c.of-fleet.result.rogues.items ≡ resting_storms
resting c = rw c.of-fleet.ensures c.in_ok-storms.ensures.storms

-- what stands in the room is owed to what the source told
is_told : (c : goal.After-drop-source-2) (input : List ℕ) → drop c.new-source.result.at c.new-source.result.bytes.items ≡ input
    → IsTold (map string_bytes c.args.words.now) input c.sift_alone-status.result (bytes_of c.sift_alone-status.new.sink)
is_told c input tells = told (map string_bytes c.args.words.now) (sure_inflow c.new-source.result) (sure_inflow c.sift_alone-status.new.source)
    c.args.sink.now c.sift_alone-status.new.sink c.sift_alone-status.result input (ap Some tells) refl refl c.requires
    c.if-status-eq-SINK_FAULT_STATUS.false c.if-status-eq-NO_MEMORY_STATUS.false _ (resting c) c.sift_alone-status.ensures.certain

-- which is the input
pub returns-clause-told : goal.returns-clause-told
returns-clause-told c =
    let tells : drop c.new-source.result.at c.new-source.result.bytes.items ≡ c.args.input.now =
    rw c.new-source.ensures.fresh.0 (c.new-source.ensures.bytes ∙ c.in_ok-from_slice.ensures.items) in
    (bytes_of c.sift_alone-status.new.sink, is_told c c.args.input.now tells, c.length.ensures.begins, c.length.ensures.all)

pub returns-clause-known : goal.returns-clause-known
returns-clause-known c =
    let kept = subst (λ (them : List Storm). AreKept (program (flying_with AllowsDrawn them))) (resting c) (c.commands_are_kept.ensures c.of-fleet.result) in
    (known kept (map string_bytes c.args.words.now) _ c.sift_alone-status.result _ (is_told c _ refl), c.if-status-eq-NO_MEMORY_STATUS.false)
