-- A script meets all rules, or one is the first that it breaks.
use Rattle.std.proofs.Common.{◌≡◌, ◌≤◌, ◌<◌, ℕ, ◌+◌, false, List, Option, Some, None, IfSome, length}
use Rattle.std.proofs.lemmas.Bool.Decides.{Decides-like}
use Rattle.std.specs.Prelude.{slice_index}
use Rattle.sift_base.specs.Units.{has}
use Rattle.sift_base.specs.laws.Requirements.{AreTested, entries_met}
use Rattle.sift_base.specs.laws.Tests.{Test, is_false, always, ascends, at_most, both, decided, each, less, some_below}
use Rattle.sift_script.specs.Faults.{changes_in}
use Rattle.sift_script.specs.Laws.{ScriptsAreAnswered}
use Rattle.sift_script.specs.Rules.{AreReceivers, HasPlaceBy, IsThere, entry_rules, fault_at, units_named}
use Rattle.sift_script.specs.Script.{Change, FaultScript}
use Rattle.sift_script.specs.declared.script.SlotKind.{SlotKind}
use Rattle.sift_script.specs.declared.script.SlotKind.TheVariants.{Clock, Sense, Relay, Out, Report, RelayReport}

-- ---- one test a rule

placed : (script : FaultScript) (kind : SlotKind) (index word : ℕ) → Test (HasPlaceBy script kind index word)
placed script Clock index word = always
placed script Sense index word = less index script.layout.sensors
placed script Relay index word = less index script.layout.sensors
placed script Out index word = both (less index (length script.outputs)) (less word (slice_index script.outputs index))
placed script Report index word = always
placed script RelayReport index word = less index script.layout.units

framed : (frames from : ℕ) (frame : Option ℕ) → Test (IfSome frame (λ f. (from ≤ f) × (f < frames)))
framed frames from None = always
framed frames from (Some g) = both (at_most from g) (less g frames)

-- whether what a change is about is there
there : (script : FaultScript) (from : ℕ) (change : Change) → Test (IsThere script from change)
there script from change = both (placed script change.kind change.index change.word) (framed script.frames from change.frame)

-- whether a change is for receivers of what a unit says
received : (units unit : ℕ) (to : List ℕ) → Test (AreReceivers units unit to)
received units unit to =
    let parts = both (both (less 0 (length to)) (ascends to)) (both (each (λ u. u < units) (λ u. less u units) to) (is_false (has to unit))) in (
      parts.0,
      Decides-like parts.0
          (λ h. record { some = h.0.0; ascend = h.0.1; inside = h.1.0; others = h.1.1 })
          (λ r. ((r.some, r.ascend), (r.inside, r.others))) parts.1,
    )

-- whether a script meets each rule at an entry
tested : (script : FaultScript) (at : ℕ) → AreTested (entry_rules script at)
tested script at =
    let fault = fault_at script at in
    let named = units_named script.faults (at + 1) in (
      decided (less fault.unit script.layout.units),
      (
        decided (is_false (has (units_named script.faults at) fault.unit)),
        (
          decided (less fault.from script.frames),
          (
            decided (some_below (λ u. has named u ≡ false) (λ u. is_false (has named u)) script.layout.units),
            (
              decided (each (IsThere script fault.from) (there script fault.from) (changes_in fault.plan)),
              (
                decided (each (λ change. AreReceivers script.layout.units fault.unit change.to)
                    (λ change. received script.layout.units fault.unit change.to) (changes_in fault.plan)),
                tt,
              ),
            ),
          ),
        ),
      ),
    )

-- a script meets all rules, or there is the first entry at which it breaks one, and the first that it breaks there
pub scripts_are_answered : ScriptsAreAnswered
scripts_are_answered script = entries_met (entry_rules script) (length script.faults) (tested script)
