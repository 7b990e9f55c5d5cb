-- The one fault of a drawn document is no storm.
use Rattle.std.proofs.Common.{◌≡◌, ◌==◌, ◌+◌, ◌*◌, ℕ, [], ◌∷◌, Bool, true, false, None, refl, ap, ◌∙◌}
use Rattle.sift_base.specs.Draw.{after, draw_at}
use Rattle.sift_gen.specs.Scenario.{fault_table, task_place, words_each}
use Rattle.sift_sections.specs.Fault.{fault_in}
use Rattle.sift_script.specs.Faults.{storm_of}
use Rattle.sift_script.specs.Script.{Fault, FaultScript}
use Rattle.sift_document.specs.Document.{members_of}
use Rattle.sift_trial.specs.Laws.{DrawnMissionsHaveNoStorms}

module _ (units frames tasks x : ℕ) where
  -- what its table states
  abbrev stated : Fault
  stated = fault_in (members_of (fault_table units frames tasks x))

  -- it is none, whether it is this unit's or another's
  calm_by : (u : ℕ) (b : Bool) → (stated.unit == u) ≡ b → storm_of (stated ∷ []) u ≡ None
  calm_by u true own = rw own refl
  calm_by u false other = rw other refl

  calm_fault : (u : ℕ) → storm_of (stated ∷ []) u ≡ None
  calm_fault u = calm_by u (stated.unit == u) refl

-- no unit of a drawn mission has a storm
pub calm : DrawnMissionsHaveNoStorms
calm n mission u is =
    let tasks = 1 + draw_at n 3 12 in
    let x = task_place tasks (after (after n 4) (words_each * (1 + draw_at n 2 8))) in
    ap (λ (s : FaultScript). storm_of s.faults u) is.stated.script ∙ calm_fault (5 + draw_at n 0 4) (20 + draw_at n 1 181) tasks x u
