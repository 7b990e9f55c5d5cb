-- The parts of the mission in which one unit fails fit.
use Rattle.std.proofs.Common.{◌≡◌, ℕ, zero, suc, ◌+◌, ◌<◌, ◌≤◌, [], ◌∷◌, length, pos, ◌+ℤ◌, ◌≤ℤ◌, refl, arith}
use Rattle.std.specs.List.{All}
use Rattle.std.proofs.lemmas.Int.{ints}
use Rattle.std.proofs.lemmas.List.Elements.{All-cons, All-nil}
use Rattle.sift_base.specs.Layout.{least_units}
use Rattle.sift_base.specs.Requirement.{AreMet}
use Rattle.sift_base.specs.Shapes.{AreShapes, output_limit, shape_at}
use Rattle.sift_clock.specs.Distance.{IsWithin}
use Rattle.sift_script.specs.Rules as scripts
use Rattle.sift_script.specs.Rules.{IsThere, AreReceivers}
use Rattle.sift_script.specs.Script.{Change}
use Rattle.sift_table.specs.Laws.{PlainTablesAreGood}
use Rattle.sift_mission.specs.Data.{shapes_in}
use Rattle.sift_mission.specs.PartsFit.{AreClocks, AreTables, AreWithinLimits, HasWords, IsScripted, IsTableFor, PartsFit, start_limit, table_at}
use Rattle.sift_flight.specs.Calms.{CalmMissionsFly}
use Rattle.sift_report.specs.TwoCatchers.{mission, no_ticks}

within_limits : AreWithinLimits mission
within_limits = record {
  enough_units = omega arith;
  few_units = omega arith;
  some_frame = omega arith;
  few_frames = omega arith;
  long = omega arith;
  short = omega arith;
  few_sensors = omega arith;
}

-- ---- tables

shapes : AreShapes (shapes_in mission)
shapes = record {
  few_sensors = omega arith;
  few_tasks = omega arith;
  few_words = omega arith;
  some_outputs = some;
  few_outputs = few;
  earlier = earlier_tasks;
}
  where
    some : (t : ℕ) → t < 1 → 0 < (shape_at (shapes_in mission) t).outputs
    some zero low = omega arith
    some (suc t) low = absurd (omega arith)

    few : (t : ℕ) → t < 1 → (shape_at (shapes_in mission) t).outputs ≤ output_limit
    few zero low = omega arith
    few (suc t) low = absurd (omega arith)

    earlier_tasks : (t : ℕ) → t < 1 → All (λ needed. needed < t) (shape_at (shapes_in mission) t).needs
    earlier_tasks zero low = All-nil (λ needed. needed < 0)
    earlier_tasks (suc t) low = absurd (omega arith)

tables : PlainTablesAreGood → AreTables mission
tables plain = record { count = refl; each = each }
  where
    each : (i : ℕ) → i < 2 → IsTableFor mission (least_units + i) (table_at mission i)
    each zero low = record { sized = refl; timed = refl; good = plain 4 12 (shapes_in mission) (omega arith) shapes (omega arith) }
    each (suc zero) low = record { sized = refl; timed = refl; good = plain 5 12 (shapes_in mission) (omega arith) shapes (omega arith) }
    each (suc (suc i)) low = absurd (omega arith)

-- ---- clocks

-- what holds of one thing holds of five times that thing
five_times : {A : Type 0} (P : A → Type 0) (x : A) → P x → All P (x ∷ x ∷ x ∷ x ∷ x ∷ [])
five_times P x h =
    let one = All-cons P x [] h (All-nil P) in
    let two = All-cons P x (x ∷ []) h one in
    let three = All-cons P x (x ∷ x ∷ []) h two in
    let four = All-cons P x (x ∷ x ∷ x ∷ []) h three in
    All-cons P x (x ∷ x ∷ x ∷ x ∷ []) h four

clocks : AreClocks 5 mission.clock
clocks = record {
  numbers = (
    (omega (arith, ints), omega (arith, ints)),
    (omega (arith, ints), omega (arith, ints)),
    (omega (arith, ints), omega (arith, ints)),
    (omega (arith, ints), omega (arith, ints)),
  );
  admitted = record { kept = omega (arith, ints); told = omega (arith, ints); long = omega (arith, ints) };
  starts = refl;
  drifts = refl;
  rows = refl;
  columns = five_times (λ row. length row ≡ 5) no_ticks refl;
  near = five_times (λ offset. IsWithin start_limit offset (pos 0)) (pos 0) (omega (arith, ints), omega (arith, ints));
  together = five_times (λ offset. All (λ other. offset ≤ℤ (other +ℤ pos 0)) no_ticks) (pos 0)
      (five_times (λ other. pos 0 ≤ℤ (other +ℤ pos 0)) (pos 0) (omega (arith, ints)));
  drifts_within = five_times (λ drift. IsWithin (pos 0) drift (pos 0)) (pos 0) (omega (arith, ints), omega (arith, ints));
  errors_within = five_times (λ row. All (λ error. IsWithin (pos 0) error (pos 0)) row) no_ticks
      (five_times (λ error. IsWithin (pos 0) error (pos 0)) (pos 0) (omega (arith, ints), omega (arith, ints)));
}

-- ---- the script

receivers : AreReceivers 5 4 (0 ∷ 1 ∷ [])
receivers = record {
  some = omega arith;
  ascend = ((omega arith, tt), (tt, tt));
  inside = All-cons (λ receiver. receiver < 5) 0 (1 ∷ []) (omega arith)
      (All-cons (λ receiver. receiver < 5) 1 [] (omega arith) (All-nil (λ receiver. receiver < 5)));
  others = refl;
}

rules : (at : ℕ) → at < 1 → AreMet (scripts.entry_rules mission.script at)
rules zero low = (
  omega arith,
  (
    refl,
    (
      omega arith,
      (
        (0, omega arith, refl),
        (
          All-cons (IsThere mission.script 0) _ [] ((omega arith, omega arith), tt) (All-nil (IsThere mission.script 0)),
          (All-cons (λ (change : Change). AreReceivers 5 4 change.to) _ [] receivers (All-nil (λ (change : Change). AreReceivers 5 4 change.to)), tt),
        ),
      ),
    ),
  ),
)
rules (suc at) low = absurd (omega arith)

scripted : IsScripted mission
scripted = record { layout = refl; outputs = refl; frames = refl; good = rules }

-- ---- all of them

-- the parts of the mission of two catchers fit
pub parts_fit : PlainTablesAreGood → CalmMissionsFly → PartsFit mission
parts_fit plain calm = record {
  limits = within_limits;
  layout = record { units = refl; sensors = refl; words = refl };
  names = refl;
  program = calm.count_flies.runs.sound;
  sensors = All-nil HasWords;
  tables = tables plain;
  clock = clocks;
  script = scripted;
}
