-- The report of the first liar tells what its lies cost.
use Rattle.std.proofs.Common.{◌≡◌, ℕ, zero, suc, ◌<◌, ◌≤◌, List, [], ◌∷◌, slice_index, true, false, Some, refl, sym, ◌∙◌, subst, arith, eq-eqb}
use Rattle.std.specs.FinSet as set
use Rattle.std.specs.Ordering.{nat_cmp}
use Rattle.std.proofs.lemmas.Bool.{true≢false}
use Rattle.std.proofs.lemmas.Option.{none-some, same_Some}
use Rattle.sift_base.specs.Units.{has, holds}
use Rattle.sift_base.specs.declared.slots.Slot.TheVariants.{Out}
use Rattle.sift_base.specs.laws.Ranges.{range-low}
use Rattle.sift_base.specs.laws.Sets.{holds-insert}
use Rattle.sift_exec.specs.Conviction.{nobody, noted}
use Rattle.sift_exec.specs.declared.catches.Kind.{Kind}
use Rattle.sift_exec.specs.declared.catches.Kind.TheVariants.{Poll, Relay, Clock}
use Rattle.sift_exec.specs.laws.Everyone.{way_is_caught}
use Rattle.sift_line.specs.declared.catch.Bad.TheVariants.{ByKind}
use Rattle.sift_line.specs.declared.line.ReportLine.{ReportLine}
use Rattle.sift_report.specs.Caught.{LiesTold, TellsCaught, tells_catch}
use Rattle.sift_report.specs.FirstLiar.{FirstLiarIsCaught, all_five, four_left, lines, mission, no_unit, unit_1_stays, where_first_catches}
use Rattle.sift_report.specs.Told.{HasMarginTold, IsSoundTold, IsWorking, line_at, told_at, works_in}
use Rattle.sift_report.proofs.Alike.{one_told}

-- ---- who works, and margin

-- what holds of the other four holds of each unit that works in frame 2
each_working : (P : ℕ → Type 0) → P 0 → P 2 → P 3 → P 4 → (u : ℕ) → IsWorking mission u 2 → P u
each_working P a c d e u w = of u (range-low 0 5 u w.unit) w.works
  where
    of : (v : ℕ) → v < 5 → works_in mission v 2 ≡ true → P v
    of zero low t = a
    of (suc zero) low t = absurd (true≢false (sym t))
    of (suc (suc zero)) low t = c
    of (suc (suc (suc zero))) low t = d
    of (suc (suc (suc (suc zero)))) low t = e
    of (suc (suc (suc (suc (suc v))))) low t = absurd (omega arith)

works : (q : ℕ) → has all_five q ≡ true → works_in mission q 2 ≡ true → IsWorking mission q 2
works q unit t = record { unit = unit; works = t }

-- the three frames have margin
margin : HasMarginTold mission lines 2
margin g up = sound g up
  where
    sound : (g : ℕ) → g ≤ 2 → IsSoundTold mission lines g
    sound zero up = (all_five, refl, record { few = omega arith; enough = omega arith })
    sound (suc zero) up = (all_five, refl, record { few = omega arith; enough = omega arith })
    sound (suc (suc zero)) up = (all_five, refl, record { few = omega arith; enough = omega arith })
    sound (suc (suc (suc g))) up = absurd (omega arith)

-- ---- the lies

-- unit 1 lies to a unit that tells 115, where the script has 999 for it
lies_to : (ls : List ReportLine) (q : ℕ) → has (0 ∷ 2 ∷ 3 ∷ 4 ∷ []) q ≡ true → slice_index (told_at mission ls 2 q).outputs 0 ≡ 115 → LiesTold mission ls all_five 2 1 q Poll
lies_to ls q receives voted = record {
  word = 0;
  said = Some 999;
  low = omega arith;
  executes = refl;
  script = rw receives refl;
  untrue = λ same. let e : 999 ≡ slice_index (told_at mission ls 2 q).outputs 0 = same_Some _ _ same in omega (arith, e, voted);
}

-- its clock is its own
no_clock : (ls : List ReportLine) (q : ℕ) → ¬ LiesTold mission ls all_five 2 1 q Clock
no_clock ls q lie = none-some lie.said lie.script

-- ---- what the lines tell

in_own : (u : ℕ) → holds (set.insert set.empty u) u ≡ true
in_own u = holds-insert set.empty u u ∙ rw (eq-eqb u u refl) refl

in_none : holds set.empty 1 ≡ false
in_none = set.contains-empty nat_cmp 1

caught : (way : Kind) (q : ℕ) → IsWorking mission q 2 → LiesTold mission lines all_five 2 1 q way → tells_catch (line_at mission lines 2 q) way 1 ≡ true
caught Poll q w lie = each_working (λ v. tells_catch (line_at mission lines 2 v) Poll 1 ≡ true) (in_own 1) (in_own 1) (in_own 1) (in_own 1) q w
caught Relay q w lie = absurd (none-some lie.said lie.script)
caught Clock q w lie = absurd (no_clock lines q lie)

tells : TellsCaught mission lines all_five 2 1
tells = record {
  caught = caught;
  out = λ a b q r wq wr ne lie_q lie_r next told. subst (λ c. has c 1 ≡ false) (sym (one_told next four_left _ told refl)) refl;
  own_words = λ own q w. absurd (none-some (Some 999) (sym (own (Out 0) 0 refl)));
}

-- where the first line doesn't tell it, not all is told
untold : (ls : List ReportLine) → slice_index (told_at mission ls 2 0).outputs 0 ≡ 115 → tells_catch (line_at mission ls 2 0) Poll 1 ≡ false → ¬ TellsCaught mission ls all_five 2 1
untold ls voted none t = true≢false (sym (t.caught Poll 0 (works 0 refl refl) (lies_to ls 0 refl voted)) ∙ none)

pub first_liar_is_caught : FirstLiarIsCaught
first_liar_is_caught = record {
  margin = margin;
  faulty = refl;
  before = refl;
  member = refl;
  there = refl;
  to_first = lies_to lines 0 refl refl;
  to_third = lies_to lines 2 refl refl;
  no_clock = no_clock lines 0;
  tells = tells;
  after = refl;
  untold = untold (where_first_catches no_unit) refl in_none;
  other_way = untold (where_first_catches (ByKind (noted nobody 1 Clock))) refl in_none;
  stays = λ t. true≢false (t.out Poll Poll 0 2 (works 0 refl refl) (works 2 refl refl) (λ e. omega (arith, e)) (lies_to unit_1_stays 0 refl refl) (lies_to unit_1_stays 2 refl refl) all_five refl);
  own_words = λ t. true≢false (sym (way_is_caught Poll (noted nobody 4 Poll) 4 (in_own 4)) ∙ t.own_words (λ k q out. refl) 0 (works 0 refl refl));
}
