-- The headline holds of the report with a fault in it.
use Rattle.std.proofs.Common.{◌≡◌, ℕ, zero, suc, ◌<◌, ◌≤◌, List, [], ◌∷◌, Bool, true, false, not, ◌||◌, nat_eq, Some, ℤ, pos, ◌≤ℤ◌, refl, sym, ap, ◌∙◌, subst, arith, eqb-true}
use Rattle.std.specs.Prelude.{IsSomeAnd}
use Rattle.std.specs.FinSet as set
use Rattle.std.specs.List.{Contains, filter}
use Rattle.std.specs.Ordering.{nat_cmp}
use Rattle.std.proofs.lemmas.Bool.{le-leb}
use Rattle.std.proofs.lemmas.Int.{ints}
use Rattle.sift_base.specs.Units.{has, holds}
use Rattle.sift_base.specs.laws.Sets.{holds-insert}
use Rattle.sift_base.specs.laws.Ranges.{range-low}
use Rattle.sift_exec.specs.Conviction.{nobody, noted}
use Rattle.sift_exec.specs.declared.catches.Kind.TheVariants.{Poll}
use Rattle.sift_skew.specs.Figures.{IsSkew}
use Rattle.sift_exec.specs.laws.Everyone.{holds-everyone}
use Rattle.sift_skew.specs.laws.Leads.{Contains-map}
use Rattle.sift_line.specs.Bad.{units_in}
use Rattle.sift_report.specs.Headline.{HasForm, IsUnitsLine}
use Rattle.sift_report.specs.Headline.{TellsClockSkew, TellsExactRemoval, TellsIdealOutputs, TellsNoFalseAccusation, TellsSameConfiguration, TellsSameInputs, TellsTrueMargin}
use Rattle.sift_report.specs.Told.{HasMarginTold, IsSoundTold, agreed_told, line_at, told_at, IsWorking, works_in}
use Rattle.sift_report.specs.TwoCatchers.{TellsOfTheFault, all_five, four_left, lines, mission, no_unit, only}
use Rattle.sift_report.proofs.Alike.{one_told}
use Rattle.sift_report.proofs.Tells.{two_tell, working_clocks}

-- ---- units

-- what holds of each of five numbers holds below 5
pub each_below : (P : ℕ → Type 0) → P 0 → P 1 → P 2 → P 3 → P 4 → (u : ℕ) → u < 5 → P u
each_below P a b c d e zero low = a
each_below P a b c d e (suc zero) low = b
each_below P a b c d e (suc (suc zero)) low = c
each_below P a b c d e (suc (suc (suc zero))) low = d
each_below P a b c d e (suc (suc (suc (suc zero)))) low = e
each_below P a b c d e (suc (suc (suc (suc (suc u))))) low = absurd (omega arith)

-- unit 4 is faulty in each frame
pub faulty_in : (f : ℕ) → works_in mission 4 f ≡ false
faulty_in f = rw (le-leb 0 f (omega arith)) refl

-- what holds of the other four holds of each working unit
each_working : (P : ℕ → Type 0) → P 0 → P 1 → P 2 → P 3 → (f u : ℕ) → IsWorking mission u f → P u
each_working P a b c d f u w =
    each_below (λ v. works_in mission v f ≡ true → P v) (λ t. a) (λ t. b) (λ t. c) (λ t. d)
    (λ t. let no = faulty_in f in absurd cc) u (range-low 0 5 u w.unit) w.works

-- ---- sets

or_twice : (b : Bool) → (((b || false) || false) || false) ≡ (b || false)
or_twice true = refl
or_twice false = refl

-- the empty set has no member
in_empty : (v : ℕ) → holds set.empty v ≡ false
in_empty v = set.contains-empty nat_cmp v

-- where nobody was caught, no unit is named
pub holds-none : (v : ℕ) → holds (units_in no_unit) v ≡ false
holds-none v = holds-everyone nobody v ∙ rw (in_empty v) refl

-- where one unit was caught, that unit alone is named
pub holds-only : (u v : ℕ) → holds (units_in (only u)) v ≡ (nat_eq v u || false)
holds-only u v =
    let one : holds (set.insert set.empty u) v ≡ (nat_eq v u || false) =
    holds-insert set.empty u v ∙ ap (λ b. nat_eq v u || b) (in_empty v) in
    holds-everyone (noted nobody u Poll) v ∙ rw (in_empty v, one) (or_twice (nat_eq v u))

-- a set of units of the mission has low members
none_low : (v : ℕ) → holds (units_in no_unit) v ≡ true → v < 5
none_low v there = let no = holds-none v in absurd cc

or_false : (b : Bool) → (b || false) ≡ true → b ≡ true
or_false true t = refl
or_false false t = absurd cc

four_low : (v : ℕ) → holds (units_in (only 4)) v ≡ true → v < 5
four_low v there = let e : v ≡ 4 = eqb-true v 4 (or_false _ (sym (holds-only 4 v) ∙ there)) in omega (arith, e)

five_low : (v : ℕ) → has all_five v ≡ true → v < 5
five_low v there = range-low 0 5 v there

left_low : (v : ℕ) → has four_left v ≡ true → v < 5
left_low v there = let low = range-low 0 4 v there in omega (arith, low)

-- ---- margin

sound : (f : ℕ) → f ≤ 1 → IsSoundTold mission lines f
sound zero up = (all_five, refl, record { few = omega arith; enough = omega arith })
sound (suc zero) up = (four_left, refl, record { few = omega arith; enough = omega arith })
sound (suc (suc f)) up = absurd (omega arith)

margin : (f : ℕ) → f ≤ 1 → HasMarginTold mission lines f
margin f low = λ g up. sound g (omega arith)

-- ---- the headline

form : (f : ℕ) → f < 2 → HasForm mission lines f
form zero low = record {
  units = each_below (λ u. IsSomeAnd (line_at mission lines 0 u) (IsUnitsLine mission 0 u))
      (refl, refl, refl, five_low, four_low, refl, refl) (refl, refl, refl, five_low, four_low, refl, refl)
      (refl, refl, refl, five_low, none_low, refl, refl) (refl, refl, refl, five_low, none_low, refl, refl) (refl, refl, refl);
  whole = (_, _, _, refl);
  last = λ e. absurd (omega (arith, e));
  nothing_more = λ e. absurd (omega (arith, e));
}
form (suc zero) low = record {
  units = each_below (λ u. IsSomeAnd (line_at mission lines 1 u) (IsUnitsLine mission 1 u))
      (refl, refl, refl, left_low, none_low, refl, refl) (refl, refl, refl, left_low, none_low, refl, refl)
      (refl, refl, refl, left_low, none_low, refl, refl) (refl, refl, refl, left_low, none_low, refl, refl) (refl, refl, refl);
  whole = (_, _, _, refl);
  last = λ e. (_, _, refl);
  nothing_more = λ e. refl;
}
form (suc (suc f)) low = absurd (omega arith)

same_configuration : (f : ℕ) → f < 2 → TellsSameConfiguration mission lines f
same_configuration zero low = record {
  config = all_five;
  told = refl;
  all_at_first = λ e. refl;
  same = λ has_margin. each_working (λ u. (told_at mission lines 0 u).config ≡ Some all_five) refl refl refl refl 0;
}
same_configuration (suc zero) low = record {
  config = four_left;
  told = refl;
  all_at_first = λ e. absurd (omega (arith, e));
  same = λ has_margin. each_working (λ u. (told_at mission lines 1 u).config ≡ Some four_left) refl refl refl refl 1;
}
same_configuration (suc (suc f)) low = absurd (omega arith)

same_inputs : (f : ℕ) → f < 2 → TellsSameInputs mission lines f
same_inputs zero low = record {
  same = each_working (λ u. (told_at mission lines 0 u).inputs ≡ agreed_told mission lines 0) refl refl refl refl 0;
  sensed = λ us x told few works. absurd (omega (arith, few));
}
same_inputs (suc zero) low = record {
  same = each_working (λ u. (told_at mission lines 1 u).inputs ≡ agreed_told mission lines 1) refl refl refl refl 1;
  sensed = λ us x told few works. absurd (omega (arith, few));
}
same_inputs (suc (suc f)) low = absurd (omega arith)

ideal_outputs : (f : ℕ) → f < 2 → TellsIdealOutputs mission lines f
ideal_outputs zero low = each_working (λ u. (told_at mission lines 0 u).outputs ≡ 16 ∷ []) refl refl refl refl 0
ideal_outputs (suc zero) low = each_working (λ u. (told_at mission lines 1 u).outputs ≡ 49 ∷ []) refl refl refl refl 1
ideal_outputs (suc (suc f)) low = absurd (omega arith)

-- a set that has no working unit
four_blamed : (f v : ℕ) → IsWorking mission v f → holds (units_in (only 4)) v ≡ false
four_blamed f = each_working (λ v. holds (units_in (only 4)) v ≡ false) (holds-only 4 0) (holds-only 4 1) (holds-only 4 2) (holds-only 4 3) f

no_false_accusation : (f : ℕ) → f < 2 → TellsNoFalseAccusation mission lines f
no_false_accusation zero low u v w x =
    each_working (λ u. holds (told_at mission lines 0 u).caught v ≡ false) (four_blamed 0 v x) (four_blamed 0 v x) (holds-none v) (holds-none v) 0 u w
no_false_accusation (suc zero) low u v w x =
    each_working (λ u. holds (told_at mission lines 1 u).caught v ≡ false) (holds-none v) (holds-none v) (holds-none v) (holds-none v) 1 u w
no_false_accusation (suc (suc f)) low u v w x = absurd (omega arith)

-- who is left where two units name unit 4
removed : filter (λ v. not (two_tell mission lines 0 all_five v)) all_five ≡ four_left
removed =
    rw (holds-only 4 0, holds-only 4 1, holds-only 4 2, holds-only 4 3, holds-only 4 4)
    (rw (holds-none 0, holds-none 1, holds-none 2, holds-none 3, holds-none 4) refl)

stayed : filter (λ v. not (two_tell mission lines 1 four_left v)) four_left ≡ four_left
stayed = rw (holds-none 0, holds-none 1, holds-none 2, holds-none 3) refl

exact_removal : (f : ℕ) → f < 2 → TellsExactRemoval mission lines f
exact_removal zero low us next told told_next =
    let now : us ≡ all_five = one_told us all_five _ told refl in
    let then_is : next ≡ four_left = one_told next four_left _ told_next refl in
    subst (λ c. next ≡ filter (λ v. not (two_tell mission lines 0 c v)) c) (sym now) (then_is ∙ sym removed)
exact_removal (suc zero) low us next told told_next =
    let now : us ≡ four_left = one_told us four_left _ told refl in
    let then_is : next ≡ four_left = one_told next four_left _ told_next refl in
    subst (λ c. next ≡ filter (λ v. not (two_tell mission lines 1 c v)) c) (sym now) (then_is ∙ sym stayed)
exact_removal (suc (suc f)) low us next told told_next = absurd (omega arith)

-- the skew of four clocks that are right
abbrev four_right : List ℤ
four_right = pos 0 ∷ pos 0 ∷ pos 0 ∷ pos 0 ∷ []

right : (z : ℤ) → Contains four_right z → z ≡ pos 0
right z among = (Contains-map (λ u. pos 0) four_left z among).2

-- the skew of the four clocks that are right is 0
pub no_skew : IsSkew four_right (pos 0)
no_skew = record {
  attained = (pos 0, pos 0, (0, omega arith, refl), (0, omega arith, refl), refl);
  largest = λ p q hp hq. let a = right p hp in let b = right q hq in omega (arith, ints, a, b);
}

clock_skew : (f : ℕ) → f < 2 → TellsClockSkew mission lines f
clock_skew zero low = record {
  skew = λ us told.
      let now : us ≡ all_five = one_told us all_five _ told refl in
      subst (λ c. IsSkew (working_clocks mission lines 0 c) (pos 0) × (pos 0 ≤ℤ pos 0)) (sym now) (no_skew, omega (arith, ints));
  slack = omega (arith, ints);
}
clock_skew (suc zero) low = record {
  skew = λ us told.
      let now : us ≡ four_left = one_told us four_left _ told refl in
      subst (λ c. IsSkew (working_clocks mission lines 1 c) (pos 0) × (pos 0 ≤ℤ pos 0)) (sym now) (no_skew, omega (arith, ints));
  slack = omega (arith, ints);
}
clock_skew (suc (suc f)) low = absurd (omega arith)

true_margin : (f : ℕ) → f < 2 → TellsTrueMargin mission lines f
true_margin zero low = record { frame = ((λ t. margin 0 (omega arith)), (λ x. refl)); end = λ e. absurd (omega (arith, e)) }
true_margin (suc zero) low = record {
  frame = ((λ t. margin 1 (omega arith)), (λ x. refl));
  end = λ e. ((λ t. margin 1 (omega arith)), (λ x. refl));
}
true_margin (suc (suc f)) low = absurd (omega arith)

-- the lines tell of the fault: both frames have margin by what is told, and unit 4 is out after the first
pub lines_tell : TellsOfTheFault lines
lines_tell = record {
  margin = margin 1 (omega arith);
  before = refl;
  behind = refl;
  headline = record {
    form = form;
    same_configuration = λ f low had. same_configuration f low;
    frames = λ f low has_margin. record {
      same_inputs = same_inputs f low;
      ideal_outputs = ideal_outputs f low;
      no_false_accusation = no_false_accusation f low;
      exact_removal = exact_removal f low;
      clock_skew = clock_skew f low;
    };
    true_margin = true_margin;
  };
}
