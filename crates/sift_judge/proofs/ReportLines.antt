-- Lines of a report, looked at one by one.
use Rattle.std.proofs.Common.{◌≡◌, ℕ, ◌<◌, ◌≤◌, List, length, Bool, true, false, nat_eq, ℤ, Option, None, Some, refl, sym, ap, ◌∙◌, eq-eqb, eqb-true}
use Rattle.std.specs.Prelude.{◌↔◌, MatchOption, option_map}
use Rattle.std.specs.List.{HoldsAt, slice_get}
use Rattle.std.proofs.lemmas.Option.{slice_get-get_or, slice_get_past}
use Rattle.sift_line.specs.declared.line.ReportLine.{ReportLine}
use Rattle.sift_line.specs.declared.line.ReportLine.TheVariants.{Unit as unit, Faulty, Idle, Frame, Last}
use Rattle.sift_line.specs.declared.catch.Bad.{Bad}
use Rattle.arrayvec.specs.ArrayVec.{ArrayVec as Items}
use Rattle.sift_mission.specs.Data.{MissionData}
use Rattle.sift_report.specs.Headline.{IsUnitsLine}

-- what is read at a place of a list stands there
pub read_at : {B X : Type 0} (now : B → X) (o : Option B) (xs : List X) (i : ℕ)
    → MatchOption o (length xs ≤ i) (λ b. (i < length xs) × HoldsAt (λ y. now b ≡ y) xs i) → option_map now o ≡ slice_get xs i
read_at now None xs i past = sym (slice_get_past xs i past)
read_at now (Some b) xs i there = ap Some (there.1 (now b)) ∙ sym (slice_get-get_or xs i (now b) there.0)

-- the line of a frame is that of frame f just where it says so
pub frames_line : (o : Option ReportLine) (f g : ℕ) (skew slack : Option ℤ) (margin : Bool) → o ≡ Some (Frame g skew slack margin)
    → (nat_eq g f ≡ true) ↔ ((s : Option ℤ) × (t : Option ℤ) × (m : Bool) × (o ≡ Some (Frame f s t m)))
frames_line o f g skew slack margin is = (
  (λ t. (skew, slack, margin, is ∙ ap (λ h. Some (Frame h skew slack margin)) (eqb-true g f t))),
  (λ there. let e : g ≡ f = cc (there.3) in eq-eqb g f e),
)

-- a line that is missing is none
pub no_frames_line : (o : Option ReportLine) (f : ℕ) → o ≡ None
    → (false ≡ true) ↔ ((s : Option ℤ) × (t : Option ℤ) × (m : Bool) × (o ≡ Some (Frame f s t m)))
no_frames_line o f is = ((λ t. absurd cc), (λ there. absurd (cc (there.3))))

-- the last line tells so many frames just where it says so
pub last_line : (o : Option ReportLine) (n frames : ℕ) (cfg : List ℕ) (margin : Bool) → o ≡ Some (Last frames cfg margin)
    → (nat_eq frames n ≡ true) ↔ ((us : List ℕ) × (m : Bool) × (o ≡ Some (Last n us m)))
last_line o n frames cfg margin is = (
  (λ t. (cfg, margin, is ∙ ap (λ h. Some (Last h cfg margin)) (eqb-true frames n t))),
  (λ there. let e : frames ≡ n = cc (there.2) in eq-eqb frames n e),
)

-- a line that is missing is none
pub no_last_line : (o : Option ReportLine) (n : ℕ) → o ≡ None → (false ≡ true) ↔ ((us : List ℕ) × (m : Bool) × (o ≡ Some (Last n us m)))
no_last_line o n is = ((λ t. absurd cc), (λ there. absurd (cc (there.2))))

-- another line isn't one of a whole frame
pub other_frames_line : (o : Option ReportLine) (line : ReportLine) (f : ℕ) → o ≡ Some line
    → ((g : ℕ) (s t : Option ℤ) (m : Bool) → line ≡ Frame g s t m → ⊥)
    → (false ≡ true) ↔ ((s : Option ℤ) × (t : Option ℤ) × (m : Bool) × (o ≡ Some (Frame f s t m)))
other_frames_line o line f is other = ((λ t. absurd cc), (λ there. absurd (other f there.0 there.1 there.2 (cc (is, there.3)))))

-- nor the last one
pub other_last_line : (o : Option ReportLine) (line : ReportLine) (n : ℕ) → o ≡ Some line
    → ((frames : ℕ) (us : List ℕ) (m : Bool) → line ≡ Last frames us m → ⊥)
    → (false ≡ true) ↔ ((us : List ℕ) × (m : Bool) × (o ≡ Some (Last n us m)))
other_last_line o line n is other = ((λ t. absurd cc), (λ there. absurd (other n there.0 there.1 (cc (is, there.2)))))

-- a line that is neither a unit's, nor that of an idle or a faulty one, is no unit's
pub other_units_line : (d : MissionData) (f u : ℕ) (line : ReportLine)
    → ((g v : ℕ) (cfg : List ℕ) (clk : ℤ) (ins outs : Items ℕ) (bad : Bad) → line ≡ unit g v cfg clk ins outs bad → ⊥)
    → ((g v : ℕ) → line ≡ Faulty g v → ⊥) → ((g v : ℕ) → line ≡ Idle g v → ⊥) → (false ≡ true) ↔ IsUnitsLine d f u line
other_units_line d f u (unit g v cfg clk ins outs bad) told faulty idle = absurd (told g v cfg clk ins outs bad refl)
other_units_line d f u (Faulty g v) told faulty idle = absurd (faulty g v refl)
other_units_line d f u (Idle g v) told faulty idle = absurd (idle g v refl)
other_units_line d f u (Frame g skew slack margin) told faulty idle = ((λ t. absurd cc), (λ is. absurd is))
other_units_line d f u (Last frames cfg margin) told faulty idle = ((λ t. absurd cc), (λ is. absurd is))
