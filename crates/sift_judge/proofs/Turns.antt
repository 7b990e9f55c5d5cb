-- The rules and their turns: each rule has a number of its own, and in each frame a turn of its own; so lines have one verdict.
use Rattle.std.proofs.Common.{◌≡◌, ◌⊎◌, ℕ, ◌+◌, ◌*◌, ◌<◌, ◌≤◌, List, nat_eq, if◌then◌else◌, inl, inr, refl, sym, ap, ◌∙◌, arith}
use Rattle.sift_mission.specs.Data.{MissionData}
use Rattle.sift_report.specs.Headline.{ReportHeadline}
use Rattle.sift_line.specs.declared.line.ReportLine.{ReportLine}
use Rattle.sift_judge.specs.Laws.{OneVerdict}
use Rattle.sift_judge.specs.Verdict.{Rule, form, same_configuration, same_inputs, ideal_outputs, no_false_accusation, exact_removal, clock_skew, true_margin, number_of}
use Rattle.sift_judge.specs.Verdict.{turn_of, Breaks, IsFirstBroken, IsVerdict}
use Rattle.sift_judge.specs.declared.judging.Verdict.{Verdict}
use Rattle.sift_judge.specs.declared.judging.Verdict.TheVariants.{Yes, No}

-- ---- numbers

-- the rule of a number
abbrev rule_of : ℕ → Rule
rule_of n =
    if nat_eq n 1 then form else if nat_eq n 2 then same_configuration else if nat_eq n 3 then same_inputs else if nat_eq n 4 then ideal_outputs
    else if nat_eq n 5 then no_false_accusation else if nat_eq n 6 then exact_removal else if nat_eq n 7 then clock_skew else true_margin

back : (r : Rule) → rule_of (number_of r) ≡ r
back form = refl
back same_configuration = refl
back same_inputs = refl
back ideal_outputs = refl
back no_false_accusation = refl
back exact_removal = refl
back clock_skew = refl
back true_margin = refl

-- rules of one number are one rule
pub one_rule : (r s : Rule) → number_of r ≡ number_of s → r ≡ s
one_rule r s same = sym (back r) ∙ ap rule_of same ∙ back s

-- ---- turns

-- the turn of the form: before all other rules
pub record IsForm (r : Rule) : Type 0 where
  pub number : number_of r ≡ 1
  pub turn : (d : MissionData) (f : ℕ) → turn_of d r f ≡ f

-- the turn of another rule: by its frame and its number
pub record IsLater (r : Rule) : Type 0 where
  pub from : 2 ≤ number_of r
  pub to : number_of r ≤ 8
  pub turn : (d : MissionData) (f : ℕ) → turn_of d r f ≡ d.frames + (8 * f + number_of r)

-- each rule is one or the other
pub kind_of : (r : Rule) → IsForm r ⊎ IsLater r
kind_of form = inl (record { number = refl; turn = λ d f. refl })
kind_of same_configuration = inr (record { from = omega arith; to = omega arith; turn = λ d f. refl })
kind_of same_inputs = inr (record { from = omega arith; to = omega arith; turn = λ d f. refl })
kind_of ideal_outputs = inr (record { from = omega arith; to = omega arith; turn = λ d f. refl })
kind_of no_false_accusation = inr (record { from = omega arith; to = omega arith; turn = λ d f. refl })
kind_of exact_removal = inr (record { from = omega arith; to = omega arith; turn = λ d f. refl })
kind_of clock_skew = inr (record { from = omega arith; to = omega arith; turn = λ d f. refl })
kind_of true_margin = inr (record { from = omega arith; to = omega arith; turn = λ d f. refl })

-- a turn is that of one rule in one frame
turn_is_one : (d : MissionData) (r s : Rule) (f g : ℕ) → f < d.frames → g < d.frames → turn_of d r f ≡ turn_of d s g → (f ≡ g) × (number_of r ≡ number_of s)
turn_is_one d r s f g low low' same = elim (kind_of r) [
  | inl a ↦ elim (kind_of s) [
    | inl b ↦ let x = a.turn d f in let y = b.turn d g in (omega (arith, x, y, same), a.number ∙ sym b.number)
    | inr b ↦ let x = a.turn d f in let y = b.turn d g in absurd (omega (arith, x, y, same, low))
  ]
  | inr a ↦ elim (kind_of s) [
    | inl b ↦ let x = a.turn d f in let y = b.turn d g in absurd (omega (arith, x, y, same, low'))
    | inr b ↦
        let x = a.turn d f in
        let y = b.turn d g in
        let frame : f ≡ g = omega (arith, x, y, same, a.from, a.to, b.from, b.to) in
        (frame, omega (arith, x, y, same, frame))
  ]
]

-- of two that are broken first each is the other
first_is_one : (d : MissionData) (lines : List ReportLine) (r s : Rule) (f g : ℕ) → IsFirstBroken d lines r f → IsFirstBroken d lines s g
    → (f ≡ g) × (number_of r ≡ number_of s)
first_is_one d lines r s f g one other =
    let here = one.first s g other.broken in
    let there = other.first r f one.broken in
    turn_is_one d r s f g one.broken.inside other.broken.inside (omega (arith, here, there))

-- ---- verdicts

-- lines with the headline break no rule
pub breaks_none : (d : MissionData) (lines : List ReportLine) → ReportHeadline d lines → (r : Rule) (f : ℕ) → ¬ Breaks r d lines f
breaks_none d lines report form f b = b.broken (report.form f b.inside)
breaks_none d lines report same_configuration f b = b.broken (report.same_configuration f b.inside b.asked)
breaks_none d lines report same_inputs f b = b.broken (report.frames f b.inside b.asked).same_inputs
breaks_none d lines report ideal_outputs f b = b.broken (report.frames f b.inside b.asked).ideal_outputs
breaks_none d lines report no_false_accusation f b = b.broken (report.frames f b.inside b.asked).no_false_accusation
breaks_none d lines report exact_removal f b = b.broken (report.frames f b.inside b.asked).exact_removal
breaks_none d lines report clock_skew f b = b.broken (report.frames f b.inside b.asked).clock_skew
breaks_none d lines report true_margin f b = b.broken (report.true_margin f b.inside)

-- lines have one verdict at most
pub one_verdict : OneVerdict
one_verdict d lines Yes Yes one other = refl
one_verdict d lines Yes (No g k) one other = absurd (breaks_none d lines one other.0 g other.2.broken)
one_verdict d lines (No f n) Yes one other = absurd (breaks_none d lines other one.0 f one.2.broken)
one_verdict d lines (No f n) (No g k) one other =
    let same = first_is_one d lines one.0 other.0 f g one.2 other.2 in
    let number : n ≡ k = one.1 ∙ same.1 ∙ sym other.1 in
    rw (same.0, number) refl

-- where no rule is broken, the verdict is yes
pub yes_of_none : (d : MissionData) (lines : List ReportLine) (verdict : Verdict) → IsVerdict d lines verdict → ((r : Rule) (f : ℕ) → ¬ Breaks r d lines f) →
    ReportHeadline d lines
yes_of_none d lines Yes is none = is
yes_of_none d lines (No f n) is none = absurd (none is.0 f is.2.broken)
