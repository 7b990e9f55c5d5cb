-- Frame by frame, the forms first: what is found broken first is the first that is broken.
use Rattle.std.proofs.Common.{◌≡◌, ℕ, Bool, true, false, suc, ◌<◌, ◌≤◌, List, inl, inr, refl, subst, arith}
use Rattle.std.specs.Prelude.{◌↔◌}
use Rattle.std.proofs.lemmas.Bool.{cases_lt}
use Rattle.sift_mission.specs.Data.{MissionData}
use Rattle.sift_report.specs.Headline.{HasForm, FrameHeadline, ReportHeadline}
use Rattle.sift_report.specs.Told.{HasMarginTold}
use Rattle.sift_line.specs.declared.line.ReportLine.{ReportLine}
use Rattle.sift_judge.specs.Turns.{HasForms, IsFirstInFrame, IsFirstWithoutForm, KeepsBefore, KeepsBelow, KeepsFrame, KeepsIfAsked}
use Rattle.sift_judge.specs.Verdict.{Rule, form, same_configuration, same_inputs, ideal_outputs, no_false_accusation, exact_removal, clock_skew, true_margin, number_of}
use Rattle.sift_judge.specs.Verdict.{Breaks, IsAsked, IsFirstBroken, Keeps}
use Rattle.sift_judge.proofs.Turns.{kind_of, one_rule}

module _ (d : MissionData) (lines : List ReportLine) where
  -- ---- in a frame

  -- no rule behind the form has a number below 2
  pub none_below : (f : ℕ) → KeepsBelow d lines f 2
  none_below f rule behind low = absurd (omega (arith, behind, low))

  -- one rule more
  one_more : (f : ℕ) (rule : Rule) → KeepsBelow d lines f (number_of rule) → KeepsIfAsked d lines f rule → KeepsBelow d lines f (suc (number_of rule))
  one_more f rule before here other behind low = elim (cases_lt (number_of other) (number_of rule)) [
    | inl less ↦ before other behind less
    | inr more ↦ let same : number_of rule ≡ number_of other = omega (arith, low, more) in subst (KeepsIfAsked d lines f) (one_rule rule other same) here
  ]

  -- the rules that are kept so far, one more each
  pub two_kept : (f : ℕ) → KeepsIfAsked d lines f same_configuration → KeepsBelow d lines f 3
  two_kept f two = one_more f same_configuration (none_below f) two

  -- lines that keep the rules of configuration and inputs in a frame keep rules 2 and 3 there
  pub three_kept : (f : ℕ) → KeepsIfAsked d lines f same_configuration → Keeps same_inputs d lines f → KeepsBelow d lines f 4
  three_kept f two three = one_more f same_inputs (two_kept f two) (λ asked. three)

  -- lines that keep the rules of configuration, inputs and outputs in a frame keep rules 2 to 4 there
  pub four_kept : (f : ℕ) → KeepsIfAsked d lines f same_configuration → Keeps same_inputs d lines f → Keeps ideal_outputs d lines f
      → KeepsBelow d lines f 5
  four_kept f two three four = one_more f ideal_outputs (three_kept f two three) (λ asked. four)

  -- lines that keep the rules of configuration, inputs, outputs and accusations in a frame keep rules 2 to 5 there
  pub five_kept : (f : ℕ) → KeepsIfAsked d lines f same_configuration → Keeps same_inputs d lines f → Keeps ideal_outputs d lines f
      → Keeps no_false_accusation d lines f → KeepsBelow d lines f 6
  five_kept f two three four five = one_more f no_false_accusation (four_kept f two three four) (λ asked. five)

  -- lines that keep a frame's rules from that of the configuration to that of removals keep rules 2 to 6 there
  pub six_kept : (f : ℕ) → KeepsIfAsked d lines f same_configuration → Keeps same_inputs d lines f → Keeps ideal_outputs d lines f
      → Keeps no_false_accusation d lines f → Keeps exact_removal d lines f → KeepsBelow d lines f 7
  six_kept f two three four five six = one_more f exact_removal (five_kept f two three four five) (λ asked. six)

  -- a rule that is asked and isn't kept is broken
  pub is_first : (f : ℕ) (rule : Rule) → 2 ≤ number_of rule → KeepsBelow d lines f (number_of rule) → Breaks rule d lines f
      → IsFirstInFrame d lines f (number_of rule)
  is_first f rule behind before broken = record { rule = rule; named = refl; behind = behind; broken = broken; before = before }

  -- ---- in all frames

  -- the form is broken where it isn't kept
  form_broken : (r : Rule) (f : ℕ) → number_of r ≡ 1 → Breaks r d lines f → ¬ HasForm d lines f
  form_broken r f is broken = (subst (λ s. Breaks s d lines f) (one_rule r form is) broken).broken

  -- what a frame keeps it doesn't break
  frame_keeps : (f : ℕ) → KeepsFrame d lines f → (r : Rule) → 2 ≤ number_of r → ¬ Breaks r d lines f
  frame_keeps f frame form behind b = omega (arith, behind)
  frame_keeps f frame same_configuration behind b = b.broken (frame.same_configuration b.asked)
  frame_keeps f frame same_inputs behind b = b.broken (frame.frame b.asked).same_inputs
  frame_keeps f frame ideal_outputs behind b = b.broken (frame.frame b.asked).ideal_outputs
  frame_keeps f frame no_false_accusation behind b = b.broken (frame.frame b.asked).no_false_accusation
  frame_keeps f frame exact_removal behind b = b.broken (frame.frame b.asked).exact_removal
  frame_keeps f frame clock_skew behind b = b.broken (frame.frame b.asked).clock_skew
  frame_keeps f frame true_margin behind b = b.broken frame.true_margin

  -- in the first frame without its form, the form is the first rule that the lines break
  pub first_form : (f : ℕ) → IsFirstWithoutForm d lines f → IsFirstBroken d lines form f
  first_form f found = record {
    broken = record { inside = found.inside; asked = tt; broken = found.broken };
    first = λ other g broken. elim (kind_of other) [
      | inl a ↦ elim (cases_lt g f) [
        | inl small ↦ absurd (form_broken other g a.number broken (found.before g small))
        | inr over ↦ let x = a.turn d g in omega (arith, x, over)
      ]
      | inr a ↦ let x = a.turn d g in let low = found.inside in omega (arith, x, low)
    ];
  }

  -- of a frame behind frames that keep all
  pub first_in_turn : (f number : ℕ) → HasForms d lines → KeepsBefore d lines f → (found : IsFirstInFrame d lines f number) → IsFirstBroken d lines found.rule f
  first_in_turn f number forms kept found = record {
    broken = found.broken;
    first = λ other g broken. elim (kind_of other) [
      | inl a ↦ absurd (form_broken other g a.number broken (forms g broken.inside))
      | inr a ↦ elim (kind_of found.rule) [
        | inl b ↦ let one = b.number in let two = found.behind in absurd (omega (arith, one, two))
        | inr b ↦
            let x = a.turn d g in
            let y = b.turn d f in
            elim (cases_lt g f) [
              | inl small ↦ absurd (frame_keeps g (kept g small) other a.from broken)
              | inr over ↦ elim (cases_lt f g) [
                | inl past ↦ let most = b.to in let least = a.from in omega (arith, x, y, past, most, least)
                | inr under ↦
                    let e : g ≡ f = omega (arith, over, under) in
                    elim (cases_lt (number_of other) (number_of found.rule)) [
                      | inl less ↦
                          let here : Breaks other d lines f = subst (Breaks other d lines) e broken in
                          absurd (here.broken (found.before other a.from less here.asked))
                      | inr more ↦ omega (arith, x, y, e, more)
                    ]
              ]
            ]
      ]
    ];
  }

  -- where all forms and frames are kept, the headline holds
  pub headline : HasForms d lines → KeepsBefore d lines d.frames → ReportHeadline d lines
  headline forms kept = record {
    form = forms;
    same_configuration = λ f low. (kept f low).same_configuration;
    frames = λ f low. (kept f low).frame;
    true_margin = λ f low. (kept f low).true_margin;
  }

  -- ---- what a test tells

  -- a rule that is asked, and whose test fails, is broken
  pub breaks : (f : ℕ) (rule : Rule) → f < d.frames → IsAsked rule d lines f → (r : Bool) → ((r ≡ true) ↔ Keeps rule d lines f) → r ≡ false → Breaks rule d lines f
  breaks f rule inside asked r decides fails = record { inside = inside; asked = asked; broken = λ keeps. (let t = decides.1 keeps in absurd cc) }

  -- so is one that is asked only where a flag is up
  pub breaks_if : (f : ℕ) (rule : Rule) → f < d.frames → (flag : Bool) → ((flag ≡ true) ↔ IsAsked rule d lines f) → (r : Bool)
      → ((r ≡ true) ↔ KeepsIfAsked d lines f rule) → r ≡ false → Breaks rule d lines f
  breaks_if f rule inside true asks r decides fails = record {
    inside = inside;
    asked = asks.0 refl;
    broken = λ keeps. (let t = decides.1 (λ asked. keeps) in absurd cc);
  }
  breaks_if f rule inside false asks r decides fails = (let t = decides.1 (λ asked. (let up = asks.1 asked in absurd cc)) in absurd cc)

  -- the rules of a frame with margin, and that before them, are all below the last
  pub seven_kept : (f : ℕ) → KeepsIfAsked d lines f same_configuration → (HasMarginTold d lines f → FrameHeadline d lines f) → KeepsBelow d lines f 8
  seven_kept f two frame form behind low asked = absurd (omega (arith, behind))
  seven_kept f two frame same_configuration behind low asked = two asked
  seven_kept f two frame same_inputs behind low asked = (frame asked).same_inputs
  seven_kept f two frame ideal_outputs behind low asked = (frame asked).ideal_outputs
  seven_kept f two frame no_false_accusation behind low asked = (frame asked).no_false_accusation
  seven_kept f two frame exact_removal behind low asked = (frame asked).exact_removal
  seven_kept f two frame clock_skew behind low asked = (frame asked).clock_skew
  seven_kept f two frame true_margin behind low asked = absurd (omega (arith, low))
