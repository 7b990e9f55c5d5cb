-- Each ending is explained by the bytes of the input.
use Rattle.std.proofs.Common.{◌≡◌, ◌⊎◌, ◌≤◌, ℕ, List, length, Some, IsUtf8, inl, inr, refl, subst, arith, ◌<◌}
use Rattle.sift_io.specs.Flow.{Inflow, Outflow}
use Rattle.sift_reread.specs.Answer.{IsAnsweredTo, IsCertain, IsDue, IsTextTo, IsUnwritten, IsWritten, no_line_text, report_limit}
use Rattle.sift_reread.specs.Laws.{EndingsAreExplained, IsExplained, IsHindered, ReportsAreTexts, ReportsStopNowhere, TextsStopOnce}
use Rattle.sift_reread.specs.Report.{IsReport}
use Rattle.sift_reread.specs.declared.ending.Ending.{Ending}
use Rattle.sift_reread.specs.declared.ending.Ending.TheVariants.{Reread, NoLine, NoText, TooLong, ReadFault, WriteFault, NoMemory}

module _ (nowhere : ReportsStopNowhere) (once : TextsStopOnce) (texts : ReportsAreTexts)
    (in_before in_after : Inflow) (out_before out_after : Outflow) (bytes : List ℕ) where
  abbrev Hindered : Ending → Type 0
  Hindered ending = IsHindered in_before in_after out_before out_after ending

  abbrev AnsweredTo : Ending → Type 0
  AnsweredTo ending = IsAnsweredTo out_before out_after bytes ending

  abbrev Written : List ℕ → Type 0
  Written text = IsWritten out_before out_after text

  -- a report is written again
  of_report : (ending : Ending) → IsReport bytes → AnsweredTo ending → ((ending ≡ Reread) × Written bytes) ⊎ Hindered ending
  of_report Reread report answered = inl (refl, answered.1)
  of_report NoLine report answered = absurd (nowhere bytes answered.0 report answered.1.1)
  of_report NoText report answered = absurd (answered.0 (texts bytes report))
  of_report TooLong report answered = absurd answered
  of_report ReadFault report answered = absurd answered
  of_report WriteFault report answered = inr (inr (inl (refl, answered.2.0)))
  of_report NoMemory report answered = inr (inr (inr refl))

  -- the number of a line that is none is written
  of_line : (ending : Ending) (number : ℕ) → IsTextTo number bytes → AnsweredTo ending
      → ((ending ≡ NoLine) × Written (no_line_text number)) ⊎ Hindered ending
  of_line Reread number text answered = absurd (nowhere bytes number answered.0 text.1)
  of_line NoLine number text answered =
      inl (refl, subst (λ (n : ℕ). Written (no_line_text n)) (once bytes answered.0 number answered.1.1 text.1) answered.2)
  of_line NoText number text answered = absurd (answered.0 text.0)
  of_line TooLong number text answered = absurd answered
  of_line ReadFault number text answered = absurd answered
  of_line WriteFault number text answered = inr (inr (inl (refl, answered.2.0)))
  of_line NoMemory number text answered = inr (inr (inr refl))

  -- bytes of which something is due are UTF-8
  due_is_text : (text : List ℕ) → IsDue bytes text → IsUtf8 bytes
  due_is_text text (inl report) = texts bytes report.0
  due_is_text text (inr line) = line.1.0

  -- bytes that are no UTF-8 are said to be none
  of_no_text : (ending : Ending) → ¬ IsUtf8 bytes → AnsweredTo ending → ((ending ≡ NoText) × IsUnwritten out_before out_after) ⊎ Hindered ending
  of_no_text Reread none answered = absurd (none (texts bytes answered.0))
  of_no_text NoLine none answered = absurd (none answered.1.0)
  of_no_text NoText none answered = inl (refl, answered.1)
  of_no_text TooLong none answered = absurd answered
  of_no_text ReadFault none answered = absurd answered
  of_no_text WriteFault none answered = absurd (none (due_is_text answered.0 answered.1))
  of_no_text NoMemory none answered = absurd (none answered.0)

  -- what was answered within the limit, or a hindrance
  within : (ending : Ending) → in_before.left ≡ Some bytes → IsCertain in_before in_after out_before out_after ending
      → length bytes ≤ report_limit → AnsweredTo ending ⊎ Hindered ending
  within ending told certain fits = elim (certain bytes told) [
    | inl answered ↦ inl answered.1
    | inr (inl long) ↦ absurd (omega (arith, fits, long.0))
    | inr (inr (inl fault)) ↦ inr (inl (fault.0, fault.1))
    | inr (inr (inr wanting)) ↦ inr (inr (inr wanting.0))
  ]

  -- past the limit there are too many
  past : (ending : Ending) → in_before.left ≡ Some bytes → IsCertain in_before in_after out_before out_after ending
      → report_limit < length bytes → ((ending ≡ TooLong) × IsUnwritten out_before out_after) ⊎ Hindered ending
  past ending told certain long = elim (certain bytes told) [
    | inl answered ↦ absurd (omega (arith, long, answered.0))
    | inr (inl is) ↦ inl (is.1, is.2)
    | inr (inr (inl fault)) ↦ inr (inl (fault.0, fault.1))
    | inr (inr (inr wanting)) ↦ inr (inr (inr wanting.0))
  ]

  pub explained : (ending : Ending) → in_before.left ≡ Some bytes → IsCertain in_before in_after out_before out_after ending
      → IsExplained in_before in_after out_before out_after bytes ending
  explained ending told certain = record {
    report = λ fits report. elim (within ending told certain fits) [ inl answered ↦ of_report ending report answered | inr hindered ↦ inr hindered ];
    line = λ fits number text. elim (within ending told certain fits) [ inl answered ↦ of_line ending number text answered | inr hindered ↦ inr hindered ];
    no_text = λ fits none. elim (within ending told certain fits) [ inl answered ↦ of_no_text ending none answered | inr hindered ↦ inr hindered ];
    too_long = λ long. past ending told certain long;
  }

-- whatever is certain of an input that tells its bytes, its ending is explained by them
pub endings_are : ReportsStopNowhere → TextsStopOnce → ReportsAreTexts → EndingsAreExplained
endings_are nowhere once texts in_before in_after out_before out_after ending certain bytes told =
    explained nowhere once texts in_before in_after out_before out_after bytes ending told certain
