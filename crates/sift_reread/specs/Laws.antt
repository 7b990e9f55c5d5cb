-- Laws of reports, and of what the program answers.
use Rattle.std.specs.Prelude.{◌≡◌, ◌<◌, ◌≤◌, ◌⊎◌, ℕ, List, length, Some, IsUtf8}
use Rattle.sift_io.specs.Flow.{Rose, Inflow, Outflow}
use Rattle.sift_reread.specs.Answer.{IsCertain, IsTextTo, IsUnwritten, IsWritten, no_line_text, report_limit}
use Rattle.sift_reread.specs.Report.{IsReport, StopsAt}
use Rattle.sift_reread.specs.declared.ending.Ending.{Ending}
use Rattle.sift_reread.specs.declared.ending.Ending.TheVariants.{Reread, NoLine, NoText, TooLong, ReadFault, WriteFault, NoMemory}

-- a report stops at no line to be one
abbrev pub ReportsStopNowhere : Type 0
ReportsStopNowhere = (text : List ℕ) (number : ℕ) → IsReport text → ¬ StopsAt number text

-- a text stops at one line at most
abbrev pub TextsStopOnce : Type 0
TextsStopOnce = (text : List ℕ) (one other : ℕ) → StopsAt one text → StopsAt other text → one ≡ other

-- a report is UTF-8
abbrev pub ReportsAreTexts : Type 0
ReportsAreTexts = (text : List ℕ) → IsReport text → IsUtf8 text

module _ (in_before in_after : Inflow) (out_before out_after : Outflow) where
  -- a side had a fault, or memory was wanting, and the ending says so
  abbrev pub IsHindered : Ending → Type 0
  IsHindered ending =
      ((ending ≡ ReadFault) × Rose in_before.faults in_after.faults)
      ⊎ ((ending ≡ WriteFault) × Rose out_before.faults out_after.faults)
      ⊎ (ending ≡ NoMemory)

  -- unless it is hindered, the program ends so for these bytes
  pub record IsExplained (bytes : List ℕ) (ending : Ending) : Type 0 where
    -- a report is written again
    pub report : length bytes ≤ report_limit → IsReport bytes → ((ending ≡ Reread) × IsWritten out_before out_after bytes) ⊎ IsHindered ending
    -- of a text that stops to be one the number of that line is written
    pub line : length bytes ≤ report_limit → (number : ℕ) → IsTextTo number bytes
        → ((ending ≡ NoLine) × IsWritten out_before out_after (no_line_text number)) ⊎ IsHindered ending
    -- bytes that are no UTF-8 are said to be none
    pub no_text : length bytes ≤ report_limit → ¬ IsUtf8 bytes → ((ending ≡ NoText) × IsUnwritten out_before out_after) ⊎ IsHindered ending
    -- bytes past the limit are said to be too many
    pub too_long : report_limit < length bytes → ((ending ≡ TooLong) × IsUnwritten out_before out_after) ⊎ IsHindered ending

-- whatever is certain of an input that tells its bytes, its ending is explained
abbrev pub EndingsAreExplained : Type 0
EndingsAreExplained = (in_before in_after : Inflow) (out_before out_after : Outflow) (ending : Ending)
    → IsCertain in_before in_after out_before out_after ending
    → (bytes : List ℕ) → in_before.left ≡ Some bytes → IsExplained in_before in_after out_before out_after bytes ending
