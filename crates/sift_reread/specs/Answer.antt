-- What the program answers: when each ending comes, and what is written then.
use Rattle.std.specs.Prelude.{codes, ◌≡◌, ◌+◌, ◌<◌, ◌≤◌, ◌++◌, ◌⊎◌, ⊤, ℕ, List, length, Some, IsUtf8}
use Rattle.std.specs.Fmt.{decimal}
use Rattle.std.specs.Io.KnownBytes.{Appends}
use Rattle.sift_io.specs.Flow.{Rose, Inflow, Outflow}
use Rattle.sift_io.specs.Reading.{TakesAll, TakesAtMost, TakesExactly}
use Rattle.sift_io.specs.Writing.{AddsPrefix}
use Rattle.sift_reread.specs.Report.{IsReport, StopsAt}
use Rattle.sift_reread.specs.declared.ending.Ending.{Ending}
use Rattle.sift_reread.specs.declared.ending.Ending.TheVariants.{Reread, NoLine, NoText, TooLong, ReadFault, WriteFault, NoMemory}

-- the most bytes of a report
abbrev pub report_limit : ℕ
report_limit = 16777216

-- what is written of a line that is none
abbrev pub no_line_text : ℕ → List ℕ
no_line_text number = codes "line " ++ (decimal number ++ codes "\n")

-- these bytes are UTF-8 and stop to be a report at the line of this number
abbrev pub IsTextTo : ℕ → List ℕ → Type 0
IsTextTo number bytes = IsUtf8 bytes × StopsAt number bytes

-- this text is due to these bytes: they themselves where they are a report, and else the number of the line at which they stop to be one
abbrev pub IsDue : List ℕ → (text : List ℕ) → Type 0
IsDue bytes text = (IsReport bytes × (text ≡ bytes)) ⊎ ((number : ℕ) × IsTextTo number bytes × (text ≡ no_line_text number))

-- with these endings nothing was written
abbrev pub WritesNothing : Ending → Type 0
WritesNothing Reread = ⊥
WritesNothing NoLine = ⊥
WritesNothing NoText = ⊤
WritesNothing TooLong = ⊤
WritesNothing ReadFault = ⊤
WritesNothing WriteFault = ⊥
WritesNothing NoMemory = ⊤

-- ---- by what was written

module _ (out_before out_after : Outflow) where
  -- nothing was written, and the sink had no fault
  abbrev pub IsUnwritten : Type 0
  IsUnwritten = out_after ≡ out_before

  -- the text was written
  abbrev pub IsWritten : (text : List ℕ) → Type 0
  IsWritten text = Appends out_before.written out_after.written text

  -- the sink had a fault, after a prefix of the text
  abbrev pub IsCut : (text : List ℕ) → Type 0
  IsCut text = Rose out_before.faults out_after.faults × AddsPrefix out_before out_after text

  -- the program ends so where these bytes are the whole input: only for want of memory may it say nothing to a text
  abbrev pub IsAnsweredTo : List ℕ → Ending → Type 0
  IsAnsweredTo bytes Reread = IsReport bytes × IsWritten bytes
  IsAnsweredTo bytes NoLine = (number : ℕ) × IsTextTo number bytes × IsWritten (no_line_text number)
  IsAnsweredTo bytes NoText = ¬ IsUtf8 bytes × IsUnwritten
  IsAnsweredTo bytes TooLong = ⊥
  IsAnsweredTo bytes ReadFault = ⊥
  IsAnsweredTo bytes WriteFault = (text : List ℕ) × IsDue bytes text × IsCut text
  IsAnsweredTo bytes NoMemory = IsUtf8 bytes × IsUnwritten

-- ---- by what was read, too

module _ (in_before in_after : Inflow) (out_before out_after : Outflow) where
  -- the input was read to its end and answered; or a byte past the limit was read, the source had a fault, or memory was
  -- wanting, and nothing was written
  abbrev pub IsAnswered : Ending → Type 0
  IsAnswered ending =
      ((bytes : List ℕ) × TakesAll in_before in_after bytes report_limit × IsAnsweredTo out_before out_after bytes ending)
      ⊎ ((ending ≡ TooLong) × TakesExactly in_before in_after (report_limit + 1) × IsUnwritten out_before out_after)
      ⊎ ((ending ≡ ReadFault) × Rose in_before.faults in_after.faults × TakesAtMost in_before in_after report_limit
      × IsUnwritten out_before out_after)
      ⊎ ((ending ≡ NoMemory) × TakesAtMost in_before in_after report_limit × IsUnwritten out_before out_after)

  -- what is certain, by the bytes of an input that tells them: within the limit they are answered, and past it they are too
  -- many; or the source had a fault, or memory was wanting
  abbrev pub IsCertain : Ending → Type 0
  IsCertain ending = (bytes : List ℕ) → in_before.left ≡ Some bytes →
      ((length bytes ≤ report_limit) × IsAnsweredTo out_before out_after bytes ending)
      ⊎ ((report_limit < length bytes) × (ending ≡ TooLong) × IsUnwritten out_before out_after)
      ⊎ ((ending ≡ ReadFault) × Rose in_before.faults in_after.faults × IsUnwritten out_before out_after)
      ⊎ ((ending ≡ NoMemory) × IsUnwritten out_before out_after)
