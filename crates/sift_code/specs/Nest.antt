-- How code is kept with its loops. No public clause cites this module.
use Rattle.std.specs.Prelude.{◌≡◌, ℕ, ◌+◌, ◌<◌, ◌≤◌, ◌^◌, List, length, Option, Some, None, map, drop, slice_index_or}
use Rattle.sift_code.specs.declared.instr.Instr.{Instr}
use Rattle.sift_code.specs.declared.instr.Source.{Source}
use Rattle.sift_code.specs.Machine.{through_end}
use Rattle.sift_code.specs.Sources.{source_of}
use Rattle.sift_code.specs.Enclosing.{enclosing, innermost}

-- the place so many on
abbrev pub onward : ℕ → Option ℕ → Option ℕ
onward p None = None
onward p (Some n) = Some (p + n)

-- the place behind the End that closes the loop which is open before a place
abbrev pub past_at : List Instr → ℕ → Option ℕ
past_at code p = onward p (through_end 0 (drop p code))

-- the start of the innermost loop that encloses a place
abbrev pub start_at : List Instr → ℕ → Option ℕ
start_at code p = innermost (enclosing code p)

-- the table has the place behind the End for each place and the code's length
pub record ArePasts (code : List Instr) (pasts : List (Option ℕ)) : Type 0 where
  pub long : length pasts ≡ length code + 1
  pub entries : (p : ℕ) → p ≤ length code → slice_index_or pasts p None ≡ past_at code p

-- the table has the start of the innermost loop for each place and the code's length
pub record AreStarts (code : List Instr) (starts : List (Option ℕ)) : Type 0 where
  pub long : length starts ≡ length code + 1
  pub entries : (p : ℕ) → p ≤ length code → slice_index_or starts p None ≡ start_at code p

-- code of a length that a place fits, and its three tables
pub record IsNest (code : List Instr) (sources : List Source) (starts pasts : List (Option ℕ)) : Type 0 where
  pub short : length code < 2 ^ 32
  pub starts_tell : AreStarts code starts
  pub pasts_tell : ArePasts code pasts
  pub sources_tell : sources ≡ map source_of code
