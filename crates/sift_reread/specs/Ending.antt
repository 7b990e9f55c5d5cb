-- The exit status of each ending.
use Rattle.std.specs.Prelude.{ℕ}
use Rattle.sift_reread.specs.declared.ending.Ending.{Ending}
use Rattle.sift_reread.specs.declared.ending.Ending.TheVariants.{Reread, NoLine, NoText, TooLong, ReadFault, WriteFault, NoMemory}

-- the status of a report that was read back
abbrev pub reread_status : ℕ
reread_status = 0

-- the status where a line is none
abbrev pub no_line_status : ℕ
no_line_status = 1

-- the status where the program gave up
abbrev pub gave_up_status : ℕ
gave_up_status = 2

-- which ending has which
abbrev pub status_of : Ending → ℕ
status_of Reread = reread_status
status_of NoLine = no_line_status
status_of NoText = gave_up_status
status_of TooLong = gave_up_status
status_of ReadFault = gave_up_status
status_of WriteFault = gave_up_status
status_of NoMemory = gave_up_status
