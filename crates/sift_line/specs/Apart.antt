-- Words and catches have neither commas nor dashes, so a list of them comes apart again.
use Rattle.std.proofs.Common.{ℕ, ◌<◌, Bool, true, false, arith}
use Rattle.std.specs.Fmt.{digit_glyph}
use Rattle.std.proofs.lemmas.Bool.Decides.{nat_tests}
use Rattle.sift_line.specs.Bad.{catch_text, kinds_text}
use Rattle.sift_line.specs.declared.catch.Catch.{Catch}
use Rattle.sift_line.specs.Part.{IsAbove, dash, word_text}

-- a digit is above the dash
digit_above : (d : ℕ) → 45 < digit_glyph false d
digit_above d = grind (arith, nat_tests)

-- and so is each byte of a word
pub word_above : (w : ℕ) → IsAbove dash (word_text w)
word_above w = (digit_above _, (digit_above _, (digit_above _, (digit_above _, tt))))

-- the letters of ways are above it
letters_above : (poll relay clock : Bool) → IsAbove dash (kinds_text (record { poll = poll; relay = relay; clock = clock }))
letters_above true true true = (omega arith, (omega arith, (omega arith, tt)))
letters_above true true false = (omega arith, (omega arith, tt))
letters_above true false true = (omega arith, (omega arith, tt))
letters_above true false false = (omega arith, tt)
letters_above false true true = (omega arith, (omega arith, tt))
letters_above false true false = (omega arith, tt)
letters_above false false true = (omega arith, tt)
letters_above false false false = tt

-- and so is a unit's digit before them
pub catch_above : (c : Catch) → IsAbove dash (catch_text c)
catch_above c = (omega arith, letters_above c.kinds.poll c.kinds.relay c.kinds.clock)
