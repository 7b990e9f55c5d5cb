-- Lists with commas, and texts of numbers.
use Rattle.std.proofs.Common.{◌≡◌, ℕ, ◌+◌, List, [], ◌∷◌, ◌++◌, length, map, true, false, Result, Ok, Err, refl, sym, arith}
use Rattle.std.specs.Bool.{◌==◌, if◌then◌else◌}
use Rattle.std.specs.Result.{is_ok, OnOk}
use Rattle.std.proofs.lemmas.Bool.{eqb-true}
use Rattle.std.proofs.lemmas.List.{append-nil}
use Rattle.sift_line.specs.Part.{list_text, word_text}
use Rattle.sift_byz.specs.Text.{words_text}
use Rattle.sift_byz.proofs.Testing.{not_both}

-- a text is written where that is answered
pub written : {T E : Type 0} (r : Result T E) (now new old : List ℕ) → now ≡ (if is_ok r then new else old) → OnOk r (now ≡ new)
written (Ok x) now new old is = is
written (Err e) now new old is = tt

-- no words have an empty text
pub no_words : (text words : List ℕ) → (length words == 0) ≡ true → text ≡ text ++ words_text words
no_words text [] none = sym (append-nil text)
no_words text (w ∷ ws) none = absurd (omega (arith, eqb-true (length (w ∷ ws)) 0 none))

-- and the text of some words is that of their list
pub some_words : (words : List ℕ) → (length words == 0) ≡ false → list_text (map word_text words) ≡ words_text words
some_words [] some = absurd (not_both refl some)
some_words (w ∷ ws) some = refl
