-- The operator or sign at the front of what is printed.
use Rattle.std.proofs.Common.{◌≡◌, ℕ, ◌<◌, ◌≤◌, Bool, true, false, inl, inr, List, [], ◌∷◌, ◌++◌, length, refl, sym, ap, arith}
use Rattle.sift_lang.specs.declared.tree.Op.{Op}
use Rattle.sift_lang.specs.declared.tree.Op.TheVariants.{Sub, Shl, Shr, Eq}
use Rattle.sift_parse.specs.declared.token.Sign.{Sign}
use Rattle.sift_parse.specs.declared.token.Sign.TheVariants.{Assign, OpenBrace, CloseBrace}
use Rattle.sift_parse.specs.Lexeme.{Lexeme, word, numeral, operator, mark, operator_bytes, sign_bytes, IsLexeme}
use Rattle.sift_parse.specs.Pieces.{lexeme_for, printed, Piece, blank_if, text_of}
use Rattle.sift_parse.specs.Written.{SpellsSign}
use Rattle.sift_parse.proofs.Lexing.Ends.{Ends}
use Rattle.sift_parse.proofs.Lexing.Front.{IsAlone, sign-front}
use Rattle.sift_parse.proofs.Lexing.Fronts.{NoWord, sign-lexeme}
use Rattle.sift_parse.proofs.Lexing.OneLexeme.{operator-no_word, mark-no_word}
use Rattle.sift_parse.proofs.Printing.Spacing.{MayStandAfter, MayFollow}

-- a blank ends a word, a number and a sign
pub blank-ends : Ends 32
blank-ends = inl (omega arith)

-- no sign of two bytes begins with a byte below 60
low-alone : (c : ℕ) (next : List ℕ) → c < 60 → IsAlone c next
low-alone c [] low = tt
low-alone c (b ∷ next) low = inl low

-- a byte is alone before a lexeme that may follow it, where it is low if no blank stands between
alone-before : (l : Lexeme) (c : ℕ) (blank : Bool) (next : Lexeme) (rest : List ℕ) → MayStandAfter l blank next
    → (MayStandAfter l false next → c < 60) → IsAlone c (blank_if blank (printed next ++ rest))
alone-before l c true next rest follow low = inr blank-ends
alone-before l c false next rest follow low = low-alone c (printed next ++ rest) (low follow)

-- and so before the pieces that may follow it
alone-front : (l : Lexeme) (c : ℕ) (ps : List Piece) → MayFollow l ps → ((next : Lexeme) → MayStandAfter l false next → c < 60)
    → IsAlone c (text_of ps)
alone-front l c [] follow low = tt
alone-front l c (p ∷ ps) follow low =
    alone-before l c p.blank (lexeme_for p.item) (text_of ps) follow (low (lexeme_for p.item))

-- one byte is no more than two
one : (front : List ℕ) (c : ℕ) → front ≡ c ∷ [] → length front ≤ 2
one front c e = let n : length front ≡ 1 = ap length e in omega arith

-- two bytes are no more than two
two : (front : List ℕ) (c d : ℕ) → front ≡ c ∷ d ∷ [] → length front ≤ 2
two front c d e = let n : length front ≡ 2 = ap length e in omega arith

-- no operator and no sign has more than two bytes
sign-short : (l : Lexeme) (bytes : List ℕ) → SpellsSign l bytes → length bytes ≤ 2
sign-short (word w) b h = absurd h
sign-short (numeral n) b h = absurd h
sign-short (operator Shl) b h = two b _ _ h
sign-short (operator Shr) b h = two b _ _ h
sign-short (operator Eq) b h = two b _ _ h
sign-short (operator op) b h = one b _ h
sign-short (mark Assign) b h = one b _ h
sign-short (mark s) b h = one b _ h

-- an operator of two bytes, whatever follows
pair-front : (op : Op) (c d : ℕ) (next : List ℕ) → operator_bytes op ≡ c ∷ d ∷ [] → NoWord (c ∷ [])
    → IsLexeme (c ∷ d ∷ next) (operator op) next
pair-front op c d next spells none = (sign-lexeme (c ∷ d ∷ next) (operator op) 2 none (record {
  some = omega arith;
  within = omega arith;
  spells = sym spells;
  longest = λ other front back e s. sign-short other front s;
})).lexeme

-- an operator or a sign of one byte, before what may follow it
single-front : (l : Lexeme) (c : ℕ) (ps : List Piece) → MayFollow l ps → ((next : Lexeme) → MayStandAfter l false next → c < 60)
    → SpellsSign l (c ∷ []) → NoWord (c ∷ []) → IsLexeme (c ∷ text_of ps) l (text_of ps)
single-front l c ps follow low spells none = sign-front l c (text_of ps) spells none (alone-front l c ps follow low)

-- an operator is the first lexeme before what may follow it
pub operator-printed : (op : Op) (ps : List Piece) → MayFollow (operator op) ps
    → IsLexeme (operator_bytes op ++ text_of ps) (operator op) (text_of ps)
operator-printed Shl ps follow = pair-front Shl _ _ (text_of ps) refl (operator-no_word Shl)
operator-printed Shr ps follow = pair-front Shr _ _ (text_of ps) refl (operator-no_word Shr)
operator-printed Eq ps follow = pair-front Eq _ _ (text_of ps) refl (operator-no_word Eq)
operator-printed Sub ps follow = single-front (operator Sub) _ ps follow (λ next e. omega arith) refl (operator-no_word Sub)
operator-printed op ps follow = single-front (operator op) _ ps follow (λ next e. cc) refl (operator-no_word op)

-- a sign is the first lexeme before what may follow it
pub sign-printed : (s : Sign) (ps : List Piece) → MayFollow (mark s) ps → IsLexeme (sign_bytes s ++ text_of ps) (mark s) (text_of ps)
sign-printed Assign ps follow = single-front (mark Assign) _ ps follow (λ next e. absurd e) refl (mark-no_word Assign)
sign-printed OpenBrace ps follow = single-front (mark OpenBrace) _ ps follow (λ next e. absurd e) refl (mark-no_word OpenBrace)
sign-printed CloseBrace ps follow = single-front (mark CloseBrace) _ ps follow (λ next e. absurd e) refl (mark-no_word CloseBrace)
sign-printed s ps follow = single-front (mark s) _ ps follow (λ next e. omega arith) refl (mark-no_word s)
