-- The levels with their depths, and lexemes that are no bracket.
use Rattle.std.proofs.Common.{◌≡◌, ℕ, zero, suc, true, false, if◌then◌else◌, Option, Some, None, List, [], ◌∷◌, ◌++◌, length, refl, ap, ◌∙◌}
use Rattle.sift_parse.specs.declared.token.Sign.TheVariants.{OpenParen, CloseParen, OpenBrace, CloseBrace}
use Rattle.sift_parse.specs.Lexeme.{Lexeme, mark}
use Rattle.sift_parse.specs.Levels.{ends_prim}
use Rattle.sift_parse.proofs.Places.Tidy.{Open, brace, paren, minus, bare, OnlyBraces}
use Rattle.sift_parse.proofs.Places.Depths.{Entry, step_to, listed, moved}

-- ---- the levels with their depths

-- the levels, with p parentheses and q blocks open inside them
abbrev pub ann : ℕ → ℕ → List Open → List Entry
ann p q [] = []
ann p q (brace ∷ ls) = record { kind = brace; depth = q } ∷ ann p (suc q) ls
ann p q (paren ∷ ls) = record { kind = paren; depth = p } ∷ ann (suc p) q ls
ann p q (minus ∷ ls) = record { kind = minus; depth = p } ∷ ann p q ls

-- there are as many entries as levels, however many parentheses and blocks are open inside them
pub ann-length : (p q : ℕ) (ls : List Open) → length (ann p q ls) ≡ length ls
ann-length p q [] = refl
ann-length p q (brace ∷ ls) = ap suc (ann-length p (suc q) ls)
ann-length p q (paren ∷ ls) = ap suc (ann-length (suc p) q ls)
ann-length p q (minus ∷ ls) = ap suc (ann-length p q ls)

-- no parenthesis and no minus stands outside a block
abbrev pub Layered : List Open → Type 0
Layered [] = Unit {0}
Layered (brace ∷ ls) = OnlyBraces ls
Layered (paren ∷ ls) = Layered ls
Layered (minus ∷ ls) = Layered ls

-- levels with no parenthesis and no minus outside a block are so without the minuses of a prim that ends
pub layered-bare : (ls : List Open) → Layered ls → Layered (bare ls)
layered-bare [] h = h
layered-bare (brace ∷ ls) h = h
layered-bare (paren ∷ ls) h = h
layered-bare (minus ∷ ls) h = layered-bare ls h

-- where blocks alone are open, no parenthesis and no minus stands outside a block
pub layered-braces : (ls : List Open) → OnlyBraces ls → Layered ls
layered-braces [] h = h
layered-braces (brace ∷ ls) h = h
layered-braces (paren ∷ ls) h = absurd h
layered-braces (minus ∷ ls) h = absurd h

-- ---- lexemes that are no bracket

-- the lexeme is no parenthesis and no brace
abbrev pub NoBracket : Lexeme → Type 0
NoBracket (mark OpenParen) = ⊥
NoBracket (mark CloseParen) = ⊥
NoBracket (mark OpenBrace) = ⊥
NoBracket (mark CloseBrace) = ⊥
NoBracket l = Unit {0}

brace-step : (n : ℕ) (b : Option Lexeme) (x : Lexeme) → NoBracket x → step_to brace n b x ≡ Some n
brace-step n b (mark OpenParen) h = absurd h
brace-step n b (mark CloseParen) h = absurd h
brace-step n b (mark OpenBrace) h = absurd h
brace-step n b (mark CloseBrace) h = absurd h
brace-step n b x h = refl

paren-step : (n : ℕ) (b : Option Lexeme) (x : Lexeme) → NoBracket x → step_to paren n b x ≡ Some n
paren-step n b (mark OpenParen) h = absurd h
paren-step n b (mark CloseParen) h = absurd h
paren-step n b (mark OpenBrace) h = absurd h
paren-step n b (mark CloseBrace) h = absurd h
paren-step n b x h = refl

deep-step : (n : ℕ) (b : Option Lexeme) (x : Lexeme) → NoBracket x → step_to minus (suc n) b x ≡ Some (suc n)
deep-step n b (mark OpenParen) h = absurd h
deep-step n b (mark CloseParen) h = absurd h
deep-step n b (mark OpenBrace) h = absurd h
deep-step n b (mark CloseBrace) h = absurd h
deep-step n b x h = refl

flat-step : (b : Option Lexeme) (x : Lexeme) → NoBracket x → step_to minus zero b x ≡ (if ends_prim b x then None else Some zero)
flat-step b (mark OpenParen) h = absurd h
flat-step b (mark CloseParen) h = absurd h
flat-step b (mark OpenBrace) h = absurd h
flat-step b (mark CloseBrace) h = absurd h
flat-step b x h = refl

one-moves : (b : Option Lexeme) (x : Lexeme) (k : Open) (n : ℕ) (es gs : List Entry) → step_to k n b x ≡ Some n → moved b x es ≡ gs
    → moved b x (record { kind = k; depth = n } ∷ es) ≡ record { kind = k; depth = n } ∷ gs
one-moves b x k n es gs e h = ap (λ o. listed k o ++ moved b x es) e ∙ ap (λ es. record { kind = k; depth = n } ∷ es) h

module _ (b : Option Lexeme) (x : Lexeme) (no : NoBracket x) where
  moved-deep : (p q : ℕ) (ls : List Open) → moved b x (ann (suc p) q ls) ≡ ann (suc p) q ls
  moved-deep p q [] = refl
  moved-deep p q (brace ∷ ls) = one-moves b x brace q (ann (suc p) (suc q) ls) (ann (suc p) (suc q) ls) (brace-step q b x no) (moved-deep p (suc q) ls)
  moved-deep p q (paren ∷ ls) =
      one-moves b x paren (suc p) (ann (suc (suc p)) q ls) (ann (suc (suc p)) q ls) (paren-step (suc p) b x no) (moved-deep (suc p) q ls)
  moved-deep p q (minus ∷ ls) = one-moves b x minus (suc p) (ann (suc p) q ls) (ann (suc p) q ls) (deep-step p b x no) (moved-deep p q ls)

  -- where blocks alone are open, a lexeme that is no bracket leaves the levels and their depths as they are
  pub moved-braces : (p q : ℕ) (ls : List Open) → OnlyBraces ls → moved b x (ann p q ls) ≡ ann p q ls
  moved-braces p q [] h = refl
  moved-braces p q (brace ∷ ls) h = one-moves b x brace q (ann p (suc q) ls) (ann p (suc q) ls) (brace-step q b x no) (moved-braces p (suc q) ls h)
  moved-braces p q (paren ∷ ls) h = absurd h
  moved-braces p q (minus ∷ ls) h = absurd h

  -- a lexeme that is no bracket and ends no prim leaves the levels and their depths as they are
  pub moved-quiet : (p q : ℕ) (ls : List Open) → ends_prim b x ≡ false → moved b x (ann p q ls) ≡ ann p q ls
  moved-quiet p q [] e = refl
  moved-quiet p q (brace ∷ ls) e = one-moves b x brace q (ann p (suc q) ls) (ann p (suc q) ls) (brace-step q b x no) (moved-quiet p (suc q) ls e)
  moved-quiet p q (paren ∷ ls) e = one-moves b x paren p (ann (suc p) q ls) (ann (suc p) q ls) (paren-step p b x no) (moved-quiet (suc p) q ls e)
  moved-quiet zero q (minus ∷ ls) e =
      one-moves b x minus zero (ann zero q ls) (ann zero q ls) (flat-step b x no ∙ ap (λ c. if c then None else Some zero) e)
      (moved-quiet zero q ls e)
  moved-quiet (suc p) q (minus ∷ ls) e = one-moves b x minus (suc p) (ann (suc p) q ls) (ann (suc p) q ls) (deep-step p b x no) (moved-quiet (suc p) q ls e)

  -- a lexeme that is no bracket and ends a prim closes the innermost minuses of layered levels, and nothing else
  pub moved-end : (q : ℕ) (ls : List Open) → ends_prim b x ≡ true → Layered ls → moved b x (ann 0 q ls) ≡ ann 0 q (bare ls)
  moved-end q [] e h = refl
  moved-end q (brace ∷ ls) e h = one-moves b x brace q (ann 0 (suc q) ls) (ann 0 (suc q) ls) (brace-step q b x no) (moved-braces 0 (suc q) ls h)
  moved-end q (paren ∷ ls) e h = one-moves b x paren 0 (ann 1 q ls) (ann 1 q ls) (paren-step 0 b x no) (moved-deep 0 q ls)
  moved-end q (minus ∷ ls) e h =
      ap (λ o. listed minus o ++ moved b x (ann 0 q ls)) (flat-step b x no ∙ ap (λ c. if c then None else Some zero) e) ∙ moved-end q ls e h
