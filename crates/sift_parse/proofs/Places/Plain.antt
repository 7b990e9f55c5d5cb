-- Lexemes inside a `let`, and where a `let` stands.
use Rattle.std.proofs.Common.{◌≡◌, ℕ, Bool, true, false, if◌then◌else◌, List, [], ◌∷◌, ◌++◌, length, refl, sym, ap, ◌∙◌, subst, append_assoc}
use Rattle.sift_parse.specs.declared.token.Sign.TheVariants.{OpenBrace, CloseBrace, Semicolon}
use Rattle.sift_parse.specs.Lexeme.{Lexeme, word, mark}
use Rattle.sift_parse.specs.Levels.{ends, local_by, living}
use Rattle.sift_parse.proofs.Places.Seen.{is_let, Balanced, balanced-append, Settled}

-- ---- lexemes inside a `let`

-- the lexeme may stand inside a `let`: it is no `let`, no brace and no `;`
abbrev pub IsPlain : Lexeme → Type 0
IsPlain (word w) = is_let (word w) ≡ false
IsPlain (mark OpenBrace) = ⊥
IsPlain (mark CloseBrace) = ⊥
IsPlain (mark Semicolon) = ⊥
IsPlain l = Unit {0}

-- each of the lexemes may stand inside a `let`
abbrev pub Plain : List Lexeme → Type 0
Plain [] = Unit {0}
Plain (l ∷ ls) = IsPlain l × Plain ls

-- lexemes that may stand inside a `let`, and one more that may, may all stand there
pub plain-append : (b : List Lexeme) (l : Lexeme) → Plain b → IsPlain l → Plain (b ++ l ∷ [])
plain-append [] l h k = (k, tt)
plain-append (m ∷ b) l h k = (h.0, plain-append b l h.1 k)

plain-no-let : (l : Lexeme) → IsPlain l → is_let l ≡ false
plain-no-let (word w) h = h
plain-no-let l h = refl

-- lexemes that may stand inside a `let` close what blocks they open, and no more
pub plain-leaves : (b : List Lexeme) → Plain b → Balanced b
plain-leaves [] h n d = refl
plain-leaves (mark OpenBrace ∷ b) h n d = absurd h.0
plain-leaves (mark CloseBrace ∷ b) h n d = absurd h.0
plain-leaves (mark Semicolon ∷ b) h n d = absurd h.0
plain-leaves (l ∷ b) h n d = plain-leaves b h.1 n d

-- lexemes that may stand inside a `let` don't end its statement
pub plain-goes-on : (b : List Lexeme) → Plain b → ends b ≡ false
plain-goes-on [] h = refl
plain-goes-on (mark Semicolon ∷ b) h = absurd h.0
plain-goes-on (l ∷ b) h = plain-goes-on b h.1

-- a `;` after lexemes that may stand inside a `let` ends the statement
pub plain-ends : (b : List Lexeme) → Plain b → ends (b ++ mark Semicolon ∷ []) ≡ true
plain-ends [] h = refl
plain-ends (mark Semicolon ∷ b) h = refl
plain-ends (l ∷ b) h = plain-ends b h.1

no-local : (b : Bool) (ls : List Lexeme) (xs : List (List ℕ)) → b ≡ false → xs ≡ [] → xs ++ (if b then local_by ls else []) ≡ []
no-local true ls xs h e = absurd (let g : true ≡ false = h in cc)
no-local false ls xs h e = ap (λ xs. xs ++ []) e

-- no local lives after lexemes that may stand inside a `let`, and others that make none live
pub plain-living : (b d : List Lexeme) → Plain b → living d ≡ [] → living (b ++ d) ≡ []
plain-living [] d h e = e
plain-living (l ∷ b) d h e = no-local (is_let l) (b ++ d) (living (b ++ d)) (plain-no-let l h.0) (plain-living b d h.1 e)

-- where a `let` stands before these lexemes, a word is the first of them and a `;` is among the others: its statement is over
abbrev pub LetOf : Bool → List Lexeme → Type 0
LetOf b ls = Rattle.sift_parse.proofs.Places.Seen.SettledLet b ls

-- where the `let` statements among lexemes are over, they are so with plain lexemes before them
pub plain-settled : (b d : List Lexeme) → Plain b → Settled d → Settled (b ++ d)
plain-settled [] d h k = k
plain-settled (l ∷ b) d h k = (subst (λ x. LetOf x (b ++ d)) (sym (plain-no-let l h.0)) tt, plain-settled b d h.1 k)

-- ---- where a `let` stands

pub data Phase : Type 0 where
  still : Phase
  let_read : Phase
  bound : List ℕ → Phase

pub record JustLet (ls : List Lexeme) : Type 0 where
  pub key : List ℕ
  pub is : ls ≡ word key ∷ []
  pub is_key : is_let (word key) ≡ true

pub record IsBound (ls : List Lexeme) (w : List ℕ) : Type 0 where
  pub key : List ℕ
  pub inside : List Lexeme
  pub is : ls ≡ word key ∷ word w ∷ inside
  pub is_key : is_let (word key) ≡ true
  pub is_name : is_let (word w) ≡ false
  pub plain : Plain inside

-- the lexemes are those of a `let` that has come so far: none, its keyword alone, or its keyword, its name and plain ones
abbrev pub Hangs : List Lexeme → Phase → Type 0
Hangs ls still = ls ≡ []
Hangs ls let_read = JustLet ls
Hangs ls (bound w) = IsBound ls w

-- the blocks that are open, with how many locals lived at each `{`
pub data Nest : List Lexeme → List ℕ → Type 0 where
  outside : (front : List Lexeme) → Nest front []
  inside : (front a c : List Lexeme) (n : ℕ) (ns : List ℕ) → front ≡ a ++ mark OpenBrace ∷ c → n ≡ length (living a) → Settled a
      → Balanced c → Nest a ns → Nest front (n ∷ ns)

-- the same blocks are open after balanced lexemes at the end, with as many locals at each `{`
pub nest-append : (front d : List Lexeme) (ns : List ℕ) → Balanced d → Nest front ns → Nest (front ++ d) ns
nest-append front d ns h (outside f) = outside (front ++ d)
nest-append front d ns h (inside f a c n ms e k s b x) =
    inside (front ++ d) a (c ++ d) n ms (ap (λ l. l ++ d) e ∙ append_assoc a (mark OpenBrace ∷ c) d) k s (balanced-append c d b h) x

pub record J (front : List Lexeme) (locals : List (List ℕ)) (blocks : List ℕ) (p : Phase) : Type 0 where
  pub base : List Lexeme
  pub rest : List Lexeme
  pub split : front ≡ base ++ rest
  pub settled : Settled base
  pub lives : locals ≡ living base
  pub nest : Nest base blocks
  pub hangs : Hangs rest p
