-- What the parser's functions answer, in the words of the readers. No public clause cites this module.
use Rattle.std.specs.Prelude.{◌≡◌, ℕ, ◌≤◌, Bool, true, false, List, ◌∷◌, Option, Some, None, Result, Ok, Err}
use Rattle.sift_lang.specs.declared.tree.Op.{Op}
use Rattle.sift_parse.specs.declared.token.ReadStop.{ReadStop}
use Rattle.sift_parse.specs.declared.token.ReadStop.TheVariants.{Syntax, NoMemory}
use Rattle.sift_parse.specs.declared.token.Token.{Token}
use Rattle.sift_parse.specs.declared.token.Token.TheVariants.{Keyword, Operator}
use Rattle.sift_parse.specs.declared.token.Keyword.TheVariants.{Else}
use Rattle.sift_parse.specs.Grammar.{level_of}
use Rattle.sift_parse.specs.Reading.{Outcome, found, fault}

-- the outcome is this one, unless memory was wanting
abbrev pub Answers : {A T : Type 0} → (T → A) → Outcome A → Result T ReadStop → List Token → Type 0
Answers view o (Ok value) left = o ≡ found (view value) left
Answers view o (Err Syntax) left = o ≡ fault left
Answers view o (Err NoMemory) left = Unit {0}

-- the reader answers this, from some number of calls on
pub record Settles (A : Type 0) (R : ℕ → List Token → Outcome A) (ts : List Token) (o : Outcome A) : Type 0 where
  pub least : ℕ
  pub from : (fuel : ℕ) → least ≤ fuel → R fuel ts ≡ o

-- the reader answers this, unless memory was wanting
abbrev pub Reading : {A T : Type 0} → (T → A) → (ℕ → List Token → Outcome A) → List Token → Result T ReadStop → List Token → Type 0
Reading {A} view R ts (Ok value) left = Settles A R ts (found (view value) left)
Reading {A} view R ts (Err Syntax) left = Settles A R ts (fault left)
Reading {A} view R ts (Err NoMemory) left = Unit {0}

-- the tokens begin with an operator of this level
abbrev pub HasOperator : ℕ → List Token → Type 0
HasOperator n (Operator op ∷ ts) = level_of op ≡ n
HasOperator n _ = ⊥

-- an operator of the level was taken, or none stands here and nothing was
abbrev pub MatchOperator : ℕ → List Token → Option Op → List Token → Type 0
MatchOperator n ts (Some op) left = (ts ≡ Operator op ∷ left) × (level_of op ≡ n)
MatchOperator n ts None left = (ts ≡ left) × ¬ HasOperator n ts

-- no `else` stands here
abbrev pub NoElse : List Token → Type 0
NoElse (Keyword Else ∷ ts) = ⊥
NoElse _ = Unit {0}

-- an `else` was taken, or none stands here and nothing was
abbrev pub MatchElse : List Token → Bool → List Token → Type 0
MatchElse ts true left = ts ≡ Keyword Else ∷ left
MatchElse ts false left = (ts ≡ left) × NoElse ts
