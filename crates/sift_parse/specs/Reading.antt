-- Reading of expressions by recursion, as the parser goes: the tree that begins at the tokens and the tokens after it, or the tokens from the first one on that offends. No public clause cites this module.
use Rattle.std.specs.Prelude.{ℕ, zero, suc, ◌==◌, if◌then◌else◌, List, [], ◌∷◌}
use Rattle.sift_lang.specs.declared.tree.Op.TheVariants.{Sub}
use Rattle.sift_lang.specs.Tree.{Term, number, local, sense, this_frame, last_frame, minus, binary, middle}
use Rattle.sift_parse.specs.declared.token.Keyword.TheVariants.{Mid, Sense, Now, Last}
use Rattle.sift_parse.specs.declared.token.Sign as signs
use Rattle.sift_parse.specs.declared.token.Sign.TheVariants.{Assign, OpenParen, CloseParen, OpenBrace, CloseBrace, Comma, Dot, Semicolon}
use Rattle.sift_parse.specs.declared.token.Token.{Token}
use Rattle.sift_parse.specs.declared.token.Token.TheVariants.{Keyword, Name, Number, Index, Operator, Sign}
use Rattle.sift_parse.specs.Grammar.{level_of, prim_level}

-- what was read and the tokens after it, or the tokens from the offending one on
pub data Outcome (A : Type 0) : Type 0 where
  found : A → List Token → Outcome A
  fault : List Token → Outcome A

-- goes on with what was read
abbrev pub and_then : {A B : Type 0} → Outcome A → (A → List Token → Outcome B) → Outcome B
and_then (found a rest) f = f a rest
and_then (fault bad) f = fault bad

-- the number of a sign, in the order of the language's list
abbrev pub number_of : signs.Sign → ℕ
number_of Assign = 0
number_of OpenParen = 1
number_of CloseParen = 2
number_of OpenBrace = 3
number_of CloseBrace = 4
number_of Comma = 5
number_of Dot = 6
number_of Semicolon = 7

-- the sign
abbrev pub read_sign : signs.Sign → List Token → Outcome (Unit {0})
read_sign s [] = fault []
read_sign s (Sign u ∷ ts) = if number_of s == number_of u then found tt ts else fault (Sign u ∷ ts)
read_sign s ts = fault ts

-- a name
abbrev pub read_name : List Token → Outcome ℕ
read_name (Name n ∷ ts) = found n ts
read_name ts = fault ts

-- a number
abbrev pub read_number : List Token → Outcome ℕ
read_number (Number n ∷ ts) = found n ts
read_number ts = fault ts

-- the number of a word
abbrev pub read_index : List Token → Outcome ℕ
read_index (Index n ∷ ts) = found n ts
read_index ts = fault ts

-- a task's word: a name, a dot and a number
abbrev pub read_word : List Token → Outcome ℕ
read_word ts = and_then (read_name ts) (λ task us. and_then (read_sign Dot us) (λ _ vs. read_index vs))

-- what this reader reads, and the sign after it
abbrev pub closed_by : {A : Type 0} → signs.Sign → (List Token → Outcome A) → List Token → Outcome A
closed_by s reader ts = and_then (reader ts) (λ a us. and_then (read_sign s us) (λ _ vs. found a vs))

-- ---- expressions

-- three expressions in parentheses
abbrev pub middle_by : (List Token → Outcome Term) → List Token → Outcome Term
middle_by expr ts = and_then (read_sign OpenParen ts) (λ _ us. and_then (closed_by Comma expr us) (λ t vs. and_then (closed_by Comma expr vs) (λ u ws. and_then (closed_by CloseParen expr ws) (λ v rest. found (middle t u v) rest))))

-- a prim that begins with this token
abbrev pub prim_from : (List Token → Outcome Term) → (List Token → Outcome Term) → Token → List Token → Outcome Term
prim_from prim expr (Number n) ts = found (number n) ts
prim_from prim expr (Name l) ts = found (local l) ts
prim_from prim expr (Operator Sub) ts = and_then (prim ts) (λ t rest. found (minus t) rest)
prim_from prim expr (Sign OpenParen) ts = closed_by CloseParen expr ts
prim_from prim expr (Keyword Mid) ts = middle_by expr ts
prim_from prim expr (Keyword Sense) ts = and_then (read_name ts) (λ x rest. found (sense x) rest)
prim_from prim expr (Keyword Now) ts = and_then (read_word ts) (λ w rest. found (this_frame w) rest)
prim_from prim expr (Keyword Last) ts = and_then (read_word ts) (λ w rest. found (last_frame w) rest)
prim_from prim expr t ts = fault (t ∷ ts)

-- a prim, with the readers of a prim and of an expression inside it
abbrev pub prim_by : (List Token → Outcome Term) → (List Token → Outcome Term) → List Token → Outcome Term
prim_by prim expr [] = fault []
prim_by prim expr (t ∷ ts) = prim_from prim expr t ts

-- goes on with the operators of this level, of which level 0 has one at most
abbrev pub go_on : ℕ → (Term → List Token → Outcome Term) → Term → List Token → Outcome Term
go_on zero go x ts = found x ts
go_on (suc n) go x ts = go x ts

-- what x and the operators of level n after it are, from this token on
abbrev pub tail_from : ℕ → (List Token → Outcome Term) → (Term → List Token → Outcome Term) → Term → Token → List Token → Outcome Term
tail_from n operand go x (Operator op) ts = if level_of op == n then and_then (operand ts) (λ y rest. go_on n go (binary op x y) rest) else found x (Operator op ∷ ts)
tail_from n operand go x t ts = found x (t ∷ ts)

-- what x and the operators of level n after it are
abbrev pub tail_by : ℕ → (List Token → Outcome Term) → (Term → List Token → Outcome Term) → Term → List Token → Outcome Term
tail_by n operand go x [] = found x []
tail_by n operand go x (t ∷ ts) = tail_from n operand go x t ts

unfoldable mutual
  -- an expression of level n; the first number bounds the calls
  pub read : ℕ → ℕ → List Token → Outcome Term
  read zero n ts = fault ts
  read (suc fuel) n ts = if n == prim_level then prim_by (read fuel prim_level) (read fuel 0) ts else and_then (read fuel (suc n) ts) (tail fuel n)

  -- what x and the operators of level n after it are
  pub tail : ℕ → ℕ → Term → List Token → Outcome Term
  tail zero n x ts = found x ts
  tail (suc fuel) n x ts = tail_by n (read fuel (suc n)) (tail fuel n) x ts
