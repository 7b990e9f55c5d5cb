-- What is known of tokens read one by one: where a `let` stands, and that a `}` closes a block.
use Rattle.std.proofs.Common.{◌≡◌, Bool, true, false, Some, List, [], ◌∷◌}
use Rattle.sift_lang.specs.declared.tree.Op.{Op}
use Rattle.sift_lang.specs.declared.tree.Op.TheVariants.{Sub}
use Rattle.sift_parse.specs.declared.token.Keyword.TheVariants.{Let}
use Rattle.sift_parse.specs.declared.token.Sign as signs
use Rattle.sift_parse.specs.declared.token.Sign.TheVariants.{OpenParen, CloseParen, OpenBrace, CloseBrace, Semicolon}
use Rattle.sift_parse.specs.declared.token.Token.{Token}
use Rattle.sift_parse.specs.declared.token.Token.TheVariants.{Keyword, Name, Number, Index, Operator, Sign}
use Rattle.sift_parse.specs.Force.{Role, new_local, a_sensor, a_task, old_local, role_after}

-- a level that is open
pub data Open : Type 0 where
  brace : Open
  paren : Open
  minus : Open

-- what is known of the tokens before a place
pub record State : Type 0 where
  pub levels : List Open
  -- the name of a `let` was read, and its statement isn't over
  pub bound : Bool
  pub role : Role
  pub operand : Bool

-- the levels without the minuses of a prim that ends
abbrev pub bare : List Open → List Open
bare (minus ∷ ls) = bare ls
bare ls = ls

-- the levels without the innermost one
abbrev pub tail_of : List Open → List Open
tail_of [] = []
tail_of (l ∷ ls) = ls

-- before an operand or a statement, and after an operand
abbrev pub start : List Open → Bool → State
start ls b = record { levels = ls; bound = b; role = old_local; operand = false }

-- what is known after an operand: a `-` that follows is no minus before a prim
abbrev pub done : List Open → Bool → State
done ls b = record { levels = ls; bound = b; role = old_local; operand = true }

-- what is known after a name: with a new local a `let` is bound, with a sensor or an old local a prim ends, and with a task no level changes
abbrev pub next_name : Role → State → State
next_name new_local s = done s.levels true
next_name a_task s = done s.levels s.bound
next_name a_sensor s = done (bare s.levels) s.bound
next_name old_local s = done (bare s.levels) s.bound

-- what is known after an operator: a `-` where no operand ends before it is a minus, and opens a level
abbrev pub next_operator : Bool → Op → State → State
next_operator false Sub s = start (minus ∷ s.levels) s.bound
next_operator _ op s = start s.levels s.bound

abbrev pub next_sign : signs.Sign → State → State
next_sign OpenParen s = start (paren ∷ s.levels) s.bound
next_sign CloseParen s = done (bare (tail_of s.levels)) s.bound
next_sign OpenBrace s = start (brace ∷ s.levels) s.bound
next_sign CloseBrace s = start (tail_of s.levels) s.bound
next_sign Semicolon s = start s.levels false
next_sign _ s = start s.levels s.bound

-- what is known once this token is read too
abbrev pub next : State → Token → State
next s (Keyword k) = record { levels = s.levels; bound = s.bound; role = role_after (Some k); operand = false }
next s (Name n) = next_name s.role s
next s (Number n) = done (bare s.levels) s.bound
next s (Index n) = done (bare s.levels) s.bound
next s (Operator op) = next_operator s.operand op s
next s (Sign x) = next_sign x s

-- a block is innermost
abbrev pub InBlock : List Open → Type 0
InBlock (brace ∷ ls) = Unit {0}
InBlock _ = ⊥

-- blocks alone are open
abbrev pub OnlyBraces : List Open → Type 0
OnlyBraces [] = Unit {0}
OnlyBraces (brace ∷ ls) = OnlyBraces ls
OnlyBraces _ = ⊥

-- a parenthesis is innermost
abbrev pub InParen : List Open → Type 0
InParen (paren ∷ ls) = Unit {0}
InParen _ = ⊥

-- the token may stand here: no `let`, no brace inside a `let`, a name after the keyword, and a `}` at the end of a block
abbrev pub OkHere : State → Token → Type 0
OkHere s (Keyword Let) = s.bound ≡ false
OkHere s (Sign CloseParen) = InParen s.levels
OkHere s (Sign OpenBrace) = (s.bound ≡ false) × OnlyBraces s.levels
OkHere s (Sign CloseBrace) = (s.bound ≡ false) × InBlock s.levels
OkHere s _ = Unit {0}

-- the token may stand behind the keyword `let`: it is a name, no other `let` is bound, and blocks alone are open
abbrev pub OkLet : State → Token → Type 0
OkLet s (Name n) = (s.bound ≡ false) × OnlyBraces s.levels
OkLet s _ = ⊥

-- the token may stand where a name has this role: behind the keyword `let` as its name, and elsewhere as it may stand here
abbrev pub Ok : Role → State → Token → Type 0
Ok new_local s t = OkLet s t
Ok a_sensor s t = OkHere s t
Ok a_task s t = OkHere s t
Ok old_local s t = OkHere s t

-- each token may stand where it does
abbrev pub Tidy : State → List Token → Type 0
Tidy s [] = Unit {0}
Tidy s (t ∷ ts) = Ok s.role s t × Tidy (next s t) ts
