-- What is known at a place of printed items, and which tokens they are, by computation: the bytes of names are not looked at.
use Rattle.std.proofs.Common.{ℕ, ◌+◌, Bool, true, false, not, List, [], ◌∷◌, length, drop, Option, Some, None}
use Rattle.sift_lang.specs.declared.tree.Op.{Op}
use Rattle.sift_lang.specs.declared.tree.Op.TheVariants.{Sub}
use Rattle.sift_parse.specs.declared.token.Keyword.{Keyword}
use Rattle.sift_parse.specs.declared.token.Keyword.TheVariants.{Out}
use Rattle.sift_parse.specs.declared.token.Sign.{Sign}
use Rattle.sift_parse.specs.declared.token.Sign.TheVariants.{OpenParen, CloseParen, OpenBrace, CloseBrace, Dot, Semicolon}
use Rattle.sift_parse.specs.declared.token.Token.{Token}
use Rattle.sift_parse.specs.declared.token.Token.TheVariants as token
use Rattle.sift_parse.specs.Force.{Level, block, parenthesis, negation, without_minuses, oldest, Role, new_local, a_sensor, a_task, old_local, role_after}
use Rattle.sift_parse.specs.Pieces.{Item, key, called, figure, joined, sign}
use Rattle.sift_parse.specs.Roll.{Roll, first_word}

-- what stands before a place
pub data Before : Type 0 where
  at_first : Before
  after_key : Keyword → Before
  after_called : Before
  after_figure : Before
  after_joined : Before
  -- after the dot behind the name of this task
  after_dot : ℕ → Before
  after_sign : Sign → Before

-- what is known at a place
pub record Known : Type 0 where
  pub before : Before
  pub levels : List Level
  pub locals : List (List ℕ)
  pub pending : Option (List ℕ)
  -- the task that the last word names
  pub task : Option ℕ

-- at the front of a text
abbrev pub at_front : Known
at_front = record { before = at_first; levels = []; locals = []; pending = None; task = None }

-- the keyword before a place
abbrev pub key_before : Before → Option Keyword
key_before (after_key k) = Some k
key_before _ = None

-- an operand ends there
abbrev pub ends_in : Before → Bool
ends_in after_called = true
ends_in after_figure = true
ends_in (after_sign CloseParen) = true
ends_in _ = false

-- ---- what is known after an item

-- after a name of this role
abbrev pub after_role : Role → List ℕ → ℕ → Known → Known
after_role new_local w n h = record { before = after_called; levels = h.levels; locals = h.locals; pending = Some w; task = None }
after_role a_task w n h = record { before = after_called; levels = h.levels; locals = h.locals; pending = h.pending; task = Some n }
after_role a_sensor w n h = record { before = after_called; levels = without_minuses h.levels; locals = h.locals; pending = h.pending; task = None }
after_role old_local w n h = record { before = after_called; levels = without_minuses h.levels; locals = h.locals; pending = h.pending; task = None }

-- the operator is a minus there
abbrev pub is_minus_after : Before → Op → Bool
is_minus_after b Sub = not (ends_in b)
is_minus_after b _ = false

-- the levels, with one more that is a minus or without
abbrev pub with_minus : Bool → List Level → List Level
with_minus true levels = negation ∷ levels
with_minus false levels = levels

-- after an operator, which is a minus or isn't
abbrev pub after_operator : Bool → Known → Known
after_operator minus h = record { before = after_joined; levels = with_minus minus h.levels; locals = h.locals; pending = h.pending; task = h.task }

-- the levels without the innermost
abbrev pub left_levels : List Level → List Level
left_levels (level ∷ levels) = levels
left_levels [] = []

-- the locals that live after a block
abbrev pub left_locals : List Level → List (List ℕ) → List (List ℕ)
left_locals (block lived ∷ levels) locals = oldest lived locals
left_locals _ locals = locals

-- the locals after the end of a statement
abbrev pub ended_let : Option (List ℕ) → List (List ℕ) → List (List ℕ)
ended_let (Some w) locals = w ∷ locals
ended_let None locals = locals

-- what stands before a place after a sign, where the last word names this task
abbrev pub sign_before : Sign → Option ℕ → Before
sign_before Dot (Some task) = after_dot task
sign_before s task = after_sign s

-- the levels, the locals and the open `let` after a sign
abbrev pub sign_levels : Sign → Known → List Level
sign_levels OpenParen h = parenthesis ∷ h.levels
sign_levels CloseParen h = without_minuses (drop 1 h.levels)
sign_levels OpenBrace h = block (length h.locals) ∷ h.levels
sign_levels CloseBrace h = left_levels h.levels
sign_levels _ h = h.levels

abbrev pub sign_locals : Sign → Known → List (List ℕ)
sign_locals CloseBrace h = left_locals h.levels h.locals
sign_locals Semicolon h = ended_let h.pending h.locals
sign_locals _ h = h.locals

abbrev pub sign_pending : Sign → Known → Option (List ℕ)
sign_pending Semicolon h = None
sign_pending _ h = h.pending

-- after an item
abbrev pub known_after : Known → Item → Known
known_after h (key k) = record { before = after_key k; levels = h.levels; locals = h.locals; pending = h.pending; task = None }
known_after h (called w n) = after_role (role_after (key_before h.before)) w n h
known_after h (figure n) =
    record { before = after_figure; levels = without_minuses h.levels; locals = h.locals; pending = h.pending; task = h.task }
known_after h (joined op) = after_operator (is_minus_after h.before op) h
known_after h (sign s) =
    record { before = sign_before s h.task; levels = sign_levels s h; locals = sign_locals s h; pending = sign_pending s h; task = h.task }

-- ---- tokens

-- the task whose word a number asks for there
abbrev pub asked_by : Roll → Before → Option ℕ
asked_by r (after_key Out) = Some r.this
asked_by r (after_dot task) = Some task
asked_by r _ = None

-- the number of the word that a number asks for there: of the voted words after a dot, and of the output words elsewhere
abbrev pub index_by : Roll → Before → ℕ → ℕ → ℕ
index_by r (after_dot t) task n = first_word r task + n
index_by r _ task n = n

-- the token of a number that asks for a word of this task, or for none
abbrev pub figure_token : Roll → Before → Option ℕ → ℕ → Token
figure_token r b (Some task) n = token.Index (index_by r b task n)
figure_token r b None n = token.Number n

-- the token of an item
abbrev pub token_by : Roll → Known → Item → Token
token_by r h (key k) = token.Keyword k
token_by r h (called w n) = token.Name n
token_by r h (figure n) = figure_token r h.before (asked_by r h.before) n
token_by r h (joined op) = token.Operator op
token_by r h (sign s) = token.Sign s

-- the tokens of items, where this is known before them
abbrev pub tokens_by : Roll → Known → List Item → List Token
tokens_by r h [] = []
tokens_by r h (i ∷ is) = token_by r h i ∷ tokens_by r (known_after h i) is
