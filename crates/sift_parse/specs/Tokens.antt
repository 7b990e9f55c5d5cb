-- What the lexemes before a place of a text tell there, and which tokens lexemes stand for at their places.
use Rattle.std.specs.Prelude.{ℕ, List, [], ◌∷◌, Option, Some, None, ◌+◌, if◌then◌else◌, ◌++◌, length, slice_index, nat_lt, nat_le, unwrap_or}
use Rattle.std.specs.Str.{bytes_eq}
use Rattle.sift_parse.specs.declared.token.Keyword.{Keyword}
use Rattle.sift_parse.specs.Lexeme.{keyword_in, keyword_of, Lexeme, word, numeral, operator, mark, number_limit}
use Rattle.sift_parse.specs.Levels.{opened, living}
use Rattle.sift_parse.specs.declared.token.Keyword.TheVariants.{Let, Out, Sense, Now, Last}
use Rattle.sift_parse.specs.declared.token.Sign.TheVariants.{Dot}
use Rattle.sift_parse.specs.declared.token.Token.{Token}
use Rattle.sift_parse.specs.declared.token.Token.TheVariants as token
use Rattle.sift_parse.specs.Roll.{Roll, number_in, first_word}

-- ---- what is told at a place

-- what is told at a place: the lexeme before it, the names of the locals that live, newest first, how many levels are open, and the last word before
pub record Place : Type 0 where
  pub before : Option Lexeme
  pub locals : List (List ℕ)
  pub levels : ℕ
  pub named : List ℕ

-- the last of the lexemes, or this one where there are none
abbrev pub last_of : Option Lexeme → List Lexeme → Option Lexeme
last_of before [] = before
last_of before (l ∷ ls) = last_of (Some l) ls

-- the last word of the lexemes, or this one where there is none
abbrev pub last_word : List ℕ → List Lexeme → List ℕ
last_word named [] = named
last_word named (word w ∷ ls) = last_word w ls
last_word named (l ∷ ls) = last_word named ls

-- what is told after these lexemes
abbrev pub place_after : List Lexeme → Place
place_after ls = record { before = last_of None ls; locals = living ls; levels = opened None ls; named = last_word [] ls }

-- ---- names

-- the number of the local that is seen by this name: as many locals live at its `let`
abbrev pub local_of : List (List ℕ) → List ℕ → Option ℕ
local_of [] w = None
local_of (name ∷ older) w = if bytes_eq name w then Some (length older) else local_of older w

-- the number of what a name after a keyword names here, where it is there: a new local, a sensor, a task whose word is read, or a local that is seen
abbrev pub named_after : Roll → Place → Option Keyword → List ℕ → Option ℕ
named_after r p (Some Let) w = Some (length p.locals)
named_after r p (Some Sense) w = number_in r.sensors w
named_after r p (Some Now) w = number_in r.tasks w
named_after r p (Some Last) w = number_in r.tasks w
named_after r p _ w = local_of p.locals w

-- ---- numbers of words

-- the task whose word the number after a keyword asks for
abbrev pub task_after : Roll → Option Keyword → Option ℕ
task_after r (Some Out) = Some r.this
task_after r _ = None

-- the task whose word a number asks for here, where it asks for one: this one after `out`, and the one named before a dot
abbrev pub task_asked : Roll → Place → Option Lexeme → Option ℕ
task_asked r p (Some (word w)) = task_after r (keyword_of w)
task_asked r p (Some (mark Dot)) = Some (unwrap_or (number_in r.tasks p.named) 0)
task_asked r p _ = None

-- the number of the word that a numeral asks for here: of the voted words after a dot, and of the output words after `out`
abbrev pub index_meant : Roll → Option Lexeme → ℕ → ℕ → ℕ
index_meant r (Some (mark Dot)) task n = first_word r task + n
index_meant r _ task n = n

-- the token that a numeral is, where it asks for a word of this task, or for none; a number that is too large or asks for a word that isn't there is refused, and counts as 0
abbrev pub number_token : Roll → Option Lexeme → Option ℕ → ℕ → Token
number_token r before (Some task) n = token.Index (if nat_lt n (slice_index r.sizes task) then index_meant r before task n else 0)
number_token r before None n = token.Number (if nat_le n number_limit then n else 0)

-- ---- tokens

-- the token that a word is here; a name that isn't there is refused, and counts as 0
abbrev pub word_token : Roll → Place → List ℕ → Option Keyword → Token
word_token r p w (Some k) = token.Keyword k
word_token r p w None = token.Name (unwrap_or (named_after r p (keyword_in p.before) w) 0)

-- the token that a lexeme is here
abbrev pub token_of : Roll → Place → Lexeme → Token
token_of r p (word w) = word_token r p w (keyword_of w)
token_of r p (numeral n) = number_token r p.before (task_asked r p p.before) n
token_of r p (operator op) = token.Operator op
token_of r p (mark s) = token.Sign s

-- the tokens that lexemes are, after others
abbrev pub tokens_after : Roll → List Lexeme → List Lexeme → List Token
tokens_after r front [] = []
tokens_after r front (l ∷ ls) = token_of r (place_after front) l ∷ tokens_after r (front ++ l ∷ []) ls

-- the tokens of a text's lexemes
abbrev pub tokens_of : Roll → List Lexeme → List Token
tokens_of r ls = tokens_after r [] ls
