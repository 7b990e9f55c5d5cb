-- What is in force after a lexeme, as far as its token tells it.
use Rattle.std.proofs.Common.{◌≡◌, ℕ, Bool, true, false, not, if◌then◌else◌, Option, Some, None, List, [], ◌∷◌, drop, refl, sym, ap, ◌∙◌, is_none}
use Rattle.std.specs.Prelude.{map}
use Rattle.sift_lang.specs.declared.tree.Op.{Op}
use Rattle.sift_lang.specs.declared.tree.Op.TheVariants.{Sub}
use Rattle.sift_parse.specs.declared.token.Keyword as keywords
use Rattle.sift_parse.specs.declared.token.Sign.TheVariants.{CloseParen, CloseBrace, Semicolon}
use Rattle.sift_parse.specs.Force.{Force, Level, block, parenthesis, negation, keyword_before, opens, without_minuses, leave_block, end_let, after_name, after_word, advance, word_token, task_asked, token_of, Role, new_local, a_sensor, a_task, old_local, role_after}
use Rattle.sift_parse.specs.Lexeme.{keyword_of, Lexeme, word, numeral, operator, mark}
use Rattle.sift_parse.specs.Roll.{Roll}
use Rattle.sift_parse.specs.Tokens.{number_token}
use Rattle.sift_parse.specs.Levels.{ends_operand}
use Rattle.sift_parse.proofs.Places.Tidy.{Open, brace, paren, minus, State, bare, tail_of, start, done, next_name, next_operator, next}

-- the kind of a level that is open, without how many locals lived at a `{`
abbrev pub shape : Level → Open
shape (block n) = brace
shape parenthesis = paren
shape negation = minus

-- a name is there of a `let` whose statement isn't over
abbrev pub is_open : Option (List ℕ) → Bool
is_open (Some w) = true
is_open None = false

-- what the tokens before a place tell of what is in force there
abbrev pub state_of : Force → State
state_of f = record { levels = map shape f.levels; bound = is_open f.pending; role = role_after (keyword_before f); operand = ends_operand f.before }

shape-bare : (ls : List Level) → map shape (without_minuses ls) ≡ bare (map shape ls)
shape-bare [] = refl
shape-bare (block n ∷ ls) = refl
shape-bare (parenthesis ∷ ls) = refl
shape-bare (negation ∷ ls) = shape-bare ls

shape-paren : (ls : List Level) → map shape (without_minuses (drop 1 ls)) ≡ bare (tail_of (map shape ls))
shape-paren [] = refl
shape-paren (l ∷ ls) = shape-bare ls

-- with the token of a numeral, whatever it asks for, an operand ends, and the minuses of its prim are closed
pub number-next : (s : State) (r : Roll) (before : Option Lexeme) (asked : Option ℕ) (n : ℕ)
    → next s (number_token r before asked n) ≡ done (bare s.levels) s.bound
number-next s r before (Some task) n = refl
number-next s r before None n = refl

-- the operator is a minus that opens a level: a `-` where no operand ends before it
abbrev pub opens_by : Bool → Op → Bool
opens_by b Sub = not b
opens_by b _ = false

opens-is : (f : Force) (op : Op) → opens f (operator op) ≡ opens_by (ends_operand f.before) op
opens-is f Sub = refl
opens-is f op = refl

operator-state : (f : Force) (op : Op) (b : Bool)
    → state_of (record (if opens_by b op then record f { levels = negation ∷ f.levels } else f) {
      before = Some
          (operator op);
    }) ≡ next_operator b op (state_of f)
operator-state f Sub true = refl
operator-state f Sub false = refl
operator-state f op true = refl
operator-state f op false = refl

leave-state : (f : Force) (ls : List Level) → f.levels ≡ ls
    → state_of (record (leave_block ls f) { before = Some (mark CloseBrace) }) ≡ start (tail_of (map shape ls)) (is_open f.pending)
leave-state f [] e = ap (λ ls. start (map shape ls) (is_open f.pending)) e
leave-state f (block n ∷ ls) e = refl
leave-state f (parenthesis ∷ ls) e = refl
leave-state f (negation ∷ ls) e = refl

end-state : (f : Force) (p : Option (List ℕ)) → f.pending ≡ p
    → state_of (record (end_let p f) { before = Some (mark Semicolon) }) ≡ start (map shape f.levels) false
end-state f (Some w) e = refl
end-state f None e = ap (λ p. start (map shape f.levels) (is_open p)) e

-- what the tokens tell, after a name of this role
name-state : (f : Force) (w : List ℕ) (role : Role)
    → done (map shape (after_name role w f).levels) (is_open (after_name role w f).pending) ≡ next_name role (state_of f)
name-state f w new_local = refl
name-state f w a_task = refl
name-state f w a_sensor = ap (λ ls. done ls (is_open f.pending)) (shape-bare f.levels)
name-state f w old_local = ap (λ ls. done ls (is_open f.pending)) (shape-bare f.levels)

word-state : (r : Roll) (f : Force) (w : List ℕ) (o : Option keywords.Keyword)
    → (let s : State = record {
      levels = map shape (after_word o w f).levels;
      bound = is_open (after_word o w f).pending;
      role = role_after o;
      operand = is_none o;
    } in s) ≡ next (state_of f) (word_token r f w o)
word-state r f w (Some k) = refl
word-state r f w None = name-state f w (role_after (keyword_before f))

-- a lexeme moves what is in force as its token says
pub state-next : (r : Roll) (f : Force) (l : Lexeme) → state_of (advance f l) ≡ next (state_of f) (token_of r f l)
state-next r f (word w) = word-state r f w (keyword_of w)
state-next r f (numeral n) =
    ap (λ ls. done ls (is_open f.pending)) (shape-bare f.levels) ∙ sym (number-next (state_of f) r f.before (task_asked r f f.before) n)
state-next r f (operator op) =
    ap (λ b. state_of (record (if b then record f { levels = negation ∷ f.levels } else f) { before = Some (operator op) })) (opens-is f op)
    ∙ operator-state f op (ends_operand f.before)
state-next r f (mark CloseParen) = ap (λ ls. done ls (is_open f.pending)) (shape-paren f.levels)
state-next r f (mark CloseBrace) = leave-state f f.levels refl
state-next r f (mark Semicolon) = end-state f f.pending refl
state-next r f (mark s) = refl
