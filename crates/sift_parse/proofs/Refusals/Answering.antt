-- The answer to a text: the end of its tokens, and its places.
use Rattle.std.proofs.Common.{◌≡◌, ℕ, ◌+◌, ◌<◌, ◌≤◌, Option, Some, None, Err, List, [], ◌++◌, length, take, drop, get_or, refl, sym, ap, ◌∙◌, subst, arith}
use Rattle.std.specs.Prelude.{unwrap_or}
use Rattle.std.proofs.Math.Seq.{drop-length}
use Rattle.std.proofs.lemmas.List.{append-nil}
use Rattle.sift_lang.specs.Tree.{Block}
use Rattle.sift_parse.specs.declared.lexeme.Placed as held_placed
use Rattle.sift_parse.specs.declared.task.ParseStop.{ParseStop}
use Rattle.sift_parse.specs.declared.task.ParseStop.TheVariants as stop
use Rattle.sift_parse.specs.declared.token.Token.{Token}
use Rattle.sift_parse.specs.Grammar.{IsTask, Begins}
use Rattle.sift_parse.specs.Lexeme.{Lexeme, Lexes, text_limit}
use Rattle.sift_parse.specs.Outcome.{Tells}
use Rattle.sift_parse.specs.Roll.{Roll}
use Rattle.sift_parse.specs.Parsed.{OffendsAt}
use Rattle.sift_parse.specs.Refusal.{lexemes_of, IsParsed}
use Rattle.sift_parse.specs.Scanned.{Kind, no_lexeme_here, no_syntax, long_name, large_number, many_rounds, many_locals, deep_level, unknown_name, later_task, order_of}
use Rattle.sift_parse.proofs.Refusals.Kinds.{Stands, IsRefusedFor, kind-stops}
use Rattle.sift_parse.specs.Written.{placed_of}
use Rattle.sift_parse.proofs.Places.Placing.{tokens-told, begins-told}
use Rattle.sift_parse.proofs.Refusals.Refusing.{place-within}
use Rattle.sift_parse.proofs.Refusals.Standing.{none_before}
use Rattle.sift_parse.proofs.Refusals.Taking.{placed_here, placed-split}
use Rattle.sift_parse.proofs.Refusals.Stops.{IsWhole, StopsAfter}

-- ---- the end

-- the tokens of a task begin a task
pub begins-task : (ts : List Token) (body : Block) → IsTask ts body → Begins ts
begins-task ts body t = record { back = []; body = body; whole = subst (λ l. IsTask l body) (sym (append-nil ts)) t }

-- the text is a task
pub parsed-whole : (r : Roll) (text : List ℕ) (ts : List Token) (body : Block) → IsWhole r text ts → IsTask ts body → IsParsed r text body
parsed-whole r text ts body w t = record {
  front = w.front;
  lexes = w.lexes;
  task = subst (λ l. IsTask l body) (w.tokens ∙ sym (tokens-told r (lexemes_of w.front) (subst Begins w.tokens (begins-task ts body t)))) t;
  fine = none_before r text [] w.front w.lexes w.fine (begins-told r (lexemes_of w.front) (subst Begins w.tokens (begins-task ts body t)));
}

-- where tokens offend at their end, they begin a task and are none
pub record Unfinished (ts : List Token) : Type 0 where
  pub begins : Begins ts
  pub no_task : (body : Block) → ¬ IsTask ts body

unfinished : (ts : List Token) (at : ℕ) → OffendsAt ts at → length ts ≤ at → Unfinished ts
unfinished ts at h le =
    let o = h.offends in
    let w = h.within in
    let same : at ≡ length ts = omega arith in
    let none_left : drop at ts ≡ [] = ap (λ k. drop k ts) same ∙ drop-length ts in
    let all : ts ≡ o.front = o.split ∙ (ap (λ l. o.front ++ l) none_left ∙ append-nil o.front) in
    record { begins = subst Begins (sym all) o.begins; no_task = o.not_whole none_left }

nothing-before : (r : Roll) (front : List Lexeme) (other : Kind) → order_of other < 1 → Stands r front [] other → ⊥
nothing-before r front no_lexeme_here lt h = h.0 refl
nothing-before r front no_syntax lt h = omega arith
nothing-before r front long_name lt h = omega arith
nothing-before r front large_number lt h = omega arith
nothing-before r front many_rounds lt h = omega arith
nothing-before r front many_locals lt h = omega arith
nothing-before r front deep_level lt h = omega arith
nothing-before r front unknown_name lt h = omega arith
nothing-before r front later_task lt h = omega arith

refused-end : (r : Roll) (text : List ℕ) (ts : List Token) → IsWhole r text ts → Unfinished ts → IsRefusedFor r text no_syntax (length text)
refused-end r text ts w u = record {
  front = w.front;
  rest = [];
  lexes = w.lexes;
  place = omega arith;
  stands = λ body t. u.no_task body (subst (λ l. IsTask l body) (tokens-told r (lexemes_of w.front) (subst Begins w.tokens u.begins) ∙ sym w.tokens) t);
  first_kind = λ other lt h. nothing-before r (lexemes_of w.front) other lt h;
  first_place = none_before r text [] w.front w.lexes w.fine (begins-told r (lexemes_of w.front) (subst Begins w.tokens u.begins));
}

-- an offence at the end of the tokens: what stops the text after them, or its end
pub offence-end : (r : Roll) (text : List ℕ) (ts : List Token) (at : ℕ) (after : Option ParseStop) → length text ≤ text_limit
    → StopsAfter r text ts after → OffendsAt ts at → length ts ≤ at → Tells r text (Err (unwrap_or after (stop.Syntax (length text))))
offence-end r text ts at (Some s) le h o ge = h (unfinished ts at o ge).begins
offence-end r text ts at None le h o ge = kind-stops r text no_syntax (length text) le (refused-end r text ts h (unfinished ts at o ge))

-- ---- places

-- the place of a lexeme is short, where the text is
pub place-short : (text end : List ℕ) (ps : List (held_placed.Placed)) (i : ℕ) (d : held_placed.Placed) → i < length ps
    → length text ≤ text_limit → Lexes (length text) text (placed_of ps) end → (get_or ps i d).at ≤ text_limit
place-short text end ps i d lt le x =
    let w = place-within text end (placed_of ps) (placed_of (take i ps)) (placed_of (drop (i + 1) ps)) (placed_here (get_or ps i d)) x
    (placed-split ps i d lt) in omega arith
