-- As long as no refusal stands, few locals live, so that what a name names has a small number.
use Rattle.std.proofs.Common.{◌≡◌, ℕ, ◌+◌, ◌-◌, ◌<◌, ◌≤◌, ◌^◌, Bool, true, false, cond, List, [], ◌∷◌, length, Option, Some, None, refl, ap, arith, length-drop}
use Rattle.std.specs.Prelude.{if◌then◌else◌}
use Rattle.std.specs.Option.{ForSome}
use Rattle.std.specs.List.{position_from}
use Rattle.std.specs.Str.{bytes_eq}
use Rattle.sift_parse.specs.declared.token.Keyword.{Keyword}
use Rattle.sift_parse.specs.declared.token.Keyword.TheVariants.{Let, Out, If, Else, Repeat, Mid, Sense, Now, Last}
use Rattle.sift_parse.specs.declared.token.Sign.TheVariants.{Assign, OpenParen, CloseParen, OpenBrace, CloseBrace, Comma, Dot, Semicolon}
use Rattle.sift_parse.specs.Force.{Level, block, parenthesis, negation, Force, keyword_before, opens, leave_block, oldest, end_let, after_name, after_word, moved, advance, place_of, role_after}
use Rattle.sift_parse.specs.Lexeme.{keyword_of, Lexeme, word, numeral, operator, mark}
use Rattle.sift_parse.specs.Outcome.{AreNames}
use Rattle.sift_parse.specs.Roll.{Roll}
use Rattle.sift_parse.specs.Tokens.{local_of, named_after}
use Rattle.sift_parse.specs.Scanned.{many_locals, NoneAt}
use Rattle.sift_parse.specs.Held.{NamesFew}

-- a `let` whose statement isn't over counts as a local
abbrev pub pendings : Option (List ℕ) → ℕ
pendings (Some w) = 1
pendings None = 0

-- no more locals live than may
abbrev pub FewLive : Force → Type 0
FewLive f = length f.locals + pendings f.pending ≤ 32

-- ---- after a lexeme

live-name : (f : Force) (w : List ℕ) (k : Option Keyword) → (k ≡ Some Let → length f.locals < 32) → FewLive f
    → FewLive (after_name (role_after k) w f)
live-name f w (Some Let) h few = let le = h refl in omega arith
live-name f w (Some Out) h few = few
live-name f w (Some If) h few = few
live-name f w (Some Else) h few = few
live-name f w (Some Repeat) h few = few
live-name f w (Some Mid) h few = few
live-name f w (Some Sense) h few = few
live-name f w (Some Now) h few = few
live-name f w (Some Last) h few = few
live-name f w None h few = few

live-word : (f : Force) (w : List ℕ) (k : Option Keyword) → (keyword_before f ≡ Some Let → length f.locals < 32) → FewLive f
    → FewLive (after_word k w f)
live-word f w (Some k) h few = few
live-word f w None h few = live-name f w (keyword_before f) h few

live-minus : (f : Force) (b : Bool) → FewLive f → FewLive (if b then record f { levels = negation ∷ f.levels } else f)
live-minus f true few = few
live-minus f false few = few

live-leave : (f : Force) (levels : List Level) → FewLive f → FewLive (leave_block levels f)
live-leave f [] few = few
live-leave f (block lived ∷ levels) few =
    let e : length (oldest lived f.locals) ≡ length f.locals - (length f.locals - lived) = length-drop (length f.locals - lived) f.locals in
    omega arith
live-leave f (parenthesis ∷ levels) few = few
live-leave f (negation ∷ levels) few = few

live-let : (f : Force) (p : Option (List ℕ)) → f.pending ≡ p → FewLive f → FewLive (end_let p f)
live-let f (Some w) e few = let one : pendings f.pending ≡ 1 = ap pendings e in omega arith
live-let f None e few = few

live-moved : (f : Force) (l : Lexeme) → ((w : List ℕ) → l ≡ word w → keyword_before f ≡ Some Let → length f.locals < 32) → FewLive f
    → FewLive (moved f l)
live-moved f (word w) h few = live-word f w (keyword_of w) (h w refl) few
live-moved f (numeral n) h few = few
live-moved f (operator op) h few = live-minus f (opens f (operator op)) few
live-moved f (mark Assign) h few = few
live-moved f (mark OpenParen) h few = few
live-moved f (mark CloseParen) h few = few
live-moved f (mark OpenBrace) h few = few
live-moved f (mark CloseBrace) h few = live-leave f f.levels few
live-moved f (mark Comma) h few = few
live-moved f (mark Dot) h few = few
live-moved f (mark Semicolon) h few = live-let f f.pending refl few

unless-many : (r : Roll) (f : Force) (l : Lexeme) (w : List ℕ) → NoneAt r f l → l ≡ word w → keyword_before f ≡ Some Let
    → length f.locals < 32
unless-many r f (word v) w h e k = let not_here = h many_locals in below (length f.locals) (λ le. not_here (k, le))
  where
    below : (n : ℕ) → (32 ≤ n → ⊥) → n < 32
    below n never = omega arith
unless-many r f (numeral n) w h e k = cc
unless-many r f (operator op) w h e k = cc
unless-many r f (mark s) w h e k = cc

-- few locals live after a lexeme at which no refusal stands
pub live-advance : (r : Roll) (f : Force) (l : Lexeme) → NoneAt r f l → FewLive f → FewLive (advance f l)
live-advance r f l h few = live-moved f l (λ w e k. unless-many r f l w h e k) few

-- ---- small numbers

few-either : (b : Bool) (i n : ℕ) (o : Option ℕ) → i < n → ForSome o (λ k. k < n) → ForSome (cond b (Some i) o) (λ k. k < n)
few-either true i n o lt h k e = let same : i ≡ k = cc in omega arith
few-either false i n o lt h k e = h k e

few-position : (w : List ℕ) (i n : ℕ) (names : List (List ℕ)) → i + length names ≤ n
    → ForSome (position_from (λ name. bytes_eq name w) i names) (λ k. k < n)
few-position w i n [] le = λ k e. cc
few-position w i n (name ∷ names) le =
    few-either (bytes_eq name w) i n (position_from (λ name. bytes_eq name w) (i + 1) names) (omega arith)
    (few-position w (i + 1) n names (omega arith))

few-local : (w : List ℕ) (n : ℕ) (locals : List (List ℕ)) → length locals ≤ n → ForSome (local_of locals w) (λ k. k < n)
few-local w n [] le = λ k e. cc
few-local w n (name ∷ older) le = few-either (bytes_eq name w) (length older) n (local_of older w) (omega arith) (few-local w n older (omega arith))

few-named : (r : Roll) (f : Force) (w : List ℕ) (k : Option Keyword) → AreNames r → FewLive f → ForSome (named_after r (place_of f) k w) (λ n. n < 2 ^ 8)
few-named r f w (Some Let) a few = λ n e. let same : length f.locals ≡ n = cc in omega arith
few-named r f w (Some Sense) a few = few-position w 0 (2 ^ 8) r.sensors (let le = a.few_sensors in omega arith)
few-named r f w (Some Now) a few = few-position w 0 (2 ^ 8) r.tasks (let le = a.few_tasks in omega arith)
few-named r f w (Some Last) a few = few-position w 0 (2 ^ 8) r.tasks (let le = a.few_tasks in omega arith)
few-named r f w k a few = few-local w (2 ^ 8) f.locals (omega arith)

-- what a word names has a number of one byte
pub names-few : (r : Roll) (f : Force) (l : Lexeme) → AreNames r → FewLive f → NamesFew r f l
names-few r f (word w) a few = few-named r f w (keyword_before f) a few
names-few r f (numeral n) a few = tt
names-few r f (operator op) a few = tt
names-few r f (mark s) a few = tt
