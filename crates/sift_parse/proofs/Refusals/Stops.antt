-- What stops a text after its tokens.
use Rattle.std.proofs.Common.{◌≡◌, ℕ, ◌-◌, ◌<◌, ◌≤◌, Bool, true, false, cond, Option, Some, None, Err, List, [], ◌∷◌, ◌++◌, length, drop, refl, sym, ap, ◌∙◌, subst, arith, length-drop}
use Rattle.std.specs.Prelude.{nat_lt}
use Rattle.std.specs.Option.{option_or}
use Rattle.std.proofs.lemmas.Bool.{ltb-true, ltb-false}
use Rattle.std.proofs.Math.Seq.{drop-length}
use Rattle.sift_parse.specs.declared.scan.Refusal as held
use Rattle.sift_parse.specs.declared.scan.Refusal.TheVariants as variant
use Rattle.sift_parse.specs.declared.task.ParseStop.{ParseStop}
use Rattle.sift_parse.specs.declared.task.ParseStop.TheVariants as stop
use Rattle.sift_parse.specs.declared.token.Token.{Token}
use Rattle.sift_parse.specs.Grammar.{Begins}
use Rattle.sift_parse.specs.Force.{tokens_of}
use Rattle.sift_parse.specs.Lexeme.{Placed, Lexes, text_limit}
use Rattle.sift_parse.specs.Outcome.{Tells}
use Rattle.sift_parse.specs.Roll.{Roll}
use Rattle.sift_parse.specs.Refusal.{lexemes_of}
use Rattle.sift_parse.proofs.Refusals.Kinds.{IsRefusedFor, kind-stops}
use Rattle.sift_parse.specs.Scanned.{no_lexeme_here, long_name, large_number, many_rounds, many_locals, deep_level, unknown_name, later_task, IsFine, IsRefusedIn, Scans, end_stop, kind_of, stop_of}
use Rattle.sift_parse.specs.Written.{IsLexed}
use Rattle.sift_parse.proofs.Places.Placing.{begins-told}
use Rattle.sift_parse.proofs.Refusals.Refusing.{refused-lexeme}
use Rattle.sift_parse.proofs.Refusals.Standing.{none_before}

-- ---- after the tokens

-- the text is lexemes to its end, at none of which a refusal stands, and these are their tokens
pub record IsWhole (r : Roll) (text : List ℕ) (ts : List Token) : Type 0 where
  pub front : List Placed
  pub lexes : Lexes (length text) text front []
  pub tokens : ts ≡ tokens_of r (lexemes_of front)
  pub fine : IsFine r front

-- the text is stopped so, where the tokens begin a task; or they are all there are
abbrev pub StopsAfter : Roll → List ℕ → List Token → Option ParseStop → Type 0
StopsAfter r text ts (Some s) = Begins ts → Tells r text (Err s)
StopsAfter r text ts None = IsWhole r text ts

tells-refusal : (r : Roll) (text : List ℕ) (k : held.Refusal) (at : ℕ) → length text ≤ text_limit → IsRefusedFor r text (kind_of k) at → Tells r text (Err (stop_of k at))
tells-refusal r text variant.LongName at le h = kind-stops r text long_name at le h
tells-refusal r text variant.LargeNumber at le h = kind-stops r text large_number at le h
tells-refusal r text variant.ManyRounds at le h = kind-stops r text many_rounds at le h
tells-refusal r text variant.ManyLocals at le h = kind-stops r text many_locals at le h
tells-refusal r text variant.DeepLevel at le h = kind-stops r text deep_level at le h
tells-refusal r text variant.UnknownName at le h = kind-stops r text unknown_name at le h
tells-refusal r text variant.LaterTask at le h = kind-stops r text later_task at le h

after-refusal : (r : Roll) (text end : List ℕ) (ps : List Placed) (ts : List Token) (s : ParseStop) → length text ≤ text_limit
    → Lexes (length text) text ps end → IsRefusedIn r ps ts s → Begins ts → Tells r text (Err s)
after-refusal r text end ps ts s le x h b =
    let refused =
    refused-lexeme r text end ps h.front h.more h.here h.refusal x h.split h.fine h.first
    (begins-told r (lexemes_of (h.front ++ h.here ∷ [])) (subst Begins h.tokens b)) in
    subst (λ s. Tells r text (Err s)) (sym h.answers) (tells-refusal r text h.refusal h.here.at le refused)

-- the bytes at which the lexemes end
after-lexemes : (r : Roll) (text : List ℕ) (ps : List Placed) (at : ℕ) → IsLexed text ps at → at < length text → IsFine r ps
    → Begins (tokens_of r (lexemes_of ps)) → IsRefusedFor r text no_lexeme_here at
after-lexemes r text ps at x lt fine b =
    let long : length (drop at text) ≡ length text - at = length-drop at text in
    record {
      front = ps;
      rest = drop at text;
      lexes = x.lexes;
      place = omega arith;
      stands = (λ e. let n : length (drop at text) ≡ 0 = ap length e in omega arith, x.none);
      first_kind = λ other below h. omega arith;
      first_place = none_before r text (drop at text) ps x.lexes fine (begins-told r (lexemes_of ps) b);
    }

at-end : (r : Roll) (text : List ℕ) (ps : List Placed) (ts : List Token) (at : ℕ) → length text ≤ text_limit → IsLexed text ps at
    → ts ≡ tokens_of r (lexemes_of ps) → IsFine r ps → (b : Bool) → nat_lt at (length text) ≡ b
    → StopsAfter r text ts (cond b (Some (stop.Lex at)) None)
at-end r text ps ts at le x e fine true lt =
    λ b. kind-stops r text no_lexeme_here at le (after-lexemes r text ps at x (ltb-true at (length text) lt) fine (subst Begins e b))
at-end r text ps ts at le x e fine false ge =
    let all : drop at text ≡ [] =
    ap (λ k. drop k text)
    (let over = ltb-false at (length text) ge in let w = x.within in let same : at ≡ length text = omega arith in same)
    ∙ drop-length text in
    record { front = ps; lexes = subst (Lexes (length text) text ps) all x.lexes; tokens = e; fine = fine }

-- what the text is stopped by after the tokens
pub after-tokens : (r : Roll) (text : List ℕ) (ps : List Placed) (ts : List Token) (at : ℕ) (refused : Option ParseStop)
    → length text ≤ text_limit → IsLexed text ps at → Scans r ps ts refused
    → StopsAfter r text ts (option_or refused (end_stop at (length text)))
after-tokens r text ps ts at (Some s) le x h = after-refusal r text (drop at text) ps ts s le x.lexes h
after-tokens r text ps ts at None le x h = at-end r text ps ts at le x h.0 h.1 (nat_lt at (length text)) refl
