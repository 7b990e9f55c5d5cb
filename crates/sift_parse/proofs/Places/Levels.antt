-- As many levels are in force as are open.
use Rattle.std.proofs.Common.{◌≡◌, Option, Some, None, List, [], ◌∷◌, ◌++◌, length, refl, sym, ap, ◌∙◌, subst, append_assoc}
use Rattle.std.specs.Prelude.{fold, map}
use Rattle.std.proofs.lemmas.List.{append-nil, length-map}
use Rattle.sift_parse.specs.Force.{Force, keyword_before, advance, at_start, force_after, token_of, tokens_from, tokens_of, role_after}
use Rattle.sift_parse.specs.Lexeme.{Lexeme}
use Rattle.sift_parse.specs.Tokens.{last_of}
use Rattle.sift_parse.specs.Roll.{Roll}
use Rattle.sift_parse.specs.Levels.{opened}
use Rattle.sift_parse.specs.Grammar.{Begins}
use Rattle.sift_parse.proofs.Places.States.{shape, state_of, state-next}
use Rattle.sift_parse.proofs.Places.Tidy.{next, Ok, Tidy}
use Rattle.sift_parse.proofs.Places.TidyTasks.{begins-tidy}
use Rattle.sift_parse.proofs.Places.Depths.{entries, moved, fresh, entries-one}
use Rattle.sift_parse.proofs.Places.Counted.{opened-is}
use Rattle.sift_parse.proofs.Places.Layers.{ann, ann-length, Layered}
use Rattle.sift_parse.proofs.Places.Moves.{lexeme-moves}

-- ---- all lexemes

pub record Counts (front : List Lexeme) (f : Force) : Type 0 where
  pub before : last_of None front ≡ f.before
  pub open_are : entries None front ≡ ann 0 0 (state_of f).levels
  pub layered : Layered (state_of f).levels

last-one : (b : Option Lexeme) (ls : List Lexeme) (x : Lexeme) → last_of b (ls ++ x ∷ []) ≡ Some x
last-one b [] x = refl
last-one b (l ∷ ls) x = last-one (Some l) ls x

counts-one : (r : Roll) (front : List Lexeme) (f : Force) (l : Lexeme) → Counts front f
    → Ok (role_after (keyword_before f)) (state_of f) (token_of r f l) → Counts (front ++ l ∷ []) (advance f l)
counts-one r front f l c ok =
    let m = lexeme-moves r f l c.layered ok in
    let same : next (state_of f) (token_of r f l) ≡ state_of (advance f l) = sym (state-next r f l) in
    record {
      before = last-one None front l;
      open_are =
          entries-one None front l ∙ ap (λ b. fresh b l ++ moved b l (entries None front)) c.before
          ∙ ap (λ es. fresh f.before l ++ moved f.before l es) c.open_are ∙ m.open_are ∙ ap (λ s. ann 0 0 s.levels) same;
      layered = subst (λ s. Layered s.levels) same m.layered;
    }

walk : (r : Roll) (front : List Lexeme) (f : Force) (ls : List Lexeme) → Counts front f → Tidy (state_of f) (tokens_from r f ls)
    → Counts (front ++ ls) (fold advance f ls)
walk r front f [] c h = subst (λ l. Counts l f) (sym (append-nil front)) c
walk r front f (l ∷ ls) c h =
    let tidy : Tidy (state_of (advance f l)) (tokens_from r (advance f l) ls) =
    subst (λ s. Tidy s (tokens_from r (advance f l) ls)) (sym (state-next r f l)) h.1 in
    subst (λ x. Counts x (fold advance (advance f l) ls)) (append_assoc front (l ∷ []) ls)
    (walk r (front ++ l ∷ []) (advance f l) ls (counts-one r front f l c h.0) tidy)

-- after lexemes that begin a task, as many levels are in force as are open
pub levels_open : (r : Roll) (front : List Lexeme) → Begins (tokens_of r front) → length (force_after front).levels ≡ opened None front
levels_open r front b =
    let f : Force = force_after front in
    let c : Counts front f = walk r [] at_start front (record { before = refl; open_are = refl; layered = tt }) (begins-tidy (tokens_of r front) b) in
    sym (opened-is None front ∙ ap length c.open_are ∙ ann-length 0 0 (map shape f.levels) ∙ length-map f.levels shape)
