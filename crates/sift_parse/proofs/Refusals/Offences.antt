-- An offence at one of the tokens is refused at its lexeme.
use Rattle.std.proofs.Common.{◌≡◌, ℕ, suc, ◌+◌, ◌-◌, ◌<◌, ◌≤◌, Option, Some, None, List, [], ◌∷◌, ◌++◌, length, take, drop, get_or, refl, sym, ap, ◌∙◌, subst, arith, append_assoc, length-append, length-drop}
use Rattle.std.proofs.Math.Seq.{drop-append_seam, take-append_seam}
use Rattle.std.proofs.lemmas.List.{append-nil, length-map, length-take-le}
use Rattle.sift_parse.specs.declared.lexeme.Placed as held_placed
use Rattle.sift_parse.specs.declared.task.ParseStop.{ParseStop}
use Rattle.sift_parse.specs.declared.token.Token.{Token}
use Rattle.sift_parse.specs.Grammar.{Begins}
use Rattle.sift_parse.specs.Force.{Force, at_start, advance, force_after, token_of, tokens_from, tokens_of}
use Rattle.sift_parse.specs.Lexeme.{Lexeme, Placed, Lexes}
use Rattle.sift_parse.specs.Roll.{Roll}
use Rattle.sift_parse.specs.Parsed.{OffendsAt}
use Rattle.sift_parse.specs.Refusal.{lexemes_of}
use Rattle.sift_parse.proofs.Refusals.Kinds.{IsRefusedFor}
use Rattle.sift_parse.specs.Scanned.{no_syntax, IsFine, Scans}
use Rattle.sift_parse.specs.Written.{placed_of}
use Rattle.sift_parse.proofs.Places.Placing.{begins-told, begins-found}
use Rattle.sift_parse.proofs.Refusals.Refusing.{refused-token}
use Rattle.sift_parse.proofs.Refusals.Taking.{Standing, the_last, earlier, standing, tokens_of-append, placed_here, placed-split}

-- ---- the lexemes that the scan took

-- the first lexemes were taken for the tokens, and no refusal stands at any but the last
pub record Taken (r : Roll) (ps : List Placed) (ts : List Token) : Type 0 where
  pub taken : List Placed
  pub left : List Placed
  pub split : ps ≡ taken ++ left
  pub tokens : ts ≡ tokens_of r (lexemes_of taken)
  pub fine : (front more : List Placed) (p : Placed) → taken ≡ front ++ p ∷ more → IsFine r front

fine-front : (r : Roll) (front more : List Placed) → IsFine r (front ++ more) → IsFine r front
fine-front r front more h xs ys p e = h xs (ys ++ more) p (ap (λ l. l ++ more) e ∙ append_assoc xs (p ∷ ys) more)

fine-standing : (r : Roll) (xs front : List Placed) (x p : Placed) → IsFine r xs → Standing xs x front p → IsFine r front
fine-standing r xs front x p h (the_last a b) = subst (IsFine r) (sym a) h
fine-standing r xs front x p h (earlier m a) = fine-front r front (p ∷ m) (subst (IsFine r) a h)

pub taken-of : (r : Roll) (ps : List Placed) (ts : List Token) (refused : Option ParseStop) → Scans r ps ts refused → Taken r ps ts
taken-of r ps ts (Some s) h = record {
  taken = h.front ++ h.here ∷ [];
  left = h.more;
  split = h.split ∙ sym (append_assoc h.front (h.here ∷ []) h.more);
  tokens = h.tokens;
  fine = λ front more p e. fine-standing r h.front front h.here p h.fine (standing h.front h.here front more p e);
}
taken-of r ps ts None h = record {
  taken = ps;
  left = [];
  split = sym (append-nil ps);
  tokens = h.0;
  fine = λ front more p e. fine-front r front (p ∷ more) (subst (IsFine r) e h.1);
}

-- ---- an offence at one of the tokens

record Onward (taken front : List Placed) (p : Placed) : Type 0 where
  pub more : List Placed
  pub split : taken ≡ front ++ p ∷ more

onward : (taken left front more : List Placed) (p : Placed) → taken ++ left ≡ front ++ p ∷ more → length front < length taken
    → Onward taken front p
onward [] left front more p e lt = absurd (omega arith)
onward (t ∷ taken) left [] more p e lt = record { more = taken; split = let h : t ≡ p = cc in ap (λ v. v ∷ taken) h }
onward (t ∷ taken) left (f ∷ front) more p e lt =
    let i = onward taken left front more p (cc) (omega arith) in
    let same : t ≡ f = cc in
    record { more = i.more; split = ap (λ l. t ∷ l) i.split ∙ ap (λ v. v ∷ (front ++ p ∷ i.more)) same }

length-tokens : (r : Roll) (f : Force) (ls : List Lexeme) → length (tokens_from r f ls) ≡ length ls
length-tokens r f [] = refl
length-tokens r f (l ∷ ls) = ap (λ n. suc n) (length-tokens r (advance f l) ls)

pub length-tokens_of : (r : Roll) (ps : List Placed) → length (tokens_of r (lexemes_of ps)) ≡ length ps
length-tokens_of r ps = length-tokens r at_start (lexemes_of ps) ∙ length-map ps (λ p. p.lexeme)

-- how many lexemes were taken
pub length-taken : (r : Roll) (ps : List Placed) (ts : List Token) → Taken r ps ts → length ts ≤ length ps
length-taken r ps ts t =
    let n : length ts ≡ length t.taken = ap length t.tokens ∙ length-tokens_of r t.taken in
    let m : length ps ≡ length t.taken + length t.left = ap length t.split ∙ length-append t.taken t.left in
    omega arith

-- what stands before an offence at one of the tokens, and that token
record Broken (r : Roll) (front : List Placed) (p : Placed) : Type 0 where
  pub begins : Begins (tokens_of r (lexemes_of front))
  pub never : ¬ Begins (tokens_of r (lexemes_of (front ++ p ∷ [])))

broken : (r : Roll) (ts : List Token) (front more : List Placed) (p : Placed) (at : ℕ) → ts ≡ tokens_of r (lexemes_of (front ++ p ∷ more))
    → length front ≡ at → OffendsAt ts at → Broken r front p
broken r ts front more p at e n h =
    let o = h.offends in
    let xs = tokens_of r (lexemes_of front) in
    let f = force_after (lexemes_of front) in
    let t = token_of r f p.lexeme in
    let us = tokens_from r (advance f p.lexeme) (lexemes_of more) in
    let parted : ts ≡ xs ++ t ∷ us = e ∙ tokens_of-append r front (p ∷ more) in
    let long : length xs ≡ at = length-tokens_of r front ∙ n in
    let count : length ts ≡ length o.front + length (drop at ts) = ap length o.split ∙ length-append o.front (drop at ts) in
    let dropped : length (drop at ts) ≡ length ts - at = length-drop at ts in
    let within = h.within in
    let as_long : length o.front ≡ at = omega arith in
    let before : o.front ≡ xs =
    sym (ap (λ k. take k ts) (sym as_long) ∙ (ap (take (length o.front)) o.split ∙ take-append_seam o.front (drop at ts)))
    ∙ (ap (λ k. take k ts) (sym long) ∙ (ap (take (length xs)) parted ∙ take-append_seam xs (t ∷ us))) in
    let bad : drop at ts ≡ t ∷ us = ap (λ k. drop k ts) (sym long) ∙ (ap (drop (length xs)) parted ∙ drop-append_seam xs (t ∷ us)) in
    record {
      begins = subst Begins before o.begins;
      never = λ b. o.not_with t us bad (subst (λ l. Begins (l ++ t ∷ [])) (sym before) (subst Begins (tokens_of-append r front (p ∷ [])) b));
    }

-- an offence at one of the tokens is answered at its lexeme
pub offence-inside : (r : Roll) (text end : List ℕ) (ps front more : List Placed) (p : Placed) (ts : List Token) (at : ℕ)
    → Lexes (length text) text ps end → Taken r ps ts → OffendsAt ts at → at < length ts → ps ≡ front ++ p ∷ more → length front ≡ at
    → IsRefusedFor r text no_syntax p.at
offence-inside r text end ps front more p ts at x t h lt e n =
    let count : length ts ≡ length t.taken = ap length t.tokens ∙ length-tokens_of r t.taken in
    let i = onward t.taken t.left front more p (sym t.split ∙ e) (omega arith) in
    let b = broken r ts front i.more p at (t.tokens ∙ ap (λ l. tokens_of r (lexemes_of l)) i.split) n h in
    refused-token r text end ps front more p x e (t.fine front i.more p i.split) (begins-told r (lexemes_of front) b.begins)
    (λ c. b.never (begins-found r (lexemes_of (front ++ p ∷ [])) c))

-- ---- among those that the code holds

-- an offence at one of the tokens
pub offence-here : (r : Roll) (text end : List ℕ) (ps : List (held_placed.Placed)) (ts : List Token) (at : ℕ) (d : held_placed.Placed)
    (refused : Option ParseStop)
    → Lexes (length text) text (placed_of ps) end → Scans r (placed_of ps) ts refused → OffendsAt ts at → at < length ts
    → IsRefusedFor r text no_syntax ((get_or ps at d).at)
offence-here r text end ps ts at d refused x s h lt =
    let t = taken-of r (placed_of ps) ts refused s in
    let n : length ts ≤ length ps =
    (let m = length-taken r (placed_of ps) ts t in let k : length (placed_of ps) ≡ length ps = length-map ps placed_here in
    omega arith) in
    let i : length (placed_of (take at ps)) ≡ at = length-map (take at ps) placed_here ∙ length-take-le at ps (omega arith) in
    offence-inside r text end (placed_of ps) (placed_of (take at ps)) (placed_of (drop (at + 1) ps))
    (placed_here (get_or ps at d)) ts at x t h lt (placed-split ps at d (omega arith)) i

-- there are as many lexemes as tokens
pub tokens-within : (r : Roll) (ps : List (held_placed.Placed)) (ts : List Token) (refused : Option ParseStop)
    → Scans r (placed_of ps) ts refused → length ts ≤ length ps
tokens-within r ps ts refused s =
    let m = length-taken r (placed_of ps) ts (taken-of r (placed_of ps) ts refused s) in
    let k : length (placed_of ps) ≡ length ps = length-map ps placed_here in omega arith
