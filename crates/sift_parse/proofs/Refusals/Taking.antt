-- The tokens of lexemes that were taken one by one, and that no refusal stands at any of them.
use Rattle.std.proofs.Common.{◌≡◌, ℕ, ◌+◌, ◌<◌, List, [], ◌∷◌, ◌++◌, length, take, drop, get_or, refl, sym, ap, ◌∙◌, subst, arith, length-append}
use Rattle.std.specs.Prelude.{fold}
use Rattle.std.proofs.Math.Numerals.{add-one}
use Rattle.std.proofs.Math.Seq.{take-suc, drop-cons}
use Rattle.std.proofs.lemmas.List.{map-append, take-append-drop}
use Rattle.std.proofs.lemmas.List.Sums.{fold-append}
use Rattle.sift_parse.specs.declared.lexeme.Placed as held_placed
use Rattle.sift_parse.specs.declared.scan.Refusal as held
use Rattle.sift_parse.specs.declared.token.Token.{Token}
use Rattle.sift_parse.specs.Force.{Force, at_start, advance, force_after, token_of, tokens_from, tokens_of}
use Rattle.sift_parse.specs.Lexeme.{Lexeme, Placed}
use Rattle.sift_parse.specs.Roll.{Roll}
use Rattle.sift_parse.specs.Refusal.{lexemes_of}
use Rattle.sift_parse.specs.Scanned.{NoneAt, IsFirst, IsFine, IsRefusedIn, kind_of, stop_of}
use Rattle.sift_parse.specs.Written.{placed_of, lexeme_of}
use Rattle.sift_parse.proofs.Places.Living.{FewLive, live-advance}

-- ---- one more lexeme

pub tokens_from-append : (r : Roll) (f : Force) (ls ms : List Lexeme)
    → tokens_from r f (ls ++ ms) ≡ tokens_from r f ls ++ tokens_from r (fold advance f ls) ms
tokens_from-append r f [] ms = refl
tokens_from-append r f (l ∷ ls) ms = ap (λ ts. token_of r f l ∷ ts) (tokens_from-append r (advance f l) ls ms)

-- the tokens of lexemes and of others after them
pub tokens_of-append : (r : Roll) (ps qs : List Placed)
    → tokens_of r (lexemes_of (ps ++ qs)) ≡ tokens_of r (lexemes_of ps) ++ tokens_from r (force_after (lexemes_of ps)) (lexemes_of qs)
tokens_of-append r ps qs = ap (tokens_of r) (map-append (λ p. p.lexeme) ps qs) ∙ tokens_from-append r at_start (lexemes_of ps) (lexemes_of qs)

pub force_after-one : (ps : List Placed) (p : Placed)
    → force_after (lexemes_of (ps ++ p ∷ [])) ≡ advance (force_after (lexemes_of ps)) p.lexeme
force_after-one ps p = ap force_after (map-append (λ p. p.lexeme) ps (p ∷ [])) ∙ fold-append advance at_start (lexemes_of ps) (p.lexeme ∷ [])

-- where an element stands among others and a last one
pub data Standing {A : Type 0} (xs : List A) (x : A) (front : List A) (y : A) : Type 0 where
  the_last : front ≡ xs → y ≡ x → Standing xs x front y
  earlier : (more : List A) → xs ≡ front ++ y ∷ more → Standing xs x front y

-- an element of a list is its last one, or stands among those before the last
pub standing : {A : Type 0} (xs : List A) (x : A) (front more : List A) (y : A) → xs ++ x ∷ [] ≡ front ++ y ∷ more → Standing xs x front y
standing [] x [] more y e = the_last refl (cc)
standing [] x (z ∷ front) more y e =
    absurd (let n : 1 ≡ length (z ∷ front) + length (y ∷ more) = ap length e ∙ length-append (z ∷ front) (y ∷ more) in omega arith)
standing (w ∷ xs) x [] more y e = earlier xs (let h : w ≡ y = cc in ap (λ z. z ∷ xs) h)
standing (w ∷ xs) x (z ∷ front) more y e = onward (standing xs x front more y (cc))
  where
    same : w ≡ z
    same = cc

    onward : Standing xs x front y → Standing (w ∷ xs) x (z ∷ front) y
    onward (the_last a b) = the_last (ap (λ l. z ∷ l) a ∙ ap (λ v. v ∷ xs) (sym same)) b
    onward (earlier m a) = earlier m (ap (λ l. w ∷ l) a ∙ ap (λ v. v ∷ (front ++ y ∷ m)) same)

fine-one : (r : Roll) (ps : List Placed) (p : Placed) → IsFine r ps → NoneAt r (force_after (lexemes_of ps)) p.lexeme
    → IsFine r (ps ++ p ∷ [])
fine-one r ps p fine here front more q e = at (standing ps p front more q e)
  where
    at : Standing ps p front q → NoneAt r (force_after (lexemes_of front)) q.lexeme
    at (the_last a b) =
        subst (λ q. NoneAt r (force_after (lexemes_of front)) q.lexeme) (sym b)
        (subst (λ f. NoneAt r (force_after (lexemes_of f)) p.lexeme) (sym a) here)
    at (earlier m a) = fine front m q a

-- ---- the scan so far

-- what is in force and the tokens are those of these lexemes, at none of which a refusal stands
pub record Scanning (r : Roll) (ps : List Placed) (f : Force) (ts : List Token) : Type 0 where
  pub force : f ≡ force_after (lexemes_of ps)
  pub tokens : ts ≡ tokens_of r (lexemes_of ps)
  pub fine : IsFine r ps
  pub few : FewLive f

tokens-one : (r : Roll) (ps : List Placed) (p : Placed) (f : Force) (ts : List Token) → Scanning r ps f ts
    → ts ++ token_of r f p.lexeme ∷ [] ≡ tokens_of r (lexemes_of (ps ++ p ∷ []))
tokens-one r ps p f ts s =
    ap (λ l. l ++ token_of r f p.lexeme ∷ []) s.tokens
    ∙ (ap (λ g. tokens_of r (lexemes_of ps) ++ token_of r g p.lexeme ∷ []) s.force ∙ sym (tokens_of-append r ps (p ∷ [])))

pub scanning-one : (r : Roll) (ps : List Placed) (p : Placed) (f : Force) (ts : List Token) → Scanning r ps f ts → NoneAt r f p.lexeme
    → Scanning r (ps ++ p ∷ []) (advance f p.lexeme) (ts ++ token_of r f p.lexeme ∷ [])
scanning-one r ps p f ts s here = record {
  force = ap (λ g. advance g p.lexeme) s.force ∙ sym (force_after-one ps p);
  tokens = tokens-one r ps p f ts s;
  fine = fine-one r ps p s.fine (subst (λ g. NoneAt r g p.lexeme) s.force here);
  few = live-advance r f p.lexeme here s.few;
}

-- the refusal that stands at the next lexeme
pub refused-next : (r : Roll) (ps front more : List Placed) (p : Placed) (f : Force) (ts : List Token) (refusal : held.Refusal)
    → Scanning r front f ts → ps ≡ front ++ p ∷ more → IsFirst r f p.lexeme (kind_of refusal)
    → IsRefusedIn r ps (ts ++ token_of r f p.lexeme ∷ []) (stop_of refusal p.at)
refused-next r ps front more p f ts refusal s e first = record {
  front = front;
  here = p;
  more = more;
  split = e;
  fine = s.fine;
  tokens = tokens-one r front p f ts s;
  refusal = refusal;
  first = subst (λ g. IsFirst r g p.lexeme (kind_of refusal)) s.force first;
  answers = refl;
}

-- ---- the next lexeme of those that the code holds

-- it, with its place
abbrev pub placed_here : held_placed.Placed → Placed
placed_here p = record { lexeme = lexeme_of p.lexeme; at = p.at }

pub placed-one : (ps : List (held_placed.Placed)) (i : ℕ) (d : held_placed.Placed) → i < length ps
    → placed_of (take (i + 1) ps) ≡ placed_of (take i ps) ++ placed_here (get_or ps i d) ∷ []
placed-one ps i d lt =
    ap (λ n. placed_of (take n ps)) (add-one i)
    ∙ (ap placed_of (take-suc ps i d lt) ∙ map-append placed_here (take i ps) (get_or ps i d ∷ []))

-- the lexemes that the code holds are those before one of them, that one, and those after it
pub placed-split : (ps : List (held_placed.Placed)) (i : ℕ) (d : held_placed.Placed) → i < length ps
    → placed_of ps ≡ placed_of (take i ps) ++ placed_here (get_or ps i d) ∷ placed_of (drop (i + 1) ps)
placed-split ps i d lt =
    let next : drop i ps ≡ get_or ps i d ∷ drop (i + 1) ps = rw (add-one i) (drop-cons ps i d lt) in
    ap placed_of (sym (take-append-drop i ps)) ∙ (map-append placed_here (take i ps) (drop i ps) ∙ ap (λ qs. placed_of (take i ps) ++ placed_of qs) next)

-- no refusal stands at it
pub scanning-next : (r : Roll) (ps : List (held_placed.Placed)) (i : ℕ) (d : held_placed.Placed) (f : Force) (ts : List Token)
    → i < length ps → Scanning r (placed_of (take i ps)) f ts → NoneAt r f (lexeme_of ((get_or ps i d).lexeme))
    → Scanning r (placed_of (take (i + 1) ps)) (advance f (lexeme_of ((get_or ps i d).lexeme))) (ts ++ token_of r f (lexeme_of ((get_or ps i d).lexeme)) ∷ [])
scanning-next r ps i d f ts lt s here = rw (placed-one ps i d lt) (scanning-one r (placed_of (take i ps)) (placed_here (get_or ps i d)) f ts s here)
