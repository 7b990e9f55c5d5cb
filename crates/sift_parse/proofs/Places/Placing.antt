-- What is in force after lexemes that begin a task is what is told there.
use Rattle.std.proofs.Common.{◌≡◌, ℕ, Option, Some, None, List, [], ◌∷◌, ◌++◌, refl, sym, ap, ◌∙◌, subst, append_assoc}
use Rattle.std.specs.Prelude.{fold}
use Rattle.std.proofs.lemmas.List.{append-nil}
use Rattle.std.proofs.lemmas.List.Sums.{fold-append}
use Rattle.sift_parse.specs.declared.token.Sign.TheVariants.{CloseBrace, Semicolon}
use Rattle.sift_parse.specs.declared.token.Token.{Token}
use Rattle.sift_parse.specs.Force.{Force, Level, block, parenthesis, negation, opens, leave_block, end_let, advance, at_start, force_after, place_of, tokens_from}
use Rattle.sift_parse.specs.Lexeme.{Lexeme, word, numeral, operator, mark}
use Rattle.sift_parse.specs.Tokens.{Place, last_of, last_word, place_after, token_of, tokens_after, tokens_of}
use Rattle.sift_parse.specs.Roll.{Roll}
use Rattle.sift_parse.specs.Grammar.{IsTask, Begins}
use Rattle.sift_parse.specs.Force as force
use Rattle.sift_parse.specs.Seen.{PlacesAreForce}
use Rattle.sift_parse.proofs.Places.Levels.{levels_open as levels-open}
use Rattle.sift_parse.proofs.Places.Locals.{locals_live}

-- the front of what begins a task begins it
pub begins-front : (xs ys : List Token) → Begins (xs ++ ys) → Begins xs
begins-front xs ys b = record { back = ys ++ b.back; body = b.body; whole = subst (λ l. IsTask l b.body) (append_assoc xs ys b.back) b.whole }

-- ---- the last lexeme and the last word

last-is : (f : Force) (ls : List Lexeme) → (fold advance f ls).before ≡ last_of f.before ls
last-is f [] = refl
last-is f (l ∷ ls) = last-is (advance f l) ls

named-leaves : (ls : List Level) (f : Force) → (leave_block ls f).named ≡ f.named
named-leaves [] f = refl
named-leaves (block n ∷ ls) f = refl
named-leaves (parenthesis ∷ ls) f = refl
named-leaves (negation ∷ ls) f = refl

named-ends : (p : Option (List ℕ)) (f : Force) → (end_let p f).named ≡ f.named
named-ends (Some w) f = refl
named-ends None f = refl

named-one : (f : Force) (l : Lexeme) → (advance f l).named ≡ last_word f.named (l ∷ [])
named-one f (word w) = refl
named-one f (numeral n) = refl
named-one f (operator op) = by (opens f (operator op))
  where
    by : (b : Rattle.std.proofs.Common.Bool)
        → (Rattle.std.proofs.Common.if◌then◌else◌ b (record f { levels = negation ∷ f.levels }) f).named ≡ f.named
    by Rattle.std.proofs.Common.true = refl
    by Rattle.std.proofs.Common.false = refl
named-one f (mark CloseBrace) = named-leaves f.levels f
named-one f (mark Semicolon) = named-ends f.pending f
named-one f (mark s) = refl

last-word-one : (w : List ℕ) (l : Lexeme) (ls : List Lexeme) → last_word (last_word w (l ∷ [])) ls ≡ last_word w (l ∷ ls)
last-word-one w (word v) ls = refl
last-word-one w l ls = refl

named-is : (f : Force) (ls : List Lexeme) → (fold advance f ls).named ≡ last_word f.named ls
named-is f [] = refl
named-is f (l ∷ ls) = named-is (advance f l) ls ∙ ap (λ w. last_word w ls) (named-one f l) ∙ last-word-one f.named l ls

-- ---- a place

place-by : (p q : Place) → p.before ≡ q.before → p.locals ≡ q.locals → p.levels ≡ q.levels → p.named ≡ q.named → p ≡ q
place-by p q a b c d =
    ap (λ x. let m : Place = record { before = x; locals = p.locals; levels = p.levels; named = p.named } in m) a
    ∙ ap (λ x. let m : Place = record { before = q.before; locals = x; levels = p.levels; named = p.named } in m) b
    ∙ ap (λ x. let m : Place = record { before = q.before; locals = q.locals; levels = x; named = p.named } in m) c
    ∙ ap (λ x. let m : Place = record { before = q.before; locals = q.locals; levels = q.levels; named = x } in m) d

-- by the fold's tokens
place-told : (r : Roll) (front : List Lexeme) → Begins (force.tokens_of r front) → place_of (force_after front) ≡ place_after front
place-told r front b =
    place-by (place_of (force_after front)) (place_after front) (last-is at_start front) (locals_live r front b) (levels-open r front b)
    (named-is at_start front)

-- behind other lexemes, the tokens of joined ones are those of the first, and then those of the rest behind them
pub tokens_after-append : (r : Roll) (front xs ys : List Lexeme)
    → tokens_after r front (xs ++ ys) ≡ tokens_after r front xs ++ tokens_after r (front ++ xs) ys
tokens_after-append r front [] ys = ap (λ l. tokens_after r l ys) (sym (append-nil front))
tokens_after-append r front (x ∷ xs) ys =
    ap (λ ts. token_of r (place_after front) x ∷ ts)
    (tokens_after-append r (front ++ x ∷ []) xs ys
    ∙ ap (λ l. tokens_after r (front ++ x ∷ []) xs ++ tokens_after r l ys) (append_assoc front (x ∷ []) xs))

-- the tokens of a text's lexemes are those of the first, and then those of the others as they stand after them
pub tokens_of-append : (r : Roll) (xs ys : List Lexeme) → tokens_of r (xs ++ ys) ≡ tokens_of r xs ++ tokens_after r xs ys
tokens_of-append r xs ys = tokens_after-append r [] xs ys

force-append : (r : Roll) (f : Force) (ls ms : List Lexeme)
    → tokens_from r f (ls ++ ms) ≡ tokens_from r f ls ++ tokens_from r (fold advance f ls) ms
force-append r f [] ms = refl
force-append r f (l ∷ ls) ms = ap (λ ts. force.token_of r f l ∷ ts) (force-append r (advance f l) ls ms)

force-one : (front : List Lexeme) (l : Lexeme) → force_after (front ++ l ∷ []) ≡ advance (force_after front) l
force-one front l = fold-append advance at_start front (l ∷ [])

-- the tokens are those of the fold, as far as they begin a task
same-from : (r : Roll) (front ls : List Lexeme) → tokens_of r front ≡ force.tokens_of r front → Begins (tokens_of r (front ++ ls))
    → tokens_after r front ls ≡ tokens_from r (force_after front) ls
same-from r front [] e b = refl
same-from r front (l ∷ ls) e b =
    let here : Begins (tokens_of r front) =
    begins-front (tokens_of r front) (tokens_after r front (l ∷ ls)) (subst Begins (tokens_of-append r front (l ∷ ls)) b) in
    let place : place_of (force_after front) ≡ place_after front = place-told r front (subst Begins e here) in
    let head : token_of r (place_after front) l ≡ force.token_of r (force_after front) l = ap (λ p. token_of r p l) (sym place) in
    let more : tokens_of r (front ++ l ∷ []) ≡ force.tokens_of r (front ++ l ∷ []) =
    tokens_of-append r front (l ∷ []) ∙ ap (λ ts. ts ++ token_of r (place_after front) l ∷ []) e
    ∙ ap (λ t. force.tokens_of r front ++ t ∷ []) head ∙ sym (force-append r at_start front (l ∷ [])) in
    let rest : tokens_after r (front ++ l ∷ []) ls ≡ tokens_from r (force_after (front ++ l ∷ [])) ls =
    same-from r (front ++ l ∷ []) ls more (subst (λ x. Begins (tokens_of r x)) (sym (append_assoc front (l ∷ []) ls)) b) in
    let after : tokens_after r (front ++ l ∷ []) ls ≡ tokens_from r (advance (force_after front) l) ls =
    rest ∙ ap (λ f. tokens_from r f ls) (force-one front l) in
    ap (λ t. t ∷ tokens_after r (front ++ l ∷ []) ls) head ∙ ap (λ ts. force.token_of r (force_after front) l ∷ ts) after

-- where the tokens that are told of lexemes begin a task, the fold finds the same tokens
pub tokens-found : (r : Roll) (ls : List Lexeme) → Begins (tokens_of r ls) → tokens_of r ls ≡ force.tokens_of r ls
tokens-found r ls b = same-from r [] ls refl b

told-from : (r : Roll) (front ls : List Lexeme) → Begins (force.tokens_of r (front ++ ls))
    → tokens_after r front ls ≡ tokens_from r (force_after front) ls
told-from r front [] b = refl
told-from r front (l ∷ ls) b =
    let here : Begins (force.tokens_of r front) =
    begins-front (force.tokens_of r front) (tokens_from r (force_after front) (l ∷ ls))
    (subst Begins (force-append r at_start front (l ∷ ls)) b) in
    let head : token_of r (place_after front) l ≡ force.token_of r (force_after front) l = ap (λ p. token_of r p l) (sym (place-told r front here)) in
    let rest : tokens_after r (front ++ l ∷ []) ls ≡ tokens_from r (advance (force_after front) l) ls =
    told-from r (front ++ l ∷ []) ls (subst (λ x. Begins (force.tokens_of r x)) (sym (append_assoc front (l ∷ []) ls)) b)
    ∙ ap (λ f. tokens_from r f ls) (force-one front l) in
    ap (λ t. t ∷ tokens_after r (front ++ l ∷ []) ls) head ∙ ap (λ ts. force.token_of r (force_after front) l ∷ ts) rest

-- where the tokens that the fold finds for lexemes begin a task, the same tokens are told
pub tokens-told : (r : Roll) (ls : List Lexeme) → Begins (force.tokens_of r ls) → tokens_of r ls ≡ force.tokens_of r ls
tokens-told r ls b = told-from r [] ls b

-- where the tokens that the fold finds for lexemes begin a task, those that are told begin one
pub begins-told : (r : Roll) (ls : List Lexeme) → Begins (force.tokens_of r ls) → Begins (tokens_of r ls)
begins-told r ls b = subst Begins (sym (tokens-told r ls b)) b

-- where the tokens that are told of lexemes begin a task, those that the fold finds begin one
pub begins-found : (r : Roll) (ls : List Lexeme) → Begins (tokens_of r ls) → Begins (force.tokens_of r ls)
begins-found r ls b = subst Begins (tokens-found r ls b) b

-- after lexemes that begin a task, what the fold finds to be in force is what is told there
pub places_are_force : PlacesAreForce
places_are_force r front b = place-told r front (begins-found r front b)
