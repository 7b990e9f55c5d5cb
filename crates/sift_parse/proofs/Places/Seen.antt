-- What lives after lexemes and others that follow.
use Rattle.std.proofs.Common.{◌≡◌, ℕ, zero, suc, ◌-◌, Bool, true, false, not, ◌&&◌, if◌then◌else◌, List, [], ◌∷◌, ◌++◌, length, Some, drop, refl, sym, ap, ◌∙◌, subst, arith, append_assoc, length-append}
use Rattle.std.proofs.lemmas.List.{append-nil}
use Rattle.sift_parse.specs.declared.token.Sign.TheVariants.{OpenBrace, CloseBrace, Semicolon}
use Rattle.sift_parse.specs.Force.{oldest}
use Rattle.sift_parse.specs.Lexeme.{keyword_in, Lexeme, word, mark}
use Rattle.sift_parse.specs.Levels.{is_let_keyword, ends, leaves, local_by, living}

-- the lexeme is the keyword `let`
abbrev pub is_let : Lexeme → Bool
is_let l = is_let_keyword (keyword_in (Some l))

-- ---- what leaves a block

-- the lexemes close what they open, and no more
abbrev pub Balanced : List Lexeme → Type 0
Balanced c = (n : ℕ) (d : List Lexeme) → leaves n (c ++ d) ≡ leaves n d

-- the lexemes leave no block
abbrev pub Stays : List Lexeme → Type 0
Stays d = (n : ℕ) → leaves n d ≡ false

-- lexemes that close what they open, and no more, leave no block
pub balanced-stays : (c : List Lexeme) → Balanced c → Stays c
balanced-stays c h n = subst (λ l. leaves n l ≡ false) (append-nil c) (h n [])

-- balanced lexemes one after another are balanced
pub balanced-append : (c d : List Lexeme) → Balanced c → Balanced d → Balanced (c ++ d)
balanced-append c d h k n e = ap (leaves n) (append_assoc c d e) ∙ h n (d ++ e) ∙ k n e

-- balanced lexemes in braces are balanced
pub balanced-block : (c : List Lexeme) → Balanced c → Balanced (mark OpenBrace ∷ (c ++ mark CloseBrace ∷ []))
balanced-block c h n e = ap (leaves (suc n)) (append_assoc c (mark CloseBrace ∷ []) e) ∙ h (suc n) (mark CloseBrace ∷ e)

-- a `{` and balanced lexemes after it leave no block
pub opened-stays : (c : List Lexeme) → Balanced c → Stays (mark OpenBrace ∷ c)
opened-stays c h n = balanced-stays c h (suc n)

leaves-append : (n : ℕ) (b d : List Lexeme) → Stays d → leaves n (b ++ d) ≡ leaves n b
leaves-append n [] d h = h n
leaves-append n (mark OpenBrace ∷ b) d h = leaves-append (suc n) b d h
leaves-append zero (mark CloseBrace ∷ b) d h = refl
leaves-append (suc n) (mark CloseBrace ∷ b) d h = leaves-append n b d h
leaves-append n (l ∷ b) d h = leaves-append n b d h

leaves-front : (n : ℕ) (p s : List Lexeme) → leaves n (p ++ s) ≡ false → leaves n p ≡ false
leaves-front n [] s h = refl
leaves-front n (mark OpenBrace ∷ p) s h = leaves-front (suc n) p s h
leaves-front zero (mark CloseBrace ∷ p) s h = h
leaves-front (suc n) (mark CloseBrace ∷ p) s h = leaves-front n p s h
leaves-front n (l ∷ p) s h = leaves-front n p s h

leaves-fewer : (n : ℕ) (e : List Lexeme) → leaves (suc n) e ≡ true → leaves n e ≡ true
leaves-fewer n [] h = h
leaves-fewer n (mark OpenBrace ∷ e) h = leaves-fewer (suc n) e h
leaves-fewer zero (mark CloseBrace ∷ e) h = refl
leaves-fewer (suc n) (mark CloseBrace ∷ e) h = leaves-fewer n e h
leaves-fewer n (l ∷ e) h = leaves-fewer n e h

leaves-least : (n : ℕ) (e : List Lexeme) → leaves n e ≡ true → leaves 0 e ≡ true
leaves-least zero e h = h
leaves-least (suc n) e h = leaves-least n e (leaves-fewer n e h)

-- what leaves a block at last leaves it after a front that doesn't
leaves-back : (n : ℕ) (p e : List Lexeme) → leaves n (p ++ e) ≡ true → leaves n p ≡ false → leaves 0 e ≡ true
leaves-back n [] e h k = leaves-least n e h
leaves-back n (mark OpenBrace ∷ p) e h k = leaves-back (suc n) p e h k
leaves-back zero (mark CloseBrace ∷ p) e h k = absurd (let g : true ≡ false = k in cc)
leaves-back (suc n) (mark CloseBrace ∷ p) e h k = leaves-back n p e h k
leaves-back n (l ∷ p) e h k = leaves-back n p e h k

-- ---- lexemes whose `let` statements are over

abbrev pub SettledLet : Bool → List Lexeme → Type 0
SettledLet true (word w ∷ ls) = ends ls ≡ true
SettledLet true _ = ⊥
SettledLet false ls = Unit {0}

-- behind each `let` among the lexemes a word stands, and a `;` behind that: its statement is over
abbrev pub Settled : List Lexeme → Type 0
Settled [] = Unit {0}
Settled (l ∷ ls) = SettledLet (is_let l) ls × Settled ls

ends-append : (b d : List Lexeme) → ends b ≡ true → ends (b ++ d) ≡ true
ends-append [] d h = absurd (let g : false ≡ true = h in cc)
ends-append (mark Semicolon ∷ b) d h = refl
ends-append (l ∷ b) d h = ends-append b d h

settled-let : (b : Bool) (ls d : List Lexeme) → SettledLet b ls → SettledLet b (ls ++ d)
settled-let true (word w ∷ ls) d h = ends-append ls d h
settled-let true [] d h = absurd h
settled-let true (l ∷ ls) d h = absurd h
settled-let false ls d h = tt

-- where the `let` statements of lexemes are over, and those of others, they are over in both joined
pub settled-append : (a d : List Lexeme) → Settled a → Settled d → Settled (a ++ d)
settled-append [] d h k = k
settled-append (l ∷ a) d h k = (settled-let (is_let l) a d h.0, settled-append a d h.1 k)

same-local : (b : Bool) (ls d : List Lexeme) → SettledLet b ls → Stays d
    → (if b then local_by (ls ++ d) else []) ≡ (if b then local_by ls else [])
same-local false ls d h k = refl
same-local true [] d h k = absurd h
same-local true (word w ∷ ls) d h k = by (ends-append ls d h) (leaves-append 0 ls d k)
  where
    by : ends (ls ++ d) ≡ true → leaves 0 (ls ++ d) ≡ leaves 0 ls → local_by (word w ∷ (ls ++ d)) ≡ local_by (word w ∷ ls)
    by e g = ap (λ b. if b && not (leaves 0 (ls ++ d)) then w ∷ [] else []) (e ∙ sym h) ∙ ap (λ b. if ends ls && not b then w ∷ [] else []) g
same-local true (l ∷ ls) d h k = absurd h

-- what lives after lexemes lives after others that leave no block
pub living-append : (a d : List Lexeme) → Settled a → Stays d → living (a ++ d) ≡ living d ++ living a
living-append [] d h k = sym (append-nil (living d))
living-append (l ∷ a) d h k =
    ap (λ x. x ++ (if is_let l then local_by (a ++ d) else [])) (living-append a d h.1 k)
    ∙ (append_assoc (living d) (living a) (if is_let l then local_by (a ++ d) else [])
    ∙ ap (λ x. living d ++ (living a ++ x)) (same-local (is_let l) a d h.0 k))

-- ---- at the end of a block

dead : (b : Bool) (s : List Lexeme) → leaves 0 (s ++ mark CloseBrace ∷ []) ≡ true
    → (if b then local_by (s ++ mark CloseBrace ∷ []) else []) ≡ []
dead false s h = refl
dead true [] h = refl
dead true (word w ∷ s) h = by (ends (s ++ mark CloseBrace ∷ [])) (leaves 0 (s ++ mark CloseBrace ∷ [])) h
  where
    by : (x y : Bool) → y ≡ true → (if x && not y then w ∷ [] else []) ≡ []
    by x false e = absurd (let g : false ≡ true = e in cc)
    by true true e = refl
    by false true e = refl
dead true (l ∷ s) h = refl

none-live : (p s : List Lexeme) → leaves 0 (p ++ s) ≡ false → leaves 0 (p ++ (s ++ mark CloseBrace ∷ [])) ≡ true
    → living (s ++ mark CloseBrace ∷ []) ≡ []
none-live p [] h k = refl
none-live p (l ∷ s) h k =
    let one : (p ++ l ∷ []) ++ s ≡ p ++ (l ∷ s) = append_assoc p (l ∷ []) s in
    let two : (p ++ l ∷ []) ++ (s ++ mark CloseBrace ∷ []) ≡ p ++ (l ∷ (s ++ mark CloseBrace ∷ [])) = append_assoc p (l ∷ []) (s ++ mark CloseBrace ∷ []) in
    let stays : leaves 0 ((p ++ l ∷ []) ++ s) ≡ false = ap (leaves 0) one ∙ h in
    let goes : leaves 0 ((p ++ l ∷ []) ++ (s ++ mark CloseBrace ∷ [])) ≡ true = ap (leaves 0) two ∙ k in
    let last : leaves 0 (s ++ mark CloseBrace ∷ []) ≡ true =
    leaves-back 0 (p ++ l ∷ []) (s ++ mark CloseBrace ∷ []) goes (leaves-front 0 (p ++ l ∷ []) s stays) in
    ap (λ x. x ++ (if is_let l then local_by (s ++ mark CloseBrace ∷ []) else [])) (none-live (p ++ l ∷ []) s stays goes) ∙ dead (is_let l) s last

-- no local of a block lives after it
pub none-after : (c : List Lexeme) → Balanced c → living (c ++ mark CloseBrace ∷ []) ≡ []
none-after c h = none-live [] c (balanced-stays c h 0) (h 0 (mark CloseBrace ∷ []))

drop-front : (xs ys : List (List ℕ)) → drop (length xs) (xs ++ ys) ≡ ys
drop-front [] ys = refl
drop-front (x ∷ xs) ys = drop-front xs ys

-- of newer locals before older ones, the oldest, as many as the older ones are, are just these
pub oldest-append : (xs ys : List (List ℕ)) → oldest (length ys) (xs ++ ys) ≡ ys
oldest-append xs ys =
    let n : length (xs ++ ys) - length ys ≡ length xs = (let h = length-append xs ys in omega arith) in
    ap (λ n. drop n (xs ++ ys)) n ∙ drop-front xs ys
