-- A whole `let`, and the brackets of a block.
use Rattle.std.proofs.Common.{◌≡◌, ℕ, Bool, true, false, not, ◌&&◌, if◌then◌else◌, List, [], ◌∷◌, ◌++◌, length, refl, sym, ap, ◌∙◌, subst, append_assoc}
use Rattle.std.proofs.lemmas.List.{append-nil}
use Rattle.sift_parse.specs.declared.token.Sign.TheVariants.{OpenBrace, CloseBrace, Semicolon}
use Rattle.sift_parse.specs.Force.{oldest}
use Rattle.sift_parse.specs.Lexeme.{Lexeme, word, mark}
use Rattle.sift_parse.specs.Levels.{ends, leaves, local_by, living}
use Rattle.sift_parse.proofs.Places.Seen.{is_let, Balanced, Stays, balanced-stays, balanced-append, balanced-block, opened-stays, Settled, settled-append, living-append, none-after, oldest-append}
use Rattle.sift_parse.proofs.Places.Plain.{inside, Plain, plain-leaves, plain-goes-on, plain-ends, plain-living, LetOf, plain-settled, Phase, Hangs, Nest, nest-append, J, still, let_read, bound}
use Rattle.sift_parse.proofs.Places.Lets.{grow}

-- a whole `let`
let-settled : (b c : Bool) (w : List ℕ) (d : List Lexeme) → b ≡ true → c ≡ false → ends d ≡ true → Settled d
    → LetOf b (word w ∷ d) × (LetOf c d × Settled d)
let-settled true false w d h k e s = (e, (tt, s))
let-settled true true w d h k e s = absurd (let g : true ≡ false = k in cc)
let-settled false c w d h k e s = absurd (let g : false ≡ true = h in cc)

let-lives : (b c : Bool) (w : List ℕ) (d : List Lexeme) → b ≡ true → c ≡ false → ends d ≡ true → leaves 0 d ≡ false → living d ≡ []
    → (living d ++ (if c then local_by d else [])) ++ (if b then local_by (word w ∷ d) else []) ≡ w ∷ []
let-lives true false w d h k e s x = ap (λ y. (y ++ []) ++ local_by (word w ∷ d)) x ∙ by (ends d) (leaves 0 d) e s
  where
    by : (x y : Bool) → x ≡ true → y ≡ false → (if x && not y then w ∷ [] else []) ≡ w ∷ []
    by true false e s = refl
    by true true e s = absurd (let g : true ≡ false = s in cc)
    by false y e s = absurd (let g : false ≡ true = e in cc)
let-lives true true w d h k e s x = absurd (let g : true ≡ false = k in cc)
let-lives false c w d h k e s x = absurd (let g : false ≡ true = h in cc)

plain-end : (b : List Lexeme) → Plain b → Balanced (b ++ mark Semicolon ∷ [])
plain-end b h = balanced-append b (mark Semicolon ∷ []) (plain-leaves b h) (λ n d. refl)

-- after the `;` of a bound `let` its name is the newest local, the same blocks are open, and no `let` is
pub end-bound : (front : List Lexeme) (w : List ℕ) (ls : List (List ℕ)) (bs : List ℕ) → J front ls bs (bound w)
    → J (front ++ mark Semicolon ∷ []) (w ∷ ls) bs still
end-bound front w ls bs j =
    let k = j.hangs in
    let d : List Lexeme = k.inside ++ mark Semicolon ∷ [] in
    let whole : List Lexeme = word k.key ∷ word w ∷ d in
    let balanced : Balanced d = plain-end k.inside k.plain in
    let over : ends d ≡ true = plain-ends k.inside k.plain in
    let before : J j.base ls bs still =
    record {
      base = j.base;
      rest = [];
      split = sym (append-nil j.base);
      settled = j.settled;
      lives = j.lives;
      nest = j.nest;
      hangs = refl;
    } in
    let after : J (j.base ++ whole) (w ∷ ls) bs still =
    grow j.base whole ls (w ∷ []) bs (λ n e. balanced n e)
    (let-settled (is_let (word k.key)) (is_let (word w)) w d k.is_key k.is_name over
    (plain-settled k.inside (mark Semicolon ∷ []) k.plain (tt, tt))) (let-lives (is_let (word k.key))
    (is_let (word w)) w d k.is_key k.is_name over (balanced-stays d balanced 0)
    (plain-living k.inside (mark Semicolon ∷ []) k.plain refl)) before in
    let same : front ++ mark Semicolon ∷ [] ≡ j.base ++ whole =
    ap (λ x. x ++ mark Semicolon ∷ []) (j.split ∙ ap (λ x. j.base ++ x) k.is)
    ∙ append_assoc j.base (word k.key ∷ word w ∷ k.inside) (mark Semicolon ∷ []) in
    subst (λ f. J f (w ∷ ls) bs still) (sym same) after

-- after a `{` where no `let` is open the same locals live, and one more block is open, with their number
pub open-step : (front : List Lexeme) (ls : List (List ℕ)) (bs : List ℕ) → J front ls bs still
    → J (front ++ mark OpenBrace ∷ []) ls (length ls ∷ bs) still
open-step front ls bs j =
    let d : List Lexeme = mark OpenBrace ∷ [] in
    record {
      base = j.base ++ d;
      rest = [];
      split = ap (λ l. l ++ d) (j.split ∙ ap (λ l. j.base ++ l) j.hangs ∙ append-nil j.base) ∙ sym (append-nil (j.base ++ d));
      settled = settled-append j.base d j.settled (tt, tt);
      lives = j.lives ∙ sym (living-append j.base d j.settled (λ n. refl));
      nest = inside (j.base ++ d) j.base [] (length ls) bs refl (ap length j.lives) j.settled (λ n d. refl) j.nest;
      hangs = refl;
    }

pub record Closed (base : List Lexeme) (n : ℕ) (ns : List ℕ) : Type 0 where
  pub a : List Lexeme
  pub c : List Lexeme
  pub is : base ≡ a ++ mark OpenBrace ∷ c
  pub lived : n ≡ length (living a)
  pub settled : Settled a
  pub balanced : Balanced c
  pub nest : Nest a ns

closed : (base : List Lexeme) (n : ℕ) (ns : List ℕ) → Nest base (n ∷ ns) → Closed base n ns
closed base n ns (inside f a c m ms e k s b x) = record { a = a; c = c; is = e; lived = k; settled = s; balanced = b; nest = x }

-- after a `}` where no `let` is open the innermost block is closed, and those live that lived at its `{`
pub close-step : (front : List Lexeme) (ls : List (List ℕ)) (n : ℕ) (bs : List ℕ) → J front ls (n ∷ bs) still
    → J (front ++ mark CloseBrace ∷ []) (oldest n ls) bs still
close-step front ls n bs j =
    let x = closed j.base n bs j.nest in
    let d : List Lexeme = mark CloseBrace ∷ [] in
    let whole : List Lexeme = mark OpenBrace ∷ (x.c ++ d) in
    let all : front ≡ j.base = j.split ∙ ap (λ l. j.base ++ l) j.hangs ∙ append-nil j.base in
    let same : j.base ++ d ≡ x.a ++ whole = ap (λ l. l ++ d) x.is ∙ append_assoc x.a (mark OpenBrace ∷ x.c) d in
    let balanced : Balanced whole = balanced-block x.c x.balanced in
    let none : living whole ≡ [] = ap (λ l. l ++ []) (none-after x.c x.balanced) in
    let left_after : living (j.base ++ d) ≡ living x.a =
    ap living same ∙ living-append x.a whole x.settled (balanced-stays whole balanced) ∙ ap (λ l. l ++ living x.a) none in
    let held : ls ≡ living (mark OpenBrace ∷ x.c) ++ living x.a =
    j.lives ∙ ap living x.is ∙ living-append x.a (mark OpenBrace ∷ x.c) x.settled (opened-stays x.c x.balanced) in
    let left : oldest n ls ≡ living x.a =
    ap (λ n. oldest n ls) x.lived ∙ ap (oldest (length (living x.a))) held
    ∙ oldest-append (living (mark OpenBrace ∷ x.c)) (living x.a) in
    record {
      base = j.base ++ d;
      rest = [];
      split = ap (λ l. l ++ d) all ∙ sym (append-nil (j.base ++ d));
      settled = settled-append j.base d j.settled (tt, tt);
      lives = left ∙ sym left_after;
      nest = subst (λ l. Nest l bs) (sym same) (nest-append x.a whole bs balanced x.nest);
      hangs = refl;
    }

-- the locals are those that live
pub lives-all : (front : List Lexeme) (ls : List (List ℕ)) (bs : List ℕ) (p : Phase) → J front ls bs p → ls ≡ living front
lives-all front ls bs p j = j.lives ∙ by p j.hangs ∙ ap living (sym j.split)
  where
    none : (d : List Lexeme) → Stays d → living d ≡ [] → living j.base ≡ living (j.base ++ d)
    none d h e = ap (λ l. l ++ living j.base) (sym e) ∙ sym (living-append j.base d j.settled h)

    key : (b : Bool) → (if b then local_by [] else []) ≡ []
    key true = refl
    key false = refl

    dead : (b c : Bool) (w : List ℕ) (d : List Lexeme) → c ≡ false → ends d ≡ false → living d ≡ []
        → (living d ++ (if c then local_by d else [])) ++ (if b then local_by (word w ∷ d) else []) ≡ []
    dead b true w d k e x = absurd (let g : true ≡ false = k in cc)
    dead false false w d k e x = ap (λ y. (y ++ []) ++ []) x
    dead true false w d k e x = ap (λ y. (y ++ []) ++ local_by (word w ∷ d)) x ∙ ap (λ b. if b && not (leaves 0 d) then w ∷ [] else []) e

    by : (p : Phase) → Hangs j.rest p → living j.base ≡ living (j.base ++ j.rest)
    by still h = none j.rest (λ n. ap (leaves n) h) (ap living h)
    by let_read h = none j.rest (λ n. ap (leaves n) h.is) (ap living h.is ∙ key (is_let (word h.key)))
    by (bound w) h =
        none j.rest (λ n. ap (leaves n) h.is ∙ balanced-stays h.inside (plain-leaves h.inside h.plain) n)
        (ap living h.is ∙ dead (is_let (word h.key)) (is_let (word w)) w h.inside h.is_name (plain-goes-on h.inside h.plain)
        (ap living (sym (append-nil h.inside)) ∙ plain-living h.inside [] h.plain refl))
