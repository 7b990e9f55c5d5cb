-- As many levels are open as have a depth.
use Rattle.std.proofs.Common.{◌≡◌, ℕ, zero, suc, ◌+◌, Bool, true, false, not, ◌&&◌, ◌||◌, if◌then◌else◌, Option, Some, None, List, [], ◌∷◌, ◌++◌, length, refl, sym, ap, ◌∙◌, arith, length-append}
use Rattle.sift_lang.specs.declared.tree.Op.TheVariants.{Sub}
use Rattle.sift_parse.specs.declared.token.Sign.TheVariants.{OpenParen, CloseParen, OpenBrace, CloseBrace}
use Rattle.sift_parse.specs.Force.{opens_after}
use Rattle.sift_parse.specs.Lexeme.{Lexeme, operator, mark}
use Rattle.sift_parse.specs.Levels.{ends_operand, leaves_paren, ends_prim, passes_prim, is_open, opened, leaves}
use Rattle.sift_parse.proofs.Places.Tidy.{Open, brace, paren, minus}
use Rattle.sift_parse.proofs.Places.Depths.{Entry, run, listed, kind_of, entries}

-- ---- how many they are

abbrev there : Option ℕ → Bool
there None = false
there (Some n) = true

gone : (k : Open) (b : Option Lexeme) (ls : List Lexeme) → run k None b ls ≡ None
gone k b [] = refl
gone k b (l ∷ ls) = gone k (Some l) ls

none-there : (k : Open) (b : Option Lexeme) (ls : List Lexeme) → not true ≡ there (run k None b ls)
none-there k b ls = ap there (sym (gone k b ls))

brace-there : (n : ℕ) (b : Option Lexeme) (ls : List Lexeme) → not (leaves n ls) ≡ there (run brace (Some n) b ls)
brace-there n b [] = refl
brace-there n b (mark OpenBrace ∷ ls) = brace-there (suc n) (Some (mark OpenBrace)) ls
brace-there zero b (mark CloseBrace ∷ ls) = none-there brace (Some (mark CloseBrace)) ls
brace-there (suc n) b (mark CloseBrace ∷ ls) = brace-there n (Some (mark CloseBrace)) ls
brace-there n b (l ∷ ls) = brace-there n (Some l) ls

paren-there : (n : ℕ) (b : Option Lexeme) (ls : List Lexeme) → not (leaves_paren n ls) ≡ there (run paren (Some n) b ls)
paren-there n b [] = refl
paren-there n b (mark OpenParen ∷ ls) = paren-there (suc n) (Some (mark OpenParen)) ls
paren-there zero b (mark CloseParen ∷ ls) = none-there paren (Some (mark CloseParen)) ls
paren-there (suc n) b (mark CloseParen ∷ ls) = paren-there n (Some (mark CloseParen)) ls
paren-there n b (l ∷ ls) = paren-there n (Some l) ls

prim-over : (c : Bool) (l : Lexeme) (ls : List Lexeme) → not (passes_prim zero (Some l) ls) ≡ there (run minus (Some zero) (Some l) ls)
    → not (c || passes_prim zero (Some l) ls) ≡ there (run minus (if c then None else Some zero) (Some l) ls)
prim-over true l ls h = none-there minus (Some l) ls
prim-over false l ls h = h

minus-there : (n : ℕ) (b : Option Lexeme) (ls : List Lexeme) → not (passes_prim n b ls) ≡ there (run minus (Some n) b ls)
minus-there n b [] = refl
minus-there n b (mark OpenParen ∷ ls) = minus-there (suc n) (Some (mark OpenParen)) ls
minus-there zero b (mark CloseParen ∷ ls) = none-there minus (Some (mark CloseParen)) ls
minus-there (suc zero) b (mark CloseParen ∷ ls) = none-there minus (Some (mark CloseParen)) ls
minus-there (suc (suc n)) b (mark CloseParen ∷ ls) = minus-there (suc n) (Some (mark CloseParen)) ls
minus-there zero b (l ∷ ls) = prim-over (ends_prim b l) l ls (minus-there zero (Some l) ls)
minus-there (suc n) b (l ∷ ls) = minus-there (suc n) (Some l) ls

counted : (k : Open) (o : Option ℕ) (c s : Bool) → s ≡ there o → (if c && s then 1 else 0) ≡ length (if c then listed k o else [])
counted k (Some n) c true e = elim c as (λ c. (if c && true then 1 else 0) ≡ length (if c then listed k (Some n) else [])) [ true ↦ refl | false ↦ refl ]
counted k (Some n) c false e = absurd (let g : false ≡ true = e in cc)
counted k None c true e = absurd (let g : true ≡ false = e in cc)
counted k None c false e = elim c as (λ c. (if c && false then 1 else 0) ≡ length (if c then listed k None else [])) [ true ↦ refl | false ↦ refl ]

both-ways : (c s : Bool) → (s && c) ≡ (c && s)
both-ways true true = refl
both-ways true false = refl
both-ways false true = refl
both-ways false false = refl

one-counted : (b : Option Lexeme) (l : Lexeme) (ls : List Lexeme)
    → (if is_open b l ls then 1 else 0) ≡ length (if opens_after b l then listed (kind_of l) (run (kind_of l) (Some 0) (Some l) ls) else [])
one-counted b (mark OpenBrace) ls =
    counted brace (run brace (Some 0) (Some (mark OpenBrace)) ls) true (not (leaves 0 ls)) (brace-there 0 (Some (mark OpenBrace)) ls)
one-counted b (mark OpenParen) ls =
    counted paren (run paren (Some 0) (Some (mark OpenParen)) ls) true (not (leaves_paren 0 ls)) (paren-there 0 (Some (mark OpenParen)) ls)
one-counted b (operator Sub) ls =
    ap (λ c. if c then 1 else 0) (both-ways (not (ends_operand b)) (not (passes_prim 0 (Some (operator Sub)) ls)))
    ∙ counted minus (run minus (Some 0) (Some (operator Sub)) ls) (not (ends_operand b)) (not (passes_prim 0 (Some (operator Sub)) ls))
    (minus-there 0 (Some (operator Sub)) ls)
one-counted b l ls = refl

-- lexemes leave as many levels open as they have entries, each a level with its depth
pub opened-is : (b : Option Lexeme) (ls : List Lexeme) → opened b ls ≡ length (entries b ls)
opened-is b [] = refl
opened-is b (l ∷ ls) =
    let late : List Entry = (if opens_after b l then listed (kind_of l) (run (kind_of l) (Some 0) (Some l) ls) else []) in
    let e : (if is_open b l ls then 1 else 0) ≡ length late = one-counted b l ls in
    let h : opened (Some l) ls ≡ length (entries (Some l) ls) = opened-is (Some l) ls in
    let n : length (entries (Some l) ls ++ late) ≡ length (entries (Some l) ls) + length late = length-append (entries (Some l) ls) late in
    omega arith
