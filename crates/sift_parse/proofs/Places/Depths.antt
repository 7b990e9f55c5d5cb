-- A level that is open, with how many of its kind are open inside it.
use Rattle.std.proofs.Common.{◌≡◌, ℕ, zero, suc, Bool, true, false, if◌then◌else◌, Option, Some, None, List, [], ◌∷◌, ◌++◌, refl, sym, ap, ◌∙◌, append_assoc}
use Rattle.std.proofs.lemmas.List.{append-nil}
use Rattle.sift_parse.specs.declared.token.Sign.TheVariants.{OpenParen, CloseParen, OpenBrace, CloseBrace}
use Rattle.sift_parse.specs.Lexeme.{Lexeme, mark}
use Rattle.sift_parse.specs.Tokens.{last_of}
use Rattle.sift_parse.specs.Force.{opens_after}
use Rattle.sift_parse.specs.Levels.{ends_prim}
use Rattle.sift_parse.proofs.Places.Tidy.{Open, brace, paren, minus}

-- ---- a level that is open, with how many of its kind are open inside it

pub record Entry : Type 0 where
  pub kind : Open
  pub depth : ℕ

-- what a lexeme after this one makes of the depth of an open level
abbrev pub step_to : Open → ℕ → Option Lexeme → Lexeme → Option ℕ
step_to brace n b (mark OpenBrace) = Some (suc n)
step_to brace zero b (mark CloseBrace) = None
step_to brace (suc n) b (mark CloseBrace) = Some n
step_to brace n b l = Some n
step_to paren n b (mark OpenParen) = Some (suc n)
step_to paren zero b (mark CloseParen) = None
step_to paren (suc n) b (mark CloseParen) = Some n
step_to paren n b l = Some n
step_to minus n b (mark OpenParen) = Some (suc n)
step_to minus zero b (mark CloseParen) = None
step_to minus (suc zero) b (mark CloseParen) = None
step_to minus (suc (suc n)) b (mark CloseParen) = Some (suc n)
step_to minus zero b l = if ends_prim b l then None else Some zero
step_to minus (suc n) b l = Some (suc n)

abbrev chain : Option ℕ → (ℕ → Option ℕ) → Option ℕ
chain None f = None
chain (Some n) f = f n

-- the depth after lexemes
abbrev pub run : Open → Option ℕ → Option Lexeme → List Lexeme → Option ℕ
run k o b [] = o
run k o b (l ∷ ls) = run k (chain o (λ n. step_to k n b l)) (Some l) ls

run-one : (k : Open) (o : Option ℕ) (b : Option Lexeme) (ls : List Lexeme) (x : Lexeme)
    → run k o b (ls ++ x ∷ []) ≡ chain (run k o b ls) (λ n. step_to k n (last_of b ls) x)
run-one k o b [] x = refl
run-one k o b (l ∷ ls) x = run-one k (chain o (λ n. step_to k n b l)) (Some l) ls x

-- the entry of a level of this kind, with its depth, or none where the level is closed
abbrev pub listed : Open → Option ℕ → List Entry
listed k None = []
listed k (Some n) = record { kind = k; depth = n } ∷ []

-- the kind of level that a lexeme opens
abbrev pub kind_of : Lexeme → Open
kind_of (mark OpenBrace) = brace
kind_of (mark OpenParen) = paren
kind_of l = minus

-- the levels that are open, the innermost first
abbrev pub entries : Option Lexeme → List Lexeme → List Entry
entries b [] = []
entries b (l ∷ ls) = entries (Some l) ls ++ (if opens_after b l then listed (kind_of l) (run (kind_of l) (Some 0) (Some l) ls) else [])

-- of these levels, those that a lexeme after this one leaves open, with their depths behind it
abbrev pub moved : Option Lexeme → Lexeme → List Entry → List Entry
moved b x [] = []
moved b x (e ∷ es) = listed e.kind (step_to e.kind e.depth b x) ++ moved b x es

moved-append : (b : Option Lexeme) (x : Lexeme) (es gs : List Entry) → moved b x (es ++ gs) ≡ moved b x es ++ moved b x gs
moved-append b x [] gs = refl
moved-append b x (e ∷ es) gs =
    ap (λ l. listed e.kind (step_to e.kind e.depth b x) ++ l) (moved-append b x es gs)
    ∙ sym (append_assoc (listed e.kind (step_to e.kind e.depth b x)) (moved b x es) (moved b x gs))

-- what a lexeme after this one opens
abbrev pub fresh : Option Lexeme → Lexeme → List Entry
fresh b x = if opens_after b x then listed (kind_of x) (Some 0) else []

listed-moved : (k : Open) (o : Option ℕ) (b : Option Lexeme) (x : Lexeme)
    → listed k (chain o (λ n. step_to k n b x)) ≡ moved b x (listed k o)
listed-moved k None b x = refl
listed-moved k (Some n) b x = sym (append-nil (listed k (step_to k n b x)))

one-moved : (c : Bool) (k : Open) (b : Option Lexeme) (ls : List Lexeme) (x : Lexeme)
    → (if c then listed k (run k (Some 0) b (ls ++ x ∷ [])) else []) ≡ moved (last_of b ls) x (if c then listed k (run k (Some 0) b ls) else [])
one-moved true k b ls x = ap (listed k) (run-one k (Some 0) b ls x) ∙ listed-moved k (run k (Some 0) b ls) (last_of b ls) x
one-moved false k b ls x = refl

-- the entries after one more lexeme are what it opens, and what it leaves open of those before it
pub entries-one : (b : Option Lexeme) (ls : List Lexeme) (x : Lexeme)
    → entries b (ls ++ x ∷ []) ≡ fresh (last_of b ls) x ++ moved (last_of b ls) x (entries b ls)
entries-one b [] x = sym (append-nil (fresh b x))
entries-one b (l ∷ ls) x =
    let c = opens_after b l in
    let k = kind_of l in
    let late : List Entry = (if c then listed k (run k (Some 0) (Some l) ls) else []) in
    let g = last_of (Some l) ls in
    ap (λ es. es ++ (if c then listed k (run k (Some 0) (Some l) (ls ++ x ∷ [])) else [])) (entries-one (Some l) ls x)
    ∙ ap (λ es. (fresh g x ++ moved g x (entries (Some l) ls)) ++ es) (one-moved c k (Some l) ls x)
    ∙ append_assoc (fresh g x) (moved g x (entries (Some l) ls)) (moved g x late)
    ∙ ap (λ es. fresh g x ++ es) (sym (moved-append g x (entries (Some l) ls) late))
