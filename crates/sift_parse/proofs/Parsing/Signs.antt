-- Readers of a sign, a name and a number are lawful.
use Rattle.std.proofs.Common.{◌≡◌, ℕ, Bool, true, false, ◌==◌, if◌then◌else◌, cond, List, [], ◌∷◌, refl, sym, ap, ◌∙◌, subst, arith}
use Rattle.std.proofs.lemmas.Bool.Decides.{nat_tests}
use Rattle.sift_parse.specs.declared.token.Sign as signs
use Rattle.sift_parse.specs.declared.token.Sign.TheVariants.{Assign, OpenParen, CloseParen, OpenBrace, CloseBrace, Comma, Dot, Semicolon}
use Rattle.sift_parse.specs.declared.token.Token.{Token}
use Rattle.sift_parse.specs.declared.token.Token.TheVariants.{Name, Number, Index, Sign}
use Rattle.sift_parse.specs.Reading.{Outcome, found, fault, and_then, number_of, read_sign, read_name, read_number, read_index, read_word, closed_by}
use Rattle.sift_parse.proofs.Parsing.Laws.{Rel, Lawful, done, default-fault}
use Rattle.sift_parse.proofs.Parsing.Steps.{Then, in_turn, then_lawful, widened}
use Rattle.sift_parse.proofs.Parsing.Looks.{Picks, takes, leaves, choice, Same, same}

-- the sign of a number
abbrev sign_at : ℕ → signs.Sign
sign_at n =
    if n == 0 then Assign else
    (if n == 1 then OpenParen else
    (if n == 2 then CloseParen else
    (if n == 3 then OpenBrace else (if n == 4 then CloseBrace else (if n == 5 then Comma else (if n == 6 then Dot else Semicolon))))))

sign_at-number_of : (s : signs.Sign) → sign_at (number_of s) ≡ s
sign_at-number_of Assign = refl
sign_at-number_of OpenParen = refl
sign_at-number_of CloseParen = refl
sign_at-number_of OpenBrace = refl
sign_at-number_of CloseBrace = refl
sign_at-number_of Comma = refl
sign_at-number_of Dot = refl
sign_at-number_of Semicolon = refl

-- signs of one number are one sign
pub number_of-same : (s u : signs.Sign) → number_of s ≡ number_of u → s ≡ u
number_of-same s u e = sym (sign_at-number_of s) ∙ (ap sign_at e ∙ sign_at-number_of u)

-- the sign stands here
pub data SignHere (s : signs.Sign) : List Token → Unit {0} → List Token → Type 0 where
  is_sign : (u : Unit {0}) (rest : List Token) → SignHere s (Sign s ∷ rest) u rest

-- a name stands here
pub data NameHere : List Token → ℕ → List Token → Type 0 where
  is_name : (n : ℕ) (rest : List Token) → NameHere (Name n ∷ rest) n rest

-- a number stands here
pub data NumberHere : List Token → ℕ → List Token → Type 0 where
  is_number : (n : ℕ) (rest : List Token) → NumberHere (Number n ∷ rest) n rest

-- the number of a word stands here
pub data IndexHere : List Token → ℕ → List Token → Type 0 where
  is_index : (n : ℕ) (rest : List Token) → IndexHere (Index n ∷ rest) n rest

-- a task's word stands here
pub data WordHere : List Token → ℕ → List Token → Type 0 where
  is_word : (task w : ℕ) (rest : List Token) → WordHere (Name task ∷ Sign Dot ∷ Index w ∷ rest) w rest

-- the sign that is wanted is taken, and each other is left
sign_pick : (s u : signs.Sign) (b : Bool) → (number_of s == number_of u) ≡ b
    → Picks (Unit {0}) (SignHere s) (λ ts. fault ts) (Sign u) (λ ts. cond b (found tt ts) (fault (Sign u ∷ ts)))
sign_pick s u true e =
    takes (subst (λ v. Lawful (Unit {0}) (λ ts a rest. SignHere s (Sign v ∷ ts) a rest) (λ ts. found tt ts))
    (number_of-same s u (grind (arith, nat_tests))) (done (Unit {0}) (λ ts a rest. SignHere s (Sign s ∷ ts) a rest) tt (λ r. is_sign tt r)))
sign_pick s u false e = leaves (λ ts. refl)

sign_picks : (s : signs.Sign) (t : Token) → Picks (Unit {0}) (SignHere s) (λ ts. fault ts) t (λ ts. read_sign s (t ∷ ts))
sign_picks s (Sign u) = sign_pick s u (number_of s == number_of u) refl
sign_picks s t = leaves (λ ts. refl)

pub sign_lawful : (s : signs.Sign) → Lawful (Unit {0}) (SignHere s) (read_sign s)
sign_lawful s =
    choice (Unit {0}) (SignHere s) (λ ts. fault ts) (read_sign s)
    (default-fault (Unit {0}) (SignHere s) (record { back = Sign s ∷ []; made = tt; rest = λ r. is_sign tt r })) refl (sign_picks s)

name_picks : (t : Token) → Picks ℕ NameHere (λ ts. fault ts) t (λ ts. read_name (t ∷ ts))
name_picks (Name n) = takes (done ℕ (λ ts a rest. NameHere (Name n ∷ ts) a rest) n (is_name n))
name_picks t = leaves (λ ts. refl)

-- the reader of a name is lawful for a name that stands here
pub name_lawful : Lawful ℕ NameHere read_name
name_lawful =
    choice ℕ NameHere (λ ts. fault ts) read_name
    (default-fault ℕ NameHere (record { back = Name 0 ∷ []; made = 0; rest = is_name 0 })) refl name_picks

number_picks : (t : Token) → Picks ℕ NumberHere (λ ts. fault ts) t (λ ts. read_number (t ∷ ts))
number_picks (Number n) = takes (done ℕ (λ ts a rest. NumberHere (Number n ∷ ts) a rest) n (is_number n))
number_picks t = leaves (λ ts. refl)

-- the reader of a number is lawful for a number that stands here
pub number_lawful : Lawful ℕ NumberHere read_number
number_lawful =
    choice ℕ NumberHere (λ ts. fault ts) read_number
    (default-fault ℕ NumberHere (record { back = Number 0 ∷ []; made = 0; rest = is_number 0 })) refl number_picks

index_picks : (t : Token) → Picks ℕ IndexHere (λ ts. fault ts) t (λ ts. read_index (t ∷ ts))
index_picks (Index n) = takes (done ℕ (λ ts a rest. IndexHere (Index n ∷ ts) a rest) n (is_index n))
index_picks t = leaves (λ ts. refl)

-- the reader of a word's number is lawful for such a number that stands here
pub index_lawful : Lawful ℕ IndexHere read_index
index_lawful =
    choice ℕ IndexHere (λ ts. fault ts) read_index
    (default-fault ℕ IndexHere (record { back = Index 0 ∷ []; made = 0; rest = is_index 0 })) refl index_picks

word_rule : (ts rest : List Token) (w : ℕ) → Then ℕ ℕ NameHere (λ _. Then (Unit {0}) ℕ (SignHere Dot) (λ _. IndexHere)) ts w rest
    → WordHere ts w rest
word_rule ts rest w (in_turn us mid vs a b (is_name task m) (in_turn m1 m2 vs1 c d (is_sign e m3) (is_index n m4))) = is_word task n m4

-- the reader of a task's word is lawful for a name, a dot and a word's number that stand here
pub word_lawful : Lawful ℕ WordHere read_word
word_lawful =
    widened ℕ (Then ℕ ℕ NameHere (λ _. Then (Unit {0}) ℕ (SignHere Dot) (λ _. IndexHere))) WordHere read_word word_rule
    (then_lawful ℕ ℕ NameHere (λ _. Then (Unit {0}) ℕ (SignHere Dot) (λ _. IndexHere)) read_name
    (λ task us. and_then (read_sign Dot us) (λ _ vs. read_index vs)) name_lawful
    (λ task. then_lawful (Unit {0}) ℕ (SignHere Dot) (λ _. IndexHere) (read_sign Dot) (λ _ vs. read_index vs) (sign_lawful Dot)
    (λ _. index_lawful)))

-- what is related, with the sign after it
abbrev pub Closed : (A : Type 0) → signs.Sign → Rel A → Rel A
Closed A s D ts a rest = D ts a (Sign s ∷ rest)

closed_rule : (A : Type 0) (s : signs.Sign) (D : Rel A) (ts rest : List Token) (a : A)
    → Then A A D (λ a. Then (Unit {0}) A (SignHere s) (λ _. Same A a)) ts a rest → Closed A s D ts a rest
closed_rule A s D ts rest a (in_turn us mid vs b c d (in_turn m1 m2 vs1 e f (is_sign g m3) (same m4))) = d

-- a lawful reader that goes on to read a sign is lawful for what it reads with that sign after it
pub closed_lawful : (A : Type 0) (s : signs.Sign) (D : Rel A) (R : List Token → Outcome A) → Lawful A D R
    → Lawful A (Closed A s D) (closed_by s R)
closed_lawful A s D R r =
    widened A (Then A A D (λ a. Then (Unit {0}) A (SignHere s) (λ _. Same A a))) (Closed A s D) (closed_by s R) (closed_rule A s D)
    (then_lawful A A D (λ a. Then (Unit {0}) A (SignHere s) (λ _. Same A a)) R (λ a us. and_then (read_sign s us) (λ _ vs. found a vs)) r
    (λ a. then_lawful (Unit {0}) A (SignHere s) (λ _. Same A a) (read_sign s) (λ _ vs. found a vs) (sign_lawful s)
    (λ _. done A (Same A a) a same)))

-- a reader after a sign
pub data After (A : Type 0) (s : signs.Sign) (D : Rel A) : List Token → A → List Token → Type 0 where
  after_sign : (ts rest : List Token) (a : A) → D ts a rest → After A s D (Sign s ∷ ts) a rest

-- a sign and what is read behind it are what stands behind a sign
after_rule : (A : Type 0) (s : signs.Sign) (D : Rel A) (ts rest : List Token) (a : A) → Then (Unit {0}) A (SignHere s) (λ _. D) ts a rest
    → After A s D ts a rest
after_rule A s D ts rest a (in_turn us mid vs b c (is_sign g m3) d) = after_sign m3 vs c d

-- a lawful reader that first reads a sign is lawful for what it reads with that sign before it
pub after_lawful : (A : Type 0) (s : signs.Sign) (D : Rel A) (R : List Token → Outcome A) → Lawful A D R
    → Lawful A (After A s D) (λ ts. and_then (read_sign s ts) (λ _ us. R us))
after_lawful A s D R r =
    widened A (Then (Unit {0}) A (SignHere s) (λ _. D)) (After A s D) (λ ts. and_then (read_sign s ts) (λ _ us. R us)) (after_rule A s D)
    (then_lawful (Unit {0}) A (SignHere s) (λ _. D) (read_sign s) (λ _ us. R us) (sign_lawful s) (λ _. r))
