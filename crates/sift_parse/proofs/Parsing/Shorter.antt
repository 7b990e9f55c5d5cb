-- Fewer tokens are left behind what is taken.
use Rattle.std.proofs.Common.{◌≡◌, ℕ, ◌-◌, ◌<◌, ◌≤◌, Bool, true, false, List, [], ◌∷◌, ◌==◌, length, take, drop, refl, ap, arith, cond}
use Rattle.std.proofs.lemmas.List.{length-take-le}
use Rattle.sift_parse.specs.declared.token.Sign as signs
use Rattle.sift_parse.specs.declared.token.Token.{Token}
use Rattle.sift_parse.specs.declared.token.Token.TheVariants.{Name, Number, Index, Sign}
use Rattle.sift_parse.specs.declared.token.Sign.TheVariants.{Dot}
use Rattle.sift_parse.specs.Reading.{Outcome, found, fault, and_then, number_of, read_sign, read_name, read_number, read_index, read_word}

-- behind the first token
pub behind : (ts : List Token) → 1 ≤ length ts → length (take (length ts - 1) (drop 1 ts)) < length ts
behind [] le = absurd (omega arith)
behind (t ∷ ts) le = omega (arith, length-take-le (length (t ∷ ts) - 1) ts (omega arith))

-- what is left where something was found, and 0 where nothing was
abbrev left : {A : Type 0} → Outcome A → ℕ
left (found a rest) = length rest
left (fault bad) = 0

-- fewer tokens are left behind a name
pub behind-name : (ts us : List Token) (n : ℕ) → read_name ts ≡ found n us → length us < length ts
behind-name (Name k ∷ ts) us n e = (let l = ap left e in omega arith)
behind-name (_ ∷ ts) us n e = cc
behind-name [] us n e = cc

-- behind a number
pub behind-number : (ts us : List Token) (n : ℕ) → read_number ts ≡ found n us → length us < length ts
behind-number (Number k ∷ ts) us n e = (let l = ap left e in omega arith)
behind-number (_ ∷ ts) us n e = cc
behind-number [] us n e = cc

-- and behind the number of a word
pub behind-index : (ts us : List Token) (n : ℕ) → read_index ts ≡ found n us → length us < length ts
behind-index (Index k ∷ ts) us n e = (let l = ap left e in omega arith)
behind-index (_ ∷ ts) us n e = cc
behind-index [] us n e = cc

tested : (b : Bool) (u : signs.Sign) (ts us : List Token) → cond b (found (tt {0}) ts) (fault (Sign u ∷ ts)) ≡ found (tt {0}) us → length us < length (Sign u ∷ ts)
tested true u ts us e = (let l = ap left e in omega arith)
tested false u ts us e = cc

-- behind a sign
pub behind-sign : (s : signs.Sign) (ts us : List Token) → read_sign s ts ≡ found tt us → length us < length ts
behind-sign s (Sign u ∷ ts) us e = tested (number_of s == number_of u) u ts us e
behind-sign s (_ ∷ ts) us e = cc
behind-sign s [] us e = cc

indexed : (o : Outcome (Unit {0})) (vs us : List Token) (n : ℕ) → ((ws : List Token) → o ≡ found tt ws → length ws < length vs)
    → and_then o (λ _ ws. read_index ws) ≡ found n us → length us < length vs
indexed (found tt ws) vs us n s e = (let a = s ws refl in let b = behind-index ws us n e in omega arith)
indexed (fault bad) vs us n s e = cc

named : (o : Outcome ℕ) (ts us : List Token) (n : ℕ) → ((ws : List Token) (k : ℕ) → o ≡ found k ws → length ws < length ts)
    → and_then o (λ task ws. and_then (read_sign Dot ws) (λ _ vs. read_index vs)) ≡ found n us → length us < length ts
named (found k ws) ts us n s e = (let a = s ws k refl in let b = indexed (read_sign Dot ws) ws us n (λ vs h. behind-sign Dot ws vs h) e in omega arith)
named (fault bad) ts us n s e = cc

-- behind a task's word
pub behind-word : (ts us : List Token) (n : ℕ) → read_word ts ≡ found n us → length us < length ts
behind-word ts us n e = named (read_name ts) ts us n (λ ws k h. behind-name ts ws k h) e
