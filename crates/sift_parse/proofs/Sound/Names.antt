-- What a name or the number of a word stands for is there.
use Rattle.std.proofs.Common.{◌≡◌, ℕ, zero, suc, ◌+◌, ◌<◌, Bool, true, false, cond, Option, Some, List, [], ◌∷◌, length, take, sum, slice_index, arith}
use Rattle.std.specs.List.{position_from}
use Rattle.std.specs.Str.{bytes_eq}
use Rattle.std.proofs.lemmas.List.Sums.{sum_by-cons, sum_by-take-le}
use Rattle.sift_parse.specs.Roll.{first_word, Roll, number_in}
use Rattle.sift_parse.specs.Tokens.{local_of}

-- ---- names

position-step : (t : List ℕ → Bool) (b : Bool) (i n : ℕ) (xs : List (List ℕ)) → cond b (Some i) (position_from t (i + 1) xs) ≡ Some n
    → ((k : ℕ) → position_from t (i + 1) xs ≡ Some k → k < i + 1 + length xs) → n < i + suc (length xs)
position-step t true i n xs e h = let s : i ≡ n = cc in omega arith
position-step t false i n xs e h = let s = h n e in omega arith

position-below : (t : List ℕ → Bool) (xs : List (List ℕ)) (i n : ℕ) → position_from t i xs ≡ Some n → n < i + length xs
position-below t [] i n e = cc
position-below t (x ∷ xs) i n e = position-step t (t x) i n xs e (λ k h. position-below t xs (i + 1) k h)

-- the number of a name is below how many there are
pub number_in-below : (names : List (List ℕ)) (w : List ℕ) (n : ℕ) → number_in names w ≡ Some n → n < length names
number_in-below names w n e = let s = position-below (λ name. bytes_eq name w) names 0 n e in omega arith

local-step : (b : Bool) (n : ℕ) (older : List (List ℕ)) (o : Option ℕ) → cond b (Some (length older)) o ≡ Some n
    → (o ≡ Some n → n < length older) → n < suc (length older)
local-step true n older o e h = let s : length older ≡ n = cc in omega arith
local-step false n older o e h = let s = h e in omega arith

-- the number of a local is below how many live
pub local_of-below : (locals : List (List ℕ)) (w : List ℕ) (n : ℕ) → local_of locals w ≡ Some n → n < length locals
local_of-below [] w n e = cc
local_of-below (name ∷ older) w n e = local-step (bytes_eq name w) n older (local_of older w) e (local_of-below older w n)

-- ---- words

before-below : (xs : List ℕ) (i j m : ℕ) → i < j → m < slice_index xs i → sum (take i xs) + m < sum (take j xs)
before-below [] i j m lt h = absurd (omega arith)
before-below (x ∷ xs) i zero m lt h = absurd (omega arith)
before-below (x ∷ xs) zero (suc j) m lt h = omega (arith, sum_by-cons (λ x. x) x (take j xs))
before-below (x ∷ xs) (suc i) (suc j) m lt h =
    let s = before-below xs i j m (omega arith) h in omega (arith, sum_by-cons (λ x. x) x (take j xs), sum_by-cons (λ x. x) x (take i xs))

-- a word of an earlier task stands before those of this one
pub word-before : (r : Roll) (task this m : ℕ) → task < this → m < slice_index r.sizes task → first_word r task + m < first_word r this
word-before r task this m lt h = before-below r.sizes task this m lt h

-- a word of a task is one of all
pub word-below : (r : Roll) (task m : ℕ) → m < slice_index r.sizes task → first_word r task + m < sum r.sizes
word-below r task m h = let s = before-below r.sizes task (suc task) m (omega arith) h in omega (arith, sum_by-take-le (λ x. x) r.sizes (suc task))
