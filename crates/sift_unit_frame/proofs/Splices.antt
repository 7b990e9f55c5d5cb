-- Lists that are made anew from a place on.
use Rattle.std.proofs.Common.{◌≡◌, ℕ, zero, suc, ◌+◌, ◌<◌, ◌≤◌, ◌++◌, List, [], ◌∷◌, length, take, drop, Bool, true, false, refl, ap, subst, arith}
use Rattle.std.specs.Prelude.{slice_index}
use Rattle.sift_unit_frame.specs.Memory.{renewed}

module _ (test : ℕ → Bool) (value : ℕ → ℕ) where
  -- where no place from here on passes, the list is as it was
  same_after : (xs : List ℕ) (i : ℕ) → ((w : ℕ) → i ≤ w → test w ≡ false) → renewed test value xs i ≡ xs
  same_after [] i after = refl
  same_after (x ∷ xs) i after = rw (after i (omega arith)) (ap (λ ys. x ∷ ys) (same_after xs (suc i) (λ w low. after w (omega arith))))

  -- the words are the values of the next places, which pass
  abbrev pub AreMade : ℕ → List ℕ → Type 0
  AreMade i words = (j : ℕ) → j < length words → (test (i + j) ≡ true) × (value (i + j) ≡ slice_index words j)

  -- where just the first places pass, words stand there
  words_first : (xs words : List ℕ) (i : ℕ) → length words ≤ length xs → AreMade i words → ((w : ℕ) → i + length words ≤ w → test w ≡ false)
      → renewed test value xs i ≡ words ++ drop (length words) xs
  words_first xs [] i room own after = same_after xs i (λ w low. after w (omega arith))
  words_first [] (word ∷ words) i room own after = absurd (omega arith)
  words_first (x ∷ xs) (word ∷ words) i room own after =
      let zero_more : i + 0 ≡ i = omega arith in
      let here = own 0 (omega arith) in
      let passes : test i ≡ true = subst (λ n. test n ≡ true) zero_more here.0 in
      let is : value i ≡ word = subst (λ n. value n ≡ word) zero_more here.1 in
      rw (passes, is) (ap (λ ys. word ∷ ys) (words_first xs words (suc i) (omega arith)
      (λ j low. let more : i + suc j ≡ suc i + j = omega arith in rw (← more) (own (suc j) (omega arith)))
      (λ w low. after w (omega arith))))

  -- where just the places from one on pass, words stand there
  pub splice_is : (xs words : List ℕ) (i at : ℕ) → at + length words ≤ length xs → AreMade (i + at) words
      → ((w : ℕ) → w < i + at → test w ≡ false) → ((w : ℕ) → i + at + length words ≤ w → test w ≡ false)
      → renewed test value xs i ≡ take at xs ++ (words ++ drop (at + length words) xs)
  splice_is xs words i zero room own before after =
      let none : i + 0 ≡ i = omega arith in let start : 0 + length words ≡ length words = omega arith in
      rw start (words_first xs words i (omega arith) (rw none at own) (λ w low. after w (omega arith)))
  splice_is [] words i (suc at) room own before after = absurd (omega arith)
  splice_is (x ∷ xs) words i (suc at) room own before after =
      let more : i + suc at ≡ suc i + at = omega arith in let past : suc at + length words ≡ suc (at + length words) = omega arith in
      rw (before i (omega arith), past) (ap (λ ys. x ∷ ys) (splice_is xs words (suc i) at (omega arith) (rw more at own) (λ w low. before w (omega arith)) (λ w low. after w (omega arith))))
