-- What is told of a bus, frame by frame.
use Rattle.std.proofs.Common.{◌≡◌, ℕ, zero, suc, ◌+◌, ◌<◌, ◌||◌, Bool, true, false, List, [], ◌∷◌, ◌++◌, nat_lt, refl, sym, ap, ◌∙◌, arith}
use Rattle.std.specs.List.{flat_map, list_any, range_with_len}
use Rattle.std.proofs.lemmas.List.Concat.{flat_map-cons}
use Rattle.std.proofs.lemmas.List.Folds.{list_any-append}
use Rattle.sift_base.specs.laws.Ranges.{range-next}
use Rattle.sift_bus_jobs.specs.Text.{end_line, frame_text, words_text}

none_after : (b c : Bool) → (b || (c || false)) ≡ (b || c)
none_after true c = refl
none_after false true = refl
none_after false false = refl

-- a number more is tested
pub any_more : (p : ℕ → Bool) (n : ℕ) → list_any p (range_with_len 0 (n + 1)) ≡ (list_any p (range_with_len 0 n) || p n)
any_more p n = ap (list_any p) (range-next n) ∙ (list_any-append p (range_with_len 0 n) (n ∷ []) ∙ none_after (list_any p (range_with_len 0 n)) (p n))

-- texts that are one below a number are one together
same_texts : (text was : ℕ → List ℕ) (a n : ℕ) → ((f : ℕ) → f < a + n → text f ≡ was f) →
    flat_map text (range_with_len a n) ≡ flat_map was (range_with_len a n)
same_texts text was a zero all = refl
same_texts text was a (suc n) all =
    flat_map-cons text a (range_with_len (a + 1) n) ∙ ((λ i. all a (omega arith) i ++ same_texts text was (a + 1) n (λ f low. all f (omega arith)) i)
    ∙ sym (flat_map-cons was a (range_with_len (a + 1) n)))

same_any : (p q : ℕ → Bool) (a n : ℕ) → ((f : ℕ) → f < a + n → p f ≡ q f) → list_any p (range_with_len a n) ≡ list_any q (range_with_len a n)
same_any p q a zero all = refl
same_any p q a (suc n) all = λ i. all a (omega arith) i || same_any p q (a + 1) n (λ f low. all f (omega arith)) i

-- where a bus got as many words wrong in each frame, the same is told of it
pub same_text : (bus frames : ℕ) (words were : ℕ → ℕ) → ((f : ℕ) → f < frames → words f ≡ were f) → words_text bus frames words ≡ words_text bus frames were
same_text bus frames words were all = λ i.
    same_texts (λ f. frame_text bus f (words f)) (λ f. frame_text bus f (were f)) 0 frames (λ f low. ap (frame_text bus f) (all f (omega arith))) i
    ++ end_line bus (same_any (λ f. nat_lt 0 (words f)) (λ f. nat_lt 0 (were f)) 0 frames (λ f low. ap (nat_lt 0) (all f (omega arith))) i)
