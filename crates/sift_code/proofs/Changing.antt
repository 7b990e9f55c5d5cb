-- Locals made 0 one by one.
use Rattle.std.proofs.Common.{◌≡◌, ℕ, ◌+◌, ◌<◌, ◌≤◌, List, [], ◌∷◌, ◌++◌, length, take, replicate, sym, ap, ◌∙◌, arith}
use Rattle.std.specs.Prelude.{slice_set}
use Rattle.std.proofs.lemmas.List.{take_more_set, replicate_more, take_all}
use Rattle.sift_code.specs.Work.{locals_of}
use Rattle.sift_code.proofs.Places.{locals_of-set, length-locals_of}

-- one more local is 0
pub zeros_more : (ws vs : List ℕ) (i w : ℕ) → i < 32 → 288 ≤ length ws → vs ≡ slice_set ws (256 + i) w → w ≡ 0
    → take i (locals_of ws) ≡ replicate i 0 → take (i + 1) (locals_of vs) ≡ replicate (i + 1) 0
zeros_more ws vs i w there room words none zeros =
    let here : locals_of vs ≡ slice_set (locals_of ws) i 0 = ap locals_of words ∙ (locals_of-set ws i w there ∙ ap (slice_set (locals_of ws) i) none) in
    ap (take (i + 1)) here ∙ (take_more_set (locals_of ws) i 0 (omega (arith, length-locals_of ws room)) ∙ (ap (λ l. l ++ 0 ∷ []) zeros ∙ replicate_more i 0))

-- all of them are
pub zeros_all : (ws : List ℕ) (i : ℕ) → i ≡ 32 → 288 ≤ length ws → take i (locals_of ws) ≡ replicate i 0 → locals_of ws ≡ replicate 32 0
zeros_all ws i all room zeros =
    sym (take_all i (locals_of ws) (omega (arith, length-locals_of ws room))) ∙ (zeros ∙ ap (λ n. replicate n 0) all)
