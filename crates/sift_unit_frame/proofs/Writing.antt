-- Words are written into a list one by one.
use Rattle.std.proofs.Common.{◌≡◌, ℕ, ◌+◌, ◌-◌, ◌<◌, ◌≤◌, ◌++◌, List, [], ◌∷◌, length, take, drop, sym, ap, ◌∙◌, arith}
use Rattle.std.specs.Prelude.{slice_index_or, slice_set}
use Rattle.std.proofs.lemmas.List.{set-append_right, length-take-le, drop_more, take_more, append_assoc}

-- one word more
pub write_more : (at i : ℕ) (list words : List ℕ) (x : ℕ) → at + length words ≤ length list → i < length words → x ≡ slice_index_or words i x →
    slice_set (take at list ++ (take i words ++ drop (at + i) list)) (at + i) x ≡ take at list ++ (take (i + 1) words ++ drop (at + (i + 1)) list)
write_more at i list words x room low is =
    let front = take at list in
    let done = take i words in
    let rest = drop (at + i) list in
    let long : length front ≡ at = length-take-le at list (omega arith) in
    let many : length done ≡ i = length-take-le i words (omega arith) in
    let here : at + i - at ≡ i = omega arith in
    let first : i - i ≡ 0 = omega arith in
    let next : at + i + 1 ≡ at + (i + 1) = omega arith in
    let over : slice_set rest 0 x ≡ x ∷ drop (at + (i + 1)) list = ap (λ xs. slice_set xs 0 x) (drop_more list (at + i) x (omega arith)) ∙ ap (λ n. x ∷ drop n list) next in
    let more : take (i + 1) words ≡ done ++ x ∷ [] = take_more words i x low ∙ ap (λ y. done ++ y ∷ []) (sym is) in
    set-append_right front (done ++ rest) at (at + i) x long (omega arith)
    ∙ ap (λ xs. front ++ xs) (ap (λ n. slice_set (done ++ rest) n x) here
    ∙ set-append_right done rest i i x many (omega arith)
    ∙ ap (λ n. done ++ slice_set rest n x) first
    ∙ ap (λ xs. done ++ xs) over
    ∙ sym (append_assoc done (x ∷ []) (drop (at + (i + 1)) list))
    ∙ ap (λ xs. xs ++ drop (at + (i + 1)) list) (sym more))
