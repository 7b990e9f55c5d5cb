-- What carving and releasing make of a region.
use Rattle.std.proofs.Common.{◌≡◌, ℕ, ◌+◌, ◌<◌, ◌≤◌, List, [], ◌∷◌, ◌++◌, length, take, replicate, sum, get_or, Some, refl, sym, ap, subst, ◌∙◌, arith}
use Rattle.std.specs.Prelude.{slice_get}
use Rattle.std.proofs.lemmas.List.{length-map, take-map, map_push, length-append, length-take-le, length-replicate}
use Rattle.std.proofs.lemmas.List.Sums.{sum_by-take-le, sum_by_push}
use Rattle.std.proofs.lemmas.Option.{slice_get_within}
use Rattle.sift_pool.specs.Region.{Region, Extent, IsLive, Carves, with_span}
use Rattle.sift_pool.specs.Layout.{lengths, pieces, extents_from, IsLaid, laid_region}
use Rattle.sift_pool.proofs.Pieces.{take-pieces, pieces-take, pieces-append}
use Rattle.sift_pool.proofs.Extents.{extent, same_extent, slice_get-extents_from, take-extents_from, extents_from-push}
use Rattle.sift_pool.proofs.Live.{IsLive-newest}
use Rattle.sift_pool.proofs.Laid.{Holds, spans_are, count_is, used_is, laid_region-spans}

-- one more span, and zeros for it after the words that are there
pub IsLaid-push : (ps : List Extent) (ws : List ℕ) (number start len : ℕ) → IsLaid ps ws → number ≡ length ps → start ≡ length ws
    → IsLaid (ps ++ extent number start len ∷ []) (ws ++ replicate len 0)
IsLaid-push ps ws number start len laid next after =
    let lens = map_push (λ p. p.len) ps (extent number start len) in
    let more = extents_from-push 0 0 (lengths ps) len in
    let count : length (lengths ps) ≡ length ps = length-map ps (λ p. p.len) in
    let last : extent (0 + length (lengths ps)) (0 + sum (lengths ps)) len ≡ extent number start len =
    same_extent _ _ _ _ len len (omega (arith, count, next)) (omega (arith, laid.whole, after)) refl in
    let zeros : List ℕ = replicate len 0 in
    let long : length zeros ≡ len = length-replicate len 0 in
    record {
      in_order = rw lens (cc);
      whole = rw lens (omega (arith, laid.whole, sum_by_push (λ n. n) (lengths ps) len, length-append ws zeros, long));
    }

-- its words are the zeros
pieces-push : (ps : List Extent) (ws : List ℕ) (number start len : ℕ) → IsLaid ps ws
    → pieces (lengths (ps ++ extent number start len ∷ [])) (ws ++ replicate len 0) ≡ pieces (lengths ps) ws ++ replicate len 0 ∷ []
pieces-push ps ws number start len laid =
    let lens = map_push (λ p. p.len) ps (extent number start len) in
    let zeros : List ℕ = replicate len 0 in
    let long : length zeros ≡ len = length-replicate len 0 in
    let added = pieces-append (lengths ps) ws zeros laid.whole in
    rw lens (cc)

-- the first spans, and their words
IsLaid-take : (k : ℕ) (ps : List Extent) (ws : List ℕ) → IsLaid ps ws → IsLaid (take k ps) (take (sum (lengths (take k ps))) ws)
IsLaid-take k ps ws laid =
    let lens : lengths (take k ps) ≡ take k (lengths ps) = sym (take-map (λ p. p.len) k ps) in
    let some : sum (take k (lengths ps)) ≤ sum (lengths ps) = sum_by-take-le (λ n. n) (lengths ps) k in
    record {
      in_order = ap (take k) laid.in_order ∙ take-extents_from k 0 0 (lengths ps) ∙ ap (extents_from 0 0) (sym lens);
      whole = sym (length-take-le (sum (lengths (take k ps))) ws (omega (arith, laid.whole, some, ap sum lens)));
    }

-- the first spans have the words that they had
pieces-first : (k : ℕ) (ps : List Extent) (ws : List ℕ) → pieces (lengths (take k ps)) (take (sum (lengths (take k ps))) ws) ≡ take k (pieces (lengths ps) ws)
pieces-first k ps ws =
    let lens : lengths (take k ps) ≡ take k (lengths ps) = sym (take-map (λ p. p.len) k ps) in
    pieces-take (lengths (take k ps)) ws (sum (lengths (take k ps))) (omega arith)
    ∙ ap (λ ns. pieces ns ws) lens ∙ sym (take-pieces k (lengths ps) ws)

-- a span starts where those before it end
start_after : (k : ℕ) (ps : List Extent) (ws : List ℕ) (p : Extent) → IsLaid ps ws → slice_get ps k ≡ Some p → p.start ≡ sum (lengths (take k ps))
start_after k ps ws p laid found =
    let lens : lengths (take k ps) ≡ take k (lengths ps) = sym (take-map (λ p. p.len) k ps) in
    let there : k < length (lengths ps) =
    omega (arith, slice_get_within ps k p found, length-map ps (λ p. p.len)) in
    let own = slice_get-extents_from k 0 0 (lengths ps) there in
    let here = ap (λ qs. slice_get qs k) (sym laid.in_order) ∙ found in
    let same : extent (0 + k) (0 + sum (take k (lengths ps))) (get_or (lengths ps) k 0) ≡ p = cc in
    omega (arith, ap (λ q. q.start) same, ap sum lens)

-- the first spans, and the words before the next span
pub released : (ps : List Extent) (ws : List ℕ) (qs : List Extent) (vs : List ℕ) (k : ℕ) (own p : Extent) → IsLaid ps ws
    → slice_get ps k ≡ Some p → own ≡ p → qs ≡ take k ps → vs ≡ take own.start ws
    → IsLaid qs vs × (pieces (lengths qs) vs ≡ take k (pieces (lengths ps) ws))
released ps ws qs vs k own p laid found same first words =
    let start = ap (λ q. q.start) same ∙ start_after k ps ws p laid found in
    let words_are = words ∙ ap (λ n. take n ws) start in
    (rw (first, words_are) (IsLaid-take k ps ws laid), rw (first, words_are) (pieces-first k ps ws))

-- one more span, of zeros
pub carved : (capacity room : ℕ) (ps : List Extent) (ws : List ℕ) (region : Region) → Holds capacity room ps ws region
    → (capacity' room' : ℕ) (qs : List Extent) (vs : List ℕ) (number start len : ℕ) → capacity' ≡ capacity → room' ≡ room
    → number ≡ length ps → start ≡ length ws → qs ≡ ps ++ extent number start len ∷ [] → vs ≡ ws ++ replicate len 0
    → Carves region (laid_region capacity' room' qs vs) len (extent number start len)
carved capacity room ps ws region holds capacity' room' qs vs number start len same_capacity same_room next after spans words =
    let zeros : List ℕ = replicate len 0 in
    let last : pieces (lengths qs) vs ≡ region.spans ++ zeros ∷ [] =
    rw (spans, words, spans_are _ _ _ _ _ holds) (pieces-push ps ws number start len holds.laid) in
    let added : laid_region capacity' room' qs vs ≡ with_span region zeros =
    laid_region-spans _ _ _ _ _ holds _ _ _ _ _ same_capacity same_room last in
    let number_is = next ∙ sym (count_is _ _ _ _ _ holds) in
    let start_is = after ∙ sym (used_is _ _ _ _ _ holds) in
    let here = same_extent _ _ _ _ _ _ number_is start_is (sym (length-replicate len 0)) in
    let InNew : Region → Type 0 = λ new. IsLive new (extent number start len) in
    let Added : Extent → Type 0 = λ p. IsLive (with_span region zeros) p in
    record {
      zeros = added;
      newest = number_is;
      long = refl;
      live = subst InNew (sym added) (subst Added (sym here) (IsLive-newest region zeros));
    }
