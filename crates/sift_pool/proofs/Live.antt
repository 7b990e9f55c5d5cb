-- Which spans are live, by the lengths of all spans.
use Rattle.std.proofs.Common.{◌≡◌, ℕ, suc, zero, ◌+◌, ◌<◌, ◌≤◌, List, [], ◌∷◌, length, map, take, sum, sum_by, get_or, set, Some, refl, sym, ap, subst, ◌∙◌, arith}
use Rattle.std.specs.Prelude.{slice_get}
use Rattle.std.proofs.lemmas.List.{length-map, take-map, get_or-map, length_push, take-append-le, take_at, get_or_append_left, get_or_at, take-take, get_or-take, length-take-le}
use Rattle.std.proofs.lemmas.List.Sums.{sum-map}
use Rattle.std.proofs.lemmas.Option.{slice_get_within}
use Rattle.sift_pool.specs.Region.{Region, Extent, IsLive, KeepsLive, KeepsLiveBelow, with_words, with_span, first_spans, words_at}
use Rattle.sift_pool.specs.Layout.{extents_from}
use Rattle.sift_pool.proofs.Extents.{extent, same_extent, slice_get-extents_from, length-extents_from}

-- among spans of these lengths there is one with this number, start and length
pub record IsAmong (lens : List ℕ) (p : Extent) : Type 0 where
  pub present : p.number < length lens
  pub starts : p.start ≡ sum (take p.number lens)
  pub long : p.len ≡ get_or lens p.number 0

-- a span starts after the lengths before it
start_of-map : (spans : List (List ℕ)) (n : ℕ) → sum_by length (take n spans) ≡ sum (take n (map length spans))
start_of-map spans n = sym (sum-map length (take n spans)) ∙ ap sum (sym (take-map length n spans))

-- a live span is among the lengths
pub IsAmong-from_live : (region : Region) (p : Extent) → IsLive region p → IsAmong (map length region.spans) p
IsAmong-from_live region p live = record {
  present = omega (arith, live.present, length-map region.spans length);
  starts = live.starts ∙ start_of-map region.spans p.number;
  long = live.long ∙ sym (get_or-map length region.spans p.number [] 0 live.present);
}

-- and a span among the lengths is live
pub IsLive-from_among : (region : Region) (p : Extent) → IsAmong (map length region.spans) p → IsLive region p
IsLive-from_among region p it =
    let there : p.number < length region.spans = omega (arith, it.present, length-map region.spans length) in
    record {
      present = there;
      starts = it.starts ∙ sym (start_of-map region.spans p.number);
      long = it.long ∙ get_or-map length region.spans p.number [] 0 there;
    }

-- the same lengths make the same spans live
pub KeepsLive-same_lengths : (old new : Region) → map length new.spans ≡ map length old.spans → KeepsLive old new
KeepsLive-same_lengths old new same p it =
    let M : List ℕ → Type 0 = λ lens. IsAmong lens p in
    IsLive-from_among new p (subst M (sym same) (IsAmong-from_live old p it))

-- other words of the same number leave the lengths
map-length-set : (spans : List (List ℕ)) (k : ℕ) (ws : List ℕ) → length ws ≡ length (get_or spans k []) → map length (set spans k ws) ≡ map length spans
map-length-set [] k ws same = refl
map-length-set (s ∷ spans) zero ws same = ap (λ n. n ∷ map length spans) same
map-length-set (s ∷ spans) (suc k) ws same = ap (λ ns. length s ∷ ns) (map-length-set spans k ws same)

-- other words of the same number leave each span live
pub KeepsLive-with_words : (region : Region) (k : ℕ) (ws : List ℕ) → length ws ≡ length (words_at region k) → KeepsLive region (with_words region k ws)
KeepsLive-with_words region k ws same =
    KeepsLive-same_lengths region (with_words region k ws) (map-length-set region.spans k ws same)

-- one more span leaves each span live
pub KeepsLive-with_span : (region : Region) (ws : List ℕ) → KeepsLive region (with_span region ws)
KeepsLive-with_span region ws p it = record {
  present = omega (arith, it.present, length_push region.spans ws);
  starts = it.starts ∙ ap (sum_by length) (sym (take-append-le p.number region.spans (ws ∷ []) (omega (arith, it.present))));
  long = it.long ∙ ap length (sym (get_or_append_left region.spans (ws ∷ []) [] p.number it.present));
}

-- the span that was added is live
pub IsLive-newest : (region : Region) (ws : List ℕ) → IsLive (with_span region ws) (extent (length region.spans) (sum_by length region.spans) (length ws))
IsLive-newest region ws = record {
  present = omega (arith, length_push region.spans ws);
  starts = ap (sum_by length) (sym (take_at region.spans (ws ∷ []) (length region.spans) refl));
  long = ap length (sym (get_or_at region.spans ws [] [] (length region.spans) refl));
}

-- of the first spans those are live that were live
pub KeepsLiveBelow-first_spans : (region : Region) (count : ℕ) → count ≤ length region.spans → KeepsLiveBelow count region (first_spans count region)
KeepsLiveBelow-first_spans region count within p = (
  λ it.
      let short : p.number < count = omega (arith, it.present, length-take-le count region.spans within) in (
        record {
          present = omega (arith, within, short);
          starts = it.starts ∙ ap (sum_by length) (take-take p.number count region.spans (omega (arith, short)));
          long = it.long ∙ ap length (get_or-take count region.spans p.number [] short);
        },
        short,
      ),
  λ both. record {
    present = omega (arith, both.1, length-take-le count region.spans within);
    starts = both.0.starts ∙ ap (sum_by length) (sym (take-take p.number count region.spans (omega (arith, both.1))));
    long = both.0.long ∙ ap length (sym (get_or-take count region.spans p.number [] both.1));
  },
)

-- a span among the lengths is the one at its number
pub slice_get-among : (ns : List ℕ) (p : Extent) → IsAmong ns p → slice_get (extents_from 0 0 ns) p.number ≡ Some p
slice_get-among ns p it =
    slice_get-extents_from p.number 0 0 ns it.present
    ∙ ap Some (same_extent _ p.number _ p.start _ p.len (omega arith) (omega (arith, it.starts)) (sym it.long))

-- and the one at its number is among the lengths
pub IsAmong-from_slice_get : (ns : List ℕ) (p : Extent) → slice_get (extents_from 0 0 ns) p.number ≡ Some p → IsAmong ns p
IsAmong-from_slice_get ns p found =
    let there : p.number < length ns =
    omega (arith, slice_get_within (extents_from 0 0 ns) p.number p found, length-extents_from 0 0 ns) in
    let own = slice_get-extents_from p.number 0 0 ns there in
    let same : extent (0 + p.number) (0 + sum (take p.number ns)) (get_or ns p.number 0) ≡ p = cc in
    record {
      present = there;
      starts = omega (arith, ap (λ q. q.start) same);
      long = sym (ap (λ q. q.len) same);
    }
