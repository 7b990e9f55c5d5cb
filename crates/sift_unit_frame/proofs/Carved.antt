-- What a step on a pool makes of its spans.
use Rattle.std.proofs.Common.{◌≡◌, ℕ, ◌+◌, ◌<◌, ◌≤◌, List, [], ◌∷◌, ◌++◌, length, take, replicate, sum_by, Option, Some, None, refl, sym, ap, ◌∙◌, arith}
use Rattle.std.specs.Prelude.{slice_index_or}
use Rattle.std.proofs.lemmas.List.{get_or_append_left, get_or_push, get_or-take, length_push, length-replicate, length-take-le, take_all}
use Rattle.std.proofs.lemmas.List.Sums.{sum_by_push, sum_by_more}
use Rattle.sift_pool.specs.Region.{Region, Extent, KeepsLive, KeepsLiveBelow, Carves, words_at, first_spans, left_in}
use Rattle.sift_unit_frame.specs.Carving.{Adds, Rewords, IsSpan, HasScratch, IsCarved, words_of_a_run}

-- a span that was carved is one more, and all else stays
pub adds : (old new : Region) (len : ℕ) (span : Extent) → Carves old new len span → KeepsLive old new → len ≤ left_in old → Adds old new len span
adds old new len span c kept fits =
    let zeros : List ℕ = replicate len 0 in
    let spans : new.spans ≡ old.spans ++ zeros ∷ [] = ap (λ (r : Region). r.spans) c.zeros in
    let capacity : new.capacity ≡ old.capacity = ap (λ (r : Region). r.capacity) c.zeros in
    let used = ap (sum_by length) spans ∙ sum_by_push length old.spans zeros in
    let long : length zeros ≡ len = length-replicate len 0 in
    record {
      newest = c.newest;
      long = c.long;
      live = c.live;
      words = (λ i. slice_index_or (spans i) (c.newest i) []) ∙ get_or_push old.spans zeros [] (length old.spans) refl;
      count = ap length spans ∙ length_push old.spans zeros;
      left = omega (arith, used, capacity, long, fits);
      room = ap (λ (r : Region). r.room) c.zeros;
      capacity = capacity;
      kept = kept;
      others = λ n low. ap (λ xs. slice_index_or xs n []) spans ∙ get_or_append_left old.spans (zeros ∷ []) [] n low;
    }

-- ---- the spans of a frame

-- a span has as many words as it says
span_long : (pool : Region) (span : Extent) (number len : ℕ) → IsSpan pool span number len → length (words_at pool number) ≡ len
span_long pool span number len s = ap (λ n. length (words_at pool n)) (sym s.numbered) ∙ sym s.live.long ∙ s.long

module _ (old new : Region) (kept : KeepsLive old new) where
  -- what was live is live still
  span_kept : (span : Extent) (number len : ℕ) → IsSpan old span number len → IsSpan new span number len
  span_kept span number len s = record { live = kept span s.live; numbered = s.numbered; long = s.long }

  scratch_kept : (words : ℕ) (made : Option Extent) → length new.spans ≡ length old.spans → HasScratch old words made → HasScratch new words made
  scratch_kept words None count s = count ∙ s
  scratch_kept words (Some span) count s = (span_kept span 4 words s.0, count ∙ s.1)

module _ (pool : Region) (agreed before voted work : Extent) (mark : ℕ) where
  -- there are four spans at least
  pub four : (made : Option Extent) (sensors words : ℕ) → IsCarved pool agreed before voted work mark made sensors words → 4 ≤ length pool.spans
  four None sensors words c = let n = c.scratch in omega arith
  four (Some span) sensors words c = let n = c.scratch.1 in omega arith

  -- other words leave the spans
  pub carved_reworded : (made : Option Extent) (sensors words number : ℕ) (ws : List ℕ) (new : Region) → IsCarved pool agreed before voted work mark made sensors words →
      Rewords pool new number ws → IsCarved new agreed before voted work mark made sensors words
  carved_reworded made sensors words number ws new c r = record {
    holds_agreed = span_kept pool new r.kept agreed _ _ c.holds_agreed;
    holds_before = span_kept pool new r.kept before _ _ c.holds_before;
    holds_voted = span_kept pool new r.kept voted _ _ c.holds_voted;
    holds_work = span_kept pool new r.kept work _ _ c.holds_work;
    marked = c.marked;
    scratch = scratch_kept pool new r.kept words made r.count c.scratch;
    room = r.room ∙ c.room;
    capacity = r.capacity ∙ c.capacity;
  }

  -- behind the mark there is room for one word each
  pub scratch_room : (sensors words : ℕ) → IsCarved pool agreed before voted work mark None sensors words → left_in pool ≡ words
  scratch_room sensors words c =
      let spans = pool.spans in
      let count : length spans ≡ 4 = c.scratch in
      let all : take 4 spans ≡ spans = take_all 4 spans (omega arith) in
      omega (
        arith,
        c.capacity,
        ap (sum_by length) all,
        sum_by_more length spans 0 [] (omega arith),
        sum_by_more length spans 1 [] (omega arith),
        sum_by_more length spans 2 [] (omega arith),
        sum_by_more length spans 3 [] (omega arith),
        span_long pool agreed 0 sensors c.holds_agreed,
        span_long pool before 1 words c.holds_before,
        span_long pool voted 2 words c.holds_voted,
        span_long pool work 3 words_of_a_run c.holds_work,
      )

  -- a span for made words is carved there
  pub carved_added : (sensors words : ℕ) (new : Region) (span : Extent) → IsCarved pool agreed before voted work mark None sensors words →
      Adds pool new words span → IsCarved new agreed before voted work mark (Some span) sensors words
  carved_added sensors words new span c a = record {
    holds_agreed = span_kept pool new a.kept agreed _ _ c.holds_agreed;
    holds_before = span_kept pool new a.kept before _ _ c.holds_before;
    holds_voted = span_kept pool new a.kept voted _ _ c.holds_voted;
    holds_work = span_kept pool new a.kept work _ _ c.holds_work;
    marked = c.marked;
    scratch = (record { live = a.live; numbered = a.newest ∙ c.scratch; long = a.long }, a.count ∙ ap (λ n. n + 1) c.scratch);
    room = a.room ∙ c.room;
    capacity = a.capacity ∙ c.capacity;
  }

  module _ (made : Option Extent) (sensors words : ℕ) (new : Region) (c : IsCarved pool agreed before voted work mark made sensors words)
      (first : new ≡ first_spans mark pool) (kept : KeepsLiveBelow mark pool new) where
    -- a span before the mark is kept
    span_first : (span : Extent) (number len : ℕ) → number < 4 → IsSpan pool span number len → IsSpan new span number len
    span_first span number len low s = record {
      live = (kept span).1 (s.live, (let m = c.marked in let n = s.numbered in omega arith));
      numbered = s.numbered;
      long = s.long;
    }

    -- and released is the one behind it
    pub carved_released : IsCarved new agreed before voted work mark None sensors words
    carved_released =
        let enough = four made sensors words c in
        record {
          holds_agreed = span_first agreed _ _ (omega arith) c.holds_agreed;
          holds_before = span_first before _ _ (omega arith) c.holds_before;
          holds_voted = span_first voted _ _ (omega arith) c.holds_voted;
          holds_work = span_first work _ _ (omega arith) c.holds_work;
          marked = c.marked;
          scratch = ap (λ (r : Region). length r.spans) first ∙ ap (λ n. length (take n pool.spans)) c.marked ∙ length-take-le 4 pool.spans enough;
          room = ap (λ (r : Region). r.room) first ∙ c.room;
          capacity = ap (λ (r : Region). r.capacity) first ∙ c.capacity;
        }

    -- the words before it stay
    pub words_first : (n : ℕ) → n < 4 → words_at new n ≡ words_at pool n
    words_first n low =
        ap (λ (r : Region). words_at r n) first ∙ ap (λ k. slice_index_or (take k pool.spans) n []) c.marked ∙ get_or-take 4 pool.spans n [] low
