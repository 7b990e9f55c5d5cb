-- A region whose spans lie one after another in the words of a pool.
use Rattle.std.proofs.Common.{◌≡◌, ℕ, ◌+◌, ◌-◌, ◌<◌, ◌≤◌, ◌↔◌, List, ◌++◌, length, map, take, drop, sum, sum_by, get_or, set, Option, Some, refl, sym, ap, subst, ◌∙◌, arith}
use Rattle.std.specs.Prelude.{slice_get, slice_range}
use Rattle.std.specs.List.{concat}
use Rattle.std.proofs.lemmas.List.{length-map, take_at}
use Rattle.std.proofs.lemmas.List.Sums.{sum-map, sum_by_more_le}
use borrow.Rule.Slice.PartMut.{put_mid}
use Rattle.sift_pool.specs.Region.{Region, Extent, IsLive, words_at, left_in, start_of}
use Rattle.sift_pool.specs.Lending.{written_from, with_words_from}
use Rattle.sift_pool.specs.Layout.{lengths, pieces, IsLaid, laid_region}
use Rattle.sift_pool.proofs.Pieces.{map-length-pieces, length-pieces, get_or-pieces, pieces-set, pieces-put_mid, length-put_mid, concat-pieces, piece-get_or}
use Rattle.sift_pool.proofs.Live.{IsAmong, IsAmong-from_live, IsLive-from_among, slice_get-among, IsAmong-from_slice_get}

-- a pool of these spans and words is seen as the region
pub record Holds (capacity room : ℕ) (ps : List Extent) (ws : List ℕ) (region : Region) : Type 0 where
  pub seen : laid_region capacity room ps ws ≡ region
  pub laid : IsLaid ps ws

-- what an answer knows of an open pool
pub held : (capacity room : ℕ) (ps : List Extent) (ws : List ℕ) (region : Region) → laid_region capacity room ps ws ≡ region → IsLaid ps ws → Holds capacity room ps ws region
held capacity room ps ws region seen laid = record { seen = seen; laid = laid }

module _ (capacity room : ℕ) (ps : List Extent) (ws : List ℕ) (region : Region) (holds : Holds capacity room ps ws region) where
  -- the spans are the pieces of the words
  pub spans_are : region.spans ≡ pieces (lengths ps) ws
  spans_are = ap (λ r. r.spans) (sym holds.seen)

  -- each span has its length
  lengths_are : map length region.spans ≡ lengths ps
  lengths_are =
      ap (map length) spans_are ∙ map-length-pieces (lengths ps) ws (omega (arith, holds.laid.whole))

  -- there are as many spans
  pub count_is : length region.spans ≡ length ps
  count_is = ap length spans_are ∙ length-pieces (lengths ps) ws ∙ length-map ps (λ p. p.len)

  -- all words are in spans
  pub used_is : sum_by length region.spans ≡ length ws
  used_is = sym (sum-map length region.spans) ∙ ap sum lengths_are ∙ holds.laid.whole

  -- the other words that fit are left
  pub left_is : left_in region ≡ capacity - length ws
  left_is =
      let used = used_is in
      let fits : capacity ≡ region.capacity = ap (λ r. r.capacity) holds.seen in
      cc

  -- a pool with other spans, and the same capacity and room
  pub laid_region-spans : (capacity' room' : ℕ) (qs : List Extent) (vs : List ℕ) (spans : List (List ℕ)) → capacity' ≡ capacity
      → room' ≡ room → pieces (lengths qs) vs ≡ spans → laid_region capacity' room' qs vs ≡ record region { spans = spans }
  laid_region-spans capacity' room' qs vs spans same_capacity same_room same_spans =
      let fits : capacity ≡ region.capacity = ap (λ r. r.capacity) holds.seen in
      let for_spans : room ≡ region.room = ap (λ r. r.room) holds.seen in
      cc

  -- a live span is among the lengths
  live_among : (p : Extent) → IsLive region p → IsAmong (lengths ps) p
  live_among p live =
      let Among : List ℕ → Type 0 = λ ns. IsAmong ns p in
      subst Among lengths_are (IsAmong-from_live region p live)

  -- a live span is the one at its number
  pub live_found : (p : Extent) → IsLive region p ↔ (slice_get ps p.number ≡ Some p)
  live_found p =
      let at_number : List Extent → Option Extent = λ qs. slice_get qs p.number in
      let Among : List ℕ → Type 0 = λ ns. IsAmong ns p in
      let order = ap at_number holds.laid.in_order in (
        λ live. order ∙ slice_get-among (lengths ps) p (live_among p live),
        λ found. IsLive-from_among region p (subst Among (sym lengths_are) (IsAmong-from_slice_get (lengths ps) p (sym order ∙ found))),
      )

  -- a live span ends within the words
  pub live_within : (own p : Extent) → own ≡ p → IsLive region p → (own.start + p.len ≤ length ws) × (own.len ≡ p.len)
  live_within own p same live =
      let among = live_among p live in
      let most = sum_by_more_le (λ n. n) (lengths ps) p.number 0 among.present in
      let start = ap (λ q. q.start) same in
      (omega (arith, most, start, among.starts, among.long, holds.laid.whole), ap (λ q. q.len) same)

  -- a word of a live span
  pub live_word : (own p : Extent) (at : ℕ) → own ≡ p → IsLive region p → at < p.len → get_or ws (own.start + at) 0 ≡ get_or (words_at region p.number) at 0
  live_word own p at same live inside =
      let among = live_among p live in
      let word = get_or-pieces p.number (lengths ps) ws at among.present (omega (arith, inside, among.long)) in
      rw (same, among.starts, spans_are) (sym word)

  -- a word that is written into a live span
  pub live_set : (own p : Extent) (at w : ℕ) → own ≡ p → IsLive region p → at < p.len
      → pieces (lengths ps) (set ws (own.start + at) w) ≡ set region.spans p.number (set (words_at region p.number) at w)
  live_set own p at w same live inside =
      let among = live_among p live in
      let written = pieces-set p.number (lengths ps) ws at w among.present (omega (arith, inside, among.long)) in
      rw (same, among.starts, spans_are) written

  -- words that are written over a live span
  pub live_put_mid : (p : Extent) (ys : List ℕ) → IsLive region p → length ys ≡ p.len → pieces (lengths ps) (put_mid p.start p.len ws ys) ≡ set region.spans p.number ys
  live_put_mid p ys live long =
      let among = live_among p live in
      let written = pieces-put_mid p.number (lengths ps) ws ys among.present (long ∙ among.long) (omega (arith, holds.laid.whole)) in
      rw (among.starts, among.long, spans_are) written

  -- the words of all spans are those of the pool
  all_are : concat region.spans ≡ ws
  all_are = ap concat spans_are ∙ concat-pieces (lengths ps) ws holds.laid.whole

  -- the words of a live span
  pub live_words : (own p : Extent) (end : ℕ) → own ≡ p → IsLive region p → end ≡ own.start + own.len → slice_range ws own.start end ≡ words_at region p.number
  live_words own p end same live ends =
      let among = live_among p live in
      let size : end - own.start ≡ own.len = omega (arith, ends) in
      let piece = piece-get_or p.number (lengths ps) ws among.present in
      rw (size, same, among.starts, among.long, spans_are) (sym piece)

  -- words that are written from the start of a live span on
  pub live_from : (own p : Extent) (len : ℕ) (ys : List ℕ) → own ≡ p → IsLive region p → len ≡ length ws
      → pieces (lengths ps) (take len (written_from own.start ws ys ++ drop (length (written_from own.start ws ys)) ws)) ≡ (with_words_from region p.number ys).spans
  live_from own p len ys same live long =
      let start : own.start ≡ start_of region p.number = ap (λ q. q.start) same ∙ live.starts in
      rw (all_are, lengths_are, start, long) refl

  -- as many words as a live span has
  pub live_alone : (p : Extent) (ys : List ℕ) → IsLive region p → length ys ≡ p.len → (with_words_from region p.number ys).spans ≡ set region.spans p.number ys
  live_alone p ys live long =
      let within = live_within p p refl live in
      let put : List ℕ = put_mid p.start p.len ws ys in
      let as_many : length put ≡ length ws = length-put_mid p.start p.len ws ys long within.0 in
      let whole : take (length ws) (put ++ drop (length put) ws) ≡ put = take_at put (drop (length put) ws) (length ws) as_many in
      rw (all_are, lengths_are, sym live.starts, long) (ap (pieces (lengths ps)) whole ∙ live_put_mid p ys live long)
