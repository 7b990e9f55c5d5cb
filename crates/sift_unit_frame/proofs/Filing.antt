-- The words of a frame in their pool: as they are laid out, and as the next frame finds them.
use Rattle.std.proofs.Common.{◌≡◌, ℕ, ◌+◌, ◌*◌, ◌<◌, ◌≤◌, List, [], ◌++◌, length, take, drop, replicate, Bool, true, false, Option, Some, None, refl, sym, ap, subst, ◌∙◌, arith}
use Rattle.std.proofs.lemmas.List.{append-nil, drop_all}
use Rattle.sift_pool.specs.Region.{Region, Extent, KeepsLiveBelow, words_at, first_spans, empty_region, left_in}
use Rattle.sift_unit_frame.specs.FrameWords.{first_words, next_words}
use Rattle.sift_unit_frame.specs.Carving.{Adds, Rewords, IsSpan, IsCarved, IsFile, words_in, words_of_a_run}
use Rattle.sift_unit_frame.proofs.Carved.{carved_reworded, carved_released, words_first, scratch_room, carved_added}

-- a span has as many words as it says
words_long : (pool : Region) (span : Extent) (number len : ℕ) → IsSpan pool span number len → length (words_at pool span.number) ≡ len
words_long pool span number len s = sym s.live.long ∙ s.long

-- words that take up all places of a list take the place of all its words
whole : (list words : List ℕ) → length list ≡ length words → take 0 list ++ (words ++ drop (0 + length words) list) ≡ words
whole list words same = ap (λ xs. words ++ xs) (drop_all (0 + length words) list (omega arith)) ∙ append-nil words

-- ---- before the flight

module _ (p0 p1 p2 p3 p4 p5 p6 : Region) (agreed before voted work made : Extent) (mark sensors words : ℕ) (starts : List ℕ)
    (empty : p0 ≡ empty_region (words_of_a_run + sensors + 3 * words) 5) (long : words ≡ length starts)
    (a1 : Adds p0 p1 sensors agreed) (a2 : Adds p1 p2 words before) (a3 : Adds p2 p3 words voted) (a4 : Adds p3 p4 words_of_a_run work)
    (here : mark ≡ length p4.spans) (a5 : Adds p4 p5 words made)
    (stored : Rewords p5 p6 before.number (take 0 (words_at p5 before.number) ++ (starts ++ drop (0 + length starts) (words_at p5 before.number)))) where
  none : length p0.spans ≡ 0
  none = ap (λ (r : Region). length r.spans) empty

  -- the spans that were carved
  first_carved : IsCarved p5 agreed before voted work mark (Some made) agreed.len before.len
  first_carved =
      let n = none in let c1 = a1.count in let c2 = a2.count in let c3 = a3.count in let c4 = a4.count in let c5 = a5.count in
      let n1 = a1.newest in let n2 = a2.newest in let n3 = a3.newest in let n4 = a4.newest in let n5 = a5.newest in
      let w1 = a1.long in let w2 = a2.long in
      let room : p0.room ≡ 5 = ap (λ (r : Region). r.room) empty in
      let size : p0.capacity ≡ words_of_a_run + sensors + 3 * words = ap (λ (r : Region). r.capacity) empty in
      let all : p5.capacity ≡ p0.capacity = a5.capacity ∙ a4.capacity ∙ a3.capacity ∙ a2.capacity ∙ a1.capacity in
      record {
        holds_agreed = record { live = a5.kept agreed (a4.kept agreed (a3.kept agreed (a2.kept agreed a1.live))); numbered = omega arith; long = refl };
        holds_before = record { live = a5.kept before (a4.kept before (a3.kept before a2.live)); numbered = omega arith; long = refl };
        holds_voted = record { live = a5.kept voted (a4.kept voted a3.live); numbered = omega arith; long = a3.long ∙ sym a2.long };
        holds_work = record { live = a5.kept work a4.live; numbered = omega arith; long = a4.long };
        marked = omega arith;
        scratch = (record { live = a5.live; numbered = omega arith; long = a5.long ∙ sym a2.long }, omega arith);
        room = a5.room ∙ a4.room ∙ a3.room ∙ a2.room ∙ a1.room ∙ room;
        capacity = omega arith;
      }

  -- what they hold
  first_agreed : words_at p6 agreed.number ≡ replicate sensors 0
  first_agreed =
      let n = none in let c1 = a1.count in let c2 = a2.count in let c3 = a3.count in let c4 = a4.count in let n1 = a1.newest in let n2 = a2.newest in
      stored.others agreed.number (λ e. omega arith) ∙ a5.others agreed.number (omega arith) ∙ a4.others agreed.number (omega arith)
      ∙ a3.others agreed.number (omega arith) ∙ a2.others agreed.number (omega arith) ∙ a1.words

  first_before : words_at p6 before.number ≡ starts
  first_before =
      let same : length (words_at p5 before.number) ≡ length starts = words_long p5 before 1 before.len first_carved.holds_before ∙ a2.long ∙ long in
      stored.written ∙ whole (words_at p5 before.number) starts same

  first_voted : words_at p6 voted.number ≡ replicate (length starts) 0
  first_voted =
      let n = none in let c1 = a1.count in let c2 = a2.count in let c3 = a3.count in let c4 = a4.count in let n2 = a2.newest in let n3 = a3.newest in
      stored.others voted.number (λ e. omega arith) ∙ a5.others voted.number (omega arith) ∙ a4.others voted.number (omega arith)
      ∙ a3.words ∙ ap (λ k. replicate k 0) long

  first_made : words_at p6 made.number ≡ replicate (length starts) 0
  first_made =
      let n = none in let c1 = a1.count in let c2 = a2.count in let c3 = a3.count in let c4 = a4.count in let n2 = a2.newest in let n5 = a5.newest in
      stored.others made.number (λ e. omega arith) ∙ a5.words ∙ ap (λ k. replicate k 0) long

  -- so are the words before the flight
  pub first_is : words_in p6 agreed before voted (Some made) true ≡ first_words sensors starts
  first_is = λ i. record { agreed = first_agreed i; before = first_before i; voted = first_voted i; made = first_made i }

  -- before the flight lists that are the pool's words are copies of them, for at most 8 sensors and 64 words
  pub first_file : (xs ys zs : List ℕ) → sensors ≤ 8 → words ≤ 64 → xs ≡ words_at p6 agreed.number → ys ≡ words_at p6 before.number → zs ≡ words_at p6 voted.number →
      IsFile p6 agreed before voted work mark (Some made) true xs ys zs
  first_file xs ys zs few_sensors few_words ea eb ev = record {
    carved = carved_reworded p5 agreed before voted work mark (Some made) agreed.len before.len before.number _ p6 first_carved stored;
    few_sensors = (let w = a1.long in omega arith);
    few_words = (let w = a2.long in omega arith);
    copies_agreed = ea;
    copies_before = eb;
    copies_voted = ev;
  }

-- ---- from frame to frame

module _ (pool : Region) (agreed before voted work : Extent) (mark : ℕ) (made : Option Extent) (follows : Bool) (xs ys zs : List ℕ)
    (file : IsFile pool agreed before voted work mark made follows xs ys zs) where
  -- there are as many voted words as words before
  pub voted_long : length zs ≡ before.len
  voted_long = ap length file.copies_voted ∙ words_long pool voted 2 before.len file.carved.holds_voted

  module _ (free : Region) (first : free ≡ first_spans mark pool) (live : KeepsLiveBelow mark pool free) (read : List ℕ) (is : read ≡ words_at free voted.number)
      (next : Region) (slice : List ℕ) (all : slice ≡ read)
      (stored : Rewords free next before.number (take 0 (words_at free before.number) ++ (slice ++ drop (0 + length slice) (words_at free before.number)))) where
    released : IsCarved free agreed before voted work mark None agreed.len before.len
    released = carved_released pool agreed before voted work mark made agreed.len before.len free file.carved first live

    turned : IsCarved next agreed before voted work mark None agreed.len before.len
    turned = carved_reworded free agreed before voted work mark None agreed.len before.len before.number _ next released stored

    stays : (n : ℕ) → n < 4 → words_at free n ≡ words_at pool n
    stays n low = words_first pool agreed before voted work mark made agreed.len before.len free file.carved first live n low

    same_agreed : words_at next agreed.number ≡ words_at pool agreed.number
    same_agreed =
        let n = file.carved.holds_agreed.numbered in let k = file.carved.holds_before.numbered in
        stored.others agreed.number (λ e. omega arith) ∙ stays agreed.number (omega arith)

    same_voted : words_at next voted.number ≡ words_at pool voted.number
    same_voted =
        let n = file.carved.holds_voted.numbered in let k = file.carved.holds_before.numbered in
        stored.others voted.number (λ e. omega arith) ∙ stays voted.number (omega arith)

    now_before : words_at next before.number ≡ read
    now_before =
        let same : length (words_at free before.number) ≡ length slice =
        words_long free before 1 before.len released.holds_before ∙ sym (ap length (all ∙ is) ∙ words_long free voted 2 before.len released.holds_voted) in
        stored.written ∙ whole (words_at free before.number) slice same ∙ all

    read_is : read ≡ words_at pool voted.number
    read_is = let n = file.carved.holds_voted.numbered in is ∙ stays voted.number (omega arith)

    -- the voted words are the words before, and none is made
    pub turned_file : IsFile next agreed before voted work mark None true xs read zs
    turned_file = record {
      carved = turned;
      few_sensors = file.few_sensors;
      few_words = file.few_words;
      copies_agreed = file.copies_agreed ∙ sym same_agreed;
      copies_before = sym now_before;
      copies_voted = file.copies_voted ∙ sym same_voted;
    }

    -- with no span for made words, the pool has the words of the next frame for a unit that leaves
    pub turned_is : words_in next agreed before voted None true ≡ next_words false (words_in pool agreed before voted made follows)
    turned_is = λ i. record { agreed = same_agreed i; before = (now_before ∙ read_is) i; voted = same_voted i; made = [] }

    -- there is room for made words
    pub turned_room : left_in next ≡ before.len
    turned_room = scratch_room next agreed before voted work mark agreed.len before.len turned

    module _ (new : Region) (words : ℕ) (span : Extent) (as_many : words ≡ length zs) (added : Adds next new words span) where
      adds_words : Adds next new before.len span
      adds_words = subst (λ n. Adds next new n span) (as_many ∙ voted_long) added

      below : (n : ℕ) → n < 4 → words_at new n ≡ words_at next n
      below n low = let four = turned.scratch in added.others n (omega arith)

      kept_agreed : words_at new agreed.number ≡ words_at next agreed.number
      kept_agreed = let n = file.carved.holds_agreed.numbered in below agreed.number (omega arith)

      kept_before : words_at new before.number ≡ words_at next before.number
      kept_before = let n = file.carved.holds_before.numbered in below before.number (omega arith)

      kept_voted : words_at new voted.number ≡ words_at next voted.number
      kept_voted = let n = file.carved.holds_voted.numbered in below voted.number (omega arith)

      -- with a span for them it is so too
      pub begun_file : IsFile new agreed before voted work mark (Some span) true xs read zs
      begun_file = record {
        carved = carved_added next agreed before voted work mark agreed.len before.len new span turned adds_words;
        few_sensors = file.few_sensors;
        few_words = file.few_words;
        copies_agreed = turned_file.copies_agreed ∙ sym kept_agreed;
        copies_before = turned_file.copies_before ∙ sym kept_before;
        copies_voted = turned_file.copies_voted ∙ sym kept_voted;
      }

      -- with a span for made words, the pool has the words of the next frame for a unit that stays
      pub begun_is : words_in new agreed before voted (Some span) true ≡ next_words true (words_in pool agreed before voted made follows)
      begun_is =
          let zeros : words_at new span.number ≡ replicate (length (words_at pool voted.number)) 0 =
          added.words ∙ ap (λ n. replicate n 0) (as_many ∙ ap length file.copies_voted) in
          λ i. record { agreed = (kept_agreed ∙ same_agreed) i; before = (kept_before ∙ now_before ∙ read_is) i; voted = (kept_voted ∙ same_voted) i; made = zeros i }
