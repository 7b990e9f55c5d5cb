-- How the words of a frame lie in a pool. No public clause cites this module.
use Rattle.std.specs.Prelude.{◌≡◌, ◌≢◌, ℕ, ◌+◌, ◌*◌, ◌<◌, ◌≤◌, List, [], length, replicate, Bool, if◌then◌else◌, Option, None, Some}
use Rattle.sift_pool.specs.Region.{Region, Extent, IsLive, KeepsLive, words_at, left_in}
use Rattle.sift_unit_frame.specs.FrameWords.{FrameWords}

-- ---- one step on a pool

-- a new span, of so many zeros, stands last, and all else stays
pub record Adds (old new : Region) (len : ℕ) (span : Extent) : Type 0 where
  pub newest : span.number ≡ length old.spans
  pub long : span.len ≡ len
  pub live : IsLive new span
  pub words : words_at new span.number ≡ replicate len 0
  pub count : length new.spans ≡ length old.spans + 1
  pub left : left_in new + len ≡ left_in old
  pub room : new.room ≡ old.room
  pub capacity : new.capacity ≡ old.capacity
  pub kept : KeepsLive old new
  pub others : (n : ℕ) → n < length old.spans → words_at new n ≡ words_at old n

-- one span has these words, as many as before, and all else stays
pub record Rewords (old new : Region) (number : ℕ) (words : List ℕ) : Type 0 where
  pub written : words_at new number ≡ words
  pub count : length new.spans ≡ length old.spans
  pub room : new.room ≡ old.room
  pub capacity : new.capacity ≡ old.capacity
  pub kept : KeepsLive old new
  pub others : (n : ℕ) → n ≢ number → words_at new n ≡ words_at old n

-- ---- the spans of a frame

-- a run works in so many words: 8 output words, 32 locals, 8 agreed words, 64 words of this frame and 64 of the last one, 1,024 numbers, and 288
-- free places
abbrev pub words_of_a_run : ℕ
words_of_a_run = 1488

-- the pool has this span, with this number and so many words
pub record IsSpan (pool : Region) (span : Extent) (number len : ℕ) : Type 0 where
  pub live : IsLive pool span
  pub numbered : span.number ≡ number
  pub long : span.len ≡ len

-- after four spans the pool has this one for made words, or none
abbrev pub HasScratch : Region → ℕ → Option Extent → Type 0
HasScratch pool words None = length pool.spans ≡ 4
HasScratch pool words (Some span) = IsSpan pool span 4 words × (length pool.spans ≡ 5)

-- the pool is carved into a span of the agreed words, one of the words before, one of the voted words and one in which code runs; then it was
-- marked, and it has room for one span more, of as many words as are voted
pub record IsCarved (pool : Region) (agreed before voted work : Extent) (mark : ℕ) (made : Option Extent) (sensors words : ℕ) : Type 0 where
  pub holds_agreed : IsSpan pool agreed 0 sensors
  pub holds_before : IsSpan pool before 1 words
  pub holds_voted : IsSpan pool voted 2 words
  pub holds_work : IsSpan pool work 3 words_of_a_run
  pub marked : mark ≡ 4
  pub scratch : HasScratch pool words made
  pub room : pool.room ≡ 5
  pub capacity : pool.capacity ≡ words_of_a_run + sensors + 3 * words

-- the words of a span that may be there
abbrev pub scratch_words : Region → Option Extent → List ℕ
scratch_words pool None = []
scratch_words pool (Some span) = words_at pool span.number

-- the words of a frame; where none were voted in the frame before, its span is not read
abbrev pub words_in : Region → Extent → Extent → Extent → Option Extent → Bool → FrameWords
words_in pool agreed before voted made follows = record {
  agreed = words_at pool agreed.number;
  before = if follows then words_at pool before.number else [];
  voted = words_at pool voted.number;
  made = scratch_words pool made;
}

-- so the pool lies, and these lists, as runs take them, are copies of the words in its spans
pub record IsFile (pool : Region) (agreed before voted work : Extent) (mark : ℕ) (made : Option Extent) (follows : Bool) (agreed_copy before_copy voted_copy : List ℕ) : Type 0 where
  pub carved : IsCarved pool agreed before voted work mark made agreed.len before.len
  pub few_sensors : agreed.len ≤ 8
  pub few_words : before.len ≤ 64
  pub copies_agreed : agreed_copy ≡ words_at pool agreed.number
  pub copies_before : before_copy ≡ (if follows then words_at pool before.number else [])
  pub copies_voted : voted_copy ≡ words_at pool voted.number
