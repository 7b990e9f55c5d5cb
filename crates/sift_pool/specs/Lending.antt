-- What a pool ends as, where it lends the words of a span.
use Rattle.std.specs.Prelude.{◌≡◌, ℕ, ◌++◌, List, length, map, take, drop}
use Rattle.std.specs.List.{concat, refill}
use Rattle.std.specs.Borrow.{Lends, MutBor, Fml, Array, u16}
use Rattle.sift_pool.specs.Region.{Region, KeepsLive, words_at, with_words, start_of}
use Rattle.sift_pool.specs.Layout.{pieces}
use Rattle.sift_pool.specs.contracts.pool.Pool.{the_row}

-- the words with others over them from a place on, and those behind that are not reached
abbrev pub written_from : ℕ → List ℕ → List ℕ → List ℕ
written_from start words ws = take start words ++ (ws ++ drop (length ws) (drop start words))

-- the region with words written from the start of this span on, over the spans behind it too where they are more than it has
abbrev pub with_words_from : Region → ℕ → List ℕ → Region
with_words_from region number ws =
    let all = concat region.spans in
    let spans = pieces (map length region.spans) (refill (length all) all (written_from (start_of region number) all ws)) in
    record region { spans = spans }

-- other words, as many as before, in the span with this number alone, and each span that was live is live still
pub record Rewrites (number : ℕ) (ws : List ℕ) (old new : Region) : Type 0 where
  pub written : new ≡ with_words old number ws
  pub live : KeepsLive old new

-- as many words as the span has are written over it alone
abbrev pub StaysWithin : Region → ℕ → Type 0
StaysWithin region number =
    (ws : List ℕ) → length ws ≡ length (words_at region number) → Rewrites number ws region (with_words_from region number ws)

-- the pool ends with what was last behind the slice, from the start of the span with this number on
abbrev pub LendsWords : MutBor Region → ℕ → MutBor (List ℕ) → Fml
LendsWords pool number words =
    Lends the_row (Array u16 0) pool words (with_words_from pool.now number)
