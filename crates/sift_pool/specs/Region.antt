-- What a contract sees of a pool, a span and a mark.
use Rattle.std.specs.Prelude.{◌≡◌, ℕ, ◌-◌, ◌<◌, ◌↔◌, List, [], ◌∷◌, ◌++◌, length, take, sum_by, replicate, slice_index_or, slice_set}

-- a pool: how many words fit into it, how many spans it has room for, and the words of each span
pub record Region : Type 0 where
  pub capacity : ℕ
  pub room : ℕ
  pub spans : List (List ℕ)

-- a span: which one it is, counted from 0, where it starts, and how many words it has
pub record Extent : Type 0 where
  pub number : ℕ
  pub start : ℕ
  pub len : ℕ

-- a region of so many words without a span
abbrev pub empty_region : ℕ → ℕ → Region
empty_region words room = record { capacity = words; room = room; spans = [] }

-- the words of the span with this number
abbrev pub words_at : Region → ℕ → List ℕ
words_at region number = slice_index_or region.spans number []

-- the region with other words in the span with this number
abbrev pub with_words : Region → ℕ → List ℕ → Region
with_words region number words = record region { spans = slice_set region.spans number words }

-- the region with one more span, at the end
abbrev pub with_span : Region → List ℕ → Region
with_span region words = record region { spans = region.spans ++ words ∷ [] }

-- the region with its first spans alone
abbrev pub first_spans : ℕ → Region → Region
first_spans count region = record region { spans = take count region.spans }

-- how many words the spans before this number have
abbrev pub start_of : Region → ℕ → ℕ
start_of region number = sum_by length (take number region.spans)

-- how many words are in no span
abbrev pub left_in : Region → ℕ
left_in region = region.capacity - sum_by length region.spans

-- the region has a span with this number, start and length
pub record IsLive (region : Region) (span : Extent) : Type 0 where
  pub present : span.number < length region.spans
  pub starts : span.start ≡ start_of region span.number
  pub long : span.len ≡ length (words_at region span.number)

-- each span that was live is live still
abbrev pub KeepsLive : Region → Region → Type 0
KeepsLive old new = (span : Extent) → IsLive old span → IsLive new span

-- those spans are live that were live and have a number below this one
abbrev pub KeepsLiveBelow : ℕ → Region → Region → Type 0
KeepsLiveBelow count old new = (span : Extent) → IsLive new span ↔ (IsLive old span × (span.number < count))

-- the new region has one more span, of so many zeros, and it is this one
pub record Carves (old new : Region) (len : ℕ) (span : Extent) : Type 0 where
  pub zeros : new ≡ with_span old (replicate len 0)
  pub newest : span.number ≡ length old.spans
  pub long : span.len ≡ len
  pub live : IsLive new span
