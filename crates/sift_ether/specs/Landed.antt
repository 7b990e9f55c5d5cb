-- What comes of an ether and its tokens at the end.
use Rattle.std.specs.Prelude.{◌≡◌, ◌<◌, ℕ, List, length, slice_index_or}
use Rattle.sift_base.specs.declared.slots.Layout.{Layout}
use Rattle.sift_buffer.specs.Journals.{Pages, IsJournalOf, HasWordsOf}
use Rattle.sift_buffer.specs.Lawful.{Lawful}
use Rattle.sift_buffer.specs.Tables.{ranges_of}
use Rattle.sift_ether.specs.declared.seat.Token.{Token}
use Rattle.sift_ether.specs.Tokens.{conduct_at}

-- it is the journal of this unit, and has its words
pub record IsJournalFrom (tokens : List Token) (layout : Layout) (frames u : ℕ) (j : Pages) : Type 0 where
  pub owner : IsJournalOf j layout u frames
  pub words : HasWordsOf (conduct_at tokens u) j

-- whatever the order of all steps of all threads was: some words, and how the tokens' units conducted themselves, are a lawful core; and there is
-- a journal for each unit of the layout, in order, with just the words of this conduct
pub record HaveLanded (layout : Layout) (frames : ℕ) (tokens : List Token) (journals : List Pages) : Type 0 where
  pub words : List ℕ
  pub lawful : Lawful (ranges_of layout frames) (record { words = words; of = conduct_at tokens })
  pub count : length journals ≡ layout.units
  pub each : (u : ℕ) (d : Pages) → u < layout.units → IsJournalFrom tokens layout frames u (slice_index_or journals u d)
