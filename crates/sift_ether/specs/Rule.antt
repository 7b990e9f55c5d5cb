-- The rule of the table: its words are what one story of all units made of words that were 0, and each seat knows its units' parts of this story.
use Rattle.std.specs.Prelude.{◌≡◌, ◌≢◌, ◌⊎◌, ◌<◌, ℕ, List, [], ◌∷◌, ⊤}
use mathlib.Core.Option.{some}
use lib.ListN.{get_elem?}
use Rattle.atomic_table.specs.Table.{State}
use Rattle.sift_buffer.specs.Ranges.{Ranges}
use Rattle.sift_buffer.specs.Conduct.{Conduct}
use Rattle.sift_buffer.specs.Core.{Core}
use Rattle.sift_buffer.specs.Lawful.{Lawful}
use Rattle.sift_ether.specs.declared.rule.Chronicle.{Chronicle}
use Rattle.sift_ether.specs.Deeds.{conduct_by}
use Rattle.sift_ether.specs.Stories.{Doing, Happens, core_after, part_of}

-- one of the chronicles is this unit's
abbrev pub HasUnit : ℕ → List Chronicle → Type 0
HasUnit u [] = ⊥
HasUnit u (c ∷ cs) = (c.unit ≡ u) ⊎ HasUnit u cs

-- none of them is
abbrev pub LacksUnit : ℕ → List Chronicle → Type 0
LacksUnit u [] = ⊤
LacksUnit u (c ∷ cs) = (c.unit ≢ u) × LacksUnit u cs

-- the seat with this number stands for the units of these chronicles, for each once, and each chronicle is the unit's part
abbrev pub StandsFor : (ℕ → Chronicle) → (ℕ → ℕ) → ℕ → List Chronicle → Type 0
StandsFor part seat_of id [] = ⊤
StandsFor part seat_of id (c ∷ cs) = (part c.unit ≡ c) × (seat_of c.unit ≡ id) × LacksUnit c.unit cs × StandsFor part seat_of id cs

-- the chronicle of a unit stands in the view of the seat with this number
pub record IsSeatedAt (views : List (List Chronicle)) (id u : ℕ) : Type 0 where
  pub view : List Chronicle
  pub there : get_elem? views id ≡ some view
  pub has : HasUnit u view

-- the words are those after a story that happened; each unit has one seat, in whose view its chronicle stands; and a view has no chronicle but
-- those of its seat's units, which are their parts of the story. A chronicle has the places of its deeds, so a story has no other order
pub record HasStory {S : Type 0} (r : Ranges) (s : State S (List Chronicle)) : Type 0 where
  pub story : List Doing
  pub seat_of : ℕ → ℕ
  pub happened : Happens r story
  pub words : s.words ≡ (core_after r story).words
  pub seated : (u : ℕ) → u < r.units → IsSeatedAt s.views (seat_of u) u
  pub views : (id : ℕ) (view : List Chronicle) → get_elem? s.views id ≡ some view → StandsFor (part_of story) seat_of id view

-- ---- what it comes to

-- each unit of these chronicles conducts itself as its chronicle tells
abbrev pub TellConduct : (ℕ → Conduct) → List Chronicle → Type 0
TellConduct of [] = ⊤
TellConduct of (c ∷ cs) = (of c.unit ≡ conduct_by c) × TellConduct of cs

-- the words, and how all units conduct themselves, are a lawful core; the chronicle of each unit stands in the view of some seat, and each
-- chronicle in a view tells its unit's conduct
pub record IsLawfulTable {S : Type 0} (r : Ranges) (s : State S (List Chronicle)) : Type 0 where
  pub of : ℕ → Conduct
  pub lawful : Lawful r (record { words = s.words; of = of })
  pub seated : (u : ℕ) → u < r.units → (id : ℕ) × IsSeatedAt s.views id u
  pub tell : (id : ℕ) (view : List Chronicle) → get_elem? s.views id ≡ some view → TellConduct of view

-- these chronicles tell of units of a lawful core
pub record IsPartOfLawfulCore (r : Ranges) (view : List Chronicle) : Type 0 where
  pub core : Core
  pub lawful : Lawful r core
  pub tell : TellConduct core.of view
