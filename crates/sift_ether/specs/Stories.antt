-- Stories: the deeds of all units, in the one order in which they were done.
use Rattle.std.specs.Prelude.{◌≡◌, ℕ, ◌==◌, if◌then◌else◌, List, [], ◌∷◌, length, slice_index, ⊤}
use Rattle.sift_buffer.specs.Cell.{taken}
use Rattle.sift_buffer.specs.Ranges.{Ranges, place}
use Rattle.sift_buffer.specs.Core.{Core, Event, look, hear, say, enter, turn, stray, fresh_core, after, Allowed}
use Rattle.sift_ether.specs.declared.rule.Chronicle.{Chronicle}
use Rattle.sift_ether.specs.declared.rule.Deed.{Deed}
use Rattle.sift_ether.specs.declared.rule.Deed.TheVariants.{Looked, Said, Heard, Entered, Turned, Strayed}

-- a deed, and whose it is
pub record Doing : Type 0 where
  pub unit : ℕ
  pub deed : Deed

-- the event of the core that a unit's deed is: the load or the store of one word
abbrev pub event_by : ℕ → Deed → Event
event_by u (Looked p n) = look u p
event_by u (Said f k q s w) = say u q k f s w
event_by u (Heard f k p s w) = hear u p k f s
event_by u Entered = enter u
event_by u Turned = turn u
event_by u (Strayed q k x) = stray u q k x

-- what a deed tells that it loaded is what stands there: another's number, or the word that is taken of another's cell
abbrev pub FindsThere : Ranges → List ℕ → ℕ → Deed → Type 0
FindsThere r words u (Looked p n) = n ≡ slice_index words p
FindsThere r words u (Said f k q s w) = ⊤
FindsThere r words u (Heard f k p s w) = w ≡ taken (slice_index words (place r p u k)) s
FindsThere r words u Entered = ⊤
FindsThere r words u Turned = ⊤
FindsThere r words u (Strayed q k x) = ⊤

-- the core after a story, which has the newest deed first; at its beginning nobody had done anything, and each word was 0
abbrev pub core_after : Ranges → List Doing → Core
core_after r [] = fresh_core r
core_after r (x ∷ xs) = after r (core_after r xs) (event_by x.unit x.deed)

-- each deed of the story was allowed when it was done, and found what then stood there
abbrev pub Happens : Ranges → List Doing → Type 0
Happens r [] = ⊤
Happens r (x ∷ xs) = Allowed r (core_after r xs) (event_by x.unit x.deed) × FindsThere r (core_after r xs).words x.unit x.deed × Happens r xs

-- the deeds of one unit
abbrev pub deeds_of : List Doing → ℕ → List Deed
deeds_of [] u = []
deeds_of (x ∷ xs) u = if u == x.unit then x.deed ∷ deeds_of xs u else deeds_of xs u

-- how many deeds of all units were done before each of them
abbrev pub places_of : List Doing → ℕ → List ℕ
places_of [] u = []
places_of (x ∷ xs) u = if u == x.unit then length xs ∷ places_of xs u else places_of xs u

-- the unit's part of the story
abbrev pub part_of : List Doing → ℕ → Chronicle
part_of story u = record { unit = u; deeds = deeds_of story u; places = places_of story u }

-- where each unit has the same part of two stories, they are one: the places leave no other order
abbrev pub StoriesHaveOneOrder : Type 0
StoriesHaveOneOrder = (xs ys : List Doing) → ((u : ℕ) → part_of xs u ≡ part_of ys u) → xs ≡ ys
