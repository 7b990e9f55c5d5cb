-- Which deed a call adds by its one atomic step, and when a unit may make it.
use Rattle.std.specs.Prelude.{◌≡◌, ◌≢◌, ℕ, ◌+◌, ◌<◌}
use Rattle.sift_buffer.specs.Cell.{packed, taken, IsWord}
use Rattle.sift_buffer.specs.Ranges.{Ranges, place}
use Rattle.sift_buffer.specs.Conduct.{never}
use Rattle.sift_buffer.specs.Conditions.{MaySay, MayHear, MayEnter, MayTurn, MayStray, PassesGate}
use Rattle.sift_ether.specs.declared.steps.Call.{Call}
use Rattle.sift_ether.specs.declared.steps.Call.TheVariants.{Look, Hear, Say, Enter, Turn, Stray}
use Rattle.sift_ether.specs.declared.rule.Chronicle.{Chronicle}
use Rattle.sift_ether.specs.declared.rule.Deed.{Deed}
use Rattle.sift_ether.specs.declared.rule.Deed.TheVariants.{Looked, Said, Heard, Entered, Turned, Strayed}
use Rattle.sift_ether.specs.Deeds.{conduct_by}

-- the deed that a call adds, by the number that its step loads or stores
abbrev pub deed_of : Call → ℕ → Deed
deed_of (Look p) n = Looked p n
deed_of (Hear f k p s) n = Heard f k p s (taken n s)
deed_of (Say f k q s w) n = Said f k q s w
deed_of Enter n = Entered
deed_of Turn n = Turned
deed_of (Stray q k) n = Strayed q k n

-- the unit of a chronicle may make this call by a load of the word i
abbrev pub MayLoad : Ranges → Chronicle → ℕ → Call → Type 0
MayLoad r c i (Look p) = (i ≡ p) × (p < r.units) × (p ≢ c.unit)
MayLoad r c i (Hear f k p s) = (i ≡ place r p c.unit k) × MayHear r (conduct_by c) c.unit p k f s
MayLoad r c i (Say f k q s w) = ⊥
MayLoad r c i Enter = ⊥
MayLoad r c i Turn = ⊥
MayLoad r c i (Stray q k) = ⊥

-- it may make this call by a store of n in the word i, which is its own number or one of its own cells
abbrev pub MayStore : Ranges → Chronicle → ℕ → ℕ → Call → Type 0
MayStore r c i n (Look p) = ⊥
MayStore r c i n (Hear f k p s) = ⊥
MayStore r c i n (Say f k q s w) = (i ≡ place r c.unit q k) × (n ≡ packed s w) × MaySay r (conduct_by c) c.unit q k f s × IsWord w
MayStore r c i n Enter = (i ≡ c.unit) × (n ≡ (conduct_by c).progress + 1) × MayEnter (conduct_by c) × PassesGate r (conduct_by c) c.unit
MayStore r c i n Turn = (i ≡ c.unit) × (n ≡ never) × MayTurn (conduct_by c) × (0 < (conduct_by c).progress → PassesGate r (conduct_by c) c.unit)
MayStore r c i n (Stray q k) = (i ≡ place r c.unit q k) × MayStray r (conduct_by c) c.unit q k
