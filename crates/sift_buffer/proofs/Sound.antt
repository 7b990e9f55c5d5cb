-- The lawful core in the form in which an event keeps it: whether a unit has turned stands inside each fact.
use Rattle.std.proofs.Common.{◌≡◌, ◌≢◌, ◌⊎◌, inl, inr, ⊎_elim, ℕ, ◌<◌, ◌≤◌, slice_index, Option, Some, arith}
use Rattle.std.specs.List.{Contains}
use Rattle.sift_buffer.specs.Ranges.{Ranges, place}
use Rattle.sift_buffer.specs.Conduct.{Conduct, never, last_progress, hearing, stray_to}
use Rattle.sift_buffer.specs.Core.{Core}
use Rattle.sift_buffer.specs.Lawful.{HasStage, IsLastSaid, HasStamps, IsNear, IsFromSayings, IsFromStrays, nothing, said, IsFormed, Lawful}

-- the cell is what was said last, or a stray of a unit that has turned
abbrev pub CellIs : Conduct → ℕ → ℕ → ℕ → Type 0
CellIs d q k x = IsLastSaid d q k x ⊎ ((d.left < never) × Contains d.strays (stray_to q k x))

-- what d has seen of another is reached, and a unit that flies is near
pub record GateIs (d other : Conduct) (seen : ℕ) : Type 0 where
  pub low : seen ≤ other.progress
  pub near : d.left ≡ never → IsNear d other seen

-- what was heard of a unit before it left, and after
pub record HeardIs (d : Conduct) (q k s h : ℕ) (w : Option ℕ) : Type 0 where
  pub before : h < d.left → IsFromSayings d q k s h w
  pub later : d.left ≤ h → IsFromStrays d q k s w

-- a sound core
pub record Sound (r : Ranges) (c : Core) : Type 0 where
  pub formed : IsFormed r c
  pub cell : (p q k : ℕ) → p < r.units → q < r.units → k < r.slots → CellIs (c.of p) q k (slice_index c.words (place r p q k))
  pub stamps : (p : ℕ) → p < r.units → HasStamps (c.of p)
  pub gate : (q p : ℕ) → q < r.units → p < r.units → p ≢ q → GateIs (c.of q) (c.of p) ((c.of q).seen p)
  pub heard : (q p f k s h : ℕ) (w : Option ℕ) → q < r.units → p < r.units → p ≢ q → k < r.slots →
      (c.of q).heard f k p ≡ Some (hearing s h w) → HeardIs (c.of p) q k s h w

-- a saying is one source of what is heard after a unit left
pub from_sayings : (d : Conduct) (q k s h : ℕ) (w : Option ℕ) → IsFromSayings d q k s h w → IsFromStrays d q k s w
from_sayings d q k s h w it = ⊎_elim (λ n. nothing n) (λ (t : (f : ℕ) × (d.said f k q ≡ Some (record { stamp = s; word = w }))). said t.0 t.1) it.source

-- a unit flies, or it has turned
pub flies_or_turned : {B : Type 0} (d : Conduct) → HasStage d → (d.left ≡ never → B) → (d.left < never → B) → B
flies_or_turned d stage flies turned = ⊎_elim (λ f. flies f.0) (λ t. turned (let l = t.0 in omega arith)) stage

-- a unit that flies is at the last progress or before
pub flies_low : (d : Conduct) → HasStage d → d.left ≡ never → d.progress ≤ last_progress
flies_low d stage fl = ⊎_elim (λ f. f.1) (λ t. let l = t.0 in absurd (omega arith)) stage

-- a lawful core is sound
pub sound_of : (r : Ranges) (c : Core) → Lawful r c → Sound r c
sound_of r c law = record {
  formed = law.formed;
  cell = λ p q k hp hq hk. flies_or_turned (c.of p) (law.formed.stage p hp)
      (λ fl. inl (law.cells p q k hp hq hk fl))
      (λ gone. ⊎_elim (λ i. inl i) (λ am. inr (gone, am)) (law.turned.cells p q k hp hq hk gone));
  stamps = law.stamps;
  gate = λ q p hq hp ne. record { low = law.sights q p hq hp ne; near = law.pace q p hq hp ne };
  heard = λ q p f k s h w hq hp ne hk at. record {
    before = law.heard q p f k s h w hq hp ne hk at;
    later = law.turned.heard q p f k s h w hq hp ne hk at;
  };
}

-- and a sound core lawful
pub lawful_of : (r : Ranges) (c : Core) → Sound r c → Lawful r c
lawful_of r c it = record {
  formed = it.formed;
  cells = λ p q k hp hq hk fl. ⊎_elim (λ i. i) (λ t. let gone = t.0 in absurd (omega arith)) (it.cell p q k hp hq hk);
  stamps = it.stamps;
  sights = λ q p hq hp ne. (it.gate q p hq hp ne).low;
  pace = λ q p hq hp ne. (it.gate q p hq hp ne).near;
  heard = λ q p f k s h w hq hp ne hk at. (it.heard q p f k s h w hq hp ne hk at).before;
  turned = record {
    cells = λ p q k hp hq hk gone. ⊎_elim (λ i. inl i) (λ t. inr t.1) (it.cell p q k hp hq hk);
    heard = λ q p f k s h w hq hp ne hk at. (it.heard q p f k s h w hq hp ne hk at).later;
  };
}
