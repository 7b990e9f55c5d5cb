-- Logs: what the faulty bus carried of each word that a unit heard, and which buses gave another word than the majority.
use Rattle.std.specs.Prelude.{ℕ, zero, suc, ◌+◌, ◌&&◌, Bool, false, nat_lt, if◌then◌else◌, List, [], ◌∷◌, slice_index_or, Option, None}
use Rattle.sift_base.specs.declared.slots.Layout.{Layout}
use Rattle.sift_buffer.specs.Conduct.{put_at}
use Rattle.sift_buffer.specs.Ranges.{Ranges}
use Rattle.sift_buffer.specs.Tables.{ranges_of, entry_at}
use Rattle.sift_bus_port.specs.declared.log.BusLog.{BusLog}

-- a log: how many units, slots and frames it has; what the faulty bus carried, by frame, slot and sender; and by these and by bus, whether the bus
-- gave another word than the majority
pub record Log : Type 0 where
  pub ranges : Ranges
  pub carried : ℕ → ℕ → ℕ → Option ℕ
  pub wrong : ℕ → ℕ → ℕ → ℕ → Bool

-- no bus gave another word
abbrev pub none_wrong : List Bool
none_wrong = false ∷ false ∷ false ∷ []

-- the log of what stands at each entry: what was carried, and for each bus whether it gave another word
abbrev pub log_by : Layout → ℕ → List (Option ℕ) → List (List Bool) → Log
log_by layout frames carried wrong = record {
  ranges = ranges_of layout frames;
  carried = entry_at None (ranges_of layout frames) carried;
  wrong = λ f k p bus. slice_index_or (entry_at none_wrong (ranges_of layout frames) wrong f k p) bus false;
}

-- the log of the code
abbrev pub log_of : BusLog → Log
log_of l = log_by l.grid.layout l.grid.frames l.carried.items l.wrong.items

-- a log in which nothing stands
abbrev pub blank_log : Layout → ℕ → Log
blank_log layout frames = record { ranges = ranges_of layout frames; carried = λ _ _ _. None; wrong = λ _ _ _ _. false }

-- the log has the frame, the slot and the unit
abbrev pub has_entry : Ranges → ℕ → ℕ → ℕ → Bool
has_entry r f k p = nat_lt f r.frames && nat_lt k r.slots && nat_lt p r.units

-- the log with what a bus carried of one word more, and which buses gave another; without it, where it hasn't the frame, the slot and the sender
abbrev pub log_with : Log → ℕ → ℕ → ℕ → Option ℕ → (ℕ → Bool) → Log
log_with l f k p carried wrong =
    if has_entry l.ranges f k p then record l { carried = put_at l.carried f k p carried; wrong = put_at l.wrong f k p wrong } else l

-- ---- counts

-- how many of the numbers below n are so
abbrev pub count_below : (ℕ → Bool) → ℕ → ℕ
count_below is zero = 0
count_below is (suc n) = count_below is n + (if is n then 1 else 0)

-- how many slots and units are so, of so many slots and so many units
abbrev pub count_places : (ℕ → ℕ → Bool) → ℕ → ℕ → ℕ
count_places is zero units = 0
count_places is (suc k) units = count_places is k units + count_below (is k) units

-- how many words of a frame a bus got wrong
abbrev pub count_in : Log → ℕ → ℕ → ℕ
count_in l f bus = count_places (λ k p. l.wrong f k p bus) l.ranges.slots l.ranges.units
