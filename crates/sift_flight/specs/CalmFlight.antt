-- How a calm mission flies its frame.
use Rattle.std.specs.Prelude.{ℕ, ◌-◌, ◌/◌, ◌%◌, [], map, slice_index, false, ◌&&◌, nat_eq, nat_lt, if◌then◌else◌, None, Some, pos}
use Rattle.std.specs.List.{range_with_len}
use Rattle.sift_base.specs.Layout.{slot_count}
use Rattle.sift_base.specs.declared.slots.Slot.{Slot}
use Rattle.sift_base.specs.declared.slots.Slot.TheVariants.{Clock, Sense, RelaySense, Out, Report, RelayReport}
use Rattle.sift_buffer.specs.Cell.{packed}
use Rattle.sift_buffer.specs.Ranges.{Ranges, shared_words}
use Rattle.sift_buffer.specs.Conduct.{saying, hearing, never}
use Rattle.sift_buffer.specs.Conduct.{Conduct as Acts}
use Rattle.sift_buffer.specs.Core.{Core}
use Rattle.sift_exec.specs.Conviction.{nobody}
use Rattle.sift_mission.specs.Slots.{calls, stamp_of, heard_at}
use Rattle.sift_conduct.specs.Conduct.{Account}
use Rattle.sift_flight.specs.Calm.{Calm, four_units, layout_of, mission_of}

-- the word that each unit says in a slot
abbrev pub word_in : Calm → Slot → ℕ
word_in c Clock = 0
word_in c (Sense x) = slice_index c.sensed x
word_in c (RelaySense x) = slice_index c.sensed x
word_in c (Out w) = slice_index c.outs w
word_in c Report = 0
word_in c (RelayReport s) = 0

-- each unit's account
abbrev pub account_of : Calm → Account
account_of c = record { cfg = four_units; idle = false; clk = pos 0; ins = c.sensed; outs = c.outs; bad = nobody; next_cfg = four_units; next_clk = pos 0 }

-- the progress number of a unit, and the progress at which it left, if it did: in the last subframe
abbrev pub progress_of : Calm → ℕ → ℕ
progress_of c u = if c.turns u then never else c.period

abbrev pub left_of : Calm → ℕ → ℕ
left_of c u = if c.turns u then c.period - 1 else never

-- what a unit said and heard in the slots of the one frame
abbrev pub acts_of : Calm → ℕ → Acts
acts_of c u = record {
  progress = progress_of c u;
  left = left_of c u;
  seen = λ p. c.period;
  said = λ f n q. if nat_eq f 0 && calls (mission_of c) four_units (c.kind n) u q
      then Some (saying (stamp_of (mission_of c) four_units 0 (c.kind n)) (Some (word_in c (c.kind n)))) else None;
  heard = λ f n p. if nat_eq f 0 && calls (mission_of c) four_units (c.kind n) p u
      then Some (hearing (stamp_of (mission_of c) four_units 0 (c.kind n)) (heard_at (mission_of c) four_units 0 (c.kind n)) (Some (word_in c (c.kind n)))) else None;
  strays = [];
}

-- the numbers of its units, slots and frames
abbrev pub ranges_of : Calm → Ranges
ranges_of c = record { units = 4; slots = slot_count (layout_of c); frames = 1 }

-- the cell of p for q in slot number n: what p said last there
abbrev pub cell_of : Calm → ℕ → ℕ → ℕ → ℕ
cell_of c p q n = if calls (mission_of c) four_units (c.kind n) p q
    then packed (stamp_of (mission_of c) four_units 0 (c.kind n)) (Some (word_in c (c.kind n))) else 0

-- the shared words: four progress numbers, and then the cells by sender, receiver and slot
abbrev pub shared_word : Calm → ℕ → ℕ
shared_word c i =
    let cells = slot_count (layout_of c) in
    if nat_lt i 4 then progress_of c i else cell_of c (((i - 4) / cells) / 4) (((i - 4) / cells) % 4) ((i - 4) % cells)

-- the core after the frame
abbrev pub core_of : Calm → Core
core_of c = record { words = map (shared_word c) (range_with_len 0 (shared_words (ranges_of c))); of = acts_of c }
