use Rattle.std.proofs.Common.{◌≡◌, ℕ, ◌<◌, ◌≤◌, length, true, ltb-true, ◌∙◌, ap, sym, subst, arith}
use Rattle.std.proofs.lemmas.Grind.{common_steps}
use Rattle.sift_base.specs.declared.slots.Slot.TheVariants.{Sense}
use Rattle.sift_mission.specs.Data.{FlownMission}
use Rattle.sift_mission.specs.Fits.{Fits}
use Rattle.sift_mission.specs.Parts.{flown_of}
use Rattle.sift_mission.specs.Slots.{is_slot}
use Rattle.sift_unit_frame.specs.Memory.{note as note_of}
use Rattle.sift_unit_frame.specs.Memories.{memory_of}
use Rattle.sift_unit_frame.proofs.memory.Memory.note.Goals as goal

-- the sensor of a slot is one of the mission's
sensed : (m : FlownMission) (fits : Fits m) (i x : ℕ) → i < m.slots → Sense x ≡ m.kind i → x < m.sensors
sensed m fits i x low is = ltb-true x m.sensors (subst (λ k. is_slot m k ≡ true) (sym is) (fits.numbered.slot i low))

-- so it has a place
pub listed-in-Sense : goal.listed-in-Sense
listed-in-Sense c =
    let m = flown_of c.args.mission.now in
    let low = sensed m c.requires.slot.fits c.args.slot c.in-Sense.x c.requires.slot.slot.slot (sym c.in-Sense.is ∙ c.kind.ensures) in
    let room : m.sensors ≤ length c.args.self.now.direct = c.requires.may.shape.direct in
    rw c.from-in-Sense.ensures (omega arith)

pub bounds-self-from : goal.bounds-self-from
bounds-self-from c =
    let m = flown_of c.args.mission.now in
    let low = sensed m c.requires.slot.fits c.args.slot c.in-Sense.x c.requires.slot.slot.slot (sym c.in-Sense.is ∙ c.kind.ensures) in
    let few = c.requires.slot.fits.counted.sensors in
    rw c.from-in-Sense.ensures (omega arith)

-- the slot of the clocks
pub returns-in-Clock-clause-noted : goal.returns-in-Clock-clause-noted
returns-in-Clock-clause-noted c =
    let m = flown_of c.args.mission.now in
    let b = memory_of c.args.self.now in
    c.note_clocks.ensures.noted c.args.frame c.args.self.now.words.before
    ∙ ap (λ k. note_of m c.args.config.now c.args.unit c.args.frame c.args.clk.now c.args.self.now.words.before k c.args.places.now b) (sym c.in-Clock.is ∙ c.kind.ensures)

-- the slot of a sensor's relays
pub returns-in-RelaySense-clause-noted : goal.returns-in-RelaySense-clause-noted
returns-in-RelaySense-clause-noted c =
    let m = flown_of c.args.mission.now in
    let b = memory_of c.args.self.now in
    c.note_relays.ensures.noted c.args.clk.now c.args.self.now.words.before
    ∙ ap (λ k. note_of m c.args.config.now c.args.unit c.args.frame c.args.clk.now c.args.self.now.words.before k c.args.places.now b) (sym c.in-RelaySense.is ∙ c.kind.ensures)

-- the slot of an output word
pub returns-in-Out-clause-noted : goal.returns-in-Out-clause-noted
returns-in-Out-clause-noted c =
    let m = flown_of c.args.mission.now in
    let b = memory_of c.args.self.now in
    c.note_poll.ensures.noted c.args.frame c.args.clk.now
    ∙ ap (λ k. note_of m c.args.config.now c.args.unit c.args.frame c.args.clk.now c.args.self.now.words.before k c.args.places.now b) (sym c.in-Out.is ∙ c.kind.ensures)

-- the slot of a report's relays
pub returns-in-RelayReport-clause-noted : goal.returns-in-RelayReport-clause-noted
returns-in-RelayReport-clause-noted c =
    let m = flown_of c.args.mission.now in
    let b = memory_of c.args.self.now in
    c.note_report.ensures.noted m c.args.frame c.args.clk.now c.args.self.now.words.before
    ∙ ap (λ k. note_of m c.args.config.now c.args.unit c.args.frame c.args.clk.now c.args.self.now.words.before k c.args.places.now b) (sym c.in-RelayReport.is ∙ c.kind.ensures)

pub returns-in-Report-clause-noted : goal.returns-in-Report-clause-noted
returns-in-Report-clause-noted c = grind (arith, common_steps)
