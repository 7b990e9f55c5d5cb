-- Who runs which task under each configuration, as a mission keeps it. No public clause cites this module.
use Rattle.std.specs.Prelude.{◌≡◌, ℕ, ◌-◌, ◌<◌, ◌&&◌, Bool, true, not, nat_eq, List, length, slice_index_or}
use Rattle.sift_base.specs.Units.{Units, has, holds, members, units_of}
use Rattle.sift_base.specs.Layout.{least_units, slot_count, slot_kind}
use Rattle.sift_base.specs.declared.slots.Layout.{Layout}
use Rattle.sift_base.specs.declared.slots.Slot.{Slot}
use Rattle.sift_base.specs.declared.slots.Slot.TheVariants.{RelayReport}
use Rattle.sift_table.specs.Schedule.{Schedule, positions_of}
use Rattle.sift_mission.specs.Data.{IsConfigOf, FlownMission, MissionData}
use Rattle.sift_mission.specs.Flown.{flown, position_in, table_for}
use Rattle.sift_mission.specs.Slots.{is_senders}
use Rattle.sift_mission.specs.declared.crews.Crews.{Crews}
use Rattle.sift_mission.specs.declared.crews.Roles.{Roles}

-- the units of a configuration that run a task by a table: those at the task's positions
abbrev pub IsCrewBy : Schedule → List ℕ → ℕ → Units → Type 0
IsCrewBy table us t crew = (u : ℕ) → holds crew u ≡ (has us u && has (positions_of table t) (position_in us u))

-- such units for each of so many tasks
abbrev pub AreCrewsBy : Schedule → List ℕ → ℕ → List Units → Type 0
AreCrewsBy table us tasks crews = (t : ℕ) (crew : Units) → t < tasks → IsCrewBy table us t (slice_index_or crews t crew)

-- a unit says the slot, whoever hears it; the report of a unit is relayed by the others
abbrev pub sends : FlownMission → List ℕ → Slot → ℕ → Bool
sends m us (RelayReport s) p = has us s && not (nat_eq p s)
sends m us k p = is_senders m us k p p

-- a unit hears the slot, whoever says it; the relays of a report are for all but the unit whose report it was
abbrev pub receives : Slot → ℕ → Bool
receives (RelayReport s) q = not (nat_eq q s)
receives k q = true

-- the units of a configuration that say a slot
abbrev pub AreSendersOf : MissionData → List ℕ → ℕ → Units → Type 0
AreSendersOf d us i units = (p : ℕ) → holds units p ≡ (has us p && sends (flown d) us (slot_kind d.layout i) p)

-- those that hear it
abbrev pub AreReceiversOf : Layout → List ℕ → ℕ → Units → Type 0
AreReceiversOf layout us i units = (q : ℕ) → holds units q ≡ (has us q && receives (slot_kind layout i) q)

-- both are what they are for the slot
pub record AreRolesOf (d : MissionData) (us : List ℕ) (i : ℕ) (roles : Roles) : Type 0 where
  pub senders : AreSendersOf d us i roles.senders
  pub receivers : AreReceiversOf d.layout us i roles.receivers

-- and so for each of so many slots
abbrev pub AreAllRoles : MissionData → List ℕ → ℕ → List Roles → Type 0
AreAllRoles d us count rows = (i : ℕ) (roles : Roles) → i < count → AreRolesOf d us i (slice_index_or rows i roles)

-- the crews of a configuration by its table, who says and hears each slot, and the place of the table among the mission's
pub record AreCrewsOf (d : MissionData) (us : List ℕ) (row : Crews) : Type 0 where
  pub crews : AreCrewsBy (table_for d us) us (length d.program.tasks) row.by_task
  pub roles : AreAllRoles d us (slot_count d.layout) row.roles
  pub table : row.table ≡ length us - least_units

-- for each byte whose units are a configuration of the mission, what is kept of that configuration
abbrev pub AreAllCrews : MissionData → List Crews → Type 0
AreAllCrews d rows = (bits : ℕ) (row : Crews) → bits < 256 → IsConfigOf (flown d) (members (units_of bits)) →
    AreCrewsOf d (members (units_of bits)) (slice_index_or rows bits row)
