-- A mission may be lent to several threads.
use denote.Param.Send.{IsSync, sendable}
use denote.Param.SendFields.{declared_sync}
use Rattle.std.proofs.Crossing.{crosses}
use Rattle.sift_mission.proofs.Trees.{task_sync}
use Rattle.sift_program.specs.contracts.program.Program as Program
use Rattle.sift_mission.specs.contracts.mission.Mission as Mission
use Rattle.sift_mission.specs.contracts.mission.Mission.TheInside as Inside
use Rattle.sift_mission.specs.contracts.mission.MissionParts as MissionParts
use Rattle.sift_registers.proofs.registers.Registers.TheSendSync as registers
use Rattle.sift_script.proofs.checked.GoodScript.TheSendSync as script
use Rattle.sift_skew.proofs.clocks.ClockPlan.TheSendSync as clock
use Rattle.sift_table.proofs.table.GoodTable.TheSendSync as table
use Rattle.sift_mission.proofs.crews.Crews.TheSendSync as crews
use Rattle.sift_mission.proofs.timetable.Timetable.TheSendSync as timetable

-- a program, by its tasks' trees
program_sync : IsSync Program.the_row
program_sync = search (sendable, crosses, task_sync) depth 60 fits 20000

-- the parts of a mission
parts_sync : IsSync MissionParts.the_row
parts_sync = declared_sync MissionParts.the_type (
  search (sendable, crosses) depth 40 fits 20000,
  (
    search (sendable, crosses) depth 40 fits 20000,
    (
      search (sendable, crosses) depth 40 fits 20000,
      (
        search (sendable, crosses) depth 40 fits 20000,
        (
          search (sendable, crosses) depth 40 fits 20000,
          (
            search (sendable, crosses, program_sync) depth 40 fits 20000,
            (
              search (sendable, crosses, registers.the_sync) depth 40 fits 20000,
              (
                search (sendable, crosses, table.the_sync) depth 40 fits 20000,
                (
                  search (sendable, crosses) depth 40 fits 20000,
                  (search (sendable, crosses, clock.the_sync) depth 40 fits 20000, (search (sendable, crosses, script.the_sync) depth 40 fits 20000, tt)),
                ),
              ),
            ),
          ),
        ),
      ),
    ),
  ),
)

-- and what a mission keeps beside them
inside_sync : IsSync Inside.the_row
inside_sync = declared_sync Inside.the_type (
  search (sendable, crosses, parts_sync) depth 40 fits 20000,
  (
    search (sendable, crosses) depth 40 fits 20000,
    (
      search (sendable, crosses) depth 40 fits 20000,
      (search (sendable, crosses, timetable.the_sync) depth 40 fits 20000, (search (sendable, crosses, crews.the_sync) depth 40 fits 20000, tt)),
    ),
  ),
)

-- a mission
pub mission_sync : IsSync Mission.the_row
mission_sync = search (sendable, inside_sync) depth 40 fits 20000
