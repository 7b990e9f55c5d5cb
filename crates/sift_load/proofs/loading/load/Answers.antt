use Rattle.sift_mission.specs.Parts.{data_of}
use Rattle.sift_load.proofs.Loaded.{refused_so, stated_so}
use Rattle.sift_load.proofs.loading.load.Goals as goal

-- a document that states a mission
pub returns-clause-stated : goal.returns-clause-stated
returns-clause-stated c =
    rw c.mission_in.ensures (stated_so data_of c.args.bytes.now _ _ c.in_ok-document.ensures.document c.mission_of.ensures.accepted)

-- and one that is refused
pub returns-clause-refused : goal.returns-clause-refused
returns-clause-refused c =
    rw c.mission_in.ensures (refused_so c.args.bytes.now _ _ c.in_ok-document.ensures.document c.mission_of.ensures.refused)
