use Rattle.std.proofs.Common.{ℕ, List, subst, arith}
use Rattle.sift_mission.specs.Data.{IsConfigOf}
use Rattle.sift_mission.specs.Crews.{AreCrewsOf}
use Rattle.sift_mission.specs.Parts.{data_of, flown_of}
use Rattle.sift_mission.proofs.crews.crews_of.Goals as goal

-- the byte's units are the configuration
pub returns-in-Some : goal.returns-in-Some
returns-in-Some c =
    let d = data_of c.args.parts.now in
    subst (λ (us : List ℕ). IsConfigOf (flown_of c.args.parts.now) us → AreCrewsOf d us c.crews_under.result)
    c.in-Some.ensures.found c.crews_under.ensures

-- too few are none
pub returns-in-None : goal.returns-in-None
returns-in-None c = λ config. absurd (let enough = config.enough in let few = c.in-None.ensures.none in omega arith)
