-- Whether a unit flies, has landed or has turned, as its progress number tells.
use Rattle.std.proofs.Common.{◌≡◌, ◌≢◌, ◌<◌, Bool, true, false, ⊎_elim, arith, mul_comm}
use Rattle.std.proofs.lemmas.Nat.{mul-add-lt}
use Rattle.sift_buffer.specs.Conduct.{Conduct, never}
use Rattle.sift_buffer.specs.Lawful.{HasStage}
use Rattle.sift_mission.specs.Data.{FlownMission}
use Rattle.sift_unit.specs.Desk.{Desk}
use Rattle.sift_unit.specs.Going.{Going}
use Rattle.sift_unit.specs.Keeping.{Flying, Turned, KeepsAs}
use Rattle.sift_core.specs.Turns.{end_in}

-- a board whose unit's number is another one than that of a unit that has turned flies
pub keeps_flying : (m : FlownMission) (t : Bool) (b : Desk) (c : Conduct) → KeepsAs m t b c → c.progress ≢ never → Flying m b c
keeps_flying m true b c k ne = absurd (ne k.progress)
keeps_flying m false b c k ne = k

-- and one whose unit's number is this one has turned
pub keeps_turned : (m : FlownMission) (t : Bool) (b : Desk) (c : Conduct) → KeepsAs m t b c → HasStage c → c.progress ≡ never → Turned m b c
keeps_turned m true b c k stage is = k
keeps_turned m false b c k stage is = absurd (⊎_elim (λ f. let low = f.1 in omega arith) (λ t. let low = t.0 in let left = k.going.left in omega arith) stage)

-- a unit that has not left has not this number
pub not_left : (c : Conduct) → HasStage c → c.left ≡ never → c.progress ≢ never
not_left c stage left is = ⊎_elim (λ f. let low = f.1 in omega arith) (λ t. let low = t.0 in omega arith) stage

-- a board that flies and has frames to fly has not come to the end
pub unfinished_low : (m : FlownMission) (b : Desk) (c : Conduct) → Going m b c → b.frame < m.frames → c.progress < end_in m
unfinished_low m b c going low = let range = going.range in let is = going.progress in
    let under = mul-add-lt b.frame m.period b.subframe m.frames low range.subframe in omega (arith, mul_comm m.period m.frames)
