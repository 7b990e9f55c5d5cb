-- What a room holds to which a text was written.
use Rattle.std.proofs.Common.{◌≡◌, ℕ, ◌<◌, ◌≤◌, ◌+◌, ◌++◌, ◌∷◌, List, [], length, take, arith}
use Rattle.std.proofs.lemmas.Grind.{common_steps}
use Rattle.sift_call.specs.Room.{BeginsWith}

-- the room begins with the text, if what is beyond it comes only after it is full
pub begins : (room beyond : List ℕ) (count : ℕ) → count ≤ length room → (count < length room → beyond ≡ []) → BeginsWith room (take count room ++ beyond)
begins room [] count within full = grind (arith, common_steps)
begins room (byte ∷ bytes) count within full =
    let filled : ¬ (count < length room) = λ less. let e = full less in cc in
    let all : count ≡ length room = omega (arith, within, filled) in
    rw (← all) (grind (arith, common_steps))

-- the text is as long as both parts
pub long : (room beyond : List ℕ) (count : ℕ) → count ≤ length room → count + length beyond ≡ length (take count room ++ beyond)
long room beyond count within = grind (arith, common_steps)
