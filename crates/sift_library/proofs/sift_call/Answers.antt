use Rattle.std.proofs.Common.{◌<◌, ◌≤◌, length, arith}
use Rattle.sift_library.proofs.Filled.{has_no_room, has_reply}
use Rattle.sift_library.proofs.sift_call.Goals as goal

-- with another status the text fits, and the status is that of the reply
pub returns-in-Ok-clause-told : goal.returns-in-Ok-clause-told
returns-in-Ok-clause-told c = λ other memory.
    let answer = c.in-Ok.answer in
    let room = c.answer_of.new.room in
    let large : ¬ (length room < answer.length) = λ small. other (c.status_in.ensures.small small) in
    let fits : answer.length ≤ length room = omega (arith, large) in
    rw (c.status_in.ensures.fits fits)
    (has_reply c.args.words.now c.args.input.now room answer.length answer.status c.in-Ok.ensures.told fits)

-- no reply has the status of a room that is too small
pub returns-in-Ok-clause-no_room : goal.returns-in-Ok-clause-no_room
returns-in-Ok-clause-no_room c = λ is.
    let answer = c.in-Ok.answer in
    let room = c.answer_of.new.room in
    let low = c.in-Ok.ensures.known.0 in
    let large : ¬ (answer.length ≤ length room) =
    λ fits. let same = c.status_in.ensures.fits fits in absurd (omega (arith, is, same, low)) in
    let small : length room < answer.length = omega (arith, large) in
    has_no_room c.args.words.now c.args.input.now room answer.length answer.status c.in-Ok.ensures.told small
