use Rattle.std.proofs.Common.{length, length-drop, ap, ◌∙◌, arith}
use Rattle.std.proofs.Crossing.{crosses}
use denote.Param.Send.{Quiet-if, sendable}
use denote.Param.{param}
use denote.Exit.{no, unseen}
use mir.Syntax.{named, of_param}
use Rattle.sift_mission.specs.declared.mission.MissionParts.{MissionParts}
use Rattle.sift_threads.proofs.Home.{home_long}
use Rattle.sift_threads.proofs.Sent.{manned_send}
use Rattle.sift_ether.specs.contracts.seat.EtherSeat as EtherSeat
use Rattle.sift_ether.proofs.seat.EtherSeat.TheSendSync as ether_seat
use Rattle.sift_threads.specs.contracts.seating.Manned as Manned
use Rattle.sift_threads.proofs.flight.fly_seats.Goals as goal

-- a unit at its seat may be sent to another thread
pub fly_all-requires-send-P : goal.fly_all-requires-send-P
fly_all-requires-send-P g c κs within =
    let rogue = c.type_bounds.send-R in
    let port = EtherSeat.the_row (record { mir = named 6; lft = κs.1.1.1.1.1.1.0 }) in
    let manned = manned_send c.missions_may_be_lent.ensures (record { mir = named 5; lft = κs.1.1.1.1.1.0 }) port (param 0 g.row.R)
    (search (sendable, crosses, ether_seat.the_send) depth 40 fits 20000) (search (sendable, rogue) depth 40 fits 20000) in
    let row = Manned.the_row (record { mir = named 5; lft = κs.1.1.1.1.1.0 }) port (param 0 g.row.R) in
    record { owned = manned.owned; leaving = λ k. Quiet-if (k (of_param 0)) (row.exit no) unseen (manned.leaving no) (λ x w. tt {0}) }

pub leave_home-requires-clause-no_tokens : goal.leave_home-requires-clause-no_tokens
leave_home-requires-clause-no_tokens g c =
    let units = ap (λ (p : MissionParts). p.units) c.parts.ensures.same in let count = c.from-units.ensures in
    let long = home_long _ _ _ _ c.in_ok-home.ensures c.seat_all-places.ensures.seated.count in let len = c.in_ok-home.home.ok.0 in
    let empty = c.in_ok-empty.ensures.tokens in let room = empty.1 in (empty.0, omega arith)

pub leave_home-requires-clause-no_accounts : goal.leave_home-requires-clause-no_accounts
leave_home-requires-clause-no_accounts g c =
    let units = ap (λ (p : MissionParts). p.units) c.parts.ensures.same in let count = c.from-units.ensures in
    let long = home_long _ _ _ _ c.in_ok-home.ensures c.seat_all-places.ensures.seated.count in let len = c.in_ok-home.home.ok.0 in
    let empty = c.in_ok-empty.ensures.accounts in let room = empty.1 in (empty.0, omega arith)

pub leave_home-requires-clause-no_rogues : goal.leave_home-requires-clause-no_rogues
leave_home-requires-clause-no_rogues g c =
    let long = home_long _ _ _ _ c.in_ok-home.ensures c.seat_all-places.ensures.seated.count in let len = c.in_ok-home.home.ok.0 in
    let behind = ap length c.seat_all-places.ensures.beyond ∙ length-drop c.args.mission.now.units c.args.rogues.items in
    let eight = c.requires.rogues in let few = c.parts.ensures.fit.limits.few_units in
    let all = c.len.ensures in let own = c.args.rogues.ok.0 in
    let empty = c.in_ok-empty.ensures.rogues in let room = empty.1 in (empty.0, omega arith)

pub returns : goal.returns
returns g c = c.leave_home.ensures c.args.tokens.items c.in_ok-seats.seats.items c.args.rogues.items c.seat_all-places.result.0.items c.requires.made
    c.in_ok-seats.ensures c.seat_all-places.ensures.seated (let eight = c.requires.rogues in let few = c.parts.ensures.fit.limits.few_units in omega arith)
    c.seat_all-places.ensures.beyond c.in_ok-home.ensures

pub seat_all-places-requires-clause-empty : goal.seat_all-places-requires-clause-empty
seat_all-places-requires-clause-empty g c = c.in_ok-room.ensures.items

pub seat_all-places-requires-clause-room : goal.seat_all-places-requires-clause-room
seat_all-places-requires-clause-room g c =
    let units = ap (λ (p : MissionParts). p.units) c.parts.ensures.same in let count = c.from-units.ensures in
    let room = c.in_ok-room.ensures.capacity in omega arith

pub seat_all-places-requires-clause-rogues : goal.seat_all-places-requires-clause-rogues
seat_all-places-requires-clause-rogues g c =
    let eight = c.requires.rogues in let few = c.parts.ensures.fit.limits.few_units in omega arith
