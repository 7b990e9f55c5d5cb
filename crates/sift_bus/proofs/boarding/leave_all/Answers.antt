use Rattle.std.proofs.Common.{◌≡◌, ◌<◌, [], ◌∷◌, ◌++◌, List, length, length-append, vec_len, map, sym, ap, ◌∙◌, subst, arith}
use Rattle.std.proofs.lemmas.List.{append_assoc, append-nil, nil_from_length, map-append}
use Rattle.std.specs.List.{AllZip}
use Rattle.sift_ether.specs.Seating.{IsTokenBack}
use Rattle.sift_ether.specs.declared.seat.EtherSeat.{EtherSeat}
use Rattle.sift_bus.specs.Boarding.{Boarded}
use Rattle.sift_bus.proofs.Sides.{side_push}
use Rattle.sift_bus.proofs.SeatsTaken.{shorter}
use Rattle.sift_bus.proofs.boarding.leave_all.Given.{Over}
use Rattle.sift_bus.proofs.boarding.leave_all.Goals.{In-Some, In-None}
use Rattle.sift_bus.proofs.boarding.leave_all.Goals as goal

-- one unit more has left
pub loop-flyer-preserved : goal.loop-flyer-preserved
loop-flyer-preserved g c =
    let inv = c.loop-flyer.invariant in let long = length-append c.loop-flyer.yielded (c.in-Some.flyer ∷ []) in record {
      tokens = rw c.push_reserved.ensures.items (side_push (λ flyer token. IsTokenBack flyer.port.port token) c.loop-flyer.yielded c.loop-flyer.tokens.items
          c.in-Some.flyer c.end.result inv.tokens (subst (λ (s : EtherSeat). IsTokenBack s c.end.result) c.end-place.ensures.port c.end.ensures));
      accounts = c.push_reserved-in-loop-flyer.ensures.items ∙ ((λ i. inv.accounts i ++ (c.end-in-loop-flyer.ensures i ∷ []))
          ∙ sym (map-append (λ flyer. flyer.seat.board.accounts) c.loop-flyer.yielded (c.in-Some.flyer ∷ [])));
      logs = c.push_reserved-in-loop-flyer-2.ensures.items ∙ ((λ i. inv.logs i ++ (c.end-place.ensures.log i ∷ []))
          ∙ sym (map-append (λ flyer. flyer.port.log) c.loop-flyer.yielded (c.in-Some.flyer ∷ [])));
      all = append_assoc c.loop-flyer.yielded (c.in-Some.flyer ∷ []) c.next.new.self.rest.items
          ∙ ((λ i. c.loop-flyer.yielded ++ sym c.in-Some.ensures.steps.0 i) ∙ inv.all);
      tokens_room = (
        (let more = c.push_reserved.ensures.len in let len = inv.tokens_room.0 in omega arith),
        (let same = c.push_reserved.ensures.capacity in let room = inv.tokens_room.1 in omega arith),
      );
      accounts_room = (
        (let more = c.push_reserved-in-loop-flyer.ensures.len in let len = inv.accounts_room.0 in omega arith),
        (let same = c.push_reserved-in-loop-flyer.ensures.capacity in let room = inv.accounts_room.1 in omega arith),
      );
      logs_room = (
        (let more = c.push_reserved-in-loop-flyer-2.ensures.len in let len = inv.logs_room.0 in omega arith),
        (let same = c.push_reserved-in-loop-flyer-2.ensures.capacity in let room = inv.logs_room.1 in omega arith),
      );
    }

-- fewer than all have left before the next unit
few_left : (g : Over) (c : In-Some g) → length c.loop-flyer.yielded < vec_len c.args.flyers
few_left g c =
    let low = shorter c.loop-flyer.yielded c.next.new.self.rest.items c.args.flyers.items c.in-Some.flyer
    ((λ i. c.loop-flyer.yielded ++ sym c.in-Some.ensures.steps.0 i) ∙ c.loop-flyer.invariant.all) in let size = c.args.flyers.ok.0 in omega arith

pub push_reserved-requires : goal.push_reserved-requires
push_reserved-requires g c = let few = few_left g (goal.at.push_reserved-requires g c).In-Some in
    let room = c.loop-flyer.invariant.tokens_room in let len = room.0 in let all = room.1 in omega arith

pub push_reserved-requires-in-loop-flyer : goal.push_reserved-requires-in-loop-flyer
push_reserved-requires-in-loop-flyer g c = let few = few_left g (goal.at.push_reserved-requires-in-loop-flyer g c).In-Some in
    let room = c.loop-flyer.invariant.accounts_room in let len = room.0 in let all = room.1 in omega arith

pub push_reserved-requires-in-loop-flyer-2 : goal.push_reserved-requires-in-loop-flyer-2
push_reserved-requires-in-loop-flyer-2 g c = let few = few_left g (goal.at.push_reserved-requires-in-loop-flyer-2 g c).In-Some in
    let room = c.loop-flyer.invariant.logs_room in let len = room.0 in let all = room.1 in omega arith

-- nothing is left yet
pub loop-flyer-init : goal.loop-flyer-init
loop-flyer-init g c = let count = c.len-units.ensures in record {
  tokens = rw c.in_ok-tokens.ensures.items tt;
  accounts = c.in_ok-accounts.ensures.items;
  logs = c.in_ok-logs.ensures.items;
  all = c.into_iter-flyer-iterator.ensures.into_iter_gives.0;
  tokens_room = (c.in_ok-tokens.ensures.len, (let room = c.in_ok-tokens.ensures.capacity in omega arith));
  accounts_room = (c.in_ok-accounts.ensures.len, (let room = c.in_ok-accounts.ensures.capacity in omega arith));
  logs_room = (c.in_ok-logs.ensures.len, (let room = c.in_ok-logs.ensures.capacity in omega arith));
}

-- no unit is left
all_left : (g : Over) (c : In-None g) → c.loop-flyer.yielded ≡ c.args.flyers.items
all_left g c =
    let none : c.loop-flyer.flyer-iterator.rest.items ≡ [] = nil_from_length c.loop-flyer.flyer-iterator.rest.items
    (let zero = c.in-None.ensures.steps.0 in let long = c.loop-flyer.flyer-iterator.rest.ok.0 in omega arith) in
    sym (append-nil c.loop-flyer.yielded) ∙ ((λ i. c.loop-flyer.yielded ++ sym none i) ∙ c.loop-flyer.invariant.all)

pub returns-clause-logs : goal.returns-clause-logs
returns-clause-logs g c = c.loop-flyer.invariant.logs ∙ ap (map (λ flyer. flyer.port.log)) (all_left g (goal.at.returns-clause-logs g c).In-None)

pub returns-clause-accounts : goal.returns-clause-accounts
returns-clause-accounts g c = c.loop-flyer.invariant.accounts ∙ ap (map (λ flyer. flyer.seat.board.accounts)) (all_left g (goal.at.returns-clause-accounts g c).In-None)

pub returns-clause-tokens : goal.returns-clause-tokens
returns-clause-tokens g c = subst (λ (xs : List (Boarded g.row.B.Denot)). AllZip (λ flyer token. IsTokenBack flyer.port.port token) xs c.loop-flyer.tokens.items)
    (all_left g (goal.at.returns-clause-tokens g c).In-None) c.loop-flyer.invariant.tokens
