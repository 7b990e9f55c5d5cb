use Rattle.std.proofs.Common.{◌≡◌, ◌<◌, [], ◌∷◌, ◌++◌, List, length, length-append, vec_len, sym, ap, ◌∙◌, subst, arith}
use Rattle.std.proofs.lemmas.List.{append_assoc, append-nil, nil_from_length}
use Rattle.std.proofs.lemmas.Grind.{common_steps}
use Rattle.sift_ether.specs.declared.seat.EtherSeat.{EtherSeat}
use Rattle.sift_threads.specs.Crews.{AreLeftOf}
use Rattle.sift_threads.specs.declared.seating.Manned.{Manned}
use Rattle.sift_threads.proofs.Crews.{left_push}
use Rattle.sift_threads.proofs.seating.leave_all.Given.{Over}
use Rattle.sift_threads.proofs.seating.leave_all.Goals.{In-Some}
use Rattle.sift_threads.proofs.seating.leave_all.Goals as goal

pub loop-place-init : goal.loop-place-init
loop-place-init g c = let none = c.requires in record {
  left = record {
    count = ap length none.no_tokens.0;
    back = λ u x t low. absurd (omega arith);
    accounts_are = none.no_accounts.0;
    rogues_are = none.no_rogues.0;
  };
  all = c.into_iter-place-iterator.ensures.into_iter_gives.0;
  tokens = ((let zero = ap length none.no_tokens.0 in let size = c.args.empty.tokens.ok.0 in omega arith), none.no_tokens.1);
  accounts = ((let zero = ap length none.no_accounts.0 in let size = c.args.empty.accounts.ok.0 in omega arith), none.no_accounts.1);
  rogues = ((let zero = ap length none.no_rogues.0 in let size = c.args.empty.rogues.ok.0 in omega arith), none.no_rogues.1);
}

-- fewer than all have left before the next unit
few_left : (g : Over) (c : In-Some g) → length c.loop-place.yielded < vec_len c.args.home
few_left g c =
    let all : c.loop-place.yielded ++ (c.in-Some.place ∷ c.next.new.self.rest.items) ≡ c.args.home.items =
    (λ i. c.loop-place.yielded ++ sym c.in-Some.ensures.steps.0 i) ∙ c.loop-place.invariant.all in
    let size = c.args.home.ok.0 in
    omega (arith, ap length all, length-append c.loop-place.yielded (c.in-Some.place ∷ c.next.new.self.rest.items), size)

pub push_reserved-requires : goal.push_reserved-requires
push_reserved-requires g c = let few = few_left g (goal.at.push_reserved-requires g c).In-Some in
    let room = c.loop-place.invariant.tokens in let len = room.0 in let all = room.1 in omega arith

pub push_reserved-requires-in-loop-place : goal.push_reserved-requires-in-loop-place
push_reserved-requires-in-loop-place g c = let few = few_left g (goal.at.push_reserved-requires-in-loop-place g c).In-Some in
    let room = c.loop-place.invariant.accounts in let len = room.0 in let all = room.1 in omega arith

pub push_reserved-requires-in-loop-place-2 : goal.push_reserved-requires-in-loop-place-2
push_reserved-requires-in-loop-place-2 g c = let few = few_left g (goal.at.push_reserved-requires-in-loop-place-2 g c).In-Some in
    let room = c.loop-place.invariant.rogues in let len = room.0 in let all = room.1 in omega arith

pub loop-place-preserved : goal.loop-place-preserved
loop-place-preserved g c =
    let inv = c.loop-place.invariant in let e = c.leave_one-token.ensures in let all = length-append c.loop-place.yielded (c.in-Some.place ∷ []) in record {
      left = rw c.push_reserved.ensures.items (rw c.push_reserved-in-loop-place.ensures.items (rw c.push_reserved-in-loop-place-2.ensures.items
          (left_push c.loop-place.yielded c.in-Some.place c.loop-place.tokens.items c.leave_one-token.result.0 c.loop-place.accounts.items
          c.leave_one-token.result.1 c.loop-place.rogues.items c.leave_one-token.result.2 inv.left e.token e.accounts e.rogue)));
      all = append_assoc c.loop-place.yielded (c.in-Some.place ∷ []) c.next.new.self.rest.items
          ∙ ((λ i. c.loop-place.yielded ++ sym c.in-Some.ensures.steps.0 i) ∙ inv.all);
      tokens = (
        (let more = c.push_reserved.ensures.len in let len = inv.tokens.0 in omega arith),
        (let same = c.push_reserved.ensures.capacity in let room = inv.tokens.1 in omega arith),
      );
      accounts = (
        (let more = c.push_reserved-in-loop-place.ensures.len in let len = inv.accounts.0 in omega arith),
        (let same = c.push_reserved-in-loop-place.ensures.capacity in let room = inv.accounts.1 in omega arith),
      );
      rogues = (
        (let more = c.push_reserved-in-loop-place-2.ensures.len in let len = inv.rogues.0 in omega arith),
        (let same = c.push_reserved-in-loop-place-2.ensures.capacity in let room = inv.rogues.1 in omega arith),
      );
    }

pub returns : goal.returns
returns g c =
    let inv = c.loop-place.invariant in
    let none : c.loop-place.place-iterator.rest.items ≡ [] = nil_from_length c.loop-place.place-iterator.rest.items
    (let zero = c.in-None.ensures.steps.0 in let long = c.loop-place.place-iterator.rest.ok.0 in omega arith) in
    let all : c.loop-place.yielded ≡ c.args.home.items =
    sym (append-nil c.loop-place.yielded) ∙ ((λ i. c.loop-place.yielded ++ sym none i) ∙ inv.all) in record {
      own = c.loop-place.rogues.items;
      left = subst (λ (xs : List (Manned EtherSeat g.row.R.Denot)). AreLeftOf xs c.loop-place.tokens.items c.loop-place.accounts.items c.loop-place.rogues.items) all
          inv.left;
      rogues = c.put_behind.ensures;
    }

pub put_behind-requires : goal.put_behind-requires
put_behind-requires g c = grind (arith, common_steps)
