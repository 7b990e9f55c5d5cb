use Rattle.std.proofs.Common.{◌≡◌, Some, ap, arith, take_all}
use Rattle.std.proofs.lemmas.List.Elements.{All-more}
use Rattle.sift_vote.specs.Majority.{votes_for, IsMajority}
use Rattle.sift_vote.specs.laws.Votes.{Loses, majority_is_unique, no_majority}
use Rattle.sift_vote.proofs.voting.majority.Goals as goal
use Rattle.sift_vote.proofs.voting.majority.Goals.{in-Some+else-votes_for-places, in_default}

-- the word that was found is the majority
pub returns-then-votes_for-places-clause-found : goal.returns-then-votes_for-places-clause-found
returns-then-votes_for-places-clause-found c = omega (arith, c.votes_for.ensures)

-- and the only one
pub returns-then-votes_for-places-clause-exact : goal.returns-then-votes_for-places-clause-exact
returns-then-votes_for-places-clause-exact c =
    let here : IsMajority c.args.places.now c.in-Some.word = omega (arith, c.votes_for.ensures) in
    λ w most. ap Some (majority_is_unique c.args.places.now c.in-Some.word w here most)

-- nor does this place hold one
pub loop-place-preserved : goal.loop-place-preserved
loop-place-preserved c =
    let places = c.args.places.now in
    All-more (Loses places) places c.loop-place.place-index c.place-item.result (omega arith) c.loop-place.invariant
    (λ v held most. elim c.match-place.branch [
      | in-Some+else-votes_for-places w ↦
          let same : w.in-Some.word ≡ v = cc in omega (arith, w.votes_for.ensures, ap (votes_for places) same)
      | in_default w ↦ cc
    ])

-- no place holds a majority
pub returns-clause-none : goal.returns-clause-none
returns-clause-none c =
    let places = c.args.places.now in
    let seen_all = take_all c.loop-place.place-index places (omega arith) in
    no_majority places (rw seen_all at c.loop-place.invariant)

pub returns-clause-exact : goal.returns-clause-exact
returns-clause-exact c = λ w most. absurd (returns-clause-none c w most)
