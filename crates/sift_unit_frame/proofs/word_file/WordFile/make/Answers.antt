use Rattle.std.proofs.Common.{rules, ◌≡◌, ◌+◌, ◌*◌, length, refl, sym, ap, arith}
use Rattle.sift_pool.specs.Region.{empty_region, left_in}
use Rattle.sift_unit_frame.specs.Carving.{words_of_a_run}
use Rattle.sift_unit_frame.proofs.Filing.{first_is, first_file}
use Rattle.sift_unit_frame.proofs.word_file.WordFile.make.Goals.{In_ok-pool}
use Rattle.sift_unit_frame.proofs.word_file.WordFile.make.Goals as goal

-- the pool as it was taken from memory
taken : (c : In_ok-pool) → c.in_ok-pool.pool ≡ empty_region (words_of_a_run + c.args.sensors + 3 * length c.args.starts.now) 5
taken c = search (rules, c.make.ensures.made, c.map_err.ensures, c.in_ok-pool.ensures, c.in_ok-pool.is, c.in_ok-pool.was)

pub invariant_of-result : goal.invariant_of-result
invariant_of-result c =
    first_file _ _ _ _ _ _ _ _ _ _ _ _ _ _ _ _ (taken (goal.at.invariant_of-result c).In_ok-pool) refl
    c.carve-agreed.ensures c.carve-before.ensures c.carve-voted.ensures c.carve-work.ensures c.mark-mark.ensures
    c.carve-made.ensures c.store.ensures _ _ _ c.requires.sensors (omega (arith, c.requires.starts)) c.load.ensures c.load-2.ensures c.load-3.ensures

pub returns : goal.returns
returns c =
    first_is _ _ _ _ _ _ _ _ _ _ _ _ _ _ _ _ (taken (goal.at.returns c).In_ok-pool) refl c.carve-agreed.ensures c.carve-before.ensures c.carve-voted.ensures c.carve-work.ensures c.mark-mark.ensures
    c.carve-made.ensures c.store.ensures

-- all its words are left
all_left : (c : In_ok-pool) → left_in c.in_ok-pool.pool ≡ words_of_a_run + c.args.sensors + 3 * length c.args.starts.now
all_left c = omega (arith, ap left_in (taken c))

pub carve-agreed-requires-clause-words : goal.carve-agreed-requires-clause-words
carve-agreed-requires-clause-words c = let all = all_left (goal.at.carve-agreed-requires-clause-words c).In_ok-pool in omega arith

pub carve-before-requires-clause-words : goal.carve-before-requires-clause-words
carve-before-requires-clause-words c = let all = all_left (goal.at.carve-before-requires-clause-words c).In_ok-pool in
    let a = c.carve-agreed.ensures.left in omega arith

pub carve-voted-requires-clause-words : goal.carve-voted-requires-clause-words
carve-voted-requires-clause-words c = let all = all_left (goal.at.carve-voted-requires-clause-words c).In_ok-pool in
    let a = c.carve-agreed.ensures.left in let b = c.carve-before.ensures.left in omega arith

pub carve-work-requires-clause-words : goal.carve-work-requires-clause-words
carve-work-requires-clause-words c = let all = all_left (goal.at.carve-work-requires-clause-words c).In_ok-pool in
    let a = c.carve-agreed.ensures.left in let b = c.carve-before.ensures.left in
    let v = c.carve-voted.ensures.left in omega arith

pub carve-made-requires-clause-words : goal.carve-made-requires-clause-words
carve-made-requires-clause-words c = let all = all_left (goal.at.carve-made-requires-clause-words c).In_ok-pool in
    let a = c.carve-agreed.ensures.left in let b = c.carve-before.ensures.left in
    let v = c.carve-voted.ensures.left in let w = c.carve-work.ensures.left in omega arith

-- the spans stay where they are
pub store-requires-clause-live : goal.store-requires-clause-live
store-requires-clause-live c = c.carve-made.ensures.kept c.carve-before.result (c.carve-work.ensures.kept c.carve-before.result
    (c.carve-voted.ensures.kept c.carve-before.result c.carve-before.ensures.live))

pub load-requires : goal.load-requires
load-requires c = (
  omega arith,
  (
    c.store.ensures.kept c.carve-agreed.result (c.carve-made.ensures.kept c.carve-agreed.result (c.carve-work.ensures.kept c.carve-agreed.result
        (c.carve-voted.ensures.kept c.carve-agreed.result (c.carve-before.ensures.kept c.carve-agreed.result c.carve-agreed.ensures.live)))),
    (sym c.carve-agreed.ensures.long, c.requires.sensors),
  ),
)

pub load-requires-2 : goal.load-requires-2
load-requires-2 c = (
  omega arith,
  (
    c.store.ensures.kept c.carve-before.result (c.carve-made.ensures.kept c.carve-before.result (c.carve-work.ensures.kept c.carve-before.result
        (c.carve-voted.ensures.kept c.carve-before.result c.carve-before.ensures.live))),
    (sym c.carve-before.ensures.long, (let few = c.requires.starts in omega arith)),
  ),
)

pub load-requires-3 : goal.load-requires-3
load-requires-3 c = (
  omega arith,
  (
    c.store.ensures.kept c.carve-voted.result (c.carve-made.ensures.kept c.carve-voted.result (c.carve-work.ensures.kept c.carve-voted.result
        c.carve-voted.ensures.live)),
    (sym c.carve-voted.ensures.long, (let few = c.requires.starts in omega arith)),
  ),
)
