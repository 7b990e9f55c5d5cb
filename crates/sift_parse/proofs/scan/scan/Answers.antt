use Rattle.std.proofs.Common.{◌+◌, take, drop, slice_index_or, arith}
use Rattle.std.proofs.lemmas.Grind.{common_steps}
use Rattle.sift_parse.specs.Roll.{roll_of}
use Rattle.sift_parse.specs.Held.{force_of}
use Rattle.sift_parse.specs.Written.{placed_of, lexeme_of}
use Rattle.sift_parse.proofs.Places.Living.{names-few}
use Rattle.sift_parse.proofs.Refusals.Taking.{placed_here, placed-split, scanning-next, refused-next}
use Rattle.sift_parse.proofs.scan.scan.Goals as goal

pub token_of-requires-clause-names : goal.token_of-requires-clause-names
token_of-requires-clause-names c =
    names-few (roll_of c.args.names.now) (force_of c.loop-placed.force) (lexeme_of _) c.requires.names c.loop-placed.invariant.few

-- the lexeme is refused
pub returns-in-Some : goal.returns-in-Some
returns-in-Some c =
    let xs = c.args.lexemes.now in
    let i = c.loop-placed.placed-index in
    let refused =
    refused-next (roll_of c.args.names.now) (placed_of xs) (placed_of (take i xs)) (placed_of (drop (i + 1) xs))
    (placed_here (slice_index_or xs i _))
    (force_of c.loop-placed.force) c.loop-placed.tokens.items c.in-Some.refusal c.loop-placed.invariant
    (placed-split xs i _ c.loop-placed-test.true) c.in-Some.ensures.found in
    rw (c.in_ok-push.ensures.items, c.stop.ensures, c.place.ensures, c.token_of.ensures) refused

-- no refusal stands at the lexeme
pub loop-placed-preserved : goal.loop-placed-preserved
loop-placed-preserved c =
    let scanned =
    scanning-next (roll_of c.args.names.now) c.args.lexemes.now c.loop-placed.placed-index _
    (force_of c.loop-placed.force) c.loop-placed.tokens.items c.loop-placed-test.true c.loop-placed.invariant c.in_default.ensures.none in
    rw (c.in_ok-advance.ensures, c.in_ok-push.ensures.items, c.token_of.ensures) scanned

pub returns : goal.returns
returns c = grind (arith, common_steps)

pub place-requires : goal.place-requires
place-requires c = grind (arith, common_steps)
