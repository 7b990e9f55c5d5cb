use Rattle.std.proofs.Common.{◌∙◌, ap, below_more, map, arith}
use Rattle.std.proofs.lemmas.List.{length-map, take_all}
use Rattle.std.proofs.lemmas.List.Elements.{All-push}
use Rattle.toml.specs.View.{view}
use Rattle.sift_document.specs.laws.Places.{fails_here, holds_here, nowhere}
use Rattle.sift_document.specs.laws.Testing.{first_broken}
use Rattle.sift_byz.specs.Plan.{lie_of}
use Rattle.sift_byz.specs.Stated.{HasReceivers, HasWord, IsPath, lie_in}
use Rattle.sift_byz.proofs.Testing.{made_more, not_below, place_fits}
use Rattle.sift_byz.proofs.lies.lies_in.Goals as goal

-- this entry, which has receivers, is the first that has no word
pub returns-in-None-clause-tests : goal.returns-in-None-clause-tests
returns-in-None-clause-tests c =
    let entries = c.args.entries.now in
    rw c.broken.ensures
    (first_broken 8 _ _
    (holds_here (λ entry. view entry) entries (λ at lie. ¬ HasWord lie) _ _ c.loop-place-test.true c.index-entries-place.is
    (λ word. c.requires.received c.loop-place.place
    (holds_here (λ entry. view entry) entries (λ at lie. ¬ HasReceivers c.args.units c.args.m lie) _ _ c.loop-place-test.true c.index-entries-place.is
    (λ received. c.in-None.ensures.none received word))))
    c.loop-place.invariant.kept)

-- one lie more
pub loop-place-preserved : goal.loop-place-preserved
loop-place-preserved c =
    record {
      stated = made_more lie_of lie_in (λ entry. view entry) c.args.entries.now _ _ _ _ _ c.loop-place-test.true c.index-entries-place.is
          c.loop-place.invariant.stated c.in_ok-push-in-Some.ensures.items c.in-Some.ensures.found;
      paths = rw c.in_ok-push-in-Some.ensures.items
          (All-push (λ lie. IsPath c.args.units c.args.m lie.path.items) c.loop-place.lies.items _ c.loop-place.invariant.paths c.in-Some.ensures.path);
      kept = below_more _ _ c.loop-place.invariant.kept
          (fails_here (λ entry. view entry) c.args.entries.now (λ at lie. ¬ HasWord lie) _ _ c.loop-place-test.true c.index-entries-place.is
          (λ none. none c.in-Some.ensures.word));
    }

-- all entries
pub returns-clause-lies : goal.returns-clause-lies
returns-clause-lies c =
    c.loop-place.invariant.stated
    ∙ take_all c.loop-place.place (map lie_in (map (λ entry. view entry) c.args.entries.now)) (rw (length-map, length-map) c.loop-place-test.false)

pub returns-clause-tests : goal.returns-clause-tests
returns-clause-tests c =
    nowhere (λ entry. view entry) c.args.entries.now (λ at lie. ¬ HasWord lie)
    (λ at low. c.loop-place.invariant.kept at (omega (arith, low, c.loop-place-test.false)))

-- no lies yet
pub loop-place-init : goal.loop-place-init
loop-place-init c =
    record {
      stated = ap (map lie_of) c.new-lies.ensures.items;
      paths = rw c.new-lies.ensures.items (λ k d low. absurd (not_below low));
      kept = λ at low. absurd (not_below low);
    }

pub broken-requires : goal.broken-requires
broken-requires c = place_fits c.loop-place-test.true c.requires.few
