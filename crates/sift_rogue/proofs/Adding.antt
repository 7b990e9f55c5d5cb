-- A storm, call by call.
use Rattle.std.proofs.Common.{[], ◌∷◌, ◌++◌, option_to_list, refl, arith}
use Rattle.sift_rogue.specs.Storms.{Call, StormsAddUp}

-- with one call more there is one act more, and its stray before the others
pub add_up : {R : Type 0} (allows : R → Call → R → Type 0) → StormsAddUp allows
add_up allows = record {
  begins = λ sift number x y start. record { begun = y; start = start; acts = []; count_is = refl; answers = refl; strays_are = refl };
  goes_on = λ sift calls x y z shot storm shoots. record {
    begun = storm.begun;
    start = storm.start;
    acts = shoots.act ∷ storm.acts;
    count_is = (let e = storm.count_is in omega arith);
    answers = (y, storm.answers, shoots.allowed);
    strays_are = λ i. option_to_list (shoots.is i) ++ storm.strays_are i;
  };
}
