-- Rows of storms, as another program draws them.
use Rattle.std.proofs.Common.{◌≡◌, ◌^◌, ◌-◌, [], ◌∷◌, refl}
use Rattle.sift_base.specs.Draw.{after}
use Rattle.sift_rogue.specs.DrawnStorms.{drawn_acts}
use Rattle.sift_rogue.specs.declared.rogue.Act.TheVariants.{Stray}

-- the first two acts of a storm, the second first: receiver, slot, and the cell of stamp, presence and word
of_zero : drawn_acts 0 2 ≡ Stray 3 44 6300791963 ∷ Stray 7 84 2015536749 ∷ []
unfolding after
of_zero = refl

of_one : drawn_acts 1 2 ≡ Stray 3 50 5669485498 ∷ Stray 6 3 3784850266 ∷ []
unfolding after
of_one = refl

of_most : drawn_acts (2 ^ 64 - 1) 2 ≡ Stray 3 75 6932032892 ∷ Stray 0 23 246026624 ∷ []
unfolding after
of_most = refl
