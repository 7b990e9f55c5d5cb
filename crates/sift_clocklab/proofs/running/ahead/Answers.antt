use Rattle.std.proofs.Common.{◌≡◌, ℤ, pos, ◌+ℤ◌, ◌-ℤ◌, ap, sym, subst, ◌∙◌, w32, w64, to_z, of_z, arith}
use Rattle.std.proofs.lemmas.Int.{ints, to_z-of_z}
use mir.Val.{SFits}
use Rattle.sift_clock.specs.Distance.{IsWithin}
use Rattle.sift_clocklab.specs.Conditions.{AreTicks}
use Rattle.sift_clocklab.specs.Laboratory.{laboratory_of, noise_of}
use Rattle.sift_clocklab.specs.Rounds.{offset_of}
use Rattle.sift_clocklab.specs.Skew.{farthest}
use Rattle.sift_clocklab.proofs.Keeping.{are_near, near_of}
use Rattle.sift_clocklab.proofs.running.ahead.Goals as goal

-- a number, as a variable of 64 bits holds it
abbrev long : ℤ → ℤ
long n = to_z w64 (of_z w64 n)

-- one that is near to 0 it holds as it is
long_is : (n : ℤ) → IsWithin (pos farthest) n (pos 0) → long n ≡ n
long_is n near = to_z-of_z w64 n (omega (arith, ints, near))

-- two offsets and a noise, as they are read and as they are: the offsets are near to 0 and together, and the noise is small
record AreRead (x y z other own noise skew error : ℤ) : Type 0 where
  other_is : x ≡ other
  own_is : y ≡ own
  noise_is : z ≡ noise
  other_near : IsWithin (pos farthest) other (pos 0)
  own_near : IsWithin (pos farthest) own (pos 0)
  together : IsWithin skew other own
  misread : IsWithin error noise (pos 0)
  small_skew : AreTicks skew
  small_error : AreTicks error

-- what of them is held
record AreHeld (x y z other own noise : ℤ) : Type 0 where
  sum : long (long x -ℤ long y) +ℤ long z ≡ (other -ℤ own) +ℤ noise
  whole : long (long (long x -ℤ long y) +ℤ long z) ≡ (other -ℤ own) +ℤ noise
  near : IsWithin (pos 16000) ((other -ℤ own) +ℤ noise) (pos 0)

are_held : (x y z other own noise skew error : ℤ) → AreRead x y z other own noise skew error → AreHeld x y z other own noise
are_held x y z other own noise skew error read =
    let apart = read.together in
    let wrong = read.misread in
    let few_skew = read.small_skew in
    let few_error = read.small_error in
    let close : IsWithin (pos 8000) (other -ℤ own) (pos 0) = (omega (arith, ints, apart), omega (arith, ints, apart)) in
    let near : IsWithin (pos 16000) ((other -ℤ own) +ℤ noise) (pos 0) = (omega (arith, ints, close, wrong), omega (arith, ints, close, wrong)) in
    let long_other : long x ≡ other = ap long read.other_is ∙ long_is other read.other_near in
    let long_own : long y ≡ own = ap long read.own_is ∙ long_is own read.own_near in
    let long_noise : long z ≡ noise = ap long read.noise_is ∙ long_is noise (omega (arith, ints, wrong), omega (arith, ints, wrong)) in
    let difference : long x -ℤ long y ≡ other -ℤ own = λ i. long_other i -ℤ long_own i in
    let held : long (long x -ℤ long y) ≡ other -ℤ own =
    ap long difference ∙ long_is (other -ℤ own) (omega (arith, ints, close), omega (arith, ints, close)) in
    let sum : long (long x -ℤ long y) +ℤ long z ≡ (other -ℤ own) +ℤ noise = λ i. held i +ℤ long_noise i in
    record {
      sum = sum;
      whole = ap long sum ∙ long_is ((other -ℤ own) +ℤ noise) (omega (arith, ints, near), omega (arith, ints, near));
      near = near;
    }

-- what is near to 0 fits
fits_long : (n : ℤ) → IsWithin (pos 16000) n (pos 0) → SFits w64 n
fits_long n near = omega (arith, ints, near)

fits_short : (n : ℤ) → IsWithin (pos 16000) n (pos 0) → SFits w32 n
fits_short n near = omega (arith, ints, near)

-- so it is here: the clocks are no farther apart than the skew, and the noise is small
held_here : (c : goal.After-from-3) → AreHeld (offset_of c.args.offsets.now c.from.result) (offset_of c.args.offsets.now c.from-2.result) c.from-3.result
    (offset_of c.args.offsets.now c.args.other) (offset_of c.args.offsets.now c.args.own) (noise_of (laboratory_of c.args.lab.now) c.args.own c.args.other)
held_here c =
    let lab = laboratory_of c.args.lab.now in
    let offset = offset_of c.args.offsets.now in
    let near = are_near lab farthest c.args.offsets.now c.args.own c.args.other c.requires.ready c.requires.kept c.requires.working.own c.requires.working.other in
    are_held (offset c.from.result) (offset c.from-2.result) c.from-3.result (offset c.args.other) (offset c.args.own)
    (noise_of lab c.args.own c.args.other) lab.skew lab.error (record {
      other_is = ap offset c.from.ensures;
      own_is = ap offset c.from-2.ensures;
      noise_is = c.from-3.ensures ∙ (to_z-of_z w32 c.noise_between.result (record { sfits = c.noise_between.type_inv }) ∙ c.noise_between.ensures);
      other_near = near_of lab (pos farthest) c.args.offsets.now c.args.other c.requires.kept.of_clocks c.requires.working.other;
      own_near = near_of lab (pos farthest) c.args.offsets.now c.args.own c.requires.kept.of_clocks c.requires.working.own;
      together = near.apart;
      misread = near.misread;
      small_skew = near.small_skew;
      small_error = near.small_error;
    })

-- two offsets that are near to 0 are a difference that fits
fits_apart : (n m : ℤ) → IsWithin (pos farthest) n (pos 0) → IsWithin (pos farthest) m (pos 0) → SFits w64 (n -ℤ m)
fits_apart n m n_near m_near = omega (arith, ints, n_near, m_near)

pub overflow_sub-difference : goal.overflow_sub-difference
overflow_sub-difference c =
    let offset = offset_of c.args.offsets.now in
    let kept = c.requires.kept.of_clocks in
    let near = near_of (laboratory_of c.args.lab.now) (pos farthest) c.args.offsets.now in
    let other = ap (λ q. long (offset q)) c.from.ensures ∙ long_is _ (near c.args.other kept c.requires.working.other) in
    let own = ap (λ q. long (offset q)) c.from-2.ensures ∙ long_is _ (near c.args.own kept c.requires.working.own) in
    subst (SFits w64) (sym (λ i. other i -ℤ own i))
    (fits_apart _ _ (near c.args.other kept c.requires.working.other) (near c.args.own kept c.requires.working.own))

pub overflow_add-result : goal.overflow_add-result
overflow_add-result c = let held = held_here c in subst (SFits w64) (sym held.sum) (fits_long _ held.near)

-- so what is read fits as well
pub overflow_cast-result : goal.overflow_cast-result
overflow_cast-result c = let held = held_here c in subst (SFits w32) (sym held.whole) (fits_short _ held.near)

pub returns : goal.returns
returns c =
    let held = held_here c in
    ap (λ (n : ℤ). to_z w32 (of_z w32 n)) held.whole ∙ to_z-of_z w32 _ (fits_short _ held.near)
