-- Skew and slack from the highest and the lowest offset.
use Rattle.std.proofs.Common.{ℤ, ◌-ℤ◌, ◌≤ℤ◌, List, ◌++◌, refl, arith, inl, inr, w64, to_z, of_z}
use Rattle.std.specs.Prelude.{int_lt}
use Rattle.std.specs.List.{Contains}
use Rattle.std.specs.Int.{int_max}
use Rattle.std.proofs.lemmas.Bool.{cases_Bool}
use Rattle.std.proofs.lemmas.Int.{ints}
use Rattle.std.proofs.lemmas.List.Elements.{All-contains, All-append, Contains-append_left, Contains-append_right}
use Rattle.sift_skew.specs.Figures.{IsHighest, IsLowest, IsSkew, IsSlack}

-- a number, as a variable of 64 bits holds it
abbrev pub held : ℤ → ℤ
held n = to_z w64 (of_z w64 n)

-- none of the offsets is above the highest
under_highest : (offsets : List ℤ) (highest p : ℤ) → IsHighest offsets highest → Contains offsets p → p ≤ℤ highest
under_highest offsets highest p top p_in = All-contains (λ offset. offset ≤ℤ highest) offsets p top.above p_in

-- none of the offsets is below the lowest
over_lowest : (offsets : List ℤ) (lowest p : ℤ) → IsLowest offsets lowest → Contains offsets p → lowest ≤ℤ p
over_lowest offsets lowest p bottom p_in = All-contains (λ offset. lowest ≤ℤ offset) offsets p bottom.below p_in

-- the highest and the lowest offset are farthest apart
pub skew_from : (offsets : List ℤ) (highest lowest : ℤ) → IsHighest offsets highest → IsLowest offsets lowest
    → IsSkew offsets (highest -ℤ lowest)
skew_from offsets highest lowest top bottom = record {
  attained = (highest, lowest, top.among, bottom.among, refl);
  largest = λ p q p_in q_in.
      omega (arith, ints, under_highest offsets highest p top p_in, over_lowest offsets lowest q bottom q_in);
}

-- the higher of two highest offsets is the highest of both lists
pub highest-append : (now next : List ℤ) (a b : ℤ) → IsHighest now a → IsHighest next b
    → IsHighest (now ++ next) (int_max a b)
highest-append now next a b top_now top_next =
    elim (cases_Bool (int_lt b a)) [
      | inl t ↦
          let higher : b ≤ℤ a = grind (arith, ints) in
          rw t (record {
            among = Contains-append_left now next a top_now.among;
            above = All-append (λ offset. offset ≤ℤ a) now next top_now.above
                (λ k d h. omega (arith, ints, higher, top_next.above k d h));
          })
      | inr f ↦
          let higher : a ≤ℤ b = grind (arith, ints) in
          rw f (record {
            among = Contains-append_right now next b top_next.among;
            above = All-append (λ offset. offset ≤ℤ b) now next
                (λ k d h. omega (arith, ints, higher, top_now.above k d h)) top_next.above;
          })
    ]

-- the lowest offset in force and the highest one leave least of a subframe
pub slack_from : (length : ℤ) (now next : List ℤ) (highest lowest : ℤ) → IsHighest (now ++ next) highest → IsLowest now lowest
    → IsSlack length now next (length -ℤ (highest -ℤ lowest))
slack_from length now next highest lowest top bottom = record {
  attained = (lowest, highest, bottom.among, top.among, refl);
  least = λ p q p_in q_in.
      omega (
        arith,
        ints,
        under_highest (now ++ next) highest q top q_in,
        over_lowest now lowest p bottom p_in,
      );
}
