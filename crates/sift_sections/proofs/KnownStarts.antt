-- Whether clocks start together.
use Rattle.std.proofs.Common.{◌≡◌, inl, inr, ℕ, List, Option, Some, None, refl, subst, arith}
use Rattle.std.proofs.lemmas.Int.{by_lt_z, ints}
use Rattle.std.specs.List.{All}
use Rattle.std.specs.Prelude.{ℤ, pos, ◌≤ℤ◌, ◌+ℤ◌}
use Rattle.sift_sections.specs.Clock.{StartTogether}
use Rattle.sift_sections.specs.laws.Decided.{Decided, each, stable}

-- the order of integers
at_most_z : (a b : ℤ) → Decided (a ≤ℤ b)
at_most_z a b = by_lt_z b a (λ less. inr (λ le. omega (arith, ints, less, le))) (λ le. inl le)

-- clocks start together, or two of them don't
together_known : (skew : ℕ) (starts : List ℤ) → Decided (StartTogether skew starts)
together_known skew starts =
    each (λ offset. All (λ other. offset ≤ℤ (other +ℤ pos skew)) starts) (λ offset. each (λ other. offset ≤ℤ (other +ℤ pos skew))
    (λ other. at_most_z offset (other +ℤ pos skew)) starts) starts

-- no list that is read of an option has them together
abbrev IsApart : (skew : ℕ) → Option (List ℤ) → Type 0
IsApart skew o = (starts : List ℤ) → o ≡ Some starts → StartTogether skew starts → ⊥

-- they are apart where they aren't together
apart_where : (skew : ℕ) (xs : List ℤ) → (StartTogether skew xs → ⊥) → IsApart skew (Some xs)
apart_where skew xs far starts is near = let same : starts ≡ xs = cc is in far (subst (StartTogether skew) same near)

-- what is read of an option has them apart, or not
pub apart_known : (skew : ℕ) (o : Option (List ℤ)) → Decided (IsApart skew o)
apart_known skew None = inl (λ starts is. cc)
apart_known skew (Some xs) = elim (together_known skew xs) [ inl near ↦ inr (λ apart. apart xs refl near) | inr far ↦ inl (apart_where skew xs far) ]

-- where they aren't apart a list is read, and has them together
pub together_in : (skew : ℕ) (o : Option (List ℤ)) → (IsApart skew o → ⊥) → (starts : List ℤ) × (o ≡ Some starts) × StartTogether skew starts
together_in skew None kept = absurd (kept (λ starts is. cc))
together_in skew (Some xs) kept = (xs, refl, stable (together_known skew xs) (λ far. kept (apart_where skew xs far)))
