-- A record in which a unit is noted in each way in which it was caught.
use Rattle.std.proofs.Common.{◌≡◌, ℕ, ◌+◌, ◌&&◌, Bool, true, false, List, take, slice_get, Some, ap, ◌∙◌, sym, refl, inl, inr}
use Rattle.std.specs.FinSet as set
use Rattle.std.specs.Prelude.{if◌then◌else◌}
use Rattle.std.proofs.lemmas.Bool.{cases_Bool}
use Rattle.sift_base.specs.Units.{Units, has, holds}
use Rattle.sift_config.specs.laws.Joining.{passing_joins, failing_stays}
use Rattle.sift_config.specs.laws.Lists.{has_front, get-drop}
use Rattle.sift_exec.specs.Conviction.{noted}
use Rattle.sift_exec.specs.declared.catches.Catches.{Catches}
use Rattle.sift_exec.specs.declared.catches.Kind.{Kind}
use Rattle.sift_exec.specs.declared.catches.Kind.TheVariants.{Poll, Relay, Clock}

-- the record with the unit noted in this way, where it was caught in it
abbrev pub noted_where : Bool → Catches → ℕ → Kind → Catches
noted_where caught r t way = if caught then noted r t way else r

-- the set with the unit, where it is to have it
abbrev pub with_where : Bool → Units → ℕ → Units
with_where caught units t = if caught then set.insert units t else units

-- the sets of a record in which a unit was noted in three ways, each where it was caught in it
pub sets_after : (r : Catches) (t : ℕ) (p q s : Bool)
    → noted_where s (noted_where q (noted_where p r t Poll) t Relay) t Clock
    ≡ record { poll = with_where p r.poll t; relay = with_where q r.relay t; clock = with_where s r.clock t }
sets_after r t true true true = refl
sets_after r t true true false = refl
sets_after r t true false true = refl
sets_after r t true false false = refl
sets_after r t false true true = refl
sets_after r t false true false = refl
sets_after r t false false true = refl
sets_after r t false false false = refl

-- those among one unit more that pass a test, of those among the units so far
pub more_members : (us : List ℕ) (i t : ℕ) (found : Units) (test : ℕ → Bool) → slice_get us i ≡ Some t
    → ((v : ℕ) → holds found v ≡ (has (take i us) v && test v))
    → (v : ℕ) → holds (with_where (test t) found t) v ≡ (has (take (i + 1) us) v && test v)
more_members us i t found test at are v =
    let front = ap (λ b. b && test v) (has_front us v i t (get-drop us i ∙ at)) in
    let seen = λ (u : ℕ). has (take i us) u in
    elim (cases_Bool (test t)) [
      | inl passes ↦ rw passes (passing_joins found seen test t are passes v ∙ sym front)
      | inr fails ↦ rw fails (failing_stays found seen test t are fails v ∙ sym front)
    ]
