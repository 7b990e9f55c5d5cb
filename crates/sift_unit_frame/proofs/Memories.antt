-- Sets of units in a memory.
use Rattle.std.proofs.Common.{◌≡◌, ℕ, ◌<◌, ◌&&◌, Bool, true, not, nat_eq, List, [], ◌∷◌, length, map, inl, inr, ap, ◌∙◌, sym, eqb-true}
use Rattle.std.proofs.Common.{false, nat_cmp}
use Rattle.std.proofs.Common.{Option, Some, None, refl}
use Rattle.std.specs.Prelude.{IfSome, IfNone, slice_index_or, nat_le, if◌then◌else◌}
use Rattle.std.specs.List.{filter}
use Rattle.std.proofs.lemmas.Bool.{cases_Bool}
use Rattle.std.proofs.lemmas.List.{get_or_default}
use Rattle.std.specs.FinSet as set
use Rattle.std.specs.Prelude.{ℤ}
use Rattle.sift_base.specs.Units.{Units, has, holds}
use Rattle.sift_base.specs.laws.ReadBack.{false_last, has-filter}
use Rattle.sift_base.specs.laws.Sets.{same_units}
use Rattle.sift_base.specs.laws.Counts.{filter_same}
use Rattle.sift_vote.specs.Majority.{IsMajority, HasNoMajority, majority_of, differs, has_differing}
use Rattle.sift_vote.specs.laws.Differing.{has_differing-map}
use Rattle.sift_config.specs.Config.{remaining}
use Rattle.sift_vote.specs.laws.Found.{majority_is_found}
use Rattle.sift_exec.specs.Conviction.{report_by, is_convicted, kept_by, next_by, next_units}
use Rattle.sift_unit_frame.specs.Memory.{Memory, units_at, gathered}
use Rattle.sift_unit_frame.specs.laws.Sets.{holds-gathered}

-- a set of those units of a list that pass a test is the one that was gathered
pub is_gathered : (a : Units) (test : ℕ → Bool) (us : List ℕ) → ((v : ℕ) → holds a v ≡ (has us v && test v)) → a ≡ gathered test us
is_gathered a test us same = same_units a (gathered test us) (λ v. same v ∙ sym (holds-gathered test us v))

-- whose place differs among those units of a list that pass a test
pub differing_among : (test : ℕ → Bool) (us : List ℕ) (place : ℕ → Option ℕ) (vote : Option ℕ) (v : ℕ)
    → has_differing (filter test us) (map place (filter test us)) vote v ≡ (has us v && (test v && differs (place v) vote))
differing_among test us place vote v =
    has_differing-map (filter test us) place vote v ∙ ap (λ b. b && differs (place v) vote) (has-filter test us v)
    ∙ swapped (test v) (has us v) (differs (place v) vote)
  where
    swapped : (a b c : Bool) → ((a && b) && c) ≡ (b && (a && c))
    swapped true true c = refl
    swapped true false c = refl
    swapped false true c = refl
    swapped false false c = refl

-- the set at a place of the list
pub set_at : (sets : List Units) (i : ℕ) (x : Units) → i < length sets → x ≡ slice_index_or sets i x → x ≡ units_at sets i
set_at sets i x low is = is ∙ get_or_default sets i x set.empty low

-- ---- reports, in the order of their units

-- the report of a unit of the list
pub report_of_unit : (report : ℕ → ℕ) (us : List ℕ) (r : ℕ) → has us r ≡ true → report_by us (map report us) r ≡ report r
report_of_unit report [] r there = absurd cc
report_of_unit report (u ∷ us) r there = elim (cases_Bool (nat_eq u r)) [
  | inl t ↦ rw t (ap report (eqb-true u r t))
  | inr f ↦ rw f (report_of_unit report us r (rw f at there))
]

-- the configuration without the convicted units is the next one on these reports
pub next_is : (us : List ℕ) (convicted : Units) (names : ℕ → ℕ → Bool) → ((v : ℕ) → holds convicted v ≡ is_convicted names us v) →
    next_units us convicted ≡ next_by names us
next_is us convicted names same =
    let kept : remaining us convicted ≡ kept_by names us
    = filter_same (λ v. not (holds convicted v)) (λ v. not (is_convicted names us v)) us (λ v there. ap not (same v)) in
    ap (λ vs. if nat_le 4 (length vs) then vs else us) kept

-- a majority that was found, or none, is the majority of the places
pub majority_is : (places : List (Option ℕ)) (found : Option ℕ) → IfSome found (IsMajority places) → IfNone found (HasNoMajority places) → found ≡ majority_of places
majority_is places (Some w) is none = sym ((majority_is_found places w).1 is)
majority_is places None is none = sym (absent (majority_of places) (λ w e. none w ((majority_is_found places w).0 e)))
  where
    absent : (o : Option ℕ) → ((w : ℕ) → o ≡ Some w → ⊥) → o ≡ None
    absent None never = refl
    absent (Some w) never = absurd (never w refl)

-- nobody is gathered by a test with a part that fails
pub nobody_else : (us : List ℕ) (u : ℕ) (own : Bool) (test : ℕ → Bool) → own ≡ false → set.empty ≡ gathered (λ v. not (nat_eq v u) && (own && test v)) us
nobody_else us u own test fails = is_gathered set.empty (λ v. not (nat_eq v u) && (own && test v)) us
    (λ v. set.contains-empty nat_cmp v ∙ sym (rw fails (ap (λ t. has us v && t) (false_last (not (nat_eq v u))) ∙ false_last (has us v))))

-- a memory with these clocks, and one with the same
pub clocks_same : (b : Memory) (clock clock' : Units) (next next' : ℤ) → clock ≡ clock' → next ≡ next' →
    (let x : Memory = record b { clock = clock; next_clk = next } in x) ≡ (let y : Memory = record b { clock = clock'; next_clk = next' } in y)
clocks_same b clock clock' next next' ec en i = record b { clock = ec i; next_clk = en i }
