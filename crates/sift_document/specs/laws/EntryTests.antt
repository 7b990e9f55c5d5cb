-- The rule of an array whose entries are tested one by one.
use Rattle.std.proofs.Common.{◌≡◌, ◌∙◌, inl, inr, ℕ, List, Result, Ok, Err, Some, ap, length, map, refl, subst, sym, arith}
use Rattle.std.proofs.lemmas.List.{length-map}
use Rattle.toml.specs.Data.{Data, Members}
use Rattle.toml.specs.View.{view}
use Rattle.toml.specs.declared.value.Value.{Value}
use Rattle.sift_base.specs.declared.stop.Stop.{Stop}
use Rattle.sift_base.specs.declared.stop.Stop.TheVariants as stop
use Rattle.sift_document.specs.Document.{IsArrayOf, entries_of, members_of}
use Rattle.sift_document.specs.Rules.{HoldsOf, BreaksEntries}
use Rattle.sift_document.specs.Testing.{RefusesBy, Tests}
use Rattle.sift_document.specs.declared.entries.BrokenRule.{BrokenRule}
use Rattle.sift_document.specs.laws.Places.{map_map}

-- the tables of entries are those that the data of the entries are
pub of_entries :
    (entries : List Value) {tables : List Members} {stated : List Data} → tables ≡ map (λ entry. members_of (view entry)) entries
    → map view entries ≡ stated → tables ≡ map members_of stated
of_entries entries so is = so ∙ map_map members_of view entries ∙ ap (map members_of) is

-- there are as many tables as entries
pub as_many_entries :
    {A : Type 0} (shown : A → Members) (tables : List A) (entries : List Value)
    → map shown tables ≡ map (λ entry. members_of (view entry)) entries → length tables ≡ length entries
as_many_entries shown tables entries so =
    sym (length-map tables shown) ∙ ap length so ∙ length-map entries (λ entry. members_of (view entry))

module _ (number low high : ℕ) (IsEntry : ℕ → Data → Type 0) (value : Data) where
  -- the value is no array of so many
  pub refused_whole :
      (e : Stop BrokenRule) → (e ≡ stop.Refused (record { number = number; place = 0 })) × (IsArrayOf low high value → ⊥)
      → RefusesBy number (BreaksEntries low high IsEntry (Some value)) e
  refused_whole e wrong = rw wrong.0 (
    refl,
    record {
      broken = inl (refl, wrong.1);
      first = λ at low. omega (arith, low);
    },
  )

  -- it is one, and no entry breaks the rule
  pub kept_entries :
      IsArrayOf low high value → (place : ℕ) → (HoldsOf (entries_of (Some value)) place (λ entry. IsEntry place entry → ⊥) → ⊥)
      → BreaksEntries low high IsEntry (Some value) place → ⊥
  kept_entries right place kept (inl wrong) = wrong.1 right
  kept_entries right place kept (inr broken) = kept broken

  -- it is one, and an entry breaks the rule first
  pub refused_entry :
      IsArrayOf low high value → (e : Stop BrokenRule) → RefusesBy number (λ place. HoldsOf (entries_of (Some value)) place (λ entry. IsEntry place entry → ⊥)) e
      → RefusesBy number (BreaksEntries low high IsEntry (Some value)) e
  refused_entry right (stop.Refused broken) refused = (
    refused.0,
    record {
      broken = inr refused.1.broken;
      first = λ at low. kept_entries right at (refused.1.first at low);
    },
  )
  refused_entry right stop.NoMemory refused = tt

  tested_entries :
      {A : Type 0} → IsArrayOf low high value → (r : Result A (Stop BrokenRule))
      → Tests number (λ place. HoldsOf (entries_of (Some value)) place (λ entry. IsEntry place entry → ⊥)) r → Tests number (BreaksEntries low high IsEntry (Some value)) r
  tested_entries right (Ok x) tests = λ place. kept_entries right place (tests place)
  tested_entries right (Err e) tests = refused_entry right e tests

  -- what tests the entries of the array tests the rule
  pub tested :
      {A : Type 0} (entries : List Data) → entries ≡ entries_of (Some value) → IsArrayOf low high value → (r : Result A (Stop BrokenRule))
      → Tests number (λ place. HoldsOf entries place (λ entry. IsEntry place entry → ⊥)) r → Tests number (BreaksEntries low high IsEntry (Some value)) r
  tested entries same right r tests =
      tested_entries right r (subst (λ (es : List Data). Tests number (λ place. HoldsOf es place (λ entry. IsEntry place entry → ⊥)) r) same tests)
