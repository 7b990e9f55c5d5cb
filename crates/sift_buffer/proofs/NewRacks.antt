-- A rack on which no unit has done anything.
use Rattle.std.proofs.Common.{◌≡◌, ℕ, ◌+◌, ◌<◌, ◌≤◌, ◌&&◌, nat_lt, Bool, true, false, List, [], ◌∷◌, ◌++◌, length-append, replicate, slice_index_or, if◌then◌else◌, refl, sym, ap, ◌∙◌, subst, arith}
use Rattle.std.proofs.lemmas.List.{get_or_past, get_or_append_left}
use Rattle.std.proofs.Math.Seq.{get_or-append_seam}
use Rattle.std.proofs.lemmas.Bool.{ltb-true, ltb-false}
use mathlib.Core.Logic.{dite}
use native.Mathlib.Decide.{ℕ_discrete}
use Rattle.sift_base.specs.declared.slots.Layout.{Layout}
use Rattle.sift_buffer.specs.Ranges.{shared_words}
use Rattle.sift_buffer.specs.Conduct.{fresh, never}
use Rattle.sift_buffer.specs.Core.{fresh_core}
use Rattle.sift_buffer.specs.Tables.{ranges_of, entry_at, entry_number}
use Rattle.sift_buffer.specs.Journals.{ranges_in, said_in, heard_in}
use Rattle.sift_buffer.specs.Ledgers.{Ledger, Tells, conduct_in, saying_of, hearing_of}
use Rattle.sift_buffer.specs.Crews.{no_ledger, ledger_at, core_by, IsCrew}

-- two numbers, by their order
pub below_cases : {P : Type 0} (a b : ℕ) → (a < b → P) → (b ≤ a → P) → P
below_cases {P} a b low high = go (nat_lt a b) refl
  where
    go : (t : Bool) → nat_lt a b ≡ t → P
    go true e = low (ltb-true a b e)
    go false e = high (ltb-false a b e)

-- one ledger more
pub crew_push : (xs : List Ledger) (l : Ledger) (n u : ℕ) (layout : Layout) (frames : ℕ) → IsCrew xs n layout frames → u ≡ n →
    Tells l layout u frames fresh →
    IsCrew (xs ++ l ∷ []) (n + 1) layout frames
crew_push xs l n u layout frames crew here new = record {
  count = length-append xs (l ∷ []) ∙ ap (λ (i : ℕ). i + 1) crew.count;
  fresh = λ p hp. dite (ℕ_discrete p n)
      (λ e. subst (λ (z : Ledger). Tells z layout p frames fresh) (sym (ap (ledger_at (xs ++ l ∷ [])) (e ∙ sym crew.count)
      ∙ get_or-append_seam xs l [] no_ledger))
      (subst (λ (i : ℕ). Tells l layout i frames fresh) (here ∙ sym e) new))
      (λ ne. subst (λ (z : Ledger). Tells z layout p frames fresh) (sym (get_or_append_left xs (l ∷ []) no_ledger p
      (let c = crew.count in omega arith)))
      (crew.fresh p (omega arith)));
}

-- a choice between equal ones
either : {A : Type 0} (b : Bool) (x y z : A) → x ≡ z → y ≡ z → (if b then x else y) ≡ z
either true x y z e f = e
either false x y z e f = f

-- a unit that isn't there has done nothing
nobody_fresh : conduct_in no_ledger ≡ fresh
nobody_fresh i = record {
  progress = 0;
  left = never;
  seen = λ _. 0;
  said = λ f k q. ap (λ (s : ℕ). saying_of s (said_in no_ledger.pages f k q)) (none f k q) i;
  heard = λ f k q. ap (λ (s : ℕ). hearing_of s (entry_at 0 (ranges_in no_ledger.pages) [] f k q) (heard_in no_ledger.pages f k q)) (none f k q) i;
  strays = [];
}
  where
    none : (f k q : ℕ) → ◌≡◌ {A = ℕ} (entry_at 0 (ranges_in no_ledger.pages) [] f k q) 0
    none f k q = either (nat_lt f 0 && nat_lt k (ranges_in no_ledger.pages).slots && nat_lt q 0) (slice_index_or [] (entry_number
        (ranges_in no_ledger.pages) f k q) 0) 0 0 refl refl

-- the core of zeros and a new crew is fresh
pub core_fresh : (words : List ℕ) (acts : List Ledger) (layout : Layout) (frames n : ℕ) → words ≡ replicate n 0 → n ≡ shared_words
    (ranges_of layout frames) →
    IsCrew acts layout.units layout frames → core_by words acts (λ _. []) ≡ fresh_core (ranges_of layout frames)
core_fresh words acts layout frames n zeros wide crew i = record { words = (zeros ∙ ap (λ (k : ℕ). replicate k 0) wide) i; of = λ u. each u i }
  where
    each : (u : ℕ) → conduct_in (ledger_at acts u) ≡ fresh
    each u = below_cases u layout.units (λ low. (crew.fresh u low).conduct)
        (λ high. ap conduct_in (get_or_past acts u no_ledger (let c = crew.count in omega arith)) ∙ nobody_fresh)
