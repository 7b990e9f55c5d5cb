-- In which view the chronicle of a unit stands, and what a seat stands for, as views and conducts change.
use Rattle.std.proofs.Common.{◌≡◌, ◌≢◌, ◌⊎◌, inl, inr, ⊎_elim, ℕ, zero, suc, ◌<◌, List, [], ◌∷◌, ◌++◌, length, slice_set, sym, refl, ap, ◌∙◌, subst, arith}
use mathlib.Core.Logic.{dite}
use mathlib.Core.Option.{some, some-ne-none, some-injective}
use native.Mathlib.Decide.{ℕ_discrete}
use lib.ListN.{get_elem?}
use Rattle.atomic_table.proofs.Lists.{set_here, set_else, at_longer}
use Rattle.sift_ether.specs.declared.rule.Chronicle.{Chronicle}
use Rattle.sift_ether.specs.Rule.{HasUnit, LacksUnit, StandsFor, IsSeatedAt, TellConduct}
use Rattle.sift_ether.specs.Deeds.{conduct_by}

-- what stands in a list stands below its length
pub at_low : {A : Type 0} (l : List A) (j : ℕ) (b : A) → get_elem? l j ≡ some b → j < length l
at_low [] j b e = absurd (some-ne-none b (sym e))
at_low (x ∷ xs) zero b e = omega arith
at_low (x ∷ xs) (suc j) b e = let i = at_low xs j b e in omega arith

-- what stands in a list with one element more
pub at_snoc : {A : Type 0} (l : List A) (a b : A) (j : ℕ) → get_elem? (l ++ a ∷ []) j ≡ some b → (get_elem? l j ≡ some b) ⊎ ((a ≡ b) × (j ≡ length l))
at_snoc [] a b zero e = inr (some-injective a b e, refl)
at_snoc [] a b (suc j) e = absurd (some-ne-none b (sym e))
at_snoc (x ∷ xs) a b zero e = inl e
at_snoc (x ∷ xs) a b (suc j) e = ⊎_elim (λ i. inl i) (λ (t : (a ≡ b) × (j ≡ length xs)). inr (t.0, ap suc t.1)) (at_snoc xs a b j e)

-- ---- views

module _ (views : List (List Chronicle)) (u : ℕ) where
  -- another view changes
  pub seated_else : (id seat : ℕ) (view : List Chronicle) → seat ≢ id → IsSeatedAt views seat u → IsSeatedAt (slice_set views id view) seat u
  seated_else id seat view ne at = record { view = at.view; there = set_else views id seat view ne ∙ at.there; has = at.has }

  -- a view changes that has the unit still
  pub reseated : (id seat : ℕ) (view view' : List Chronicle) → get_elem? views id ≡ some view → (HasUnit u view → HasUnit u view') → IsSeatedAt views seat u →
      IsSeatedAt (slice_set views id view') seat u
  reseated id seat view view' there keeps at = dite (ℕ_discrete seat id)
      (λ e. record {
        view = view';
        there = subst (λ (j : ℕ). get_elem? (slice_set views id view') j ≡ some view') (sym e) (set_here views id view' (at_low views id view there));
        has = keeps (subst (HasUnit u) (sym (some-injective view at.view (sym there ∙ (ap (get_elem? views) (sym e) ∙ at.there)))) at.has);
      })
      (λ ne. seated_else id seat view' ne at)

  -- there are more views
  pub seated_longer : (seat : ℕ) (more : List (List Chronicle)) → IsSeatedAt views seat u → IsSeatedAt (views ++ more) seat u
  seated_longer seat more at = record { view = at.view; there = at_longer views more seat at.view at.there; has = at.has }

-- ---- what a view has

-- a unit of the first chronicles is one of both
pub has_left : (u : ℕ) (view other : List Chronicle) → HasUnit u view → HasUnit u (view ++ other)
has_left u [] other has = absurd has
has_left u (c ∷ cs) other has = ⊎_elim (λ e. inl e) (λ more. inr (has_left u cs other more)) has

-- and one of the others
pub has_right : (u : ℕ) (view other : List Chronicle) → HasUnit u other → HasUnit u (view ++ other)
has_right u [] other has = has
has_right u (c ∷ cs) other has = inr (has_right u cs other has)

-- what both lack
pub lacks_both : (u : ℕ) (view other : List Chronicle) → LacksUnit u view → LacksUnit u other → LacksUnit u (view ++ other)
lacks_both u [] other a b = b
lacks_both u (c ∷ cs) other a b = (a.0, lacks_both u cs other a.1 b)

-- ---- what a seat stands for

-- a unit of one seat is no unit of another
pub lacks_other : (part : ℕ → Chronicle) (seat_of : ℕ → ℕ) (u id other : ℕ) (view : List Chronicle) → seat_of u ≡ id → other ≢ id →
    StandsFor part seat_of other view → LacksUnit u view
lacks_other part seat_of u id other [] e ne t = tt
lacks_other part seat_of u id other (c ∷ cs) e ne t = ((λ eu. ne (sym t.1 ∙ (ap seat_of eu ∙ e))), lacks_other part seat_of u id other cs e ne t.3)

-- the seats of units may change, but not of these
pub stands_moved : (part : ℕ → Chronicle) (seat_of seat_of' : ℕ → ℕ) (id id' : ℕ) (view : List Chronicle) →
    ((u : ℕ) → seat_of u ≡ id → LacksUnit u view ⊎ (seat_of' u ≡ id')) → StandsFor part seat_of id view → StandsFor part seat_of' id' view
stands_moved part seat_of seat_of' id id' [] f t = tt
stands_moved part seat_of seat_of' id id' (c ∷ cs) f t = (
  t.0,
  ⊎_elim (λ (h : (c.unit ≢ c.unit) × LacksUnit c.unit cs). absurd (h.0 refl)) (λ e. e) (f c.unit t.1),
  t.2,
  stands_moved part seat_of seat_of' id id' cs (λ u e. ⊎_elim (λ (h : (c.unit ≢ u) × LacksUnit u cs). inl h.1) (λ e'. inr e') (f u e)) t.3,
)

-- the chronicles of two seats at one
pub stands_for_both : (part : ℕ → Chronicle) (seat_of seat_of' : ℕ → ℕ) (id other : ℕ) (view view' : List Chronicle) → other ≢ id →
    ((u : ℕ) → seat_of u ≡ id → seat_of' u ≡ id) → ((u : ℕ) → seat_of u ≡ other → seat_of' u ≡ id) →
    StandsFor part seat_of id view → StandsFor part seat_of other view' → StandsFor part seat_of' id (view ++ view')
stands_for_both part seat_of seat_of' id other [] view' ne f g a b = stands_moved part seat_of seat_of' other id view' (λ u e. inr (g u e)) b
stands_for_both part seat_of seat_of' id other (c ∷ cs) view' ne f g a b = (
  a.0,
  f c.unit a.1,
  lacks_both c.unit cs view' a.2 (lacks_other part seat_of c.unit id other view' a.1 ne b),
  stands_for_both part seat_of seat_of' id other cs view' ne f g a.3 b,
)

-- the parts of the units of another seat change
pub stands_beside : (part part' : ℕ → Chronicle) (seat_of : ℕ → ℕ) (u id : ℕ) (view : List Chronicle) → ((v : ℕ) → v ≢ u → part' v ≡ part v) →
    seat_of u ≢ id → StandsFor part seat_of id view → StandsFor part' seat_of id view
stands_beside part part' seat_of u id [] same ne t = tt
stands_beside part part' seat_of u id (c ∷ cs) same ne t = (
  same c.unit (λ e. ne (ap seat_of (sym e) ∙ t.1)) ∙ t.0,
  t.1,
  t.2,
  stands_beside part part' seat_of u id cs same ne t.3,
)

-- what a seat stands for tells conduct
pub stand_told : (part : ℕ → Chronicle) (seat_of : ℕ → ℕ) (id : ℕ) (view : List Chronicle) → StandsFor part seat_of id view →
    TellConduct (λ u. conduct_by (part u)) view
stand_told part seat_of id [] t = tt
stand_told part seat_of id (c ∷ cs) t = (ap conduct_by t.0, stand_told part seat_of id cs t.3)
