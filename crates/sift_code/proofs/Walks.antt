-- Summaries of the heights that were brought to a place, and what the walk reads.
use Rattle.std.proofs.Common.{◌≡◌, ℕ, ◌<◌, Bool, true, false, List, [], ◌∷◌, length, Option, Some, None, refl, sym, ap, ◌∙◌, subst, arith, get_or, inl, inr}
use Rattle.std.specs.Prelude.{slice_get, slice_index, slice_index_or, ◌≢◌, ◌⊎◌, ◌==◌, ◌&&◌, not}
use Rattle.std.specs.List.{All}
use Rattle.std.proofs.lemmas.Bool.Decides.{eqb_tells}
use Rattle.std.proofs.lemmas.List.Elements.{All-head, All-tail, All-cons, All-nil}
use Rattle.std.proofs.lemmas.Option.{slice_get-get_or}
use Rattle.sift_code.specs.declared.nest.Brought.{Brought}
use Rattle.sift_code.specs.declared.instr.Instr.{Instr}
use Rattle.sift_code.specs.Heights.{height_at, heights_brought}
use Rattle.sift_code.specs.Refusal.{IsUnequal, IsUnequalEnd}
use Rattle.sift_code.specs.Walk.{joined, summary}

-- what a summary says of the heights
pub record Sums (hs : List ℕ) (b : Brought) : Type 0 where
  pub alike : b.same ≡ true → All (λ h. h ≡ b.height) hs
  pub unlike : b.same ≡ false → (x : ℕ) → All (λ h. h ≡ x) hs → ⊥
  pub latest : (x : ℕ) → All (λ h. h ≡ x) hs → b.height ≡ x

-- nothing was brought
pub summary_none : (hs : List ℕ) → summary hs ≡ None → hs ≡ []
summary_none [] e = refl
summary_none (h ∷ hs) e = cc

sums_one : (h : ℕ) → Sums (h ∷ []) (record { height = h; same = true })
sums_one h = record {
  alike = λ e. All-cons (λ x. x ≡ h) h [] refl (All-nil (λ x. x ≡ h));
  unlike = λ e x all. cc;
  latest = λ x all. All-head (λ y. y ≡ x) h [] all;
}

sums_more : (h : ℕ) (hs : List ℕ) (b : Brought) → Sums hs b → ((b.height == h) ≡ true) × (b.height ≡ h)
    ⊎ (((b.height == h) ≡ false) × (b.height ≢ h)) → Sums (h ∷ hs) (record { height = h; same = b.same && (b.height == h) })
sums_more h hs b s (inl e) = record {
  alike = λ same. All-cons (λ x. x ≡ h) h hs refl (subst (λ (y : ℕ). All (λ x. x ≡ y) hs) e.1 (s.alike (grind (arith, e.0))));
  unlike = λ same x all. s.unlike (grind (arith, e.0)) x (All-tail (λ y. y ≡ x) h hs all);
  latest = λ x all. All-head (λ y. y ≡ x) h hs all;
}
sums_more h hs b s (inr d) = record {
  alike = λ same. absurd (grind (arith, d.0));
  unlike = λ same x all. d.1 (s.latest x (All-tail (λ y. y ≡ x) h hs all) ∙ sym (All-head (λ y. y ≡ x) h hs all));
  latest = λ x all. All-head (λ y. y ≡ x) h hs all;
}

sums_joined : (h : ℕ) (hs : List ℕ) → ((b : Brought) → summary hs ≡ Some b → Sums hs b) → (o : Option Brought) → summary hs ≡ o → Sums (h ∷ hs) (joined h o)
sums_joined h hs ih None is = subst (λ (l : List ℕ). Sums (h ∷ l) (record { height = h; same = true })) (sym (summary_none hs is)) (sums_one h)
sums_joined h hs ih (Some b) is = sums_more h hs b (ih b is) (eqb_tells b.height h)

-- a summary sums up
pub summary_sums : (hs : List ℕ) (b : Brought) → summary hs ≡ Some b → Sums hs b
summary_sums [] b e = cc
summary_sums (h ∷ hs) b e =
    let same : joined h (summary hs) ≡ b = cc in
    subst (Sums (h ∷ hs)) same (sums_joined h hs (λ b' e'. summary_sums hs b' e') (summary hs) refl)

-- the heights are not all one number where their summary says that they differ, or has another height
pub differ_from : (hs : List ℕ) (b : Brought) (x : ℕ) → summary hs ≡ Some b → (b.same ≡ false) ⊎ (b.height ≢ x) → All (λ h. h ≡ x) hs → ⊥
differ_from hs b x e (inl same) all = (summary_sums hs b e).unlike same x all
differ_from hs b x e (inr differ) all = differ ((summary_sums hs b e).latest x all)

-- the heights are all the height of their summary, where it says that they agree
pub agree_with : (hs : List ℕ) (b : Brought) (x : ℕ) → summary hs ≡ Some b → b.same ≡ true → b.height ≡ x → All (λ h. h ≡ x) hs
agree_with hs b x e same is = subst (λ (y : ℕ). All (λ h. h ≡ y) hs) is ((summary_sums hs b e).alike same)

-- heights without a summary are none, so each of them is this one
pub none_agree : (hs : List ℕ) (x : ℕ) → summary hs ≡ None → All (λ h. h ≡ x) hs
none_agree hs x e = subst (λ (l : List ℕ). All (λ h. h ≡ x) l) (sym (summary_none hs e)) (All-nil (λ h. h ≡ x))

-- an entry that was read is the entry
pub read_height : (table : List ℕ) (k v n : ℕ) → k < length table → v ≡ slice_index_or table k v → slice_index table k ≡ n → v ≡ n
read_height table k v n within is e =
    let a : slice_get table k ≡ Some (get_or table k v) = slice_get-get_or table k v within in
    let b : slice_get table k ≡ Some (get_or table k 0) = slice_get-get_or table k 0 within in
    is ∙ ((let f = sym a ∙ b in cc) ∙ e)

-- a summary that was read of the table is the entry
pub read_brought : (table : List (Option Brought)) (k : ℕ) (v w : Option Brought) → k < length table → v ≡ slice_index_or table k v → slice_index_or table k None ≡ w → v ≡ w
read_brought table k v w within is e =
    let a : slice_get table k ≡ Some (get_or table k v) = slice_get-get_or table k v within in
    let b : slice_get table k ≡ Some (get_or table k None) = slice_get-get_or table k None within in
    is ∙ ((let f = sym a ∙ b in cc) ∙ e)

-- the answers of a comparison with a summary
abbrev pub Meets : Bool → List ℕ → ℕ → Type 0
Meets r hs x = (r ≡ true → All (λ h. h ≡ x) hs → ⊥) × ((All (λ h. h ≡ x) hs → ⊥) → r ≡ true)

-- where the summary says that the heights differ, this is the answer: they aren't all this one
pub differs : (hs : List ℕ) (b : Brought) (x : ℕ) → summary hs ≡ Some b → not b.same ≡ true → Meets (not b.same) hs x
differs hs b x e unlike = (λ t all. differ_from hs b x e (inl (grind arith)) all, λ differ. unlike)

-- where the summary says that the heights are alike, the answer is whether the latest of them is another than this one
pub agrees : (hs : List ℕ) (b : Brought) (x v : ℕ) → summary hs ≡ Some b → not b.same ≡ false → v ≡ x → Meets (not (b.height == v)) hs x
agrees hs b x v e alike is = by (eqb_tells b.height v)
  where
    by : ((b.height == v) ≡ true) × (b.height ≡ v) ⊎ (((b.height == v) ≡ false) × (b.height ≢ v)) → Meets (not (b.height == v)) hs x
    by (inl same) = (λ t all. absurd (grind (arith, same.0, t)), λ differ. absurd (differ (agree_with hs b x e (grind arith) (same.1 ∙ is))))
    by (inr d) = (λ t all. differ_from hs b x e (inr (λ f. d.1 (f ∙ sym is))) all, λ differ. ap not d.0)

-- what a test answers that is false doesn't hold
pub unset : {P : Type 0} {b : Bool} → b ≡ false → (P → b ≡ true) → P → ⊥
unset none test p = let yes = test p in cc

-- at the code's length, where no jump brought another height and no round ends with one, a height other than 0 is the answer
pub unequal_at_end : (code : List Instr) (p v : ℕ) → v ≡ height_at code p → p ≡ length code
    → ((All (λ height. height ≡ height_at code p) (heights_brought code p) → ⊥) → ⊥) → (IsUnequalEnd code p (slice_get code p) → ⊥)
    → (not (v == 0) ≡ true → IsUnequal code p) × (IsUnequal code p → not (v == 0) ≡ true)
unequal_at_end code p v high end same round = by (eqb_tells v 0)
  where
    none : v ≡ 0 → IsUnequal code p → ⊥
    none e (inl differ) = same differ
    none e (inr (inl ends)) = round ends
    none e (inr (inr last)) = last.1 (sym high ∙ e)

    by : ((v == 0) ≡ true) × (v ≡ 0) ⊎ (((v == 0) ≡ false) × (v ≢ 0)) → (not (v == 0) ≡ true → IsUnequal code p) × (IsUnequal code p → not (v == 0) ≡ true)
    by (inl e) = (λ t. absurd (let f = ap not e.0 in cc), λ unequal. absurd (none e.1 unequal))
    by (inr d) = (λ t. inr (inr (end, λ zero. d.1 (high ∙ zero))), λ unequal. ap not d.0)
