-- Loops that enclose a place: where each was opened.
use Rattle.std.proofs.Common.{◌≡◌, ℕ, zero, suc, ◌+◌, ◌≤◌, List, [], ◌∷◌, ◌++◌, drop, Option, Some, None, refl, sym, ap, ◌∙◌, subst, arith, add-one, inl, inr}
use Rattle.std.specs.Prelude.{slice_get}
use Rattle.std.proofs.lemmas.Bool.Decides.{eqb_tells}
use Rattle.sift_code.specs.declared.instr.Instr.{Instr}
use Rattle.sift_code.specs.declared.instr.Instr.TheVariants.{Begin, End}
use Rattle.sift_code.specs.Machine.{through_end}
use Rattle.sift_code.specs.Enclosing.{opened, opened_by, enclosing, innermost}

-- the loops that enclose the next place are those that are open behind the instruction at this one
pub enclosing_here : (code : List Instr) (p : ℕ) (i : Instr) → slice_get code p ≡ Some i → enclosing code (p + 1) ≡ opened (Some i) (p + 1) code (enclosing code p)
enclosing_here code p i at = rw add-one (ap (λ o. opened o (suc p) code (enclosing code p)) at)

-- the instruction is neither a Begin nor an End
abbrev pub IsNoBrace : Instr → Type 0
IsNoBrace i = ((k : ℕ) → i ≡ Begin k → ⊥) × (i ≡ End → ⊥)

-- then it opens no loop and closes none
pub opened_plain : (code : List Instr) (next : ℕ) (i : Instr) (loops : List ℕ) → IsNoBrace i → opened (Some i) next code loops ≡ loops
opened_plain code next (Begin k) loops no_brace = absurd (no_brace.0 k refl)
opened_plain code next End loops no_brace = absurd (no_brace.1 refl)
opened_plain code next _ loops no_brace = refl

-- the loop was opened before this place, and these loops are outside it
pub record Opened (code : List Instr) (p start : ℕ) (outer : List ℕ) : Type 0 where
  pub begin : ℕ
  pub rounds : ℕ
  pub long : ℕ
  pub next : start ≡ begin + 1
  pub begins : slice_get code begin ≡ Some (Begin rounds)
  pub matched : through_end 0 (drop start code) ≡ Some long
  pub outside : enclosing code begin ≡ outer
  pub inside : enclosing code start ≡ start ∷ outer
  pub early : start ≤ p

later : (code : List Instr) (p start : ℕ) (outer : List ℕ) → Opened code p start outer → Opened code (suc p) start outer
later code p start outer o =
    record { begin = o.begin; rounds = o.rounds; long = o.long; next = o.next; begins = o.begins; matched = o.matched; outside = o.outside; inside = o.inside; early = omega (arith, o.early) }

begin_opened : (code : List Instr) (p start k : ℕ) (outer loops : List ℕ) → enclosing code p ≡ loops
    → ((pre : List ℕ) → loops ≡ pre ++ start ∷ outer → Opened code p start outer) → slice_get code p ≡ Some (Begin k) → (m : Option ℕ)
    → through_end 0 (drop (suc p) code) ≡ m → (pre : List ℕ) → opened_by m (suc p) loops ≡ pre ++ start ∷ outer
    → Opened code (suc p) start outer
begin_opened code p start k outer loops is ih at None none pre e = later code p start outer (ih pre e)
begin_opened code p start k outer loops is ih at (Some n) some [] e =
    let same : suc p ≡ start = cc in
    let out : loops ≡ outer = cc in
    let opens : enclosing code (suc p) ≡ opened_by (through_end 0 (drop (suc p) code)) (suc p) (enclosing code p) =
    ap (λ o. opened o (suc p) code (enclosing code p)) at in
    let now : enclosing code (suc p) ≡ start ∷ outer =
    opens ∙ (ap (λ m. opened_by m (suc p) (enclosing code p)) some ∙ (ap (λ x. suc p ∷ x) is ∙ e)) in
    record {
      begin = p;
      rounds = k;
      long = n;
      next = omega arith;
      begins = at;
      matched = subst (λ q. through_end 0 (drop q code) ≡ Some n) same some;
      outside = is
          ∙ out;
      inside = subst (λ q. enclosing code q ≡ start ∷ outer) same now;
      early = omega arith;
    }
begin_opened code p start k outer loops is ih at (Some n) some (x ∷ pre) e = later code p start outer (ih pre cc)

opened_step : (code : List Instr) (p start : ℕ) (outer loops : List ℕ) → enclosing code p ≡ loops
    → ((pre : List ℕ) → loops ≡ pre ++ start ∷ outer → Opened code p start outer) → (o : Option Instr) → slice_get code p ≡ o
    → (pre : List ℕ) → opened o (suc p) code loops ≡ pre ++ start ∷ outer → Opened code (suc p) start outer
opened_step code p start outer loops is ih (Some (Begin k)) at pre e =
    begin_opened code p start k outer loops is ih at (through_end 0 (drop (suc p) code)) refl pre e
opened_step code p start outer [] is ih (Some End) at pre e = later code p start outer (ih pre e)
opened_step code p start outer (x ∷ loops) is ih (Some End) at pre e = later code p start outer (ih (x ∷ pre) (ap (λ l. x ∷ l) e))
opened_step code p start outer loops is ih _ at pre e = later code p start outer (ih pre e)

-- an open loop was opened
pub opened_before : (code : List Instr) (p start : ℕ) (outer pre : List ℕ) → enclosing code p ≡ pre ++ start ∷ outer → Opened code p start outer
opened_before code zero start outer [] e = cc
opened_before code zero start outer (x ∷ pre) e = cc
opened_before code (suc p) start outer pre e =
    opened_step code p start outer (enclosing code p) refl (λ pre' e'. opened_before code p start outer pre' e') (slice_get code p) refl pre e

-- these loops are open at the place, and perhaps others inside them
abbrev pub AreOpen : List Instr → ℕ → List ℕ → Type 0
AreOpen code p base = (pre : List ℕ) × (enclosing code p ≡ pre ++ base)

begin_between : (p start : ℕ) (outer loops : List ℕ) → start ≤ p → (m : Option ℕ) (pre : List ℕ)
    → opened_by m (suc p) loops ≡ pre ++ start ∷ outer → (pre' : List ℕ) × (loops ≡ pre' ++ start ∷ outer)
begin_between p start outer loops le None pre e = (pre, e)
begin_between p start outer loops le (Some n) [] e = let same : suc p ≡ start = cc in absurd (omega arith)
begin_between p start outer loops le (Some n) (x ∷ pre) e = (pre, cc)

between_step : (code : List Instr) (p start : ℕ) (outer loops : List ℕ) → start ≤ p → (o : Option Instr) → (pre : List ℕ)
    → opened o (suc p) code loops ≡ pre ++ start ∷ outer → (pre' : List ℕ) × (loops ≡ pre' ++ start ∷ outer)
between_step code p start outer loops le (Some (Begin k)) pre e = begin_between p start outer loops le (through_end 0 (drop (suc p) code)) pre e
between_step code p start outer [] le (Some End) pre e = (pre, e)
between_step code p start outer (x ∷ loops) le (Some End) pre e = (x ∷ pre, ap (λ l. x ∷ l) e)
between_step code p start outer loops le _ pre e = (pre, e)

-- between the opening of a loop and a place where it is open, it is open
pub open_between : (code : List Instr) (n p start : ℕ) (outer : List ℕ) → start ≤ p → AreOpen code (p + n) (start ∷ outer) → AreOpen code p (start ∷ outer)
open_between code zero p start outer le h = let e : p + 0 ≡ p = omega arith in subst (λ q. AreOpen code q (start ∷ outer)) e h
open_between code (suc n) p start outer le h =
    let e : p + suc n ≡ suc (p + n) = omega arith in
    let g : AreOpen code (suc (p + n)) (start ∷ outer) = subst (λ q. AreOpen code q (start ∷ outer)) e h in
    open_between code n p start outer le (between_step code (p + n) start outer (enclosing code (p + n)) (omega arith) (slice_get code (p + n)) g.0 g.1)

-- ---- the innermost loop tells which others there are

same_loops : (code : List Instr) (p q : ℕ) (ps qs : List ℕ) → enclosing code p ≡ ps → enclosing code q ≡ qs → innermost ps ≡ innermost qs → ps ≡ qs
same_loops code p q [] [] is are e = refl
same_loops code p q [] (s ∷ qs) is are e = cc
same_loops code p q (s ∷ ps) [] is are e = cc
same_loops code p q (s ∷ ps) (t ∷ qs) is are e =
    let same : s ≡ t = cc in
    let a = opened_before code p s ps [] is in
    let b = opened_before code q t qs [] are in
    let b' : enclosing code s ≡ t ∷ qs = ap (enclosing code) same ∙ b.inside in
    sym a.inside ∙ b'

-- places with one innermost loop are enclosed by the same loops
pub enclosing_by_innermost : (code : List Instr) (p q : ℕ) → innermost (enclosing code p) ≡ innermost (enclosing code q) → enclosing code p ≡ enclosing code q
enclosing_by_innermost code p q e = same_loops code p q (enclosing code p) (enclosing code q) refl refl e

same_option : (a b : Option ℕ) → ((a ≡ b → ⊥) → ⊥) → a ≡ b
same_option None None h = refl
same_option None (Some n) h = absurd (h (λ e. cc))
same_option (Some m) None h = absurd (h (λ e. cc))
same_option (Some m) (Some n) h = elim (eqb_tells m n) [ inl e ↦ ap Some e.1 | inr d ↦ absurd (h (λ e. d.1 cc)) ]

-- loops that can't differ are the same
pub same_enclosing : (code : List Instr) (p q : ℕ) → ((enclosing code p ≡ enclosing code q → ⊥) → ⊥) → enclosing code p ≡ enclosing code q
same_enclosing code p q h =
    enclosing_by_innermost code p q (same_option (innermost (enclosing code p)) (innermost (enclosing code q)) (λ differ. h (λ same. differ (ap innermost same))))
