-- Entries of the tables of starts and pasts, from the entries beside them.
use Rattle.std.proofs.Common.{◌≡◌, ℕ, suc, ◌+◌, ◌-◌, ◌<◌, ◌≤◌, List, [], ◌∷◌, ◌++◌, length, take, drop, Option, Some, None, refl, sym, ap, ◌∙◌, subst, arith, get_or, inl, inr, eqb}
use Rattle.std.specs.Prelude.{slice_get, slice_index_or, slice_set, ◌≢◌, ◌⊎◌, ◌==◌, Bool, true, false, IfSome}
use Rattle.std.specs.Option.{option_eq}
use Rattle.std.proofs.lemmas.Bool.{eqb-true, eq-eqb}
use Rattle.std.proofs.lemmas.Bool.Decides.{eqb_tells}
use Rattle.std.proofs.Math.ListN.{drop_of_length-le}
use Rattle.std.proofs.lemmas.List.{get_or-set_same, get_or-set_other, length-set, drop-drop, length-drop, take_all, append-nil}
use Rattle.std.proofs.lemmas.Option.{slice_get-get_or}
use Rattle.sift_code.specs.declared.instr.Instr.{Instr}
use Rattle.sift_code.specs.declared.instr.Instr.TheVariants.{Begin, End}
use Rattle.sift_code.specs.Machine.{through_end, one_more}
use Rattle.sift_code.specs.Enclosing.{opened, opened_by, enclosing, innermost}
use Rattle.sift_code.specs.Nest.{onward, past_at, start_at}
use Rattle.sift_code.specs.laws.Enclosing.{Opened, IsNoBrace, enclosing_by_innermost, enclosing_here, opened_before, opened_plain}
use Rattle.sift_code.proofs.Costs.{drop_here, one_more_some}

-- ---- tables

-- where one entry was set, and the others are right, each is
entry_set : (entry : ℕ → Option ℕ) (table : List (Option ℕ)) (k p : ℕ) (v : Option ℕ) → k < length table → v ≡ entry k
    → (p ≢ k → slice_index_or table p None ≡ entry p) → slice_index_or (slice_set table k v) p None ≡ entry p
entry_set entry table k p v inside is others = by (eqb_tells p k)
  where
    by : ((p == k) ≡ true) × (p ≡ k) ⊎ (((p == k) ≡ false) × (p ≢ k)) → slice_index_or (slice_set table k v) p None ≡ entry p
    by (inl e) = rw e.1 (get_or-set_same table k v None inside ∙ is)
    by (inr d) = get_or-set_other table k p v None d.1 ∙ others d.1

-- a vector whose elements were all written
pub all_written : {A : Type 0} (items written : List A) (len : ℕ) → length items ≡ len → length written ≡ length items → take len (written ++ drop (length written) items) ≡ written
all_written items written len is long =
    let none : drop (length written) items ≡ [] = drop_of_length-le items (omega arith) in
    ap (λ rest. take len (written ++ rest)) none ∙ (ap (take len) (append-nil written) ∙ take_all len written (omega arith))

-- the entries from a place on, and no others
abbrev pub TellsFrom : (ℕ → Option ℕ) → ℕ → ℕ → List (Option ℕ) → Type 0
TellsFrom entry at last table =
    (length table ≡ last + 1) × ((p : ℕ) → at ≤ p → p ≤ last → slice_index_or table p None ≡ entry p)

-- one entry below
pub tells_below : (entry : ℕ → Option ℕ) (at last : ℕ) (table : List (Option ℕ)) (v : Option ℕ) → 0 < at → at ≤ last
    → TellsFrom entry at last table → v ≡ entry (at - 1) → TellsFrom entry (at - 1) last (slice_set table (at - 1) v)
tells_below entry at last table v some within tells is =
    let inside : at - 1 < length table = omega (arith, tells.0) in (
      length-set table (at - 1) v ∙ tells.0,
      λ p from to. entry_set entry table (at - 1) p v inside is (λ other. tells.1 p (omega (arith, other)) to),
    )

-- the entries up to a place
abbrev pub TellsTo : (ℕ → Option ℕ) → ℕ → ℕ → List (Option ℕ) → Type 0
TellsTo entry at last table =
    (length table ≡ last + 1) × ((p : ℕ) → p ≤ at → slice_index_or table p None ≡ entry p)

-- one entry above
pub tells_above : (entry : ℕ → Option ℕ) (at last : ℕ) (table : List (Option ℕ)) (v : Option ℕ) → at < last → TellsTo entry at last table
    → v ≡ entry (at + 1) → TellsTo entry (at + 1) last (slice_set table (at + 1) v)
tells_above entry at last table v within tells is =
    let inside : at + 1 < length table = omega (arith, tells.0) in (
      length-set table (at + 1) v ∙ tells.0,
      λ p to. entry_set entry table (at + 1) p v inside is (λ other. tells.1 p (omega (arith, other))),
    )

read_entry : (table : List (Option ℕ)) (k : ℕ) (v : Option ℕ) → k < length table → v ≡ slice_index_or table k v → v ≡ slice_index_or table k None
read_entry table k v within is =
    let a : slice_get table k ≡ Some (get_or table k v) = slice_get-get_or table k v within in
    let b : slice_get table k ≡ Some (get_or table k None) = slice_get-get_or table k None within in
    is ∙ (let e = sym a ∙ b in cc)

-- what was read is the entry
pub read_from : (entry : ℕ → Option ℕ) (at last : ℕ) (table : List (Option ℕ)) (k : ℕ) (v : Option ℕ) → TellsFrom entry at last table
    → at ≤ k → k ≤ last → v ≡ slice_index_or table k v → v ≡ entry k
read_from entry at last table k v tells from to is = read_entry table k v (omega (arith, tells.0)) is ∙ tells.1 k from to

-- what was read of a table with the entries up to a place is the entry, at this place or before it
pub read_to : (entry : ℕ → Option ℕ) (at last : ℕ) (table : List (Option ℕ)) (k : ℕ) (v : Option ℕ) → TellsTo entry at last table
    → k ≤ at → at ≤ last → v ≡ slice_index_or table k v → v ≡ entry k
read_to entry at last table k v tells to within is = read_entry table k v (omega (arith, tells.0)) is ∙ tells.1 k to

-- the instruction that was read
pub read_instr : (code : List Instr) (k : ℕ) (i : Instr) → k < length code → i ≡ slice_index_or code k i → slice_get code k ≡ Some i
read_instr code k i within is = slice_get-get_or code k i within ∙ ap Some (sym is)

-- the instruction that was read of items which are the code is the one at that place of the code
pub read_item : (items code : List Instr) (k : ℕ) (i : Instr) → items ≡ code → k < length items → i ≡ slice_index_or items k i → slice_get code k ≡ Some i
read_item items code k i same within is = subst (λ l. slice_get l k ≡ Some i) same (read_instr items k i within is)

-- ---- pasts

onward_more : (p : ℕ) (o : Option ℕ) → onward p (one_more o) ≡ onward (p + 1) o
onward_more p None = refl
onward_more p (Some n) = ap Some (omega arith)

onward_one_more : (n : ℕ) (o : Option ℕ) → one_more (onward n o) ≡ onward (suc n) o
onward_one_more n None = refl
onward_one_more n (Some m) = ap Some (omega arith)

onward_onward : (p n : ℕ) (o : Option ℕ) → onward p (onward n o) ≡ onward (p + n) o
onward_onward p n None = refl
onward_onward p n (Some m) = ap Some (omega arith)

one_more_onward : (o : Option ℕ) → one_more o ≡ onward 1 o
one_more_onward None = refl
one_more_onward (Some n) = ap Some (omega arith)

one_more_none : (o : Option ℕ) → one_more o ≡ None → o ≡ None
one_more_none None e = refl
one_more_none (Some n) e = cc

through_more : (i : Instr) (rest : List Instr) (all outer : List ℕ) (n m : ℕ) → n ≡ suc m
    → through_end (length all) rest ≡ onward m (through_end (length outer) (drop m rest))
    → one_more (through_end (length all) rest) ≡ onward n (through_end (length outer) (drop n (i ∷ rest)))
through_more i rest all outer n m e is =
    rw e (ap one_more is ∙ onward_one_more m (through_end (length outer) (drop m rest)))

-- inside more loops, the count goes on behind the End that closes the inner ones
through_past : (rest : List Instr) (inner outer : List ℕ) (x n : ℕ) → through_end (length inner) rest ≡ Some n
    → through_end (length (inner ++ x ∷ outer)) rest ≡ onward n (through_end (length outer) (drop n rest))
through_past [] [] outer x n e = cc
through_past [] (y ∷ inner) outer x n e = cc
through_past (End ∷ rest) [] outer x n e =
    let one : n ≡ 1 = cc in
    let d : drop 1 (End ∷ rest) ≡ rest = refl in
    rw one (one_more_onward (through_end (length outer) rest))
through_past (End ∷ rest) (y ∷ inner) outer x n e =
    let more = one_more_some (through_end (length inner) rest) n e in
    through_more End rest (inner ++ x ∷ outer) outer n more.0 more.2 (through_past rest inner outer x more.0 more.1)
through_past (Begin k ∷ rest) [] outer x n e =
    let more = one_more_some (through_end (length {A = ℕ} (0 ∷ [])) rest) n e in
    through_more (Begin k) rest (0 ∷ x ∷ outer) outer n more.0 more.2 (through_past rest (0 ∷ []) outer x more.0 more.1)
through_past (Begin k ∷ rest) (y ∷ inner) outer x n e =
    let more = one_more_some (through_end (length {A = ℕ} (0 ∷ y ∷ inner)) rest) n e in
    through_more (Begin k) rest (0 ∷ y ∷ (inner ++ x ∷ outer)) outer n more.0 more.2 (through_past rest (0 ∷ y ∷ inner) outer x more.0 more.1)
through_past (i ∷ rest) [] outer x n e =
    let more = one_more_some (through_end (length {A = ℕ} []) rest) n e in
    through_more i rest (x ∷ outer) outer n more.0 more.2 (through_past rest [] outer x more.0 more.1)
through_past (i ∷ rest) (y ∷ inner) outer x n e =
    let more = one_more_some (through_end (length (y ∷ inner)) rest) n e in
    through_more i rest (y ∷ (inner ++ x ∷ outer)) outer n more.0 more.2 (through_past rest (y ∷ inner) outer x more.0 more.1)

-- where no End closes the inner loops, none closes the outer ones
through_none : (rest : List Instr) (inner outer : List ℕ) (x : ℕ) → through_end (length inner) rest ≡ None → through_end (length (inner ++ x ∷ outer)) rest ≡ None
through_none [] [] outer x e = refl
through_none [] (y ∷ inner) outer x e = refl
through_none (End ∷ rest) [] outer x e = cc
through_none (End ∷ rest) (y ∷ inner) outer x e = ap one_more (through_none rest inner outer x (one_more_none (through_end (length inner) rest) e))
through_none (Begin k ∷ rest) [] outer x e = ap one_more (through_none rest (0 ∷ []) outer x (one_more_none (through_end (length {A = ℕ} (0 ∷ [])) rest) e))
through_none (Begin k ∷ rest) (y ∷ inner) outer x e = ap one_more (through_none rest (0 ∷ y ∷ inner) outer x (one_more_none (through_end (length {A = ℕ} (0 ∷ y ∷ inner)) rest) e))
through_none (i ∷ rest) [] outer x e = ap one_more (through_none rest [] outer x (one_more_none (through_end (length {A = ℕ} []) rest) e))
through_none (i ∷ rest) (y ∷ inner) outer x e = ap one_more (through_none rest (y ∷ inner) outer x (one_more_none (through_end (length (y ∷ inner)) rest) e))

one_longer : (n m : ℕ) (rest : List Instr) → n ≡ suc m → m ≤ length rest → n ≤ suc (length rest)
one_longer n m rest more le = omega arith

through_within : (rest : List Instr) (inner : List ℕ) (n : ℕ) → through_end (length inner) rest ≡ Some n → n ≤ length rest
through_within [] [] n e = cc
through_within [] (y ∷ inner) n e = cc
through_within (End ∷ rest) [] n e = let one : n ≡ 1 = cc in omega arith
through_within (End ∷ rest) (y ∷ inner) n e = let more = one_more_some (through_end (length inner) rest) n e in one_longer n more.0 rest more.2 (through_within rest inner more.0 more.1)
through_within (Begin k ∷ rest) [] n e = let more = one_more_some (through_end (length {A = ℕ} (0 ∷ [])) rest) n e in
    one_longer n more.0 rest more.2 (through_within rest (0 ∷ []) more.0 more.1)
through_within (Begin k ∷ rest) (y ∷ inner) n e = let more = one_more_some (through_end (length {A = ℕ} (0 ∷ y ∷ inner)) rest) n e in
    one_longer n more.0 rest more.2 (through_within rest (0 ∷ y ∷ inner) more.0 more.1)
through_within (i ∷ rest) [] n e = let more = one_more_some (through_end (length {A = ℕ} []) rest) n e in one_longer n more.0 rest more.2 (through_within rest [] more.0 more.1)
through_within (i ∷ rest) (y ∷ inner) n e = let more = one_more_some (through_end (length (y ∷ inner)) rest) n e in
    one_longer n more.0 rest more.2 (through_within rest (y ∷ inner) more.0 more.1)

past_by : (code : List Instr) (p : ℕ) (i : Instr) → slice_get code p ≡ Some i → past_at code p ≡ onward p (through_end 0 (i ∷ drop (p + 1) code))
past_by code p i at = ap (λ l. onward p (through_end 0 l)) (drop_here code p i at)

-- at an End it is the next place
pub past_at-End : (code : List Instr) (p : ℕ) → slice_get code p ≡ Some End → past_at code p ≡ Some (p + 1)
past_at-End code p at = past_by code p End at

ends_within : (code : List Instr) (p n q : ℕ) → p ≤ length code → p + n ≡ q → n ≤ length (drop p code) → (p ≤ q) × (q ≤ length code)
ends_within code p n q within same le = (omega arith, omega (arith, length-drop p code))

-- the place behind an End is ahead, in the code or its length
pub past_within : (code : List Instr) (p q : ℕ) → p ≤ length code → past_at code p ≡ Some q → (p ≤ q) × (q ≤ length code)
past_within code p q within e = by (through_end 0 (drop p code)) refl
  where
    by : (o : Option ℕ) → through_end 0 (drop p code) ≡ o → (p ≤ q) × (q ≤ length code)
    by None is = let bad = sym (ap (onward p) is) ∙ e in cc
    by (Some n) is =
        let same : p + n ≡ q = (let f = sym (ap (onward p) is) ∙ e in cc) in
        ends_within code p n q within same (through_within (drop p code) [] n is)

-- at a Begin with a match it is that of the place behind its End
pub past_at-Begin : (code : List Instr) (p k q : ℕ) → slice_get code p ≡ Some (Begin k) → past_at code (p + 1) ≡ Some q → past_at code p ≡ past_at code q
past_at-Begin code p k q at e = by (through_end 0 (drop (p + 1) code)) refl
  where
    by : (o : Option ℕ) → through_end 0 (drop (p + 1) code) ≡ o → past_at code p ≡ past_at code q
    by None is = let bad = sym (ap (onward (p + 1)) is) ∙ e in cc
    by (Some n) is =
        let same : p + 1 + n ≡ q = (let f = sym (ap (onward (p + 1)) is) ∙ e in cc) in
        let d : drop n (drop (p + 1) code) ≡ drop q code = drop-drop n (p + 1) code ∙ ap (λ m. drop m code) same in
        past_by code p (Begin k) at
        ∙ (ap (λ o. onward p (one_more o)) (through_past (drop (p + 1) code) [] [] 0 n is)
        ∙ (onward_more p (onward n (through_end 0 (drop n (drop (p + 1) code))))
        ∙ (onward_onward (p + 1) n (through_end 0 (drop n (drop (p + 1) code)))
        ∙ (ap (λ l. onward (p + 1 + n) (through_end 0 l)) d ∙ ap (λ m. onward m (through_end 0 (drop q code))) same))))

-- at a Begin without a match there is none
pub past_at-Begin_alone : (code : List Instr) (p k : ℕ) → slice_get code p ≡ Some (Begin k) → past_at code (p + 1) ≡ None → past_at code p ≡ None
past_at-Begin_alone code p k at e = by (through_end 0 (drop (p + 1) code)) refl
  where
    by : (o : Option ℕ) → through_end 0 (drop (p + 1) code) ≡ o → past_at code p ≡ None
    by None is = past_by code p (Begin k) at ∙ ap (λ o. onward p (one_more o)) (through_none (drop (p + 1) code) [] [] 0 is)
    by (Some n) is = let bad = sym (ap (onward (p + 1)) is) ∙ e in cc

past_plain : (i : Instr) (rest : List Instr) → IsNoBrace i → through_end 0 (i ∷ rest) ≡ one_more (through_end 0 rest)
past_plain (Begin k) rest no_brace = absurd (no_brace.0 k refl)
past_plain End rest no_brace = absurd (no_brace.1 refl)
past_plain _ rest no_brace = refl

-- at another instruction it is that of the next place
pub past_at-other : (code : List Instr) (p : ℕ) (i : Instr) → slice_get code p ≡ Some i → IsNoBrace i → past_at code p ≡ past_at code (p + 1)
past_at-other code p i at no_brace =
    past_by code p i at ∙ (ap (onward p) (past_plain i (drop (p + 1) code) no_brace) ∙ onward_more p (through_end 0 (drop (p + 1) code)))

-- ---- starts

start_next : (code : List Instr) (p : ℕ) (i : Instr) → slice_get code p ≡ Some i → start_at code (p + 1) ≡ innermost (opened (Some i) (p + 1) code (enclosing code p))
start_next code p i at = ap innermost (enclosing_here code p i at)

-- behind a Begin with a match it is the place itself
pub start_at-Begin : (code : List Instr) (p k q : ℕ) → slice_get code p ≡ Some (Begin k) → past_at code (p + 1) ≡ Some q → start_at code (p + 1) ≡ Some (p + 1)
start_at-Begin code p k q at e = by (through_end 0 (drop (p + 1) code)) refl
  where
    by : (o : Option ℕ) → through_end 0 (drop (p + 1) code) ≡ o → start_at code (p + 1) ≡ Some (p + 1)
    by None is = let bad = sym (ap (onward (p + 1)) is) ∙ e in cc
    by (Some n) is = start_next code p (Begin k) at ∙ ap (λ m. innermost (opened_by m (p + 1) (enclosing code p))) is

-- behind a Begin without a match it is that of the place before
pub start_at-Begin_alone : (code : List Instr) (p k : ℕ) → slice_get code p ≡ Some (Begin k) → past_at code (p + 1) ≡ None → start_at code (p + 1) ≡ start_at code p
start_at-Begin_alone code p k at e = by (through_end 0 (drop (p + 1) code)) refl
  where
    by : (o : Option ℕ) → through_end 0 (drop (p + 1) code) ≡ o → start_at code (p + 1) ≡ start_at code p
    by None is = start_next code p (Begin k) at ∙ ap (λ m. innermost (opened_by m (p + 1) (enclosing code p))) is
    by (Some n) is = let bad = sym (ap (onward (p + 1)) is) ∙ e in cc

innermost_some : (loops : List ℕ) (s : ℕ) → innermost loops ≡ Some s → (outer : List ℕ) × (loops ≡ s ∷ outer)
innermost_some [] s e = cc
innermost_some (x ∷ outer) s e = (outer, let same : x ≡ s = cc in ap (λ y. y ∷ outer) same)

innermost_none : (loops : List ℕ) → innermost loops ≡ None → loops ≡ []
innermost_none [] e = refl
innermost_none (x ∷ outer) e = cc

-- the innermost loop was opened before
pub started : (code : List Instr) (p s : ℕ) → start_at code p ≡ Some s → (outer : List ℕ) × (enclosing code p ≡ s ∷ outer) × Opened code p s outer
started code p s e =
    let loops = innermost_some (enclosing code p) s e in
    (loops.0, loops.1, opened_before code p s loops.0 [] loops.1)

-- behind an End it is that of the place of its Begin
pub start_at-End : (code : List Instr) (p s : ℕ) → slice_get code p ≡ Some End → start_at code p ≡ Some s → start_at code (p + 1) ≡ start_at code (s - 1)
start_at-End code p s at e =
    let h = started code p s e in
    let before : s - 1 ≡ h.2.begin = omega (arith, h.2.next) in
    start_next code p End at ∙ (ap (λ l. innermost (drop 1 l)) h.1 ∙ (ap innermost (sym h.2.outside) ∙ ap (start_at code) (sym before)))

-- and there is none behind an End without a match
pub start_at-End_alone : (code : List Instr) (p : ℕ) → slice_get code p ≡ Some End → start_at code p ≡ None → start_at code (p + 1) ≡ None
start_at-End_alone code p at e = start_next code p End at ∙ ap (λ l. innermost (drop 1 l)) (innermost_none (enclosing code p) e)

-- behind another instruction it is that of the place before
pub start_at-other : (code : List Instr) (p : ℕ) (i : Instr) → slice_get code p ≡ Some i → IsNoBrace i → start_at code (p + 1) ≡ start_at code p
start_at-other code p i at no_brace = start_next code p i at ∙ ap innermost (opened_plain code (p + 1) i (enclosing code p) no_brace)

-- ---- what is read of the tables

-- an entry that was read is the entry
pub read_told : (table : List (Option ℕ)) (k : ℕ) (v w : Option ℕ) → k < length table → v ≡ slice_index_or table k v → slice_index_or table k None ≡ w → v ≡ w
read_told table k v w within is e = read_entry table k v within is ∙ e

-- a start is not ahead
pub starts_before : (code : List Instr) (p : ℕ) (o : Option ℕ) → o ≡ start_at code p → IfSome o (λ start. start ≤ p)
starts_before code p None e = tt
starts_before code p (Some s) e = (started code p s (sym e)).2.early

option_true : (a b : Option ℕ) → option_eq eqb a b ≡ true → a ≡ b
option_true None None e = refl
option_true None (Some n) e = cc
option_true (Some m) None e = cc
option_true (Some m) (Some n) e = ap Some (eqb-true m n e)

option_same : (a b : Option ℕ) → a ≡ b → option_eq eqb a b ≡ true
option_same None None e = refl
option_same None (Some n) e = cc
option_same (Some m) None e = cc
option_same (Some m) (Some n) e = eq-eqb m n cc

-- places are enclosed by the same loops where their starts are the same
pub same_starts : (code : List Instr) (p q : ℕ) (a b : Option ℕ) (r : Bool) → a ≡ start_at code p → b ≡ start_at code q
    → r ≡ option_eq eqb a b → (r ≡ true → enclosing code p ≡ enclosing code q) × (enclosing code p ≡ enclosing code q → r ≡ true)
same_starts code p q a b r a_is b_is r_is = (
  λ e. enclosing_by_innermost code p q (sym a_is ∙ (option_true a b (sym r_is ∙ e) ∙ b_is)),
  λ e. r_is ∙ option_same a b (a_is ∙ (ap innermost e ∙ sym b_is)),
)
