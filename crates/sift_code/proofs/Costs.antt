-- What is left to do from a place on: to the end of the innermost open loop, then to the end of the next, and so on.
use Rattle.std.proofs.Common.{◌≡◌, ℕ, zero, suc, ◌+◌, ◌-◌, ◌*◌, ◌<◌, ◌≤◌, List, [], ◌∷◌, ◌++◌, length, drop, Option, Some, None, refl, sym, ap, ◌∙◌, subst, arith, add-one, get_or, length-append, append-nil}
use Rattle.std.specs.Prelude.{slice_get}
use Rattle.std.proofs.Math.Seq.{drop-cons}
use Rattle.std.proofs.Math.ListN.{drop_of_length-le}
use Rattle.std.proofs.lemmas.Option.{slice_get_within, slice_get-get_or, get_or_from_slice_get}
use Rattle.sift_code.specs.declared.instr.Instr.{Instr}
use Rattle.sift_code.specs.declared.instr.Instr.TheVariants.{Begin, End}
use Rattle.sift_code.specs.Machine.{through_end, one_more}
use Rattle.sift_code.specs.Enclosing.{opened, opened_by, enclosing}
use Rattle.sift_code.specs.laws.Enclosing.{AreOpen, enclosing_here, opened_before, open_between}

-- the first of some numbers, and 0 where there is none
abbrev pub head0 : List ℕ → ℕ
head0 [] = 0
head0 (c ∷ cs) = c

-- all but the first of some numbers
abbrev pub tail0 : List ℕ → List ℕ
tail0 [] = []
tail0 (c ∷ cs) = cs

-- the costs from an instruction on, by those behind it: a Begin counts all rounds of its loop, and at an End just the End is left of its loop
abbrev pub cost_step : Instr → List ℕ → List ℕ
cost_step (Begin k) cs = (1 + k * head0 cs + head0 (tail0 cs)) ∷ tail0 (tail0 cs)
cost_step End cs = 1 ∷ cs
cost_step _ cs = (1 + head0 cs) ∷ tail0 cs

-- the costs of what is left of a code
abbrev pub costs : List Instr → List ℕ
costs [] = 0 ∷ []
costs (i ∷ rest) = cost_step i (costs rest)

-- what is left of a code from a place on is the instruction there, and then what is left from the next place on
pub drop_here : (code : List Instr) (p : ℕ) (i : Instr) → slice_get code p ≡ Some i → drop p code ≡ i ∷ drop (p + 1) code
drop_here code p i e =
    let within : p < length code = slice_get_within code p i e in
    rw (add-one, drop-cons code p i within) (ap (λ x. x ∷ drop (suc p) code) (get_or_from_slice_get code p i i e))

-- the costs from a place on are those of the instruction there, by the costs from the next place on
pub costs_here : (code : List Instr) (p : ℕ) (i : Instr) → slice_get code p ≡ Some i → costs (drop p code) ≡ cost_step i (costs (drop (p + 1) code))
costs_here code p i e = ap costs (drop_here code p i e)

-- the costs behind some open loops
abbrev pub down : List ℕ → List ℕ → List ℕ
down [] cs = cs
down (x ∷ e) cs = down e (tail0 cs)

-- cs is what is left at an earlier place, ds at a later one
pub record Falls (cs ds : List ℕ) : Type 0 where
  pub outer : tail0 ds ≡ tail0 cs
  pub less : head0 ds ≤ head0 cs

-- the loops behind an instruction of code in which each Begin and End has its match
abbrev pub nested : Instr → ℕ → List ℕ → List ℕ
nested (Begin k) next loops = next ∷ loops
nested End next loops = drop 1 loops
nested _ next loops = loops

-- each Begin and End has its match
pub record IsBraced (code : List Instr) : Type 0 where
  pub begins : (p k : ℕ) → slice_get code p ≡ Some (Begin k) → (n : ℕ) × (through_end 0 (drop (p + 1) code) ≡ Some n)
  pub ends : (p : ℕ) → slice_get code p ≡ Some End → enclosing code p ≡ [] → ⊥

falls_step : (i : Instr) (k : ℕ) (extra base os next_os cs ds : List ℕ) → os ≡ extra ++ base → next_os ≡ nested i k os
    → ((e' : List ℕ) → next_os ≡ e' ++ base → Falls (down e' cs) ds) → (End ≡ i → (pre : List ℕ) × (next_os ≡ pre ++ base))
    → (base ≡ [] → os ≡ [] → End ≡ i → ⊥) → Falls (down extra (cost_step i cs)) ds
falls_step (Begin n) k [] base os next_os cs ds is next ih still never =
    let r = ih (k ∷ []) (next ∙ ap (λ l. k ∷ l) is) in
    record { outer = r.outer; less = omega (arith, r.less) }
falls_step (Begin n) k (x ∷ e) base os next_os cs ds is next ih still never = ih (k ∷ x ∷ e) (next ∙ ap (λ l. k ∷ l) is)
falls_step End k [] [] os next_os cs ds is next ih still never = absurd (never refl is refl)
falls_step End k [] (b ∷ base) os next_os cs ds is next ih still never =
    let h = still refl in
    let same : base ≡ h.0 ++ b ∷ base = sym (ap (drop 1) is) ∙ (sym next ∙ h.1) in
    absurd (omega (arith, ap length same, length-append h.0 (b ∷ base)))
falls_step End k (x ∷ e) base os next_os cs ds is next ih still never = ih e (next ∙ ap (drop 1) is)
falls_step _ k [] base os next_os cs ds is next ih still never =
    let r = ih [] (next ∙ is) in
    record { outer = r.outer; less = omega (arith, r.less) }
falls_step _ k (x ∷ e) base os next_os cs ds is next ih still never = ih (x ∷ e) (next ∙ is)

append_same : (extra base : List ℕ) → base ≡ extra ++ base → extra ≡ []
append_same [] base e = refl
append_same (x ∷ extra) base e = absurd (omega (arith, ap length e, length-append extra base))

one_on : (q m n : ℕ) → n ≡ suc m → q + 1 + m ≡ q + n
one_on q m n more = omega arith

-- where one more is a number, there was a number before, and it is less by 1
pub one_more_some : (o : Option ℕ) (n : ℕ) → one_more o ≡ Some n → (m : ℕ) × (o ≡ Some m) × (n ≡ suc m)
one_more_some None n e = cc
one_more_some (Some m) n e = (m, refl, cc)

module _ (code : List Instr) (braced : IsBraced code) where
  nested_step : (p : ℕ) (i : Instr) → slice_get code p ≡ Some i → opened (Some i) (p + 1) code (enclosing code p) ≡ nested i (p + 1) (enclosing code p)
  nested_step p (Begin k) at = ap (λ m. opened_by m (p + 1) (enclosing code p)) (braced.begins p k at).1
  nested_step p End at = refl
  nested_step p _ at = refl

  -- the loops behind an instruction are those before it, one more behind a Begin, one less behind an End
  pub nested_here : (p : ℕ) (i : Instr) → slice_get code p ≡ Some i → enclosing code (p + 1) ≡ nested i (p + 1) (enclosing code p)
  nested_here p i at = enclosing_here code p i at ∙ nested_step p i at

  end_is_open : (p : ℕ) (i : Instr) → slice_get code p ≡ Some i → enclosing code p ≡ [] → End ≡ i → ⊥
  end_is_open p i at none e = braced.ends p (at ∙ ap Some (sym e)) none

  falls_from : (n p : ℕ) (extra base : List ℕ) → enclosing code p ≡ extra ++ base → enclosing code (p + n) ≡ base
      → ((q : ℕ) → p ≤ q → q ≤ p + n → AreOpen code q base) → p + n ≤ length code
      → Falls (down extra (costs (drop p code))) (costs (drop (p + n) code))
  falls_from zero p extra base is end stays le =
      let same : p + 0 ≡ p = omega arith in
      let none : extra ≡ [] = append_same extra base (sym end ∙ (ap (enclosing code) same ∙ is)) in
      rw (none, same) (record { outer = refl; less = omega arith })
  falls_from (suc n) p extra base is end stays le =
      let same : p + 1 + n ≡ p + suc n = omega arith in
      let i = get_or code p End in
      let at : slice_get code p ≡ Some i = slice_get-get_or code p End (omega arith) in
      let go : Falls (down extra (cost_step i (costs (drop (p + 1) code)))) (costs (drop (p + 1 + n) code)) =
      falls_step i (p + 1) extra base (enclosing code p) (enclosing code (p + 1)) _ _ is (nested_here p i at)
      (λ e' is'. falls_from n (p + 1) e' base is' (ap (enclosing code) same ∙ end) (λ q a b. stays q (omega arith) (omega arith)) (omega arith))
      (λ _. stays (p + 1) (omega arith) (omega arith))
      (λ none open_none e. end_is_open p i at open_none e) in
      subst (λ x. Falls (down extra x) (costs (drop (p + suc n) code))) (sym (costs_here code p i at))
      (subst (λ q. Falls (down extra (cost_step i (costs (drop (p + 1) code)))) (costs (drop q code))) same go)

  between_from : (os : List ℕ) (p t : ℕ) → enclosing code p ≡ os → p ≤ t → t ≤ length code → enclosing code t ≡ os → Falls (costs (drop p code)) (costs (drop t code))
  between_from [] p t is le within end =
      let same : p + (t - p) ≡ t = omega arith in
      subst (λ q. Falls (costs (drop p code)) (costs (drop q code))) same
      (falls_from (t - p) p [] [] is (ap (enclosing code) same ∙ end) (λ q a b. (enclosing code q, sym (append-nil (enclosing code q))))
      (omega arith))
  between_from (b ∷ outer) p t is le within end =
      let same : p + (t - p) ≡ t = omega arith in
      let early : b ≤ p = (opened_before code p b outer [] is).early in
      let stays : (q : ℕ) → p ≤ q → q ≤ p + (t - p) → AreOpen code q (b ∷ outer) =
      λ q a c. (let there : q + (t - q) ≡ t = omega arith in
      open_between code (t - q) q b outer (omega arith) ([], ap (enclosing code) there ∙ end)) in
      subst (λ q. Falls (costs (drop p code)) (costs (drop q code))) same (falls_from (t - p) p [] (b ∷ outer) is (ap (enclosing code) same ∙ end) stays (omega arith))

  -- a place ahead inside the same loops leaves no more to do
  pub between : (p t : ℕ) → p ≤ t → t ≤ length code → enclosing code t ≡ enclosing code p → Falls (costs (drop p code)) (costs (drop t code))
  between p t le within same = between_from (enclosing code p) p t refl le within same

  -- this place is behind the End of the loop
  pub record Past (t start : ℕ) (outer cs : List ℕ) : Type 0 where
    pub last : ℕ
    pub next : t ≡ last + 1
    pub ends : slice_get code last ≡ Some End
    pub inside : enclosing code last ≡ start ∷ outer
    pub outside : enclosing code t ≡ outer
    pub costs_are : costs (drop t code) ≡ cs

  moved : (t u start : ℕ) (outer cs : List ℕ) → t ≡ u → Past t start outer cs → Past u start outer cs
  moved t u start outer cs e past = subst (λ q. Past q start outer cs) e past

  -- the place behind an instruction, inside extra loops
  past_step : (i : Instr) (q b n : ℕ) (extra base cs : List ℕ) (rest : List Instr) → slice_get code q ≡ Some i
      → costs (drop (q + 1) code) ≡ cs → enclosing code q ≡ extra ++ b ∷ base → enclosing code (q + 1) ≡ nested i (q + 1) (enclosing code q)
      → through_end (length extra) (i ∷ rest) ≡ Some n
      → ((e' : List ℕ) (m : ℕ) → enclosing code (q + 1) ≡ e' ++ b ∷ base → through_end (length e') rest ≡ Some m
      → Past (q + 1 + m) b base (tail0 (down e' cs))) → Past (q + n) b base (tail0 (down extra (cost_step i cs)))
  past_step End q b n [] base cs rest at same is next through ih =
      let one : n ≡ 1 = cc in
      moved (q + 1) (q + n) b base cs (omega arith) (record { last = q; next = refl; ends = at; inside = is; outside = next ∙ ap (drop 1) is; costs_are = same })
  past_step End q b n (x ∷ e) base cs rest at same is next through ih =
      let more = one_more_some _ n through in
      moved (q + 1 + more.0) (q + n) b base _ (one_on q more.0 n more.2) (ih e more.0 (next ∙ ap (drop 1) is) more.1)
  past_step (Begin k) q b n [] base cs rest at same is next through ih =
      let more = one_more_some _ n through in
      moved (q + 1 + more.0) (q + n) b base _ (one_on q more.0 n more.2) (ih ((q + 1) ∷ []) more.0 (next ∙ ap (λ l. (q + 1) ∷ l) is) more.1)
  past_step (Begin k) q b n (x ∷ e) base cs rest at same is next through ih =
      let more = one_more_some _ n through in
      moved (q + 1 + more.0) (q + n) b base _ (one_on q more.0 n more.2) (ih ((q + 1) ∷ x ∷ e) more.0 (next ∙ ap (λ l. (q + 1) ∷ l) is) more.1)
  past_step _ q b n [] base cs rest at same is next through ih =
      let more = one_more_some _ n through in
      moved (q + 1 + more.0) (q + n) b base _ (one_on q more.0 n more.2) (ih [] more.0 (next ∙ is) more.1)
  past_step _ q b n (x ∷ e) base cs rest at same is next through ih =
      let more = one_more_some _ n through in
      moved (q + 1 + more.0) (q + n) b base _ (one_on q more.0 n more.2) (ih (x ∷ e) more.0 (next ∙ is) more.1)

  nothing_through : (e : List ℕ) (n : ℕ) → through_end (length e) [] ≡ Some n → ⊥
  nothing_through [] n h = cc
  nothing_through (x ∷ e) n h = cc

  past_from : (m q b n : ℕ) (extra base : List ℕ) → q + m ≡ length code → enclosing code q ≡ extra ++ b ∷ base
      → through_end (length extra) (drop q code) ≡ Some n → Past (q + n) b base (tail0 (down extra (costs (drop q code))))
  past_from zero q b n extra base at is through =
      let none : drop q code ≡ [] = drop_of_length-le code (omega arith) in
      absurd (nothing_through extra n (sym (ap (through_end (length extra)) none) ∙ through))
  past_from (suc m) q b n extra base at is through =
      let i = get_or code q End in
      let here : slice_get code q ≡ Some i = slice_get-get_or code q End (omega arith) in
      let go = past_step i q b n extra base (costs (drop (q + 1) code)) (drop (q + 1) code) here refl is (nested_here q i here)
      (sym (ap (through_end (length extra)) (drop_here code q i here))
      ∙ through) (λ e' k is' t. past_from m (q + 1) b k e' base (omega arith) is' t) in
      subst (λ d. Past (q + n) b base (tail0 (down extra (costs d)))) (sym (drop_here code q i here)) go

  -- so many instructions on from the start of a loop, its End is behind
  pub past_end : (p k n : ℕ) → slice_get code p ≡ Some (Begin k) → through_end 0 (drop (p + 1) code) ≡ Some n
      → Past (p + 1 + n) (p + 1) (enclosing code p) (tail0 (costs (drop (p + 1) code)))
  past_end p k n at through =
      let within : p < length code = slice_get_within code p (Begin k) at in
      past_from (length code - (p + 1)) (p + 1) (p + 1) n [] (enclosing code p) (omega arith) (nested_here p (Begin k) at) through
