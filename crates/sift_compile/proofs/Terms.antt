-- The code of a term pushes its value.
use Rattle.std.proofs.Common.{◌≡◌, ℕ, zero, suc, ◌+◌, ◌<◌, List, [], ◌∷◌, ◌++◌, length, Some, refl, ap, ◌∙◌, subst, arith, length-append}
use Rattle.std.specs.Prelude.{slice_get, slice_index}
use Rattle.sift_base.specs.Word.{sub, mid}
use Rattle.sift_code.specs.declared.instr.Instr.{Instr}
use Rattle.sift_code.specs.declared.instr.Instr.TheVariants as instr
use Rattle.sift_code.specs.Machine.{State, Inputs, effect, on_with, pushed, combined}
use Rattle.sift_code.specs.Refusal.{Limits}
use Rattle.sift_code.specs.Ends.{Fits}
use Rattle.sift_lang.specs.declared.tree.Op.{Op}
use Rattle.sift_lang.specs.declared.tree.Op.TheVariants.{Add, Sub, Mul, Div, Rem, And, Or, Xor, Shl, Shr, Lt, Eq}
use Rattle.sift_lang.specs.Tree.{Term, number, local, sense, this_frame, last_frame, minus, binary, middle}
use Rattle.sift_lang.specs.Meaning.{Readings, operation, value_of}
use Rattle.sift_lang.specs.Sound.{NamesWithin}
use Rattle.sift_compile.specs.Code.{operator_code, term_code}
use Rattle.sift_compile.proofs.Stands.{Stands, stands_front, stands_back, stands_on, stands_here}
use Rattle.sift_compile.proofs.Locals.{BeginWith, begin-get}
use Rattle.sift_compile.proofs.Comes.{Comes, comes_on, comes_by}

-- the state behind so much code, with one more word on the stack
abbrev pub pushing : State → List Instr → ℕ → State
pushing s code v = record s { place = s.place + length code; stack = v ∷ s.stack }

-- what a task reads from the words that the machine reads
abbrev pub readings_from : Inputs → Readings
readings_from inputs = record { ins = inputs.sensed; made = inputs.made; last = inputs.last }

get-index : (words : List ℕ) (k : ℕ) → k < length words → slice_get words k ≡ Some (slice_index words k)
get-index [] k within = absurd (omega arith)
get-index (w ∷ words) zero within = refl
get-index (w ∷ words) (suc k) within = get-index words k (omega arith)

module _ (code : List Instr) (inputs : Inputs) where
  -- the place at the end, under another name
  pub comes_to : (s t : State) (q : ℕ) → t.place ≡ q → Comes code inputs s t → Comes code inputs s (record t { place = q })
  comes_to s t q e c = subst (λ p. Comes code inputs s (record t { place = p })) e c

  operator_effect : (o : Op) (s : State) → effect (operator_code o) code inputs s ≡ on_with s (combined (operation o) s.stack)
  operator_effect Add s = refl
  operator_effect Sub s = refl
  operator_effect Mul s = refl
  operator_effect Div s = refl
  operator_effect Rem s = refl
  operator_effect And s = refl
  operator_effect Or s = refl
  operator_effect Xor s = refl
  operator_effect Shl s = refl
  operator_effect Shr s = refl
  operator_effect Lt s = refl
  operator_effect Eq s = refl

  -- one instruction that pushes a word
  push_runs : (s : State) (i : Instr) (v : ℕ) → Stands code s.place (i ∷ []) → effect i code inputs s ≡ on_with s (Some (v ∷ s.stack)) → Comes code inputs s (pushing s (i ∷ []) v)
  push_runs s i v stands does = comes_by code inputs s (pushing s (i ∷ []) v) i (stands_here code s.place i [] stands) does

  -- a list that is read
  read_runs : (s : State) (i : Instr) (words : List ℕ) (k : ℕ) → Stands code s.place (i ∷ []) → k < length words
      → effect i code inputs s ≡ on_with s (pushed (slice_get words k) s.stack)
      → Comes code inputs s (pushing s (i ∷ []) (slice_index words k))
  read_runs s i words k stands within does =
      push_runs s i (slice_index words k) stands (does ∙ ap (λ o. on_with s (pushed o s.stack)) (get-index words k within))

  minus_runs : (s : State) (ca : List Instr) (x : ℕ) → Stands code s.place (instr.Push 0 ∷ (ca ++ instr.Sub ∷ []))
      → Comes code inputs (pushing s (instr.Push 0 ∷ []) 0) (pushing (pushing s (instr.Push 0 ∷ []) 0) ca x)
      → Comes code inputs s (pushing s (instr.Push 0 ∷ (ca ++ instr.Sub ∷ [])) (sub 0 x))
  minus_runs s ca x stands a =
      let zero_pushed = pushing s (instr.Push 0 ∷ []) 0 in
      let both = pushing zero_pushed ca x in
      let here = stands_on code s.place (instr.Push 0) (ca ++ instr.Sub ∷ []) stands in
      let at = stands_here code both.place instr.Sub [] (stands_back code (s.place + 1) ca (instr.Sub ∷ []) here) in
      let t : State = record s { place = both.place + 1; stack = sub 0 x ∷ s.stack } in
      let whole : t.place ≡ s.place + length (instr.Push 0 ∷ (ca ++ instr.Sub ∷ [])) = omega (arith, length-append ca (instr.Sub ∷ [])) in
      comes_to s t _ whole
      (comes_on code inputs s zero_pushed t
      (comes_by code inputs s zero_pushed (instr.Push 0) (stands_here code s.place (instr.Push 0) _ stands) refl)
      (comes_on code inputs zero_pushed both t a (comes_by code inputs both t instr.Sub at refl)))

  binary_runs : (s : State) (i : Instr) (op : ℕ → ℕ → ℕ) (ca cb : List Instr) (x y : ℕ)
      → ((t : State) → effect i code inputs t ≡ on_with t (combined op t.stack)) → Stands code s.place (ca ++ (cb ++ i ∷ []))
      → Comes code inputs s (pushing s ca x) → Comes code inputs (pushing s ca x) (pushing (pushing s ca x) cb y)
      → Comes code inputs s (pushing s (ca ++ (cb ++ i ∷ [])) (op x y))
  binary_runs s i op ca cb x y does stands a b =
      let one = pushing s ca x in
      let two = pushing one cb y in
      let at = stands_here code two.place i [] (stands_back code one.place cb (i ∷ []) (stands_back code s.place ca (cb ++ i ∷ []) stands)) in
      let t : State = record s { place = two.place + 1; stack = op x y ∷ s.stack } in
      let whole : t.place ≡ s.place + length (ca ++ (cb ++ i ∷ [])) = omega (arith, length-append ca (cb ++ i ∷ []), length-append cb (i ∷ [])) in
      comes_to s t _ whole (comes_on code inputs s one t a (comes_on code inputs one two t b (comes_by code inputs two t i at (does two))))

  middle_runs : (s : State) (ca cb cc : List Instr) (x y z : ℕ) → Stands code s.place (ca ++ (cb ++ (cc ++ instr.Mid ∷ [])))
      → Comes code inputs s (pushing s ca x) → Comes code inputs (pushing s ca x) (pushing (pushing s ca x) cb y)
      → Comes code inputs (pushing (pushing s ca x) cb y) (pushing (pushing (pushing s ca x) cb y) cc z)
      → Comes code inputs s (pushing s (ca ++ (cb ++ (cc ++ instr.Mid ∷ []))) (mid x y z))
  middle_runs s ca cb cc x y z stands a b c =
      let one = pushing s ca x in
      let two = pushing one cb y in
      let three = pushing two cc z in
      let at = stands_here code three.place instr.Mid [] (stands_back code two.place cc (instr.Mid ∷ []) (stands_back code one.place cb _ (stands_back code s.place ca _ stands))) in
      let t : State = record s { place = three.place + 1; stack = mid x y z ∷ s.stack } in
      let whole : t.place ≡ s.place + length (ca ++ (cb ++ (cc ++ instr.Mid ∷ []))) =
      omega (
        arith,
        length-append ca (cb ++ (cc ++ instr.Mid ∷ [])),
        length-append cb (cc ++ instr.Mid ∷ []),
        length-append cc (instr.Mid ∷ []),
      ) in
      comes_to s t _ whole (comes_on code inputs s one t a (comes_on code inputs one two t b (comes_on code inputs two three t c (comes_by code inputs three t instr.Mid at refl))))

  module _ (limits : Limits) (fits : Fits inputs limits) where
    -- the code of a term comes to its end with the term's value on the stack, where it names what is there
    pub term_runs : (t : Term) (live : List ℕ) (s : State) → NamesWithin limits.sensors limits.words (length live) t
        → BeginWith s.locals live → Stands code s.place (term_code t)
        → Comes code inputs s (pushing s (term_code t) (value_of t (readings_from inputs) live))
    term_runs (number n) live s names begins stands = push_runs s (instr.Push n) n stands refl
    term_runs (local l) live s names begins stands =
        push_runs s (instr.Load l) (slice_index live l) stands (ap (λ o. on_with s (pushed o s.stack)) (begin-get s.locals live l begins names))
    term_runs (sense x) live s names begins stands = read_runs s (instr.Sense x) inputs.sensed x stands (omega (arith, names, fits.sensed)) refl
    term_runs (this_frame w) live s names begins stands = read_runs s (instr.Now w) inputs.made w stands (omega (arith, names, fits.made)) refl
    term_runs (last_frame w) live s names begins stands = read_runs s (instr.Last w) inputs.last w stands (omega (arith, names, fits.last)) refl
    term_runs (minus t) live s names begins stands =
        let rest = stands_on code s.place (instr.Push 0) _ stands in
        minus_runs s (term_code t) _ stands (term_runs t live (pushing s (instr.Push 0 ∷ []) 0) names begins (stands_front code (s.place + 1) (term_code t) _ rest))
    term_runs (binary o t u) live s names begins stands =
        let one = pushing s (term_code t) (value_of t (readings_from inputs) live) in
        let rest = stands_back code s.place (term_code t) _ stands in
        binary_runs s (operator_code o) (operation o) (term_code t) (term_code u) _ _ (operator_effect o) stands
        (term_runs t live s names.0 begins (stands_front code s.place (term_code t) _ stands))
        (term_runs u live one names.1 begins (stands_front code one.place (term_code u) _ rest))
    term_runs (middle t u v) live s names begins stands =
        let one = pushing s (term_code t) (value_of t (readings_from inputs) live) in
        let two = pushing one (term_code u) (value_of u (readings_from inputs) live) in
        let rest = stands_back code s.place (term_code t) _ stands in
        let last = stands_back code one.place (term_code u) _ rest in
        middle_runs s (term_code t) (term_code u) (term_code v) _ _ _ stands
        (term_runs t live s names.0 begins (stands_front code s.place (term_code t) _ stands))
        (term_runs u live one names.1 begins (stands_front code one.place (term_code u) _ rest))
        (term_runs v live two names.2 begins (stands_front code two.place (term_code v) _ last))
