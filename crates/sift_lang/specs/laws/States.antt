-- How many locals live and how many output words there are after statements; and states that are the same.
use Rattle.std.proofs.Common.{◌≡◌, ℕ, zero, suc, ◌≤◌, List, [], ◌∷◌, length, refl, ◌∙◌, arith, ap}
use Rattle.std.specs.Fn.{iterate}
use Rattle.std.proofs.lemmas.List.{length-take-le, length-append, length-set, length-replicate}
use Rattle.sift_lang.specs.Tree.{Statement, bind, assign, output, choose, choose_else, repeat, Block, end, step, TaskTree}
use Rattle.sift_lang.specs.Meaning.{Readings, State, value_of, scoped, chosen, after, after_all, meaning}
use Rattle.sift_lang.specs.Sound.{locals_after}

-- so many locals live, and there are so many output words
pub record HasSizes (locals outs : ℕ) (s : State) : Type 0 where
  pub locals_are : length s.locals ≡ locals
  pub outs_are : length s.outs ≡ outs

-- the statements of a block only add locals
pub record OnlyAddsLocals (s t : State) : Type 0 where
  pub adds : length s.locals ≤ length t.locals
  pub outs_are : length t.outs ≡ length s.outs

-- a block leaves as many locals as it found
sizes-scoped : (body : State → State) (s : State) → OnlyAddsLocals s (body s) → HasSizes (length s.locals) (length s.outs) (scoped body s)
sizes-scoped body s only =
    record { locals_are = length-take-le (length s.locals) (body s).locals only.adds; outs_are = only.outs_are }

-- of two states that have these sizes either has them
sizes-chosen : (locals outs n : ℕ) (first second : State) → HasSizes locals outs first → HasSizes locals outs second → HasSizes locals outs (chosen n first second)
sizes-chosen locals outs zero first second p q = q
sizes-chosen locals outs (suc n) first second p q = p

-- rounds that keep the sizes keep them however many there are
sizes-iterate : (locals outs n : ℕ) (round : State → State) → ((s : State) → HasSizes locals outs s → HasSizes locals outs (round s)) → (s : State)
    → HasSizes locals outs s → HasSizes locals outs (iterate round n s)
sizes-iterate locals outs zero round keeps s has = has
sizes-iterate locals outs (suc n) round keeps s has = sizes-iterate locals outs n round keeps (round s) (keeps s has)

has-sizes : (s : State) → HasSizes (length s.locals) (length s.outs) s
has-sizes s = record { locals_are = refl; outs_are = refl }

-- a round of a block keeps the sizes
pub sizes-round : (locals outs : ℕ) (body : State → State) (s : State) → HasSizes locals outs s → OnlyAddsLocals s (body s) → HasSizes locals outs (scoped body s)
sizes-round locals outs body s has only =
    let kept = sizes-scoped body s only in
    record { locals_are = kept.locals_are ∙ has.locals_are; outs_are = kept.outs_are ∙ has.outs_are }

-- a statement leaves at least as many locals as it found
pub le-locals_after : (locals : ℕ) (statement : Statement) → locals ≤ locals_after locals statement
le-locals_after locals (bind t) = omega arith
le-locals_after locals (assign l t) = omega arith
le-locals_after locals (output j t) = omega arith
le-locals_after locals (choose t first) = omega arith
le-locals_after locals (choose_else t first second) = omega arith
le-locals_after locals (repeat k body) = omega arith

-- a statement, and then the rest of its block
adds-step : (statement : Statement) (s t u : State) → HasSizes (locals_after (length s.locals) statement) (length s.outs) t → OnlyAddsLocals t u → OnlyAddsLocals s u
adds-step statement s t u has only =
    let grows = le-locals_after (length s.locals) statement in
    record { adds = omega (arith, grows, has.locals_are, only.adds); outs_are = only.outs_are ∙ has.outs_are }

mutual
  -- what a statement does to the sizes
  pub sizes-after : (statement : Statement) (r : Readings) (s : State) → HasSizes (locals_after (length s.locals) statement) (length s.outs) (after statement r s)
  sizes-after (bind t) r s = record { locals_are = length-append s.locals (value_of t r s.locals ∷ []); outs_are = refl }
  sizes-after (assign l t) r s = record { locals_are = length-set s.locals l (value_of t r s.locals); outs_are = refl }
  sizes-after (output j t) r s = record { locals_are = refl; outs_are = length-set s.outs j (value_of t r s.locals) }
  sizes-after (choose t first) r s =
      sizes-chosen _ _ (value_of t r s.locals) _ _ (sizes-scoped (after_all first r) s (adds-after_all first r s)) (has-sizes s)
  sizes-after (choose_else t first second) r s =
      sizes-chosen _ _ (value_of t r s.locals) _ _ (sizes-scoped (after_all first r) s (adds-after_all first r s)) (sizes-scoped (after_all second r) s (adds-after_all second r s))
  sizes-after (repeat k body) r s =
      sizes-iterate _ _ k (scoped (after_all body r)) (λ t has. sizes-round _ _ (after_all body r) t has (adds-after_all body r t)) s (has-sizes s)

  -- what the statements of a block do to them
  pub adds-after_all : (block : Block) (r : Readings) (s : State) → OnlyAddsLocals s (after_all block r s)
  adds-after_all end r s = record { adds = omega arith; outs_are = refl }
  adds-after_all (step statement rest) r s = adds-step statement s (after statement r s) _ (sizes-after statement r s) (adds-after_all rest r (after statement r s))

-- after one more statement, a block has still only added locals
pub adds-more : (statement : Statement) (r : Readings) (s t u : State) → OnlyAddsLocals s t → u ≡ after statement r t → OnlyAddsLocals s u
adds-more statement r s t u only is =
    let sizes = sizes-after statement r t in
    let grows = le-locals_after (length t.locals) statement in
    let more : OnlyAddsLocals s (after statement r t) = record { adds = omega (arith, grows, sizes.locals_are, only.adds); outs_are = sizes.outs_are ∙ only.outs_are } in
    rw is more

-- a task has as many output words as it says
pub length-meaning : (task : TaskTree) (ins made last : List ℕ) → length (meaning task ins made last) ≡ task.outputs
length-meaning task ins made last = (adds-after_all task.body _ _).outs_are ∙ length-replicate task.outputs 0

-- ---- the same state

-- rounds that agree on each state lead to one state
pub iterate-same : (n : ℕ) (f g : State → State) → ((s : State) → f s ≡ g s) → (s : State) → iterate f n s ≡ iterate g n s
iterate-same zero f g same s = refl
iterate-same (suc n) f g same s = iterate-same n f g same (f s) ∙ ap (iterate g n) (same s)

-- so do blocks without the locals that they add
pub scoped-same : (f g : State → State) → ((s : State) → f s ≡ g s) → (s : State) → scoped f s ≡ scoped g s
scoped-same f g same s = ap (λ (t : State). scoped (λ _. t) s) (same s)
