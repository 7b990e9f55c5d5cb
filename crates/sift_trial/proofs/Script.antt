-- The script of one fault, which says a wrong word of a task to all other units, is good.
use Rattle.std.proofs.Common.{◌≡◌, ◌<◌, ◌≤◌, ℕ, zero, suc, List, [], ◌∷◌, length, false, nat_eq, refl, arith}
use Rattle.std.proofs.lemmas.List.Elements.{All-cons, All-nil}
use Rattle.std.proofs.lemmas.Bool.{ne_eqb}
use Rattle.std.specs.Prelude.{slice_index}
use Rattle.sift_base.specs.declared.slots.Layout.{Layout}
use Rattle.sift_script.specs.Rules.{AreReceivers, IsGood, IsThere}
use Rattle.sift_script.specs.Script.{FaultScript}
use Rattle.sift_trial.proofs.Digits.{receivers}
use Rattle.sift_trial.proofs.Faults.{drawn_change, drawn_fault}

-- some unit is another one
abbrev spared : ℕ → ℕ
spared zero = 1
spared (suc unit) = 0

spared-few : (unit : ℕ) → spared unit ≤ 1
spared-few zero = omega arith
spared-few (suc unit) = omega arith

spared-other : (unit : ℕ) → nat_eq unit (spared unit) ≡ false
spared-other zero = refl
spared-other (suc unit) = ne_eqb (suc unit) 0 (λ e. omega (arith, e))

module _
    (layout : Layout) (outputs : List ℕ) (frames unit from task value : ℕ) (enough : 5 ≤ layout.units) (few : layout.units ≤ 8)
    (there : unit < layout.units) (early : from < frames) (among : task < length outputs) (some : 0 < slice_index outputs task) where
  -- the script
  abbrev pub drawn_script : FaultScript
  drawn_script = record { faults = drawn_fault layout.units unit from task value ∷ []; layout = layout; outputs = outputs; frames = frames }

  -- the script is good, where its unit, its frame and its task are there and the task has a word
  pub script_good : IsGood drawn_script
  script_good zero low =
      let change = drawn_change layout.units unit task value in (
        there,
        (
          refl,
          (
            early,
            (
              (spared unit, omega (arith, spared-few unit, enough), rw (spared-other unit) refl),
              (
                All-cons (IsThere drawn_script from) change [] ((among, some), tt) (All-nil (IsThere drawn_script from)),
                (All-cons (λ c. AreReceivers layout.units unit c.to) change [] (receivers layout.units unit enough few) (All-nil (λ c. AreReceivers layout.units unit c.to)), tt),
              ),
            ),
          ),
        ),
      )
  script_good (suc at) low = absurd (omega (arith, low))
