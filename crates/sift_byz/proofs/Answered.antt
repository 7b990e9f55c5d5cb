-- A document is answered in one way.
use Rattle.std.proofs.Common.{◌≡◌, ◌≤◌, ◌+◌, ◌*◌, inl, inr, List, ℕ, length, map, Option, Some, None, Result, Ok, Err, IfOk, IfErr, refl, sym, ap, subst, ◌∙◌, arith}
use Rattle.std.specs.Prelude.{codes, option_and_then}
use Rattle.toml.specs.Data.{Data, Members, get_member}
use Rattle.sift_base.specs.Stop.{IfRefused}
use Rattle.sift_base.specs.declared.stop.Stop.{Stop}
use Rattle.sift_base.specs.declared.stop.Stop.TheVariants as stop
use Rattle.sift_document.specs.Document.{word_array, word_value}
use Rattle.sift_document.specs.Testing.{OnlyRefuses}
use Rattle.sift_document.specs.declared.entries.BrokenRule.{BrokenRule}
use Rattle.sift_document.specs.laws.Numbers.{between_at}
use Rattle.sift_document.specs.laws.OneBroken.{kept_unbroken, one_broken}
use Rattle.sift_document.specs.laws.ReadEntries.{array_between-long}
use Rattle.sift_byz.specs.Lawful.{IsByzPlanOf, IsRefusedWith, OneByzPlan, OneRefusal, ByzPlansAreAccepted, StatedByzPlansAreLawful, rules_of}
use Rattle.sift_byz.specs.Plan.{LieData, ByzPlanData, teller_count, most_traitors, most_units}
use Rattle.sift_byz.specs.Stated.{lie_in, lies_of}
use Rattle.sift_byz.proofs.Stopping.{kept_for_units}
use Rattle.sift_byz.proofs.Tellers.{few_tellers}
use Rattle.sift_byz.proofs.Testing.{one_value}

-- ---- answers

-- what refuses a document that states a plan is want of memory
pub byz_plans_are_accepted : ByzPlansAreAccepted
byz_plans_are_accepted document plan broken stated refused = kept_unbroken (rules_of document) broken.number broken.place stated.lawful refused

-- two refusals of a document are one
pub one_refusal : OneRefusal
one_refusal document one other is is' =
    let same = one_broken (rules_of document) one.number one.place other.number other.place is is' in
    ap (λ n. record { number = n; place = one.place }) same.0 ∙ ap (λ at. record { number = other.number; place = at }) same.1

module _ {A : Type 0} (document : Members) where
  -- a document that states a plan is refused for want of memory alone
  pub complete_of :
      (result : Result A (Stop BrokenRule)) → IfErr result (IfRefused (IsRefusedWith document)) → (plan : ByzPlanData) → IsByzPlanOf document plan
      → IfErr result (λ why. why ≡ stop.NoMemory)
  complete_of (Ok x) refused plan stated = tt
  complete_of (Err (stop.Refused broken)) refused plan stated = absurd (byz_plans_are_accepted document plan broken stated refused)
  complete_of (Err stop.NoMemory) refused plan stated = refl

  -- one that is owed a refusal gets it, or memory was wanting
  pub exact_of :
      (stated_of : A → ByzPlanData) (result : Result A (Stop BrokenRule)) → IfOk result (λ x. IsByzPlanOf document (stated_of x))
      → IfErr result (IfRefused (IsRefusedWith document)) → (owed : BrokenRule) → IsRefusedWith document owed → OnlyRefuses owed result
  exact_of stated_of (Ok x) stated refused owed owes = absurd (byz_plans_are_accepted document (stated_of x) owed stated owes)
  exact_of stated_of (Err (stop.Refused broken)) stated refused owed owes = (refl, inl (ap stop.Refused (one_refusal document broken owed refused owes)))
  exact_of stated_of (Err stop.NoMemory) stated refused owed owes = (refl, inr refl)

-- ---- plans

-- a document states at most one plan
pub one_byz_plan : OneByzPlan
one_byz_plan document one other stated stated' =
    let m : one.m ≡ other.m = one_value _ one.m other.m stated.m stated'.m in
    let units : one.units ≡ other.units = one_value _ one.units other.units stated.units (rw (← m) at stated'.units) in
    let values : one.values ≡ other.values = one_value _ one.values other.values stated.values (rw (← units) at stated'.values) in
    let lies : one.lies ≡ other.lies = stated.lies ∙ sym stated'.lies in
    ap (λ x. record { units = x; m = one.m; values = one.values; lies = one.lies }) units
    ∙ ap (λ x. record { units = other.units; m = x; values = one.values; lies = one.lies }) m
    ∙ ap (λ x. record { units = other.units; m = other.m; values = x; lies = one.lies }) values
    ∙ ap (λ x. record { units = other.units; m = other.m; values = other.values; lies = x }) lies

-- as many words are read as are asked for
values_long : (count : ℕ) (ys : List ℕ) (value : Option Data) → option_and_then (word_array count count) value ≡ Some ys → length ys ≡ count
values_long count ys None is = cc
values_long count ys (Some d) is = let long = array_between-long count count word_value d ys is in omega (arith, long.0, long.1)

-- a plan that a document states is within the limits, and its traitors are few
pub stated_byz_plans_are_lawful : StatedByzPlansAreLawful
stated_byz_plans_are_lawful document plan stated =
    let m = between_at 0 most_traitors (get_member (codes "m") document) plan.m stated.m in
    let units = between_at (3 * plan.m + 1) most_units (get_member (codes "units") document) plan.units stated.units in
    let kept = kept_for_units document plan.m stated.m plan.units stated.units stated.lawful in
    let few : teller_count plan.units (map lie_in (lies_of document)) ≤ plan.m =
    few_tellers plan.units plan.m (map lie_in (lies_of document)) kept.1.1.1.1.1.1.1.1.0 in (
      record { some = omega (arith, units.0); few = units.1; traitors = m.1; valued = values_long plan.units plan.values (get_member (codes "values") document) stated.values },
      record { few = subst (λ (lies : List LieData). teller_count plan.units lies ≤ plan.m) (sym stated.lies) few; enough = units.0 },
    )
