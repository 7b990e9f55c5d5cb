-- An option is one of a list.
use Rattle.std.proofs.Common.{◌≡◌, ◌<◌, ℕ, List, [], ◌∷◌, length, map, get_or, sym, ◌∙◌, subst, arith}
use Rattle.std.proofs.lemmas.List.{get_or-map, length-map}
use Rattle.sift_options.specs.Options.{Allowed, IsAllowed, IsOneOf, Setting, allowed_by}
use Rattle.sift_options.specs.declared.setting.Flag.{Flag}

-- it is none of them
pub nowhere : (flags : List Flag) (setting : Setting) → ((k : ℕ) → k < length flags → (d : Flag) → ¬ IsAllowed setting (allowed_by (get_or flags k d)))
    → ¬ IsOneOf (map allowed_by flags) setting
nowhere [] setting none (flag, (k, low, at), is) = omega (arith, low)
nowhere (first ∷ others) setting none (flag, (k, low, at), is) =
    let here : k < length (first ∷ others) = subst (λ (n : ℕ). k < n) (length-map (first ∷ others) allowed_by) low in
    none k here first (subst (λ (f : Allowed). IsAllowed setting f) (sym at ∙ get_or-map allowed_by (first ∷ others) k first flag here) is)
