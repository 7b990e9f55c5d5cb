-- What a test decides: where it fails nothing holds that it decides, and an option that is there is asked by its value.
use Rattle.std.proofs.Common.{◌≡◌, ℕ, List, Bool, true, false, Option, None, Some, refl, sym, subst}
use Rattle.std.specs.Prelude.{◌↔◌, IsSomeAnd}
use mathlib.Core.Bool.{beq}

-- nothing is both
pub not_both : (b : Bool) → b ≡ true → b ≡ false → ⊥
not_both b t f = absurd cc

-- a test that fails tells that what it tests doesn't hold
pub fails : (b : Bool) (P : Type 0) → ((b ≡ true) ↔ P) → b ≡ false → P → ⊥
fails b P decides f holds = not_both b (decides.1 holds) f

-- no is right where it doesn't hold
pub no_where : (P : Type 0) → (P → ⊥) → (false ≡ true) ↔ P
no_where P not_so = ((λ t. absurd cc), (λ holds. absurd (not_so holds)))

-- and where a test fails of what it needs
pub no_since : (b : Bool) (A P : Type 0) → b ≡ false → ((b ≡ true) ↔ A) → (P → A) → (b ≡ true) ↔ P
no_since b A P f decides needs = ((λ t. absurd (not_both b t f)), (λ holds. decides.1 (needs holds)))

-- what isn't there has no value
pub none_told : (o : Option (List ℕ)) (us : List ℕ) → o ≡ None → o ≡ Some us → ⊥
none_told o us none told = absurd cc

-- of nothing nothing holds
pub no_value : {X : Type 0} (o : Option X) (P : X → Type 0) → o ≡ None → (false ≡ true) ↔ IsSomeAnd o P
no_value o P none = subst (λ p. (false ≡ true) ↔ IsSomeAnd p P) (sym none) ((λ t. absurd cc), (λ holds. absurd holds))

-- what holds of a value holds of what it is the value of
pub of_value : {X : Type 0} (o : Option X) (x : X) (P : X → Type 0) (b : Bool) → o ≡ Some x → ((b ≡ true) ↔ P x) → (b ≡ true) ↔ IsSomeAnd o P
of_value o x P b is decides = subst (λ p. (b ≡ true) ↔ IsSomeAnd p P) (sym is) decides

-- bits that agree are the same
pub beq_decides : (a b : Bool) → (beq a b ≡ true) ↔ (a ≡ b)
beq_decides true true = ((λ t. refl), (λ e. refl))
beq_decides true false = ((λ t. absurd cc), (λ e. absurd cc))
beq_decides false true = ((λ t. absurd cc), (λ e. absurd cc))
beq_decides false false = ((λ t. refl), (λ e. refl))
