-- Code that stands in other code.
use Rattle.std.proofs.Common.{◌≡◌, ℕ, zero, suc, ◌+◌, List, [], ◌∷◌, ◌++◌, length, drop, Some, refl, sym, ap, ◌∙◌, append_assoc, append-nil, drop-drop, drop_at}
use Rattle.std.specs.Prelude.{slice_get}
use Rattle.sift_code.specs.declared.instr.Instr.{Instr}

-- these instructions stand in the code from this place on
pub record Stands (code : List Instr) (p : ℕ) (piece : List Instr) : Type 0 where
  pub back : List Instr
  pub is : drop p code ≡ piece ++ back

-- the code stands in itself
pub stands_whole : (code : List Instr) → Stands code 0 code
stands_whole code = record { back = []; is = sym (append-nil code) }

-- of two pieces that stand one behind the other, the first stands where both do
pub stands_front : (code : List Instr) (p : ℕ) (a b : List Instr) → Stands code p (a ++ b) → Stands code p a
stands_front code p a b s = record { back = b ++ s.back; is = s.is ∙ append_assoc a b s.back }

-- and the second stands as far behind that place as the first is long
pub stands_back : (code : List Instr) (p : ℕ) (a b : List Instr) → Stands code p (a ++ b) → Stands code (p + length a) b
stands_back code p a b s =
    record { back = s.back; is = sym (drop-drop (length a) p code) ∙ (ap (drop (length a)) (s.is ∙ append_assoc a b s.back) ∙ drop_at a (b ++ s.back) (length a) refl) }

-- what stands behind the first instruction
pub stands_on : (code : List Instr) (p : ℕ) (i : Instr) (b : List Instr) → Stands code p (i ∷ b) → Stands code (p + 1) b
stands_on code p i b s = stands_back code p (i ∷ []) b s

-- and what stands behind some code and one instruction
pub stands_behind : (code : List Instr) (p : ℕ) (a b : List Instr) (i : Instr) → Stands code p (a ++ i ∷ b) → Stands code (p + length a + 1) b
stands_behind code p a b i s = stands_on code (p + length a) i b (stands_back code p a (i ∷ b) s)

get_first : (code : List Instr) (p : ℕ) → slice_get code p ≡ slice_get (drop p code) 0
get_first code zero = refl
get_first [] (suc p) = refl
get_first (i ∷ code) (suc p) = get_first code p

-- the first instruction
pub stands_here : (code : List Instr) (p : ℕ) (i : Instr) (b : List Instr) → Stands code p (i ∷ b) → slice_get code p ≡ Some i
stands_here code p i b s = get_first code p ∙ ap (λ l. slice_get l 0) s.is

-- the instruction behind some code
pub stands_next : (code : List Instr) (p : ℕ) (a b : List Instr) (i : Instr) → Stands code p (a ++ i ∷ b) → slice_get code (p + length a) ≡ Some i
stands_next code p a b i s = stands_here code (p + length a) i b (stands_back code p a (i ∷ b) s)
