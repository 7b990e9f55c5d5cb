-- Tests that pass or fail, joined, and what is chosen by them.
use Rattle.std.proofs.Common.{◌≡◌, ℕ, List, [], ◌∷◌, Bool, true, false, ◌&&◌, Option, Some, None, refl}
use Rattle.std.specs.Prelude.{if◌then◌else◌}
use Rattle.std.specs.List.{list_any}
use Rattle.sift_base.specs.laws.ReadBack.{distribute}

-- what is there isn't absent
pub some_none : {A : Type 0} {x : A} → Some x ≡ None → ⊥
some_none e = cc

-- a choice by two tests is the same where the second is, once the first passes
pub choice_same : {A : Type 0} (b p p' : Bool) (x : Option A) → (b ≡ true → p ≡ p') → (if b && p then x else None) ≡ (if b && p' then x else None)
choice_same true p p' x e = rw (e refl) refl
choice_same false p p' x e = refl

-- a choice whose second test passes is one by the first
pub choice_past : {A : Type 0} (t p : Bool) (x : Option A) → p ≡ true → (if t && p then x else None) ≡ (if t then x else None)
choice_past true p x e = rw e refl
choice_past false p x e = refl

-- a choice whose second test fails is absent
pub choice_none : {A : Type 0} (t p : Bool) (x : Option A) → p ≡ false → (if t && p then x else None) ≡ None
choice_none true p x e = rw e refl
choice_none false p x e = refl

-- a condition beside each test stands beside all
pub any-and : (xs : List ℕ) (c : Bool) (p : ℕ → Bool) → list_any (λ x. c && p x) xs ≡ (c && list_any p xs)
any-and [] true p = refl
any-and [] false p = refl
any-and (x ∷ xs) c p = rw (any-and xs c p) (distribute c (p x) (list_any p xs))
