-- What results, options and tests of texts tell.
use Rattle.std.proofs.Common.{◌≡◌, ◌∙◌, ℕ, List, Bool, true, false, Result, Ok, Err, Some, None, bytes_eq, refl, sym}
use Rattle.std.proofs.lemmas.Slice.Eq.{bytes_eq-Decides}
use Rattle.std.specs.Result.{IsOk, OnOk, OnErr, result_ok}

-- where there is a value, the result was one
pub on_ok : {T E : Type 0} (r : Result T E) (x : T) (P : Type 0) → result_ok r ≡ Some x → OnOk r P → P
on_ok (Ok y) x P e h = h
on_ok (Err y) x P e h = (cc)

pub is_ok : {T E : Type 0} (r : Result T E) (x : T) → result_ok r ≡ Some x → IsOk r
is_ok (Ok y) x e = refl
is_ok (Err y) x e = (cc)

-- and where there is none, it was an error
pub on_err : {T E : Type 0} (r : Result T E) (P : Type 0) → result_ok r ≡ None → OnErr r P → P
on_err (Ok y) P e h = (cc)
on_err (Err y) P e h = h

-- no test has two results
pub not_both : (b : Bool) → b ≡ true → b ≡ false → ⊥
not_both true t f = cc
not_both false t f = cc

-- values that are given are one where the options are
pub held : {X : Type 0} (x y : X) → Some x ≡ Some y → x ≡ y
held x y e = cc

-- no value is given and none
pub none_given : {X : Type 0} (x : X) → None ≡ Some x → ⊥
none_given x e = cc

-- texts are one where they were found to be
pub same_where : (b : Bool) (xs ys : List ℕ) → b ≡ bytes_eq xs ys → b ≡ true → xs ≡ ys
same_where b xs ys found t = (bytes_eq-Decides xs ys).0 (sym found ∙ t)

-- and two where they weren't
pub differ_where : (b : Bool) (xs ys : List ℕ) → b ≡ bytes_eq xs ys → b ≡ false → xs ≡ ys → ⊥
differ_where b xs ys found f same = not_both b (found ∙ (bytes_eq-Decides xs ys).1 same) f
