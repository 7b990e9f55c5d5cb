-- Names among those of earlier tasks.
use Rattle.std.proofs.Common.{◌≡◌, ◌<◌, ℕ, zero, suc, List, [], ◌∷◌, length, get_or, map, Option, Some, Result, Ok, Err, IfOk, IfSome, sym, ap, ◌∙◌, arith}
use Rattle.std.proofs.lemmas.List.{length-map}
use Rattle.std.specs.List.{Contains}
use Rattle.std.specs.Result.{result_ok}
use Rattle.toml.specs.Data.{Members}
use Rattle.sift_base.specs.Name.{IsName}
use Rattle.sift_scenario.specs.Task.{IsNewName, name_of}

-- an entry read as some is that one, and the other way round
get_or-map-any : {A X : Type 0} (f : A → X) (xs : List A) (k : ℕ) (wanted : X) → k < length xs
    → get_or (map (λ x. Some (f x)) xs) k (Some wanted) ≡ Some wanted → get_or (map f xs) k wanted ≡ wanted
get_or-map-any f [] k wanted low is = absurd (omega (arith, low))
get_or-map-any f (x ∷ xs) zero wanted low is = cc is
get_or-map-any f (x ∷ xs) (suc k) wanted low is = get_or-map-any f xs k wanted (omega (arith, low)) is

get_or-map-some : {A X : Type 0} (f : A → X) (xs : List A) (k : ℕ) (wanted : X) → k < length xs
    → get_or (map f xs) k wanted ≡ wanted → get_or (map (λ x. Some (f x)) xs) k (Some wanted) ≡ Some wanted
get_or-map-some f [] k wanted low is = absurd (omega (arith, low))
get_or-map-some f (x ∷ xs) zero wanted low is = ap (λ y. Some y) is
get_or-map-some f (x ∷ xs) (suc k) wanted low is = get_or-map-some f xs k wanted (omega (arith, low)) is

-- what is among the entries of a list as some is among them
contains_from_some : {A X : Type 0} (f : A → X) (xs : List A) (wanted : X) → Contains (map (λ x. Some (f x)) xs) (Some wanted) → Contains (map f xs) wanted
contains_from_some f xs wanted there =
    let low : there.0 < length xs = rw (← length-map xs (λ x. Some (f x))) there.1 in
    let here = get_or-map-any f xs there.0 wanted low in
    (there.0, rw length-map low, here there.2)

-- and the other way round
contains_some : {A X : Type 0} (f : A → X) (xs : List A) (wanted : X) → Contains (map f xs) wanted → Contains (map (λ x. Some (f x)) xs) (Some wanted)
contains_some f xs wanted there =
    let low : there.0 < length xs = rw (← length-map xs f) there.1 in
    (there.0, rw length-map low, get_or-map-some f xs there.0 wanted low there.2)

module _ {A : Type 0} (bytes : A → List ℕ) (earlier : List A) (task : Members) (text : List ℕ) where
  -- a name that none of these is is new
  pub is_new : name_of task ≡ Some text → IsName text → ¬ Contains (map bytes earlier) text → IsNewName (map (λ name. Some (bytes name)) earlier) task text
  is_new stated form new = record { stated = stated; form = form; new = λ there. new (contains_from_some bytes earlier text there) }

  -- no text that isn't one, or that one of these is, is a new name
  pub no_new : (name : List ℕ) → name_of task ≡ Some text → (IsName text → Contains (map bytes earlier) text) → ¬ IsNewName (map (λ name. Some (bytes name)) earlier) task name
  no_new name stated known new =
      let both : Some text ≡ Some name = sym stated ∙ new.stated in
      let same : text ≡ name = cc both in
      let there = known (rw same new.form) in
      new.new (rw (← same) (contains_some bytes earlier text there))

  -- the name that holds the text
  pub found_name :
      {E : Type 0} (r : Result A E) (found : Option A) → found ≡ result_ok r → IfOk r (λ name. bytes name ≡ text)
      → IsNewName (map (λ name. Some (bytes name)) earlier) task text
      → IfSome found (λ name. IsNewName (map (λ name. Some (bytes name)) earlier) task (bytes name))
  found_name (Ok name) found is held new = rw (is, held) new
  found_name (Err e) found is held new = rw is tt
