-- What a look-up of a span and a test of two spans tell.
use Rattle.std.proofs.Common.{◌≡◌, ℕ, ◌<◌, ◌≤◌, ◌==◌, ◌&&◌, Bool, List, length, get_or, Option, Some, None, refl, sym, ap, arith}
use Rattle.std.specs.Prelude.{slice_get, is_some, IfSome, nat_lt}
use Rattle.std.specs.Bool.{Decides}
use Rattle.std.specs.Option.{option_map, option_eq}
use Rattle.std.proofs.lemmas.Bool.Decides.{Decides-eqb, Decides-and, Decides-like, nat_tests}
use Rattle.std.proofs.lemmas.Option.{slice_get_read, slice_get_past}
use Rattle.sift_pool.specs.Region.{Extent}
use Rattle.sift_pool.proofs.Extents.{same_extent}

-- what `==` computes of two spans
abbrev same_test : Extent → Extent → Bool
same_test p q = (p.number == q.number) && ((p.start == q.start) && (p.len == q.len))

-- `==` tells whether two spans are equal
Decides-same_test : (p q : Extent) → Decides (same_test p q) (p ≡ q)
Decides-same_test p q =
    Decides-like (same_test p q) (λ parts. same_extent _ _ _ _ _ _ parts.0 parts.1.0 parts.1.1)
    (λ same. (ap (λ r. r.number) same, (ap (λ r. r.start) same, ap (λ r. r.len) same)))
    (Decides-and (p.number == q.number) ((p.start == q.start) && (p.len == q.len)) (Decides-eqb p.number q.number)
    (Decides-and (p.start == q.start) (p.len == q.len) (Decides-eqb p.start q.start) (Decides-eqb p.len q.len)))

-- what `get` finds is the span at that index, if there is one
pub option_map-get : {B : Type 0} (now : B → Extent) (ps : List Extent) (k : ℕ) (own : Option B) → is_some own ≡ nat_lt k (length ps)
    → IfSome own (λ x. now x ≡ get_or ps k (now x)) → option_map now own ≡ slice_get ps k
option_map-get now ps k None there found =
    let past : length ps ≤ k = grind (arith, nat_tests) in
    sym (slice_get_past ps k past)
option_map-get now ps k (Some x) there found =
    let within : k < length ps = grind (arith, nat_tests) in
    sym (slice_get_read ps (length ps) k (now x) refl within found)

-- `==` tells whether that is a given span
pub Decides-option_eq : {B : Type 0} (now : B → Extent) (own : Option B) (b : B) → Decides (option_eq (λ x y. same_test (now x) (now y)) own (Some b)) (option_map now own ≡ Some (now b))
Decides-option_eq now None b = (λ no. cc, λ no. cc)
Decides-option_eq now (Some x) b =
    Decides-like _ (λ same. ap Some same) (λ same. cc) (Decides-same_test (now x) (now b))
