-- Lists that grow to what a function makes of the numbers below a limit, where they have room for it.
use Rattle.std.proofs.Common.{◌≡◌, ◌<◌, ◌≤◌, ℕ, ◌+◌, List, [], ◌∷◌, ◌++◌, map, sym, ap, ◌∙◌, arith}
use Rattle.std.specs.List.{range_with_len}
use Rattle.std.proofs.lemmas.List.{map-append}
use Rattle.std.proofs.lemmas.List.FromFn.{map-range_with_len_more}

-- one element more
pub grown :
    {A : Type 0} (make : ℕ → A) (old new : List A) (i : ℕ) (x : A) → old ≡ map make (range_with_len 0 i) → new ≡ old ++ x ∷ [] → x ≡ make i
    → new ≡ map make (range_with_len 0 (i + 1))
grown make old new i x so_far added is =
    added ∙ ap (λ y. old ++ y ∷ []) is ∙ ap (λ ys. ys ++ make i ∷ []) so_far ∙ sym (map-range_with_len_more make 0 i i (omega arith))

-- one element more, of which a part is looked at
pub grown_in_part :
    {A B : Type 0} (part : A → B) (make : ℕ → B) (old new : List A) (i : ℕ) (x : A)
    → map part old ≡ map make (range_with_len 0 i) → new ≡ old ++ x ∷ [] → part x ≡ make i → map part new ≡ map make (range_with_len 0 (i + 1))
grown_in_part part make old new i x so_far added is =
    grown make (map part old) (map part new) i (part x) so_far (ap (map part) added ∙ map-append part old (x ∷ [])) is

-- a list that has room for all has room for the next
pub room_left : (long i end room : ℕ) → long ≡ i → i < end → end ≤ room → long < room
room_left long i end room is low enough = omega arith
