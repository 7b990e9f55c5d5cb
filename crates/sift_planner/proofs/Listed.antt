-- Entries with what stands between them.
use Rattle.std.proofs.Common.{◌≡◌, ℕ, zero, suc, ◌+◌, ◌<◌, List, [], ◌∷◌, ◌++◌, length, map, take, get_or, cond, nat_eq, false, ap, sym, ◌∙◌, append_assoc, arith}
use Rattle.std.specs.List.{flat_map}
use Rattle.std.proofs.lemmas.Grind.{flat_map-append}
use Rattle.std.proofs.lemmas.Bool.{ne_eqb}
use Rattle.std.proofs.lemmas.List.{append-nil, map_more}
use Rattle.sift_planner.specs.Text.{break, listed}

-- one entry more
pub listed_more :
    {V : Type 0} (text : V → List ℕ) (vs : List V) (i : ℕ) (v : V) → i < length vs → v ≡ get_or vs i v
    → listed (map text (take (i + 1) vs)) ≡ listed (map text (take i vs)) ++ cond (nat_eq i 0) [] break ++ text v
listed_more text [] i v low at = absurd (omega (arith, low))
listed_more text (first ∷ rest) zero v low at = append-nil (text first) ∙ ap text (sym at)
listed_more text (first ∷ rest) (suc i) v low at =
    let behind = λ (entry : List ℕ). break ++ entry in
    let next : suc i + 1 ≡ suc (i + 1) = omega arith in
    let more : map text (take (i + 1) rest) ≡ map text (take i rest) ++ text v ∷ [] =
    map_more text rest i v (omega (arith, low)) ∙ ap (λ x. map text (take i rest) ++ text x ∷ []) (sym at) in
    let behind_one : nat_eq (suc i) 0 ≡ false = ne_eqb (suc i) 0 (λ same. omega (arith, same)) in
    rw (next, behind_one)
    (ap (λ entries. text first ++ flat_map behind entries) more
    ∙ ap (λ bs. text first ++ bs) (flat_map-append behind (map text (take i rest)) (text v ∷ [])) ∙ simp (append-nil, append_assoc))

-- the text with one entry more
pub written_more :
    (old sofar sep entry all before broken after : List ℕ) → before ≡ old ++ sofar → broken ≡ before ++ sep → after ≡ broken ++ entry
    → all ≡ sofar ++ sep ++ entry → after ≡ old ++ all
written_more old sofar sep entry all before broken after begun separated added is =
    rw (added, separated, begun, is) (simp append_assoc)

-- the texts of one more, one after another
pub flat_more :
    {U V : Type 0} (text : U → List ℕ) (view : V → U) (vs : List V) (i : ℕ) (v : V) → i < length vs → v ≡ get_or vs i v
    → flat_map text (map view (take (i + 1) vs)) ≡ flat_map text (map view (take i vs)) ++ text (view v)
flat_more text view vs i v low is =
    ap (flat_map text) (map_more view vs i v low ∙ ap (λ x. map view (take i vs) ++ view x ∷ []) (sym is))
    ∙ flat_map-append text (map view (take i vs)) (view v ∷ []) ∙ ap (λ bs. flat_map text (map view (take i vs)) ++ bs) (append-nil (text (view v)))

-- a table's lines, one after another
pub lines_more :
    (old head run poll rows begun with_run with_poll : List ℕ) → begun ≡ old ++ head → with_run ≡ begun ++ run → with_poll ≡ with_run ++ poll
    → with_poll ++ rows ≡ old ++ (head ++ run ++ poll ++ rows)
lines_more old head run poll rows begun with_run with_poll first second third = rw (third, second, first) (simp append_assoc)
