-- What a map of a document's keys holds after an insertion.
use Rattle.std.proofs.Common.{◌≡◌, List, [], ◌∷◌, Ordering, Less, Equal, Greater, String, Global, string_bytes, refl, ap}
use Rattle.std.specs.BTreeMap.{insert_entry}
use Rattle.std.specs.Ordering.{match_ordering}
use Rattle.std.specs.String.{string_cmp}
use Rattle.toml.specs.Data.{member}
use Rattle.toml.specs.View.{members_view, view}
use Rattle.toml.specs.declared.value.Value.{Value}
use Rattle.sift_gen.specs.Scenario.{placed}

-- by the order of the new key and the first one
placed-first : (o : Ordering) (k : String Global) (v : Value) (e : String Global × Value) (es : List (String Global × Value)) →
    members_view (insert_entry string_cmp es k v) ≡ placed (string_bytes k) (view v) (members_view es) →
    members_view (match_ordering o ((k, v) ∷ e ∷ es) ((e.0, v) ∷ es) (e ∷ insert_entry string_cmp es k v))
    ≡ match_ordering o (member (string_bytes k) (view v) (members_view (e ∷ es))) (member (string_bytes e.0) (view v) (members_view es))
    (member (string_bytes e.0) (view e.1) (placed (string_bytes k) (view v) (members_view es)))
placed-first Less k v e es h = refl
placed-first Equal k v e es h = refl
placed-first Greater k v e es h = ap (member (string_bytes e.0) (view e.1)) h

-- an insertion places the entry
pub placed-insert : (es : List (String Global × Value)) (k : String Global) (v : Value) →
    members_view (insert_entry string_cmp es k v) ≡ placed (string_bytes k) (view v) (members_view es)
placed-insert [] k v = refl
placed-insert (e ∷ es) k v = placed-first (string_cmp k e.0) k v e es (placed-insert es k v)
