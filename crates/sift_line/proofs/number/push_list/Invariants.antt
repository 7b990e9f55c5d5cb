use Rattle.std.proofs.Common.{◌≡◌, ◌++◌, ◌∷◌, take, string_bytes}
use Rattle.std.specs.List.{flat_map}
use Rattle.sift_line.proofs.number.push_list.Given as goal

-- the items so far are written, each behind a comma
abbrev pub invariant-loop-item : goal.invariant-loop-item
invariant-loop-item g l =
    string_bytes l.text ≡ string_bytes l.initial.text ++ flat_map (λ t. 44 ∷ g.T.Item.item_text t) (take l.item-index l.others)
