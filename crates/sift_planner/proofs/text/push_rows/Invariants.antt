use Rattle.std.proofs.Common.{◌≡◌, ◌++◌, map, take, string_bytes}
use Rattle.sift_planner.specs.Text.{listed, positions_text}
use Rattle.sift_planner.proofs.text.push_rows.Given as goal

-- the rows so far are written
abbrev pub invariant-loop-place : goal.invariant-loop-place
invariant-loop-place l =
    string_bytes l.text ≡ string_bytes l.initial.text ++ listed (map positions_text (take l.place (map (λ row. row.items) l.rows)))
