use Rattle.std.proofs.Common.{map, take}
use Rattle.std.specs.List.{AllZip}
use Rattle.sift_skew.specs.Figures.{IsSkew}
use Rattle.sift_clocklab.proofs.printing.skews_of.Given as goal

-- the skews of the lists so far
abbrev pub invariant-loop-row : goal.invariant-loop-row
invariant-loop-row l = AllZip IsSkew (map (λ row. row.items) (take l.row-index l.rows)) l.skews.items
