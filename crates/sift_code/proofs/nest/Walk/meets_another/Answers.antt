use Rattle.std.proofs.Common.{◌∙◌, sym, arith}
use Rattle.sift_code.specs.Heights.{height_at, heights_brought}
use Rattle.sift_code.specs.Walk.{summary}
use Rattle.sift_code.proofs.Walks.{read_brought, read_height, none_agree, differs, agrees}
use Rattle.sift_code.proofs.nest.Walk.meets_another.Goals as goal

-- jumps brought different heights
pub returns-then-not-brought : goal.returns-then-not-brought
returns-then-not-brought c =
    let e = read_brought c.args.self.now.brought.items c.args.at c.index.result.now (summary (heights_brought c.args.nest.now c.args.at))
    (omega (arith, c.requires.here.brought.long)) c.index.ensures (c.requires.here.brought.entries c.args.at c.requires.inside) in
    differs (heights_brought c.args.nest.now c.args.at) c.in-Some.brought (height_at c.args.nest.now c.args.at) (sym e ∙ c.in-Some.is) c.if-not-brought.true

-- jumps brought one height
pub returns-else-not-brought : goal.returns-else-not-brought
returns-else-not-brought c =
    let e = read_brought c.args.self.now.brought.items c.args.at c.index.result.now (summary (heights_brought c.args.nest.now c.args.at))
    (omega (arith, c.requires.here.brought.long)) c.index.ensures (c.requires.here.brought.entries c.args.at c.requires.inside) in
    let h = read_height c.args.self.now.heights.items c.args.at c.index-else-not-brought.result.now (height_at c.args.nest.now c.args.at)
    (omega (arith, c.requires.here.long)) c.index-else-not-brought.ensures (c.requires.here.heights c.args.at (omega arith)) in
    agrees (heights_brought c.args.nest.now c.args.at) c.in-Some.brought (height_at c.args.nest.now c.args.at) c.index-else-not-brought.result.now (sym e ∙ c.in-Some.is) c.if-not-brought.false h

-- no jump brought a height
pub returns-in-None : goal.returns-in-None
returns-in-None c =
    let e = read_brought c.args.self.now.brought.items c.args.at c.index.result.now (summary (heights_brought c.args.nest.now c.args.at))
    (omega (arith, c.requires.here.brought.long)) c.index.ensures (c.requires.here.brought.entries c.args.at c.requires.inside) in
    (λ t. cc, λ differ. absurd (differ (none_agree (heights_brought c.args.nest.now c.args.at) (height_at c.args.nest.now c.args.at) (sym e ∙ c.in-None.is))))
