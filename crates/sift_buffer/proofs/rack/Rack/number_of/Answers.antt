use Rattle.std.proofs.Common.{◌<◌, ℕ, length, ◌∙◌, arith}
use Rattle.sift_buffer.specs.declared.rack.Rack.{Rack}
use Rattle.sift_buffer.proofs.RackEvents.{lent}
use Rattle.sift_buffer.proofs.rack.Rack.number_of.Goals as goal

pub returns : goal.returns
returns c =
    let x : Rack = c.args.self.now in let u : ℕ = c.args.unit in
    let low : u < length x.words.items = rw x.wide (let h = c.requires.unit in omega arith) in
    lent x.words.items u c.from.result c.index.result.now 0 (c.from.ensures ∙ c.get.ensures.number) low c.index.ensures
    ∙ c.requires.lawful.1.formed.number u c.requires.unit
