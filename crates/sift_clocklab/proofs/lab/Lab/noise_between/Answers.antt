use Rattle.std.proofs.Common.{◌≡◌, [], get_or, length, ap, ◌∙◌, arith}
use Rattle.std.proofs.lemmas.List.{length-map}
use Rattle.std.proofs.lemmas.Grind.{common_steps}
use Rattle.sift_clocklab.specs.Laboratory.{laboratory_of, working_of}
use Rattle.sift_clocklab.proofs.Lists.{row_at}
use Rattle.sift_clocklab.proofs.lab.Lab.noise_between.Goals as goal

-- a row of the noise has a number for each working clock
pub index-requires-2 : goal.index-requires-2
index-requires-2 c =
    let lab = laboratory_of c.args.self.now in
    let ready = c.requires.ready in
    let rows : length lab.noise ≡ length c.args.self.now.noise.items = length-map c.args.self.now.noise.items _ in
    let row : c.index.result.now.items ≡ get_or lab.noise c.from.result [] =
    row_at _ c.args.self.now.noise.items c.from.result c.index.result.now (omega (arith, ready.noise_of_each, rows)) c.index.ensures in
    let each : length (get_or lab.noise c.from.result []) ≡ working_of lab =
    (ready.noise c.from.result [] (omega (arith, ready.noise_of_each))).each in
    omega (arith, c.index.result.now.ok, ap length row ∙ each)

pub returns : goal.returns
returns c = grind (arith, common_steps)
