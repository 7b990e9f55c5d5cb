use Rattle.std.proofs.Common.{rules, ◌+◌, ap, ◌∙◌}
use Rattle.std.specs.Prelude.{slice_set}
use Rattle.sift_unit_frame.proofs.Writing.{write_more}
use Rattle.sift_unit_frame.proofs.word_file.write.Goals as goal

-- one word more
pub loop-i-preserved : goal.loop-i-preserved
loop-i-preserved c =
    ap (λ xs. slice_set xs (c.args.at + c.loop-i.i) c.get.result) c.loop-i.invariant
    ∙ write_more c.args.at c.loop-i.i c.args.list.now c.args.words.now c.get.result c.requires c.loop-i-test.true (search (rules, c.get.ensures, c.index-words-i.is))
