use Rattle.std.proofs.Common.{append_assoc, w64}
use Rattle.std.proofs.lemmas.Int.{to_z-of_z}
use Rattle.sift_line.proofs.print.push_account.Goals as goal

pub returns : goal.returns
returns c =
    let told = rw (
      c.in_ok-push_str.ensures.bytes,
      c.in_ok-push_words.ensures,
      c.in_ok-push_standing.ensures,
      c.in_ok-push_head.ensures,
      to_z-of_z w64 c.args.clk c.ranges.clk,
    ) at c.push_caught.ensures in
    simp append_assoc at told
