use Rattle.std.proofs.Common.{◌≡◌, ℕ, ◌++◌, take, get_or, string_bytes, ap, sym, ◌∙◌, append_assoc, ℤ, pos, w64, to_z, of_z, arith}
use Rattle.std.proofs.lemmas.Int.{ints}
use Rattle.sift_clocklab.specs.Text.{round_line, round_lines}
use Rattle.sift_clocklab.proofs.Figures.{lines_more}
use Rattle.sift_clocklab.proofs.printing.push_rounds.Goals as goal

-- one line more
pub loop-round-preserved : goal.loop-round-preserved
loop-round-preserved c =
    let skews = c.args.skews.now in
    let round : ℕ = c.loop-round.round in
    let before = string_bytes c.args.text.now in
    let skew : ℤ = to_z w64 (of_z w64 (get_or skews round (pos 0))) in
    let held : skew ≡ get_or skews round (pos 0) = omega (arith, ints) in
    let more = lines_more skews round skew (omega arith) held in
    c.in_ok-push_round.ensures ∙ (ap (λ bytes. bytes ++ round_line round skew) c.loop-round.invariant
    ∙ (append_assoc before (round_lines 0 (take round skews)) (round_line round skew) ∙ ap (λ lines. before ++ lines) (sym more)))
