use Rattle.std.proofs.Common.{◌≡◌, Global, map, string_bytes, take, drop, length, ◌-◌, arith, bytes_eq, true}
use Rattle.std.proofs.lemmas.Grind.{common_steps}
use Rattle.std.proofs.lemmas.Slice.Eq.{bytes_eq-Decides}
use Rattle.sift_options.specs.Options.{AreOptions}
use Rattle.sift_row.proofs.Words.{found, map-first}
use Rattle.sift_row.proofs.row.asked.Goals as goal

-- the words are the command's own and its options
pub returns-clause-found : goal.returns-clause-found
returns-clause-found g c = λ means.
    let are = map-first (string_bytes {Z = Global}) c.args.words.now c.word-item.result (omega (arith, c.in-len1-up.len_at_least)) c.word-item.is in
    let same : bytes_eq c.as_str.result.now c.word.result.now ≡ true = grind (arith, common_steps) in
    let at : string_bytes c.word-item.result ≡ (g.C.Command.row_of means).word =
    rw (← c.as_str.ensures.value) (rw (← c.word.ensures means) ((bytes_eq-Decides c.as_str.result.now c.word.result.now).0 same)) in
    let are_options : c.are_options.result ≡ true = grind (arith, common_steps) in
    let options : AreOptions (g.C.Command.row_of means).flags (map (string_bytes {Z = Global}) (take (length c.args.words.now - 1) (drop 1 c.args.words.now))) =
    rw (← c.flags.ensures means) (c.are_options.ensures.0 are_options) in
    found (g.C.Command.row_of means) _ _ _ are c.of.result (c.of.ensures means) at options
