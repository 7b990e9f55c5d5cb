use Rattle.std.proofs.Common.{string_bytes, sym, ◌∙◌}
use Rattle.sift_byz.proofs.Lists.{no_words, some_words}
use Rattle.sift_byz.proofs.vectors.push_words.Goals as goal

-- there are none
pub returns-then-is_empty : goal.returns-then-is_empty
returns-then-is_empty c = no_words (string_bytes c.args.text.now) c.args.words.now (sym c.is_empty.ensures ∙ c.if-is_empty.true)

-- there are some
pub returns : goal.returns
returns c = rw (some_words c.args.words.now (sym c.is_empty.ensures ∙ c.if-is_empty.false)) at c.push_list.ensures
