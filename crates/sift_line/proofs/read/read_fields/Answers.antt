use Rattle.std.proofs.Common.{◌∙◌, arith}
use Rattle.sift_line.proofs.LineForms.{three_texts, four_texts, seven_texts, few_have_version, seven_are_unit}
use Rattle.sift_line.proofs.read.read_fields.Goals as goal

pub returns-in-len7-clause-version : goal.returns-in-len7-clause-version
returns-in-len7-clause-version c = c.read_unit_line.ensures.version

pub returns-in-len7-clause-printed : goal.returns-in-len7-clause-printed
returns-in-len7-clause-printed c =
    rw (seven_texts c.args.fields.now c.in-len7.len_at_least c.in-len7.len_below) c.read_unit_line.ensures.printed

pub returns-in-len7-clause-exact : goal.returns-in-len7-clause-exact
returns-in-len7-clause-exact c = λ line holds of e.
    seven_are_unit c.args.version line _ _ _ _ _ _ _ c.read_unit_line.result holds of
    (e ∙ seven_texts c.args.fields.now c.in-len7.len_at_least c.in-len7.len_below) c.read_unit_line.ensures.exact

pub returns-in-len3-clause-version : goal.returns-in-len3-clause-version
returns-in-len3-clause-version c = few_have_version c.args.version _ _ (omega arith) c.read_state_line.ensures.printed

pub returns-in-len3-clause-printed : goal.returns-in-len3-clause-printed
returns-in-len3-clause-printed c =
    rw (three_texts c.args.fields.now c.in-len3.len_at_least c.in-len3.len_below) c.read_state_line.ensures.printed

pub returns-in-len3-clause-exact : goal.returns-in-len3-clause-exact
returns-in-len3-clause-exact c = λ line holds of e.
    c.read_state_line.ensures.exact line holds (e ∙ three_texts c.args.fields.now c.in-len3.len_at_least c.in-len3.len_below)

pub returns-in-len4-clause-version : goal.returns-in-len4-clause-version
returns-in-len4-clause-version c = few_have_version c.args.version _ _ (omega arith) c.read_frame_or_last_line.ensures.printed

pub returns-in-len4-clause-printed : goal.returns-in-len4-clause-printed
returns-in-len4-clause-printed c =
    rw (four_texts c.args.fields.now c.in-len4.len_at_least c.in-len4.len_below) c.read_frame_or_last_line.ensures.printed

pub returns-in-len4-clause-exact : goal.returns-in-len4-clause-exact
returns-in-len4-clause-exact c = λ line holds of e.
    c.read_frame_or_last_line.ensures.exact line holds (e ∙ four_texts c.args.fields.now c.in-len4.len_at_least c.in-len4.len_below)
