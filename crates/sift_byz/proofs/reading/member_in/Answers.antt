use Rattle.std.proofs.Common.{◌∙◌}
use Rattle.toml.specs.View.{table_view, view}
use Rattle.sift_byz.proofs.Testing.{got_from, got_none}
use Rattle.sift_byz.proofs.reading.member_in.Goals as goal

-- the value is a table
pub returns-in-Some : goal.returns-in-Some
returns-in-Some c = c.member_of.ensures ∙ got_from c.args.key.now (view c.args.value.now) (table_view c.in-Some.table.now) c.in-Some.ensures

-- it is none
pub returns-in-None : goal.returns-in-None
returns-in-None c = got_none c.args.key.now (view c.args.value.now) c.in-None.ensures
