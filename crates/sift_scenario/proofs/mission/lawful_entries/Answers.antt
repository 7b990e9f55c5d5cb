use Rattle.toml.specs.View.{table_view}
use Rattle.sift_scenario.proofs.TaskRefusals as refusals
use Rattle.sift_scenario.proofs.mission.lawful_entries.Goals as goal

-- a rule is broken
pub returns-in-Err-clause-refused : goal.returns-in-Err-clause-refused
returns-in-Err-clause-refused c = rw c.rule_refused.ensures (refusals.rule_refused (table_view c.args.document.now) _ c.in-Err.ensures.refused)
