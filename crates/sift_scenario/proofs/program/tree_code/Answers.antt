use Rattle.std.proofs.Common.{sym, ap, ◌∙◌, Err}
use Rattle.sift_lang.specs.Tree.{tree_of}
use Rattle.sift_scenario.proofs.OverLimits.{told_over}
use Rattle.sift_scenario.proofs.program.tree_code.Goals as goal

-- it takes no more steps than it may
pub returns-in-Ok-clause-quick : goal.returns-in-Ok-clause-quick
returns-in-Ok-clause-quick c some = rw (← c.compile_registers.ensures.measured.quick) (c.in-Ok.ensures.allowed some).quick

-- code that is there is over no limit
pub returns-in-Ok-clause-over : goal.returns-in-Ok-clause-over
returns-in-Ok-clause-over c refused over =
    let told = told_over c.args.room.left c.args.task (tree_of c.args.tree.now) refused c.compile_registers.ensures.measured over in
    let is = c.compile_registers.ensures.over told.told told.over in
    absurd (cc (is, c.in-Ok.is))

-- and code that is over one is told so
pub returns-in-Err-clause-over : goal.returns-in-Err-clause-over
returns-in-Err-clause-over c refused over =
    let told = told_over c.args.room.left c.args.task (tree_of c.args.tree.now) refused c.compile_registers.ensures.measured over in
    let is = c.compile_registers.ensures.over told.told told.over in
    cc (is, c.in-Err.is, c.code_refused.ensures, told.is)
