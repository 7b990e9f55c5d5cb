use Rattle.std.proofs.Common.{List, subst}
use Rattle.sift_alone.specs.Flown.{flying_with}
use Rattle.sift_commands.specs.Command.{commands, program}
use Rattle.sift_commands.specs.declared.list.Command.{Command}
use Rattle.sift_reply.specs.Laws.{AsksOne, GivesOneOwesOne}
use Rattle.sift_row.specs.Laws.{AreKept}
use Rattle.sift_rogue.specs.Rogues.{AllowsDrawn}
use Rattle.sift_rogue.specs.declared.storm.Storm.{Storm}
use Rattle.sift_call.proofs.Same.{same}
use Rattle.sift_call.proofs.law.calls_tell_what_the_program_writes.Goals as goal

pub returns : goal.returns
returns c = λ fleet rest. same
    (subst (λ (them : List Storm). AsksOne (commands (flying_with AllowsDrawn them))) rest (c.one_command.ensures fleet))
    (subst (λ (them : List Storm). AreKept (program (flying_with AllowsDrawn them))) rest (c.commands_are_kept.ensures fleet))
    (subst (λ (them : List Storm). (command : Command)
    → GivesOneOwesOne ((program (flying_with AllowsDrawn them)).duty command)) rest (c.gives_one_owes_one.ensures fleet))
