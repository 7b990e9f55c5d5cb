use Rattle.sift_alone.proofs.flying.tell_over_buses.Goals as goal

-- the mission has no storm, so its flight is one without
pub text-requires-clause-flown : goal.text-requires-clause-flown
text-requires-clause-flown c =
    record { calm = c.args.order.calm; strays = c.in_ok-flight.ensures.round.0; round = c.in_ok-flight.ensures.round.1 }

-- what the logs tell is of the buses that were made and of the one that is faulty
pub text-requires-clause-logs : goal.text-requires-clause-logs
text-requires-clause-logs c = rw (← c.in_ok-buses.ensures) (rw (← c.faulty.ensures.number) (rw c.deref.ensures.value c.in_ok-flight.ensures.logs))
