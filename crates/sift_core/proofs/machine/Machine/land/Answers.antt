use Rattle.std.proofs.Common.{◌∙◌, ap, map, List, subst}
use Rattle.std.specs.List.{All}
use Rattle.sift_buffer.specs.Ledgers.{Ledger, HasItsWords}
use Rattle.sift_mission.specs.Parts.{flown_of}
use Rattle.sift_core.proofs.Home.{landed_round, landed_logged}
use Rattle.sift_core.proofs.machine.Machine.land.Goals as goal

pub returns-clause-round : goal.returns-clause-round
returns-clause-round c = landed_round (flown_of c.args.mission.now) c.args.self (record {
  journals = c.journals_of.result;
  accounts =
      c.accounts_of.result;
}) (record {
  flying = c.requires.flies;
  down = c.requires.down;
  words = subst (λ (acts : List Ledger). All HasItsWords acts) (ap (λ acts. acts.items) c.end.ensures) c.journals_of.ensures.words;
  journals = c.journals_of.ensures.journals ∙ ap (λ acts. map (λ ledger. ledger.pages) acts.items) c.end.ensures;
  accounts = c.accounts_of.ensures;
})
    c.boards_that_are_down_have_flown.ensures c.boards_drive_beside_strays.ensures c.flights_that_come_home_are_round.ensures

pub returns-clause-logged : goal.returns-clause-logged
returns-clause-logged c = landed_logged (flown_of c.args.mission.now) c.args.self (record {
  journals = c.journals_of.result;
  accounts =
      c.accounts_of.result;
}) (record {
  flying = c.requires.flies;
  down = c.requires.down;
  words = subst (λ (acts : List Ledger). All HasItsWords acts) (ap (λ acts. acts.items) c.end.ensures) c.journals_of.ensures.words;
  journals = c.journals_of.ensures.journals ∙ ap (λ acts. map (λ ledger. ledger.pages) acts.items) c.end.ensures;
  accounts = c.accounts_of.ensures;
})
    c.boards_that_are_down_have_flown.ensures c.boards_drive_beside_strays.ensures
