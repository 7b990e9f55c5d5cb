use Rattle.std.proofs.Common.{rules, inr, refl, ◌∙◌, ap, map, ◌∷◌, [], arith, w64}
use Rattle.std.proofs.lemmas.Int.{to_z-of_z}
use Rattle.std.proofs.lemmas.List.{map-append}
use Rattle.std.proofs.lemmas.Grind.{common_steps}
use Rattle.sift_mission.specs.Parts.{flown_of}
use Rattle.sift_unit.specs.Boards.{desk_of}
use Rattle.sift_conduct.specs.Conduct.{account_of}
use Rattle.sift_unit.proofs.Continuing.{frame_on, next_place}
use Rattle.sift_unit.proofs.board.Board.end_frame.Goals as goal

pub returns-clause-goes_on : goal.returns-clause-goes_on
returns-clause-goes_on c = let m = flown_of c.args.mission.now in let desk = desk_of c.args.self.now in let account = c.account-account in record {
  going = frame_on m c.requires.may.walks.fits desk c.requires.may.end c.offsets_change_little.ensures c.requires.last c.requires.may.frame
      (account_of account.result) _ _ _ _ _ (record {
        of_frame = account.ensures;
        shape = c.turn_over.ensures.shape m c.args.self.now.clk c.requires.may.walks.range.shape account.ensures;
        configuration = refl;
        offset = to_z-of_z w64 account.result.next_clk (search rules);
        words = c.turn_over.ensures.before m c.args.self.now.clk account.ensures;
        one_more = ap (λ xs. map account_of xs) c.push_reserved.ensures.items ∙ map-append account_of c.args.self.now.accounts.items (account.result ∷ []);
      });
  same = record { unit = refl; frames = refl; storm = refl; turned = refl };
  frame = inr (c.requires.last, refl);
  place = next_place m c.requires.may.walks.fits desk c.requires.may.end c.requires.last;
}

pub push_reserved-requires : goal.push_reserved-requires
push_reserved-requires c = grind (arith, common_steps)
