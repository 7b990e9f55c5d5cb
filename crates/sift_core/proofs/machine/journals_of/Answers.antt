use Rattle.std.proofs.Common.{[], ◌∷◌, ◌++◌, length-append, sym, ◌∙◌, arith}
use Rattle.std.proofs.lemmas.List.{append_assoc, map-append}
use Rattle.std.proofs.lemmas.List.Elements.{All-append}
use Rattle.sift_buffer.specs.Ledgers.{Ledger, HasItsWords}
use Rattle.sift_core.proofs.Lists.{all_one}
use Rattle.sift_core.proofs.machine.journals_of.Goals as goal

pub loop-each-preserved : goal.loop-each-preserved
loop-each-preserved c =
    let inv = c.loop-each.invariant in record {
      journals = c.push_reserved.ensures.items ∙ ((λ i. inv.journals i ++ c.end.ensures.pages i ∷ [])
          ∙ sym (map-append (λ (l : Ledger). l.pages) c.loop-each.yielded (c.in-Some.each ∷ [])));
      words = All-append HasItsWords c.loop-each.yielded (c.in-Some.each ∷ []) inv.words (all_one HasItsWords c.in-Some.each c.end.ensures.words);
      all = append_assoc c.loop-each.yielded (c.in-Some.each ∷ []) c.next.new.self.rest.items
          ∙ ((λ i. c.loop-each.yielded ++ sym c.in-Some.ensures.steps.0 i) ∙ inv.all);
      len = (let more = c.push_reserved.ensures.len in let len = inv.len in omega (arith, length-append c.loop-each.yielded (c.in-Some.each ∷ [])));
      room = (let same = c.push_reserved.ensures.capacity in let room = inv.room in omega arith);
    }
