use Rattle.std.proofs.Common.{◌≡◌, ◌++◌, ◌∷◌, [], length-append, sym, ◌∙◌, arith}
use Rattle.std.proofs.lemmas.List.{append_assoc, map-append}
use Rattle.std.proofs.lemmas.List.Elements.{All-append}
use Rattle.sift_buffer.specs.Ledgers.{HasItsWords}
use Rattle.sift_ether.specs.declared.seat.Token.{Token}
use Rattle.sift_ether.specs.Tokens.{chronicle_in}
use Rattle.sift_ether.proofs.Lists.{all_one, at_seam}
use Rattle.sift_ether.proofs.land.join_all.Goals as goal

pub join_one-requires-clause-token : goal.join_one-requires-clause-token
join_one-requires-clause-token c =
    at_seam (λ (t : Token). t.seat.table_id ≡ c.args.words.now.table_id) c.args.tokens.items c.loop-token.yielded c.in-Some.token c.next.new.self.rest.items
    ((λ i. c.loop-token.yielded ++ sym c.in-Some.ensures.steps.0 i) ∙ c.loop-token.invariant.all) c.requires.tokens

pub loop-token-preserved : goal.loop-token-preserved
loop-token-preserved c =
    let inv = c.loop-token.invariant in let e = c.join_one.ensures in let ts = c.loop-token.yielded in let t = c.in-Some.token in record {
      table = e.table ∙ inv.table;
      head = e.head ∙ ((λ i. ((inv.head i).0 ++ chronicle_in t ∷ [], (inv.head i).1)) ∙ (λ i. (sym (map-append chronicle_in ts (t ∷ [])) i, [])));
      journals = c.push_reserved.ensures.items ∙ ((λ i. inv.journals i ++ e.journal i ∷ []) ∙ sym (map-append (λ (s : Token). s.acts.pages) ts (t ∷ [])));
      told = All-append (λ (s : Token). HasItsWords s.acts) ts (t ∷ []) inv.told (all_one (λ (s : Token). HasItsWords s.acts) t e.told);
      all = append_assoc ts (t ∷ []) c.next.new.self.rest.items ∙ ((λ i. ts ++ sym c.in-Some.ensures.steps.0 i) ∙ inv.all);
      len = (let more = c.push_reserved.ensures.len in let len = inv.len in omega (arith, length-append ts (t ∷ [])));
      room = (let same = c.push_reserved.ensures.capacity in let room = inv.room in omega arith);
    }
