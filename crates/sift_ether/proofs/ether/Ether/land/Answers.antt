use Rattle.std.proofs.Common.{◌<◌, ℕ, List, length, slice_index_or, ap, sym, ◌∙◌, subst}
use Rattle.std.proofs.lemmas.List.{length-map}
use Rattle.sift_buffer.specs.Journals.{Pages}
use Rattle.sift_buffer.specs.Lawful.{Lawful}
use Rattle.sift_buffer.specs.declared.grid.Grid.{Grid}
use Rattle.sift_ether.specs.declared.seat.Token.{Token}
use Rattle.sift_ether.specs.Landed.{IsJournalFrom}
use Rattle.sift_ether.specs.Rule.{TellConduct}
use Rattle.sift_ether.specs.TableSeats.{ranges_at}
use Rattle.sift_ether.proofs.Landing.{landed_lawful, journal_from}
use Rattle.sift_ether.proofs.Lists.{each_mapped}
use Rattle.sift_ether.proofs.ether.Ether.land.Goals as goal

pub returns : goal.returns
returns c =
    let x = c.args.self in let e = c.join_all-head.ensures in let part = c.close.ensures in let ts = c.args.tokens.items in
    let own : (u : ℕ) (d : Token) → u < length ts → IsJournalFrom ts x.grid.layout x.grid.frames u (slice_index_or ts u d).acts.pages =
    λ u d low. let there : u < x.grid.layout.units = rw (← c.requires.count) low in
    journal_from _ _ _ ts u d low (c.requires.of u d there) (c.requires.unit u d there) e.told in record {
      words = part.core.words;
      lawful = landed_lawful (ranges_at x.grid) part.core ts
          (subst (λ (grid : Grid). Lawful (ranges_at grid) part.core) x.key part.lawful)
          (subst (λ m. TellConduct part.core.of m.0) e.head part.tell)
          c.requires.count c.requires.unit;
      count = ap length e.journals ∙ (length-map ts (λ (t : Token). t.acts.pages) ∙ c.requires.count);
      each = λ u d low. subst (λ (js : List Pages). IsJournalFrom ts x.grid.layout x.grid.frames u (slice_index_or js u d)) (sym e.journals)
          (each_mapped (λ (t : Token). t.acts.pages) (IsJournalFrom ts x.grid.layout x.grid.frames) ts own u d (rw c.requires.count low));
    }
