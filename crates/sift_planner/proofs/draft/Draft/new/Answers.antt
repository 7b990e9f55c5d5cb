use Rattle.std.proofs.Common.{◌≡◌, ◌∙◌, ℕ, length, map, ap, sym, arith}
use Rattle.std.proofs.lemmas.List.{get_or-replicate, length-map, length-replicate}
use Rattle.sift_table.specs.Schedule.{Schedule}
use Rattle.sift_planner.proofs.Used.{none_used}
use Rattle.sift_planner.proofs.draft.Draft.new.Goals as goal

-- no row uses a position
pub returns-clause-kept : goal.returns-clause-kept
returns-clause-kept c =
    let none : length c.new.result.items ≡ 0 = ap length c.new.ensures.items in
    let table : Schedule = record {
      size = c.args.size;
      period = c.args.period;
      run = c.new.result.items;
      poll = c.new-2.result.items;
      at = map (λ row. row.items) c.new-3.result.items;
      shed = c.new-4.result.items;
    } in record {
      enough_units = c.requires.enough_units;
      few_units = c.requires.few_units;
      long = c.requires.long;
      short = c.requires.short;
      some = omega (arith, c.min.ensures, c.requires.enough_copies, c.requires.enough_units);
      few = omega (arith, c.min.ensures);
      polls = ap length c.new-2.ensures.items ∙ sym none;
      positions = length-map c.new-3.result.items (λ row. row.items) ∙ ap length c.new-3.ensures.items ∙ sym none;
      used = record {
        each = length-replicate {A = ℕ} 64 0;
        within = λ e low. rw (get_or-replicate {A = ℕ} 64 e 0 0 low) (omega arith);
        first = λ e p low.
            rw (get_or-replicate {A = ℕ} 64 e 0 0 low)
            (none_used table (length c.new.result.items) e p none);
      };
    }
