-- What holds of rows holds of those of commands that stand for theirs.
use Rattle.std.proofs.Common.{◌≡◌, ap, sym, ◌∙◌}
use Rattle.sift_row.specs.Laws.{AreKept}
use Rattle.sift_row.specs.Rows.{Rows, standing_for}

module _ {Inner Command : Type 0} (inside : Command → Inner) (made : Inner → Command) (rows : Rows Inner)
    (whole : (command : Command) → made (inside command) ≡ command) (alone : (inner : Inner) → inside (made inner) ≡ inner) where
  -- commands that stand for one are one
  same : (one other : Command) → inside one ≡ inside other → one ≡ other
  same one other is = sym (whole one) ∙ (ap made is ∙ whole other)

  -- and those of which one is made are one
  inner : (one other : Inner) → made one ≡ made other → one ≡ other
  inner one other is = sym (alone one) ∙ (ap inside is ∙ alone other)

  pub kept : AreKept rows → AreKept (standing_for inside made rows)
  kept are = record {
    asks = λ differ words one other a b. same one other (are.asks differ words (inside one) (inside other) a b);
    named = λ words command. are.named words (inside command);
    own = λ command. are.own (inside command);
    listed = λ command. are.listed (inside command);
    limited = λ command. are.limited (inside command);
    one = λ command. are.one (inside command);
    workers = λ one other bytes came there alike. are.workers (inside one) (inside other) bytes came there
        (inner (rows.by_one (inside one)) (rows.by_one (inside other)) alike);
    loaded = λ command. are.loaded (inside command);
    done = λ command mission reply does. are.done (inside command) mission reply (record { reads = does.reads; well = does.well });
  }
