use Rattle.std.proofs.Common.{inl, replicate, length, sym, refl, ap, ◌∙◌, arith}
use Rattle.sift_buffer.specs.Conduct.{never}
use Rattle.sift_buffer.specs.Ledgers.{Ledger}
use Rattle.std.proofs.lemmas.List.{length-replicate}
use Rattle.sift_buffer.proofs.NewLedgers.{ledger_fresh}
use Rattle.sift_buffer.proofs.Words.{words_fresh}
use Rattle.sift_buffer.proofs.acts.Acts.make.Goals as goal

pub returns : goal.returns
returns c = record {
  owner = c.in_ok-make.ensures.owner;
  conduct = ledger_fresh (record {
    pages = c.in_ok-make.field-0;
    progress = 0;
    left = never;
    seen = replicate 8 0;
    said = c.in_ok-vec.field-0.items;
    asked = c.in_ok-vec-2.field-0.items;
    heard_at = c.in_ok-vec-3.field-0.items;
  })
      _ _ 8 refl refl refl (c.in_ok-vec.ensures.items_if_clones_equal (λ y e. e)) (c.in_ok-vec-2.ensures.items_if_clones_equal (λ y e. e));
}

pub invariant_of-result : goal.invariant_of-result
invariant_of-result c =
    let l : Ledger = record {
      pages = c.in_ok-make.field-0;
      progress = 0;
      left = never;
      seen = replicate 8 0;
      said = c.in_ok-vec.field-0.items;
      asked = c.in_ok-vec-2.field-0.items;
      heard_at = c.in_ok-vec-3.field-0.items;
    } in record {
      layout_is = c.in_ok-make.ensures.owner.layout_is ∙ sym c.of-grid.ensures.layout;
      frames_are = c.in_ok-make.ensures.owner.frames_are ∙ sym c.of-grid.ensures.frames;
      said = ap length (c.in_ok-vec.ensures.items_if_clones_equal (λ y e. e)) ∙ (length-replicate _ _ ∙ c.len.ensures);
      asked = ap length (c.in_ok-vec-2.ensures.items_if_clones_equal (λ y e. e)) ∙ (length-replicate _ _ ∙ c.len-2.ensures);
      heard_at = ap length (c.in_ok-vec-3.ensures.items_if_clones_equal (λ y e. e)) ∙ (length-replicate _ _ ∙ c.len-3.ensures);
      seen = refl;
      stage = inl (refl, omega arith);
      words = words_fresh l _ _ _ c.in_ok-make.ensures (ledger_fresh l _ _ 8 refl refl refl (c.in_ok-vec.ensures.items_if_clones_equal (λ y e. e))
          (c.in_ok-vec-2.ensures.items_if_clones_equal (λ y e. e)));
    }
