use Rattle.std.proofs.Common.{◌≡◌, map}
use Rattle.std.specs.List.{range_with_len}
use Rattle.toml.specs.View.{view}
use Rattle.sift_base.specs.Draw.{after, draw_at}
use Rattle.sift_base.specs.Word.{word_count}
use Rattle.sift_gen.specs.Scenario.{number}
use Rattle.sift_gen.proofs.scenario.drawn_words.Given as goal

-- the words so far, and as many draws
abbrev pub invariant-loop : goal.invariant-loop
invariant-loop l = record {
  made : map view l.words.items ≡ map (λ i. number (draw_at l.fn.draw i word_count)) (range_with_len 0 l.counter);
  drawn : l.draw ≡ after l.fn.draw l.counter;
}
