use Rattle.std.proofs.Common.{◌≡◌, ◌*◌, map}
use Rattle.toml.specs.View.{view}
use Rattle.sift_base.specs.Draw.{after}
use Rattle.sift_gen.specs.Scenario.{sensor_tables, words_each}
use Rattle.sift_gen.proofs.scenario.sensor_tables.Given as goal

-- the tables so far, and as many draws as they have words
abbrev pub invariant-loop-k : goal.invariant-loop-k
invariant-loop-k l = record {
  made : map view l.tables.items ≡ sensor_tables l.k l.fn.draw;
  drawn : l.draw ≡ after l.fn.draw (words_each * l.k);
}
