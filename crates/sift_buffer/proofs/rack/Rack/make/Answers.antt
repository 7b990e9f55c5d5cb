use Rattle.std.proofs.Common.{◌≡◌, [], ◌∙◌, sym}
use Rattle.sift_buffer.specs.Ranges.{shared_words}
use Rattle.sift_buffer.specs.Core.{fresh_core}
use Rattle.sift_buffer.specs.Crews.{core_by}
use Rattle.sift_buffer.specs.Tables.{ranges_of}
use Rattle.sift_buffer.proofs.NewLedgers.{zeros}
use Rattle.sift_buffer.proofs.NewRacks.{core_fresh}
use Rattle.sift_buffer.proofs.rack.Rack.make.Goals as goal

pub returns : goal.returns
returns c =
    let wide : shared_words (ranges_of c.of-grid.result.layout c.of-grid.result.frames) ≡ shared_words (ranges_of c.args.layout c.args.frames) =
    λ i. shared_words (ranges_of (c.of-grid.ensures.layout i) (c.of-grid.ensures.frames i)) in
    let core : core_by c.in_ok-words.words.items c.in_ok-acts.acts.items (λ _. []) ≡ fresh_core (ranges_of c.args.layout c.args.frames) =
    core_fresh c.in_ok-words.words.items c.in_ok-acts.acts.items c.args.layout c.args.frames _
    (c.in_ok-words.ensures.items_if_clones_equal (λ y e. e)) (c.shared_words.ensures ∙ wide) c.in_ok-acts.ensures in record {
      layout_is = c.of-grid.ensures.layout;
      frames_are = c.of-grid.ensures.frames;
      core = core;
      unit = let e = c.default.ensures in sym e.1 ∙ e.2;
      new = λ u i. record {
        ranges = ranges_of (c.of-grid.ensures.layout i) (c.of-grid.ensures.frames i);
        unit = u;
        conduct = (core i).of u;
        looks = zeros 8 u i;
        last = record { unit = zeros 8 u i; number = zeros 8 u i };
      };
    }
