use Rattle.std.proofs.Common.{[], ◌∷◌, refl, ap, ◌∙◌}
use Rattle.sift_buffer.specs.Conduct.{hearing}
use Rattle.sift_bus_port.specs.Buses.{carriage}
use Rattle.sift_bus_port.specs.Links.{link_of}
use Rattle.sift_bus_port.specs.Logs.{log_of, log_with}
use Rattle.sift_bus_port.proofs.carrying.BusPortPort.hear.Goals as goal

-- one word was heard
pub returns-clause-follows : goal.returns-clause-follows
returns-clause-follows g c = let a = c.args in (
  c.hear-heard.ensures.follows,
  record {
    words = carriage a.f a.from a.self.now.unit a.slot c.hear-heard.result c.carry-carried.result ∷ [];
    carried = (
      link_of g.T.Look.view a.self.now,
      refl,
      record {
        to = refl;
        new = c.requires.frame;
        allowed = c.carry-carried.ensures;
        act = hearing a.stamp (g.T.Look.view a.self.now.port).conduct.progress c.hear-heard.result;
        word = refl;
        after = λ i. record {
          unit = a.self.now.unit;
          faulty = a.self.now.faulty;
          bus = c.carry-carried.new.self;
          log = (c.note.ensures ∙ ap (log_with (log_of a.self.now.log) a.f a.slot a.from c.carry-carried.result) (λ j bus. c.vote_of_three.ensures.wrong bus j)) i;
          heard = (c.hear-heard.ensures.heard i).conduct.heard;
        };
      },
    );
  },
)
