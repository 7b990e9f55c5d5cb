use Rattle.std.proofs.Common.{◌∙◌, ap}
use Rattle.sift_buffer.specs.Conduct.{stray_to}
use Rattle.sift_buffer.specs.Racks.{view_at}
use Rattle.sift_buffer.specs.declared.rack.Rack.{Rack}
use Rattle.sift_buffer.proofs.lemmas.StoredStrays.{same_view, stray_reaches}
use Rattle.sift_buffer.proofs.rack_port.RackPort.stray.Goals as goal

pub returns-clause-rest : goal.returns-clause-rest
returns-clause-rest c =
    let x : Rack = c.args.self.now in let a = c.args in let b : Rack = c.store.new.self in
    ap (view_at b) c.store.ensures.unit ∙ same_view x x.unit (stray_to a.to a.slot a.cell) b c.store.ensures x.unit

pub returns-clause-follows : goal.returns-clause-follows
returns-clause-follows c =
    let x : Rack = c.args.self.now in let a = c.args in let b : Rack = c.store.new.self in record {
      layout = c.store.ensures.layout;
      frames = c.store.ensures.frames;
      unit = c.store.ensures.unit;
      reaches = stray_reaches x x.unit (stray_to a.to a.slot a.cell) b c.store.ensures x.here c.requires.turned c.requires.cell;
      others = λ p ne. same_view x x.unit (stray_to a.to a.slot a.cell) b c.store.ensures p;
    }
