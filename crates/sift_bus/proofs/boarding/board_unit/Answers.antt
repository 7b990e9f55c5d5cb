use Rattle.std.proofs.Common.{◌≡◌, ap, sym, ◌∙◌, subst}
use Rattle.sift_buffer.specs.Tables.{ranges_of}
use Rattle.sift_buffer.specs.Views.{fresh_view}
use Rattle.sift_mission.specs.Parts.{data_of}
use Rattle.sift_ether.specs.Seats.{view_of}
use Rattle.sift_ether.specs.Seating.{IsSeatOf}
use Rattle.sift_ether.specs.declared.seat.EtherSeat.{EtherSeat}
use Rattle.sift_bus_port.specs.Links.{first_link}
use Rattle.sift_bus_port.specs.Logs.{blank_log, log_of}
use Rattle.sift_bus.proofs.Seating.{new_drives}
use Rattle.sift_bus.proofs.boarding.board_unit.Goals as goal

pub returns : goal.returns
returns g c = let a = c.args in
    let view : view_of c.seat.result ≡ fresh_view (ranges_of a.mission.now.layout a.mission.now.frames) a.unit =
    c.seat.ensures.view ∙ (c.requires.token.view ∙ (λ i. fresh_view (ranges_of (c.requires.ether.layout_is i) (c.requires.ether.frames_are i)) a.unit)) in
    let log : log_of c.in_ok-log.log ≡ blank_log a.ether.now.grid.layout a.ether.now.grid.frames = c.in_ok-log.ensures
    ∙ ((λ i. blank_log (c.parts-parts.ensures.same i).layout (c.parts-parts.ensures.same i).frames)
    ∙ sym (λ i. blank_log (c.requires.ether.layout_is i) (c.requires.ether.frames_are i))) in
    record {
      drives = new_drives (data_of a.mission.now) a.unit c.in_ok-seat.seat.board (view_of c.over-port.result.port) c.parts-parts.ensures.fit
          c.new_boards_may_step.ensures c.requires.unit c.in_ok-seat.ensures.board (ap view_of c.over-port.ensures.port ∙ view);
      seat = subst (λ (s : EtherSeat). IsSeatOf a.ether.now a.token s) (sym c.over-port.ensures.port) c.seat.ensures;
      link = c.over-port.ensures.link ∙ (λ i. first_link (sym c.requires.token.unit i) a.faulty a.bus (log i));
    }
