use Rattle.std.proofs.Common.{◌-◌, ◌++◌, ◌∙◌, ap, string_bytes}
use Rattle.sift_mission.specs.Parts.{flown_of}
use Rattle.sift_flight.specs.Figures.{margin_at}
use Rattle.sift_flight.specs.Told.{told}
use Rattle.sift_line.specs.Line.{printed}
use Rattle.sift_report.proofs.report.push_end.Goals as goal

pub last_line-requires-clause-margin : goal.last_line-requires-clause-margin
last_line-requires-clause-margin c =
    let m = flown_of c.args.mission.now in
    c.margin_at-margin.ensures.told ∙ ap (λ parts. margin_at m (told m c.args.flight.now) (parts.frames - 1)) c.parts.ensures.same

pub returns : goal.returns
returns c = c.in_ok-push_line.ensures ∙ ap (λ line. string_bytes c.args.text.now ++ printed line) c.last_line.ensures
