use Rattle.sift_judge.proofs.ReportLines.{read_at}
use denote.Bor.{Bor}
use Rattle.sift_line.specs.declared.line.ReportLine.{ReportLine}
use Rattle.sift_mission.specs.declared.mission.MissionParts.{MissionParts}
use Rattle.std.specs.List.{slice_get}
use Rattle.std.proofs.Common.{◌≡◌, ◌∙◌, ◌+◌, ◌*◌, ap}
use Rattle.sift_judge.proofs.form.line_at.Goals as goal

pub returns : goal.returns
returns c =
    let f = c.args.f in
    let units : c.from-width.result ≡ c.args.mission.now.units = c.from-width.ensures ∙ ap (λ (p : MissionParts). p.units) c.parts.ensures.same in
    let place = ap (λ n. f * (n + 1) + c.from.result) units ∙ ap (λ i. f * (c.args.mission.now.units + 1) + i) c.from.ensures in
    read_at (λ (line : Bor ReportLine). line.now) c.get.result c.args.lines.now (f * (c.from-width.result + 1) + c.from.result) c.get.ensures.lookup.3
    ∙ ap (slice_get c.args.lines.now) place
