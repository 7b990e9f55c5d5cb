use Rattle.std.proofs.Common.{◌≡◌, ◌∙◌, length, ap, refl, subst, sym}
use Rattle.sift_mission.specs.Parts.{data_of}
use Rattle.sift_mission.specs.declared.mission.MissionParts.{MissionParts}
use Rattle.sift_program.specs.Program.{program_of, IsSoundProgram}
use Rattle.sift_report.specs.Told.{agreed_told, shed_told}
use Rattle.sift_judge.proofs.Margins.{agreed_length}
use Rattle.sift_judge.proofs.judging.run_ideal.Goals as goal

-- the agreed words of a frame with margin are as many as there are sensors
pub frame-requires-clause-sound : goal.frame-requires-clause-sound
frame-requires-clause-sound c =
    let d = data_of c.args.mission.now in
    let fit = c.parts.ensures.fit in
    let count : length c.agreed_told.result.now ≡ d.layout.sensors =
    ap length c.agreed_told.ensures ∙ agreed_length d c.args.lines.now c.args.f fit c.requires.known.frame c.requires.known.form
    (c.requires.known.margin_is.0 refl) in
    subst (λ (p : MissionParts). IsSoundProgram (length c.agreed_told.result.now) (program_of p.program)) (sym c.parts.ensures.same)
    (subst (λ n. IsSoundProgram n d.program) (sym count) fit.program)

-- they and the shed tasks are those told of this frame
pub returns-clause-words : goal.returns-clause-words
returns-clause-words c =
    let d = data_of c.args.mission.now in
    let lines = c.args.lines.now in
    (rw c.parts.ensures.same at c.frame.ensures.in_turn) (agreed_told d lines) (shed_told d lines) c.args.f
    (c.requires.known.runs.words_are refl) c.agreed_told.ensures c.shed_told.ensures
