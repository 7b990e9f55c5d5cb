use Rattle.std.proofs.Common.{◌∙◌, sym, arith}
use Rattle.std.proofs.lemmas.Grind.{common_steps}
use Rattle.sift_mission.specs.Parts.{flown_of}
use Rattle.sift_unit.specs.Boards.{desk_of}
use Rattle.sift_unit.proofs.Quiet.{call_says, call_hears}
use Rattle.sift_unit.proofs.Driving.{early_at, once_drives, flies_here, in_flight, walks_here}
use Rattle.sift_unit.proofs.Continuing.{moves_from, steps_from}
use Rattle.sift_unit.proofs.Marks.{apart_by, met_by, not_never}
use Rattle.sift_unit.proofs.board.Board.step.Goals as goal
use Rattle.sift_unit.proofs.board.Board.step.Goals.{then-not-self, else-not-self}

-- before its storm it may walk, in a frame of the flight
pub find_call-requires-clause-walks : goal.find_call-requires-clause-walks
find_call-requires-clause-walks g c =
    walks_here (flown_of c.args.mission.now) c.args.self.now (g.T.Look.view c.args.port.now) c.requires
    (apart_by c.args.self.now.storm c.args.self.now.frame (sym c.eq.ensures ∙ c.if-eq.false))

pub find_call-requires-clause-frame : goal.find_call-requires-clause-frame
find_call-requires-clause-frame g c =
    let walks = walks_here (flown_of c.args.mission.now) c.args.self.now (g.T.Look.view c.args.port.now) c.requires
    (apart_by c.args.self.now.storm c.args.self.now.frame (sym c.eq.ensures ∙ c.if-eq.false)) in
    let most = walks.range.frame in let more = c.if-self-frames.false in let is = c.frames.ensures in omega arith

-- where it found its call, it is in flight
pub enter-requires-clause-flight : goal.enter-requires-clause-flight
enter-requires-clause-flight g c =
    in_flight (flown_of c.args.mission.now) c.args.self.now (g.T.Look.view c.args.port.now) c.requires
    (apart_by c.args.self.now.storm c.args.self.now.frame (sym c.eq.ensures ∙ c.if-eq.false)) (λ end. c.if-self-frames.false (end ∙ sym c.frames.ensures))
    c.find_call.new.self c.find_call.ensures.passes
    (record { unit = c.find_call.ensures.same.unit; frames = c.find_call.ensures.same.frames; storm = c.find_call.ensures.same.storm; turned = c.find_call.ensures.same.turned })

pub say-requires-clause-flight : goal.say-requires-clause-flight
say-requires-clause-flight g c =
    in_flight (flown_of c.args.mission.now) c.args.self.now (g.T.Look.view c.args.port.now) c.requires
    (apart_by c.args.self.now.storm c.args.self.now.frame (sym c.eq.ensures ∙ c.if-eq.false)) (λ end. c.if-self-frames.false (end ∙ sym c.frames.ensures))
    c.find_call.new.self c.find_call.ensures.passes
    (record { unit = c.find_call.ensures.same.unit; frames = c.find_call.ensures.same.frames; storm = c.find_call.ensures.same.storm; turned = c.find_call.ensures.same.turned })

pub hear-requires-clause-flight : goal.hear-requires-clause-flight
hear-requires-clause-flight g c =
    in_flight (flown_of c.args.mission.now) c.args.self.now (g.T.Look.view c.args.port.now) c.requires
    (apart_by c.args.self.now.storm c.args.self.now.frame (sym c.eq.ensures ∙ c.if-eq.false)) (λ end. c.if-self-frames.false (end ∙ sym c.frames.ensures))
    c.find_call.new.self c.find_call.ensures.passes
    (record { unit = c.find_call.ensures.same.unit; frames = c.find_call.ensures.same.frames; storm = c.find_call.ensures.same.storm; turned = c.find_call.ensures.same.turned })

-- there it says, or else hears
pub say-requires-clause-here : goal.say-requires-clause-here
say-requires-clause-here g c =
    let b = desk_of c.find_call.new.self in
    call_says (flown_of c.args.mission.now) b (c.find_call.ensures.found (sym c.is_end.ensures ∙ c.if-is_end.false)) (sym c.says.ensures ∙ c.if-says.true)

pub hear-requires-clause-here : goal.hear-requires-clause-here
hear-requires-clause-here g c =
    let b = desk_of c.find_call.new.self in
    call_hears (flown_of c.args.mission.now) b (c.find_call.ensures.found (sym c.is_end.ensures ∙ c.if-is_end.false)) (sym c.says.ensures ∙ c.if-says.false)

-- what it came to from there is what it came to from where it stood
pub returns-then-is_end-clause-steps : goal.returns-then-is_end-clause-steps
returns-then-is_end-clause-steps g c =
    let early = early_at (flown_of c.args.mission.now) c.args.self.now (g.T.Look.view c.args.port.now) c.requires
    (apart_by c.args.self.now.storm c.args.self.now.frame (sym c.eq.ensures ∙ c.if-eq.false)) in
    let going = (flies_here (flown_of c.args.mission.now) c.args.self.now (g.T.Look.view c.args.port.now) c.requires early).going in
    steps_from _ (desk_of c.args.self.now) (desk_of c.find_call.new.self) (desk_of c.enter.new.self) (g.T.Look.view c.args.port.now) (g.T.Look.view c.enter.new.port)
    c.find_call.ensures.passes c.find_call.ensures.nearer c.enter.result (g.T.Look.stands c.enter.new.port)
    (let same = c.find_call.ensures.passes.frame in let most = going.range.frame in let more = c.if-self-frames.false in let is = c.frames.ensures in omega arith)
    (not_never (flown_of c.args.mission.now) c.requires.fits (desk_of c.args.self.now) (g.T.Look.view c.args.port.now).conduct going) c.enter.ensures.steps

pub returns-then-says-clause-steps : goal.returns-then-says-clause-steps
returns-then-says-clause-steps g c =
    moves_from _ (desk_of c.args.self.now) (desk_of c.find_call.new.self) (desk_of c.say.new.self) (g.T.Look.view c.args.port.now) (g.T.Look.view c.say.new.port)
    c.find_call.ensures.passes c.find_call.ensures.nearer c.say.ensures.moved

pub returns-clause-steps : goal.returns-clause-steps
returns-clause-steps g c =
    moves_from _ (desk_of c.args.self.now) (desk_of c.find_call.new.self) (desk_of c.hear.new.self) (g.T.Look.view c.args.port.now) (g.T.Look.view c.hear.new.port)
    c.find_call.ensures.passes c.find_call.ensures.nearer c.hear.ensures.moved

pub returns-then-eq-clause-steps : goal.returns-then-eq-clause-steps
returns-then-eq-clause-steps g c = grind (arith, common_steps)

-- from its storm on it has turned, or does so now
pub returns-then-eq-clause-drives : goal.returns-then-eq-clause-drives
returns-then-eq-clause-drives g c =
    let b = c.args.self.now in
    let v = g.T.Look.view c.args.port.now in
    let storm = met_by b.storm b.frame (sym c.eq.ensures ∙ c.if-eq.true) in
    let d = c.requires in
    elim c.if-not-self.branch [
      | then-not-self w ↦ let marked = w.turn_at_once.ensures.marked in
          rw (w.self-is, w.port-is) (once_drives (flown_of c.args.mission.now) b w.turn_at_once.new.self v (g.T.Look.view w.turn_at_once.new.port) d
          w.if-not-self.true storm (record { desk = marked.desk; frames = marked.frames; storm = marked.storm; turned = marked.turned }) w.turn_at_once.ensures.turned)
      | else-not-self w ↦ rw (w.self-is, w.port-is)
          (record { fits = d.fits; storms = d.storms; unit = d.unit; ranges = d.ranges; frames = d.frames; storm = d.storm; keeps = d.keeps })
    ]

-- where it has landed its port is as it was
pub returns-then-self-frames-clause-follows : goal.returns-then-self-frames-clause-follows
returns-then-self-frames-clause-follows g c = g.met.T.Look.follows_itself c.args.port.now
