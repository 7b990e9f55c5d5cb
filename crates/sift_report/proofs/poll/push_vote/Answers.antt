use Rattle.std.proofs.Common.{◌++◌, ◌∙◌, ap, arith, map, get_or, string_bytes}
use Rattle.sift_mission.specs.Parts.{data_of, flown_of}
use Rattle.sift_flight.specs.Told.{told}
use Rattle.sift_vote.specs.Majority.{majority_of}
use Rattle.sift_report.specs.Poll.{polled_text}
use Rattle.sift_report.specs.declared.poll.Poll.{Poll}
use Rattle.sift_report.proofs.Polls.{name_is, vote_ends, word_low}
use Rattle.sift_report.proofs.poll.push_vote.Goals as goal

pub polls_of-polls-requires-clause-word : goal.polls_of-polls-requires-clause-word
polls_of-polls-requires-clause-word c =
    let d = data_of c.args.mission.now in
    let low = word_low d.program.tasks c.args.output.t c.args.output.j c.requires.output.task c.requires.output.low in
    omega (arith, low, c.requires.output.number, c.parts.ensures.fit.layout.words)

pub returns : goal.returns
returns c =
    let d = data_of c.args.mission.now in
    let at = c.index.ensures ∙ ap (λ parts. get_or parts.names.items c.args.output.t c.index.result.now) c.parts.ensures.same in
    let name = c.as_str-name.ensures.value ∙ name_is c.args.mission.now c.parts.ensures.fit c.args.output.t c.index.result.now c.requires.output.task at in
    vote_ends d (told (flown_of c.args.mission.now) c.args.flight.now) c.args.f c.args.u c.args.output.t c.args.output.j
    c.args.output.word _ c.polls_of-polls.result.items c.vote_of-vote.result _ _ _ _ _ _
    name c.requires.output.number c.polls_of-polls.ensures
    (c.vote_of-vote.ensures ∙ ap (λ ps. majority_of (map (λ (poll : Poll). poll.word) ps)) c.deref.ensures.0)
    c.in_ok-push_head.ensures c.in_ok-push_output.ensures
    (c.in_ok-push_list.ensures ∙ ap (λ ps. string_bytes c.push_output.new.text ++ polled_text ps) c.deref-2.ensures.0)
    c.in_ok-push_result.ensures c.in_ok-push_str.ensures.bytes
