use Rattle.std.proofs.Common.{◌≡◌, ◌∙◌, ◌&&◌, ap, map, nat_eq, length, List}
use Rattle.std.specs.List.{filter}
use Rattle.std.specs.Prelude.{ℕ, Option, if◌then◌else◌, slice_index, slice_set, unwrap_or}
use Rattle.sift_vote.specs.Majority.{majority_of, differs, has_differing}
use Rattle.sift_base.specs.Units.{has}
use Rattle.sift_mission.specs.Parts.{flown_of}
use Rattle.sift_unit_frame.specs.FrameWords.{FrameWords, with_voted}
use Rattle.sift_mission.specs.Slots.{executors, is_held}
use Rattle.sift_unit_frame.specs.Memory.{polled_at, poll_of, voted_at}
use Rattle.sift_unit_frame.specs.Memories.{memory_of}
use Rattle.sift_unit_frame.proofs.Memories.{differing_among, is_gathered, majority_is}
use Rattle.sift_unit_frame.proofs.Polls.{empty_poll}
use Rattle.sift_unit_frame.proofs.memory.Memory.note_poll.Goals as goal

pub returns-clause-noted : goal.returns-clause-noted
returns-clause-noted c =
    let m = flown_of c.args.mission.now in
    let b = memory_of c.args.self.now in
    let us = c.args.config.now in
    let u = c.args.unit in
    let w = c.args.word in
    let heard = c.args.places.now in
    let last = c.args.self.now.words.before in
    let listed : c.members_in-executors.result.items ≡ executors m us w
    = c.members_in-executors.ensures ∙ (λ i. filter (λ v. c.executors.ensures v i) us) in
    let polled : c.ballots-ballots.result.items ≡ poll_of m us u b heard w
    = c.ballots-ballots.ensures ∙ ap (map (polled_at u b heard w)) (c.deref.ensures.0 ∙ listed) in
    let ballots : c.deref-2.result.now ≡ poll_of m us u b heard w = c.deref-2.ensures.0 ∙ polled in
    let vote : c.majority-vote.result ≡ majority_of (poll_of m us u b heard w)
    = majority_is c.deref-2.result.now c.majority-vote.result c.majority-vote.ensures.found c.majority-vote.ensures.none ∙ ap majority_of ballots in
    let again : c.deref-3.result.now ≡ poll_of m us u b heard w = c.deref-3.ensures.0 ∙ polled in
    let empty : nat_eq (length c.deref-3.result.now) 0 ≡ is_held m us w
    = ap (λ (ws : List (Option ℕ)). nat_eq (length ws) 0) again ∙ empty_poll m us u b heard w c.requires.fits c.requires.word.config c.requires.word.word in
    let word : c.voted-voted.result ≡ voted_at m us u last b heard w
    = c.voted-voted.ensures ∙ (λ i. if empty i then slice_index last w else unwrap_or (vote i) 0) in
    let words : c.vote.new.self ≡ with_voted c.args.self.now.words w (voted_at m us u last b heard w) = c.vote.ensures ∙ ap (λ x. with_voted c.args.self.now.words w x) word in
    let units : c.deref-4.result.now ≡ executors m us w = c.deref-4.ensures.0 ∙ listed in
    let places : c.deref-5.result.now ≡ poll_of m us u b heard w = c.deref-5.ensures.0 ∙ polled in
    let wrong = is_gathered c.differing-wrong.result (λ v. m.executes us w v && differs (polled_at u b heard w v) (majority_of (poll_of m us u b heard w))) us
    (λ v. c.differing-wrong.ensures v ∙ (λ i. has_differing (units i) (places i) (vote i) v)
    ∙ differing_among (m.executes us w) us (polled_at u b heard w) (majority_of (poll_of m us u b heard w)) v) in
    let at = c.from.ensures in
    λ f clk i. record b { ins = (words i).agreed; made = (words i).made; outs = (words i).voted; poll = slice_set b.poll (at i) (wrong i) }

-- the words before stay
pub returns-clause-before : goal.returns-clause-before
returns-clause-before c = ap (λ (w : FrameWords). w.before) c.vote.ensures
