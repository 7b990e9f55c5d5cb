use Rattle.std.proofs.Common.{◌∙◌, ap, not, nat_eq, ◌&&◌, slice_index_or}
use Rattle.sift_base.specs.Units.{has, holds}
use Rattle.sift_mission.specs.Crews.{sends}
use Rattle.sift_mission.specs.Parts.{flown_of}
use Rattle.sift_mission.proofs.Sayers.{calls_from}
use Rattle.sift_mission.proofs.mission.Mission.called.Goals as goal

-- who says the slot says it to the others that hear it
pub returns : goal.returns
returns c = λ q.
    let m = flown_of c.args.self.now in
    let us = c.args.config.now in
    let k = m.kind c.args.i in
    let from = c.args.from in
    let rows = c.crews_for.result.now.roles in
    let row = slice_index_or rows c.args.i c.index-crews_for-i.result in
    let roles = c.crews_for.ensures.crews.roles c.args.i c.index-crews_for-i.result c.requires.slot in
    c.partners.ensures q
    ∙ ap (λ t. t && (not (nat_eq q from) && holds row.receivers q)) (roles.senders from)
    ∙ ap (λ t. (has us from && sends m us k from) && (not (nat_eq q from) && t)) (roles.receivers q)
    ∙ calls_from m us k from q (c.a_mission_fits.ensures.fits.numbered.slot c.args.i c.requires.slot)
