use Rattle.std.proofs.Common.{◌∙◌, ap, not, nat_eq, ◌&&◌, slice_index_or}
use Rattle.sift_base.specs.Units.{has, holds}
use Rattle.sift_mission.specs.Crews.{receives}
use Rattle.sift_mission.specs.Parts.{flown_of}
use Rattle.sift_mission.proofs.Sayers.{calls_to}
use Rattle.sift_mission.proofs.mission.Mission.callers.Goals as goal

-- who hears the slot hears it from the others that say it
pub returns : goal.returns
returns c = λ p.
    let m = flown_of c.args.self.now in
    let us = c.args.config.now in
    let k = m.kind c.args.i in
    let to = c.args.to in
    let rows = c.crews_for.result.now.roles in
    let row = slice_index_or rows c.args.i c.index-crews_for-i.result in
    let roles = c.crews_for.ensures.crews.roles c.args.i c.index-crews_for-i.result c.requires.slot in
    c.partners.ensures p
    ∙ ap (λ t. t && (not (nat_eq p to) && holds row.senders p)) (roles.receivers to)
    ∙ ap (λ t. (has us to && receives k to) && (not (nat_eq p to) && t)) (roles.senders p)
    ∙ calls_to m us k p to (c.a_mission_fits.ensures.fits.numbered.slot c.args.i c.requires.slot)
