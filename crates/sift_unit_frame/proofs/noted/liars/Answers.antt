use Rattle.std.proofs.Common.{◌≡◌, ◌&&◌, not, nat_eq, length, map, ap, ◌∙◌, arith}
use Rattle.std.specs.Prelude.{Some}
use Rattle.std.proofs.lemmas.List.{length-map}
use Rattle.sift_base.specs.Units.{holds, others}
use Rattle.sift_base.specs.laws.Counts.{filter_same}
use Rattle.sift_base.specs.laws.ReadBack.{true_last}
use Rattle.sift_base.specs.laws.Sets.{holds-remove}
use Rattle.sift_vote.specs.Majority.{has_differing}
use Rattle.sift_unit_frame.specs.Memory.{place_at}
use Rattle.sift_unit_frame.proofs.Memories.{differing_among}
use Rattle.sift_unit_frame.proofs.noted.liars.Goals as goal

-- each of the others has its place beside it
pub relay_catches-requires : goal.relay_catches-requires
relay_catches-requires c =
    omega (
      arith,
      ap length c.deref.ensures.0,
      ap length c.deref-2.ensures.0,
      ap length c.deref-3.ensures.0,
      ap length c.places_of.ensures,
      length-map c.deref-2.result.now (place_at c.args.places.now),
    )

pub returns : goal.returns
returns c = λ v.
    let us = c.args.config.now in
    let u = c.args.unit in
    let heard = c.args.places.now in
    let others_are : c.members_in-others.result.items ≡ others u us
    = c.members_in-others.ensures ∙ filter_same (holds c.without.result) (λ v. not (nat_eq v u)) us (λ v there.
    ap (λ units. holds units v) c.without.ensures ∙ holds-remove c.units.result u v
    ∙ ap (λ b. not (nat_eq v u) && b) (c.units.ensures.set v ∙ there) ∙ true_last (not (nat_eq v u))) in
    let units : c.deref.result.now ≡ others u us = c.deref.ensures.0 ∙ others_are in
    let relays : c.deref-3.result.now ≡ map (place_at heard) (others u us)
    = c.deref-3.ensures.0 ∙ c.places_of.ensures ∙ ap (map (place_at heard)) (c.deref-2.ensures.0 ∙ others_are) in
    c.relay_catches.ensures v ∙ (λ i. has_differing (units i) (relays i) (Some c.args.own) v)
    ∙ differing_among (λ v. not (nat_eq v u)) us (place_at heard) (Some c.args.own) v
