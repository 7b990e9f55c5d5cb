use Rattle.std.proofs.Common.{◌≡◌, ◌∷◌, ◌∙◌, ap, map}
use Rattle.std.specs.Prelude.{slice_set}
use Rattle.sift_base.specs.Units.{others}
use Rattle.sift_vote.specs.Majority.{agreed_of}
use Rattle.sift_unit_frame.specs.Memory.{place_at}
use Rattle.sift_unit_frame.specs.Memories.{memory_of}
use Rattle.sift_unit_frame.proofs.InTurn.{others_both}
use Rattle.sift_unit_frame.proofs.memory.Memory.note_report.Goals as goal

pub returns-clause-noted : goal.returns-clause-noted
returns-clause-noted c =
    let b = memory_of c.args.self.now in
    let us = c.args.config.now in
    let of = c.args.of in
    let relays : c.deref.result.now ≡ map (place_at c.args.places.now) (others c.args.unit (others of us))
    = c.deref.ensures.0 ∙ c.relays_of-relays.ensures ∙ ap (λ vs. map (place_at c.args.places.now) vs) (others_both of c.args.unit us) in
    let direct : c.place_of.result ≡ place_at b.reports of = c.place_of.ensures in
    let word = c.agree.ensures.exact ∙ (λ i. agreed_of (direct i ∷ relays i)) in
    let at = c.from.ensures ∙ c.get.ensures.number in
    λ m f clk last i. record b { agreed = slice_set b.agreed (at i) (word i) }
