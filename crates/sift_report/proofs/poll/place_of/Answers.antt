use Rattle.std.proofs.Common.{◌≡◌, ◌∙◌, get_or, sym, ap}
use Rattle.std.proofs.lemmas.Bool.{eqb-true, eqb-false}
use Rattle.std.specs.Prelude.{slice_index}
use Rattle.sift_base.specs.Layout.{slot_number}
use Rattle.sift_base.specs.declared.slots.Slot.TheVariants.{Out}
use Rattle.sift_base.specs.Units.{others}
use Rattle.sift_buffer.specs.Journals.{heard_in, said_in}
use Rattle.sift_mission.specs.Parts.{flown_of}
use Rattle.sift_flight.specs.Told.{told}
use Rattle.sift_report.proofs.Heard.{journal-heard, journal-place, journal-said, place-other, place-own}
use Rattle.sift_report.proofs.poll.place_of.Goals as goal

pub said-requires : goal.said-requires
said-requires c =
    let at = c.index-journal.ensures ∙ ap (λ i. get_or c.args.flight.now.journals.items i c.index-journal.result.now) (c.from.ensures ∙ c.get.ensures.number) in
    let slot : c.number-slot.result ≡ slot_number c.args.mission.now.layout (Out c.args.word) =
    c.number-slot.ensures.number ∙ ap (λ parts. slot_number parts.layout (Out c.args.word)) c.parts.ensures.same in
    let there = c.account_at.ensures.account.config.inside c.lowest_other.result c.lowest_other.ensures.there in
    rw slot (journal-place c.args.mission.now c.parts.ensures.fit c.args.flight.now c.requires.tells.whole c.args.u c.requires.tells.unit c.index-journal.result.now at
    c.args.word c.args.f c.lowest_other.result c.requires.word c.requires.tells.frame there c.lowest_other.ensures.other)

pub heard-requires : goal.heard-requires
heard-requires c =
    let at = c.index-journal.ensures ∙ ap (λ i. get_or c.args.flight.now.journals.items i c.index-journal.result.now) (c.from.ensures ∙ c.get.ensures.number) in
    let slot : c.number-slot.result ≡ slot_number c.args.mission.now.layout (Out c.args.word) =
    c.number-slot.ensures.number ∙ ap (λ parts. slot_number parts.layout (Out c.args.word)) c.parts.ensures.same in
    rw slot (journal-place c.args.mission.now c.parts.ensures.fit c.args.flight.now c.requires.tells.whole c.args.u c.requires.tells.unit c.index-journal.result.now at
    c.args.word c.args.f c.args.from c.requires.word c.requires.tells.frame c.requires.from (eqb-false c.args.from c.args.u (sym c.eq.ensures ∙ c.if-eq.false)))

pub returns-then-eq : goal.returns-then-eq
returns-then-eq c =
    let m = flown_of c.args.mission.now in
    let fl = told m c.args.flight.now in
    let at = c.index-journal.ensures ∙ ap (λ i. get_or c.args.flight.now.journals.items i c.index-journal.result.now) (c.from.ensures ∙ c.get.ensures.number) in
    let slot : c.number-slot.result ≡ slot_number c.args.mission.now.layout (Out c.args.word) =
    c.number-slot.ensures.number ∙ ap (λ parts. slot_number parts.layout (Out c.args.word)) c.parts.ensures.same in
    let lowest = c.lowest_other.ensures.lowest ∙ ap (λ a. slice_index (others c.args.u a.cfg) 0) c.account_at.ensures.told in
    c.said.ensures ∙ ap (λ k. said_in c.index-journal.result.now c.args.f k c.lowest_other.result) slot
    ∙ journal-said c.args.mission.now c.parts.ensures.fit c.args.flight.now c.requires.tells.whole c.args.u c.requires.tells.unit c.index-journal.result.now at
    c.args.word c.args.f c.lowest_other.result c.requires.word
    ∙ ap (λ q. fl.said c.args.u c.args.f (Out c.args.word) q) lowest
    ∙ sym (place-own fl c.args.f c.args.u c.args.word c.args.from (eqb-true c.args.from c.args.u (sym c.eq.ensures ∙ c.if-eq.true)))

pub returns-else-eq : goal.returns-else-eq
returns-else-eq c =
    let m = flown_of c.args.mission.now in
    let fl = told m c.args.flight.now in
    let at = c.index-journal.ensures ∙ ap (λ i. get_or c.args.flight.now.journals.items i c.index-journal.result.now) (c.from.ensures ∙ c.get.ensures.number) in
    let slot : c.number-slot.result ≡ slot_number c.args.mission.now.layout (Out c.args.word) =
    c.number-slot.ensures.number ∙ ap (λ parts. slot_number parts.layout (Out c.args.word)) c.parts.ensures.same in
    c.heard.ensures ∙ ap (λ k. heard_in c.index-journal.result.now c.args.f k c.args.from) slot
    ∙ journal-heard c.args.mission.now c.parts.ensures.fit c.args.flight.now c.requires.tells.whole c.args.u c.requires.tells.unit c.index-journal.result.now at
    c.args.word c.args.f c.args.from c.requires.word
    ∙ sym (place-other fl c.args.f c.args.u c.args.word c.args.from (eqb-false c.args.from c.args.u (sym c.eq.ensures ∙ c.if-eq.false)))
