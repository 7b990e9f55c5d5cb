use Rattle.std.proofs.Common.{◌≡◌, ◌∷◌, ◌∙◌, ◌&&◌, ap, map, not, nat_eq, true, false, sym, refl}
use Rattle.std.specs.Prelude.{slice_set, Some}
use Rattle.sift_base.specs.Units.{others}
use Rattle.sift_vote.specs.Majority.{agreed_of, differs}
use Rattle.sift_config.specs.Config.{reader_of}
use Rattle.sift_mission.specs.Parts.{flown_of}
use Rattle.sift_unit_frame.specs.FrameWords.{FrameWords, with_agreed}
use Rattle.sift_unit_frame.specs.Memory.{place_at, input_at}
use Rattle.sift_unit_frame.specs.Memories.{memory_of}
use Rattle.sift_unit_frame.proofs.InTurn.{others_both}
use Rattle.sift_unit_frame.proofs.Memories.{is_gathered, nobody_else}
use Rattle.sift_unit_frame.proofs.memory.Memory.note_relays.Goals as goal

-- the reader's own word, and who relayed another
pub returns-then-eq-clause-noted : goal.returns-then-eq-clause-noted
returns-then-eq-clause-noted c =
    let m = flown_of c.args.mission.now in
    let b = memory_of c.args.self.now in
    let us = c.args.config.now in
    let u = c.args.unit in
    let x = c.args.sensor in
    let f = c.args.frame in
    let heard = c.args.places.now in
    let own : nat_eq (reader_of us x) u ≡ true = ap (λ r. nat_eq r u) (sym c.reader_of-reader.ensures) ∙ sym c.eq.ensures ∙ c.if-eq.true in
    let word : c.sensed-own.result ≡ input_at m us u f b heard x = c.sensed-own.ensures ∙ rw own refl in
    let liars = is_gathered c.liars.result (λ v. not (nat_eq v u) && (nat_eq (reader_of us x) u && differs (place_at heard v) (Some (m.sensed x f)))) us
    (λ v. c.liars.ensures v ∙ rw (own, c.sensed-own.ensures) refl) in
    let words : c.agree.new.self ≡ with_agreed c.args.self.now.words x (input_at m us u f b heard x) = c.agree.ensures ∙ ap (λ w. with_agreed c.args.self.now.words x w) word in
    let at = c.from.ensures in
    λ clk last i. record b { ins = (words i).agreed; made = (words i).made; outs = (words i).voted; relay = slice_set b.relay (at i) (liars i) }

-- the agreed word
pub returns-clause-noted : goal.returns-clause-noted
returns-clause-noted c =
    let m = flown_of c.args.mission.now in
    let b = memory_of c.args.self.now in
    let us = c.args.config.now in
    let u = c.args.unit in
    let x = c.args.sensor in
    let f = c.args.frame in
    let heard = c.args.places.now in
    let r = c.reader_of-reader.result in
    let other : nat_eq (reader_of us x) u ≡ false = ap (λ r. nat_eq r u) (sym c.reader_of-reader.ensures) ∙ sym c.eq.ensures ∙ c.if-eq.false in
    let relays : c.deref.result.now ≡ map (place_at heard) (others u (others (reader_of us x) us))
    = c.deref.ensures.0 ∙ c.relays_of-relays.ensures ∙ ap (λ vs. map (place_at heard) vs) (others_both r u us)
    ∙ ap (λ s. map (place_at heard) (others u (others s us))) c.reader_of-reader.ensures in
    let direct : c.direct_of.result ≡ place_at b.direct x = c.direct_of.ensures in
    let word : c.agree-word.result ≡ input_at m us u f b heard x = c.agree-word.ensures.exact ∙ (λ i. agreed_of (direct i ∷ relays i)) ∙ rw other refl in
    let words : c.agree-2.new.self ≡ with_agreed c.args.self.now.words x (input_at m us u f b heard x) = c.agree-2.ensures ∙ ap (λ w. with_agreed c.args.self.now.words x w) word in
    let liars = c.empty.ensures ∙ nobody_else us u (nat_eq (reader_of us x) u) (λ v. differs (place_at heard v) (Some (m.sensed x f))) other in
    let at = c.from-2.ensures in
    λ clk last i. record b { ins = (words i).agreed; made = (words i).made; outs = (words i).voted; relay = slice_set b.relay (at i) (liars i) }

-- the words before stay
pub returns-then-eq-clause-before : goal.returns-then-eq-clause-before
returns-then-eq-clause-before c = ap (λ (w : FrameWords). w.before) c.agree.ensures

pub returns-clause-before : goal.returns-clause-before
returns-clause-before c = ap (λ (w : FrameWords). w.before) c.agree-2.ensures
