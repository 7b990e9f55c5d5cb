use Rattle.std.proofs.Common.{◌≡◌, ◌<◌, length, slice_set, sym, refl, ap, ◌∙◌}
use Rattle.sift_buffer.specs.Conduct.{Conduct, never, with_turned}
use Rattle.sift_buffer.specs.Core.{turn}
use Rattle.sift_buffer.specs.Ledgers.{Ledger}
use Rattle.sift_buffer.specs.Crews.{no_ledger}
use Rattle.sift_buffer.specs.declared.rack.Rack.{Rack}
use Rattle.sift_buffer.proofs.RackEvents.{lent, follows_by}
use Rattle.sift_buffer.proofs.rack_port.RackPort.leave.Goals as goal

pub note_turned-requires : goal.note_turned-requires
note_turned-requires c =
    let x : Rack = c.args.self.now in
    let low : x.unit < length x.acts.items = rw x.crew x.here in
    ap (λ (l : Ledger). l.left) (lent x.acts.items x.unit c.from-unit.result c.index_mut-own.result.now no_ledger
    (c.from-unit.ensures ∙ c.get.ensures.number) low c.index_mut-own.ensures.value) ∙ c.requires.may

pub returns-clause-follows : goal.returns-clause-follows
returns-clause-follows c =
    let x : Rack = c.args.self.now in
    let at = c.from-unit.ensures ∙ c.get.ensures.number in
    let number : c.progress.result ≡ never = c.progress.ensures ∙ ap (λ (d : Conduct). d.progress) c.note_turned.ensures.conduct in
    follows_by x _ (turn x.unit) with_turned c.from-unit.result c.index_mut-own.result.now c.note_turned.new.self (record {
      layout = refl;
      frames = refl;
      unit = refl;
      at_is = at;
      lent_is = c.index_mut-own.ensures.value;
      noted = c.note_turned.ensures.conduct;
      beside = λ d strays. refl;
      acts = refl;
      looks = λ p ne. refl;
      last = λ p ne. refl;
      doer_is = refl;
      may = λ w. (x.here, (c.requires.may, c.requires.gate));
      of = λ w. refl;
      words = λ w i. slice_set x.words.items (sym at i) (sym number i);
    })
