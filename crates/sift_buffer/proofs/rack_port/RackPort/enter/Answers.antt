use Rattle.std.proofs.Common.{◌≡◌, ◌<◌, ◌+◌, ℕ, length, slice_set, sym, refl, ap, ◌∙◌, arith}
use Rattle.std.proofs.lemmas.Grind.{common_steps}
use Rattle.sift_buffer.specs.Conduct.{with_entered}
use Rattle.sift_buffer.specs.Core.{enter}
use Rattle.sift_buffer.specs.Ledgers.{Ledger}
use Rattle.sift_buffer.specs.Crews.{no_ledger, ledger_at}
use Rattle.sift_buffer.specs.Racks.{conduct_at}
use Rattle.sift_buffer.specs.declared.rack.Rack.{Rack}
use Rattle.sift_buffer.proofs.Beside.{may_enter}
use Rattle.sift_buffer.proofs.RackEvents.{lent, follows_by}
use Rattle.sift_buffer.proofs.rack_port.RackPort.enter.Goals as goal

pub returns-clause-follows : goal.returns-clause-follows
returns-clause-follows c =
    let x : Rack = c.args.self.now in
    let at = c.from-unit.ensures ∙ c.get.ensures.number in
    let low : x.unit < length x.acts.items = rw x.crew x.here in
    let own : c.index_mut-own.result.now ≡ ledger_at x.acts.items x.unit = lent x.acts.items x.unit c.from-unit.result
    c.index_mut-own.result.now no_ledger at low
    c.index_mut-own.ensures.value in
    let number : c.progress.result + 1 ≡ (conduct_at x x.unit).progress + 1 =
    ap (λ (n : ℕ). n + 1) (c.progress.ensures ∙ ap (λ (l : Ledger). l.progress) own) in
    follows_by x _ (enter x.unit) with_entered c.from-unit.result c.index_mut-own.result.now c.note_entered.new.self (record {
      layout = refl;
      frames = refl;
      unit = refl;
      at_is = at;
      lent_is = c.index_mut-own.ensures.value;
      noted = c.note_entered.ensures.conduct;
      beside = λ d strays. refl;
      acts = refl;
      looks = λ p ne. refl;
      last = λ p ne. refl;
      doer_is = refl;
      may = λ w. (x.here, (may_enter (conduct_at x x.unit) (w x.unit) c.requires.may, c.requires.gate));
      of = λ w. refl;
      words = λ w i. slice_set x.words.items (sym at i) (sym number i);
    })

pub overflow_add-progress : goal.overflow_add-progress
overflow_add-progress c = grind (arith, common_steps)
