use Rattle.std.proofs.Common.{◌+◌, ◌-◌, [], ◌∙◌, ap, arith}
use Rattle.sift_buffer.specs.Tables.{ranges_of}
use Rattle.sift_ether.specs.Deeds.{blank, blanks_from, view_by}
use Rattle.sift_ether.proofs.Lists.{new_push}
use Rattle.sift_ether.proofs.ether.Ether.make.Goals.{in-Some+in_ok-acts, in_default}
use Rattle.sift_ether.proofs.ether.Ether.make.Goals as goal

pub loop-number-preserved : goal.loop-number-preserved
loop-number-preserved c =
    let inv = c.loop-number.invariant in let t = c.loop-number-test.true in let n = c.args.layout.units in
    elim c.match-of.branch [
      | in-Some+in_ok-acts w ↦ let e = w.deal_next.ensures in let is = w.in-Some.ensures.found.0 in rw (w.tokens-is, w.head-is) (record {
        within = omega arith;
        room = (let r = inv.room in let k = w.push_reserved.ensures.capacity in omega arith);
        head = (e.head.0 ∙ inv.head.0, e.head.1 ∙ (λ i. (blanks_from (is i + 1) (n - (is i + 1)), [])));
        tokens = rw w.push_reserved.ensures.items (new_push _ _ _ _ c.loop-number.tokens.items w.deal_next.result inv.tokens
            (record { at = e.of; unit = e.unit ∙ is; view = ap (view_by (ranges_of c.args.layout c.args.frames)) (e.blank ∙ ap blank is) }));
      })
      | in_default w ↦ let high = w.in_default.ensures.none in let few = c.requires.few_units in absurd (omega arith)
    ]
