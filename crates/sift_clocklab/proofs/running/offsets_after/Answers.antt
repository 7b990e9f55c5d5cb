use Rattle.std.proofs.Common.{◌≡◌, ◌∷◌, ◌++◌, [], sym, ◌∙◌, w64, to_z, of_z, arith}
use Rattle.std.proofs.lemmas.Int.{to_z-of_z}
use Rattle.std.proofs.lemmas.List.FromFn.{map-range_with_len_more}
use Rattle.sift_clocklab.specs.Laboratory.{laboratory_of}
use Rattle.sift_clocklab.specs.Rounds.{offset_after}
use Rattle.sift_clocklab.proofs.running.offsets_after.Goals as goal

-- one clock more
pub loop-own-preserved : goal.loop-own-preserved
loop-own-preserved c =
    let held : to_z w64 (of_z w64 c.offset_after.result) ≡ c.offset_after.result =
    to_z-of_z w64 c.offset_after.result (record { sfits = c.offset_after.type_inv }) in
    let f = offset_after (laboratory_of c.args.lab.now) c.args.offsets.now c.args.shown.now in record {
      after = c.push_reserved.ensures.items ∙ ((λ i. c.loop-own.invariant.after i ++ (held ∙ c.offset_after.ensures) i ∷ [])
          ∙ sym (map-range_with_len_more f 0 c.loop-own.own c.loop-own.own (omega arith)));
      each = (let more = c.push_reserved.ensures.len in let each = c.loop-own.invariant.each in omega arith);
      room = (let same = c.push_reserved.ensures.capacity in let room = c.loop-own.invariant.room in omega arith);
    }
