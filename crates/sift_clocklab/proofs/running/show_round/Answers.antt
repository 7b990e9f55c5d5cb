use Rattle.std.proofs.Common.{◌≡◌, ℕ, ◌+◌, ◌-◌, ◌*◌, ◌<◌, List, [], ◌∷◌, ◌++◌, ap, sym, ◌∙◌, subst, add-one, append_assoc, arith}
use Rattle.std.specs.List.{flat_map, range_with_len}
use Rattle.std.proofs.lemmas.List.{append-nil, map-append}
use Rattle.std.proofs.lemmas.Nat.{mul-add-lt}
use Rattle.std.proofs.lemmas.Grind.{flat_map-append}
use Rattle.sift_base.specs.laws.Ranges.{range-more}
use Rattle.sift_clocklab.specs.Laboratory.{faulty_clocks, laboratory_of, working_of}
use Rattle.sift_clocklab.specs.Showing.{Pair, ShowsInTurn, pairs_to}
use Rattle.sift_clocklab.proofs.Turns.{turn_more_as}
use Rattle.sift_clocklab.proofs.running.show_round.Goals as goal

-- the pairs so far, and one more
more_pairs : (before : List Pair) (w k clock to : ℕ) → w + k ≡ clock
    → before ++ pairs_to (range_with_len w (k + 1)) to
    ≡ (before ++ pairs_to (range_with_len w k) to) ++ record { clock = clock; to = to } ∷ []
more_pairs before w k clock to place =
    let one : Pair = record { clock = clock; to = to } in
    let same : range_with_len w (k + 1) ≡ range_with_len w k ++ clock ∷ [] =
    rw (add-one k) (range-more w k ∙ ap (λ p. range_with_len w k ++ p ∷ []) place) in
    ap (λ clocks. before ++ pairs_to clocks to) same
    ∙ (ap (λ pairs. before ++ pairs) (map-append (λ (p : ℕ). record { clock = p; to = to }) (range_with_len w k) (clock ∷ []))
    ∙ sym (append_assoc before (pairs_to (range_with_len w k) to) (one ∷ [])))

-- the pairs of one clock more
more_clocks : (faulty : List ℕ) (to : ℕ) → flat_map (pairs_to faulty) (range_with_len 0 (to + 1))
    ≡ flat_map (pairs_to faulty) (range_with_len 0 to) ++ pairs_to faulty to
more_clocks faulty to =
    let same : range_with_len 0 (to + 1) ≡ range_with_len 0 to ++ to ∷ [] =
    rw (add-one to) (range-more 0 to ∙ ap (λ q. range_with_len 0 to ++ q ∷ []) (omega arith)) in
    ap (flat_map (pairs_to faulty)) same
    ∙ (flat_map-append (pairs_to faulty) (range_with_len 0 to) (to ∷ [])
    ∙ ap (λ pairs. flat_map (pairs_to faulty) (range_with_len 0 to) ++ pairs) (append-nil (pairs_to faulty to)))

-- one faulty clock more shows this one something
pub loop-clock-preserved : goal.loop-clock-preserved
loop-clock-preserved g c =
    let lab = laboratory_of c.args.lab.now in
    let w = working_of lab in
    let k : ℕ = c.loop-clock.clock - w in
    let to = c.loop-to.to in
    let before : List Pair = flat_map (pairs_to (faulty_clocks lab)) (range_with_len 0 to) in
    let place : w + k ≡ c.loop-clock.clock = omega (arith, c.working-clock.ensures, c.loop-clock.auto.clock) in
    let next : c.loop-clock.clock + 1 - w ≡ k + 1 = omega arith in
    let inv = c.loop-clock.invariant in record {
      shown =
          turn_more_as g.F.Face.allows c.args.round c.args.face.now (before ++ pairs_to (range_with_len w k) to)
          (before ++ pairs_to (range_with_len w (c.loop-clock.clock + 1 - w)) to) c.loop-clock.shown.items c.push_reserved.new.self.items
          c.loop-clock.face (record { clock = c.loop-clock.clock; to = to }) c.show.result c.show.new.self
          (ap (λ (n : ℕ). before ++ pairs_to (range_with_len w n) to) next ∙ more_pairs before w k c.loop-clock.clock to place)
          c.push_reserved.ensures.items inv.shown c.show.ensures;
      each = (let more = c.push_reserved.ensures.len in let each = inv.each in omega arith);
      room = (let same = c.push_reserved.ensures.capacity in let room = inv.room in omega arith);
    }

-- one clock more was shown something by each faulty one
pub loop-to-preserved : goal.loop-to-preserved
loop-to-preserved g c =
    let lab = laboratory_of c.args.lab.now in
    let to = c.loop-to.to in
    let before : List Pair = flat_map (pairs_to (faulty_clocks lab)) (range_with_len 0 to) in
    let all : c.loop-clock.clock - working_of lab ≡ lab.m = omega arith in
    let inv = c.loop-clock.invariant in record {
      shown =
          subst (λ (pairs : List Pair). ShowsInTurn g.F.Face.allows c.args.round c.args.face.now pairs c.loop-clock.shown.items
          c.loop-clock.face)
          (ap (λ (n : ℕ). before ++ pairs_to (range_with_len (working_of lab) n) to) all
          ∙ sym (more_clocks (faulty_clocks lab) to)) inv.shown;
      each = (let each = inv.each in omega (arith, all));
      room = inv.room;
    }

pub push_reserved-requires : goal.push_reserved-requires
push_reserved-requires g c =
    let lab = laboratory_of c.args.lab.now in
    let k : ℕ = c.loop-clock.clock - working_of lab in
    let low : c.loop-to.to < working_of lab = omega arith in
    let few : k < lab.m = omega arith in
    let inv = c.loop-clock.invariant in
    let room = mul-add-lt c.loop-to.to lab.m k (working_of lab) low few in
    omega (arith, room, inv.each, inv.room)

pub returns-clause-shown : goal.returns-clause-shown
returns-clause-shown g c =
    let lab = laboratory_of c.args.lab.now in
    let end : c.loop-to.to ≡ working_of lab = omega arith in
    subst (λ (n : ℕ). ShowsInTurn g.F.Face.allows c.args.round c.args.face.now (flat_map (pairs_to (faulty_clocks lab)) (range_with_len 0 n))
    c.loop-to.shown.items c.loop-to.face) end c.loop-to.invariant.shown

pub returns-clause-each : goal.returns-clause-each
returns-clause-each g c =
    let lab = laboratory_of c.args.lab.now in
    let end : c.loop-to.to ≡ working_of lab = omega arith in
    let each = c.loop-to.invariant.each ∙ ap (λ n. n * lab.m) end in
    let ok = c.loop-to.shown.ok in
    omega (arith, each)
