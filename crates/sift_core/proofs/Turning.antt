-- One turn, and all of them.
use Rattle.std.proofs.Common.{◌≡◌, inl, inr, ⊎_elim, ℕ, suc, ◌-◌, ◌<◌, ◌≤◌, List, length, slice_index, Bool, true, false, Option, Some, None, option_map, refl, sym, ap, ◌∙◌, subst, arith}
use Rattle.std.specs.Option.{is_some}
use Rattle.std.proofs.lemmas.List.FromFn.{length-range_with_len}
use Rattle.std.proofs.lemmas.List.Sums.{sum_by-set}
use Rattle.std.specs.List.{sum_by}
use Rattle.sift_base.specs.Draw.{drawn}
use Rattle.sift_base.specs.Units.{has}
use Rattle.sift_buffer.specs.Conduct.{Stray}
use Rattle.sift_config.specs.laws.FirstUnits.{low_unit, unit_low}
use Rattle.sift_rogue.specs.Storms.{Call, Started, Shoots, sifted, stray_of}
use Rattle.sift_mission.specs.Data.{MissionData, FlownMission}
use Rattle.sift_mission.specs.Flown.{flown}
use Rattle.sift_unit.specs.Boards.{desk_of}
use Rattle.sift_unit.specs.Passing.{distance}
use Rattle.sift_unit.specs.declared.board.Stepped.{Stepped}
use Rattle.sift_unit.specs.declared.board.Stepped.TheVariants.{Moved, NotYet, Turned, Landed}
use Rattle.sift_core.specs.Machines.{IsFlying, layout_of, progress_at, distances}
use Rattle.sift_core.specs.Steps.{IsWaiting, StepsUnit, Stores}
use Rattle.sift_core.specs.Courses.{Course, IsCalled, IsUncalled, Begins, Spends, rest}
use Rattle.sift_core.specs.Storms.{IsUnderWay}
use Rattle.sift_core.specs.Turns.{IsDrawn, AreAllDone, AreAllDown, IsAloft, IsFirstLeft, IsLeast, Tries, StepsItself, SpendsItself, Waits, GivesAway, TakesTurn, TurnsAt, AfterTurns, FliesInOrder}
use Rattle.sift_core.specs.declared.machine.Machine.{Machine}
use Rattle.sift_core.proofs.Progress.{step_near, waits_in_place, least_goes}

-- a mission has as many units as the machine
pub unit_count : (m : FlownMission) (x : Machine) → IsFlying m x → length m.units ≡ (layout_of x).units
unit_count m x flying = ap (λ (us : List ℕ). length us) flying.1.units ∙ length-range_with_len 0 (layout_of x).units

-- and these are its units
pub unit_there : (m : FlownMission) (x : Machine) (u : ℕ) → IsFlying m x → u < (layout_of x).units → has m.units u ≡ true
unit_there m x u flying low = subst (λ (us : List ℕ). has us u ≡ true) (sym flying.1.units) (low_unit (layout_of x).units u low)

-- the unit that was drawn of the mission's is that drawn of the machine's
drawn_same : (m : FlownMission) (x : Machine) (n u : ℕ) → IsFlying m x → u ≡ drawn n (layout_of x).units → u ≡ drawn n (length m.units)
drawn_same m x n u flying is = is ∙ ap (drawn n) (sym (unit_count m x flying))

-- what is left in all
abbrev total : List ℕ → ℕ
total left = sum_by (λ (n : ℕ). n) left

module _ {R : Type 0} (allows : R → Call → R → Type 0) (d : MissionData) where
  abbrev m : FlownMission
  m = flown d

  -- one call less is left in all
  one_less : (by : R → R → Type 0) (u : ℕ) (s s' : Course R) → IsUnderWay d s → has m.units u ≡ true → 0 < slice_index s.left u →
      IsCalled by u s.rogues s.left s'.rogues s'.left → total s'.left < total s.left
  one_less by u s s' way there some called =
      let low = unit_low d.units u there in
      let long = way.left.long in let is = ap total called.left_is in
      let sums = sum_by-set (λ (n : ℕ). n) s.left u (slice_index s.left u - 1) 0 (omega arith) in omega arith

  module _ (u : ℕ) (s s' : Course R) (way : IsUnderWay d s) (way' : IsUnderWay d s') (there : has m.units u ≡ true) where
    -- a step that doesn't wait brings the flight nearer to its end
    step_nearer : (a : Stepped) → StepsUnit m u s.machine a s'.machine → Begins allows d u a s s' → IsAloft m s.machine u → ¬ IsWaiting a →
        rest d s' < rest d s
    step_nearer Moved stepped begun aloft goes =
        let near = step_near m s.machine u Moved s'.machine way.flies way'.flies there stepped aloft in let same = ap total begun.left in omega arith
    step_nearer (NotYet q n) stepped begun aloft goes = absurd (goes tt)
    step_nearer Turned stepped begun aloft goes =
        let near = step_near m s.machine u Turned s'.machine way.flies way'.flies there stepped aloft in
        let some = (way.left.each u (unit_low d.units u there)).before begun.storm begun.storm_is aloft in
        let less = one_less (λ x y. allows x (Started begun.storm.number) y) u s s' way there (omega arith) begun.called in omega arith
    step_nearer Landed stepped begun aloft goes =
        let near = step_near m s.machine u Landed s'.machine way.flies way'.flies there stepped aloft in let same = ap total begun.left in omega arith

    pub steps_nearer : StepsItself allows d u s s' → rest d s' < rest d s
    steps_nearer t = step_nearer t.answer t.stepped.stepped t.stepped.begun t.aloft t.goes

    -- a stray leaves boards where they are
    stored_distances : (o : Option Stray) → Stores u o s.machine s'.machine → distances m s'.machine ≡ distances m s.machine
    stored_distances None is = ap (sum_by (λ b. distance m (desk_of b))) is.boards
    stored_distances (Some t) stored = ap (sum_by (λ b. distance m (desk_of b))) stored.boards

    pub spend_nearer : 0 < slice_index s.left u → Spends allows u s s' → rest d s' < rest d s
    spend_nearer some t =
        let same = stored_distances (option_map stray_of t.shot) t.stored in
        let less = one_less (λ x y. Shoots allows (sifted (layout_of s.machine) u) x t.shot y) u s s' way there some t.called in omega arith

    -- a unit that goes itself, by a step or a call, brings the flight nearer to its end
    pub own_nearer : Tries allows d u s true s' → rest d s' < rest d s
    own_nearer = ⊎_elim (λ (t : StepsItself allows d u s s'). steps_nearer t) (λ (t : SpendsItself allows d u s s'). spend_nearer t.some t.spends)

    -- who gives its turn away leaves all progress and all calls, and the flight is no farther
    waits_uncalled : (a : Stepped) → Begins allows d u a s s' → IsWaiting a → IsUncalled s s'
    waits_uncalled Moved begun waits = absurd waits
    waits_uncalled (NotYet q n) begun waits = begun
    waits_uncalled Turned begun waits = absurd waits
    waits_uncalled Landed begun waits = absurd waits

    waits_no_farther : (a : Stepped) → StepsUnit m u s.machine a s'.machine → IsWaiting a → IsAloft m s.machine u →
        distances m s'.machine ≤ distances m s.machine
    waits_no_farther Moved stepped waits aloft = absurd waits
    waits_no_farther (NotYet q n) stepped waits aloft = step_near m s.machine u (NotYet q n) s'.machine way.flies way'.flies there stepped aloft
    waits_no_farther Turned stepped waits aloft = absurd waits
    waits_no_farther Landed stepped waits aloft = absurd waits

    given_progress : GivesAway allows d u s s' → (p : ℕ) → progress_at s'.machine p ≡ progress_at s.machine p
    given_progress = ⊎_elim (λ done p. ap (λ (z : Course R). progress_at z.machine p) done.1)
        (λ (w : Waits allows d u s s'). waits_in_place m s.machine u w.answer s'.machine way.flies way'.flies there w.stepped.stepped w.waits)

    given_left : GivesAway allows d u s s' → s'.left ≡ s.left
    given_left = ⊎_elim (λ done. ap (λ (z : Course R). z.left) done.1)
        (λ (w : Waits allows d u s s'). (waits_uncalled w.answer w.stepped.begun w.waits).left)

    pub given_no_farther : GivesAway allows d u s s' → rest d s' ≤ rest d s
    given_no_farther = ⊎_elim (λ done. let e = ap (λ (z : Course R). rest d z) done.1 in omega arith)
        (λ (w : Waits allows d u s s'). let near = waits_no_farther w.answer w.stepped.stepped w.waits w.aloft in
        let same = ap total (waits_uncalled w.answer w.stepped.begun w.waits).left in omega arith)

    -- so where all are down then, and nothing is left, all were done before
    pub given_done : GivesAway allows d u s s' → AreAllDown m s'.machine → ((p : ℕ) → has m.units p ≡ true → slice_index s'.left p ≡ 0) →
        AreAllDone m s.machine s.left
    given_done given down none p here =
        let same = given_progress given p in let end = down p here in let zero = none p here in
        let left : slice_index s'.left p ≡ slice_index s.left p = ap (λ (ls : List ℕ). slice_index ls p) (given_left given) in
        (omega arith, omega arith)

  -- ---- the turn

  module _ (s : Course R) (n n' u : ℕ) (drawn_is : IsDrawn (layout_of s.machine).units n n' u) (way : IsUnderWay d s) (y : Course R) (way' : IsUnderWay d y) where
    is : u ≡ drawn n' (length m.units)
    is = drawn_same m s.machine n' u way.flies drawn_is.drawn_is

    -- the unit that was drawn is one of the mission
    pub drawn_there : has m.units u ≡ true
    drawn_there = unit_there m s.machine u way.flies drawn_is.there

    takes : (v : ℕ) (z : Course R) → TakesTurn allows d u s v z → TurnsAt allows d n s (Some v) n' z
    takes v z turn = (drawn_is.next, subst (λ (w : ℕ). TakesTurn allows d w s v z) is turn)

    -- where the unit that was drawn goes itself, this is the turn, and it goes last
    pub own_turn : Tries allows d u s true y → TurnsAt allows d n s (Some u) n' y
    own_turn goes = takes u y (inl (refl, goes))

    module _ (given : GivesAway allows d u s y) (v : ℕ) (z : Course R) (way'' : IsUnderWay d z) where
      -- where the drawn unit gives its turn away and the least unit steps, this is the turn, and the least goes last
      pub least_turn : IsLeast m y.machine v → StepsItself allows d v y z → TurnsAt allows d n s (Some v) n' z
      least_turn least steps = takes v z (inr (inl (record { between = y; given = given; least = least; steps = steps })))

      -- a turn that is given to the least unit brings the flight nearer to its end
      pub least_nearer : IsLeast m y.machine v → StepsItself allows d v y z → rest d z < rest d s
      least_nearer least steps =
          let first = given_no_farther u s y way way' drawn_there given in
          let second = steps_nearer v y z way' way'' least.unit steps in omega arith

      -- where its turn is given away, all are down, and the first with calls left makes one, this is the turn drawn
      pub first_turn : AreAllDown m y.machine → IsFirstLeft m y.left v → Spends allows v y z → TurnsAt allows d n s (Some v) n' z
      first_turn down first spends = takes v z (inr (inr (record { between = y; given = given; down = down; first = first; spends = spends })))

      -- a turn that is given to the first unit with calls left brings the flight nearer to its end
      pub first_nearer : IsFirstLeft m y.left v → Spends allows v y z → rest d z < rest d s
      first_nearer first spends =
          let before = given_no_farther u s y way way' drawn_there given in
          let after = spend_nearer v y z way' way'' first.unit first.some spends in omega arith

  -- ---- all turns

  module _ (order : ℕ) (s : Course R) (n : ℕ) (y : Course R) (n' : ℕ) (z : Course R) (so_far : (k : ℕ) × AfterTurns allows d order s k n y) where
    -- some turns, and this one more
    pub turns_more : (r : Option ℕ) → true ≡ is_some r → TurnsAt allows d n y r n' z → (k : ℕ) × AfterTurns allows d order s k n' z
    turns_more None some turn = absurd (let e : true ≡ false = some in cc)
    turns_more (Some v) some turn = (suc so_far.0, (n, y, v, so_far.1, turn))

    -- all turns, where none is left
    pub turns_end : (r : Option ℕ) → false ≡ is_some r → TurnsAt allows d n y r n' z → FliesInOrder allows d order s z
    turns_end None none turn = record {
      turns = so_far.0;
      number = n;
      after = subst (λ (w : Course R). AfterTurns allows d order s so_far.0 n w) (sym turn.2) so_far.1;
      done = subst (λ (w : Course R). AreAllDone m w.machine w.left) (sym turn.2) turn.0;
    }
    turns_end (Some v) none turn = absurd (let e : false ≡ true = none in cc)

-- the least unit has nobody to wait for: so it goes
pub least_steps : {R : Type 0} (allows : R → Call → R → Type 0) (d : MissionData) (v : ℕ) (s s' : Course R) → IsUnderWay d s → IsUnderWay d s' →
    IsLeast (flown d) s.machine v → ¬ Waits allows d v s s'
least_steps allows d v s s' way way' least w =
    least_goes (flown d) s.machine v w.answer s'.machine way.flies way'.flies least.unit w.stepped.stepped least w.waits

-- whatever its step answered
pub least_goes_on : {R : Type 0} (allows : R → Call → R → Type 0) (d : MissionData) (v : ℕ) (s s' : Course R) → IsUnderWay d s → IsUnderWay d s' →
    IsLeast (flown d) s.machine v → (r : Bool) → (r ≡ true → StepsItself allows d v s s') → (r ≡ false → Waits allows d v s s') →
    StepsItself allows d v s s'
least_goes_on allows d v s s' way way' least true went waited = went refl
least_goes_on allows d v s s' way way' least false went waited = absurd (least_steps allows d v s s' way way' least (waited refl))
