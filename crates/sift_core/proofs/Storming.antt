-- What one unit's turn does to the calls that are left, and to the strays over which the machine flies.
use Rattle.std.proofs.Common.{◌≡◌, ◌≢◌, ℕ, ◌+◌, ◌-◌, ◌*◌, ◌<◌, ◌≤◌, List, [], ◌∷◌, ◌++◌, length, slice_index, slice_index_or, length-set, true, Option, Some, None, option_map, option_to_list, refl, sym, ap, ◌∙◌, subst, arith, eq-eqb, ne_eqb}
use Rattle.std.proofs.lemmas.List.{get_or-set_same, get_or-set_other, get_or_default}
use Rattle.std.proofs.lemmas.Nat.{mul-le}
use Rattle.std.proofs.lemmas.Option.{same_Some}
use mathlib.Core.Logic.{dite}
use native.Mathlib.Decide.{ℕ_discrete}
use Rattle.sift_base.specs.Units.{has, unit_limit}
use Rattle.sift_base.specs.declared.slots.Layout.{Layout}
use Rattle.sift_buffer.specs.Conduct.{Stray}
use Rattle.sift_buffer.specs.Ledgers.{conduct_in}
use Rattle.sift_buffer.specs.Crews.{ledger_at, with_strays}
use Rattle.sift_buffer.specs.Racks.{conduct_at}
use Rattle.sift_buffer.specs.declared.rack.Rack.{Rack}
use Rattle.sift_config.specs.laws.FirstUnits.{low_unit, unit_low}
use Rattle.sift_rogue.specs.Storms.{Call, Started, Shoots, sifted, stray_of, StormsBy}
use Rattle.sift_script.specs.declared.script.StormEntry.{StormEntry}
use Rattle.sift_seat.specs.Seats.{HasCalls}
use Rattle.sift_seat.specs.Storms.{storm_at, calls_of, calls_by, calls_left}
use Rattle.sift_seat.specs.declared.seat.Seat.{Seat}
use Rattle.sift_mission.specs.Data.{MissionData}
use Rattle.sift_mission.specs.Flown.{flown}
use Rattle.sift_flight.specs.Flight.{Strays, no_strays, IsRound}
use Rattle.sift_flight.specs.Told.{told}
use Rattle.sift_flight.specs.declared.flight.Flight.{Flight}
use Rattle.sift_unit.specs.declared.board.Stepped.{Stepped}
use Rattle.sift_unit.specs.declared.board.Stepped.TheVariants.{Moved, NotYet, Turned, Landed}
use Rattle.sift_core.specs.Machines.{Flies, IsFlying, HasTurnedIn, layout_of, progress_at}
use Rattle.sift_core.specs.Steps.{StepsUnit, Stores}
use Rattle.sift_core.specs.Courses.{AreAllLeft, Course, IsCalled, BeginsStorm, Spends, course, course_of, lefts}
use Rattle.sift_core.specs.Storms.{CarriesOn, FliesByRogues, HasMadeCalls, HaveMadeCalls, AreLeft, IsLeft, IsRoundByRogues, IsUnderWay}
use Rattle.sift_core.specs.Turns.{AreAllDone, IsAloft, IsDown, end_in}
use Rattle.sift_core.specs.declared.machine.Machine.{Machine}
use Rattle.sift_seat.specs.laws.Ends.{end_low}
use Rattle.sift_core.proofs.Calls.{left_at}
use Rattle.sift_core.proofs.MachineSteps.{unit_below, seat_unit}
use Rattle.sift_core.proofs.Progress.{flyable, others_progress, step_comes}

-- no option is both
none_some : {A B : Type 0} {x : A} → None ≡ Some x → B
none_some e = absurd cc

-- the strays of a unit with some before its others, and another's
strays_here : (w : Strays) (u : ℕ) (ss : List Stray) → with_strays w u ss u ≡ ss ++ w u
strays_here w u ss = rw (eq-eqb u u refl) refl

strays_else : (w : Strays) (u : ℕ) (ss : List Stray) (p : ℕ) → p ≢ u → with_strays w u ss p ≡ w p
strays_else w u ss p ne = rw (ne_eqb p u ne) refl

-- ---- one unit's progress changed, and no other's

pub record IsByOne (x : Machine) (u : ℕ) (x' : Machine) : Type 0 where
  pub layout : layout_of x' ≡ layout_of x
  pub progress : (p : ℕ) → p ≢ u → progress_at x' p ≡ progress_at x p

module _ (d : MissionData) (x : Machine) (u : ℕ) (x' : Machine) (one : IsByOne x u x') where
  left_same : (p l l' : ℕ) → p ≢ u → l' ≡ l → IsLeft d x p l → IsLeft d x' p l'
  left_same p l l' ne is k = let same = one.progress p ne in record {
    calm = λ e. is ∙ k.calm e;
    before = λ t at up. is ∙ k.before t at (omega arith);
    after = λ t at down. let a = k.after t at (omega arith) in (let b = a.0 in omega arith, same ∙ a.1);
  }

  -- what is left of all units, where it is known of the one
  left_by : (ls ls' : List ℕ) → length ls' ≡ length ls → ((p : ℕ) → p ≢ u → slice_index ls' p ≡ slice_index ls p) → AreLeft d x ls →
      IsLeft d x' u (slice_index ls' u) → AreLeft d x' ls'
  left_by ls ls' long same all own = record {
    long = long ∙ all.long;
    each = λ p low. dite (ℕ_discrete p u)
        (λ e. subst (λ (q : ℕ). IsLeft d x' q (slice_index ls' q)) (sym e) own)
        (λ ne. left_same p (slice_index ls p) (slice_index ls' p) ne (same p ne) (all.each p low));
  }

  module _ {R : Type 0} (allows : R → Call → R → Type 0) where
    -- storms under one layout
    storms_at : (p number : ℕ) (r : R) (count count' : ℕ) (ss ss' : List Stray) (y y' : R) → count' ≡ count → ss' ≡ ss → y' ≡ y →
        StormsBy allows (sifted (layout_of x) p) number r count ss y → StormsBy allows (sifted (layout_of x') p) number r count' ss' y'
    storms_at p number r count count' ss ss' y y' ec es ey w =
        subst (λ (z : R). StormsBy allows (sifted (layout_of x') p) number r count' ss' z) (sym ey)
        (subst (λ (z : List Stray). StormsBy allows (sifted (layout_of x') p) number r count' z y) (sym es)
        (subst (λ (z : ℕ). StormsBy allows (sifted (layout_of x') p) number r z ss y) (sym ec)
        (subst (λ (z : Layout). StormsBy allows (sifted z p) number r count ss y) (sym one.layout) w)))

    made_same : (p : ℕ) (r : R) (l l' : ℕ) (ss ss' : List Stray) (y y' : R) → p ≢ u → l' ≡ l → ss' ≡ ss → y' ≡ y →
        HasMadeCalls allows d x p r l ss y → HasMadeCalls allows d x' p r l' ss' y'
    made_same p r l l' ss ss' y y' ne el es ey k = let same = one.progress p ne in record {
      calm = λ e. ey ∙ k.calm e;
      before = λ t at up. let b = k.before t at (omega arith) in (ey ∙ b.0, es ∙ b.1);
      after = λ t at down. storms_at p t.number r (t.strays - l) (t.strays - l') ss ss' y y' (omega arith) es ey (k.after t at (omega arith));
    }

    -- what all rogues were called for, where it is known of the one
    made_by : (xs : List R) (w w' : Strays) (ls ls' : List ℕ) (ys ys' : List R) → length ys' ≡ length ys → u < d.units →
        ((p : ℕ) → p ≢ u → w' p ≡ w p) → ((p : ℕ) → p ≢ u → slice_index ls' p ≡ slice_index ls p) →
        ((p : ℕ) (r : R) → p ≢ u → slice_index_or ys' p r ≡ slice_index_or ys p r) →
        ((q r : R) → HasMadeCalls allows d x u q (slice_index ls u) (w u) (slice_index_or ys u r) →
        HasMadeCalls allows d x' u q (slice_index ls' u) (w' u) (slice_index_or ys' u r)) →
        HaveMadeCalls allows d xs w (course x ls ys) → HaveMadeCalls allows d xs w' (course x' ls' ys')
    made_by xs w w' ls ls' ys ys' long low strays left rogues own k = record {
      long = long ∙ k.long;
      each = λ p r here. dite (ℕ_discrete p u)
          (λ e. subst (λ (q : ℕ). HasMadeCalls allows d x' q (slice_index_or xs q r) (slice_index ls' q) (w' q) (slice_index_or ys' q r)) (sym e)
          (own (slice_index_or xs u r) r (k.each u r low)))
          (λ ne. made_same p (slice_index_or xs p r) (slice_index ls p) (slice_index ls' p) (w p) (w' p) (slice_index_or ys p r) (slice_index_or ys' p r)
          ne (left p ne) (strays p ne) (rogues p r ne) (k.each p r here));
      beyond = λ p r high. rogues p r (λ e. omega arith) ∙ k.beyond p r high;
    }

-- ---- a step after which the unit has yet to land or turn, or has no storm

module _ {R : Type 0} (allows : R → Call → R → Type 0) (d : MissionData) (u : ℕ) (x x' : Machine) (one : IsByOne x u x') (low : u < d.units)
    (aloft : IsAloft (flown d) x u) (quiet : (t : StormEntry) → storm_at d u ≡ Some t → IsAloft (flown d) x' u)
    (on : (w : Strays) → Flies (flown d) w x → Flies (flown d) w x') (ls : List ℕ) (ys : List R) where
  pub quiet_way : IsUnderWay d (course x ls ys) → IsUnderWay d (course x' ls ys)
  quiet_way way = record {
    flies = (way.flies.0, on way.flies.0 way.flies.1);
    rogues = way.rogues;
    left = let own = way.left.each u low in left_by d x u x' one ls ls refl (λ p ne. refl) way.left (record {
      calm = own.calm;
      before = λ t at up. own.before t at aloft;
      after = λ t at down. absurd (let up = quiet t at in omega arith);
    });
  }

  pub quiet_storms : CarriesOn allows d (course x ls ys) (course x' ls ys)
  quiet_storms xs k = record {
    strays = k.strays;
    flies = on k.strays k.flies;
    called = made_by d x u x' one allows xs k.strays k.strays ls ls ys ys refl low (λ p ne. refl) (λ p ne. refl) (λ p r ne. refl) (λ q r own. record {
      calm = own.calm;
      before = λ t at up. own.before t at aloft;
      after = λ t at down. absurd (let up = quiet t at in omega arith);
    }) k.called;
  }

-- ---- a call of one unit's rogue

module _ {R : Type 0} (by : R → R → Type 0) (u : ℕ) (xs : List R) (ls : List ℕ) (ys : List R) (ls' : List ℕ) (c : IsCalled by u xs ls ys ls') where
  called_long : length ys ≡ length xs
  called_long = ap length c.rogues ∙ length-set xs u c.after

  left_long : length ls' ≡ length ls
  left_long = ap length c.left_is ∙ length-set ls u (slice_index ls u - 1)

  others_rogues : (p : ℕ) (r : R) → p ≢ u → slice_index_or ys p r ≡ slice_index_or xs p r
  others_rogues p r ne = ap (λ (zs : List R). slice_index_or zs p r) c.rogues ∙ get_or-set_other xs u p c.after r ne

  others_left : (p : ℕ) → p ≢ u → slice_index ls' p ≡ slice_index ls p
  others_left p ne = ap (λ (ns : List ℕ). slice_index ns p) c.left_is ∙ get_or-set_other ls u p (slice_index ls u - 1) 0 ne

  own_rogue : u < length xs → (r : R) → slice_index_or ys u r ≡ c.after
  own_rogue low r = ap (λ (zs : List R). slice_index_or zs u r) c.rogues ∙ get_or-set_same xs u c.after r low

  own_left : u < length ls → slice_index ls' u ≡ slice_index ls u - 1
  own_left low = ap (λ (ns : List ℕ). slice_index ns u) c.left_is ∙ get_or-set_same ls u (slice_index ls u - 1) 0 low

-- a unit of the mission is one that there may be
unit_few : (d : MissionData) (x : Machine) (u : ℕ) → IsFlying (flown d) x → has (flown d).units u ≡ true → u < unit_limit
unit_few d x u flying there = (flyable (flown d) x flying).fits.counted.units u there

-- ---- the unit turned, and its storm began

module _ {R : Type 0} (allows : R → Call → R → Type 0) (d : MissionData) (u : ℕ) (x x' : Machine) (one : IsByOne x u x')
    (there : has (flown d).units u ≡ true) (aloft : IsAloft (flown d) x u) (turned : HasTurnedIn x' u)
    (on : (w : Strays) → Flies (flown d) w x → Flies (flown d) w x') (ls : List ℕ) (ys : List R) (ls' : List ℕ) (ys' : List R)
    (begun : BeginsStorm allows d u ys ls ys' ls') (way : IsUnderWay d (course x ls ys)) where
  abbrev started : R → R → Type 0
  started r y = allows r (Started begun.storm.number) y

  begun_low : u < d.units
  begun_low = unit_low d.units u there

  begun_few : u < unit_limit
  begun_few = unit_few d x u way.flies there

  -- all calls but `start` are left
  begun_left : slice_index ls' u ≡ begun.storm.strays
  begun_left =
      let all = (way.left.each u begun_low).before begun.storm begun.storm_is aloft in let long = way.left.long in
      let low = begun_low in let less = own_left started u ys ls ys' ls' begun.called (omega arith) in omega arith

  not_up : ¬ IsAloft (flown d) x' u
  not_up up = let end = end_low (flown d) (flyable (flown d) x way.flies).fits in let is = turned in omega arith

  pub begun_way : IsUnderWay d (course x' ls' ys')
  begun_way = record {
    flies = (way.flies.0, on way.flies.0 way.flies.1);
    rogues = called_long started u ys ls ys' ls' begun.called ∙ way.rogues;
    left = left_by d x u x' one ls ls' (left_long started u ys ls ys' ls' begun.called) (others_left started u ys ls ys' ls' begun.called) way.left (record {
      calm = λ e. none_some (sym e ∙ begun.storm_is);
      before = λ t at up. absurd (not_up up);
      after = λ t at down. (let same = ap (λ (z : StormEntry). z.strays) (same_Some _ _ (sym begun.storm_is ∙ at)) in let is = begun_left in omega arith, turned);
    });
  }

  pub begun_storms : CarriesOn allows d (course x ls ys) (course x' ls' ys')
  begun_storms xs k = record {
    strays = k.strays;
    flies = on k.strays k.flies;
    called = made_by d x u x' one allows xs k.strays k.strays ls ls' ys ys' (called_long started u ys ls ys' ls' begun.called) begun_low (λ p ne. refl)
        (others_left started u ys ls ys' ls' begun.called) (others_rogues started u ys ls ys' ls' begun.called) own k.called;
  }
    where
      own : (q r : R) → HasMadeCalls allows d x u q (slice_index ls u) (k.strays u) (slice_index_or ys u r) →
          HasMadeCalls allows d x' u q (slice_index ls' u) (k.strays u) (slice_index_or ys' u r)
      own q r was = record {
        calm = λ e. none_some (sym e ∙ begun.storm_is);
        before = λ t at up. absurd (not_up up);
        after = λ t at down.
            let first = was.before begun.storm begun.storm_is aloft in let many = way.rogues in
            let now : slice_index_or ys' u r ≡ begun.called.after = own_rogue started u ys ls ys' ls' begun.called (let f = begun_few in omega arith) r in
            subst (λ (z : StormEntry). StormsBy allows (sifted (layout_of x') u) z.number q (z.strays - slice_index ls' u) (k.strays u) (slice_index_or ys' u r))
            (same_Some _ _ (sym begun.storm_is ∙ at)) (record {
              begun = slice_index_or ys' u r;
              start = subst (λ (z : R). allows q (Started begun.storm.number) z) (sym now)
                  (subst (λ (z : R). allows z (Started begun.storm.number) begun.called.after) first.0 (begun.called.called r));
              acts = [];
              count_is = (let is = begun_left in omega arith);
              answers = refl;
              strays_are = first.1;
            });
      }

-- ---- one call more

module _ {R : Type 0} (allows : R → Call → R → Type 0) (d : MissionData) (u : ℕ) (s s' : Course R) (there : has (flown d).units u ≡ true)
    (way : IsUnderWay d s) (down : IsDown (flown d) s.machine u) (some : 0 < slice_index s.left u) (spent : Spends allows u s s')
    (on : (w : Strays) → Flies (flown d) w s.machine → Flies (flown d) (with_strays w u (option_to_list (option_map stray_of spent.shot))) s'.machine) where
  abbrev spent_shot : R → R → Type 0
  spent_shot r y = Shoots allows (sifted (layout_of s.machine) u) r spent.shot y

  abbrev spent_more : List Stray
  spent_more = option_to_list (option_map stray_of spent.shot)

  spent_low : u < d.units
  spent_low = unit_low d.units u there

  spent_few : u < unit_limit
  spent_few = unit_few d s.machine u way.flies there

  -- a stray changes no progress
  stored_one : (o : Option Stray) → Stores u o s.machine s'.machine → (layout_of s'.machine ≡ layout_of s.machine)
      × ((p : ℕ) → progress_at s'.machine p ≡ progress_at s.machine p)
  stored_one None is = (ap (λ (k : Rack). k.grid.layout) is.rack, λ p. ap (λ (k : Rack). (conduct_at k p).progress) is.rack)
  stored_one (Some t) stored = (stored.rack.layout, λ p i. (conduct_in (ledger_at (stored.rack.acts i).items p)).progress)

  spent_same : (layout_of s'.machine ≡ layout_of s.machine) × ((p : ℕ) → progress_at s'.machine p ≡ progress_at s.machine p)
  spent_same = stored_one (option_map stray_of spent.shot) spent.stored

  spent_one : IsByOne s.machine u s'.machine
  spent_one = record { layout = spent_same.0; progress = λ p ne. spent_same.1 p }

  still_down : IsDown (flown d) s'.machine u
  still_down = let is = spent_same.1 u in omega arith

  spent_less : slice_index s'.left u ≡ slice_index s.left u - 1
  spent_less = own_left spent_shot u s.rogues s.left s'.rogues s'.left spent.called (let long = way.left.long in let low = spent_low in omega arith)

  pub spent_layout : layout_of s'.machine ≡ layout_of s.machine
  spent_layout = spent_same.0

  -- after one call more of the rogue of a unit that is down the flight is under way still
  pub spent_way : IsUnderWay d s'
  spent_way = record {
    flies = (with_strays way.flies.0 u spent_more, on way.flies.0 way.flies.1);
    rogues = called_long spent_shot u s.rogues s.left s'.rogues s'.left spent.called ∙ way.rogues;
    left = left_by d s.machine u s'.machine spent_one s.left s'.left (left_long spent_shot u s.rogues s.left s'.rogues s'.left spent.called)
        (others_left spent_shot u s.rogues s.left s'.rogues s'.left spent.called) way.left (record {
          calm = λ e. absurd (let none = (way.left.each u spent_low).calm e in omega arith);
          before = λ t at up. absurd (let is = still_down in omega arith);
          after = λ t at high. let was = (way.left.each u spent_low).after t at down in (let bound = was.0 in let is = spent_less in omega arith, spent_same.1 u ∙ was.1);
        });
  }

  -- the machine flies on by its rogues, with the stray to which the call came, if it came to one
  pub spent_storms : CarriesOn allows d s s'
  spent_storms xs k = record {
    strays = with_strays k.strays u spent_more;
    flies = on k.strays k.flies;
    called = made_by d s.machine u s'.machine spent_one allows xs k.strays (with_strays k.strays u spent_more) s.left s'.left s.rogues s'.rogues
        (called_long spent_shot u s.rogues s.left s'.rogues s'.left spent.called) spent_low (λ p ne. strays_else k.strays u spent_more p ne)
        (others_left spent_shot u s.rogues s.left s'.rogues s'.left spent.called) (others_rogues spent_shot u s.rogues s.left s'.rogues s'.left spent.called) own k.called;
  }
    where
      own : (q r : R) → HasMadeCalls allows d s.machine u q (slice_index s.left u) (k.strays u) (slice_index_or s.rogues u r) →
          HasMadeCalls allows d s'.machine u q (slice_index s'.left u) (with_strays k.strays u spent_more u) (slice_index_or s'.rogues u r)
      own q r was = record {
        calm = λ e. absurd (let none = (way.left.each u spent_low).calm e in omega arith);
        before = λ t at up. absurd (let is = still_down in omega arith);
        after = λ t at high.
            let old = was.after t at down in let bound = ((way.left.each u spent_low).after t at down).0 in
            let made = spent.called.called r in let many = way.rogues in let f = spent_few in
            let now : slice_index_or s'.rogues u r ≡ spent.called.after =
            own_rogue spent_shot u s.rogues s.left s'.rogues s'.left spent.called (omega arith) r in
            storms_at d s.machine u s'.machine spent_one allows u t.number q (t.strays - slice_index s.left u + 1) (t.strays - slice_index s'.left u)
            (spent_more ++ k.strays u) (with_strays k.strays u spent_more u) spent.called.after (slice_index_or s'.rogues u r)
            (let is = spent_less in omega arith) (strays_here k.strays u spent_more) now (record {
              begun = old.begun;
              start = old.start;
              acts = made.act ∷ old.acts;
              count_is = (let e = old.count_is in omega arith);
              answers = (slice_index_or s.rogues u r, old.answers, made.allowed);
              strays_are = λ i. option_to_list (made.is i) ++ old.strays_are i;
            });
      }

-- a storm's frame is that of the mission's script
frame_of : (o : Option StormEntry) (from : ℕ) → option_map (λ (s : StormEntry). s.from) o ≡ Some from → (t : StormEntry) × (o ≡ Some t)
frame_of None from e = none_some e
frame_of (Some t) from e = (t, refl)

no_frame : (o : Option StormEntry) → option_map (λ (s : StormEntry). s.from) o ≡ None → o ≡ None
no_frame None e = refl
no_frame (Some t) e = none_some (sym e)

-- ---- by what a step answered

-- the flight is under way still, over strays that the rogues gave
pub record GoesOn {R : Type 0} (allows : R → Call → R → Type 0) (d : MissionData) (s s' : Course R) : Type 0 where
  pub layout : layout_of s'.machine ≡ layout_of s.machine
  pub way : IsUnderWay d s'
  pub storms : CarriesOn allows d s s'

-- so it is with the calls that are left at its seats, where these are as many
pub at_seats : {R : Type 0} (allows : R → Call → R → Type 0) (d : MissionData) (s : Course R) (x : Machine) (ls : List ℕ) (ys : List R) → lefts d x ≡ ls →
    GoesOn allows d s (course x ls ys) → GoesOn allows d s (course_of d x ys)
at_seats {R} allows d s x ls ys same goes = subst (λ (k : List ℕ). GoesOn allows d s (course x k ys)) (sym same) goes

module _ {R : Type 0} (allows : R → Call → R → Type 0) (d : MissionData) (u : ℕ) (x x' : Machine) (ls : List ℕ) (ys : List R)
    (there : has (flown d).units u ≡ true) (way : IsUnderWay d (course x ls ys)) (aloft : IsAloft (flown d) x u)
    (on : (w : Strays) → Flies (flown d) w x → Flies (flown d) w x') where
  flying : IsFlying (flown d) x'
  flying = (way.flies.0, on way.flies.0 way.flies.1)

  step_low : u < d.units
  step_low = unit_low d.units u there

  step_one : (a : Stepped) → StepsUnit (flown d) u x a x' → IsByOne x u x'
  step_one a stepped = record { layout = stepped.layout; progress = others_progress (flown d) x u a x' way.flies flying there stepped }

  step_quiet : (a : Stepped) → StepsUnit (flown d) u x a x' → ((t : StormEntry) → storm_at d u ≡ Some t → IsAloft (flown d) x' u) →
      GoesOn allows d (course x ls ys) (course x' ls ys)
  step_quiet a stepped up = record {
    layout = stepped.layout;
    way = quiet_way allows d u x x' (step_one a stepped) step_low aloft up on ls ys way;
    storms = quiet_storms allows d u x x' (step_one a stepped) step_low aloft up on ls ys;
  }

  -- where the unit moved the flight goes on, and no rogue was called
  pub moved : StepsUnit (flown d) u x Moved x' → GoesOn allows d (course x ls ys) (course x' ls ys)
  moved stepped = step_quiet Moved stepped (λ t at. step_comes (flown d) x u Moved x' way.flies flying there stepped aloft)

  -- where the unit had to wait for another the flight goes on, with all rogues and calls as they were
  pub waited : (p n : ℕ) → StepsUnit (flown d) u x (NotYet p n) x' → GoesOn allows d (course x ls ys) (course x' ls ys)
  waited p n stepped = step_quiet (NotYet p n) stepped (λ t at. step_comes (flown d) x u (NotYet p n) x' way.flies flying there stepped aloft)

  -- where the unit landed the flight goes on, with the same rogues and calls
  pub landed : StepsUnit (flown d) u x Landed x' → GoesOn allows d (course x ls ys) (course x' ls ys)
  landed stepped = step_quiet Landed stepped
      (λ t at. none_some (sym (no_frame (storm_at d u) (step_comes (flown d) x u Landed x' way.flies flying there stepped aloft)) ∙ at))

  -- a unit that turned has a storm, of which all calls are left
  pub has_storm : StepsUnit (flown d) u x Turned x' → (t : StormEntry) × (storm_at d u ≡ Some t)
  has_storm stepped = let comes = step_comes (flown d) x u Turned x' way.flies flying there stepped aloft in frame_of (storm_at d u) comes.1.0 comes.1.1

  -- where the unit turned, calls of its rogue were left before the step
  pub some_left : StepsUnit (flown d) u x Turned x' → 0 < slice_index ls u
  some_left stepped = let storm = has_storm stepped in let all = (way.left.each u step_low).before storm.0 storm.1 aloft in omega arith

  -- where the unit turned and its storm began the flight goes on, with the rogues and calls that this left
  pub turned : StepsUnit (flown d) u x Turned x' → (ls' : List ℕ) (ys' : List R) → BeginsStorm allows d u ys ls ys' ls' →
      GoesOn allows d (course x ls ys) (course x' ls' ys')
  turned stepped ls' ys' begun =
      let is = (step_comes (flown d) x u Turned x' way.flies flying there stepped aloft).0 in record {
        layout = stepped.layout;
        way = begun_way allows d u x x' (step_one Turned stepped) there aloft is on ls ys ls' ys' begun way;
        storms = begun_storms allows d u x x' (step_one Turned stepped) there aloft is on ls ys ls' ys' begun way;
      }

-- ---- at the seats

-- whether calls are left at a unit's seat, where some are and the unit is down
module _ (d : MissionData) (x : Machine) (u : ℕ) (s : Seat) (unit : s.board.unit ≡ u) (left : IsLeft d x u (calls_left d s)) (some : 0 < calls_left d s)
    (down : IsDown (flown d) x u) where
  by_entry : (o : Option StormEntry) → storm_at d u ≡ o → calls_left d s ≡ calls_of o → ⊥
  by_entry None is all = let none = left.calm is in omega arith
  by_entry (Some t) is all = let few = (left.after t is down).0 in omega arith

  -- then its storm has begun, and these are left of it
  pub has_calls : HasCalls s
  has_calls = by s.left refl
    where
      by : (o : Option ℕ) → s.left ≡ o → HasCalls s
      by None none = absurd (by_entry (storm_at d u) refl
          (ap (calls_by (storm_at d s.board.unit)) none ∙ ap (λ (v : ℕ). calls_of (storm_at d v)) unit))
      by (Some n) is = (n, is, (let all : calls_left d s ≡ n = ap (calls_by (storm_at d s.board.unit)) is in omega arith))

-- so it is at the unit's place
pub has_calls_at : (d : MissionData) (x : Machine) (u : ℕ) (e : Seat) → IsFlying (flown d) x → has (flown d).units u ≡ true → u < length x.seats.items →
    IsLeft d x u (slice_index (lefts d x) u) → 0 < slice_index (lefts d x) u → IsDown (flown d) x u → HasCalls (slice_index_or x.seats.items u e)
has_calls_at d x u e flying there low left some down =
    let s : Seat = slice_index_or x.seats.items u e in
    let here : s ≡ slice_index_or x.seats.items u s = get_or_default x.seats.items u e s low in
    let is : slice_index (lefts d x) u ≡ calls_left d s = left_at d x u u s low refl here in
    has_calls d x u s (seat_unit (flown d) x u u s flying (unit_below (flown d) x u flying there) refl here)
    (subst (λ (n : ℕ). IsLeft d x u n) is left) (subst (λ (n : ℕ). 0 < n) is some) down

-- ---- the whole flight

-- before the first step all calls are left, and none was made
module _ (d : MissionData) (x : Machine) (flies : Flies (flown d) no_strays x) (fresh : (u : ℕ) → progress_at x u ≡ 0) (ls : List ℕ)
    (all : AreAllLeft d ls) where
  -- a unit with a storm has yet to land
  up : (u : ℕ) (t : StormEntry) → storm_at d u ≡ Some t → 0 < end_in (flown d)
  up u t at =
      let can = flyable (flown d) x (no_strays, flies) in
      let come = can.storms u t.from (ap (option_map (λ (s : StormEntry). s.from)) at) in let period = can.fits.counted.period in
      let some : 1 * 1 ≤ d.frames * d.period = mul-le 1 1 d.frames d.period (omega arith) (omega arith) in omega arith

  -- the calls that are left are those of a flight under way: all of each storm, and no others
  pub first_left : AreLeft d x ls
  first_left = record {
    long = all.long;
    each = λ u low. record {
      calm = λ e. all.each u low ∙ ap calls_of e;
      before = λ t at aloft. all.each u low ∙ ap calls_of at;
      after = λ t at down. absurd (let end = up u t at in let zero = fresh u in omega arith);
    };
  }

  -- the machine flies with no strays, by rogues of which none was called
  pub first_storms : {R : Type 0} (allows : R → Call → R → Type 0) (xs : List R) → FliesByRogues allows d xs (course x ls xs)
  first_storms allows xs = record {
    strays = no_strays;
    flies = flies;
    called = record {
      long = refl;
      each = λ u r low. record {
        calm = λ e. refl;
        before = λ t at aloft. (refl, refl);
        after = λ t at down. absurd (let end = up u t at in let zero = fresh u in omega arith);
      };
      beyond = λ u r high. refl;
    };
  }

-- in the end all were made
pub round_by_rogues : {R : Type 0} (allows : R → Call → R → Type 0) (d : MissionData) (xs : List R) (s : Course R) (fl : Flight) →
    FliesByRogues allows d xs s → AreAllDone (flown d) s.machine s.left → layout_of s.machine ≡ d.layout →
    ((w : Strays) → Flies (flown d) w s.machine → IsRound (flown d) w (told (flown d) fl)) → IsRoundByRogues allows d xs fl s.rogues
round_by_rogues allows d xs s fl k done layout round = record {
  strays = k.strays;
  round = round k.strays k.flies;
  long = k.called.long;
  storms = λ u r t low at.
      let end = done u (low_unit d.units u low) in
      subst (λ (l : Layout). StormsBy allows (sifted l u) t.number (slice_index_or xs u r) t.strays (k.strays u) (slice_index_or s.rogues u r)) layout
      (subst (λ (n : ℕ). StormsBy allows (sifted (layout_of s.machine) u) t.number (slice_index_or xs u r) n (k.strays u) (slice_index_or s.rogues u r))
      (let none = end.1 in omega arith) ((k.called.each u r low).after t at end.0));
  calm = λ u r low none. (k.called.each u r low).calm none;
  beyond = k.called.beyond;
}

-- a unit of which calls are left, and which is down, has turned
pub spender_turned : (d : MissionData) (x : Machine) (u left : ℕ) → IsLeft d x u left → 0 < left → IsDown (flown d) x u → HasTurnedIn x u
spender_turned d x u left k some down = by_storm (storm_at d u) refl
  where
    by_storm : (o : Option StormEntry) → storm_at d u ≡ o → HasTurnedIn x u
    by_storm None is = absurd (let none = k.calm is in omega arith)
    by_storm (Some t) is = (k.after t is down).1
