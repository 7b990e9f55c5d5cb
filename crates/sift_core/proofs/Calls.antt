-- Calls of rogues at the seats of a machine: what they leave as it was, and how many are left.
use Rattle.std.proofs.Common.{◌≡◌, ℕ, ◌+◌, ◌-◌, ◌<◌, Vec, List, map, length, slice_index, slice_index_or, slice_set, Option, Some, None, IfSome, refl, sym, ap, ◌∙◌, subst, arith}
use Rattle.std.specs.declared.alloc.Global.{Global}
use Rattle.std.proofs.lemmas.List.{get_or-map, get_or_default, map-set}
use Rattle.std.proofs.Math.Seq.{map-set_same}
use Rattle.sift_base.specs.declared.slots.Layout.{Layout}
use Rattle.sift_buffer.specs.Conduct.{Stray, never}
use Rattle.sift_buffer.specs.Ranges.{IsCell}
use Rattle.sift_buffer.specs.Lawful.{Lawful}
use Rattle.sift_buffer.specs.Racks.{IsStored, Stands, ranges_for, core_of, conduct_at, view_at}
use Rattle.sift_buffer.specs.Reaches.{Reaches}
use Rattle.sift_buffer.specs.declared.rack.Rack.{Rack}
use Rattle.sift_config.specs.Config.{first_units}
use Rattle.sift_mission.specs.Data.{MissionData, FlownMission}
use Rattle.sift_rogue.specs.Storms.{Call, Started, Shoots, sifted}
use Rattle.sift_rogue.specs.declared.rogue.Shot.{Shot}
use Rattle.sift_script.specs.declared.script.StormEntry.{StormEntry}
use Rattle.sift_flight.specs.Flight.{Strays}
use Rattle.sift_seat.specs.Storms.{BeginsStorm as BeginsAt, CallsNext, calls_by, calls_left, storm_at}
use Rattle.sift_seat.specs.declared.seat.Seat.{Seat}
use Rattle.sift_unit.specs.Boards.{desk_of, Drives}
use Rattle.sift_unit.specs.Stepping.{Steps}
use Rattle.sift_unit.specs.declared.board.Board.{Board}
use Rattle.sift_unit.specs.declared.board.Stepped.{Stepped}
use Rattle.sift_core.specs.Courses.{BeginsStorm, IsCalled, lefts}
use Rattle.sift_core.specs.Machines.{Flies, HasTurnedIn, IsButForCalls, boards_of, layout_of}
use Rattle.sift_core.specs.Steps.{StepsUnit, Stores}
use Rattle.sift_core.specs.declared.machine.Machine.{Machine}

-- ---- what stays

module _ (y z : Machine) (same : IsButForCalls y z) where
  -- a machine flies on whatever calls of rogues are made
  pub flies_on : (m : FlownMission) (w : Strays) → Flies m w y → Flies m w z
  flies_on m w f = record {
    units = f.units ∙ ap (λ (k : Rack). first_units k.grid.layout.units) (sym same.rack);
    lawful = subst (λ (k : Rack). Lawful (ranges_for k) (core_of k w)) (sym same.rack) f.lawful;
    count = ap length same.boards ∙ (f.count ∙ ap (λ (k : Rack). k.grid.layout.units) (sym same.rack));
    frames = ap (λ (k : Rack). k.grid.frames) same.rack ∙ f.frames;
    drives = λ u e low. subst (λ (p : Rack × List Board). Drives m (slice_index_or p.1 u e) (view_at p.0 u)) (λ i. (sym same.rack i, sym same.boards i))
        (f.drives u e (subst (λ (k : Rack). u < k.grid.layout.units) same.rack low));
  }

  -- a step and a call after it are a step of the same answer
  pub stepped_on : (m : FlownMission) (u : ℕ) (x : Machine) (r : Stepped) → StepsUnit m u x r y → StepsUnit m u x r z
  stepped_on m u x r s = record {
    layout = ap (λ (k : Rack). k.grid.layout) same.rack ∙ s.layout;
    reaches = λ w. subst (λ (k : Rack). Reaches (ranges_for x.rack) u (core_of x.rack w) (core_of k w)) (sym same.rack) (s.reaches w);
    others = λ p e ne. ap (λ (bs : List Board). slice_index_or bs p e) same.boards ∙ s.others p e ne;
    outcome = λ e. subst (λ (p : Rack × List Board). Steps m (desk_of (slice_index_or (boards_of x) u e)) (view_at x.rack u) r (desk_of (slice_index_or p.1 u e))
        (view_at p.0 u) (Stands p.0)) (λ i. (sym same.rack i, sym same.boards i)) (s.outcome e);
  }

  -- a stray that is stored after a call is stored of the machine before it
  pub stored_on : (u : ℕ) (o : Option Stray) (x : Machine) → Stores u o z x → Stores u o y x
  stored_on u None x s = record { rack = s.rack ∙ same.rack; boards = s.boards ∙ same.boards }
  stored_on u (Some t) x s = record {
    rack = subst (λ (k : Rack). IsStored k u t x.rack) same.rack s.rack;
    boards = s.boards ∙ same.boards;
  }

-- where the same seats stand, as many calls are left
pub same_lefts : (d : MissionData) (x y : Machine) → y.seats ≡ x.seats → lefts d y ≡ lefts d x
same_lefts d x y same = ap (λ (ss : Vec Seat Global). map (calls_left d) ss.items) same

-- ---- one call

-- the rogue at a unit's place, whatever stands for rogues that aren't there
pub rogue_at : {R : Type 0} (xs : List R) (u at : ℕ) (d : R) → u < length xs → at ≡ u → (q : R) → slice_index_or xs u q ≡ slice_index_or xs at d
rogue_at xs u at d low here q = get_or_default xs u q d low ∙ sym (ap (λ (i : ℕ). slice_index_or xs i d) here)

-- the number at a unit's place is that of its seat
pub left_at : (d : MissionData) (x : Machine) (u at : ℕ) (s : Seat) → u < length x.seats.items → at ≡ u → s ≡ slice_index_or x.seats.items at s →
    slice_index (lefts d x) u ≡ calls_left d s
left_at d x u at s low here is = get_or-map (calls_left d) x.seats.items u s 0 low
    ∙ ap (calls_left d) (sym (is ∙ ap (λ (i : ℕ). slice_index_or x.seats.items i s) here))

module _ (x : Machine) (u at : ℕ) (here : at ≡ u) (s s' : Seat) (is : s ≡ slice_index_or x.seats.items at s) (low : u < length x.seats.items)
    (ss : Vec Seat Global) (set : ss.items ≡ slice_set x.seats.items at s') (board : s'.board ≡ s.board) where
  -- the machine after it
  abbrev y : Machine
  y = record { rack = x.rack; seats = ss }

  -- no board has changed
  pub but_for_calls : IsButForCalls x y
  but_for_calls = record {
    rack = refl;
    boards = ap (map (λ (z : Seat). z.board)) set
        ∙ map-set_same (λ (z : Seat). z.board) x.seats.items at s' s (board ∙ ap (λ (z : Seat). z.board) is);
  }

  -- the number of this unit alone has changed
  left_set : (d : MissionData) → lefts d y ≡ slice_set (lefts d x) u (calls_left d s')
  left_set d = ap (map (calls_left d)) set ∙ (map-set (calls_left d) x.seats.items at s' ∙ ap (λ (i : ℕ). slice_set (lefts d x) i (calls_left d s')) here)

  -- and is one less
  one_less : (d : MissionData) → calls_left d s' ≡ slice_index (lefts d x) u - 1 → lefts d y ≡ slice_set (lefts d x) u (slice_index (lefts d x) u - 1)
  one_less d less = left_set d ∙ ap (slice_set (lefts d x) u) less

  module _ {R : Type 0} (allows : R → Call → R → Type 0) (xs ys : List R) (r r' : R) (was : (q : R) → slice_index_or xs u q ≡ r) (after : ys ≡ slice_set xs u r') where
    -- the storm began: `start` was called, and is one call less
    pub storm_begun : (d : MissionData) → BeginsAt allows d u s r s' r' →
        ((storm : StormEntry) → storm_at d u ≡ Some storm → slice_index (lefts d x) u ≡ storm.strays + 1) → BeginsStorm allows d u xs (lefts d x) ys (lefts d y)
    storm_begun d begins all = record {
      storm = begins.storm;
      storm_is = begins.storm_is;
      called = record {
        after = r';
        called = λ q. subst (λ (z : R). allows z (Started begins.storm.number) r') (sym (was q)) begins.start;
        rogues = after;
        left_is = one_less d (ap (calls_by (storm_at d s'.board.unit)) begins.left ∙ (let one = all begins.storm begins.storm_is in
            let less : begins.storm.strays ≡ slice_index (lefts d x) u - 1 = omega arith in less));
      };
    }

    -- the rogue was asked for its next act
    pub next_called : (l : Layout) (o : Option Shot) → CallsNext allows l u s r o s' r' → (d : MissionData) →
        IsCalled (λ a b. Shoots allows (sifted l u) a o b) u xs (lefts d x) ys (lefts d y)
    next_called l o next d = record {
      after = r';
      called = λ q. subst (λ (z : R). Shoots allows (sifted l u) z o r') (sym (was q)) next.shoots;
      rogues = after;
      left_is = one_less d (ap (calls_by (storm_at d s'.board.unit)) next.now ∙ (let one : slice_index (lefts d x) u ≡ next.left =
          left_at d x u at s low here is ∙ ap (calls_by (storm_at d s.board.unit)) next.before in
          let less : next.left - 1 ≡ slice_index (lefts d x) u - 1 = ap (λ (n : ℕ). n - 1) (sym one) in less));
    }

-- ---- a call and its shot

-- the rogue was asked for its next act, and the seats are as this left them
pub spends_called : {R : Type 0} (by : R → R → Type 0) (d : MissionData) (u : ℕ) (x between y : Machine) (xs ys : List R) → y.seats ≡ between.seats →
    IsCalled by u xs (lefts d x) ys (lefts d between) → IsCalled by u xs (lefts d x) ys (lefts d y)
spends_called by d u x between y xs ys seats called =
    subst (λ (ls : List ℕ). IsCalled by u xs (lefts d x) ys ls) (sym (same_lefts d between y seats)) called

-- the unit has turned still, and is one of the rack's
pub still_turned : (x y : Machine) (u : ℕ) → IsButForCalls x y → HasTurnedIn x u → HasTurnedIn y u
still_turned x y u same turned = subst (λ (k : Rack). (conduct_at k u).progress ≡ never) (sym same.rack) turned

pub still_low : (x y : Machine) (u : ℕ) → IsButForCalls x y → u < (layout_of x).units → u < (layout_of y).units
still_low x y u same low = subst (λ (k : Rack). u < k.grid.layout.units) (sym same.rack) low

pub still_there : (x y : Machine) (u : ℕ) (o : Option Shot) → IsButForCalls x y → IfSome o (λ s. IsCell (ranges_for x.rack) u s.to s.slot) →
    IfSome o (λ s. IsCell (ranges_for y.rack) u s.to s.slot)
still_there x y u o same there = subst (λ (k : Rack). IfSome o (λ s. IsCell (ranges_for k) u s.to s.slot)) (sym same.rack) there
