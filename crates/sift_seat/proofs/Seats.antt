-- Turns of seats: what they keep, and what comes of them.
use Rattle.std.proofs.Common.{◌≡◌, ⊎_elim, ℕ, ◌+◌, ◌-◌, ◌<◌, ◌≤◌, List, [], ◌++◌, Option, Some, None, option_map, option_to_list, refl, sym, ap, ◌∙◌, subst, arith}
use Rattle.sift_buffer.specs.Conduct.{Stray, never}
use Rattle.sift_buffer.specs.Views.{View}
use Rattle.sift_rogue.specs.Storms.{Call, Started, StormsAddUp, Shoots, sifted, stray_of, StormsBy}
use Rattle.sift_script.specs.declared.script.StormEntry.{StormEntry}
use Rattle.sift_mission.specs.Data.{MissionData, FlownMission}
use Rattle.sift_mission.specs.Flown.{flown}
use Rattle.sift_unit.specs.Boards.{desk_of, Drives}
use Rattle.sift_unit.specs.Down.{StrayLaw}
use Rattle.sift_unit.specs.Stepping.{Steps}
use Rattle.sift_unit.specs.declared.board.Board.{Board}
use Rattle.sift_unit.specs.declared.board.Stepped.{Stepped}
use Rattle.sift_unit.specs.declared.board.Stepped.TheVariants.{Moved, NotYet, Turned, Landed}
use Rattle.sift_seat.specs.Storms.{BeginsStorm, storm_at}
use Rattle.sift_seat.specs.Seats.{Place, end_of, storm_of, sifted_at, HasNotTurned, IsStraying, IsManned, IsDone, StoresNext, Comes}
use Rattle.sift_seat.specs.declared.seat.Seat.{Seat}
use Rattle.sift_seat.specs.laws.Ends.{end_low}
use Rattle.sift_seat.proofs.Boards.{KeepsPlace, step_place, entered_progress, turned_left, below_end, above_end}

-- an option is none, or some
pub none_some : {A : Type 0} {x : A} {o : Option A} → o ≡ None → o ≡ Some x → ⊥
none_some none some = let e : None ≡ Some _ = sym none ∙ some in cc

-- an option whose value is mapped to none is none, and one that is mapped to some is some
none_of : {A B : Type 0} (f : A → B) (o : Option A) → option_map f o ≡ None → o ≡ None
none_of f None e = refl
none_of f (Some x) e = absurd cc

some_of : {A B : Type 0} (f : A → B) (o : Option A) (y : B) → option_map f o ≡ Some y → (x : A) × (o ≡ Some x)
some_of f None y e = absurd cc
some_of f (Some x) y e = (x, refl)

-- ---- one step of the board

module _ (d : MissionData) (v : View) (x : Seat) (man : IsManned d v x) (up : x.left ≡ None)
    (y : Seat) (w : View) (drives : Drives (flown d) y.board w) (same : y.left ≡ x.left) (stands : ℕ → ℕ → Type 0) where
  abbrev m : FlownMission
  m = flown d

  -- what an answer tells
  abbrev Tells : Stepped → Type 0
  Tells r = Steps m (desk_of x.board) v r (desk_of y.board) w stands

  still_up : y.left ≡ None
  still_up = same ∙ up

  flew : HasNotTurned d v
  flew = man.flies up

  place_kept : (r : Stepped) → Tells r → KeepsPlace v w
  place_kept r tells = step_place m (desk_of x.board) v r (desk_of y.board) w stands tells

  manned : (r : Stepped) → Tells r → HasNotTurned d w → IsManned d w y
  manned r tells flies = record {
    drives = drives;
    ranges = (place_kept r tells).ranges ∙ man.ranges;
    flies = λ none. flies;
    strays = λ left some. absurd (none_some still_up some);
  }

  -- a seat whose unit has moved is manned still
  pub manned_moved : Tells Moved → IsManned d w y
  manned_moved tells = manned Moved tells (record { flies = tells.flies; low = (let low = below_end m y.board w drives tells.flies tells.unfinished in omega arith) })

  -- a seat whose unit waits for another is manned still
  pub manned_waits : (q n : ℕ) → Tells (NotYet q n) → IsManned d w y
  manned_waits q n tells = manned (NotYet q n) tells (record {
    flies = tells.0.flies;
    low = (let frame = tells.0.frame in let under = tells.0.unfinished in let low = below_end m y.board w drives tells.0.flies (omega arith) in omega arith);
  })

  landed_low : Tells Landed → w.conduct.progress ≤ end_of d
  landed_low tells = ⊎_elim
      (λ kept. let e = ap (λ (z : View). z.conduct.progress) kept.1 in let low = flew.low in omega arith)
      (λ enters. let e = entered_progress v w enters.1 in
      let low = below_end m x.board v man.drives flew.flies enters.0 in omega arith) tells.cause

  -- a seat whose unit has landed is manned still
  pub manned_landed : Tells Landed → IsManned d w y
  manned_landed tells = manned Landed tells (record { flies = tells.flies; low = landed_low tells })

  -- the board is the same unit's
  pub unit_kept : (r : Stepped) → Tells r → y.board.unit ≡ x.board.unit
  unit_kept r tells = sym drives.unit ∙ ((place_kept r tells).unit ∙ man.drives.unit)

  -- no turn is left for a seat whose unit has landed
  pub done_landed : Tells Landed → IsDone d w y
  done_landed tells = record {
    landed = λ none. (
      (let most = landed_low tells in let least = above_end m y.board w drives tells.flies tells.ended in omega arith),
      none_of (λ (storm : StormEntry). storm.from) (storm_of d y) tells.calm,
    );
    spent = λ left some. absurd (none_some still_up some);
  }

  -- who turned has a storm
  pub storm_turned : Tells Turned → (storm : StormEntry) × (storm_of d y ≡ Some storm)
  storm_turned tells = some_of (λ (storm : StormEntry). storm.from) (storm_of d y) y.board.frame tells.storm

  left_turned : Tells Turned → w.conduct.left < never
  left_turned tells = let low = flew.low in let most = end_low m man.drives.fits in ⊎_elim
      (λ kept. absurd (let e = ap (λ (z : View). z.conduct.progress) kept.1 in let is = tells.number in omega arith))
      (λ turn. let e = turned_left v w turn.1 in omega arith) tells.cause

  module _ {R : Type 0} (allows : R → Call → R → Type 0) (u : ℕ) (here : u ≡ y.board.unit) (r s : R) (z : Seat)
      (begins : BeginsStorm allows d u y r z s) where
    -- a seat whose unit has turned is manned still, once its storm has begun
    pub manned_begun : Tells Turned → IsManned d w z
    manned_begun tells = record {
      drives = subst (λ (b : Board). Drives m b w) (sym begins.board) drives;
      ranges = (place_kept Turned tells).ranges ∙ man.ranges;
      flies = λ none. absurd (none_some none begins.left);
      strays = λ left some. record {
        turned = left_turned tells;
        number = tells.number;
        storm = begins.storm;
        storm_is = ap (λ (b : Board). storm_at d b.unit) begins.board ∙ (ap (λ (i : ℕ). storm_at d i) (sym here) ∙ begins.storm_is);
        few = (let e : Some begins.storm.strays ≡ Some left = sym begins.left ∙ some in let all : begins.storm.strays ≡ left = cc in omega arith);
      };
    }

-- ---- one call of the rogue

-- at most as many calls are left as its storm has strays
pub few_of : (d : MissionData) (v : View) (x : Seat) (left : ℕ) → IsStraying d v x left → (storm : StormEntry) → storm_of d x ≡ Some storm → left ≤ storm.strays
few_of d v x left straying storm is =
    let same : straying.storm ≡ storm = (let e : Some straying.storm ≡ Some storm = sym straying.storm_is ∙ is in cc) in
    subst (λ (s : StormEntry). left ≤ s.strays) same straying.few

module _ {T R : Type 0} (view : T → View) (follows : T → List Stray → T → Type 0) (allows : R → Call → R → Type 0) (d : MissionData)
    (x y : Place T R) (man : IsManned d (view x.port) x.seat) (next : StoresNext view follows allows d x y) where
  straying : IsStraying d (view x.port) x.seat next.called.left
  straying = man.strays next.called.left next.called.before

  -- a seat whose rogue was asked for its next act is manned still, with one call less left
  pub manned_stored : StrayLaw → IsManned d (view y.port) y.seat
  manned_stored law = record {
    drives = subst (λ (b : Board). Drives (flown d) b (view y.port)) (sym next.called.board)
        (law (flown d) x.seat.board (view x.port) (view y.port) man.drives next.view_is);
    ranges = ap (λ (v : View). v.ranges) next.view_is ∙ man.ranges;
    flies = λ none. absurd (none_some none next.called.now);
    strays = λ n some. record {
      turned = (let e = ap (λ (v : View). v.conduct.left) next.view_is in let low = straying.turned in omega arith);
      number = ap (λ (v : View). v.conduct.progress) next.view_is ∙ straying.number;
      storm = straying.storm;
      storm_is = ap (λ (b : Board). storm_at d b.unit) next.called.board ∙ straying.storm_is;
      few = (let fewer = straying.few in let e : Some (next.called.left - 1) ≡ Some n = sym next.called.now ∙ some in let less : next.called.left - 1 ≡ n = cc in
          omega arith);
    };
  }

-- ---- what comes of them

module _ {T R : Type 0} (follows : T → List Stray → T → Type 0) (allows : R → Call → R → Type 0) (d : MissionData)
    (on : (a b c : T) (earlier later : List Stray) → follows a earlier b → follows b later c → follows a (later ++ earlier) c) where
  -- by a step of the board, of a seat that stays as it was
  pub comes_stepped : (x y : Place T R) → y.seat.board.unit ≡ x.seat.board.unit → y.seat.left ≡ x.seat.left → y.rogue ≡ x.rogue → follows x.port [] y.port →
      Comes follows allows d x y
  comes_stepped x y unit left rogue step w came = record {
    unit = unit ∙ came.unit;
    strays = came.strays;
    port = on w.port x.port y.port came.strays [] came.port step;
    flies = λ none. let flew = came.flies (sym left ∙ none) in (rogue ∙ flew.0, flew.1);
    turned = λ n storm some is.
        subst (λ (r : R). StormsBy allows (sifted_at d w.seat) storm.number w.rogue (storm.strays - n) came.strays r) (sym rogue)
        (came.turned n storm (sym left ∙ some) is);
  }

  module _ (laws : StormsAddUp allows) where
    -- by a storm that began
    pub comes_begun : (x z : Place T R) (u : ℕ) → x.seat.left ≡ None → z.port ≡ x.port → u ≡ x.seat.board.unit →
        BeginsStorm allows d u x.seat x.rogue z.seat z.rogue → Comes follows allows d x z
    comes_begun x z u up port here begins w came = record {
      unit = ap (λ (b : Board). b.unit) begins.board ∙ came.unit;
      strays = came.strays;
      port = subst (λ (p : T). follows w.port came.strays p) (sym port) came.port;
      flies = λ none. absurd (none_some none begins.left);
      turned = λ left storm some storm_is.
          let flew = came.flies up in
          let e : Some begins.storm ≡ Some storm = sym begins.storm_is ∙ (ap (λ (i : ℕ). storm_at d i) (here ∙ came.unit) ∙ storm_is) in
          let same : begins.storm ≡ storm = cc in
          let f : Some left ≡ Some begins.storm.strays = sym some ∙ begins.left in
          let l : left ≡ begins.storm.strays = cc in
          let all : left ≡ storm.strays = l ∙ ap (λ (s : StormEntry). s.strays) same in
          let zero : 0 ≡ storm.strays - left = omega arith in
          let start : allows w.rogue (Started storm.number) z.rogue = subst (λ (s : StormEntry). allows w.rogue (Started s.number) z.rogue) same
          (subst (λ (r : R). allows r (Started begins.storm.number) z.rogue) flew.0 begins.start) in
          subst (λ (ss : List Stray). StormsBy allows (sifted_at d w.seat) storm.number w.rogue (storm.strays - left) ss z.rogue) (sym flew.1)
          (subst (λ (n : ℕ). StormsBy allows (sifted_at d w.seat) storm.number w.rogue n [] z.rogue) zero
          (laws.begins (sifted_at d w.seat) storm.number w.rogue z.rogue start));
    }

    -- by a call of `next`
    pub comes_stored : (view : T → View) (x y : Place T R) → IsManned d (view x.port) x.seat → StoresNext view follows allows d x y → Comes follows allows d x y
    comes_stored view x y man next w came = record {
      unit = ap (λ (b : Board). b.unit) next.called.board ∙ came.unit;
      strays = option_to_list (option_map stray_of next.shot) ++ came.strays;
      port = on w.port x.port y.port came.strays (option_to_list (option_map stray_of next.shot)) came.port next.port;
      flies = λ none. absurd (none_some none next.called.now);
      turned = λ n storm same storm_is.
          let left : ℕ = next.called.left in
          let fewer : left ≤ storm.strays = few_of d (view x.port) x.seat left (man.strays left next.called.before) storm
          (ap (λ (i : ℕ). storm_at d i) came.unit ∙ storm_is) in
          let some = next.called.some in
          let e : Some (left - 1) ≡ Some n = sym next.called.now ∙ same in
          let less : left - 1 ≡ n = cc in
          let one : storm.strays - left + 1 ≡ storm.strays - n = omega arith in
          let shoots : Shoots allows (sifted_at d w.seat) x.rogue next.shot y.rogue =
          subst (λ (i : ℕ). Shoots allows (sifted d.layout i) x.rogue next.shot y.rogue) came.unit next.called.shoots in
          subst (λ (k : ℕ). StormsBy allows (sifted_at d w.seat) storm.number w.rogue k (option_to_list (option_map stray_of next.shot) ++ came.strays) y.rogue) one
          (laws.goes_on (sifted_at d w.seat) (record { number = storm.number; count = storm.strays - left; strays = came.strays }) w.rogue x.rogue y.rogue next.shot
          (came.turned left storm next.called.before storm_is) shoots);
    }
