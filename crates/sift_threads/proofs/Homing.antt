-- Units that have come home have flown.
use Rattle.std.proofs.Common.{◌≡◌, ℕ, ◌-◌, ◌≤◌, List, [], Option, Some, None, refl, sym, ap, ◌∙◌, subst, arith}
use Rattle.std.proofs.lemmas.List.{length-map}
use Rattle.sift_buffer.specs.Conduct.{Conduct, Stray}
use Rattle.sift_buffer.specs.Views.{View}
use Rattle.sift_rogue.specs.Storms.{Call, StormsBy, sifted}
use Rattle.sift_script.specs.declared.script.StormEntry.{StormEntry}
use Rattle.sift_mission.specs.Data.{MissionData}
use Rattle.sift_mission.specs.Flown.{flown}
use Rattle.sift_conduct.specs.Conduct.{account_of}
use Rattle.sift_unit.specs.Down.{DownLaw, HasFlownAll}
use Rattle.sift_seat.specs.Storms.{storm_at}
use Rattle.sift_seat.specs.Seats.{Place, end_of, storm_of, IsStraying, IsManned, IsDone, Came}
use Rattle.sift_seat.specs.laws.Ends.{end_low}
use Rattle.sift_threads.specs.Flown.{HasLanded, HasStrayed, HasFlown}

-- no option is both
pub none_some : {A : Type 0} {x : A} {o : Option A} → o ≡ None → o ≡ Some x → ⊥
none_some none some = let e : None ≡ Some _ = sym none ∙ some in cc

-- a seat whose unit flies came of itself
pub came_first : {T R : Type 0} (follows : T → List Stray → T → Type 0) (allows : R → Call → R → Type 0) (d : MissionData) → ((a : T) → follows a [] a) →
    (x : Place T R) → x.seat.left ≡ None → Came follows allows d x x
came_first follows allows d itself x up = record {
  unit = refl;
  strays = [];
  port = itself x.port;
  flies = λ none. (refl, refl);
  turned = λ left storm some storm_is. absurd (none_some up some);
}

-- a unit that came home
module _ {T R : Type 0} (view : T → View) (follows : T → List Stray → T → Type 0) (allows : R → Call → R → Type 0) (law : DownLaw) (d : MissionData)
    (x y : Place T R) (came : Came follows allows d x y) (man : IsManned d (view y.port) y.seat) (done : IsDone d (view y.port) y.seat)
    (strays_are : (view y.port).conduct.strays ≡ came.strays) where
  abbrev c : Conduct
  c = (view y.port).conduct

  abbrev u : ℕ
  u = y.seat.board.unit

  same_storm : storm_of d y.seat ≡ storm_of d x.seat
  same_storm = ap (λ (v : ℕ). storm_at d v) came.unit

  straying : (left : ℕ) → y.seat.left ≡ Some left → IsStraying d (view y.port) y.seat left
  straying = man.strays

  -- it is at the end, or has turned
  down : (o : Option ℕ) → y.seat.left ≡ o → end_of d ≤ c.progress
  down None up = let e = (done.landed up).0 in omega arith
  down (Some left) some = let is = (straying left some).number in let most = end_low (flown d) man.drives.fits in omega arith

  calm : (o : Option ℕ) → y.seat.left ≡ o → storm_of d y.seat ≡ None → HasLanded d x.rogue c y.rogue
  calm None up none = let flew = came.flies up in record { progress = (done.landed up).0; strays = strays_are ∙ flew.1; rogue = flew.0 }
  calm (Some left) some none = absurd (none_some none (straying left some).storm_is)

  stormed : (o : Option ℕ) → y.seat.left ≡ o → (storm : StormEntry) → storm_of d y.seat ≡ Some storm → HasStrayed allows d u storm x.rogue c y.rogue
  stormed None up storm is = absurd (none_some (done.landed up).1 is)
  stormed (Some left) some storm is = let zero = done.spent left some in let all : storm.strays - left ≡ storm.strays = omega arith in record {
    progress = (straying left some).number;
    rogue =
        subst (λ (ss : List Stray). StormsBy allows (sifted d.layout u) storm.number x.rogue storm.strays ss y.rogue) (sym strays_are)
        (subst (λ (v : ℕ). StormsBy allows (sifted d.layout v) storm.number x.rogue storm.strays came.strays y.rogue) (sym came.unit)
        (subst (λ (n : ℕ). StormsBy allows (sifted d.layout x.seat.board.unit) storm.number x.rogue n came.strays y.rogue) all
        (came.turned left storm some (sym same_storm ∙ is))));
  }

  all : HasFlownAll (flown d) y.seat.board (view y.port)
  all = law (flown d) y.seat.board (view y.port) man.drives (down y.seat.left refl)

  pub flown_home : HasFlown allows d u x.rogue c y.seat.board.accounts.items y.rogue
  flown_home = record {
    kept = all.kept;
    count = sym (length-map y.seat.board.accounts.items account_of) ∙ all.count;
    calm = calm y.seat.left refl;
    storm = stormed y.seat.left refl;
  }

  -- it has flown the unit of which it came
  pub flown_as : (v : ℕ) (r : R) (b : Conduct) → x.seat.board.unit ≡ v → x.rogue ≡ r → c ≡ b →
      HasFlown allows d v r b y.seat.board.accounts.items y.rogue
  flown_as v r b unit rogue conduct =
      subst (λ (w : ℕ). HasFlown allows d w r b y.seat.board.accounts.items y.rogue) (came.unit ∙ unit)
      (subst (λ (s : R). HasFlown allows d u s b y.seat.board.accounts.items y.rogue) rogue
      (subst (λ (e : Conduct). HasFlown allows d u x.rogue e y.seat.board.accounts.items y.rogue) conduct flown_home))
