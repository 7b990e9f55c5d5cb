-- Boards from their first step on.
use Rattle.std.proofs.Common.{◌≡◌, ℕ, ◌+◌, ◌*◌, ◌<◌, ◌≤◌, List, [], map, length, Bool, true, false, Some, sym, ap, ◌∙◌, subst, arith}
use Rattle.std.specs.Prelude.{slice_index_or, ℤ, Option}
use Rattle.std.proofs.lemmas.List.{length-map}
use Rattle.sift_buffer.specs.Conduct.{never}
use Rattle.sift_buffer.specs.Conduct.{Conduct as Acts}
use Rattle.sift_mission.specs.Fits.{Fits}
use Rattle.sift_mission.specs.Data.{FlownMission}
use Rattle.sift_mission.specs.laws.ByWords.{get_or-map_default}
use Rattle.sift_conduct.specs.Conduct.{Account, account_of}
use Rattle.sift_conduct.specs.declared.account.Account.{Account as TheAccount}
use Rattle.sift_unit_frame.specs.Memory.{Memory}
use Rattle.sift_unit_frame.specs.Memories.{memory_of}
use Rattle.sift_unit.specs.Desk.{Desk, first_desk}
use Rattle.sift_unit.specs.Keeping.{Flying, KeepsAs}
use Rattle.sift_unit.specs.Reach.{IsNearIn}
use Rattle.sift_unit.specs.Boards.{desk_of, account_at, NewBoardLaw, DriveLaw, AccountLaw}
use Rattle.sift_unit.proofs.Nearness.{near_enough}
use Rattle.sift_unit.proofs.Standing.{stands}
use Rattle.sift_unit.proofs.Marks.{kept_as, range_as, flying_as, not_never, at_end, end_not_never}
use Rattle.sift_unit.proofs.Starting.{start_flying}
use Rattle.sift_unit.proofs.Turning.{keep_law, kept_underway}

-- a board at the first place, with what its unit starts with, is a first one
pub first_is : (m : FlownMission) (u : ℕ) (cfg last : List ℕ) (clk : ℤ) (accounts : List TheAccount) (places : List (Option ℕ)) (memory : Memory) →
    cfg ≡ m.units → clk ≡ m.offset u → last ≡ m.starts → accounts ≡ [] →
    record (first_desk m u places memory) { cfg = cfg; clk = clk; last = last; accounts = map account_of accounts } ≡ first_desk m u places memory
first_is m u cfg last clk accounts places memory ec el ew ea =
    λ i. record (first_desk m u places memory) { cfg = ec i; clk = el i; last = ew i; accounts = map account_of (ea i) }

-- a new board may step
pub new_board_law : NewBoardLaw
new_board_law m u b v unit new ev of fresh =
    let mine : b.unit ≡ u = ap (λ (z : Desk). z.unit) new.desk in
    record {
      fits = new.fits;
      storms = new.storms;
      unit = ev ∙ sym mine;
      ranges = of;
      frames = new.frames;
      storm = new.storm ∙ ap m.storm (sym mine);
      keeps = flying_as m b.turned (desk_of b) v.conduct new.turned (subst (λ z. Flying m z v.conduct) (sym new.desk)
          (start_flying m u b.places (memory_of b.memory) v.conduct new.fits unit new.places new.shape fresh));
    }

-- a board that has stepped has kept to its conduct
pub drive_law : DriveLaw
drive_law m b v d =
    let keeps = kept_as m b.turned (desk_of b) v.conduct d.keeps in
    record {
      ended = λ n far. keep_law m (desk_of b) v.conduct n d.fits keeps far;
      underway = kept_underway m d.fits (desk_of b) v.conduct keeps;
    }

-- what its count of frames is, by its unit's number
record Counted (m : FlownMission) (b : Desk) (c : Acts) : Type 0 where
  landed : c.progress ≡ m.frames * m.period → b.frame ≡ m.frames
  turned : c.progress ≡ never → m.storm b.unit ≡ Some b.frame

counted : (m : FlownMission) → Fits m → (turned : Bool) (b : Desk) (c : Acts) → KeepsAs m turned b c → Counted m b c
counted m fit true b c k = record { landed = λ end. absurd (end_not_never m fit (sym k.progress ∙ end)); turned = λ gone. k.storm }
counted m fit false b c k = record { landed = at_end m fit b c k.going; turned = λ gone. absurd (not_never m fit b c k.going gone) }

-- a board that has stepped has its accounts
pub account_law : AccountLaw
account_law m b v d =
    let r = range_as m b.turned (desk_of b) v.conduct d.keeps in
    let counts = counted m d.fits b.turned (desk_of b) v.conduct d.keeps in
    let count : length b.accounts.items ≡ b.frame = sym (length-map b.accounts.items account_of) ∙ r.count in
    let read : (f : ℕ) (a : TheAccount) → slice_index_or (desk_of b).accounts f (account_of a) ≡ account_of (account_at b f a)
    = λ f a. get_or-map_default account_of b.accounts.items f a in
    let low : (f : ℕ) → f < b.frame → f ≤ 1000 = λ f below. (let most = r.frame in let few = d.fits.counted.frames in omega arith) in
    let later : (f : ℕ) → f < b.frame → f + 1 ≤ 1000 = λ f below. (let most = r.frame in let few = d.fits.counted.frames in omega arith) in
    record {
      frames = r.frame;
      count = count;
      landed = λ end. count ∙ counts.landed end;
      turned = λ gone. counts.turned gone ∙ ap Some (sym count);
      each = λ f a below.
          sym (read f a) ∙ sym ((stands m (desk_of b) v.conduct r).accounts f (account_of a) below);
      clk = λ f a below. near_enough f (account_at b f a).clk (low f below) (subst (λ (z : Account). IsNearIn f z.clk) (read f a) (r.clocks f (account_of a) below).clk);
      next_clk = λ f a below.
          near_enough (f + 1) (account_at b f a).next_clk (later f below) (subst (λ (z : Account). IsNearIn (f + 1) z.next_clk) (read f a) (r.clocks f (account_of a) below).next_clk);
    }
