-- What the flight of all units of an ether leaves.
use Rattle.std.specs.Prelude.{◌≡◌, ℕ, ◌*◌, ◌<◌, ◌≤◌, List, [], Vec, length, map, slice_index_or, Some, None}
use Rattle.std.specs.declared.alloc.Global.{Global}
use Rattle.sift_buffer.specs.Conduct.{Conduct, never}
use Rattle.sift_mission.specs.Data.{MissionData}
use Rattle.sift_mission.specs.Flown.{flown}
use Rattle.sift_conduct.specs.Conduct.{Account, account_of}
use Rattle.sift_conduct.specs.Acts.{BoardKeeps}
use Rattle.sift_conduct.specs.Frames.{frames_before}
use Rattle.sift_conduct.specs.declared.account.Account.{Account as TheAccount}
use Rattle.sift_rogue.specs.Storms.{Call, Storms, sifted}
use Rattle.sift_script.specs.declared.script.StormEntry.{StormEntry}
use Rattle.sift_ether.specs.Tokens.{AreTokensOf, conduct_at}
use Rattle.sift_ether.specs.declared.ether.Ether.{Ether}
use Rattle.sift_seat.specs.Storms.{storm_at}
use Rattle.sift_threads.specs.declared.flight.Flown.{Flown}

-- a unit without a storm has landed: it is at the subframe after the last, it has stored no stray, and its rogue is as it was
pub record HasLanded {R : Type 0} (d : MissionData) (x : R) (c : Conduct) (y : R) : Type 0 where
  pub progress : c.progress ≡ d.frames * d.period
  pub strays : c.strays ≡ []
  pub rogue : y ≡ x

-- a unit with a storm has turned; its rogue was called once by `start` with the storm's number, and then by `next` once for each of the storm's
-- strays, and those to which its acts come are the strays that the unit has stored
pub record HasStrayed {R : Type 0} (allows : R → Call → R → Type 0) (d : MissionData) (u : ℕ) (storm : StormEntry) (x : R) (c : Conduct) (y : R) : Type 0 where
  pub progress : c.progress ≡ never
  pub rogue : Storms allows (sifted d.layout u) (record { number = storm.number; count = storm.strays; strays = c.strays }) x y

module _ {R : Type 0} (allows : R → Call → R → Type 0) (d : MissionData) where
  -- a unit has flown, with its rogue, which was x before: by its accounts its acts are those of its board's conduct in all frames in which it
  -- flies, and there is one account for each of these frames; and it has landed, or it has turned and stored its strays
  pub record HasFlown (u : ℕ) (x : R) (c : Conduct) (accounts : List TheAccount) (y : R) : Type 0 where
    pub kept : (absent : Account) → BoardKeeps (flown d) u c (λ f. slice_index_or (map account_of accounts) f absent) d.frames
    pub count : length accounts ≡ frames_before ((flown d).storm u) d.frames
    pub calm : storm_at d u ≡ None → HasLanded d x c y
    pub storm : (storm : StormEntry) → storm_at d u ≡ Some storm → HasStrayed allows d u storm x c y

  -- all units have flown: all tokens are there, in the order of their units, with a list of accounts for each, and the rogues, which were xs
  -- before; those beyond the units are as they were
  pub record HaveFlown (e : Ether) (xs : List R) (fl : Flown R) : Type 0 where
    pub tokens : AreTokensOf e fl.tokens.items
    pub lists : length fl.accounts.items ≡ d.units
    pub long : length fl.rogues.items ≡ length xs
    pub each : (u : ℕ) (accounts : Vec TheAccount Global) (r : R) → u < d.units →
        HasFlown u (slice_index_or xs u r) (conduct_at fl.tokens.items u) (slice_index_or fl.accounts.items u accounts).items (slice_index_or fl.rogues.items u r)
    pub beyond : (u : ℕ) (r : R) → d.units ≤ u → slice_index_or fl.rogues.items u r ≡ slice_index_or xs u r
