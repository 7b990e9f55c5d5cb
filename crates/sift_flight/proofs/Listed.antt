-- What the lists of a flight hold of a unit in a frame in which it flies.
use Rattle.std.proofs.Common.{◌≡◌, ◌<◌, ℕ, [], length, map, get_or, false, Option, None, Some, sym, ap, subst, ◌∙◌, inl, inr, arith, Vec}
use Rattle.std.specs.declared.alloc.Global.{Global}
use Rattle.std.proofs.lemmas.Bool.{cases_lt, le-ltb}
use Rattle.std.proofs.lemmas.List.{get_or-map, length-map}
use Rattle.std.proofs.lemmas.List.FromFn.{length-range_with_len}
use Rattle.sift_base.specs.laws.Ranges.{range-has}
use Rattle.sift_mission.specs.Slots.{has_turned, turned_by}
use Rattle.sift_mission.specs.Parts.{flown_of}
use Rattle.sift_mission.specs.Premises.{IsFlyable}
use Rattle.sift_mission.specs.declared.mission.MissionParts.{MissionParts}
use Rattle.sift_conduct.specs.Conduct.{account_of}
use Rattle.sift_conduct.specs.declared.account.Account.{Account as TheAccount}
use Rattle.sift_conduct.specs.Frames.{frames_before}
use Rattle.sift_flight.specs.Figures.{Works}
use Rattle.sift_flight.specs.Told.{IsAccountOf, IsWhole, accounts_of, no_account, told}
use Rattle.sift_flight.specs.declared.flight.Flight.{Flight as TheFlight}

-- a frame in which a unit hasn't turned is one before it turns
pub frame_flown : (storm : Option ℕ) (frames f : ℕ) → f < frames → turned_by storm f ≡ false → f < frames_before storm frames
frame_flown None frames f low still = low
frame_flown (Some from) frames f low still = elim (cases_lt f from) [
  | inl before ↦ omega arith
  | inr after ↦ let off = le-ltb f from after in cc
]

-- a unit's row of accounts in the lists of a flight
module _ (fl : TheFlight) (u : ℕ) (row : Vec TheAccount Global) (low : u < length fl.accounts.items) (is : row ≡ get_or fl.accounts.items u row) where
  -- the accounts of a unit are those in its row
  row_is : accounts_of fl u ≡ map account_of row.items
  row_is =
      get_or-map (λ (accounts : Vec TheAccount Global). map account_of accounts.items) fl.accounts.items u row [] low
      ∙ ap (λ (r : Vec TheAccount Global). map account_of r.items) (sym is)

  -- there are as many
  in_row : (f : ℕ) → f < length (accounts_of fl u) → f < length row.items
  in_row f few = subst (λ n. f < n) (ap length row_is ∙ length-map row.items account_of) few

  -- and the account of a frame is that at its place
  account_in_row : (f : ℕ) (a : TheAccount) → f < length row.items → a ≡ get_or row.items f a
      → account_of a ≡ get_or (accounts_of fl u) f no_account
  account_in_row f a there at =
      ap account_of at ∙ sym (get_or-map account_of row.items f a no_account there) ∙ ap (λ accounts. get_or accounts f no_account) (sym row_is)

-- a unit that works in a frame of a whole flight, and its row
module _ (parts : MissionParts) (flyable : IsFlyable (flown_of parts)) (fl : TheFlight) (u f : ℕ) (whole : IsWhole (flown_of parts) parts.layout fl)
    (works : Works (flown_of parts) u f) (low : f < parts.frames) (row : Vec TheAccount Global) (is : row ≡ get_or fl.accounts.items u row) where
  -- the unit has a row
  in_lists : u < length fl.accounts.items
  in_lists =
      let below = range-has 0 parts.units u works.unit in
      let many = whole.logged.lists in
      omega (arith, below.1, length-range_with_len 0 parts.units)

  -- it hasn't turned
  still : has_turned (flown_of parts) u f ≡ false
  still = flyable.script.whole u f works.works

  -- so its row has a place for the frame
  pub has_place : f < length row.items
  has_place =
      let few = frame_flown ((flown_of parts).storm u) parts.frames f low still in
      let many = whole.logged.accounts u works.unit in
      in_row fl u row in_lists is f (omega arith)

  -- which holds the account that is told
  pub place_told : (a : TheAccount) → a ≡ get_or row.items f a → account_of a ≡ (told (flown_of parts) fl).account u f
  place_told a at = account_in_row fl u row in_lists is f a has_place at

  -- and this is one of the unit
  pub place_account : (a : TheAccount) → a ≡ get_or row.items f a → IsAccountOf (flown_of parts) u (account_of a)
  place_account a at = subst (IsAccountOf (flown_of parts) u) (sym (place_told a at)) (whole.accounts.each u f works.unit low still)
