-- Round flights are whole, by induction over frames.
use Rattle.std.proofs.Common.{◌≡◌, ℕ, zero, suc, ◌+◌, ◌*◌, ◌<◌, ◌≤◌, Bool, true, false, Option, None, Some, ℤ, pos, ◌+ℤ◌}
use Rattle.std.proofs.Common.{inl, inr, refl, ap, subst, arith}
use Rattle.std.proofs.lemmas.Bool.{cases_Bool, cases_lt, cases_eq, le-ltb, lt-ltb}
use Rattle.std.proofs.lemmas.Int.{ints}
use Rattle.sift_base.specs.Units.{has}
use Rattle.sift_clock.specs.Distance.{IsWithin}
use Rattle.sift_skew.proofs.lemmas.Changes.{offsets_change_little}
use Rattle.sift_mission.specs.Data.{IsConfigOf, FlownMission}
use Rattle.sift_mission.specs.Flown.{flown}
use Rattle.sift_mission.specs.Premises.{IsFlyable, PartsMakeItFlyable}
use Rattle.sift_mission.specs.Slots.{has_turned, turned_by}
use Rattle.sift_conduct.specs.Conduct.{Account, reading_by}
use Rattle.sift_conduct.specs.Frames.{frame_of, FrameConduct}
use Rattle.sift_conduct.specs.laws.NextConfigs.{next_is_config}
use Rattle.sift_flight.specs.Flight.{Flight, unit_of, Strays, IsRound}
use Rattle.sift_flight.specs.Told.{AreAccountsOf, IsAccountOf, told}
use Rattle.sift_flight.specs.Whole.{RoundFlightsAreWhole, RoundFlightsHaveAccounts}
use Rattle.sift_flight.proofs.Blaming.{caught_inside, nobody_caught}

-- a test isn't passed and failed
never_both : (b : Bool) → b ≡ true → b ≡ false → ⊥
never_both true t f = cc
never_both false t f = cc

-- the most that an offset changes in a frame
abbrev change : ℕ
change = 10000

-- the farthest offset after so many frames
abbrev reach : ℕ → ℤ
reach n = pos (change + change * n)

-- who has turned stays turned
pub still_before : (storm : Option ℕ) (g f : ℕ) → g ≤ f → turned_by storm f ≡ false → turned_by storm g ≡ false
still_before None g f early still = refl
still_before (Some from) g f early still = elim (cases_lt f from) [
  | inl before ↦ rw (lt-ltb g from (omega arith)) refl
  | inr after ↦ let off = le-ltb f from after in absurd cc
]

-- an account's configurations are the mission's, and its offsets within the reach of its frame
record Reaches (m : FlownMission) (fl : Flight) (u f : ℕ) : Type 0 where
  pub config : IsConfigOf m (fl.account u f).cfg
  pub next_config : IsConfigOf m (fl.account u f).next_cfg
  pub clock : IsWithin (reach f) (fl.account u f).clk (pos 0)
  pub next_clock : IsWithin (reach (suc f)) (fl.account u f).next_clk (pos 0)

module _ (m : FlownMission) (flyable : IsFlyable m) (near : (u : ℕ) → has m.units u ≡ true → IsWithin (pos change) (m.offset u) (pos 0))
    (strays : Strays) (fl : Flight) (round : IsRound m strays fl) where
  conduct : (u f : ℕ) → has m.units u ≡ true → f < m.frames → has_turned m u f ≡ false → FrameConduct m u (unit_of fl u) f
  conduct u f unit low still = (round f low).conduct u (record { unit = unit; whole = still })

  -- the offset of the next frame is near to that of this
  changes : (u f : ℕ) → has m.units u ≡ true → f < m.frames → has_turned m u f ≡ false
      → IsWithin (pos change) (fl.account u f).next_clk (fl.account u f).clk
  changes u f unit low still = elim (cases_Bool (has (fl.account u f).cfg u)) [
    | inl there ↦
        let busy = (conduct u f unit low still).busy there in
        let kept = flyable.clocks.admitted.kept in
        let told_apart = flyable.clocks.admitted.told in
        let drift = flyable.clocks.drifts u unit in
        let error = flyable.clocks.errors u u unit unit in
        let read = reading_by (frame_of m u (unit_of fl u) f) in
        let near_by = offsets_change_little (m.skew +ℤ m.error) m.rate (fl.account u f).cfg read (fl.account u f).clk (m.drift u) u there (omega (arith, ints)) drift in
        let same = busy.next_clk in
        rw same (omega (arith, ints, near_by.0), omega (arith, ints, near_by.1))
    | inr away ↦
        let idle = (conduct u f unit low still).idle away in
        rw (ap (λ (z : Account). z.next_clk) idle) (omega (arith, ints), omega (arith, ints))
  ]

  -- so is the next configuration one of the mission
  next_config_is : (u f : ℕ) → has m.units u ≡ true → f < m.frames → has_turned m u f ≡ false
      → IsConfigOf m (fl.account u f).cfg → IsConfigOf m (fl.account u f).next_cfg
  next_config_is u f unit low still config = elim (cases_Bool (has (fl.account u f).cfg u)) [
    | inl there ↦
        let busy = (conduct u f unit low still).busy there in
        rw busy.next_cfg (next_is_config m _ (fl.account u f).cfg config)
    | inr away ↦
        let idle = (conduct u f unit low still).idle away in
        rw (ap (λ (z : Account). z.next_cfg) idle) config
  ]

  -- what a frame begins with decides what it ends with
  reaches_from : (u f : ℕ) → has m.units u ≡ true → f < m.frames → has_turned m u f ≡ false
      → IsConfigOf m (fl.account u f).cfg → IsWithin (reach f) (fl.account u f).clk (pos 0) → Reaches m fl u f
  reaches_from u f unit low still config clock =
      let far = changes u f unit low still in
      record {
        config = config;
        next_config = next_config_is u f unit low still config;
        clock = clock;
        next_clock = (omega (arith, ints, far.0, far.1, clock.0, clock.1), omega (arith, ints, far.0, far.1, clock.0, clock.1));
      }

  reaches : (u f : ℕ) → has m.units u ≡ true → f < m.frames → has_turned m u f ≡ false → Reaches m fl u f
  reaches u zero unit low still =
      let first = (conduct u zero unit low still).begins in
      reaches_from u zero unit low still (rw first.0 flyable.fits.config) (rw first.1 (near u unit))
  reaches u (suc f) unit low still =
      let before = reaches u f unit (omega arith) (still_before (m.storm u) f (suc f) (omega arith) still) in
      let begins = (conduct u (suc f) unit low still).begins in
      reaches_from u (suc f) unit low still (rw begins.0 before.next_config) (rw begins.1 before.next_clock)

  -- so each account is one of its unit
  account_is : (u f : ℕ) → has m.units u ≡ true → f < m.frames → has_turned m u f ≡ false → IsAccountOf m u (fl.account u f)
  account_is u f unit low still =
      let r = reaches u f unit low still in
      let few = flyable.fits.counted.frames in
      let c = conduct u f unit low still in
      record {
        config = r.config;
        next_config = r.next_config;
        clock = (omega (arith, ints, r.clock.0, r.clock.1), omega (arith, ints, r.clock.0, r.clock.1));
        next_clock = (omega (arith, ints, r.next_clock.0, r.next_clock.1), omega (arith, ints, r.next_clock.0, r.next_clock.1));
        idle = elim (cases_Bool (has (fl.account u f).cfg u)) [
          | inl there ↦ ((λ e. absurd (never_both _ e (c.busy there).busy)), (λ e. absurd (never_both _ there e)))
          | inr away ↦ ((λ e. away), (λ e. ap (λ (z : Account). z.idle) (c.idle away)))
        ];
        inputs = λ busy. elim (cases_Bool (has (fl.account u f).cfg u)) [
          | inl there ↦ (c.busy there).inputs_count
          | inr away ↦ absurd (never_both _ (ap (λ (z : Account). z.idle) (c.idle away)) busy)
        ];
        outputs = λ busy. elim (cases_Bool (has (fl.account u f).cfg u)) [
          | inl there ↦ (c.busy there).outputs_count
          | inr away ↦ absurd (never_both _ (ap (λ (z : Account). z.idle) (c.idle away)) busy)
        ];
        caught_inside = elim (cases_Bool (has (fl.account u f).cfg u)) [
          | inl there ↦ caught_inside (frame_of m u (unit_of fl u) f) (c.busy there)
          | inr away ↦ (λ v t. absurd (never_both _ t (nobody_caught _ v (ap (λ (z : Account). z.bad) (c.idle away)))))
        ];
      }

  -- who is idle is outside its configuration in the next frame too
  idle_next : (u f : ℕ) → has m.units u ≡ true → suc f < m.frames → has_turned m u (suc f) ≡ false
      → (fl.account u f).idle ≡ true → (fl.account u (suc f)).idle ≡ true
  idle_next u f unit low still idle =
      let before = still_before (m.storm u) f (suc f) (omega arith) still in
      let away = (account_is u f unit (omega arith) before).idle.0 idle in
      let stays = ap (λ (z : Account). z.next_cfg) ((conduct u f unit (omega arith) before).idle away) in
      let begins = (conduct u (suc f) unit low still).begins in
      let out : has (fl.account u (suc f)).cfg u ≡ false = rw (begins.0, stays) away in
      ap (λ (z : Account). z.idle) ((conduct u (suc f) unit low still).idle out)

  idle_later : (u f later : ℕ) → has m.units u ≡ true → f ≤ later → later < m.frames → has_turned m u later ≡ false
      → (fl.account u f).idle ≡ true → (fl.account u later).idle ≡ true
  idle_later u f zero unit early low still idle = subst (λ g. (fl.account u g).idle ≡ true) (omega arith) idle
  idle_later u f (suc later) unit early low still idle = elim (cases_eq f (suc later)) [
    | inl same ↦ subst (λ g. (fl.account u g).idle ≡ true) same idle
    | inr other ↦
        idle_next u later unit low still
        (idle_later u f later unit (omega arith) (omega arith) (still_before (m.storm u) later (suc later) (omega arith) still) idle)
  ]

  accounts_are : AreAccountsOf m fl
  accounts_are = record { each = account_is; idle = idle_later }

-- offsets at the start are near
starts_near : (m : FlownMission) → IsFlyable m → (u : ℕ) → has m.units u ≡ true → IsWithin (pos change) (m.offset u) (pos 0)
starts_near m flyable u unit =
    let start = flyable.fits.clocks.starts u unit in
    (omega (arith, ints, start.0, start.1), omega (arith, ints, start.0, start.1))

-- the accounts of each round flight of a mission that can be flown are those of its units
pub round_flights_have_accounts : RoundFlightsHaveAccounts
round_flights_have_accounts m strays fl flyable round = accounts_are m flyable (starts_near m flyable) strays fl round

-- a flight of a mission whose parts fit is whole, where each unit has its journal and its accounts and what they tell is round
pub round_flights_are_whole : PartsMakeItFlyable → RoundFlightsAreWhole
round_flights_are_whole flies d strays fl fit logged round = record {
  logged = logged;
  accounts = round_flights_have_accounts (flown d) strays (told (flown d) fl) (flies d fit).0 round;
}
