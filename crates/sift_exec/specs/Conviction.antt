-- Whom a unit caught, and conviction: a unit is configured out where at least two other units name it in their reports.
use Rattle.std.specs.Prelude.{ℕ, Bool, ◌≡◌, ◌≤◌, List, [], ◌∷◌, length, true, false, not, ◌&&◌, nat_eq, nat_lt, nat_le, if◌then◌else◌, count_by}
use Rattle.std.specs.FinSet as set
use Rattle.std.specs.List.{filter}
use Rattle.sift_base.specs.Units.{Units, holds, has, others, has_bit, HasMargin}
use Rattle.sift_base.specs.Layout.{least_units}
use Rattle.sift_config.specs.Config.{remaining}
use Rattle.sift_exec.specs.declared.catches.Catches.{Catches}
use Rattle.sift_exec.specs.declared.catches.Kind.{Kind}
use Rattle.sift_exec.specs.declared.catches.Kinds.{Kinds}
use Rattle.sift_exec.specs.declared.catches.Kind.TheVariants.{Poll, Relay, Clock}

-- ---- whom a unit caught in a frame: a set of units for each way of being caught

-- no unit was caught
abbrev pub nobody : Catches
nobody = record { poll = set.empty; relay = set.empty; clock = set.empty }

-- one unit more was caught in this way
abbrev pub noted : Catches → ℕ → Kind → Catches
noted caught u Poll = record caught { poll = set.insert caught.poll u }
noted caught u Relay = record caught { relay = set.insert caught.relay u }
noted caught u Clock = record caught { clock = set.insert caught.clock u }

-- the units that were caught in some way
abbrev pub everyone_in : Catches → Units
everyone_in caught = set.union (set.union caught.poll caught.relay) caught.clock

-- the ways in which a unit was caught
abbrev pub kinds_of : Catches → ℕ → Kinds
kinds_of caught u = record { poll = holds caught.poll u; relay = holds caught.relay u; clock = holds caught.clock u }

-- the way is among these
abbrev pub has_kind : Kinds → Kind → Bool
has_kind kinds Poll = kinds.poll
has_kind kinds Relay = kinds.relay
has_kind kinds Clock = kinds.clock

-- ---- who is convicted

-- u is convicted: it is a unit of the configuration that at least two others name in their reports
abbrev pub is_convicted : (ℕ → ℕ → Bool) → List ℕ → ℕ → Bool
is_convicted names us u = has us u && nat_lt 1 (count_by (λ r. names r u) (others u us))

-- the report of a unit, where each unit of the list has one, in their order
abbrev pub report_by : List ℕ → List ℕ → ℕ → ℕ
report_by [] reports u = 0
report_by (v ∷ us) [] u = 0
report_by (v ∷ us) (report ∷ reports) u = if nat_eq v u then report else report_by us reports u

-- a unit's report names another where it has its bit
abbrev pub names_by : List ℕ → List ℕ → ℕ → ℕ → Bool
names_by us reports r u = has_bit (report_by us reports r) u

-- the configuration without the convicted units, where at least four remain, else the configuration
abbrev pub next_units : List ℕ → Units → List ℕ
next_units us convicted = if nat_le least_units (length (remaining us convicted)) then remaining us convicted else us

-- the units of the configuration that aren't convicted
abbrev pub kept_by : (ℕ → ℕ → Bool) → List ℕ → List ℕ
kept_by names us = filter (λ u. not (is_convicted names us u)) us

-- the next configuration on these reports: the units that aren't convicted, where at least four are left, else the configuration
abbrev pub next_by : (ℕ → ℕ → Bool) → List ℕ → List ℕ
next_by names us = if nat_le least_units (length (kept_by names us)) then kept_by names us else us

-- ---- the law

-- how many working units name u
abbrev pub working_accusers : (ℕ → Bool) → (ℕ → ℕ → Bool) → List ℕ → ℕ → ℕ
working_accusers works names us u = count_by (λ r. works r && names r u) us

-- no working unit of the configuration names a working one
abbrev pub NamesNoWorking : (ℕ → Bool) → (ℕ → ℕ → Bool) → List ℕ → Type 0
NamesNoWorking works names us =
    (r u : ℕ) → has us r ≡ true → works r ≡ true → has us u ≡ true → works u ≡ true → names r u ≡ false

-- what conviction does within the margin: no working unit is convicted, exactly those are that two working units name, and four units remain
pub record IsJust (works : ℕ → Bool) (us : List ℕ) (names : ℕ → ℕ → Bool) : Type 0 where
  pub safe : (u : ℕ) → has us u ≡ true → works u ≡ true → is_convicted names us u ≡ false
  pub exact : (u : ℕ) → has us u ≡ true → is_convicted names us u ≡ nat_lt 1 (working_accusers works names us u)
  pub enough : least_units ≤ length (kept_by names us)

-- conviction is just, where no working unit names a working one
abbrev pub ConvictionIsJust : Type 0
ConvictionIsJust = (works : ℕ → Bool) (us : List ℕ) (names : ℕ → ℕ → Bool) →
    HasMargin works us → NamesNoWorking works names us → IsJust works us names
