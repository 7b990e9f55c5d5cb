-- What contracts see of a port, and what its calls make of it.
use Rattle.std.specs.Prelude.{◌≡◌, ◌≢◌, ℕ, ◌+◌, ◌<◌, ◌≤◌, ◌==◌, if◌then◌else◌, min, List, [], ◌∷◌, length, Option, Some, None, ⊤}
use Rattle.sift_buffer.specs.Ranges.{Ranges}
use Rattle.sift_buffer.specs.Conduct.{Conduct, fresh, with_seen, with_said, with_heard, with_entered, with_turned}
use Rattle.sift_buffer.specs.Conditions.{MaySay, MayHear, MayStray, PassesGate}
use Rattle.sift_buffer.specs.declared.port.Entering.{Entering}
use Rattle.sift_buffer.specs.declared.port.Entering.TheVariants.{Entered, NotYet}

-- a look: a unit, and the progress number loaded from it
pub record Sight : Type 0 where
  pub unit : ℕ
  pub number : ℕ

-- a port: how many units, slots and frames there are, its unit, this unit's conduct, a count of its looks, and the last of them
pub record View : Type 0 where
  pub ranges : Ranges
  pub unit : ℕ
  pub conduct : Conduct
  pub looks : ℕ
  pub last : Sight

-- a port on which nothing was done
abbrev pub fresh_view : Ranges → ℕ → View
fresh_view r u = record { ranges = r; unit = u; conduct = fresh; looks = 0; last = record { unit = 0; number = 0 } }

-- at which the count of looks stands still
abbrev pub look_limit : ℕ
look_limit = 18446744073709551615

-- the count of looks, one look later
abbrev pub count_after : ℕ → ℕ
count_after looks = min (looks + 1) look_limit

-- the count of looks rose, or stands at its last value
abbrev pub HasLooked : ℕ → ℕ → Type 0
HasLooked before now = count_after before ≤ now

-- having looked at a unit and loaded this number
abbrev pub view_with_look : View → ℕ → ℕ → View
view_with_look v p n = record v { conduct = with_seen v.conduct p n; looks = count_after v.looks; last = record { unit = p; number = n } }

-- having said a word in a frame and slot to a unit
abbrev pub view_with_said : View → ℕ → ℕ → ℕ → ℕ → Option ℕ → View
view_with_said v f k q s w = record v { conduct = with_said v.conduct f k q s w }

-- having heard a word in a frame and slot from a unit
abbrev pub view_with_heard : View → ℕ → ℕ → ℕ → ℕ → Option ℕ → View
view_with_heard v f k p s w = record v { conduct = with_heard v.conduct f k p s w }

-- having entered the next subframe
abbrev pub view_with_entered : View → View
view_with_entered v = record v { conduct = with_entered v.conduct }

-- having turned
abbrev pub view_with_turned : View → View
view_with_turned v = record v { conduct = with_turned v.conduct }

-- the same but for the strays of its unit, which a port may keep or not
abbrev pub IsButForStrays : View → View → Type 0
IsButForStrays v v' = v' ≡ record v { conduct = record v.conduct { strays = v'.conduct.strays } }

-- the port's unit may say in a slot to a unit, in a frame and with a stamp
abbrev pub PortMaySay : View → ℕ → ℕ → ℕ → ℕ → Type 0
PortMaySay v q k f s = MaySay v.ranges v.conduct v.unit q k f s

-- the port's unit may hear in a slot from a unit, in a frame and by a stamp
abbrev pub PortMayHear : View → ℕ → ℕ → ℕ → ℕ → Type 0
PortMayHear v p k f s = MayHear v.ranges v.conduct v.unit p k f s

-- the port's unit may store a stray for a unit in a slot
abbrev pub PortMayStray : View → ℕ → ℕ → Type 0
PortMayStray v q k = MayStray v.ranges v.conduct v.unit q k

-- it is a unit, and another than the port's
abbrev pub IsOther : View → ℕ → Type 0
IsOther v p = (p < v.ranges.units) × (p ≢ v.unit)

-- ---- a round of looks

-- having looked at the units from 0 on, as many as there are numbers, but at the own one; the numbers stand the last one first
abbrev pub view_with_looks : View → ℕ → List ℕ → View
view_with_looks v own [] = v
view_with_looks v own (n ∷ ns) = if length ns == own then view_with_looks v own ns else view_with_look (view_with_looks v own ns) (length ns) n

-- each number but the own unit's is this progress or more
abbrev pub AreReached : ℕ → ℕ → List ℕ → Type 0
AreReached own progress [] = ⊤
AreReached own progress (n ∷ ns) = (length ns ≢ own → progress ≤ n) × AreReached own progress ns

-- each unit below k but the own one was looked at, once and in ascending number, and found at the own progress or more
pub record LooksRound (v : View) (k : ℕ) (v' : View) : Type 0 where
  pub found : List ℕ
  pub all : length found ≡ k
  pub reached : AreReached v.unit v.conduct.progress found
  pub after : v' ≡ view_with_looks v v.unit found

-- what a round of looks leaves: all but what was seen, and the count of looks, which doesn't fall
pub record KeepsOwn (v v' : View) : Type 0 where
  pub ranges : v'.ranges ≡ v.ranges
  pub unit : v'.unit ≡ v.unit
  pub conduct : v'.conduct ≡ record v.conduct { seen = v'.conduct.seen }
  pub looks : min v.looks look_limit ≤ v'.looks

-- why a unit that was found behind is: this call loaded the number from it, it is below the own progress, and the count of looks rose
pub record HasCause (v : View) (p n : ℕ) (v' : View) : Type 0 where
  pub other : IsOther v p
  pub behind : n < v.conduct.progress
  pub last : v'.last ≡ record { unit = p; number = n }
  pub seen : v'.conduct.seen p ≡ n
  pub looked : HasLooked v.looks v'.looks

-- the looks found the other units below p at the own progress or more, and then p behind, at n
pub record FindsBehind (v : View) (p n : ℕ) (v' : View) : Type 0 where
  pub before : View
  pub looks_round : LooksRound v p before
  pub after : v' ≡ view_with_look before p n
  pub own : KeepsOwn v v'
  pub cause : HasCause v p n v'

-- the looks found all other units at the own progress or more, and so the unit passes the gate
pub record FindsNone (v v' : View) : Type 0 where
  pub looks_round : LooksRound v v.ranges.units v'
  pub own : KeepsOwn v v'
  pub gate : PassesGate v'.ranges v'.conduct v'.unit

-- what a round of looks found, up to the first unit that is behind
abbrev pub Decides : View → Option (ℕ × ℕ) → View → Type 0
Decides v None v' = FindsNone v v'
Decides v (Some x) v' = FindsBehind v x.0 x.1 v'

-- a round of looks found all other units at the own progress or more, and then the unit entered
pub record EntersAfterLooks (v v' : View) : Type 0 where
  pub before : View
  pub found_none : FindsNone v before
  pub after : v' ≡ view_with_entered before

-- what a try to enter found and left
abbrev pub Tries : View → Entering → View → Type 0
Tries v Entered v' = EntersAfterLooks v v'
Tries v (NotYet p n) v' = FindsBehind v p n v'

-- the unit turned: at progress 0 without a look, and else after a round of looks that found all other units at the own progress or more
pub data Turns (v v' : View) : Type 0 where
  at_once : v.conduct.progress ≡ 0 → v' ≡ view_with_turned v → Turns v v'
  after_looks : (before : View) → 0 < v.conduct.progress → FindsNone v before → v' ≡ view_with_turned before → Turns v v'

-- what a try to turn found and left
abbrev pub TriesTurn : View → Entering → View → Type 0
TriesTurn v Entered v' = Turns v v'
TriesTurn v (NotYet p n) v' = FindsBehind v p n v'

-- where a unit was found behind, what is said of it and its number
abbrev pub Finds : Entering → (ℕ → ℕ → Type 0) → Type 0
Finds Entered P = ⊤
Finds (NotYet p n) P = P p n
