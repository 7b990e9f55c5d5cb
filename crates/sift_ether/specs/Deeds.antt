-- What a unit's deeds come to: its conduct, and the unit as a port.
use Rattle.std.specs.Prelude.{◌≡◌, ℕ, zero, suc, ◌+◌, List, [], ◌∷◌}
use Rattle.sift_buffer.specs.Ranges.{Ranges}
use Rattle.sift_buffer.specs.Conduct.{Conduct, Stray, fresh, with_seen, with_said, with_heard, with_entered, with_turned, with_stray}
use Rattle.sift_buffer.specs.Ledgers.{Ledger, conduct_with}
use Rattle.sift_buffer.specs.Views.{View, Sight, count_after}
use Rattle.sift_ether.specs.declared.rule.Chronicle.{Chronicle}
use Rattle.sift_ether.specs.declared.rule.Deed.{Deed}
use Rattle.sift_ether.specs.declared.rule.Deed.TheVariants.{Looked, Said, Heard, Entered, Turned, Strayed}

-- a conduct, and one deed more
abbrev pub with_deed : Conduct → Deed → Conduct
with_deed d (Looked p n) = with_seen d p n
with_deed d (Said f k q s w) = with_said d f k q s w
with_deed d (Heard f k p s w) = with_heard d f k p s w
with_deed d Entered = with_entered d
with_deed d Turned = with_turned d
with_deed d (Strayed q k x) = with_stray d q k x

-- the conduct that deeds come to, the newest first
abbrev pub conduct_after : List Deed → Conduct
conduct_after [] = fresh
conduct_after (e ∷ es) = with_deed (conduct_after es) e

-- a count of looks, and one deed more
abbrev pub count_with : ℕ → Deed → ℕ
count_with n (Looked p found) = count_after n
count_with n (Said f k q s w) = n
count_with n (Heard f k p s w) = n
count_with n Entered = n
count_with n Turned = n
count_with n (Strayed q k x) = n

-- how many looks there are among the deeds
abbrev pub looks_in : List Deed → ℕ
looks_in [] = 0
looks_in (e ∷ es) = count_with (looks_in es) e

-- a last look, and one deed more
abbrev pub last_with : Sight → Deed → Sight
last_with x (Looked p n) = record { unit = p; number = n }
last_with x (Said f k q s w) = x
last_with x (Heard f k p s w) = x
last_with x Entered = x
last_with x Turned = x
last_with x (Strayed q k c) = x

-- the last look among the deeds
abbrev pub last_in : List Deed → Sight
last_in [] = record { unit = 0; number = 0 }
last_in (e ∷ es) = last_with (last_in es) e

-- how a unit conducted itself, by its chronicle
abbrev pub conduct_by : Chronicle → Conduct
conduct_by c = conduct_after c.deeds

-- its strays, by its chronicle
abbrev pub strays_by : Chronicle → List Stray
strays_by c = (conduct_by c).strays

-- the unit as a port, by its chronicle
abbrev pub view_by : Ranges → Chronicle → View
view_by r c = record { ranges = r; unit = c.unit; conduct = conduct_by c; looks = looks_in c.deeds; last = last_in c.deeds }

-- the chronicle with one deed more, before which so many were done by all units
abbrev pub chronicle_with : Chronicle → ℕ → Deed → Chronicle
chronicle_with c place e = record c { deeds = e ∷ c.deeds; places = place ∷ c.places }

-- the chronicle of a unit that has done nothing
abbrev pub blank : ℕ → Chronicle
blank u = record { unit = u; deeds = []; places = [] }

-- the chronicles of n units that have done nothing, from the unit u on
abbrev pub blanks_from : ℕ → ℕ → List Chronicle
blanks_from u zero = []
blanks_from u (suc n) = blank u ∷ blanks_from (u + 1) n

-- the acts note all that the chronicle tells but its strays
abbrev pub AreNoted : Ledger → Chronicle → Type 0
AreNoted acts c = conduct_with acts (strays_by c) ≡ conduct_by c
