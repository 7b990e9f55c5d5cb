-- Oral messages, after Lamport, Shostak and Pease: units tell one another a word, and relay it to one another in so many
-- rounds. A path is the list of the units that a word came through, the last of them first. What a unit heard by a path is
-- a word or absence; on the empty path it is what the unit holds itself.
use Rattle.std.specs.Prelude.{◌≡◌, ℕ, zero, suc, List, ◌∷◌, map, filter, Bool, true, not, Option, Some}
use Rattle.sift_base.specs.Units.{has}
use Rattle.sift_vote.specs.Majority.{agreed_of}

-- what each unit heard by each path
abbrev pub Hearing : Type 0
Hearing = (path : List ℕ) → (unit : ℕ) → Option ℕ

-- the units that aren't in the path
abbrev pub outside : (units path : List ℕ) → List ℕ
outside units path = filter (λ u. not (has path u)) units

-- the result of unit q for a path, with so many rounds of relaying behind it: what q heard, after the last round; else the
-- agreed word of what q heard and of q's results for the path with each unit added that is neither q nor in it
abbrev pub result_of : List ℕ → Hearing → (rounds : ℕ) → (path : List ℕ) → (q : ℕ) → Option ℕ
result_of units heard zero path q = heard path q
result_of units heard (suc rounds) path q =
    Some (agreed_of (heard path q ∷ map (λ r. result_of units heard rounds (r ∷ path) q) (outside units (q ∷ path))))

-- loyal units tell each unit what they heard themselves
abbrev pub LoyalUnitsRelay : (loyal : ℕ → Bool) → Hearing → Type 0
LoyalUnitsRelay loyal heard = (r : ℕ) (path : List ℕ) (q : ℕ) → loyal r ≡ true → heard (r ∷ path) q ≡ heard path r
