-- What faulty clocks show, and the runs in which they show it.
use Rattle.std.specs.Prelude.{◌≡◌, ℕ, ◌+◌, List, [], ◌∷◌, length, map, Option, ℤ}
use Rattle.std.specs.List.{flat_map}
use Rattle.sift_clocklab.specs.Laboratory.{Laboratory, Run, working_clocks, faulty_clocks}
use Rattle.sift_clocklab.specs.Rounds.{run_offsets}

-- a faulty clock shows a working one a reading, or nothing, in a round
pub record Showing : Type 0 where
  pub round : ℕ
  pub clock : ℕ
  pub to : ℕ
  pub reading : Option ℤ

-- the showing of these numbers and this answer
abbrev pub showing : ℕ → ℕ → ℕ → Option ℤ → Showing
showing round clock to reading = record { round = round; clock = clock; to = to; reading = reading }

-- a faulty clock, and the working one to which it shows something
pub record Pair : Type 0 where
  pub clock : ℕ
  pub to : ℕ

-- the pairs of which a clock is shown something, by each faulty clock in turn
abbrev pub pairs_to : List ℕ → ℕ → List Pair
pairs_to faulty q = map (λ p. record { clock = p; to = q }) faulty

-- the pairs of a round, in the order in which they show and are shown: clock by clock what each faulty one shows it
abbrev pub pairs_of : Laboratory → List Pair
pairs_of lab = flat_map (pairs_to (faulty_clocks lab)) (working_clocks lab)

module _ {F : Type 0} (allows : F → Showing → F → Type 0) where
  -- in a round these pairs show these readings one after the other, each by a step that is allowed
  abbrev pub ShowsInTurn : ℕ → F → List Pair → List (Option ℤ) → F → Type 0
  ShowsInTurn round x [] [] y = y ≡ x
  ShowsInTurn round x [] (reading ∷ readings) y = ⊥
  ShowsInTurn round x (pair ∷ pairs) [] y = ⊥
  ShowsInTurn round x (pair ∷ pairs) (reading ∷ readings) z =
      (y : F) × allows x (showing round pair.clock pair.to reading) y × ShowsInTurn round y pairs readings z

  -- from this round on all pairs show these readings, round by round
  abbrev pub ShowsRounds : List Pair → ℕ → F → List (List (Option ℤ)) → F → Type 0
  ShowsRounds pairs round x [] y = y ≡ x
  ShowsRounds pairs round x (shown ∷ rounds) z =
      (y : F) × ShowsInTurn round x pairs shown y × ShowsRounds pairs (round + 1) y rounds z

  -- so a laboratory runs, and so the face of its faulty clocks comes from the first to the last
  pub record Runs (lab : Laboratory) (x : F) (run : Run) (y : F) : Type 0 where
    pub rounds : length run.shown ≡ lab.rounds
    pub shown : ShowsRounds (pairs_of lab) 0 x run.shown y
    pub offsets : run.offsets ≡ run_offsets lab run.shown
