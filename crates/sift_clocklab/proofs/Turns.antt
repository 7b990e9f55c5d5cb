-- One showing more, and one round of showings more.
use Rattle.std.proofs.Common.{◌≡◌, ℕ, suc, ◌+◌, List, [], ◌∷◌, ◌++◌, length, ℤ, Option, refl, subst, ap, sym, arith}
use Rattle.sift_clocklab.specs.Showing.{Showing, showing, Pair, ShowsInTurn, ShowsRounds}

module _ {F : Type 0} (allows : F → Showing → F → Type 0) where
  -- one showing more
  pub turn_more : (round : ℕ) (x : F) (pairs : List Pair) (readings : List (Option ℤ)) (y : F) (pair : Pair) (reading : Option ℤ) (z : F)
      → ShowsInTurn allows round x pairs readings y → allows y (showing round pair.clock pair.to reading) z
      → ShowsInTurn allows round x (pairs ++ pair ∷ []) (readings ++ reading ∷ []) z
  turn_more round x [] [] y pair reading z same step =
      (z, subst (λ (v : F). allows v (showing round pair.clock pair.to reading) z) same step, refl)
  turn_more round x [] (r ∷ readings) y pair reading z shows step = absurd shows
  turn_more round x (p ∷ pairs) [] y pair reading z shows step = absurd shows
  turn_more round x (p ∷ pairs) (r ∷ readings) y pair reading z shows step =
      (shows.0, shows.1, turn_more round shows.0 pairs readings y pair reading z shows.2 step)

  -- so, where the longer lists are given
  pub turn_more_as : (round : ℕ) (x : F) (pairs more_pairs : List Pair) (readings more_readings : List (Option ℤ)) (y : F) (pair : Pair)
      (reading : Option ℤ) (z : F) → more_pairs ≡ pairs ++ pair ∷ [] → more_readings ≡ readings ++ reading ∷ []
      → ShowsInTurn allows round x pairs readings y → allows y (showing round pair.clock pair.to reading) z
      → ShowsInTurn allows round x more_pairs more_readings z
  turn_more_as round x pairs more_pairs readings more_readings y pair reading z one_pair one_reading shows step =
      subst (λ (ps : List Pair). ShowsInTurn allows round x ps more_readings z) (sym one_pair)
      (subst (λ (rs : List (Option ℤ)). ShowsInTurn allows round x (pairs ++ pair ∷ []) rs z) (sym one_reading)
      (turn_more round x pairs readings y pair reading z shows step))

  -- as many readings are shown as there are pairs
  pub length-shown : (round : ℕ) (x : F) (pairs : List Pair) (readings : List (Option ℤ)) (y : F)
      → ShowsInTurn allows round x pairs readings y → length readings ≡ length pairs
  length-shown round x [] [] y shows = refl
  length-shown round x [] (r ∷ readings) y shows = absurd shows
  length-shown round x (p ∷ pairs) [] y shows = absurd shows
  length-shown round x (p ∷ pairs) (r ∷ readings) y shows = ap suc (length-shown round shows.0 pairs readings y shows.2)

  -- one round more
  pub round_more : (pairs : List Pair) (first : ℕ) (x : F) (rounds : List (List (Option ℤ))) (y : F) (shown : List (Option ℤ)) (z : F)
      → ShowsRounds allows pairs first x rounds y → ShowsInTurn allows (first + length rounds) y pairs shown z
      → ShowsRounds allows pairs first x (rounds ++ shown ∷ []) z
  round_more pairs first x [] y shown z same shows = (
    z,
    subst (λ (v : F). ShowsInTurn allows first v pairs shown z) same
        (subst (λ (k : ℕ). ShowsInTurn allows k y pairs shown z) (omega arith) shows),
    refl,
  )
  round_more pairs first x (readings ∷ rounds) y shown z before shows = (
    before.0,
    before.1,
    round_more pairs (first + 1) before.0 rounds y shown z before.2
        (subst (λ (k : ℕ). ShowsInTurn allows k y pairs shown z) (omega arith) shows),
  )

  -- so, where the longer list and the number of the round are given
  pub round_more_as : (pairs : List Pair) (x : F) (rounds more_rounds : List (List (Option ℤ))) (y : F) (round : ℕ) (shown : List (Option ℤ))
      (z : F) → more_rounds ≡ rounds ++ shown ∷ [] → round ≡ length rounds
      → ShowsRounds allows pairs 0 x rounds y → ShowsInTurn allows round y pairs shown z
      → ShowsRounds allows pairs 0 x more_rounds z
  round_more_as pairs x rounds more_rounds y round shown z one_round is_next before shows =
      subst (λ (rs : List (List (Option ℤ))). ShowsRounds allows pairs 0 x rs z) (sym one_round)
      (round_more pairs 0 x rounds y shown z before (subst (λ (k : ℕ). ShowsInTurn allows k y pairs shown z) (omega arith) shows))
