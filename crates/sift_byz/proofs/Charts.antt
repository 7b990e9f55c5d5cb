-- Charts, one after another: those of what was heard, and those of results.
use Rattle.std.proofs.Common.{◌≡◌, ℕ, suc, ◌+◌, ◌-◌, ◌*◌, ◌/◌, ◌%◌, ◌^◌, ◌<◌, List, [], ◌∷◌, ◌++◌, append_assoc, length, map, reverse, get_or, Option, None, Some, sym, ap, ◌∙◌, subst, arith}
use Rattle.std.specs.Prelude.{unwrap_or}
use Rattle.std.specs.List.{range_with_len}
use Rattle.std.proofs.lemmas.Nat.{div-mul-add, mod-mul-add, mod_below}
use Rattle.std.proofs.lemmas.List.FromFn.{get_or-map-range_with_len, length-map-range_with_len}
use Rattle.std.proofs.Math.Nat.{pow-suc}
use Rattle.sift_base.specs.laws.Ranges.{range-low}
use Rattle.sift_base.specs.laws.Counts.{map-same}
use Rattle.sift_vote.specs.Majority.{agreed_of}
use Rattle.sift_byz.specs.Charts.{Shows, ShowsHeard, ShowsResults, heard_at, path_in, places_at, relay_at}
use Rattle.sift_byz.specs.Plan.{ByzPlanData, all_units, first_lie, heard, value_of}
use Rattle.sift_byz.specs.Relaying.{outside, result_of}
use Rattle.sift_byz.proofs.Digits.{digit_below, longer, one_digit, pow-one, shorter, square}
use Rattle.sift_byz.proofs.Outside.{outside_has}

-- ---- paths

-- the digits so far, and then those of the rest, with one digit more
pub digit_more :
    (n count done rest row : ℕ) (old new : List ℕ) → done < count → new ≡ old ++ rest % n ∷ []
    → old ++ path_in n (count - done) rest ≡ path_in n count row → new ++ path_in n (count - (done + 1)) (rest / n) ≡ path_in n count row
digit_more n count done rest row old new low added so_far =
    let left : suc (count - (done + 1)) ≡ count - done = omega arith in
    ap (λ ds. ds ++ path_in n (count - (done + 1)) (rest / n)) added
    ∙ append_assoc old (rest % n ∷ []) (path_in n (count - (done + 1)) (rest / n))
    ∙ ap (λ k. old ++ path_in n k rest) left ∙ so_far

-- ---- a chart that was filled place by place

-- it shows what each of its places is
pub shows :
    (n count : ℕ) (what : List ℕ → ℕ → Option ℕ) (fill : ℕ → Option ℕ) (chart : List (Option ℕ)) (places : ℕ)
    → chart ≡ map fill (range_with_len 0 places) → places ≡ n ^ suc count
    → ((place : ℕ) → place < n ^ suc count → fill place ≡ what (path_in n count (place / n)) (place % n)) → Shows n count what chart
shows n count what fill chart places filled long each =
    let is : chart ≡ map fill (range_with_len 0 (n ^ suc count)) = filled ∙ ap (λ k. map fill (range_with_len 0 k)) long in record {
      long = ap length is ∙ length-map-range_with_len fill 0 (n ^ suc count);
      each = λ place low.
          ap (λ (xs : List (Option ℕ)). get_or xs place None) is
          ∙ get_or-map-range_with_len fill 0 (n ^ suc count) place place None low (omega arith)
          ∙ each place low;
    }

module _ (plan : ByzPlanData) (some : 0 < plan.units) where
  -- ---- what is heard

  -- on the empty path each unit holds its own value
  pub own_shown : (chart : List (Option ℕ)) → chart ≡ map (λ u. Some (value_of plan u)) (range_with_len 0 plan.units) → ShowsHeard plan 0 chart
  own_shown chart filled =
      shows plan.units 0 (heard plan) (λ u. Some (value_of plan u)) chart plan.units filled (sym (pow-one plan.units))
      (λ place low. ap (λ u. Some (value_of plan u)) (sym (one_digit place plan.units (subst (λ x. place < x) (pow-one plan.units) low))))

  -- the next chart, filled from the one before, shows what was heard as well
  pub heard_shown :
      (count : ℕ) (before chart : List (Option ℕ)) → ShowsHeard plan count before
      → chart ≡ map (heard_at plan count before) (range_with_len 0 (length before * plan.units)) → ShowsHeard plan (suc count) chart
  heard_shown count before chart shown filled =
      shows plan.units (suc count) (heard plan) (heard_at plan count before) chart (length before * plan.units) filled
      (ap (λ x. x * plan.units) shown.long ∙ sym (pow-suc plan.units (suc count)))
      (λ place low. ap (λ x. unwrap_or (first_lie plan.lies (reverse (path_in plan.units (suc count) (place / plan.units))) (place % plan.units)) x)
      (shown.each (place / plan.units) (shorter plan.units (suc count) place some low)))

  -- ---- results

  -- what a relay's place shows
  relay_shown :
      (count rounds row q r : ℕ) (longer_chart : List (Option ℕ)) → ShowsResults plan (suc count) rounds longer_chart
      → row < plan.units ^ count → q < plan.units → r < plan.units
      → relay_at plan longer_chart row q r ≡ result_of (all_units plan) (heard plan) rounds (r ∷ path_in plan.units count row) q
  relay_shown count rounds row q r longer_chart shown row_low q_low r_low =
      let n : ℕ = plan.units in
      let result : ℕ → ℕ → Option ℕ = λ longer_row u. result_of (all_units plan) (heard plan) rounds (path_in n (suc count) longer_row) u in
      let tail : ℕ → ℕ → Option ℕ = λ t shorter_row. result_of (all_units plan) (heard plan) rounds (t ∷ path_in n count shorter_row) q in
      let place : ℕ = (row * n + r) * n + q in
      shown.each place (longer n (suc count) (row * n + r) q (longer n count row r row_low r_low) q_low)
      ∙ ap (λ x. result x (place % n)) (div-mul-add (row * n + r) n q q_low)
      ∙ ap (λ x. result (row * n + r) x) (mod-mul-add (row * n + r) n q q_low)
      ∙ ap (λ x. tail x ((row * n + r) / n)) (mod-mul-add row n r r_low)
      ∙ ap (λ x. tail r x) (div-mul-add row n r r_low)

  -- what is agreed on at a place
  agreed_shown :
      (count rounds : ℕ) (heard_chart longer_chart : List (Option ℕ)) → ShowsHeard plan count heard_chart
      → ShowsResults plan (suc count) rounds longer_chart → (place : ℕ) → place < plan.units ^ suc count
      → Some (agreed_of (places_at plan count heard_chart longer_chart place))
      ≡ result_of (all_units plan) (heard plan) (suc rounds) (path_in plan.units count (place / plan.units)) (place % plan.units)
  agreed_shown count rounds heard_chart longer_chart hears shown place low =
      let row : ℕ = place / plan.units in
      let q : ℕ = place % plan.units in
      let path : List ℕ = path_in plan.units count row in
      let others : List ℕ = outside (all_units plan) (q ∷ path) in
      ap (λ x. Some (agreed_of (x ∷ map (relay_at plan longer_chart row q) others))) (hears.each place low)
      ∙ ap (λ xs. Some (agreed_of (heard plan path q ∷ xs)))
      (map-same (relay_at plan longer_chart row q) (λ r. result_of (all_units plan) (heard plan) rounds (r ∷ path) q) others (λ r r_in.
      let below : r < 0 + plan.units = range-low 0 plan.units r (outside_has (all_units plan) (q ∷ path) r r_in) in
      relay_shown count rounds row q r longer_chart shown (shorter plan.units count place some low) (mod_below place plan.units some) (omega (arith, below))))

  -- a chart that is folded from what was heard and from the longer results shows results
  pub folded_shown :
      (count rounds : ℕ) (heard_chart longer_chart chart : List (Option ℕ)) → ShowsHeard plan count heard_chart
      → ShowsResults plan (suc count) rounds longer_chart
      → chart ≡ map (λ place. Some (agreed_of (places_at plan count heard_chart longer_chart place))) (range_with_len 0 (length heard_chart))
      → ShowsResults plan count (suc rounds) chart
  folded_shown count rounds heard_chart longer_chart chart hears shown filled =
      shows plan.units count (result_of (all_units plan) (heard plan) (suc rounds))
      (λ place. Some (agreed_of (places_at plan count heard_chart longer_chart place))) chart (length heard_chart) filled hears.long
      (agreed_shown count rounds heard_chart longer_chart hears shown)

-- a round more is one more than the rounds without it
pub round_more :
    (plan : ByzPlanData) (count rounds : ℕ) (longer_chart chart : List (Option ℕ)) → 0 < rounds
    → ShowsResults plan (count + 1) (rounds - 1) longer_chart
    → ((left : ℕ) → ShowsResults plan (suc count) left longer_chart → ShowsResults plan count (suc left) chart) → ShowsResults plan count rounds chart
round_more plan count rounds longer_chart chart some shown folds =
    let last : suc (rounds - 1) ≡ rounds = omega arith in
    let next : count + 1 ≡ suc count = omega arith in
    subst (λ x. ShowsResults plan count x chart) last (folds (rounds - 1) (subst (λ x. ShowsResults plan x (rounds - 1) longer_chart) next shown))

-- ---- the paths of one unit

-- the place of q's result for the path of s
pub result_shown :
    (plan : ByzPlanData) (rounds : ℕ) (chart : List (Option ℕ)) → ShowsResults plan 1 rounds chart → (q s : ℕ) → q < plan.units → s < plan.units
    → get_or chart (s * plan.units + q) None ≡ result_of (all_units plan) (heard plan) rounds (s ∷ []) q
result_shown plan rounds chart shown q s q_low s_low =
    let n : ℕ = plan.units in
    let result : ℕ → ℕ → Option ℕ = λ r u. result_of (all_units plan) (heard plan) rounds (r ∷ []) u in
    shown.each (s * n + q) (subst (λ x. s * n + q < x) (sym (square n)) (digit_below n n s q s_low q_low))
    ∙ ap (λ x. result (x % n) ((s * n + q) % n)) (div-mul-add s n q q_low)
    ∙ ap (λ x. result (s % n) x) (mod-mul-add s n q q_low)
    ∙ ap (λ x. result x q) (one_digit s n s_low)
