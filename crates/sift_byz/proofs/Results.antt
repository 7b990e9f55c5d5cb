-- The laws of oral messages, by induction over the rounds of relaying that are left.
use Rattle.std.proofs.Common.{◌≡◌, ◌≢◌, ℕ, zero, suc, ◌*◌, ◌≤◌, inl, inr, List, ◌∷◌, length, map, Bool, true, false, not, nat_eq, Option, Some, refl, sym, ap, ◌∙◌, arith}
use Rattle.std.specs.Prelude.{unwrap_or, if◌then◌else◌}
use Rattle.std.proofs.lemmas.Bool.{cases_Bool, ne_eqb, eqb-false, eq-eqb}
use Rattle.sift_base.specs.Units.{faulty_count, has, IsAscending}
use Rattle.sift_base.specs.laws.Counts.{count-no, count-yes}
use Rattle.sift_vote.specs.Majority.{agreed_of}
use Rattle.sift_byz.specs.Laws.{AnyUnitIsAgreedOn, LoyalUnitIsBelieved}
use Rattle.sift_byz.specs.Relaying.{Hearing, LoyalUnitsRelay, outside, result_of}
use Rattle.sift_byz.proofs.Outside.{no_more, one_fewer, outside-cons, outside_once, still_outside, traitor_gone}
use Rattle.sift_byz.proofs.Places.{agreed_in_order, agreed_loyal}

module _ (us : List ℕ) (heard : Hearing) (ascending : IsAscending us) where
  -- q's result with a round more, by what q reads each place as
  result_in_order :
      (k : ℕ) (path : List ℕ) (q : ℕ) (h : ℕ → ℕ) → has (outside us path) q ≡ true → unwrap_or (heard path q) 0 ≡ h q
      → ((t : ℕ) → has (outside us path) t ≡ true → t ≢ q → unwrap_or (result_of us heard k (t ∷ path) q) 0 ≡ h t)
      → unwrap_or (result_of us heard (suc k) path q) 0 ≡ agreed_of (map (λ t. Some (h t)) (outside us path))
  result_in_order k path q h q_in here there =
      ap (λ vs. agreed_of (heard path q ∷ map (λ t. result_of us heard k (t ∷ path) q) vs)) (outside-cons us path q)
      ∙ agreed_in_order (heard path q) (λ t. result_of us heard k (t ∷ path) q) h q (outside us path) q_in (outside_once us path q ascending) here there

-- ---- a loyal unit

-- what q reads as each unit's place: at q itself what it heard
abbrev read_at : (q own : ℕ) → (ℕ → Option ℕ) → ℕ → ℕ
read_at q own results t = if nat_eq t q then own else unwrap_or (results t) 0

-- a loyal unit's result for what another loyal unit relays is what this one holds, if the units outside are at least as many
-- as the rounds and twice the traitors among them. Absence is read as 0
pub loyal_unit_is_believed : LoyalUnitIsBelieved
loyal_unit_is_believed us loyal heard zero r path q ascending relays enough r_loyal q_in q_loyal =
    ap (λ x. unwrap_or x 0) (relays r path q r_loyal)
loyal_unit_is_believed us loyal heard (suc k) r path q ascending relays enough r_loyal q_in q_loyal =
    let left : List ℕ = outside us (r ∷ path) in
    let word : ℕ = unwrap_or (heard path r) 0 in
    let held : (u : ℕ) → unwrap_or (heard (r ∷ path) u) 0 ≡ word = λ u. ap (λ x. unwrap_or x 0) (relays r path u r_loyal) in
    let results : ℕ → Option ℕ = λ t. result_of us heard k (t ∷ r ∷ path) q in
    let says : (t : ℕ) → has left t ≡ true → loyal t ≡ true → read_at q word results t ≡ word =
    λ t t_in t_loyal. elim (cases_Bool (nat_eq t q)) [
      | inl same ↦ rw same
      | inr other ↦ rw other (loyal_unit_is_believed us loyal heard k t (r ∷ path) q ascending relays
          (omega (arith, one_fewer us (r ∷ path) t ascending t_in, no_more us (r ∷ path) t loyal))
          t_loyal (still_outside us (r ∷ path) t q q_in (eqb-false t q other)) q_loyal ∙ held t)
    ] in
    result_in_order us heard ascending k (r ∷ path) q (read_at q word results) q_in
    (rw (eq-eqb q q refl) (held q)) (λ t t_in differ. rw (ne_eqb t q differ))
    ∙ agreed_loyal loyal (read_at q word results) left word (omega arith) says

-- ---- any unit

-- what all loyal units read as each unit's place: of a loyal one what it heard, of a traitor what p reads
abbrev read_by_all : (ℕ → Bool) → (held results : ℕ → Option ℕ) → ℕ → ℕ
read_by_all loyal held results t = if loyal t then unwrap_or (held t) 0 else unwrap_or (results t) 0

-- the result of a loyal unit u with a round more, if with a round fewer u and p have one result of each traitor
agreed_step :
    (us : List ℕ) (loyal : ℕ → Bool) (heard : Hearing) (k : ℕ) (path : List ℕ) (p u : ℕ)
    → IsAscending us → LoyalUnitsRelay loyal heard
    → faulty_count loyal (outside us path) ≤ k → 3 * suc k ≤ length (outside us path)
    → has (outside us path) u ≡ true → loyal u ≡ true
    → ((t : ℕ) → has (outside us path) t ≡ true → loyal t ≡ false
    → unwrap_or (result_of us heard k (t ∷ path) u) 0 ≡ unwrap_or (result_of us heard k (t ∷ path) p) 0)
    → unwrap_or (result_of us heard (suc k) path u) 0
    ≡ agreed_of (map (λ t. Some (read_by_all loyal (heard path) (λ x. result_of us heard k (x ∷ path) p) t)) (outside us path))
agreed_step us loyal heard k path p u ascending relays few many u_in u_loyal traitors =
    result_in_order us heard ascending k path u (read_by_all loyal (heard path) (λ x. result_of us heard k (x ∷ path) p)) u_in
    (rw u_loyal)
    (λ t t_in differ. elim (cases_Bool (loyal t)) [
      | inl t_loyal ↦ rw t_loyal (loyal_unit_is_believed us loyal heard k t path u ascending relays
          (omega (arith, one_fewer us path t ascending t_in, no_more us path t loyal))
          t_loyal (still_outside us path t u u_in differ) u_loyal)
      | inr t_lies ↦ rw t_lies (traitors t t_in t_lies)
    ])

-- two loyal units believe a loyal unit alike
both_believe :
    (us : List ℕ) (loyal : ℕ → Bool) (heard : Hearing) (rounds r : ℕ) (path : List ℕ) (p q : ℕ)
    → IsAscending us → LoyalUnitsRelay loyal heard
    → faulty_count loyal (outside us (r ∷ path)) ≤ rounds → 3 * rounds ≤ length (outside us (r ∷ path)) → loyal r ≡ true
    → has (outside us (r ∷ path)) p ≡ true → loyal p ≡ true → has (outside us (r ∷ path)) q ≡ true → loyal q ≡ true
    → unwrap_or (result_of us heard rounds (r ∷ path) p) 0 ≡ unwrap_or (result_of us heard rounds (r ∷ path) q) 0
both_believe us loyal heard rounds r path p q ascending relays few many r_loyal p_in p_loyal q_in q_loyal =
    loyal_unit_is_believed us loyal heard rounds r path p ascending relays (omega arith) r_loyal p_in p_loyal
    ∙ sym (loyal_unit_is_believed us loyal heard rounds r path q ascending relays (omega arith) r_loyal q_in q_loyal)

-- a traitor and a loyal unit are two
two_units : (loyal : ℕ → Bool) (t p : ℕ) → loyal t ≡ false → loyal p ≡ true → t ≢ p
two_units loyal t p t_lies p_loyal same = let e = ap loyal same in cc

-- two loyal units have one result for any unit, loyal or not, if there are at most as many traitors left, that unit among
-- them, as there are rounds, and at least three times as many units outside. Absence is read as 0
pub any_unit_is_agreed_on : AnyUnitIsAgreedOn
any_unit_is_agreed_on us loyal heard zero r path p q ascending relays few many p_in p_loyal q_in q_loyal =
    elim (cases_Bool (loyal r)) [
      | inl t ↦ both_believe us loyal heard zero r path p q ascending relays
          (omega (arith, count-no (λ u. not (loyal u)) r (outside us (r ∷ path)) (ap not t))) many t p_in p_loyal q_in q_loyal
      | inr f ↦ absurd (omega (arith, count-yes (λ u. not (loyal u)) r (outside us (r ∷ path)) (ap not f)))
    ]
any_unit_is_agreed_on us loyal heard (suc k) r path p q ascending relays few many p_in p_loyal q_in q_loyal =
    elim (cases_Bool (loyal r)) [
      | inl t ↦ both_believe us loyal heard (suc k) r path p q ascending relays
          (omega (arith, count-no (λ u. not (loyal u)) r (outside us (r ∷ path)) (ap not t))) many t p_in p_loyal q_in q_loyal
      | inr f ↦
          let left : List ℕ = outside us (r ∷ path) in
          let fewer : faulty_count loyal left ≤ k = omega (arith, count-yes (λ u. not (loyal u)) r left (ap not f)) in
          let alike : (t : ℕ) → has left t ≡ true → loyal t ≡ false → (u : ℕ) → has left u ≡ true → loyal u ≡ true
          → unwrap_or (result_of us heard k (t ∷ r ∷ path) u) 0 ≡ unwrap_or (result_of us heard k (t ∷ r ∷ path) p) 0 =
          λ t t_in t_lies u u_in u_loyal. any_unit_is_agreed_on us loyal heard k t (r ∷ path) u p ascending relays
          (omega (arith, count-yes (λ v. not (loyal v)) t (outside us (t ∷ r ∷ path)) (ap not t_lies), traitor_gone us (r ∷ path) t loyal t_in t_lies))
          (omega (arith, one_fewer us (r ∷ path) t ascending t_in))
          (still_outside us (r ∷ path) t u u_in (two_units loyal t u t_lies u_loyal)) u_loyal
          (still_outside us (r ∷ path) t p p_in (two_units loyal t p t_lies p_loyal)) p_loyal in
          agreed_step us loyal heard k (r ∷ path) p p ascending relays fewer many p_in p_loyal (λ t t_in t_lies. refl)
          ∙ sym (agreed_step us loyal heard k (r ∷ path) p q ascending relays fewer many q_in q_loyal
          (λ t t_in t_lies. alike t t_in t_lies q q_in q_loyal))
    ]
