-- Each slot of a layout has a number, and each number its slot.
use Rattle.std.proofs.Common.{◌≡◌, ℕ, ◌+◌, ◌-◌, ◌*◌, ◌<◌, ◌≤◌, inl, inr, refl, sym, arith}
use Rattle.std.specs.Prelude.{nat_eq, nat_lt, if◌then◌else◌}
use Rattle.std.proofs.lemmas.Bool.{cases_eq, cases_lt, eq-eqb, ne_eqb, lt-ltb, le-ltb}
use Rattle.sift_base.specs.Layout.{IsSlot, slot_count, slot_number, slot_kind}
use Rattle.sift_base.specs.declared.slots.Layout.{Layout}
use Rattle.sift_base.specs.declared.slots.Slot.{Slot}
use Rattle.sift_base.specs.declared.slots.Slot.TheVariants.{Clock, Sense, RelaySense, Out, Report, RelayReport}

module _ (layout : Layout) where
  -- the slot of a number behind those of the clock, the sensors and their relays
  abbrev kind_behind_sensors : ℕ → Slot
  kind_behind_sensors n =
      let first = 1 + 2 * layout.sensors in
      if nat_lt n (first + layout.words) then Out (n - first)
      else if nat_eq n (first + layout.words) then Report
      else RelayReport (n - (first + layout.words + 1))

  -- the slot of a slot's number is the slot
  pub kind-of-number : (k : Slot) → IsSlot layout k → slot_kind layout (slot_number layout k) ≡ k
  kind-of-number Clock there = refl
  kind-of-number (Sense x) there =
      let n = slot_number layout (Sense x) in
      let back : n - 1 ≡ x = omega arith in
      rw (ne_eqb n 0 (λ e. omega (arith, e)), lt-ltb n (1 + layout.sensors) (omega arith), back) refl
  kind-of-number (RelaySense x) there =
      let n = slot_number layout (RelaySense x) in
      let back : n - (1 + layout.sensors) ≡ x = omega arith in
      rw (ne_eqb n 0 (λ e. omega (arith, e)), le-ltb n (1 + layout.sensors) (omega arith), lt-ltb n (1 + 2 * layout.sensors) (omega arith), back) refl
  kind-of-number (Out w) there =
      let n = slot_number layout (Out w) in
      let first = 1 + 2 * layout.sensors in
      let back : n - first ≡ w = omega arith in
      rw (ne_eqb n 0 (λ e. omega (arith, e)), le-ltb n (1 + layout.sensors) (omega arith), le-ltb n first (omega arith), lt-ltb n (first + layout.words) (omega arith), back) refl
  kind-of-number Report there =
      let n = slot_number layout Report in
      let first = 1 + 2 * layout.sensors in
      rw (
        ne_eqb n 0 (λ e. omega (arith, e)),
        le-ltb n (1 + layout.sensors) (omega arith),
        le-ltb n first (omega arith),
        le-ltb n (first + layout.words) (omega arith),
        eq-eqb n (first + layout.words) refl,
      ) refl
  kind-of-number (RelayReport u) there =
      let n = slot_number layout (RelayReport u) in
      let first = 1 + 2 * layout.sensors in
      let back : n - (first + layout.words + 1) ≡ u = omega arith in
      rw (
        ne_eqb n 0 (λ e. omega (arith, e)),
        le-ltb n (1 + layout.sensors) (omega arith),
        le-ltb n first (omega arith),
        le-ltb n (first + layout.words) (omega arith),
        ne_eqb n (first + layout.words) (λ e. omega (arith, e)),
        back,
      ) refl

  -- each number below the count is that of its slot
  pub number-of-kind : (i : ℕ) → i < slot_count layout → IsSlot layout (slot_kind layout i) × (slot_number layout (slot_kind layout i) ≡ i)
  number-of-kind i low =
      let first = 1 + 2 * layout.sensors in
      elim (cases_eq i 0) [
        | inl same ↦ rw (eq-eqb i 0 same) (tt, sym same)
        | inr past ↦ rw (ne_eqb i 0 past) (elim (cases_lt i (1 + layout.sensors)) [
          | inl less ↦ rw (lt-ltb i (1 + layout.sensors) less) (omega arith, omega arith)
          | inr more ↦ rw (le-ltb i (1 + layout.sensors) more) (elim (cases_lt i first) [
            | inl less ↦ rw (lt-ltb i first less) (omega arith, omega arith)
            | inr behind ↦ rw (le-ltb i first behind) (number-behind i low behind)
          ])
        ])
      ]
    where
      number-behind : (n : ℕ) → n < slot_count layout → 1 + 2 * layout.sensors ≤ n
          → IsSlot layout (kind_behind_sensors n) × (slot_number layout (kind_behind_sensors n) ≡ n)
      number-behind n low' behind =
          let first = 1 + 2 * layout.sensors in
          elim (cases_lt n (first + layout.words)) [
            | inl less ↦ rw (lt-ltb n (first + layout.words) less) (omega arith, omega arith)
            | inr more ↦ rw (le-ltb n (first + layout.words) more) (elim (cases_eq n (first + layout.words)) [
              | inl same ↦ rw (eq-eqb n (first + layout.words) same) (tt, omega arith)
              | inr past ↦ rw (ne_eqb n (first + layout.words) past) (omega (arith, above n (first + layout.words) more past), omega (arith, above n (first + layout.words) more past))
            ])
          ]
        where
          above : (x y : ℕ) → y ≤ x → (x ≡ y → ⊥) → y + 1 ≤ x
          above x y low'' differ = elim (cases_lt y x) [ inl less ↦ omega arith | inr more' ↦ absurd (differ (omega arith)) ]
