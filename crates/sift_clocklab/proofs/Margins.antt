-- How much room a skew leaves that is so many times the errors and drifts.
use Rattle.std.proofs.Common.{◌≡◌, ◌⊎◌, ℕ, zero, suc, ◌+◌, ◌-◌, ◌*◌, ◌≤◌, inl, inr, length, ℤ, pos, negsuc, ◌+ℤ◌, ◌-ℤ◌, ◌*ℤ◌, refl, arith}
use Rattle.std.specs.Prelude.{◌≤ℤ◌, count_by}
use Rattle.std.proofs.lemmas.Int.{ints}
use Rattle.std.proofs.Math.Nat.{mul-le-mul_left}
use Rattle.sift_base.specs.Units.{faulty_count}
use Rattle.sift_base.specs.laws.Counts.{both_counts}
use Rattle.sift_clocklab.specs.Margin.{MarginLeavesRoom, NoFaultLeavesRoom}

-- so many times a difference
times_difference : (n : ℕ) (a b : ℤ) → pos n *ℤ (a -ℤ b) ≡ pos n *ℤ a -ℤ pos n *ℤ b
times_difference zero a b = omega (arith, ints)
times_difference (suc n) a b = let rest = times_difference n a b in omega (arith, ints)

-- room among natural numbers is room
room_from : (n m s t : ℕ) → 2 * n * t + s * (3 * m) ≤ s * n
    → (pos (2 * n) *ℤ pos t) ≤ℤ (pos s *ℤ (pos n -ℤ pos (3 * m)))
room_from n m s t wide = let split = times_difference s (pos n) (pos (3 * m)) in omega (arith, ints)

-- with no faulty clock twice the errors and drifts have room
none_faulty : (n s t : ℕ) → 2 * t ≤ s → 2 * n * t + s * (3 * 0) ≤ s * n
none_faulty n s t wide = let least : n * (2 * t) ≤ n * s = mul-le-mul_left n wide in omega arith

-- with one faulty clock among five or more, five times as much has
one_faulty : (n s t : ℕ) → 5 ≤ n → 5 * t ≤ s → 2 * n * t + s * (3 * 1) ≤ s * n
one_faulty n s t five wide =
    let more : ℕ = n - 5 in
    let clocks : n ≡ 5 + more = omega arith in
    let least : more * (2 * t) ≤ more * s = mul-le-mul_left more (omega arith) in
    let needed : 2 * n * t ≡ 10 * t + more * (2 * t) = rw clocks (grind arith) in
    let room : s * n ≡ 5 * s + more * s = rw clocks (grind arith) in
    omega arith

-- at most one is none or one
none_or_one : (k : ℕ) → k ≤ 1 → (k ≡ 0) ⊎ (k ≡ 1)
none_or_one zero few = inl refl
none_or_one (suc zero) few = inr refl
none_or_one (suc (suc k)) few = absurd (omega arith)

-- with margin none is faulty, or one among five or more
with_margin : (n faulty working s t : ℕ) → faulty + working ≡ n → faulty ≤ 1 → 4 ≤ working → 5 * t ≤ s
    → 2 * n * t + s * (3 * faulty) ≤ s * n
with_margin n faulty working s t all few enough wide =
    elim (none_or_one faulty few) [
      | inl none ↦ rw none (none_faulty n s t (omega arith))
      | inr one ↦ rw one (one_faulty n s t (omega (arith, one)) wide)
    ]

-- a skew has room for errors and drifts that come to so much
abbrev pub HasRoomFor : (n m : ℕ) (skew changes : ℤ) → Type 0
HasRoomFor n m skew changes = (pos (2 * n) *ℤ changes) ≤ℤ (skew *ℤ (pos n -ℤ pos (3 * m)))

-- errors and drifts of at least 0, and a skew of at least so many times as much, are natural numbers
pub by_size : (P : ℤ → ℤ → Type 0) (k : ℕ) (skew changes : ℤ) → pos 0 ≤ℤ changes → (pos k *ℤ changes) ≤ℤ skew
    → ((s t : ℕ) → k * t ≤ s → P (pos s) (pos t)) → P skew changes
by_size P k (pos s) (pos t) some wide at = at s t (omega (arith, ints))
by_size P k (negsuc s) (pos t) some wide at = absurd (omega (arith, ints))
by_size P k skew (negsuc t) some wide at = absurd (omega (arith, ints))

-- a skew of five times the errors and drifts, or more, has room for those of a configuration with margin
pub margin_leaves_room : MarginLeavesRoom
margin_leaves_room skew error rate us works some margin wide =
    by_size (HasRoomFor (length us) (faulty_count works us)) 5 skew (error +ℤ rate) some wide
    (λ s t five. room_from (length us) (faulty_count works us) s t
    (with_margin (length us) (faulty_count works us) (count_by works us) s t (both_counts works us)
    margin.few margin.enough five))

-- a skew of twice the errors and drifts, or more, has room for those of a configuration without faulty clocks
pub no_fault_leaves_room : NoFaultLeavesRoom
no_fault_leaves_room skew error rate us works some none wide =
    by_size (HasRoomFor (length us) (faulty_count works us)) 2 skew (error +ℤ rate) some wide
    (λ s t two. room_from (length us) (faulty_count works us) s t (rw none (none_faulty (length us) s t two)))
