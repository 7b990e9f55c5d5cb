-- A write into a list with one entry for each frame, slot and unit.
use Rattle.std.proofs.Common.{◌≡◌, ℕ, ◌+◌, ◌*◌, ◌<◌, ◌≤◌, ◌&&◌, Bool, true, false, nat_lt, List, length, slice_set, slice_index_or, if◌then◌else◌, refl, arith, mul_comm}
use Rattle.std.proofs.lemmas.List.{get_or-set_same, get_or-set_other}
use Rattle.std.proofs.lemmas.Nat.{mul-add-lt}
use Rattle.std.proofs.lemmas.Bool.{ltb-true, ltb-false}
use Rattle.sift_buffer.specs.Ranges.{Ranges}
use Rattle.sift_buffer.specs.Conduct.{put_at}
use Rattle.sift_buffer.specs.Tables.{IsEntry, entry_number, entry_count, entry_at}
use Rattle.sift_buffer.proofs.Places.{split_row}
use Rattle.sift_buffer.proofs.Puts.{IsAt, put_at_cases}

-- each entry is one of the list
pub entry_low : (r : Ranges) (f k q : ℕ) → IsEntry r f k q → entry_number r f k q < entry_count r
entry_low r f k q within =
    let row : f * r.slots + k < r.slots * r.frames = mul-add-lt f r.slots k r.frames within.frame within.slot in
    let all : (f * r.slots + k) * r.units + q < r.units * (r.slots * r.frames) = mul-add-lt (f * r.slots + k) r.units q (r.slots * r.frames) row within.unit in
    omega (arith, mul_comm r.units (r.slots * r.frames), mul_comm r.slots r.frames)

-- different frames, slots or units have different entries
entry_apart : (r : Ranges) (f k q f' k' q' : ℕ) → IsEntry r f k q → IsEntry r f' k' q' → entry_number r f k q ≡ entry_number r f' k' q' → IsAt f' k' q' f k q
entry_apart r f k q f' k' q' w w' e =
    let units = split_row (f * r.slots + k) q (f' * r.slots + k') q' r.units w.unit w'.unit e in
    let slots = split_row f k f' k' r.slots w.slot w'.slot units.0 in
    (slots.0, slots.1, units.1)

-- a test of an order, by cases
lt_cases : (P : Bool → Type 0) (a b : ℕ) → (a < b → P true) → (b ≤ a → P false) → P (nat_lt a b)
lt_cases P a b low high = go (nat_lt a b) refl
  where
    go : (t : Bool) → nat_lt a b ≡ t → P t
    go true e = low (ltb-true a b e)
    go false e = high (ltb-false a b e)

module _ {A : Type 0} (none : A) (r : Ranges) where
  -- what holds of an entry in range, and of the default elsewhere
  entry_cases : (P : A → Type 0) (xs : List A) (f k q : ℕ) →
      (IsEntry r f k q → P (slice_index_or xs (entry_number r f k q) none)) → (¬ IsEntry r f k q → P none) → P (entry_at none r xs f k q)
  entry_cases P xs f k q inside outside =
      let x : A = slice_index_or xs (entry_number r f k q) none in
      lt_cases (λ b. P (if b && nat_lt k r.slots && nat_lt q r.units then x else none)) f r.frames
      (λ hf. lt_cases (λ b. P (if true && b && nat_lt q r.units then x else none)) k r.slots
      (λ hk. lt_cases (λ b. P (if true && true && b then x else none)) q r.units
      (λ hq. inside (record { frame = hf; slot = hk; unit = hq }))
      (λ out. outside (λ t. let a = t.unit in omega arith)))
      (λ out. outside (λ t. let a = t.slot in omega arith)))
      (λ out. outside (λ t. let a = t.frame in omega arith))

  -- a list of defaults has nothing else
  pub entry_none : (xs : List A) → ((i : ℕ) → slice_index_or xs i none ≡ none) → entry_at none r xs ≡ (λ _ _ _. none)
  entry_none xs all i f k q = entry_cases (λ (o : A). o ≡ none) xs f k q (λ _. all (entry_number r f k q)) (λ _. refl) i

  module _ (xs : List A) (f k q : ℕ) (x : A) (within : IsEntry r f k q) (long : length xs ≡ entry_count r) where
    -- the list after the write
    abbrev new : List A
    new = slice_set xs (entry_number r f k q) x

    -- the others stay
    entry_same : (f' k' q' : ℕ) → ¬ IsAt f k q f' k' q' → entry_at none r new f' k' q' ≡ entry_at none r xs f' k' q'
    entry_same f' k' q' away = entry_cases (λ (o : A). entry_at none r new f' k' q' ≡ o) xs f' k' q'
        (λ within'. entry_cases (λ (o : A). o ≡ slice_index_or xs (entry_number r f' k' q') none) new f' k' q'
        (λ _. get_or-set_other xs (entry_number r f k q) (entry_number r f' k' q') x none (λ e. away (entry_apart r f' k' q' f k q within' within e)))
        (λ out. absurd (out within')))
        (λ out. entry_cases (λ (o : A). o ≡ none) new f' k' q' (λ t. absurd (out t)) (λ _. refl))

    -- a write in range changes the one entry
    pub entry_set : entry_at none r (slice_set xs (entry_number r f k q) x) ≡ put_at (entry_at none r xs) f k q x
    entry_set i f' k' q' = at i
      where
        low : entry_number r f k q < length xs
        low = rw long (entry_low r f k q within)

        at : entry_at none r (slice_set xs (entry_number r f k q) x) f' k' q' ≡ put_at (entry_at none r xs) f k q x f' k' q'
        at = put_at_cases (λ (o : A). entry_at none r (slice_set xs (entry_number r f k q) x) f' k' q' ≡ o) (entry_at none r xs) f k q x f' k' q'
            (λ t. entry_cases (λ (o : A). o ≡ x) (slice_set xs (entry_number r f k q) x) f' k' q'
            (λ _. rw (t.0, t.1, t.2) (get_or-set_same xs (entry_number r f k q) x none low))
            (λ out. absurd (out (rw (t.0, t.1, t.2) within))))
            (λ away. entry_same f' k' q' away)
