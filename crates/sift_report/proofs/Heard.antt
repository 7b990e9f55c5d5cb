-- What a unit said and heard of its words, in its journal.
use Rattle.std.proofs.Common.{◌≡◌, ◌≢◌, ℕ, ◌<◌, List, [], ◌∷◌, length, get_or, true, false}
use Rattle.std.proofs.Common.{Some, nat_eq, refl, sym, subst, ◌∙◌, arith, lt-ltb}
use Rattle.std.specs.Prelude.{slice_get, slice_index}
use Rattle.std.proofs.lemmas.List.{get_or_default}
use Rattle.std.proofs.lemmas.List.FromFn.{length-range_with_len}
use Rattle.std.proofs.lemmas.Bool.{ne_eqb, eq-eqb}
use Rattle.sift_base.specs.Layout.{slot_number}
use Rattle.sift_base.specs.Units.{has, IsAscending, others}
use Rattle.sift_base.specs.declared.slots.Slot.TheVariants.{Out}
use Rattle.sift_base.specs.laws.Ranges.{range-has}
use Rattle.sift_buffer.specs.Journals.{IsJournalOf, Pages, heard_in, ranges_in, said_in, no_pages}
use Rattle.sift_buffer.specs.Ranges.{IsPlace}
use Rattle.sift_mission.specs.Parts.{data_of, flown_of}
use Rattle.sift_mission.specs.PartsFit.{PartsFit}
use Rattle.sift_mission.specs.declared.mission.MissionParts.{MissionParts}
use Rattle.sift_flight.specs.Flight.{Flight}
use Rattle.sift_flight.specs.Told.{IsWhole, journal_of, told}
use Rattle.sift_flight.specs.declared.flight.Flight.{Flight as TheFlight}
use Rattle.sift_report.specs.Votes.{place_of}

-- ---- the lowest other unit

-- where the lowest unit is another, it is that
pub lowest_first : (us : List ℕ) (u a : ℕ) → slice_get us 0 ≡ Some a → a ≢ u → slice_index (others u us) 0 ≡ a
lowest_first [] u a e other = absurd cc
lowest_first (v ∷ us) u a e other =
    let same : v ≡ a = (cc) in
    rw (ne_eqb v u (λ own. other (sym same ∙ own))) same

-- where it is the unit itself, the next is
pub lowest_second : (us : List ℕ) (u b : ℕ) → IsAscending us → slice_get us 0 ≡ Some u → slice_get us 1 ≡ Some b →
    (slice_index (others u us) 0 ≡ b) × (b ≢ u)
lowest_second [] u b up e next = absurd cc
lowest_second (v ∷ []) u b up e next = absurd cc
lowest_second (v ∷ w ∷ us) u b up e next =
    let own : v ≡ u = (cc) in
    let same : w ≡ b = (cc) in
    let above : w ≢ u = λ at. absurd (omega (arith, up.0.0)) in
    let passed : nat_eq v u ≡ true = rw own (eq-eqb u u refl) in
    let kept : nat_eq w u ≡ false = ne_eqb w u above in
    (rw (passed, kept) same, λ at. above (same ∙ at))

-- ---- journals

module _ (parts : MissionParts) (fit : PartsFit (data_of parts)) (fl : TheFlight) (whole : IsWhole (flown_of parts) parts.layout fl)
    (u : ℕ) (unit : has (flown_of parts).units u ≡ true) (journal : Pages) (is : journal ≡ get_or fl.journals.items u journal) where
  -- the unit has a journal
  pub journal-there : u < length fl.journals.items
  journal-there =
      let below = range-has 0 parts.units u unit in
      omega (arith, below.1, length-range_with_len 0 parts.units, whole.logged.journals)

  journal-is : journal ≡ journal_of fl u
  journal-is = is ∙ get_or_default fl.journals.items u journal no_pages journal-there

  owner : IsJournalOf journal parts.layout u parts.frames
  owner = subst (λ j. IsJournalOf j parts.layout u parts.frames) (sym journal-is) (whole.logged.journal u unit)

  -- with a place for each word, frame and other unit
  pub journal-place : (w f v : ℕ) → w < parts.layout.words → f < parts.frames → has (flown_of parts).units v ≡ true → v ≢ u
      → IsPlace (ranges_in journal) journal.unit v (slot_number parts.layout (Out w)) f
  journal-place w f v low frame there other =
      let below = range-has 0 parts.units v there in
      rw (owner.layout_is, owner.frames_are, owner.unit_is)
      (record { cell = record { unit = omega (arith, below.1, fit.layout.units); other = other; slot = omega arith }; frame = frame })

  -- and tells what was said and heard there
  pub journal-said : (w f v : ℕ) → w < parts.layout.words → said_in journal f (slot_number parts.layout (Out w)) v ≡ (told (flown_of parts) fl).said u f (Out w) v
  journal-said w f v low = rw (lt-ltb w parts.layout.words low, journal-is) refl

  -- the unit's journal tells what the unit heard of an output word
  pub journal-heard : (w f v : ℕ) → w < parts.layout.words → heard_in journal f (slot_number parts.layout (Out w)) v ≡ (told (flown_of parts) fl).heard u f (Out w) v
  journal-heard w f v low = rw (lt-ltb w parts.layout.words low, journal-is) refl

-- the place of the unit itself and that of another
pub place-own : (fl : Flight) (f u w v : ℕ) → v ≡ u →
    place_of fl f u w v ≡ fl.said u f (Out w) (slice_index (others u ((fl.account u f).cfg)) 0)
place-own fl f u w v same = let test : nat_eq v u ≡ true = rw same (eq-eqb u u refl) in rw test refl

-- the place of another executor is its word as the unit heard it
pub place-other : (fl : Flight) (f u w v : ℕ) → v ≢ u → place_of fl f u w v ≡ fl.heard u f (Out w) v
place-other fl f u w v other = rw (ne_eqb v u other) refl
