-- A poll has no words just where its word is held.
use Rattle.std.proofs.Common.{◌≡◌, ℕ, ◌<◌, List, length, nat_eq, Option, inl, inr, sym, ◌∙◌, arith, ne_eqb}
use Rattle.std.proofs.lemmas.Bool.{cases_Bool}
use Rattle.std.proofs.lemmas.List.{length-map}
use Rattle.sift_base.specs.laws.Sets.{none_pass}
use Rattle.sift_mission.specs.Fits.{Fits}
use Rattle.sift_mission.specs.Data.{FlownMission, IsConfigOf}
use Rattle.sift_mission.specs.Slots.{executors, is_held}
use Rattle.sift_unit_frame.specs.Memory.{Memory, poll_of, polled_at}

-- a poll has no words just where its word is held
pub empty_poll : (m : FlownMission) (us : List ℕ) (u : ℕ) (b : Memory) (heard : List (Option ℕ)) (w : ℕ) → Fits m → IsConfigOf m us → w < m.words
    → nat_eq (length (poll_of m us u b heard w)) 0 ≡ is_held m us w
empty_poll m us u b heard w fit config low = elim (cases_Bool (is_held m us w)) [
  | inl held ↦ rw (none_pass (m.executes us w) us (λ v. fit.executors.none us w v config low held)) (sym held)
  | inr kept ↦
      let three = fit.executors.three us w config low kept in
      let long = length-map (executors m us w) (polled_at u b heard w) in
      ne_eqb (length (poll_of m us u b heard w)) 0 (λ none. omega (arith, three, long, none)) ∙ sym kept
]
