-- New seats, one after the other.
use Rattle.std.proofs.Common.{◌≡◌, ℕ, ◌+◌, List, [], ◌∷◌, ◌++◌, length-append, slice_index_or, sym, ap, ◌∙◌, subst, arith}
use Rattle.std.proofs.lemmas.List.{get_or_append_left}
use Rattle.std.proofs.Math.Seq.{get_or-append_seam}
use mathlib.Core.Logic.{dite}
use native.Mathlib.Decide.{ℕ_discrete}
use Rattle.sift_mission.specs.Data.{FlownMission}
use Rattle.sift_seat.specs.Seats.{IsNewSeat, AreNewSeats}
use Rattle.sift_seat.specs.declared.seat.Seat.{Seat}

-- one seat more
pub seats_push : (m : FlownMission) (n u : ℕ) (xs : List Seat) (x : Seat) → AreNewSeats m n xs → u ≡ n → IsNewSeat m u x → AreNewSeats m (n + 1) (xs ++ x ∷ [])
seats_push m n u xs x seats here new = record {
  count = length-append xs (x ∷ []) ∙ ap (λ (i : ℕ). i + 1) seats.count;
  new = λ p d hp. dite (ℕ_discrete p n)
      (λ e. subst (λ (z : Seat). IsNewSeat m p z) (sym (ap (λ (i : ℕ). slice_index_or (xs ++ x ∷ []) i d) (e ∙ sym seats.count)
      ∙ get_or-append_seam xs x [] d))
      (subst (λ (i : ℕ). IsNewSeat m i x) (here ∙ sym e) new))
      (λ ne. subst (λ (z : Seat). IsNewSeat m p z) (sym (get_or_append_left xs (x ∷ []) d p (let c = seats.count in omega arith)))
      (seats.new p d (omega arith)));
}
