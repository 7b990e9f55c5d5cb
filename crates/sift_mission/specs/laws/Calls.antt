-- What it means that one unit says a slot to another.
use Rattle.std.proofs.Common.{◌≡◌, ◌≢◌, ℕ, List, true, not, ◌&&◌, nat_eq, ap}
use Rattle.std.proofs.lemmas.Bool.{and_from, and_parts, ne_eqb}
use Rattle.sift_base.specs.Units.{has}
use Rattle.sift_base.specs.declared.slots.Slot.{Slot}
use Rattle.sift_base.specs.laws.Others.{told_apart}
use Rattle.sift_mission.specs.Data.{FlownMission}
use Rattle.sift_mission.specs.Slots.{is_slot, calls, is_senders}

-- p says the slot to q: the slot is there, both are of the configuration, they are different, and p is one of the slot's senders
pub record Call (m : FlownMission) (us : List ℕ) (k : Slot) (p q : ℕ) : Type 0 where
  pub slot : is_slot m k ≡ true
  pub from : has us p ≡ true
  pub to : has us q ≡ true
  pub other : p ≢ q
  pub sender : is_senders m us k p q ≡ true

-- what the test of a call says
pub call_of : (m : FlownMission) (us : List ℕ) (k : Slot) (p q : ℕ) → calls m us k p q ≡ true → Call m us k p q
call_of m us k p q t =
    let s = and_parts (is_slot m k) (has us p && (has us q && (not (nat_eq p q) && is_senders m us k p q))) t in
    let a = and_parts (has us p) (has us q && (not (nat_eq p q) && is_senders m us k p q)) s.1 in
    let b = and_parts (has us q) (not (nat_eq p q) && is_senders m us k p q) a.1 in
    let c = and_parts (not (nat_eq p q)) (is_senders m us k p q) b.1 in
    record { slot = s.0; from = a.0; to = b.0; other = told_apart p q c.0; sender = c.1 }

-- and what makes it pass
pub call_is : (m : FlownMission) (us : List ℕ) (k : Slot) (p q : ℕ) → Call m us k p q → calls m us k p q ≡ true
call_is m us k p q c = and_from _ _ c.slot (and_from _ _ c.from (and_from _ _ c.to (and_from _ _ (ap not (ne_eqb p q c.other)) c.sender)))
