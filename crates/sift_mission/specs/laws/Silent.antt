-- A slot in which something is said isn't silent.
use Rattle.std.proofs.Common.{◌≡◌, ℕ, ◌<◌, List, true, false, not, ◌&&◌, nat_eq, inl, inr, refl, sym, ◌∙◌}
use Rattle.std.specs.Prelude.{nat_lt}
use Rattle.std.proofs.lemmas.Bool.{and_parts, cases_Bool, ltb-true, true≢false}
use Rattle.sift_base.specs.Units.{has}
use Rattle.sift_base.specs.declared.slots.Slot.{Slot}
use Rattle.sift_base.specs.declared.slots.Slot.TheVariants.{Clock, Sense, RelaySense, Out, Report, RelayReport}
use Rattle.sift_mission.specs.Fits.{HasExecutors}
use Rattle.sift_mission.specs.Data.{FlownMission, IsConfigOf}
use Rattle.sift_mission.specs.Slots.{calls, is_held, is_silent}

-- a word that some unit executes isn't held
pub not_held : (m : FlownMission) (us : List ℕ) (w u : ℕ) → HasExecutors m → IsConfigOf m us → w < m.words → m.executes us w u ≡ true → is_held m us w ≡ false
not_held m us w u executors config low runs = elim (cases_Bool (is_held m us w)) [
  | inl held ↦ absurd (true≢false (sym runs ∙ executors.none us w u config low held))
  | inr kept ↦ kept
]

-- a slot that some unit says isn't silent
pub speaks : (m : FlownMission) (us : List ℕ) (k : Slot) (p q : ℕ) → HasExecutors m → IsConfigOf m us → calls m us k p q ≡ true → is_silent m us k ≡ false
speaks m us Clock p q executors config called = refl
speaks m us (Sense x) p q executors config called = refl
speaks m us (RelaySense x) p q executors config called = refl
speaks m us (Out w) p q executors config called =
    let slot = and_parts (nat_lt w m.words) (has us p && (has us q && (not (nat_eq p q) && m.executes us w p))) called in
    let from = and_parts (has us p) (has us q && (not (nat_eq p q) && m.executes us w p)) slot.1 in
    let to = and_parts (has us q) (not (nat_eq p q) && m.executes us w p) from.1 in
    let other = and_parts (not (nat_eq p q)) (m.executes us w p) to.1 in
    not_held m us w p executors config (ltb-true w m.words slot.0) other.1
speaks m us Report p q executors config called = refl
speaks m us (RelayReport s) p q executors config called = refl
