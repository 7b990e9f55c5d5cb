-- What a board guarantees, where its unit may turn.
use Rattle.std.proofs.Common.{◌≡◌, ◌⊎◌, inl, inr, ℕ, ◌+◌, ◌*◌, ◌-◌, ◌<◌, ◌≤◌, false, Option, Some, None, refl, sym, ap, ◌∙◌, subst, arith}
use Rattle.std.proofs.lemmas.Option.{same_Some}
use Rattle.sift_buffer.specs.Conduct.{Conduct as Acts}
use Rattle.sift_mission.specs.Data.{FlownMission}
use Rattle.sift_mission.specs.Slots.{turned_by}
use Rattle.sift_mission.specs.Fits.{Fits}
use Rattle.sift_mission.specs.laws.Turning.{before_turning}
use Rattle.sift_mission.specs.laws.Frames.{frame_low}
use Rattle.sift_conduct.specs.Frames.{Flies}
use Rattle.sift_conduct.specs.Acts.{Turns, IsUnderway}
use Rattle.sift_unit.specs.Desk.{Desk, cursor}
use Rattle.sift_unit.specs.Keeping.{Flying, Keeps, HasFlown, as_flying}
use Rattle.sift_unit.specs.BoardLaws.{KeepLaw}
use Rattle.sift_unit.proofs.Tests.{some_none}
use Rattle.sift_unit.proofs.Exporting.{unsaid, unheard, underway, kept}

-- a unit that flies is before the frame from which on it is stray, or at progress 0
progress_before : (m : FlownMission) (b : Desk) (c : Acts) (from : ℕ) → Flying m b c → m.storm b.unit ≡ Some from →
    (c.progress < from * m.period) ⊎ (c.progress ≡ 0)
progress_before m b c from k storm =
    let p = k.going.progress in
    let sub = k.going.range.subframe in
    elim (k.before from storm) [
      | inl low ↦ inl (let up = frame_low m.period b.frame from low in omega arith)
      | inr z ↦ inr (let first : b.frame * m.period ≡ 0 = rw z.1 (omega arith) in let start = z.2 in omega arith)
    ]

-- it has not come to that frame
to_come : (m : FlownMission) (b : Desk) (c : Acts) (from f : ℕ) → Flying m b c → m.storm b.unit ≡ Some from → from ≤ f → (b.frame < f) ⊎ ((b.frame ≤ f) × (cursor b ≡ 0))
to_come m b c from f k storm low = elim (k.before from storm) [
  | inl z ↦ inl (omega arith)
  | inr z ↦ inr (let z1 = z.1 in (omega arith, z.2))
]

-- a unit turns by its script
turns_by : (m : FlownMission) (fit : Fits m) (b : Desk) (c : Acts) → Keeps m b c → (o : Option ℕ) → m.storm b.unit ≡ o → Turns m o c
turns_by m fit b c (inl k) None e = k.going.left
turns_by m fit b c (inr k) None e = absurd (some_none (sym k.storm ∙ e))
turns_by m fit b c (inl k) (Some from) e = record {
  left = inl (k.going.left, progress_before m b c from k e);
  says_nothing = λ f kd q slot low. unsaid m fit b c k.going f kd q slot (to_come m b c from f k e low);
  hears_nothing = λ f kd p slot low. unheard m fit b c k.going f kd p slot (to_come m b c from f k e low);
}
turns_by m fit b c (inr k) (Some from) e = let same : b.frame ≡ from = same_Some _ _ (sym k.storm ∙ e) in let c' = as_flying c (b.frame * m.period + b.subframe) in record {
  left = inr (k.left ∙ ap (λ (n : ℕ). n * m.period - 1) same);
  says_nothing = λ f kd q slot low. unsaid m fit b c' k.going f kd q slot (inr (omega arith, k.at));
  hears_nothing = λ f kd p slot low. unheard m fit b c' k.going f kd p slot (inr (omega arith, k.at));
}

-- a frame that a unit has flown and ended is before the one at which its board stands
far_enough : (m : FlownMission) (b : Desk) (c : Acts) (n : ℕ) → HasFlown m b c n → (f : ℕ) → f < n → Flies m b.unit f → f < b.frame
far_enough m b c n (inl far) f low fly = omega arith
far_enough m b c n (inr t) f low fly = before_turning f b.frame (subst (λ o. turned_by o f ≡ false) t.storm fly.whole)

-- a board guarantees its acts and accounts
pub keep_law : KeepLaw
keep_law m b c n fit (inl k) far = kept m fit b c k.going c n refl refl (turns_by m fit b c (inl k) (m.storm b.unit) refl) (far_enough m b c n far)
keep_law m b c n fit (inr k) far =
    kept m fit b (as_flying c (b.frame * m.period + b.subframe)) k.going c n refl refl (turns_by m fit b c (inr k) (m.storm b.unit) refl) (far_enough m b c n far)

-- and its acts in the frame that is underway
pub kept_underway : (m : FlownMission) (fit : Fits m) (b : Desk) (c : Acts) → Keeps m b c → IsUnderway m c b.cfg b.unit b.frame
kept_underway m fit b c (inl k) = underway m fit b c k.going
kept_underway m fit b c (inr k) =
    let is = underway m fit b (as_flying c (b.frame * m.period + b.subframe)) k.going in
    record { said = is.said; heard = is.heard; says_nothing = is.says_nothing; hears_nothing = is.hears_nothing }
