-- Boards that fly or have turned, as their marks tell.
use Rattle.std.proofs.Common.{◌≡◌, ◌⊎◌, inl, inr, ℕ, ◌+◌, ◌*◌, ◌<◌, ◌≤◌, Bool, true, false, Option, Some, None, nat_eq, eq-eqb, eqb-true, refl, sym, ap, ◌∙◌, subst, arith}
use Rattle.std.specs.Option.{option_eq}
use mathlib.Core.Logic.{dite}
use native.Mathlib.Decide.{ℕ_discrete}
use Rattle.sift_buffer.specs.Conduct.{never, last_progress}
use Rattle.sift_buffer.specs.Conduct.{Conduct as Acts}
use Rattle.sift_mission.specs.Data.{FlownMission}
use Rattle.sift_mission.specs.Slots.{StormsCome}
use Rattle.sift_mission.specs.Fits.{Fits}
use Rattle.sift_mission.specs.laws.Frames.{frame_low}
use Rattle.sift_unit.specs.Desk.{Desk}
use Rattle.sift_unit.specs.Going.{InRange, Going}
use Rattle.sift_unit.specs.Keeping.{Flying, Keeps, KeepsAs, IsEarly}

-- a test does not pass and fail
true_false : true ≡ false → ⊥
true_false e = cc

-- where a test tells an option from a number, it is not that number
pub apart_by : (o : Option ℕ) (f : ℕ) → option_eq nat_eq o (Some f) ≡ false → o ≡ Some f → ⊥
apart_by o f other is =
    let h : nat_eq f f ≡ false = subst (λ z. option_eq nat_eq z (Some f) ≡ false) is other in
    true_false (sym (eq-eqb f f refl) ∙ h)

-- where it tells them alike, it is
pub met_by : (o : Option ℕ) (f : ℕ) → option_eq nat_eq o (Some f) ≡ true → o ≡ Some f
met_by None f is = absurd (true_false (sym is))
met_by (Some from) f is = ap Some (eqb-true from f is)

-- ---- by the mark

-- a board keeps to its conduct, whatever its mark says
pub kept_as : (m : FlownMission) (turned : Bool) (b : Desk) (c : Acts) → KeepsAs m turned b c → Keeps m b c
kept_as m true b c k = inr k
kept_as m false b c k = inl k

-- it is in range
pub range_as : (m : FlownMission) (turned : Bool) (b : Desk) (c : Acts) → KeepsAs m turned b c → InRange m b
range_as m true b c k = k.going.range
range_as m false b c k = k.going.range

-- one that flies keeps to it by a mark that says so
pub flying_as : (m : FlownMission) (turned : Bool) (b : Desk) (c : Acts) → turned ≡ false → Flying m b c → KeepsAs m turned b c
flying_as m true b c unmarked k = absurd (true_false unmarked)
flying_as m false b c unmarked k = k

-- ---- early

-- a board that keeps to its conduct before its storm flies
pub record FliesOn (m : FlownMission) (turned : Bool) (b : Desk) (c : Acts) : Type 0 where
  pub mark : turned ≡ false
  pub going : Going m b c

-- a board in a frame before its storm, which keeps to its conduct as its mark says, has not turned by it, and flies
pub early_flies : (m : FlownMission) (turned : Bool) (b : Desk) (c : Acts) → KeepsAs m turned b c → IsEarly m b → FliesOn m turned b c
early_flies m true b c k early = absurd (let low = early b.frame k.storm in omega arith)
early_flies m false b c k early = record { mark = refl; going = k.going }

-- a board whose frame is not the first of its storm is before it
pub is_early : (m : FlownMission) (turned : Bool) (b : Desk) (c : Acts) → KeepsAs m turned b c → (m.storm b.unit ≡ Some b.frame → ⊥) → IsEarly m b
is_early m true b c k other from storm = absurd (other k.storm)
is_early m false b c k other from storm = elim (k.before from storm) [
  | inl low ↦ low
  | inr z ↦ absurd (other (storm ∙ ap Some (z.0 ∙ sym z.1)))
]

-- it stays so in its frame
pub early_same : (m : FlownMission) (b b' : Desk) → b'.unit ≡ b.unit → b'.frame ≡ b.frame → IsEarly m b → IsEarly m b'
early_same m b b' unit frame early from storm = subst (λ f. f < from) (sym frame) (early from (ap m.storm (sym unit) ∙ storm))

-- and where it enters a subframe that is not the first of its storm
pub early_on : (m : FlownMission) (b b' : Desk) → b'.unit ≡ b.unit → IsEarly m b → (b.subframe + 1 ≡ m.period → m.storm b.unit ≡ Some (b.frame + 1) → ⊥) →
    (b'.frame ≡ b.frame) ⊎ ((b.subframe + 1 ≡ m.period) × (b'.frame ≡ b.frame + 1)) → IsEarly m b'
early_on m b b' unit early calm (inl same) = early_same m b b' unit same early
early_on m b b' unit early calm (inr next) = λ from storm.
    let mine : m.storm b.unit ≡ Some from = ap m.storm (sym unit) ∙ storm in
    let low = early from mine in
    let is = next.1 in
    dite (ℕ_discrete from (b.frame + 1)) (λ e. absurd (calm next.0 (mine ∙ ap Some e))) (λ ne. omega arith)

-- before a storm in the next frame it is early
pub early_before : (m : FlownMission) (b : Desk) → m.storm b.unit ≡ Some (b.frame + 1) → IsEarly m b
early_before m b storm from is = let same : Some from ≡ Some (b.frame + 1) = sym is ∙ storm in let n : from ≡ b.frame + 1 = cc in omega arith

-- one that is early after all frames has no storm
pub no_storm : (m : FlownMission) → StormsCome m → (b : Desk) → IsEarly m b → m.frames ≤ b.frame → (o : Option ℕ) → m.storm b.unit ≡ o → m.storm b.unit ≡ None
no_storm m come b early end None e = e
no_storm m come b early end (Some from) e = absurd (let low = early from e in let late = come b.unit from e in omega arith)

-- ---- the progress of a unit that flies

module _ (m : FlownMission) (fit : Fits m) (b : Desk) (c : Acts) (g : Going m b c) where
  -- it is below the last, where a frame is left
  pub below_last : b.frame < m.frames → c.progress < last_progress
  below_last low =
      let p = g.progress in let inside = g.range.subframe in let short = fit.counted.short in let few = fit.counted.frames in
      let up = frame_low m.period b.frame 1000 (omega arith) in
      omega arith

  -- it is a progress
  pub not_never : c.progress ≡ never → ⊥
  not_never is =
      let p = g.progress in let inside = g.range.subframe in let short = fit.counted.short in let few = fit.counted.frames in let most = g.range.frame in
      let up = frame_low m.period b.frame 1001 (omega arith) in
      omega arith

  -- and where it is that of the end, no frame is left
  pub at_end : c.progress ≡ m.frames * m.period → b.frame ≡ m.frames
  at_end is =
      let p = g.progress in let inside = g.range.subframe in let most = g.range.frame in
      dite (ℕ_discrete b.frame m.frames) (λ e. e) (λ ne. absurd (let up = frame_low m.period b.frame m.frames (omega arith) in omega arith))

-- the end is a progress
pub end_not_never : (m : FlownMission) → Fits m → never ≡ m.frames * m.period → ⊥
end_not_never m fit is =
    let short = fit.counted.short in let few = fit.counted.frames in
    let up = frame_low m.period m.frames 1001 (omega arith) in
    omega arith
