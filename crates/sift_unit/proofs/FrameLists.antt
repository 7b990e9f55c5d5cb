-- What a board has kept does not depend on accounts of later frames.
use Rattle.std.proofs.Common.{◌≡◌, ℕ, zero, suc, ◌<◌, ◌≤◌, List, Bool, true, false, not, Option, Some, None, inl, inr, refl, sym, ap, ◌∙◌, subst, arith}
use Rattle.std.proofs.lemmas.Bool.{cases_lt, le-ltb, lt-ltb}
use Rattle.sift_base.specs.Units.{has}
use Rattle.sift_buffer.specs.Conduct.{Conduct as Acts}
use Rattle.sift_mission.specs.Data.{FlownMission, IsConfigOf}
use Rattle.sift_mission.specs.Slots.{turned_by}
use Rattle.sift_conduct.specs.Conduct.{Account, UnitFrame, unit_frame, Conduct, said_of}
use Rattle.sift_conduct.specs.Acts.{BoardKeeps, ActsAre, unit_flight}
use Rattle.sift_conduct.specs.Frames.{Flies, UnitFlight, FrameConduct, IdleConduct}

module _ (m : FlownMission) (u : ℕ) (d : UnitFlight) where
  -- the unit in a frame of its flight, with this account and these words voted in the frame before
  abbrev frame_with : ℕ → Account → List ℕ → UnitFrame
  frame_with f x last = unit_frame m x.cfg u f x (d.heard f) last

  -- the conduct of a frame reads the accounts of this frame and the one before
  conduct_by : (b : ℕ → Account) (f : ℕ) → ((g : ℕ) → g ≤ f → d.account g ≡ b g) → FrameConduct m u d f →
      FrameConduct m u (record d { account = b }) f
  conduct_by b zero same c =
      let e : d.account 0 ≡ b 0 = same 0 (omega arith) in record {
        begins = (sym (ap (λ (x : Account). x.cfg) e) ∙ c.begins.0, sym (ap (λ (x : Account). x.clk) e) ∙ c.begins.1);
        said = λ k q. c.said k q ∙ (λ i. said_of (frame_with 0 (e i) m.starts) k q);
        busy = subst (λ (x : Account). has x.cfg u ≡ true → Conduct (frame_with 0 x m.starts)) e c.busy;
        idle = subst (λ (x : Account). has x.cfg u ≡ false → IdleConduct x) e c.idle;
      }
  conduct_by b (suc f) same c =
      let e : d.account (suc f) ≡ b (suc f) = same (suc f) (omega arith) in
      let before : d.account f ≡ b f = same f (omega arith) in record {
        begins = (
          sym (ap (λ (x : Account). x.cfg) e) ∙ (c.begins.0 ∙ ap (λ (y : Account). y.next_cfg) before),
          sym (ap (λ (x : Account). x.clk) e) ∙ (c.begins.1 ∙ ap (λ (y : Account). y.next_clk) before),
        );
        said = λ k q. c.said k q ∙ (λ i. said_of (frame_with (suc f) (e i) (before i).outs) k q);
        busy = subst (λ (x : Account). has x.cfg u ≡ true → Conduct (frame_with (suc f) x (b f).outs)) e
            (subst (λ (y : Account). has (d.account (suc f)).cfg u ≡ true → Conduct (frame_with (suc f) (d.account (suc f)) y.outs)) before c.busy);
        idle = subst (λ (x : Account). has x.cfg u ≡ false → IdleConduct x) e c.idle;
      }

-- a unit that flies in a frame flies in each frame before
earlier : (storm : Option ℕ) (f g : ℕ) → g ≤ f → turned_by storm f ≡ false → turned_by storm g ≡ false
earlier None f g before flies = refl
earlier (Some from) f g before flies = elim (cases_lt f from) [
  | inl low ↦ rw (lt-ltb g from (omega arith)) refl
  | inr high ↦ absurd (let e : true ≡ false = subst (λ (b : Bool). not b ≡ false) (le-ltb f from high) flies in cc)
]

-- and so what a board has kept in n frames those of these frames in which its unit flies
pub keeps_by : (m : FlownMission) (u : ℕ) (d : Acts) (a b : ℕ → Account) (n : ℕ) → ((f : ℕ) → f < n → Flies m u f → a f ≡ b f) → BoardKeeps m u d a n →
    BoardKeeps m u d b n
keeps_by m u d a b n same k = record {
  stamps = k.stamps;
  turns = k.turns;
  config = λ f low flies. subst (λ (x : Account). IsConfigOf m x.cfg) (same f low flies) (k.config f low flies);
  acts = λ f low flies. subst (λ (x : Account). ActsAre m d x.cfg u f) (same f low flies) (k.acts f low flies);
  conduct = λ f low flies. conduct_by m u (unit_flight m d a) b f
      (λ g under. same g (omega arith) (record { unit = flies.unit; whole = earlier (m.storm u) f g under flies.whole })) (k.conduct f low flies);
}
