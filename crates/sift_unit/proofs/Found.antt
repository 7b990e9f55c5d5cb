-- What the end of a frame finds for the next.
use Rattle.std.proofs.Common.{◌≡◌, inl, inr, ◌+◌, ◌<◌, ◌≤◌, length, true, refl, sym, subst, arith}
use Rattle.std.proofs.lemmas.Bool.{cases_Bool, both_ways}
use Rattle.sift_base.specs.Units.{has}
use Rattle.sift_base.specs.declared.slots.Slot.{Slot}
use Rattle.sift_base.specs.declared.slots.Slot.TheVariants.{Clock}
use Rattle.sift_buffer.specs.Conduct.{Conduct as Acts}
use Rattle.sift_skew.specs.Leading.{OffsetsChangeLittle}
use Rattle.sift_mission.specs.Data.{FlownMission, IsConfigOf}
use Rattle.sift_mission.specs.Slots.{is_slot}
use Rattle.sift_mission.specs.Fits.{Fits}
use Rattle.sift_conduct.specs.Conduct.{Account, reading_by}
use Rattle.sift_conduct.specs.Acts.{heard_places}
use Rattle.sift_conduct.specs.laws.NextConfigs.{next_is_config}
use Rattle.sift_unit_frame.specs.Tidings.{names_now}
use Rattle.sift_unit.specs.Reach.{IsNearIn}
use Rattle.sift_unit.specs.Remembered.{with_clock}
use Rattle.sift_unit.specs.Desk.{Desk, cursor, heard_mark, account_now, accounts_of}
use Rattle.sift_unit.specs.Going.{InRange, Going, desk_frame}
use Rattle.sift_unit.proofs.Nearness.{near_still, next_near}
use Rattle.sift_unit.proofs.Standing.{stands, now_in, now_out}

module _ (m : FlownMission) (fit : Fits m) where
  -- the next configuration is one of the mission
  pub next_config_is : (b : Desk) → IsConfigOf m b.cfg → IsConfigOf m (account_now m b).next_cfg
  next_config_is b config = elim (cases_Bool (has b.cfg b.unit)) [
    | inl t ↦ subst (λ (z : Account). IsConfigOf m z.next_cfg) (sym (now_in m b t)) (next_is_config m (names_now m b.cfg b.unit b.memory) b.cfg config)
    | inr t ↦ subst (λ (z : Account). IsConfigOf m z.next_cfg) (sym (now_out m b t)) config
  ]

  -- where a board stands at a frame's end
  pub record AtFrameEnd (b : Desk) : Type 0 where
    pub slot : b.slot ≡ m.slots
    pub part : b.part ≡ 2
    pub subframe : b.subframe + 1 ≡ m.period
    pub frame : b.frame < m.frames

  module _ (b : Desk) where
    -- at its end all slots of the frame were heard
    pub all : InRange m b → AtFrameEnd b → (k : Slot) → is_slot m k ≡ true → heard_mark m b.cfg k ≤ cursor b
    all r at k slot =
        let few = fit.numbered.few in let nk = fit.numbered.low k slot in let w = fit.timed.within b.cfg k r.config slot in let last = at.subframe in omega arith

    -- the offset that it finds is near enough for the next frame
    pub finds_near : OffsetsChangeLittle → (c : Acts) → Going m b c → AtFrameEnd b → IsNearIn (b.frame + 1) (account_now m b).next_clk
    finds_near little c g at = elim (cases_Bool (has b.cfg b.unit)) [
      | inl t ↦
          let rm = (g.meets (accounts_of m b) (heard_places m c) (stands m b c g.range)).remembers t in
          subst (λ (z : Account). IsNearIn (b.frame + 1) z.next_clk) (sym (now_in m b t))
          (subst (λ z. IsNearIn (b.frame + 1) z) (sym (rm.heard Clock refl (all g.range at Clock refl)).1)
          (next_near m fit little b.cfg (reading_by (with_clock (desk_frame m b (accounts_of m b) (heard_places m c)) b.clk)) b.clk b.unit t
          g.range.unit b.frame g.range.clk))
      | inr t ↦ subst (λ (z : Account). IsNearIn (b.frame + 1) z.next_clk) (sym (now_out m b t)) (near_still b.frame b.clk g.range.clk)
    ]

    -- a unit in the next configuration has voted a word for each output
    pub votes_all : InRange m b → has (account_now m b).next_cfg b.unit ≡ true → length (account_now m b).outs ≡ m.words
    votes_all r = elim (cases_Bool (has b.cfg b.unit)) [
      | inl t ↦ λ member. subst (λ (z : Account). length z.outs ≡ m.words) (sym (now_in m b t)) r.shape.outs
      | inr t ↦ λ member. absurd (both_ways _ t (subst (λ (z : Account). has z.next_cfg b.unit ≡ true) (now_out m b t) member))
    ]
