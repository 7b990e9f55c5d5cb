-- A board ends a frame and begins the next.
use Rattle.std.proofs.Common.{◌≡◌, ℕ, ◌+◌, ◌<◌, ◌++◌, List, [], ◌∷◌, length, true, false, refl, sym, ap, ◌∙◌, subst, arith, length-append}
use Rattle.std.specs.Prelude.{slice_index_or}
use Rattle.std.proofs.lemmas.List.{get_or_append_left}
use mathlib.Core.Logic.{dite}
use native.Mathlib.Decide.{ℕ_discrete}
use Rattle.sift_base.specs.Units.{has}
use Rattle.sift_buffer.specs.Conduct.{with_entered}
use Rattle.sift_buffer.specs.Conduct.{Conduct as Acts}
use Rattle.sift_skew.specs.Leading.{OffsetsChangeLittle}
use Rattle.sift_mission.specs.Data.{FlownMission, IsConfigOf}
use Rattle.sift_mission.specs.Fits.{Fits}
use Rattle.sift_mission.specs.laws.Silent.{speaks}
use Rattle.sift_conduct.specs.Conduct.{Account, unit_frame, Conduct}
use Rattle.sift_conduct.specs.Frames.{last_of}
use Rattle.sift_unit_frame.specs.Memory.{Memory}
use Rattle.sift_unit_frame.specs.Conditions.{IsShaped}
use Rattle.sift_unit.specs.Reach.{IsNearIn}
use Rattle.sift_unit.specs.Desk.{Desk, cursor, account_now, ended_desk}
use Rattle.sift_unit.specs.Going.{Accounts, Words, Agrees, Fate, Meets, Ended, InRange, Going}
use Rattle.sift_unit.proofs.Found.{AtFrameEnd, all, finds_near, next_config_is, votes_all}
use Rattle.sift_unit.proofs.Conducts.{busy_is, idle_is}
use Rattle.sift_unit.proofs.Acting.{small_of, acts_next}
use Rattle.sift_unit.proofs.Standing.{agrees_own, now_in, now_out, now_cfg, now_clk, next_mul, begins_next, last_next, pushed_at}

module _ (m : FlownMission) (fit : Fits m) where
  module _ (b : Desk) (memory : Memory) (accounts : List Account) (shape : IsShaped m (account_now m b).next_cfg b.unit memory) (pushed : accounts ≡ b.accounts ++ account_now m b ∷ []) where
    -- the frame's account is the last
    there : InRange m b → (d : Account) → slice_index_or accounts b.frame d ≡ account_now m b
    there r d = rw pushed (pushed_at b.accounts (account_now m b) d b.frame r.count)

    -- those of the frames before stay
    before : InRange m b → (f : ℕ) (d : Account) → f < b.frame → slice_index_or accounts f d ≡ slice_index_or b.accounts f d
    before r f d low = let count = r.count in rw pushed (get_or_append_left b.accounts (account_now m b ∷ []) d f (omega arith))

    -- the board stays in range
    ended_range : OffsetsChangeLittle → (c : Acts) → Going m b c → AtFrameEnd m fit b → InRange m (ended_desk m b memory accounts)
    ended_range little c g at =
        let r = g.range in let long = fit.counted.period in let room = at.frame in let count = r.count in let next = finds_near m fit b little c g at in
        record {
          unit = r.unit;
          frame = omega arith;
          subframe = omega arith;
          part = omega arith;
          slot = omega arith;
          other = omega arith;
          count = ap (λ xs. length xs) pushed ∙ length-append b.accounts (account_now m b ∷ []) ∙ (let z : length b.accounts + 1 ≡ b.frame + 1 = omega arith in z);
          config = next_config_is m fit b r.config;
          configs = λ f d low. dite (ℕ_discrete f b.frame)
              (λ e. rw (e, there r d) (subst (λ z. IsConfigOf m z) (sym (now_cfg m b)) r.config))
              (λ ne. rw (before r f d (omega arith)) (r.configs f d (omega arith)));
          clk = next;
          clocks = λ f d low. dite (ℕ_discrete f b.frame)
              (λ e. rw (e, there r d) (record { clk = subst (λ z. IsNearIn b.frame z) (sym (now_clk m b)) r.clk; next_clk = next }))
              (λ ne. rw (before r f d (omega arith)) (r.clocks f d (omega arith)));
          last = votes_all m fit b r;
          places = r.places;
          shape = shape;
        }

    -- a fate of the next frame has this frame's account
    mine : (c : Acts) (a : Accounts) (h : Words) → InRange m b → Fate m (ended_desk m b memory accounts) c a h → a b.frame ≡ account_now m b
    mine c a h r fate = fate.accounts b.frame (account_now m b) (omega arith) ∙ there r (account_now m b)

    -- and is one of this frame
    ended_fate : (c c' : Acts) (a : Accounts) (h : Words) → InRange m b → c'.heard ≡ c.heard → Fate m (ended_desk m b memory accounts) c' a h → Fate m b c a h
    ended_fate c c' a h r same fate = let is = mine c' a h r fate in record {
      heard = λ f k p x slot e. fate.heard f k p x slot ((λ i. same i f (m.number k) p) ∙ e);
      accounts = λ f d low. fate.accounts f d (omega arith) ∙ before r f d low;
      cfg = ap (λ (z : Account). z.cfg) is ∙ now_cfg m b;
      clk = ap (λ (z : Account). z.clk) is ∙ now_clk m b;
      agrees = λ t. subst (λ z. Agrees m b.cfg z b.memory (cursor b)) (sym (is ∙ now_in m b t)) (agrees_own m b.cfg b.unit b.clk b.memory (cursor b));
    }

    -- the frame has ended
    ended_is : (c : Acts) (a : Accounts) (h : Words) → InRange m b → AtFrameEnd m fit b → Fate m b c a h → a b.frame ≡ account_now m b → Meets m b c a h → Ended m b.unit a h b.frame
    ended_is c a h r at fate is mt = record {
      begins = mt.begins;
      busy = λ t.
          let t' : has b.cfg b.unit ≡ true = subst (λ z. has z b.unit ≡ true) fate.cfg t in
          let rm = mt.remembers t' in
          subst (λ z. Conduct (unit_frame m z b.unit b.frame (a b.frame) (h b.frame) (last_of m a b.frame))) (sym fate.cfg)
          (subst (λ z. Conduct (unit_frame m b.cfg b.unit b.frame (a b.frame) (h b.frame) z)) mt.last
          (busy_is m b.cfg b.unit b.frame b.clk (a b.frame) (h b.frame) b.last r.config b.memory r.shape (is ∙ now_in m b t')
          (λ k slot. rm.heard k slot (all m fit b r at k slot))));
      idle = λ t. idle_is b.cfg b.clk (a b.frame) (is ∙ now_out m b (subst (λ z. has z b.unit ≡ false) fate.cfg t));
    }

    -- a board that ends a frame keeps what holds of it
    pub frame_going : OffsetsChangeLittle → (c : Acts) → Going m b c → AtFrameEnd m fit b → Going m (ended_desk m b memory accounts) (with_entered c)
    frame_going little c g at =
        let r = g.range in let few = fit.numbered.few in let other = r.other in let low = at.subframe in let last = at.part in let end = at.slot in
        record {
          range = ended_range little c g at;
          progress = let p = g.progress in let q = next_mul b.frame m.period in omega arith;
          left = g.left;
          meets = λ a h fate'.
              let is = mine (with_entered c) a h r fate' in
              let fate = ended_fate c (with_entered c) a h r refl fate' in
              let mt = g.meets a h fate in
              let acts = acts_next m fit b.unit a h b.frame b.cfg r.config fate.cfg c (cursor b)
              (λ k' q t. let sm = small_of m b.cfg k' b.unit q fit r.config t in let s1 = sm.number in let s2 = sm.to in
              let w = fit.timed.within b.cfg k' r.config sm.slot in let ap' = fit.timed.apart b.cfg k' r.config sm.slot (speaks m b.cfg k' b.unit q fit.executors r.config t) in omega arith)
              (λ k' q t. let sm = small_of m b.cfg k' q b.unit fit r.config t in let s1 = sm.number in let s2 = sm.from in
              let w = fit.timed.within b.cfg k' r.config sm.slot in omega arith)
              mt.acts in
              record {
                acts = record { said = acts.said; heard = acts.heard };
                ended = λ f lf. dite (ℕ_discrete f b.frame) (λ e. rw e (ended_is c a h r at fate is mt)) (λ ne. mt.ended f (omega arith));
                begins = begins_next m b.unit a b.frame (fate'.cfg ∙ ap (λ (z : Account). z.next_cfg) (sym is)) (fate'.clk ∙ ap (λ (z : Account). z.next_clk) (sym is));
                last = ap (λ (z : Account). z.outs) (sym is) ∙ last_next m a b.frame;
                places = λ zero few' sub' p below call. absurd (omega arith);
                remembers = λ member. record { heard = λ k slot past. absurd (omega arith); ran = λ k slot past. absurd (omega arith) };
              };
        }
