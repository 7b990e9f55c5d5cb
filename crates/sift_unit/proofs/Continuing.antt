-- A board goes on after it has entered, and what its step then came to.
use Rattle.std.proofs.Common.{◌≡◌, inl, inr, ℕ, ◌+◌, ◌*◌, ◌<◌, ◌≤◌, ◌++◌, List, [], ◌∷◌, true, refl, sym, ap, ◌∙◌, subst, arith}
use Rattle.std.specs.Prelude.{ℤ, Some}
use Rattle.sift_buffer.specs.Conduct.{never, with_entered}
use Rattle.sift_buffer.specs.Conduct.{Conduct as Acts}
use Rattle.sift_buffer.specs.Views.{View, PortMaySay, PortMayHear, view_with_said, view_with_heard, KeepsOwn, EntersAfterLooks, FindsBehind, Turns}
use Rattle.sift_skew.specs.Leading.{OffsetsChangeLittle}
use Rattle.sift_mission.specs.Data.{FlownMission}
use Rattle.sift_mission.specs.Slots.{StormsCome}
use Rattle.sift_mission.specs.Fits.{Fits}
use Rattle.sift_mission.specs.laws.Frames.{frame_low}
use Rattle.sift_conduct.specs.Conduct.{Account}
use Rattle.sift_unit_frame.specs.Memory.{Memory}
use Rattle.sift_unit_frame.specs.Conditions.{IsShaped}
use Rattle.sift_unit.specs.Desk.{Desk, is_end, account_now, moved}
use Rattle.sift_unit.specs.Going.{InRange, Going}
use Rattle.sift_unit.specs.Keeping.{IsEarly}
use Rattle.sift_unit.specs.Passing.{Passes, distance, left}
use Rattle.sift_unit.specs.Stepping.{OneCall, HasMoved, HasWaited, HasTurned, HasLanded, Steps, said, heard, entered}
use Rattle.sift_unit.specs.declared.board.Stepped.{Stepped}
use Rattle.sift_unit.specs.declared.board.Stepped.TheVariants.{Moved, NotYet, Turned, Landed}
use Rattle.sift_unit.proofs.Skipping.{subframe_going}
use Rattle.sift_unit.proofs.Starting.{end_is}
use Rattle.sift_unit.proofs.Ending.{frame_going}
use Rattle.sift_unit.proofs.Found.{AtFrameEnd}
use Rattle.sift_unit.proofs.Marks.{no_storm}
use Rattle.sift_unit.proofs.Standing.{next_mul}

-- a unit that flew before a round of looks flies
looks_flying : (v v' : View) → v.conduct.left ≡ never → KeepsOwn v v' → v'.conduct.left ≡ never
looks_flying v v' flew own = ap (λ (c : Acts). c.left) own.conduct ∙ flew

-- and so it does where it has entered
enters_flying : (v v' : View) → v.conduct.left ≡ never → EntersAfterLooks v v' → v'.conduct.left ≡ never
enters_flying v v' flew e = ap (λ (z : View). z.conduct.left) e.after ∙ looks_flying v e.before flew e.found_none.own

module _ (m : FlownMission) (fit : Fits m) (b : Desk) (end : is_end m b ≡ true) where
  -- to the next subframe
  pub subframe_on : b.subframe + 1 < m.period → (c : Acts) → Going m b c → Going m (moved b (b.subframe + 1) 0 0 0 b.places) (with_entered c)
  subframe_on low c g = let t = end_is m b end in subframe_going m fit b c g t.1 t.0 low

  -- the board at the next frame's start, with these lists
  abbrev pub next_desk : Memory → List ℕ → ℤ → List ℕ → List Account → Desk
  next_desk memory cfg clk last accounts =
      record b { frame = b.frame + 1; subframe = 0; part = 0; slot = 0; other = 0; cfg = cfg; clk = clk; last = last; memory = memory; accounts = accounts }

  -- a memory of the right shape, a configuration, an offset, words and accounts that are the ones that an account gives the next frame
  pub record IsGivenBy (account : Account) (memory : Memory) (cfg : List ℕ) (clk : ℤ) (last : List ℕ) (accounts : List Account) : Type 0 where
    pub of_frame : account ≡ account_now m b
    pub shape : IsShaped m account.next_cfg b.unit memory
    pub configuration : cfg ≡ account.next_cfg
    pub offset : clk ≡ account.next_clk
    pub words : last ≡ account.outs
    pub one_more : accounts ≡ b.accounts ++ account ∷ []

  -- to the next frame, with what the account says
  pub frame_on : OffsetsChangeLittle → b.subframe + 1 ≡ m.period → b.frame < m.frames → (account : Account) (memory : Memory)
      (cfg : List ℕ) (clk : ℤ) (last : List ℕ) (accounts : List Account) → IsGivenBy account memory cfg clk last accounts →
      (c : Acts) → Going m b c → Going m (next_desk memory cfg clk last accounts) (with_entered c)
  frame_on little high room account memory cfg clk last accounts given c g =
      let t = end_is m b end in
      let is = given.of_frame in
      let at : AtFrameEnd m fit b = record { slot = t.1; part = t.0; subframe = high; frame = room } in
      let shape = subst (λ (z : Account). IsShaped m z.next_cfg b.unit memory) is given.shape in
      let pushed = given.one_more ∙ ap (λ z. b.accounts ++ z ∷ []) is in
      let done = frame_going m fit b memory accounts shape pushed little c g at in
      subst (λ z. Going m (next_desk memory z clk last accounts) (with_entered c)) (sym (given.configuration ∙ ap (λ (z : Account). z.next_cfg) is))
      (subst (λ z. Going m (next_desk memory (account_now m b).next_cfg z last accounts) (with_entered c)) (sym (given.offset ∙ ap (λ (z : Account). z.next_clk) is))
      (subst (λ z. Going m (next_desk memory (account_now m b).next_cfg (account_now m b).next_clk z accounts) (with_entered c)) (sym (given.words ∙ ap (λ (z : Account). z.outs) is))
      done))

  -- how far it has come then
  pub next_place : b.subframe + 1 ≡ m.period → (b.frame + 1) * m.period + 0 ≡ b.frame * m.period + b.subframe + 1
  next_place high = let q = next_mul b.frame m.period in omega arith

  module _ (r : InRange m b) (room : b.frame < m.frames) (b' : Desk) (r' : InRange m b') (on : b'.frame * m.period + b'.subframe ≡ b.frame * m.period + b.subframe + 1) where
    -- it is nearer to the flight's end
    nearer : distance m b' < distance m b
    nearer =
        let t = end_is m b end in let t0 = t.0 in let t1 = t.1 in let few = fit.numbered.few in let other = r.other in let inside = r.subframe in
        let up = frame_low m.period b.frame m.frames room in omega arith

    -- it has moved, where frames are left
    pub enter_moves : (v v' : View) → v.conduct.left ≡ never → EntersAfterLooks v v' → (b'.frame ≡ m.frames → ⊥) → HasMoved m b v b' v'
    enter_moves v v' flew e more = record {
      call = entered e;
      unfinished = (let most = r'.frame in let ne = more in omega arith);
      nearer = nearer;
      flies = enters_flying v v' flew e;
    }

    -- and landed, where none is
    pub enter_lands : (v v' : View) → v.conduct.left ≡ never → EntersAfterLooks v v' → StormsCome m → IsEarly m b' → b'.frame ≡ m.frames → HasLanded m b v b' v'
    enter_lands v v' flew e come early done = record {
      ended = done;
      cause = inr (room, e);
      flies = enters_flying v v' flew e;
      calm = no_storm m come b' early (omega arith) (m.storm b'.unit) refl;
    }

    -- and turned, where it has turned in place of entering
    pub turn_turns : (v v' : View) → v.conduct.left ≡ never → Turns v v' → m.storm b'.unit ≡ Some b'.frame → v'.conduct.progress ≡ never → HasTurned m b v b' v'
    turn_turns v v' flew turns storm gone = record { storm = storm; number = gone; cause = inr (flew, turns); no_farther = (let n = nearer in omega arith) }

-- a board whose unit waits stays where it stands
pub waits : (m : FlownMission) (b : Desk) (v : View) (p n : ℕ) (v' : View) → b.frame < m.frames → v.conduct.left ≡ never → FindsBehind v p n v' →
    HasWaited m b v p n b v'
waits m b v p n v' room flew found =
    record { behind = found; frame = refl; subframe = refl; unfinished = room; no_farther = omega arith; flies = looks_flying v v' flew found.own }

-- ---- a step from a place before

module _ (m : FlownMission) (b b1 b' : Desk) (v v' : View) (p : Passes m b b1) (near : left b1 ≤ left b) where
  -- it is no farther from the flight's end
  no_farther : distance m b1 ≤ distance m b
  no_farther = let f = p.frame in let s = p.subframe in let same : b1.frame * m.period ≡ b.frame * m.period = ap (λ n. n * m.period) f in omega arith

  -- one call is the same call
  call_from : OneCall b1 v b' v' → OneCall b v b' v'
  call_from (said k q s w may ev es ef) = said k q s w (subst (λ f. PortMaySay v q k f s) p.frame may) (subst (λ f. v' ≡ view_with_said v f k q s w) p.frame ev)
      (es ∙ p.subframe) (ef ∙ p.frame)
  call_from (heard k q s w may ev es ef) = heard k q s w (subst (λ f. PortMayHear v q k f s) p.frame may) (subst (λ f. v' ≡ view_with_heard v f k q s w) p.frame ev)
      (es ∙ p.subframe) (ef ∙ p.frame)
  call_from (entered e) = entered e

  -- a board that has moved on from a place of its frame has moved on from a place before it too
  pub moves_from : HasMoved m b1 v b' v' → HasMoved m b v b' v'
  moves_from h = record { call = call_from h.call; unfinished = h.unfinished; nearer = (let n = no_farther in let x = h.nearer in omega arith); flies = h.flies }

  -- what it came to is the same
  pub steps_from : (st : Stepped) (S : ℕ → ℕ → Type 0) → b1.frame < m.frames → (v.conduct.progress ≡ never → ⊥) → Steps m b1 v st b' v' S → Steps m b v st b' v' S
  steps_from Moved S room aloft h = moves_from h
  steps_from (NotYet u n) S room aloft h = (
    record {
      behind = h.0.behind;
      frame = h.0.frame ∙ p.frame;
      subframe = h.0.subframe ∙ p.subframe;
      unfinished = (let f = p.frame in omega arith);
      no_farther = (let n = no_farther in let x = h.0.no_farther in omega arith);
      flies = h.0.flies;
    },
    h.1,
  )
  steps_from Turned S room aloft h = record {
    storm = h.storm;
    number = h.number;
    cause = elim h.cause [
      | inl same ↦ absurd (aloft (ap (λ (z : View). z.conduct.progress) (sym same.1) ∙ h.number))
      | inr e ↦ inr e
    ];
    no_farther = (let n = no_farther in let x = h.no_farther in omega arith);
  }
  steps_from Landed S room aloft h = record {
    ended = h.ended;
    cause = elim h.cause [
      | inl same ↦ absurd (let e = ap (λ (z : Desk). z.frame) same.0 in let done = h.ended in omega arith)
      | inr e ↦ inr ((let f = p.frame in let low = e.0 in omega arith), e.1)
    ];
    flies = h.flies;
    calm = h.calm;
  }
