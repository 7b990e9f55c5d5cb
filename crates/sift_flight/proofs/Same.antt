-- Two flights of which one frame is that of a round flight, and which begin it alike: what is said and heard alike in it.
use Rattle.std.proofs.Common.{◌≡◌, ⊎_elim, inl, inr, ℕ, List, nat_eq, true, false, Option, unwrap_or, if◌then◌else◌, None, refl, sym, ap, ◌∙◌, subst}
use Rattle.std.proofs.lemmas.Bool.{cases_Bool}
use Rattle.sift_base.specs.Units.{has}
use Rattle.sift_base.specs.declared.slots.Slot.{Slot}
use Rattle.sift_mission.specs.Data.{FlownMission}
use Rattle.sift_mission.specs.Slots.{calls, stamp_of, has_turned}
use Rattle.sift_mission.specs.Fits.{Fits}
use Rattle.sift_mission.specs.laws.Calls.{call_of}
use Rattle.sift_conduct.specs.Conduct.{UnitFrame, unit_frame, own_word, said_of, Conduct}
use Rattle.sift_conduct.specs.Frames.{last_of, frame_of, FrameConduct, IdleConduct, Flies}
use Rattle.sift_flight.specs.Flight.{Flight, unit_of, config_of, Strays, RoundAt}
use Rattle.sift_flight.specs.Existence.{StrayHearing, HearsStraysAt}

-- a frame of two round flights that both begin alike, and in which the same is heard of strays
pub record AreBothRound (m : FlownMission) (strays strays' : Strays) (stray : StrayHearing) (fl gl : Flight) (f : ℕ) : Type 0 where
  pub fits : Fits m
  pub one : RoundAt m strays fl f
  pub other : RoundAt m strays' gl f
  pub strays_one : HearsStraysAt m stray fl f
  pub strays_other : HearsStraysAt m stray gl f
  pub cfg : (u : ℕ) → Flies m u f → config_of fl u f ≡ config_of gl u f
  pub clk : (u : ℕ) → Flies m u f → (fl.account u f).clk ≡ (gl.account u f).clk
  pub last : (u : ℕ) → Flies m u f → last_of m (fl.account u) f ≡ last_of m (gl.account u) f
  pub inside : (u p : ℕ) → Flies m u f → has (config_of gl u f) p ≡ true → has m.units p ≡ true

-- in a frame of two flights each unit says a slot alike
abbrev pub SayAlike : FlownMission → Flight → Flight → ℕ → Slot → Type 0
SayAlike m fl gl f k = (u q : ℕ) → Flies m u f → fl.said u f k q ≡ gl.said u f k q

-- and hears it alike
abbrev pub HearAlike : FlownMission → Flight → Flight → ℕ → Slot → Type 0
HearAlike m fl gl f k = (u : ℕ) → Flies m u f → fl.heard u f k ≡ gl.heard u f k

module _ (m : FlownMission) (strays strays' : Strays) (stray : StrayHearing) (fl gl : Flight) (f : ℕ) (b : AreBothRound m strays strays' stray fl gl f) where
  abbrev us : ℕ → List ℕ
  us u = config_of gl u f

  -- the conduct of both
  pub conduct_one : (u : ℕ) → Flies m u f → FrameConduct m u (unit_of fl u) f
  conduct_one u hu = b.one.conduct u hu

  -- in the second flight, too, a unit that flies does in the frame what it ought to
  pub conduct_other : (u : ℕ) → Flies m u f → FrameConduct m u (unit_of gl u) f
  conduct_other u hu = b.other.conduct u hu

  -- a unit in the frame of the first flight, by this configuration, and in that of the second
  abbrev frame_one : List ℕ → ℕ → UnitFrame
  frame_one c u = unit_frame m c u f (fl.account u f) (fl.heard u f) (last_of m (fl.account u) f)

  abbrev frame_other : ℕ → UnitFrame
  frame_other u = frame_of m u (unit_of gl u) f

  -- that of the first under the second's configuration, where the unit is in it and where it is not
  pub busy_one : (u : ℕ) → Flies m u f → has (us u) u ≡ true → Conduct (frame_one (us u) u)
  busy_one u hu t =
      let e = b.cfg u hu in
      subst (λ c. Conduct (frame_one c u)) e ((conduct_one u hu).busy (subst (λ c. has c u ≡ true) (sym e) t))

  -- a unit outside its configuration in the second flight is idle in the first
  pub idle_one : (u : ℕ) → Flies m u f → has (us u) u ≡ false → IdleConduct (fl.account u f)
  idle_one u hu t = (conduct_one u hu).idle (subst (λ c. has c u ≡ false) (sym (b.cfg u hu)) t)

  -- by the two cases of a unit
  pub by_place : (P : ℕ → Type 0) (u : ℕ) → (has (us u) u ≡ true → P u) → (has (us u) u ≡ false → P u) → P u
  by_place P u t e = ⊎_elim t e (cases_Bool (has (us u) u))

  abbrev word_one : ℕ → Slot → Option ℕ
  word_one u k = own_word (frame_one (us u) u) k

  abbrev word_other : ℕ → Slot → Option ℕ
  word_other u k = own_word (frame_other u) k

  abbrev said_one : ℕ → List ℕ → Slot → ℕ → Option ℕ
  said_one u c k q = said_of (frame_one c u) k q

  abbrev said_other : ℕ → Slot → ℕ → Option ℕ
  said_other u k q = said_of (frame_other u) k q

  -- where the own words are the same, the same is said
  pub say : (k : Slot) → ((u q : ℕ) → Flies m u f → calls m (us u) k u q ≡ true → word_one u k ≡ word_other u k) → SayAlike m fl gl f k
  say k same u q hu = (conduct_one u hu).said k q ∙ (ap (λ c. said_one u c k q) (b.cfg u hu) ∙ (here ∙ sym ((conduct_other u hu).said k q)))
    where
      here : said_one u (us u) k q ≡ said_other u k q
      here = elim (cases_Bool (calls m (us u) k u q)) [
        | inl t ↦ ap (λ w. if calls m (us u) k u q then unwrap_or (m.override u f k q) w else None) (same u q hu t)
        | inr t ↦ rw t refl
      ]

  -- and heard
  pub hear : (k : Slot) → SayAlike m fl gl f k → HearAlike m fl gl f k
  hear k same u hu = λ i p. at p i
    where
      at : (p : ℕ) → fl.heard u f k p ≡ gl.heard u f k p
      at p =
          let e = b.cfg u hu in
          let hf = b.one.hearing u k p hu in
          let hg = b.other.hearing u k p hu in
          elim (cases_Bool (calls m (us u) k p u)) [
            | inl t ↦
                let t' = subst (λ c. calls m c k p u ≡ true) (sym e) t in
                ⊎_elim
                (λ (turned : has_turned m p f ≡ true).
                b.strays_one u k p hu turned t' ∙ (ap (λ c. stray u f k p (stamp_of m c f k)) e ∙ sym (b.strays_other u k p hu turned t)))
                (λ (whole : has_turned m p f ≡ false).
                let hp : Flies m p f = record { unit = b.inside u p hu (call_of m (us u) k p u t).from; whole = whole } in
                let due_p : m.due (config_of fl p f) k ≡ m.due (us p) k = ap (λ c. m.due c k) (b.cfg p hp) in
                let due_u : m.due (config_of fl u f) k ≡ m.due (us u) k = ap (λ c. m.due c k) e in
                hf.heard t' whole
                ∙ ((λ i. if nat_eq (due_p i) (due_u i) then same p u hp i else None) ∙ sym (hg.heard t whole)))
                (cases_Bool (has_turned m p f))
            | inr t ↦ hf.silent (subst (λ c. calls m c k p u ≡ false) (sym e) t) ∙ sym (hg.silent t)
          ]
