-- A faulty unit of the configuration that hasn't turned has it, the words before and a clock with members', by induction over the frames with margin.
-- So own words cost nothing.
use Rattle.std.proofs.Common.{◌≡◌, ◌⊎◌, inl, inr, ℕ, zero, suc, ◌<◌, true, false, not, Bool, ◌||◌, nat_eq, refl, sym, ◌∙◌, subst, arith, eqb-true}
use Rattle.std.proofs.lemmas.Bool.{cases_Bool}
use Rattle.sift_base.specs.Units.{has}
use Rattle.sift_base.specs.declared.slots.Slot.TheVariants.{Clock}
use Rattle.sift_base.specs.laws.Counts.{of_filtered}
use Rattle.sift_skew.specs.Keeping.{AreTogether}
use Rattle.sift_program.specs.Program.{ProgramTree}
use Rattle.sift_program.specs.Ideal.{ideal_words, words_before}
use Rattle.sift_mission.specs.Data.{FlownMission}
use Rattle.sift_mission.specs.Premises.{IsFlyable, RunsProgram}
use Rattle.sift_mission.specs.Slots.{has_turned}
use Rattle.sift_conduct.specs.Conduct.{caught}
use Rattle.sift_conduct.specs.Frames.{last_of, Flies}
use Rattle.sift_flight.specs.Caught.{OwnWordsCostNothing}
use Rattle.sift_flight.specs.Flight.{Flight, Strays, IsRound}
use Rattle.sift_flight.specs.Figures.{Works, lead_of, config_at, HasMarginAt}
use Rattle.sift_flight.specs.Headline.{agreed_at, shed_at, two_caught, Headline}
use Rattle.sift_flight.specs.Lies.{SaysItsOwn}
use Rattle.sift_flight.specs.laws.Leading.{config_within}
use Rattle.sift_exec.specs.laws.Everyone.{no_way_is_caught}
use Rattle.sift_flight.proofs.FaultyMember.{FaultyMember, or_true}
use Rattle.sift_flight.proofs.FaultyRemoving.{next_in_view}
use Rattle.sift_flight.proofs.FaultySaying.{none_polled_in, none_relayed_in}
use Rattle.sift_flight.proofs.FaultyTiming.{next_together_in, none_timed_in}
use Rattle.sift_flight.proofs.FaultyVoting.{outputs_in}
use Rattle.sift_flight.proofs.Induction.{Stands, stands, at_next, headline_holds}
use Rattle.sift_flight.proofs.OneFrame.{outputs, next_is, none, lead_here, step, inputs, lasts}
use Rattle.sift_flight.proofs.Reaching.{still_before}
use Rattle.sift_flight.proofs.Timing.{next_together}
use Rattle.sift_flight.proofs.Working.{Member, member_of, conduct_here}

-- one of two that are so, where the first is or the second
either : (a b : Bool) → (a || b) ≡ true → (a ≡ true) ⊎ (b ≡ true)
either true b t = inl refl
either false b t = inr t

module _ (m : FlownMission) (program : ProgramTree) (strays : Strays) (fl : Flight) (flyable : IsFlyable m) (runs : RunsProgram m program) (round : IsRound m strays fl) (u : ℕ) where
  -- who works in a frame, and the unit
  abbrev with_it : ℕ → ℕ → Bool
  with_it f v = m.works v f || nat_eq v u

  -- the unit has the configuration, which it needn't have found out honestly; it has the words before, and its clock is together with members'
  record FaultyStands (f : ℕ) : Type 0 where
    pub member : FaultyMember m fl f (config_at m fl f) u
    pub last : last_of m (fl.account u) f ≡ words_before program (agreed_at m fl) (shed_at m fl) f
    pub together : AreTogether m.skew (config_at m fl f) (with_it f) (λ v. (fl.account v f).clk)

  -- a working unit flies, and so does this one until it turns
  flies_too : (f : ℕ) → has_turned m u f ≡ false → (v : ℕ) → has m.units v ≡ true → with_it f v ≡ true → Flies m v f
  flies_too f there v hv t = elim (either (m.works v f) (nat_eq v u) t) [
    | inl w ↦ record { unit = hv; whole = flyable.script.whole v f w }
    | inr e ↦ record { unit = hv; whole = subst (λ w. has_turned m w f ≡ false) (sym (eqb-true v u e)) there }
  ]

  first_too : 0 < m.frames → HasMarginAt m fl 0 → has (config_at m fl 0) u ≡ true → m.works u 0 ≡ false → has_turned m u 0 ≡ false → FaultyStands 0
  first_too low margin member faulty there =
      let s = stands m program strays fl flyable runs round 0 low margin in
      let l = lead_here m program strays fl 0 runs s.frame s.last in
      let begins = λ (v : ℕ) (flies : Flies m v 0). ((round 0 low).conduct v flies).begins in
      let inside = s.frame.config.inside in
      let lead = begins (lead_of m 0) (record { unit = inside (lead_of m 0) l.member; whole = flyable.script.whole (lead_of m 0) 0 l.works }) in
      let own = begins u (record { unit = inside u member; whole = there }) in
      record {
        member = record { member = member; faulty = faulty; there = there; config = own.0 ∙ (sym lead.0 ∙ sym (config_within m fl 0 low)) };
        last = runs.starts;
        together = λ p q hp tp hq tq.
            rw ((begins p (flies_too 0 there p (inside p hp) tp)).1, (begins q (flies_too 0 there q (inside q hq) tq)).1) (flyable.clocks.together p q (inside p hp) (inside q hq));
      }

  -- what it leaves for the next frame
  record LeavesWell (f : ℕ) : Type 0 where
    pub next_cfg : (fl.account u f).next_cfg ≡ config_at m fl (suc f)
    pub outs : (fl.account u f).outs ≡ ideal_words program (agreed_at m fl) (shed_at m fl) f
    pub next_together : AreTogether m.skew (config_at m fl f) (with_it f) (λ v. (fl.account v f).next_clk)

  module _ (f : ℕ) (low : f < m.frames) (s : Stands m program strays fl f) where
    -- as a working unit
    leaves_working : Member m f (config_at m fl f) u → LeavesWell f
    leaves_working wu = record {
      next_cfg = next_is m program strays fl f runs s.frame s.last u wu ∙ sym (at_next m program strays fl flyable runs round f low s);
      outs = outputs m program strays fl f runs s.frame s.last u wu;
      next_together = λ p q hp tp hq tq. next_together m strays fl f (config_at m fl f) s.frame p q hp (works p tp) hq (works q tq);
    }
      where
        works : (v : ℕ) → with_it f v ≡ true → m.works v f ≡ true
        works v t = elim (either (m.works v f) (nat_eq v u) t) [ inl w ↦ w | inr e ↦ subst (λ w. m.works w f ≡ true) (sym (eqb-true v u e)) wu.works ]

    -- and as a faulty one
    leaves_faulty : FaultyStands f → LeavesWell f
    leaves_faulty t = record {
      next_cfg = next_in_view m strays fl f (config_at m fl f) s.frame u t.member (none m program strays fl f runs s.frame s.last) (lead_of m f)
          (lead_here m program strays fl f runs s.frame s.last) ∙ sym (at_next m program strays fl flyable runs round f low s);
      outs = outputs_in m strays fl f (config_at m fl f) s.frame u t.member (agreed_at m fl f) _ _ (step m program strays fl f runs s.frame s.last)
          (inputs m program strays fl f runs s.frame s.last) (lasts m program strays fl f runs s.frame s.last) t.last;
      next_together = next_together_in m strays fl f (config_at m fl f) s.frame u t.member t.together;
    }

  next_too : (f : ℕ) → suc f < m.frames → Headline m program fl f → LeavesWell f
      → has (config_at m fl (suc f)) u ≡ true → m.works u (suc f) ≡ false → has_turned m u (suc f) ≡ false → FaultyStands (suc f)
  next_too f low head left member faulty there =
      let inside = head.exact_removal.config.inside in
      let begins = λ (v : ℕ) (flies : Flies m v (suc f)). ((round (suc f) low).conduct v flies).begins in
      let own = begins u (record { unit = inside u member; whole = there }) in
      record {
        member = record { member = member; faulty = faulty; there = there; config = own.0 ∙ left.next_cfg };
        last = left.outs;
        together = λ p q hp tp hq tq.
            rw ((begins p (flies_too (suc f) there p (inside p hp) tp)).1, (begins q (flies_too (suc f) there q (inside q hq) tq)).1)
            (left.next_together p q (was p hp) (before p tp) (was q hq) (before q tq));
      }
    where
      -- who is in the next configuration was in this one
      was : (v : ℕ) → has (config_at m fl (suc f)) v ≡ true → has (config_at m fl f) v ≡ true
      was v hv = (of_filtered (λ v. not (two_caught m fl f v)) (config_at m fl f) v (subst (λ c. has c v ≡ true) head.exact_removal.exact hv)).1

      before : (v : ℕ) → with_it (suc f) v ≡ true → with_it f v ≡ true
      before v t = elim (either (m.works v (suc f)) (nat_eq v u) t) [
        | inl w ↦ rw (flyable.script.for_good v f (suc f) (omega arith) w) refl
        | inr e ↦ rw e (or_true (m.works v f))
      ]

  faulty_stands : (f : ℕ) → f < m.frames → HasMarginAt m fl f → has (config_at m fl f) u ≡ true → m.works u f ≡ false → has_turned m u f ≡ false → FaultyStands f
  faulty_stands zero low margin member faulty there = first_too low margin member faulty there
  faulty_stands (suc f) low margin member faulty there =
      let low' : f < m.frames = omega (arith, low) in
      let margin' : HasMarginAt m fl f = λ g h. margin g (omega arith) in
      let s = stands m program strays fl flyable runs round f low' margin' in
      let head = headline_holds m program strays fl flyable runs round f low' margin' in
      let was = (of_filtered (λ v. not (two_caught m fl f v)) (config_at m fl f) u (subst (λ c. has c u ≡ true) head.exact_removal.exact member)).1 in
      next_too f low head (elim (cases_Bool (m.works u f)) [
        | inl w ↦ leaves_working f low' s (record { member = was; works = w })
        | inr w ↦ leaves_faulty f low' s (faulty_stands f low' margin' was w (still_before (m.storm u) f (suc f) (omega arith) there))
      ]) member faulty there

  -- where it says its own words, no working unit catches it
  pub isnt_caught : (f : ℕ) → f < m.frames → HasMarginAt m fl f → has (config_at m fl f) u ≡ true → m.works u f ≡ false → has_turned m u f ≡ false
      → SaysItsOwn m f u → (q : ℕ) → Works m q f → caught (fl.account q f) u ≡ false
  isnt_caught f low margin member faulty there own q w =
      let us = config_at m fl f in
      let s = stands m program strays fl flyable runs round f low margin in
      let t = faulty_stands f low margin member faulty there in
      let wq = member_of m strays fl f us s.frame q w in
      let c = conduct_here m strays fl f us s.frame q wq in
      no_way_is_caught (fl.account q f).bad u
      (c.polls u ∙ none_polled_in m strays fl f us s.frame u t.member own (agreed_at m fl f) _ _ (step m program strays fl f runs s.frame s.last)
      (inputs m program strays fl f runs s.frame s.last) (lasts m program strays fl f runs s.frame s.last) t.last q wq)
      (c.relays u ∙ none_relayed_in m strays fl f us s.frame u t.member own q wq)
      (c.clocks u ∙ none_timed_in m strays fl f us s.frame u t.member t.together q wq (own Clock q refl))

-- own words cost nothing: a faulty unit's by what it computes, and a working unit's as no working unit is accused
pub own_words_cost_nothing : OwnWordsCostNothing
own_words_cost_nothing m program strays fl flyable runs round f low margin u member there own q w = elim (cases_Bool (m.works u f)) [
  | inr faulty ↦ isnt_caught m program strays fl flyable runs round u f low margin member faulty there own q w
  | inl works ↦
      let s = stands m program strays fl flyable runs round f low margin in
      (headline_holds m program strays fl flyable runs round f low margin).no_false_accusation q u w (record { unit = s.frame.config.inside u member; works = works })
]
