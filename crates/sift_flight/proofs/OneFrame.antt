-- One frame with margin whose beginning is known: its items of the headline, and what it leaves for the next.
use Rattle.std.proofs.Common.{◌≡◌, ℕ, suc, ◌<◌, List, map, slice_index, true, false, Some, sym, ap, ◌∙◌, subst, arith}
use Rattle.std.proofs.lemmas.Grind.{same_number_lists}
use Rattle.sift_base.specs.Units.{has}
use Rattle.sift_config.specs.laws.Readers.{reader_in}
use Rattle.sift_exec.specs.Conviction.{next_by}
use Rattle.sift_program.specs.Program.{ProgramTree}
use Rattle.sift_program.specs.Ideal.{ideal_words, words_before}
use Rattle.sift_mission.specs.Data.{FlownMission, IsConfigOf}
use Rattle.sift_mission.specs.Premises.{RunsProgram}
use Rattle.sift_mission.specs.Slots.{executors}
use Rattle.sift_vote.specs.Majority.{majority_of}
use Rattle.sift_conduct.specs.Conduct.{caught, polled}
use Rattle.sift_conduct.specs.Frames.{last_of}
use Rattle.sift_flight.specs.Flight.{Flight, Strays}
use Rattle.sift_flight.specs.Figures.{Works, lead_of, config_at}
use Rattle.sift_flight.specs.Headline.{agreed_at, shed_at, Headline}
use Rattle.sift_flight.specs.laws.Leading.{lead_works}
use Rattle.sift_flight.proofs.Ideal.{IsStep, ideal_step}
use Rattle.sift_flight.proofs.Working.{InFrame, Member, works_in, member_of, busy_here, by_config, conduct_here}
use Rattle.sift_flight.proofs.Agreeing.{sensor_own, sensor_same, report_own, report_same}
use Rattle.sift_flight.proofs.Timing.{leads, skew_within, slack_positive}
use Rattle.sift_flight.proofs.Voting.{output_is, vote_finds}
use Rattle.sift_flight.proofs.Naming.{none_named}
use Rattle.sift_flight.proofs.Removing.{names, next_one, next_exact, stays, next_is_config}

module _ (m : FlownMission) (program : ProgramTree) (strays : Strays) (fl : Flight) (f : ℕ) (runs : RunsProgram m program) (here : InFrame m strays fl f (config_at m fl f))
    (last_is : (u : ℕ) → Works m u f → last_of m (fl.account u) f ≡ words_before program (agreed_at m fl) (shed_at m fl) f) where
  abbrev us : List ℕ
  us = config_at m fl f

  -- the lead unit is a member
  pub lead_here : Member m f us (lead_of m f)
  lead_here = member_of m strays fl f us here (lead_of m f) (lead_works m here.flyable f)

  -- the frame is a step of the ideal machine
  pub step : IsStep m us (agreed_at m fl f) (words_before program (agreed_at m fl) (shed_at m fl) f) (ideal_words program (agreed_at m fl) (shed_at m fl) f)
  step = ideal_step m program us (agreed_at m fl f) (words_before program (agreed_at m fl) (shed_at m fl) f) runs

  -- all members have the lead unit's inputs
  pub inputs : (u : ℕ) → Member m f us u → (fl.account u f).ins ≡ agreed_at m fl f
  inputs u w =
      let c = (conduct_here m strays fl f us here u w).inputs_count in
      let d = (conduct_here m strays fl f us here (lead_of m f) lead_here).inputs_count in
      same_number_lists (fl.account u f).ins (agreed_at m fl f) (c ∙ sym d) (λ x x_low.
      let within : x < m.sensors = omega (arith, c) in
      sensor_same m strays fl f us here x within (reader_in us x (omega (arith, here.config.enough))) u (lead_of m f) w lead_here)

  -- and the words before
  pub lasts : (u : ℕ) → Member m f us u → last_of m (fl.account u) f ≡ words_before program (agreed_at m fl) (shed_at m fl) f
  lasts u w = last_is u (works_in m strays fl f us here u w)

  -- and the ideal outputs
  pub outputs : (u : ℕ) → Member m f us u → (fl.account u f).outs ≡ ideal_words program (agreed_at m fl) (shed_at m fl) f
  outputs u w = output_is m strays fl f us here (agreed_at m fl f) _ _ step inputs lasts u w

  -- each member's vote on a word that someone executes finds the word that it has
  pub vote_at : (w : ℕ) → w < m.words → (v : ℕ) → m.executes us w v ≡ true → (u : ℕ) → Member m f us u
      → majority_of (map (polled (by_config m strays fl f us here us u) w) (executors m us w)) ≡ Some (slice_index (fl.account u f).outs w)
  vote_at w low v runs_it u wu = vote_finds m strays fl f us here (agreed_at m fl f) _ _ step inputs lasts w low v runs_it u wu
      ∙ ap (λ ws. Some (slice_index ws w)) (sym (outputs u wu))

  -- no member catches a member
  pub none : (u v : ℕ) → Member m f us u → Member m f us v → caught (fl.account u f) v ≡ false
  none = none_named m strays fl f us here (agreed_at m fl f) _ _ step inputs lasts

  -- the next configuration, as the lead unit finds it, and so each member
  abbrev pub next : List ℕ
  next = next_by (names m strays fl f us here (lead_of m f)) us

  -- each member finds the next configuration that the lead unit finds
  pub next_is : (u : ℕ) → Member m f us u → (fl.account u f).next_cfg ≡ next
  next_is u w = next_one m strays fl f us here u (lead_of m f) w lead_here

  -- what each member finds next is a configuration of the mission
  pub next_good : IsConfigOf m next
  next_good = next_is_config m strays fl f us here none (lead_of m f) lead_here

  -- each member is in the next configuration
  pub stays_in : (u : ℕ) → Member m f us u → has next u ≡ true
  stays_in u w = stays m strays fl f us here none (lead_of m f) lead_here u w

  -- all items of the headline, where it is the configuration at the next frame
  pub headline_by : config_at m fl (suc f) ≡ next → Headline m program fl f
  headline_by at_next =
      let member : (u : ℕ) → Works m u f → Member m f us u = λ u w. member_of m strays fl f us here u w in
      record {
        same_configuration = record {
          same = λ u w. (here.share u w).0;
          member = λ u w. (here.share u w).1;
          busy = λ u w. busy_here m strays fl f us here u (member u w);
        };
        same_inputs = record {
          same = λ u w. inputs u (member u w);
          sensed = λ x low w. sensor_own m strays fl f us here x low (record { member = reader_in us x (omega (arith, here.config.enough)); works = w }) (lead_of m f) lead_here;
        };
        same_reports = record {
          same = λ u v r wu wv hr. report_same m strays fl f us here u v r (member u wu) (member v wv) hr;
          own = λ u r wu wr. report_own m strays fl f us here u r (member u wu) (member r wr);
        };
        ideal_outputs = λ u w. outputs u (member u w);
        no_false_accusation = λ u v wu wv. none u v (member u wu) (member v wv);
        exact_removal = record {
          exact = at_next ∙ next_exact m strays fl f us here none (lead_of m f) lead_here;
          found = λ u w. next_is u (member u w) ∙ sym at_next;
          stays = λ u w. subst (λ c. has c u ≡ true) (sym at_next) (stays_in u (member u w));
          config = subst (IsConfigOf m) (sym at_next) next_good;
        };
        clock_skew = record {
          together = here.together;
          skew = skew_within m strays fl f us here;
          lead = λ p q wp wq. leads m strays fl f us here p q (member p wp) (member q wq);
          slack = slack_positive m strays fl f us here;
        };
      }
