-- `buses` gives one reply, whose status is its own.
use Rattle.std.proofs.Common.{◌≡◌, inl, inr, ℕ, ◌+◌, ◌<◌, ◌&&◌, ◌||◌, Bool, true, false, List, [], ◌∷◌, ◌++◌, Contains, length, nat_eq, Some, None, lit<, refl, sym, ap, ◌∙◌, subst, arith, eq-eqb}
use Rattle.std.specs.List.{sum_by}
use Rattle.std.proofs.lemmas.List.Sums.{sum_by-cons}
use Rattle.sift_base.specs.Units.{has}
use Rattle.sift_bus_port.specs.Logs.{count_places}
use Rattle.sift_flight.specs.Alike.{AreAlike, RoundFlightsAreAlike}
use Rattle.sift_flight.specs.Flight.{Flight}
use Rattle.sift_load.specs.Loads.{States}
use Rattle.sift_mission.specs.Data.{MissionData, FlownMission}
use Rattle.sift_mission.specs.Flown.{flown}
use Rattle.sift_mission.specs.PartsFit.{PartsFit}
use Rattle.sift_mission.specs.Premises.{PartsMakeItFlyable}
use Rattle.sift_mission.specs.Slots.{calls}
use Rattle.sift_reply.specs.Reply.{Reply, done, done_status, shared_statuses}
use Rattle.sift_report.specs.OneText.{AlikeFlightsHaveOneText}
use Rattle.sift_line.specs.declared.line.Version.TheVariants.{Two}
use Rattle.sift_scenario.specs.Laws.{StatedMissionsFit}
use Rattle.sift_bus_jobs.specs.Buses.{BusesGives, FliesCalm, storm_status, told}
use Rattle.sift_bus_jobs.specs.Numbers.{BusNumbers}
use Rattle.sift_bus_jobs.specs.Wrong.{is_changed, wrong_for, wrong_in}
use Rattle.sift_bus_jobs.proofs.Texts.{same_text}

or_later : (b c : Bool) → c ≡ true → (b || c) ≡ true
or_later true c is = refl
or_later false c is = is

-- two sums over units that are one for each unit are one
same_sum : (g h : ℕ → ℕ) (us : List ℕ) → ((u : ℕ) → has us u ≡ true → g u ≡ h u) → sum_by g us ≡ sum_by h us
same_sum g h [] all = refl
same_sum g h (u ∷ us) all =
    let here = all u (rw (eq-eqb u u refl) refl) in
    let later = same_sum g h us (λ v there. all v (or_later (nat_eq u v) (has us v) there)) in
    sum_by-cons g u us ∙ ((λ i. here i + later i) ∙ sym (sum_by-cons h u us))

-- flights that tell the same have as many wrong words in each frame
same_words : (job : BusNumbers) (m : FlownMission) (fl gl : Flight) → AreAlike m fl gl → (f : ℕ) → f < m.frames →
    wrong_in job m fl f ≡ wrong_in job m gl f
same_words job m fl gl alike f frame = same_sum (wrong_for job m fl f) (wrong_for job m gl f) m.units
    (λ u there. let same = alike.units u f there frame in
    λ i. count_places (λ k p. calls m (same.account i).cfg (m.kind k) p u && is_changed job f (same.heard i (m.kind k) p)) m.slots (length m.units))

-- a mission without storms has none
no_storm : (m : FlownMission) (u from : ℕ) → m.storm u ≡ None → m.storm u ≡ Some from → ⊥
no_storm m u from none some = cc

module _ (flies : PartsMakeItFlyable) (alike : RoundFlightsAreAlike) (texts : AlikeFlightsHaveOneText) (fit : StatedMissionsFit) where
  -- two flights of a mission without storms have one text
  one_text : (job : BusNumbers) (d : MissionData) (fl gl : Flight) → PartsFit d → FliesCalm d fl → FliesCalm d gl → told job d fl ≡ told job d gl
  one_text job d fl gl fits one other =
      let some : 0 < d.frames = omega (arith, fits.limits.some_frame) in
      let same = alike (flown d) one.strays other.strays fl gl (flies d fits).0 one.calm some one.round other.round in
      λ i. (texts d fl gl some same).report Two i ++ same_text job.bus d.frames (wrong_in job (flown d) fl) (wrong_in job (flown d) gl)
      (same_words job (flown d) fl gl same) i

  -- so there is one reply for a mission
  pub one_reply : (job : BusNumbers) (bytes : List ℕ) (d : MissionData) (one other : Reply) → States bytes d → BusesGives job d one →
      BusesGives job d other → one ≡ other
  one_reply job bytes d one other states (inl (text, (fl, flight, told_is), is)) (inl (text', (gl, flight', told_is'), is')) =
      is ∙ (ap done (told_is ∙ (one_text job d fl gl (fit states.0 d states.2) flight flight' ∙ sym told_is')) ∙ sym is')
  one_reply job bytes d one other states (inl (text, (fl, flight, told_is), is)) (inr ((u, from, there, some), is')) =
      absurd (no_storm (flown d) u from (flight.calm u there) some)
  one_reply job bytes d one other states (inr ((u, from, there, some), is)) (inl (text, (gl, flight', told_is), is')) =
      absurd (no_storm (flown d) u from (flight'.calm u there) some)
  one_reply job bytes d one other states (inr (stormy, is)) (inr (stormy', is')) = is ∙ sym is'

-- its status is 0 or 15
pub own : (job : BusNumbers) (d : MissionData) (came : Reply) → BusesGives job d came →
    Contains (done_status ∷ storm_status ∷ []) came.status × ¬ Contains shared_statuses came.status
own job d came (inl (text, tells, is)) = subst
    (λ (r : Reply). Contains (done_status ∷ storm_status ∷ []) r.status × ¬ Contains shared_statuses r.status) (sym is) ((0, lit< tt, refl), grind arith)
own job d came (inr (stormy, is)) = subst
    (λ (r : Reply). Contains (done_status ∷ storm_status ∷ []) r.status × ¬ Contains shared_statuses r.status) (sym is) ((1, lit< tt, refl), grind arith)
