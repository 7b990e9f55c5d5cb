-- What the lines of a round flight's report tell of a frame with margin.
use Rattle.std.proofs.Common.{◌≡◌, ℕ, suc, ◌<◌, List, [], ◌∷◌, length, map, true, not, ◌&&◌, nat_lt, Some, ℤ, inl, inr, refl, sym, ap, ◌∙◌, subst, arith}
use Rattle.std.specs.Prelude.{IsSomeAnd, pos, ◌≤ℤ◌}
use Rattle.std.specs.List.{filter}
use Rattle.std.proofs.lemmas.Bool.{cases_Bool}
use Rattle.sift_base.specs.Units.{has, holds}
use Rattle.sift_base.specs.laws.Counts.{of_filtered, in_filtered, count-same, map-same}
use Rattle.sift_base.specs.laws.Ranges.{range-low}
use Rattle.sift_exec.specs.Conviction.{everyone_in}
use Rattle.sift_mission.specs.Data.{MissionData}
use Rattle.sift_mission.specs.Flown.{flown}
use Rattle.sift_line.specs.declared.line.Version.{Version}
use Rattle.sift_line.specs.declared.line.ReportLine.{ReportLine}
use Rattle.sift_conduct.specs.Conduct.{caught}
use Rattle.sift_flight.specs.Figures.{HasMarginAt, Works, config_at, lead_of, next_offsets_at, offsets_at, working_at, skew_of, slack_of}
use Rattle.sift_flight.specs.Flight.{Flight}
use Rattle.sift_flight.specs.Headline.{Headline, agreed_at, two_caught}
use Rattle.sift_flight.specs.laws.Leading.{config_within, lead_works}
use Rattle.sift_report.specs.Headline.{TellsClockSkew, TellsExactRemoval, TellsNoFalseAccusation, TellsSameInputs}
use Rattle.sift_report.specs.Sheet.{sheet_of}
use Rattle.sift_report.specs.Told.{agreed_told, config_told, line_at, told_at, told_in}
use Rattle.sift_report.proofs.Alike.{one_told}
use Rattle.sift_report.proofs.RoundFlights.{HasLaws}
use Rattle.sift_report.proofs.SheetConfigs.{agreed_is, config_is}
use Rattle.sift_report.proofs.SheetForm.{account_is, line_of_member, works_flying, units_told}
use Rattle.sift_report.proofs.SheetPlaces.{frame_at, unit_at}
use Rattle.sift_report.proofs.Tells.{two_tell, working_clocks, IsTrueSkew, account_line}

-- ---- figures are there

-- offsets of units that are there are some
some_offsets : (clock : ℕ → ℤ) (us : List ℕ) (u : ℕ) → has us u ≡ true → map clock us ≡ [] → ⊥
some_offsets clock [] u h e = absurd cc
some_offsets clock (v ∷ us) u h e = omega (arith, ap length e)

some_skew : (offsets : List ℤ) → (offsets ≡ [] → ⊥) → (skew : ℤ) × (skew_of offsets ≡ Some skew)
some_skew [] some = absurd (some refl)
some_skew (p ∷ ps) some = (_, refl)

some_slack : (length : ℤ) (offsets next : List ℤ) → (offsets ≡ [] → ⊥) → (slack : ℤ) × (slack_of length offsets next ≡ Some slack)
some_slack length [] next some = absurd (some refl)
some_slack length (p ∷ ps) next some = (_, refl)

-- ---- a frame with margin

module _ (d : MissionData) (fl : Flight) (version : Version) (laws : HasLaws d fl) where
  abbrev sheet : List ReportLine
  sheet = sheet_of (flown d) fl version

  module _ (f : ℕ) (within : f < d.frames) (at : HasMarginAt (flown d) fl f) where
    -- the headline of flights holds of the frame
    pub holds_here : Headline (flown d) d.program fl f
    holds_here = laws.headline f within at

    lead : Works (flown d) (lead_of (flown d) f) f
    lead = lead_works (flown d) laws.flyable f

    -- the line of a working unit is that of its account
    pub line_is : (u : ℕ) → Works (flown d) u f → line_at d sheet f u ≡ Some (account_line version f u (fl.account u f))
    line_is u w =
        let h = holds_here.same_configuration in
        let member : has (fl.account u f).cfg u ≡ true = subst (λ us. has us u ≡ true) (sym (h.same u w)) (h.member u w) in
        let low : u < d.units = omega (arith, range-low 0 d.units u w.unit) in
        unit_at d fl version f u within low ∙ ap Some (line_of_member d fl version f u w.works member)

    -- so it tells its account
    pub tells_account : (u : ℕ) → Works (flown d) u f → told_at d sheet f u ≡ told_in (Some (account_line version f u (fl.account u f)))
    tells_account u w = ap told_in (line_is u w)

    -- and so the configuration at the frame
    pub tells_config : (u : ℕ) → Works (flown d) u f → (told_at d sheet f u).config ≡ Some (config_at (flown d) fl f)
    tells_config u w = ap (λ t. t.config) (tells_account u w) ∙ ap Some (holds_here.same_configuration.same u w)

    -- which is the one that is told
    pub is_told : (us : List ℕ) → config_told d sheet f ≡ Some us → us ≡ config_at (flown d) fl f
    is_told us told =
        one_told us (config_at (flown d) fl f) _ told (config_is d fl version laws f (omega arith) (λ g early. at g (omega arith)))

    -- a working unit of the configuration is one of the mission
    member_works : (u : ℕ) → has (config_at (flown d) fl f) u ≡ true → (flown d).works u f ≡ true → Works (flown d) u f
    member_works u member works =
        let l = lead_of (flown d) f in
        let config = (account_is d fl version laws l f within lead).config in
        record { unit = config.inside u (subst (λ us. has us u ≡ true) (config_within (flown d) fl f within) member); works = works }

    -- ---- words

    -- the agreed words that are told of the frame are the flight's
    pub agrees : agreed_told d sheet f ≡ agreed_at (flown d) fl f
    agrees = agreed_is d fl version laws f within (λ g early. at g (omega arith))

    -- all working units tell the same agreed words, and of a sensor that a working unit reads the mission's word
    pub same_inputs : TellsSameInputs d sheet f
    same_inputs = record {
      same = λ u w.
          let works = works_flying d u f w in
          ap (λ t. t.inputs) (tells_account u works) ∙ (holds_here.same_inputs.same u works ∙ sym agrees);
      sensed = λ us x told few works. rw agrees (holds_here.same_inputs.sensed x few (rw (is_told us told) at works));
    }

    -- ---- faults

    -- a working unit tells everyone whom it caught
    pub caught_is : (u : ℕ) → Works (flown d) u f → (told_at d sheet f u).caught ≡ everyone_in (fl.account u f).bad
    caught_is u w = ap (λ t. t.caught) (tells_account u w) ∙ units_told version (fl.account u f).bad

    -- no working unit tells that it caught a working unit
    pub no_false_accusation : TellsNoFalseAccusation d sheet f
    no_false_accusation u v w x =
        let works = works_flying d u f w in
        ap (λ c. holds c v) (caught_is u works) ∙ holds_here.no_false_accusation u v works (works_flying d v f x)

    two_alike : (v : ℕ) → two_tell d sheet f (config_at (flown d) fl f) v ≡ two_caught (flown d) fl f v
    two_alike v = ap (nat_lt 1) (count-same (λ u. (flown d).works u f && holds (told_at d sheet f u).caught v)
        (λ u. (flown d).works u f && caught (fl.account u f) v) (config_at (flown d) fl f) (λ u member. elim (cases_Bool ((flown d).works u f)) [
          | inl works ↦ ap (λ c. (flown d).works u f && holds c v) (caught_is u (member_works u member works))
          | inr faulty ↦ rw faulty refl
        ]))

    -- the next configuration told lacks exactly the units that two working units tell that they caught
    pub exact_removal : TellsExactRemoval d sheet f
    exact_removal us next told told_next =
        let then_is : next ≡ config_at (flown d) fl (suc f) =
        one_told next (config_at (flown d) fl (suc f)) _ told_next (config_is d fl version laws (suc f) (omega arith) (λ g early. at g (omega arith))) in
        let tests : (λ v. not (two_caught (flown d) fl f v)) ≡ (λ v. not (two_tell d sheet f (config_at (flown d) fl f) v)) =
        (λ i v. not (sym (two_alike v) i)) in
        subst (λ c. next ≡ filter (λ v. not (two_tell d sheet f c v)) c) (sym (is_told us told))
        (then_is ∙ (holds_here.exact_removal.exact ∙ ap (λ p. filter p (config_at (flown d) fl f)) tests))

    -- ---- clocks

    clocks_alike : working_clocks d sheet f (config_at (flown d) fl f) ≡ offsets_at (flown d) fl f
    clocks_alike = map-same (λ u. (told_at d sheet f u).clock) (λ u. (fl.account u f).clk) (working_at (flown d) fl f) (λ u there.
        let both = of_filtered (λ v. (flown d).works v f) (config_at (flown d) fl f) u there in
        ap (λ t. t.clock) (tells_account u (member_works u both.1 both.0)))

    -- some unit works, so there are offsets
    some_clock : offsets_at (flown d) fl f ≡ [] → ⊥
    some_clock =
        let l = lead_of (flown d) f in
        some_offsets (λ u. (fl.account u f).clk) (working_at (flown d) fl f) l
        (in_filtered (λ u. (flown d).works u f) (config_at (flown d) fl f) l (holds_here.same_configuration.member l lead) lead.works)

    true_skew : IsSomeAnd (told_at d sheet f d.units).skew (IsTrueSkew d (offsets_at (flown d) fl f))
    true_skew =
        let a = some_skew (offsets_at (flown d) fl f) some_clock in
        let is_skew = ((laws.skew (offsets_at (flown d) fl f)).0 a.0).0 a.1 in
        subst (λ o. IsSomeAnd o (IsTrueSkew d (offsets_at (flown d) fl f))) (sym (ap (λ o. (told_in o).skew) (frame_at d fl version f within) ∙ a.1))
        (is_skew, holds_here.clock_skew.skew a.0 is_skew)

    true_slack : IsSomeAnd (told_at d sheet f d.units).slack (λ slack. pos 1 ≤ℤ slack)
    true_slack =
        let b = some_slack (flown d).length (offsets_at (flown d) fl f) (next_offsets_at (flown d) fl f) some_clock in
        let is_slack = ((laws.slack (flown d).length (offsets_at (flown d) fl f) (next_offsets_at (flown d) fl f)).0 b.0).0 b.1 in
        subst (λ o. IsSomeAnd o (λ slack. pos 1 ≤ℤ slack)) (sym (ap (λ o. (told_in o).slack) (frame_at d fl version f within) ∙ b.1)) (holds_here.clock_skew.slack b.0 is_slack)

    -- the frame's line tells the skew of the working clocks, within the mission's, and a slack of at least 1
    pub clock_skew : TellsClockSkew d sheet f
    clock_skew = record {
      skew = λ us told.
          subst (λ c. IsSomeAnd (told_at d sheet f d.units).skew (IsTrueSkew d (working_clocks d sheet f c))) (sym (is_told us told))
          (subst (λ clocks. IsSomeAnd (told_at d sheet f d.units).skew (IsTrueSkew d clocks)) (sym clocks_alike) true_skew);
      slack = true_slack;
    }
