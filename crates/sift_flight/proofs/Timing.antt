-- Working units' clocks stay together, none is caught for its clock, and none leads by too much.
use Rattle.std.proofs.Common.{◌≡◌, ◌≢◌, ℕ, List, map, true, Option, Some, ℤ, pos, negsuc, arith}
use Rattle.std.specs.Prelude.{◌+ℤ◌, ◌≤ℤ◌}
use Rattle.std.specs.List.{filter}
use Rattle.std.proofs.lemmas.Int.{ints}
use Rattle.sift_base.specs.Units.{has}
use Rattle.sift_base.specs.declared.slots.Slot.TheVariants.{Clock}
use Rattle.sift_base.specs.laws.Counts.{of_filtered}
use Rattle.sift_clock.specs.Distance.{IsWithin}
use Rattle.sift_clock.specs.Correction.{is_too_far}
use Rattle.sift_skew.specs.Keeping.{AreTogether, ReadsWell, AreWithin, next_offsets}
use Rattle.sift_skew.specs.Figures.{IsSkew, IsSlack}
use Rattle.sift_skew.specs.laws.Readings.{heard_clocks_are_read_well}
use Rattle.sift_skew.proofs.lemmas.Keeps.{skew_is_kept_with_margin}
use Rattle.sift_skew.proofs.lemmas.Changes.{offsets_change_little}
use Rattle.sift_skew.specs.laws.Leads.{Contains-map, slack_is_positive}
use Rattle.sift_mission.specs.Data.{FlownMission}
use Rattle.sift_conduct.specs.Conduct.{reading_by}
use Rattle.sift_flight.specs.Flight.{Flight, Strays}
use Rattle.sift_flight.specs.Headline.{HasLead}
use Rattle.sift_flight.proofs.Working.{InFrame, Member, by_config, conduct_here, hears, clock_call}

-- what is too far is not within the limit
pub too_far_is : (limit z : ℤ) → IsWithin limit z (pos 0) → is_too_far limit (Some z) ≡ true → ⊥
too_far_is (pos n) (pos k) near far = omega (arith, ints)
too_far_is (pos n) (negsuc k) near far = omega (arith, ints)
too_far_is (negsuc n) (pos k) near far = omega (arith, ints)
too_far_is (negsuc n) (negsuc k) near far = omega (arith, ints)

module _ (m : FlownMission) (strays : Strays) (fl : Flight) (f : ℕ) (us : List ℕ) (here : InFrame m strays fl f us) where
  abbrev pub clk : ℕ → ℤ
  clk u = (fl.account u f).clk

  abbrev pub reads : ℕ → ℕ → Option ℤ
  reads u = reading_by (by_config m strays fl f us here us u)

  -- each member reads the others well
  pub reads_well : (u : ℕ) → Member m f us u → ReadsWell m.error us (λ v. m.works v f) clk u (reads u)
  reads_well u w = heard_clocks_are_read_well m.skew m.error us (λ v. m.works v f) clk u (fl.heard u f Clock) (m.errors u)
      here.flyable.clocks.admitted.told here.together w.member w.works
      (λ v hv wv ne. let v' : Member m f us v = record { member = hv; works = wv } in (
        hears m strays fl f us here u v Clock w v' (clock_call m strays fl f us here v u v' w ne),
        here.flyable.clocks.errors u v (here.config.inside u w.member) (here.config.inside v hv),
      ))

  within : AreWithin m.skew m.error m.rate us (λ u. m.works u f) clk m.drift reads
  within = record {
    together = here.together;
    readings = λ u hu wu. reads_well u (record { member = hu; works = wu });
    drifts = λ u hu wu. here.flyable.clocks.drifts u (here.config.inside u hu);
  }

  -- their next offsets are the corrected ones
  pub next_is : (u : ℕ) → Member m f us u → (fl.account u f).next_clk ≡ next_offsets (m.skew +ℤ m.error) us clk m.drift reads u
  next_is u w = (conduct_here m strays fl f us here u w).next_clk

  -- they are together in the next frame
  pub next_together : AreTogether m.skew us (λ u. m.works u f) (λ u. (fl.account u f).next_clk)
  next_together p q hp wp hq wq =
      let t = skew_is_kept_with_margin m.skew m.error m.rate us (λ u. m.works u f) clk m.drift reads within here.margin here.flyable.clocks.admitted.kept p q hp wp hq wq in
      rw (next_is p (record { member = hp; works = wp }), next_is q (record { member = hq; works = wq })) t

  -- no member's clock is too far for a member
  pub none_far : (u v : ℕ) → Member m f us u → Member m f us v → v ≢ u → is_too_far (m.skew +ℤ m.error) (reads u v) ≡ true → ⊥
  none_far u v wu wv ne far =
      let r = reads_well u wu v wv.member wv.works ne in
      let up_to = here.together v u wv.member wv.works wu.member wu.works in
      let down_to = here.together u v wu.member wu.works wv.member wv.works in
      too_far_is (m.skew +ℤ m.error) r.0 (omega (arith, ints, r.2, up_to, down_to), omega (arith, ints, r.2, up_to, down_to)) (rw r.1 at far)

  -- an offset changes little
  change : (u : ℕ) → Member m f us u → IsWithin (m.skew +ℤ m.error +ℤ m.rate) (fl.account u f).next_clk (clk u)
  change u w =
      let self = here.together u u w.member w.works w.member w.works in
      let error = here.flyable.clocks.errors u u (here.config.inside u w.member) (here.config.inside u w.member) in
      rw (next_is u w) (offsets_change_little (m.skew +ℤ m.error) m.rate us (reads u) (clk u) (m.drift u) u w.member (omega (arith, ints, self, error))
      (here.flyable.clocks.drifts u (here.config.inside u w.member)))

  working : (u : ℕ) → has (filter (λ v. m.works v f) us) u ≡ true → Member m f us u
  working u h = let t = of_filtered (λ v. m.works v f) us u h in record { member = t.1; works = t.0 }

  -- the figure of the skew is at most the skew
  pub skew_within : (s : ℤ) → IsSkew (map clk (filter (λ v. m.works v f) us)) s → s ≤ℤ m.skew
  skew_within s figure =
      let p = Contains-map clk (filter (λ v. m.works v f) us) figure.attained.0 figure.attained.2 in
      let q = Contains-map clk (filter (λ v. m.works v f) us) figure.attained.1 figure.attained.3 in
      let p' = working p.0 p.1 in
      let q' = working q.0 q.1 in
      omega (arith, ints, p.2, q.2, here.together p.0 q.0 p'.member p'.works q'.member q'.works, figure.attained.4)

  -- something is left of a subframe between any two members
  pub leads : (p q : ℕ) → Member m f us p → Member m f us q → HasLead m fl f p q
  leads p q wp wq =
      let near = here.together q p wq.member wq.works wp.member wp.works in
      let self = here.together p p wp.member wp.works wp.member wp.works in
      let hp = here.config.inside p wp.member in
      let error = here.flyable.clocks.errors p p hp hp in
      let drift = here.flyable.clocks.drifts p hp in
      let long = here.flyable.clocks.admitted.long in
      record { now = omega (arith, ints, near, self, error, drift, long); next = omega (arith, ints, near, change q wq, long) }

  -- the slack is at least 1
  pub slack_positive : (s : ℤ) → IsSlack m.length (map clk (filter (λ v. m.works v f) us)) (map (λ u. (fl.account u f).next_clk) (filter (λ v. m.works v f) us)) s → pos 1 ≤ℤ s
  slack_positive s figure = slack_is_positive m.skew m.error m.rate m.length s (filter (λ v. m.works v f) us) clk (λ u. (fl.account u f).next_clk)
      here.flyable.clocks.admitted
      (λ p q hp hq. let p' = working p hp in let q' = working q hq in here.together p q p'.member p'.works q'.member q'.works)
      (λ u hu. change u (working u hu)) figure
