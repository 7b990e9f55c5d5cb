-- A faulty unit that hasn't turned finds the next configuration that members find: in its view no member is named, but by itself.
use Rattle.std.proofs.Common.{◌≡◌, ◌≢◌, inl, inr, ℕ, List, true, false, not, Bool, ◌&&◌, if◌then◌else◌, refl, sym, ap, ◌∙◌, arith}
use Rattle.std.specs.Prelude.{count_by, nat_le, nat_lt, nat_eq, length}
use Rattle.std.proofs.lemmas.Bool.{cases_Bool, true≢false, le-ltb}
use Rattle.std.proofs.lemmas.Bool.Decides.{eqb_tells}
use Rattle.sift_base.specs.Layout.{least_units}
use Rattle.sift_base.specs.Units.{has, has_bit, others}
use Rattle.sift_base.specs.laws.Counts.{count-same, filter_same}
use Rattle.sift_base.specs.laws.Others.{has-others, count-others-≤, times_in-ascending}
use Rattle.sift_exec.specs.Conviction.{is_convicted, kept_by, next_by}
use Rattle.sift_mission.specs.Data.{FlownMission}
use Rattle.sift_conduct.specs.Conduct.{caught, report_of}
use Rattle.sift_flight.specs.Flight.{Flight, Strays}
use Rattle.sift_flight.proofs.Agreeing.{report_own}
use Rattle.sift_flight.proofs.Counting.{count-≤, two_count}
use Rattle.sift_flight.proofs.FaultyMember.{FaultyMember, conduct_in, report_in_view}
use Rattle.sift_flight.proofs.Removing.{names, names_caught}
use Rattle.sift_flight.proofs.Working.{InFrame, Member}

module _ (m : FlownMission) (strays : Strays) (fl : Flight) (f : ℕ) (us : List ℕ) (here : InFrame m strays fl f us) (u : ℕ) (fu : FaultyMember m fl f us u) where
  -- all others of the configuration work
  pub rest_works : (r : ℕ) → has us r ≡ true → r ≢ u → Member m f us r
  rest_works r hr ne = elim (cases_Bool (m.works r f)) [
    | inl w ↦ record { member = hr; works = w }
    | inr g ↦ absurd (omega (arith, here.margin.few, two_count (λ v. not (m.works v f)) us r u hr fu.member ne (ap not g) (ap not fu.faulty)))
  ]

  -- who is named by no member isn't convicted
  unconvicted : (by : ℕ → ℕ → Bool) (v : ℕ) → has us v ≡ true → ((r : ℕ) → Member m f us r → by r v ≡ false) → is_convicted by us v ≡ false
  unconvicted by v hv unnamed =
      let named = count-≤ (λ r. by r v) (λ r. nat_eq r u) (others v us) (λ r hr t. elim (eqb_tells r u) [
        | inl e ↦ e.0
        | inr e ↦ absurd (true≢false (sym t ∙ unnamed r (rest_works r (has-others v us r hr).0 e.1)))
      ]) in
      let few : nat_lt 1 (count_by (λ r. by r v) (others v us)) ≡ false = le-ltb 1 _
      (omega (arith, named, count-others-≤ (λ r. nat_eq r u) v us, times_in-ascending u us here.config.ascending)) in
      rw (hv, few) refl

  -- whom it takes a report to name
  abbrev names_in : ℕ → ℕ → Bool
  names_in r v = has_bit (report_of us u (fl.account u f) (fl.heard u f) r) v

  module _ (none : (p v : ℕ) → Member m f us p → Member m f us v → caught (fl.account p f) v ≡ false) (q : ℕ) (wq : Member m f us q) where
    -- whom member q takes it to name
    abbrev names_by : ℕ → ℕ → Bool
    names_by = names m strays fl f us here q

    names_same : (r v : ℕ) → Member m f us r → names_in r v ≡ names_by r v
    names_same r v wr = ap (λ w. has_bit w v) (report_in_view m strays fl f us here u fu r wr ∙ sym (report_own m strays fl f us here q r wq wr))

    names_none : (r v : ℕ) → Member m f us r → Member m f us v → names_by r v ≡ false
    names_none r v wr wv = names_caught m strays fl f us here q r v wq wr wv.member ∙ none r v wr wv

    -- both find the same units convicted: of itself only members' reports count, and of a member there is none
    convicts_same : (v : ℕ) → has us v ≡ true → is_convicted names_in us v ≡ is_convicted names_by us v
    convicts_same v hv = elim (eqb_tells v u) [
      | inl e ↦ ap (λ n. has us v && nat_lt 1 n) (count-same (λ r. names_in r v) (λ r. names_by r v) (others v us) (λ r hr.
          let o = has-others v us r hr in names_same r v (rest_works r o.0 (λ x. o.1 (x ∙ sym e.1)))))
      | inr e ↦
          let wv = rest_works v hv e.1 in
          unconvicted names_in v hv (λ r wr. names_same r v wr ∙ names_none r v wr wv) ∙ sym (unconvicted names_by v hv (λ r wr. names_none r v wr wv))
    ]

    -- so it finds the next configuration that a member finds
    pub next_in_view : (fl.account u f).next_cfg ≡ next_by names_by us
    next_in_view =
        let kept : kept_by names_in us ≡ kept_by names_by us =
        filter_same (λ v. not (is_convicted names_in us v)) (λ v. not (is_convicted names_by us v)) us (λ v hv. ap not (convicts_same v hv)) in
        (conduct_in m strays fl f us here u fu).next_cfg ∙ ap (λ ks. if nat_le least_units (length ks) then ks else us) kept
