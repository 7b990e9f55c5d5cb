-- The rows of the definitions of flights.
use Rattle.std.proofs.Common.{◌≡◌, inl, inr, ℕ, [], ◌++◌, map, length, slice_index, true, Some, ℤ, pos, refl, sym, ap, ◌∙◌, arith}
use Rattle.std.proofs.lemmas.Int.{ints}
use Rattle.std.proofs.lemmas.Option.{same_Some, none-some}
use Rattle.std.specs.FinSet as set
use Rattle.std.specs.List.{Contains}
use Rattle.std.proofs.lemmas.List.Elements.{Contains-append_cases}
use Rattle.sift_base.specs.declared.slots.Slot.TheVariants.{Report}
use Rattle.sift_base.specs.Units.{has, holds}
use Rattle.sift_base.specs.laws.Sets.{holds-insert}
use Rattle.sift_buffer.specs.Cell.{taken, packed}
use Rattle.sift_exec.specs.Conviction.{nobody, everyone_in}
use Rattle.sift_skew.specs.laws.Leads.{Contains-map, skew_is_unique, slack_is_unique}
use Rattle.sift_exec.specs.laws.Everyone.{holds-everyone}
use Rattle.sift_conduct.specs.Frames.{Flies}
use Rattle.sift_flight.specs.Calm.{Calm, four_units, mission_of, program_of}
use Rattle.sift_flight.specs.CalmFlight.{account_of, core_of, ranges_of}
use Rattle.sift_flight.specs.Calms.{FliesCalmly, count, gauge}
use Rattle.sift_flight.specs.Figures.{Works, IsSkewAt, IsSlackAt}
use Rattle.sift_flight.specs.Headline.{Headline}
use Rattle.sift_flight.specs.Flight.{IsOfStray, absent, stray, IsRound}
use Rattle.sift_flight.specs.Rows.{no_strays, calm_flight, HearingRows, ConfigurationRows, HeadlineRows, RowsHold}
use Rattle.sift_flight.proofs.CalmConduct.{no_report}
use Rattle.sift_flight.proofs.CalmCount.{count_flies}
use Rattle.sift_flight.proofs.CalmGauge.{gauge_flies}
use Rattle.sift_flight.proofs.Induction.{headline_holds}
use Rattle.sift_flight.proofs.Landed.{landed_frames_are_round}

-- calm missions fly round
calm_round : (c : Calm) → FliesCalmly c → IsRound (mission_of c) no_strays (calm_flight c)
calm_round c flies f low = landed_frames_are_round (mission_of c) (ranges_of c) (core_of c) (λ u f. account_of c) 1 f flies.flyable.fits flies.landed low

-- so their frame has all that the headline says
calm_headline : (c : Calm) → FliesCalmly c → Headline (mission_of c) (program_of c) (calm_flight c) 0
calm_headline c flies = headline_holds (mission_of c) (program_of c) no_strays (calm_flight c) flies.flyable flies.runs (calm_round c flies) 0 (omega arith) flies.margin

-- the four fly
fly : (u : ℕ) → has four_units u ≡ true → Flies (mission_of count) u 0
fly u hu = record { unit = hu; whole = refl }

-- and work
work : (c : Calm) (u : ℕ) → has four_units u ≡ true → Works (mission_of c) u 0
work c u hu = record { unit = hu; works = refl }

-- computed at the literals of each row
hearing_rows : HearingRows
unfolding taken
hearing_rows = record {
  hears = λ q k p hq. (calm_round count count_flies 0 (omega arith)).hearing q k p (fly q hq);
  hears_other = λ h. let e : 17 ≡ 16 = same_Some 17 16 (h.heard refl refl) in omega (arith, e);
  strayed = stray (packed 5 (Some 7)) (0, omega arith, refl) taken_is;
  no_stray = none;
  round = calm_round count count_flies 0 (omega arith);
  not_round = λ r. let e : 17 ≡ 16 = ((r.conduct 2 (fly 2 refl)).busy refl).outputs 0 (omega arith) in omega (arith, e);
  votes = refl;
  holds = refl;
  not_silent = λ r. none-some 0 (sym (r.says_nothing 3 Report 0 refl refl));
}
  where
    taken_is : Some 7 ≡ taken (packed 5 (Some 7)) 5
    taken_is = refl

    none : ¬ IsOfStray [] 1 3 5 (Some 7)
    none (absent e) = none-some 7 (sym e)
    none (stray x among e) = let low = among.1 in absurd (omega arith)

-- ---- configurations

-- each offset of the calm flight is 0
abbrev clk : ℕ → ℤ
clk u = ((calm_flight count).account u 0).clk

-- an offset that stands there is 0
offset_is : (z : ℤ) → Contains (map clk four_units) z → z ≡ pos 0
offset_is z among = (Contains-map clk four_units z among).2

-- and so of this frame and the next
either_is : (z : ℤ) → Contains (map clk four_units ++ map clk four_units) z → z ≡ pos 0
either_is z among = elim (Contains-append_cases (map clk four_units) (map clk four_units) z among) [ inl a ↦ offset_is z a | inr a ↦ offset_is z a ]

-- and 0 stands there
first_offset : Contains (map clk four_units) (pos 0)
first_offset = (0, omega arith, refl)

-- so the skew is 0
skew_is : IsSkewAt (mission_of count) (calm_flight count) 0 (pos 0)
skew_is = record {
  attained = (pos 0, pos 0, first_offset, first_offset, refl);
  largest = λ p q hp hq. let a = offset_is p hp in let b = offset_is q hq in omega (arith, ints, a, b);
}

-- and the slack is 1
slack_is : IsSlackAt (mission_of count) (calm_flight count) 0 (pos 1)
slack_is = record {
  attained = (pos 0, pos 0, first_offset, (0, omega arith, refl), refl);
  least = λ p q hp hq. let a = offset_is p hp in let b = either_is q hq in omega (arith, ints, a, b);
}

-- again by computing
configuration_rows : ConfigurationRows
configuration_rows = record {
  four_left = refl;
  three_left = refl;
  lead = refl;
  next_lead = refl;
  after = refl;
  margin = count_flies.margin;
  no_margin = λ h. omega (arith, (h 0 (omega arith)).enough);
  lost_margin = (record { few = omega arith; enough = omega arith }, λ h. omega (arith, (h 0 (omega arith)).enough));
  mean = refl;
  skew = skew_is;
  other_skew = λ h. let e = skew_is_unique _ (pos 1) (pos 0) h skew_is in omega (arith, ints, e);
  slack = slack_is;
  other_slack = λ h. let e = slack_is_unique _ _ _ (pos 0) (pos 1) h slack_is in omega (arith, ints, e);
}

-- ---- the headline

-- the calm flights have it, and each changed flight lacks an item
headline_rows : HeadlineRows
headline_rows = record {
  count_stands = calm_headline count count_flies;
  gauge_stands = calm_headline gauge gauge_flies;
  configuration = λ h. let e = ap length (h.same 2 (work count 2 refl)) in omega (arith, e);
  inputs = λ h. let e = ap (λ ws. slice_index ws 0) (h.same 2 (work gauge 2 refl)) in omega (arith, e);
  reports = λ h. let e : 4 ≡ 0 = h.own 1 0 (work count 1 refl) (work count 0 refl) ∙ no_report in omega (arith, e);
  outputs = λ h. let e = ap (λ ws. slice_index ws 0) (h 2 (work count 2 refl)) in omega (arith, e);
  held = λ u w. refl;
  not_held = λ h. let e = ap (λ ws. slice_index ws 0) (h 2 (record { unit = refl; works = refl })) in omega (arith, e);
  accusation = λ h. let e = sym caught_one ∙ h 2 1 (work count 2 refl) (work count 1 refl) in cc;
  removal = λ h. let e = ap length (h.found 2 (work count 2 refl)) in omega (arith, e);
  clock = λ h. let e = h.together 2 0 refl refl refl refl in omega (arith, ints, e);
}
  where
    caught_one : holds (everyone_in (record nobody { poll = set.insert set.empty 1 })) 1 ≡ true
    caught_one = holds-everyone (record nobody { poll = set.insert set.empty 1 }) 1 ∙ rw (holds-insert set.empty 1 1) refl

-- all rows
pub rows_hold : RowsHold
rows_hold = record { hearing = hearing_rows; configuration = configuration_rows; headline = headline_rows }
