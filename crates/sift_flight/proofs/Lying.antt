-- A working unit catches who lies to it, and whom two of them catch is out.
use Rattle.std.proofs.Common.{◌≡◌, ◌≢◌, ◌⊎◌, inl, inr, ℕ, suc, ◌<◌, List, get_or, map, slice_index, Bool, true, false, not, ◌&&◌, nat_eq, Option, None, Some, refl, sym, ap, ◌∙◌, subst, arith}
use Rattle.std.specs.Prelude.{ℤ, ◌+ℤ◌}
use Rattle.std.specs.List.{list_any, range_with_len}
use Rattle.std.proofs.lemmas.Bool.{cases_Bool, true≢false, and_from, ne_eqb, eq-eqb, lt-ltb}
use Rattle.std.proofs.lemmas.List.Folds.{list_any_at}
use Rattle.std.proofs.lemmas.List.FromFn.{length-range_with_len, get_or-range_with_len}
use Rattle.std.proofs.lemmas.Option.{none-some}
use Rattle.sift_base.specs.Units.{has, holds}
use Rattle.sift_base.specs.declared.slots.Slot.{Slot}
use Rattle.sift_base.specs.declared.slots.Slot.TheVariants as slot
use Rattle.sift_base.specs.laws.Counts.{of_filtered}
use Rattle.sift_clock.specs.Correction.{reading_of, is_too_far}
use Rattle.sift_config.specs.Config.{reader_of}
use Rattle.sift_exec.specs.declared.catches.Kind.{Kind}
use Rattle.sift_exec.specs.declared.catches.Kind.TheVariants.{Poll, Relay, Clock}
use Rattle.sift_mission.specs.Data.{FlownMission}
use Rattle.sift_mission.specs.Slots.{calls, executors, has_turned}
use Rattle.sift_mission.specs.laws.Calls.{Call, call_is}
use Rattle.sift_program.specs.Program.{ProgramTree}
use Rattle.sift_vote.specs.Majority.{differs, majority_of}
use Rattle.sift_conduct.specs.Conduct.{caught, polled}
use Rattle.sift_flight.specs.Lies.{IsFalseResult, IsFalseRelay, IsFalseClock}
use Rattle.sift_flight.specs.Caught.{LiesAt, caught_in, known_at, LiarsAreOut}
use Rattle.sift_flight.specs.Flight.{Flight, config_of, Strays}
use Rattle.sift_flight.specs.Figures.{Works, config_at}
use Rattle.sift_flight.specs.Headline.{two_caught, Headline}
use Rattle.sift_exec.specs.laws.Everyone.{way_is_caught}
use Rattle.sift_flight.proofs.Counting.{two_count}
use Rattle.sift_flight.proofs.Working.{InFrame, Member, member_of, by_config, conduct_here, config_here, flies}
use Rattle.sift_flight.proofs.OneFrame.{vote_at}
use Rattle.sift_flight.proofs.Induction.{Stands, stands, headline_holds}

-- a number below n that passes is found
any_here : (n : ℕ) (p : ℕ → Bool) (x : ℕ) → x < n → p x ≡ true → list_any p (range_with_len 0 n) ≡ true
any_here n p x low passes =
    let at : get_or (range_with_len 0 n) x 0 ≡ x = omega (arith, get_or-range_with_len 0 n x 0 low) in
    list_any_at p (range_with_len 0 n) x 0 (rw (length-range_with_len 0 n) low) (rw at passes)

-- ---- what is heard of a lie

-- nothing is heard, or what was said
abbrev IsHeardOf : (heard said : Option ℕ) → Type 0
IsHeardOf heard said = (heard ≡ None) ⊎ (heard ≡ said)

-- of another word than this one another word is heard, or nothing
differs_from : (heard said : Option ℕ) (w : ℕ) → IsHeardOf heard said → said ≢ Some w → differs heard (Some w) ≡ true
differs_from None said w of other = refl
differs_from (Some v) said w (inl absent) other = absurd (none-some v (sym absent))
differs_from (Some v) said w (inr same) other = ap not (ne_eqb v w (λ e. other (sym same ∙ ap (λ x. Some x) e)))

-- of a clock that reads too far off, one that does, or nothing
far_from : (heard said : Option ℕ) (limit own error : ℤ) → IsHeardOf heard said → is_too_far limit (reading_of said own error) ≡ true
    → is_too_far limit (reading_of heard own error) ≡ true
far_from heard said limit own error (inl absent) far = rw absent refl
far_from heard said limit own error (inr same) far = rw same far

-- unit u of the configuration, which hasn't turned, and a member q
module _ (m : FlownMission) (strays : Strays) (fl : Flight) (f : ℕ) (us : List ℕ) (here : InFrame m strays fl f us)
    (u : ℕ) (from : has us u ≡ true) (there : has_turned m u f ≡ false) (q : ℕ) (wq : Member m f us q) where
  abbrev heard : Slot → Option ℕ
  heard k = fl.heard q f k u

  -- who works says its own words, so the member isn't the liar
  isnt_liar : (k : Slot) (said : Option ℕ) → m.override u f k q ≡ Some said → u ≢ q
  isnt_liar k said script same =
      none-some said (sym (here.flyable.script.own_words u f k q (subst (λ v. m.works v f ≡ true) (sym same) wq.works)) ∙ script)

  -- the member hears what the script says, or nothing, whatever configuration the liar has
  hears_lie : (k : Slot) (said : Option ℕ) → Call m us k u q → m.override u f k q ≡ Some said → IsHeardOf (heard k) said
  hears_lie k said call script =
      let cq = config_here m strays fl f us here q wq in
      let hears = (here.round.hearing q k u (flies m strays fl f us here q wq)).heard
      (subst (λ c. calls m c k u q ≡ true) (sym cq) (call_is m us k u q call)) there in
      let says = (here.round.conduct u (record { unit = here.config.inside u from; whole = there })).said k q in
      elim (cases_Bool (nat_eq (m.due (config_of fl u f) k) (m.due (config_of fl q f) k))) [
        | inr apart ↦ inl (hears ∙ rw apart refl)
        | inl due ↦ elim (cases_Bool (calls m (config_of fl u f) k u q)) [
          | inr silent ↦ inl (hears ∙ (rw due refl ∙ (says ∙ rw silent refl)))
          | inl called ↦ inr (hears ∙ (rw due refl ∙ (says ∙ rw (called, script) refl)))
        ]
      ]

  -- ---- whom it catches

  -- who says a false result
  catches_result : (lie : IsFalseResult m us f u q (known_at fl q f))
      → majority_of (map (polled (by_config m strays fl f us here us q) lie.word) (executors m us lie.word)) ≡ Some (slice_index (fl.account q f).outs lie.word)
      → holds (fl.account q f).bad.poll u ≡ true
  catches_result lie vote =
      let w : ℕ = lie.word in
      let ne = isnt_liar (slot.Out w) lie.said lie.script in
      let call : Call m us (slot.Out w) u q = record { slot = lt-ltb w m.words lie.low; from = from; to = wq.member; other = ne; sender = lie.executes } in
      let unlike = differs_from (heard (slot.Out w)) lie.said _ (hears_lie (slot.Out w) lie.said call lie.script) lie.untrue in
      let place : ℕ → ℕ → Option ℕ = polled (by_config m strays fl f us here us q) in
      let found = any_here m.words (λ w. m.executes us w u && differs (place w u) (majority_of (map (place w) (executors m us w)))) w lie.low
      (rw (lie.executes, vote, ne_eqb u q ne) unlike) in
      (conduct_here m strays fl f us here q wq).polls u ∙ and_from (has us u) _ from found

  -- who relays a sensor's word falsely
  catches_relay : IsFalseRelay m us f u q (known_at fl q f) → holds (fl.account q f).bad.relay u ≡ true
  catches_relay lie =
      let x : ℕ = lie.sensor in
      let ne = isnt_liar (slot.RelaySense x) lie.said lie.script in
      let isnt_reader = ap not (ne_eqb u (reader_of us x) (λ e. ne (e ∙ lie.reads))) in
      let call : Call m us (slot.RelaySense x) u q =
      record { slot = lt-ltb x m.sensors lie.low; from = from; to = wq.member; other = ne; sender = isnt_reader } in
      let unlike = differs_from (heard (slot.RelaySense x)) lie.said _ (hears_lie (slot.RelaySense x) lie.said call lie.script) lie.untrue in
      let found = any_here m.sensors (λ s. nat_eq (reader_of us s) q && differs (heard (slot.RelaySense s)) (Some (m.sensed s f))) x lie.low
      (and_from (nat_eq (reader_of us x) q) _ (eq-eqb (reader_of us x) q lie.reads) unlike) in
      (conduct_here m strays fl f us here q wq).relays u ∙ and_from (has us u) _ from (and_from (not (nat_eq u q)) _ (ap not (ne_eqb u q ne)) found)

  -- who shows a false clock
  catches_clock : IsFalseClock m us f u q (known_at fl q f) → holds (fl.account q f).bad.clock u ≡ true
  catches_clock lie =
      let ne = isnt_liar slot.Clock lie.said lie.script in
      let call : Call m us slot.Clock u q = record { slot = refl; from = from; to = wq.member; other = ne; sender = refl } in
      let far = far_from (heard slot.Clock) lie.said (m.skew +ℤ m.error) (fl.account q f).clk (m.errors q u) (hears_lie slot.Clock lie.said call lie.script) lie.far in
      (conduct_here m strays fl f us here q wq).clocks u ∙ and_from (has us u) _ from (and_from (not (nat_eq u q)) _ (ap not (ne_eqb u q ne)) far)

-- ---- who is out

-- whom two members catch is out of the next configuration
two_catch : (m : FlownMission) (program : ProgramTree) (fl : Flight) (f u q r : ℕ) → Headline m program fl f → Works m q f → Works m r f → q ≢ r
    → caught (fl.account q f) u ≡ true → caught (fl.account r f) u ≡ true → has (config_at m fl (suc f)) u ≡ false
two_catch m program fl f u q r head wq wr ne cq cr =
    let member = head.same_configuration.member in
    let two : two_caught m fl f u ≡ true = lt-ltb 1 _ (two_count (λ v. m.works v f && caught (fl.account v f) u) (config_at m fl f) q r
    (member q wq) (member r wr) ne (and_from _ _ wq.works cq) (and_from _ _ wr.works cr)) in
    elim (cases_Bool (has (config_at m fl (suc f)) u)) [
      | inr out ↦ out
      | inl stays ↦
          let kept = (of_filtered (λ v. not (two_caught m fl f v)) (config_at m fl f) u (subst (λ c. has c u ≡ true) head.exact_removal.exact stays)).0 in
          absurd (true≢false (sym kept ∙ ap not two))
    ]

-- so it is in each frame with margin
pub liars_are_out : LiarsAreOut
liars_are_out m program strays fl flyable runs round f low margin u from there = record {
  caught = catches;
  out = λ a b q r wq wr ne lie_q lie_r.
      two_catch m program fl f u q r (headline_holds m program strays fl flyable runs round f low margin) wq wr ne
      (way_is_caught a (fl.account q f).bad u (catches a q wq lie_q)) (way_is_caught b (fl.account r f).bad u (catches b r wr lie_r));
}
  where
    s : Stands m program strays fl f
    s = stands m program strays fl flyable runs round f low margin

    us : List ℕ
    us = config_at m fl f

    member : (q : ℕ) → Works m q f → Member m f us q
    member q w = member_of m strays fl f us s.frame q w

    -- each lie is caught in its way
    catches : (way : Kind) (q : ℕ) → Works m q f → LiesAt m fl f u q way → caught_in way (fl.account q f) u ≡ true
    catches Poll q w lie =
        catches_result m strays fl f us s.frame u from there q (member q w) lie (vote_at m program strays fl f runs s.frame s.last lie.word lie.low u lie.executes q (member q w))
    catches Relay q w lie = catches_relay m strays fl f us s.frame u from there q (member q w) lie
    catches Clock q w lie = catches_clock m strays fl f us s.frame u from there q (member q w) lie
