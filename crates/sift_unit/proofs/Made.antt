-- The words that a board makes and says are those of the equations.
use Rattle.std.proofs.Common.{◌≡◌, ℕ, ◌<◌, ◌≤◌, List, length, true, refl, sym, ap, ◌∙◌, arith, eq-eqb, ne_eqb, ltb-true, lt-ltb}
use Rattle.std.specs.Prelude.{ℤ, Some}
use Rattle.std.proofs.lemmas.Bool.{and_parts, not-true, eqb-false}
use Rattle.sift_base.specs.Units.{has, bits_of}
use Rattle.sift_base.specs.declared.slots.Slot.{Slot}
use Rattle.sift_base.specs.declared.slots.Slot.TheVariants.{Clock, Sense, RelaySense, Out, Report, RelayReport}
use Rattle.sift_config.specs.Config.{reader_of}
use Rattle.sift_exec.specs.Conviction.{everyone_in}
use Rattle.sift_mission.specs.Data.{FlownMission, IsConfigOf}
use Rattle.sift_mission.specs.Slots.{is_slot, calls}
use Rattle.sift_mission.specs.Fits.{Fits}
use Rattle.sift_mission.specs.laws.Silent.{not_held}
use Rattle.sift_mission.specs.laws.Calls.{call_of}
use Rattle.sift_conduct.specs.Conduct.{Account, Places, UnitFrame, unit_frame, own_word}
use Rattle.sift_unit_frame.specs.Memory.{Memory, run, is_made_by}
use Rattle.sift_unit_frame.specs.Tidings.{word_now}
use Rattle.sift_unit_frame.specs.Conditions.{IsShaped}
use Rattle.sift_unit_frame.specs.laws.Sets.{renewed-here}
use Rattle.sift_unit.specs.Remembered.{Heard, Ran, Matches, Settled}
use Rattle.sift_unit.proofs.Kept.{made_long}

module _ (m : FlownMission) (us : List ℕ) (u f : ℕ) (clk : ℤ) (a : Account) (h : Places) (last : List ℕ) (fit : Fits m) (config : IsConfigOf m us) where
  -- the unit in the frame
  abbrev here : UnitFrame
  here = unit_frame m us u f a h last

  -- a task's words, once it was run with all that it reads
  pub ran_new : (t : ℕ) (b : Memory) → IsShaped m us u b → has us u ≡ true
      → ((k' : Slot) → is_slot m k' ≡ true → m.heard_in us k' ≤ m.run_in us t → Matches b a k')
      → (w : ℕ) → w < m.words → m.task w ≡ t → Ran here (run m us u last t b) w
  ran_new t b shape member matches w few is = λ e.
      let long = made_long m us u b shape member in let low : w < length b.made = omega arith in
      let kept = not_held m us w u fit.executors config few e in
      let at : m.due us (Out w) ≡ m.run_in us t = fit.timed.run us w config few ∙ ap (λ z. m.run_in us z) is in
      renewed-here (is_made_by m us u t) (λ v. m.word v b.ins b.outs last) b.made w 0 w (omega arith) low (rw (lt-ltb w m.words few, eq-eqb (m.task w) t is, e) refl)
      ∙ fit.read.reads w b.ins a.ins b.outs a.outs last few
      (λ x lx any. matches (RelaySense x) (lt-ltb x m.sensors lx) (let z = fit.timed.agreed us x w config lx few kept in omega arith))
      (λ v lv needed. matches (Out v) (lt-ltb v m.words lv) (let z = fit.read.polled us w v config few lv kept needed in omega arith))

  -- the own word of a slot, where all was heard and made that goes into it
  pub word_is : (k : Slot) (q : ℕ) (b : Memory) → calls m us k u q ≡ true → a.clk ≡ clk
      → ((k' : Slot) → is_slot m k' ≡ true → m.heard_in us k' ≤ m.due us k → Heard here clk b k')
      → ((w : ℕ) → w < m.words → m.due us (Out w) ≤ m.due us k → Ran here b w)
      → (m.due us Report ≤ m.due us k → Settled m us b a)
      → word_now m us f clk b k ≡ own_word here k
  word_is Clock q b call ck before ran settled = rw ck refl
  word_is (Sense x) q b call ck before ran settled = refl
  word_is (RelaySense x) q b call ck before ran settled =
      let c = call_of m us (RelaySense x) u q call in
      let few = ltb-true x m.sensors c.slot in
      before (Sense x) c.slot (fit.timed.relayed us x config few) (ne_eqb (reader_of us x) u (λ e. eqb-false u (reader_of us x) (not-true _ c.sender) (sym e)))
  word_is (Out w) q b call ck before ran settled =
      let c = call_of m us (Out w) u q call in ap Some (ran w (ltb-true w m.words c.slot) (omega arith) c.sender)
  word_is Report q b call ck before ran settled = let s = settled (omega arith) in λ i. Some (bits_of (everyone_in (s i)))
  word_is (RelayReport s) q b call ck before ran settled =
      let c = call_of m us (RelayReport s) u q call in
      let t = and_parts _ _ c.sender in
      let t' = and_parts _ _ t.1 in
      before Report refl (fit.timed.reported us s config c.slot) s t.0 (λ e. eqb-false u s (not-true _ t'.0) (sym e))
