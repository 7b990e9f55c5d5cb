-- What the boards of a calm mission said and heard, and that their core is lawful.
use Rattle.std.proofs.Common.{◌≡◌, inl, inr, ℕ, ◌+◌, ◌-◌, ◌*◌, ◌/◌, ◌%◌, ◌<◌, ◌≤◌, slice_index, Bool, true, false, ◌&&◌, nat_eq, Option, None, Some, refl, sym, ap, ◌∙◌, subst, arith, lt-ltb, le-ltb, eqb-true}
use Rattle.std.specs.List.{range_with_len}
use Rattle.std.proofs.lemmas.Bool.{cases_Bool, and_parts}
use Rattle.std.proofs.lemmas.Nat.{div-mul-add}
use Rattle.std.proofs.Math.Nat.{mod-eq-sub-div-mul}
use Rattle.std.proofs.lemmas.List.{length-map, get_or-map}
use Rattle.std.proofs.lemmas.List.FromFn.{length-range_with_len, get_or-range_with_len}
use Rattle.std.proofs.lemmas.Option.{cond_some}
use Rattle.sift_base.specs.Layout.{slot_count}
use Rattle.sift_buffer.specs.Cell.{IsWord}
use Rattle.sift_buffer.specs.Ranges.{shared_words, place}
use Rattle.sift_buffer.specs.Conduct.{Saying, Hearing, saying, hearing}
use Rattle.sift_buffer.specs.Lawful.{Lawful, IsLastSaid, silent, last}
use Rattle.sift_mission.specs.Slots.{calls, stamp_of, heard_at}
use Rattle.sift_mission.specs.laws.Frames.{frame_low}
use Rattle.sift_flight.specs.Calm.{Calm, four_units, layout_of, mission_of}
use Rattle.sift_flight.specs.CalmFlight.{word_in, acts_of, ranges_of, cell_of, shared_word, core_of}
use Rattle.sift_flight.proofs.CalmStages.{IsPlain, in_range, flies_on}

module _ (c : Calm) (plain : IsPlain c) where
  abbrev stamp : ℕ → ℕ
  stamp n = stamp_of (mission_of c) four_units 0 (c.kind n)

  abbrev at : ℕ → ℕ
  at n = heard_at (mission_of c) four_units 0 (c.kind n)

  abbrev word : ℕ → Option ℕ
  word n = Some (word_in c (c.kind n))

  abbrev calls_in : ℕ → ℕ → ℕ → Bool
  calls_in n p q = calls (mission_of c) four_units (c.kind n) p q

  -- what a said act is
  pub record Said (u f n q s : ℕ) (w : Option ℕ) : Type 0 where
    pub frame : f ≡ 0
    pub called : calls_in n u q ≡ true
    pub stamped : stamp n ≡ s
    pub worded : word n ≡ w

  -- what a unit said it said in frame 0 to a unit that it calls in the slot, with the slot's stamp and word
  pub said_act : (u f n q s : ℕ) (w : Option ℕ) → (acts_of c u).said f n q ≡ Some (saying s w) → Said u f n q s w
  said_act u f n q s w e =
      let t = cond_some (nat_eq f 0 && calls_in n u q) (saying (stamp n) (word n)) (saying s w) e in
      let b = and_parts (nat_eq f 0) (calls_in n u q) t.0 in
      record { frame = eqb-true f 0 b.0; called = b.1; stamped = ap (λ (x : Saying). x.stamp) t.1; worded = ap (λ (x : Saying). x.word) t.1 }

  pub say_act : (u n q : ℕ) → calls_in n u q ≡ true → (acts_of c u).said 0 n q ≡ Some (saying (stamp n) (word n))
  say_act u n q t = rw t refl

  -- and a heard one
  record Heard (u f n p s h : ℕ) (w : Option ℕ) : Type 0 where
    called : calls_in n p u ≡ true
    stamped : stamp n ≡ s
    moment : at n ≡ h
    worded : word n ≡ w

  heard_act : (u f n p s h : ℕ) (w : Option ℕ) → (acts_of c u).heard f n p ≡ Some (hearing s h w) → Heard u f n p s h w
  heard_act u f n p s h w e =
      let t = cond_some (nat_eq f 0 && calls_in n p u) (hearing (stamp n) (at n) (word n)) (hearing s h w) e in
      let b = and_parts (nat_eq f 0) (calls_in n p u) t.0 in
      record { called = b.1; stamped = ap (λ (x : Hearing). x.stamp) t.1; moment = ap (λ (x : Hearing). x.at) t.1; worded = ap (λ (x : Hearing). x.word) t.1 }

  abbrev slots : ℕ
  slots = slot_count (layout_of c)

  -- ---- the shared words

  word_at : (i : ℕ) → i < shared_words (ranges_of c) → slice_index (core_of c).words i ≡ shared_word c i
  word_at i low = get_or-map (shared_word c) (range_with_len 0 (shared_words (ranges_of c))) i 0 0 (rw (length-range_with_len 0 (shared_words (ranges_of c))) low)
      ∙ ap (shared_word c) (get_or-range_with_len 0 (shared_words (ranges_of c)) i 0 low ∙ omega arith)

  -- the place of a cell tells its sender, receiver and slot
  cell_at : (p q n : ℕ) → p < 4 → q < 4 → n < slots → slice_index (core_of c).words (place (ranges_of c) p q n) ≡ cell_of c p q n
  cell_at p q n hp hq hn =
      let i : ℕ = (p * 4 + q) * slots + n in
      let row : i / slots ≡ p * 4 + q = div-mul-add (p * 4 + q) slots n hn in
      let column : i % slots ≡ n = mod-eq-sub-div-mul i slots ∙ omega (arith, ap {B = ℕ} (λ x. x * slots) row) in
      let less : (p * 4 + q) * slots + slots ≤ 16 * slots = rows (p * 4 + q) slots (omega arith) in
      let front : (4 + i) - 4 ≡ i = omega arith in
      let p_is : (p * 4 + q) / 4 ≡ p = omega arith in
      let q_is : (p * 4 + q) % 4 ≡ q = omega arith in
      word_at (4 + i) (omega arith) ∙ rw (le-ltb (4 + i) 4 (omega arith), front, row, column, p_is, q_is) refl
    where
      rows : (a n : ℕ) → a < 16 → a * n + n ≤ 16 * n
      rows a n low = frame_low n a 16 low

  cell_is : (p q n x : ℕ) → x ≡ cell_of c p q n → IsLastSaid (acts_of c p) q n x
  cell_is p q n x e = elim (cases_Bool (calls_in n p q)) [
    | inl t ↦ last 0 (stamp n) (word n) (say_act p n q t) (e ∙ rw t refl) (λ f s w a. let o = (said_act p f n q s w a).stamped in omega arith)
    | inr t ↦ silent (λ f. none f t) (e ∙ rw t refl)
  ]
    where
      none : (f : ℕ) → calls_in n p q ≡ false → (acts_of c p).said f n q ≡ None
      none f t = elim (cases_Bool (nat_eq f 0)) [ inl z ↦ rw (z, t) refl | inr z ↦ rw z refl ]

  -- the core of a plain calm mission is lawful
  pub lawful : Lawful (ranges_of c) (core_of c)
  lawful = record {
    formed = record {
      wide = length-map (range_with_len 0 (shared_words (ranges_of c))) (shared_word c) ∙ length-range_with_len 0 (shared_words (ranges_of c));
      number = λ p hp. word_at p (omega arith) ∙ rw (lt-ltb p 4 hp) refl;
      stage = λ p hp. (in_range c plain p).stage;
    };
    cells = λ p q k hp hq hk stays. cell_is p q k _ (cell_at p q k hp hq hk);
    stamps = λ p hp. record {
      reached = λ f k q s w e.
          let a = said_act p f k q s w e in
          let is = a.stamped in
          let t = plain.timed k in
          let r = in_range c plain p in
          (omega (arith, r.progress), omega (arith, r.left), subst (λ (o : Option ℕ). IsWord o) a.worded (plain.words k));
      apart = λ f f' k q s w w' e e'. (said_act p f k q s w e).frame ∙ sym (said_act p f' k q s w' e').frame;
    };
    sights = λ q p hq hp ne. omega (arith, (in_range c plain p).progress);
    pace = λ q p hq hp ne stays.
        let own = flies_on c plain q stays in
        record { sight = omega (arith, own); number = omega (arith, own, (in_range c plain p).progress); left = λ z. omega (arith, own, (in_range c plain p).gone z) };
    heard = λ q p f k s h w hq hp ne hk e before.
        let a = heard_act q f k p s h w e in
        let o = a.stamped in
        let t = plain.timed k in
        record {
          source = inr (0, say_act p k q a.called ∙ (λ i. Some (saying (a.stamped i) (a.worded i))));
          same = λ g w' e' between. sym a.worded ∙ (said_act p g k q s w' e').worded;
          over = omega (arith, (in_range c plain p).progress);
        };
    turned = record {
      cells = λ p q k hp hq hk gone. inl (cell_is p q k _ (cell_at p q k hp hq hk));
      heard = λ q p f k s h w hq hp ne hk e after.
          let a = heard_act q f k p s h w e in
          let o = a.moment in
          let t = plain.timed k in
          absurd (omega (arith, (in_range c plain p).left));
    };
  }
