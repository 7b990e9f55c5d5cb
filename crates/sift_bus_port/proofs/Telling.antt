-- What a log tells, word by word.
use Rattle.std.proofs.Common.{◌≡◌, inl, inr, ℕ, zero, suc, ◌==◌, ◌&&◌, Bool, true, false, not, List, [], ◌∷◌, Option, Some, None, if◌then◌else◌, refl, sym, ap, ◌∙◌, subst, arith, ne_eqb, eq-eqb}
use Rattle.std.proofs.lemmas.Option.{same_Some}
use Rattle.sift_buffer.specs.Conduct.{Hearing, put_at}
use Rattle.sift_buffer.specs.Ranges.{Ranges}
use Rattle.sift_bus_port.specs.Buses.{Carriage, is_same}
use Rattle.sift_bus_port.specs.Links.{Link, CarriesAll, IsBlank, HasHeardNothing, gets_wrong}
use Rattle.sift_bus_port.specs.Logs.{Log, log_with, has_entry, count_below, count_places}
use Rattle.sift_bus_port.specs.Telling.{is_wrong, TellsHeard, TellsCarried, IsCarried, IsOfHearing, LogsTellWhatWasHeard}
use Rattle.sift_bus_port.specs.laws.Counting.{same_places, entry_there}

-- at each entry the faulty bus is wrong where it carried another word than was heard, and no other bus is
abbrev TellsEach : ℕ → (ℕ → ℕ → ℕ → Option Hearing) → Log → Type 0
TellsEach faulty heard l = (f k p bus : ℕ) → has_entry l.ranges f k p ≡ true →
    l.wrong f k p bus ≡ (bus == faulty && is_wrong (heard f k p) (l.carried f k p))

-- ---- counts

none_below : (n : ℕ) → count_below (λ _. false) n ≡ 0
none_below zero = refl
none_below (suc n) = let rest = none_below n in omega arith

no_places : (slots units : ℕ) → count_places (λ _ _. false) slots units ≡ 0
no_places zero units = refl
no_places (suc n) units = let rest = no_places n units in let last = none_below units in omega arith

-- the counts of a log that tells each word
pub counts_are : (faulty : ℕ) (heard : ℕ → ℕ → ℕ → Option Hearing) (l : Log) → TellsEach faulty heard l → TellsHeard faulty heard l
counts_are faulty heard l tells = record {
  true_buses = λ f bus frame other. same_places (λ k p. l.wrong f k p bus) (λ _ _. false) l.ranges.slots l.ranges.units
      (λ k p slot unit. tells f k p bus (entry_there l.ranges f k p frame slot unit)
      ∙ rw (ne_eqb bus faulty other) refl)
      ∙ no_places l.ranges.slots l.ranges.units;
  faulty_bus = λ f frame. same_places (λ k p. l.wrong f k p faulty) (λ k p. is_wrong (heard f k p) (l.carried f k p)) l.ranges.slots l.ranges.units
      (λ k p slot unit. tells f k p faulty (entry_there l.ranges f k p frame slot unit)
      ∙ rw (eq-eqb faulty faulty refl) refl);
}

-- ---- words

-- a blank log tells of a unit that has heard nothing
at_first : (faulty : ℕ) (heard : ℕ → ℕ → ℕ → Option Hearing) (l : Log) → HasHeardNothing heard → IsBlank l → TellsEach faulty heard l
at_first faulty heard l nothing is f k p bus _ = (λ i. (is i).wrong f k p bus) ∙ (never (bus == faulty)
    ∙ sym (λ i. bus == faulty && is_wrong (nothing i f k p) (l.carried f k p)))
  where
    never : (b : Bool) → false ≡ (b && false)
    never true = refl
    never false = refl

-- the test of one place
abbrev is_place : ℕ → ℕ → ℕ → ℕ → ℕ → ℕ → Bool
is_place f k p f' k' p' = f' == f && k' == k && p' == p

-- a place that is an entry's, and another place, aren't both in the log
same_entry : (r : Ranges) (f k p f' k' p' : ℕ) → is_place f k p f' k' p' ≡ true → has_entry r f' k' p' ≡ has_entry r f k p
same_entry r f k p f' k' p' at =
    let same : (f' ≡ f) × ((k' ≡ k) × (p' ≡ p)) = grind arith in λ i. has_entry r (same.0 i) (same.1.0 i) (same.1.1 i)

module _ (faulty : ℕ) (heard : ℕ → ℕ → ℕ → Option Hearing) (l : Log) (tells : TellsEach faulty heard l) (c : Carriage) (act : Hearing)
    (word : act.word ≡ c.word) where
  -- the log has the word: what it tells of one entry
  inside : (f k p bus : ℕ) (at : Bool) → has_entry l.ranges f k p ≡ true →
      if◌then◌else◌ {A = ℕ → Bool} at (gets_wrong faulty c) (l.wrong f k p) bus
      ≡ (bus == faulty && is_wrong (if at then Some act else heard f k p) (if at then c.carried else l.carried f k p))
  inside f k p bus true there = ap (λ (w : Option ℕ). bus == faulty && not (is_same c.carried w)) (sym word)
  inside f k p bus false there = tells f k p bus there

  -- the log hasn't the word
  outside : (f k p bus : ℕ) (at : Bool) → is_place c.frame c.slot c.from f k p ≡ at → has_entry l.ranges c.frame c.slot c.from ≡ false →
      has_entry l.ranges f k p ≡ true → l.wrong f k p bus ≡ (bus == faulty && is_wrong (if at then Some act else heard f k p) (l.carried f k p))
  outside f k p bus true is none there = absurd (let e = same_entry l.ranges c.frame c.slot c.from f k p is in cc)
  outside f k p bus false is none there = tells f k p bus there

  -- one word more was heard
  next : TellsEach faulty (put_at heard c.frame c.slot c.from (Some act)) (log_with l c.frame c.slot c.from c.carried (gets_wrong faulty c))
  next = go (has_entry l.ranges c.frame c.slot c.from) refl
    where
      go : (b : Bool) → has_entry l.ranges c.frame c.slot c.from ≡ b → TellsEach faulty (put_at heard c.frame c.slot c.from (Some act))
          (if b then record l { carried = put_at l.carried c.frame c.slot c.from c.carried; wrong = put_at l.wrong c.frame c.slot c.from (gets_wrong faulty c) } else l)
      go true has f k p bus there = inside f k p bus (is_place c.frame c.slot c.from f k p) there
      go false has f k p bus there = outside f k p bus (is_place c.frame c.slot c.from f k p) refl has there

-- where nothing was heard nothing was carried, with one word more
absent_inside : (at : Bool) (act : Hearing) (heard : Option Hearing) (carried was : Option ℕ) → (heard ≡ None → was ≡ None) →
    (if at then Some act else heard) ≡ None → (if at then carried else was) ≡ None
absent_inside true act heard carried was absent none = absurd (cc)
absent_inside false act heard carried was absent none = absent none

absent_outside : (at : Bool) (act : Hearing) (heard : Option Hearing) (was : Option ℕ) → (heard ≡ None → was ≡ None) →
    (if at then Some act else heard) ≡ None → was ≡ None
absent_outside true act heard was absent none = absurd (cc)
absent_outside false act heard was absent none = absent none

-- what was carried of a word that was heard
abbrev CarriedOf : List Carriage → ℕ → ℕ → ℕ → Hearing → Option ℕ → Type 0
CarriedOf words f k p act carried = (c : Carriage) × IsCarried c words × IsOfHearing c f k p act × (carried ≡ c.carried)

module _ (words : List Carriage) (heard : ℕ → ℕ → ℕ → Option Hearing) (l : Log) (tells : TellsCarried words heard l) (c : Carriage) (act : Hearing)
    (word : act.word ≡ c.word) where
  -- the test of one place tells that the word is that of the hearing
  at_place : (f k p : ℕ) (a : Hearing) → is_place c.frame c.slot c.from f k p ≡ true → Some act ≡ Some a → IsOfHearing c f k p a
  at_place f k p a is same = let at : (f ≡ c.frame) × ((k ≡ c.slot) × (p ≡ c.from)) = grind arith in
      record { frame = sym at.0; slot = sym at.1.0; from = sym at.1.1; word = sym word ∙ ap (λ (h : Hearing). h.word) (same_Some _ _ same) }

  carried_inside : (f k p : ℕ) (a : Hearing) (at : Bool) → is_place c.frame c.slot c.from f k p ≡ at → (if at then Some act else heard f k p) ≡ Some a →
      has_entry l.ranges f k p ≡ true → CarriedOf (c ∷ words) f k p a (if at then c.carried else l.carried f k p)
  carried_inside f k p a true is same there = (c, inl refl, at_place f k p a is same, refl)
  carried_inside f k p a false is same there = let old = tells.of_heard f k p a same there in (old.0, inr old.1, old.2, old.3)

  carried_outside : (f k p : ℕ) (a : Hearing) (at : Bool) → is_place c.frame c.slot c.from f k p ≡ at → (if at then Some act else heard f k p) ≡ Some a →
      has_entry l.ranges c.frame c.slot c.from ≡ false → has_entry l.ranges f k p ≡ true → CarriedOf (c ∷ words) f k p a (l.carried f k p)
  carried_outside f k p a true is same none there = absurd (let e = same_entry l.ranges c.frame c.slot c.from f k p is in cc)
  carried_outside f k p a false is same none there = let old = tells.of_heard f k p a same there in (old.0, inr old.1, old.2, old.3)

  -- one word more was carried
  next_carried : (wrong : ℕ → Bool) → TellsCarried (c ∷ words) (put_at heard c.frame c.slot c.from (Some act)) (log_with l c.frame c.slot c.from c.carried wrong)
  next_carried wrong = go (has_entry l.ranges c.frame c.slot c.from) refl
    where
      go : (b : Bool) → has_entry l.ranges c.frame c.slot c.from ≡ b → TellsCarried (c ∷ words) (put_at heard c.frame c.slot c.from (Some act))
          (if b then record l { carried = put_at l.carried c.frame c.slot c.from c.carried; wrong = put_at l.wrong c.frame c.slot c.from wrong } else l)
      go true has = record {
        of_heard = λ f k p a same there. carried_inside f k p a (is_place c.frame c.slot c.from f k p) refl same there;
        of_others = λ f k p none. absent_inside (is_place c.frame c.slot c.from f k p) act (heard f k p) c.carried (l.carried f k p) (tells.of_others f k p) none;
      }
      go false has = record {
        of_heard = λ f k p a same there. carried_outside f k p a (is_place c.frame c.slot c.from f k p) refl same has there;
        of_others = λ f k p none. absent_outside (is_place c.frame c.slot c.from f k p) act (heard f k p) (l.carried f k p) (tells.of_others f k p) none;
      }

module _ {B : Type 0} (allows : B → Carriage → B → Type 0) where
  -- no word changes which bus is faulty
  same_faulty : (x y : Link B) (words : List Carriage) → CarriesAll allows x words y → y.faulty ≡ x.faulty
  same_faulty x y [] all = λ i. (all i).faulty
  same_faulty x y (c ∷ cs) all = (λ i. (all.2.after i).faulty) ∙ same_faulty x all.0 cs all.1

  -- after any words
  pub each_word : (x y : Link B) (words : List Carriage) → HasHeardNothing x.heard → IsBlank x.log → CarriesAll allows x words y →
      TellsEach x.faulty y.heard y.log
  each_word x y [] nothing is all = subst (λ (z : Link B). TellsEach x.faulty z.heard z.log) (sym all) (at_first x.faulty x.heard x.log nothing is)
  each_word x z (c ∷ cs) nothing is all = let y : Link B = all.0 in let step = all.2 in
      subst (λ (w : Link B). TellsEach x.faulty w.heard w.log) (sym step.after)
      (subst (λ (n : ℕ). TellsEach x.faulty (put_at y.heard c.frame c.slot c.from (Some step.act)) (log_with y.log c.frame c.slot c.from c.carried (gets_wrong n c)))
      (sym (same_faulty x y cs all.1))
      (next x.faulty y.heard y.log (each_word x y cs nothing is all.1) c step.act step.word))

  -- and what was carried
  pub each_carried : (x y : Link B) (words : List Carriage) → HasHeardNothing x.heard → IsBlank x.log → CarriesAll allows x words y →
      TellsCarried words y.heard y.log
  each_carried x y [] nothing is all = subst (λ (z : Link B). TellsCarried [] z.heard z.log) (sym all) (record {
    of_heard = λ f k p act some _. absurd (let e : x.heard f k p ≡ None = (λ i. nothing i f k p) in cc);
    of_others = λ f k p _ i. (is i).carried f k p;
  })
  each_carried x z (c ∷ cs) nothing is all = let y : Link B = all.0 in let step = all.2 in
      let before : TellsCarried cs y.heard y.log = each_carried x y cs nothing is all.1 in
      subst (λ (w : Link B). TellsCarried (c ∷ cs) w.heard w.log) (sym step.after)
      (next_carried cs y.heard y.log before c step.act step.word (gets_wrong y.faulty c))

  -- a log tells what was heard
  pub logs_tell : LogsTellWhatWasHeard allows
  logs_tell x y words nothing is all =
      (counts_are x.faulty y.heard y.log (each_word x y words nothing is all), each_carried x y words nothing is all)
