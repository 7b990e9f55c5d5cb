-- Sayings and strays keep the core sound.
use Rattle.std.proofs.Common.{◌≡◌, inl, inr, ⊎_elim, ℕ, suc, ◌+◌, ◌≤◌, List, ◌∷◌, slice_set, Option, Some, sym, refl, ap, ◌∙◌, subst, arith, length-set}
use Rattle.std.specs.List.{Contains}
use Rattle.sift_buffer.specs.Cell.{packed, IsWord}
use Rattle.sift_buffer.specs.Ranges.{Ranges, place}
use Rattle.sift_buffer.specs.Conduct.{Saying, Stray, Conduct, saying, with_said, with_stray}
use Rattle.sift_buffer.specs.Conditions.{MaySay}
use Rattle.sift_buffer.specs.Core.{Core, say, stray, after, Allowed}
use Rattle.sift_buffer.specs.Lawful.{IsLastSaid, silent, last, HasStamps, IsFromSayings, IsFromStrays, nothing, said, strayed}
use Rattle.sift_buffer.proofs.Puts.{IsAt, some_same, moved, put_at_here, put_at_cases, put_at_keeps}
use Rattle.sift_buffer.proofs.Sound.{CellIs, HeardIs, Sound, flies_low}
use Rattle.sift_buffer.proofs.Keep.{keep, cell_shows, cell_holds, cell_covered}
use Rattle.sift_buffer.proofs.Heard.{heard_same}
use Rattle.sift_buffer.proofs.Moves.{gate_same, gate_seen}

-- what is among some strays is among one more
older : (strays : List Stray) (x y : Stray) → Contains strays x → Contains (y ∷ strays) x
older strays x y am = let low = am.1 in (suc am.0, omega arith, am.2)

-- one saying more
module _ (r : Ranges) (c : Conduct) (u q k f s : ℕ) (w : Option ℕ) (may : MaySay r c u q k f s) (word : IsWord w) where
  -- the conduct with it
  abbrev d : Conduct
  d = with_said c f k q s w

  -- what holds of the new saying, and of the old ones elsewhere
  said_cases : (P : Option Saying → Type 0) (f' k' q' : ℕ) →
      (IsAt f k q f' k' q' → P (Some (saying s w))) → (¬ IsAt f k q f' k' q' → P (c.said f' k' q')) → P (d.said f' k' q')
  said_cases P f' k' q' = put_at_cases P c.said f k q (Some (saying s w)) f' k' q'

  -- a new saying has the stamp of no other
  stamp_of : {s' : ℕ} {w' : Option ℕ} → Some (saying s w) ≡ Some (saying s' w') → s ≡ s'
  stamp_of e = ap (λ (z : Saying). z.stamp) (some_same e)

  -- so no other saying in this cell has its stamp
  other_stamp : (f1 f2 k' q' s' : ℕ) (w1 w2 : Option ℕ) →
      IsAt f k q f1 k' q' → Some (saying s w) ≡ Some (saying s' w1) → c.said f2 k' q' ≡ Some (saying s' w2) → ⊥
  other_stamp f1 f2 k' q' s' w1 w2 t e at = may.fresh f2 s' w2 (moved c.said f2 k q f2 k' q' (refl, t.1, t.2) ∙ at) (sym (stamp_of e))

  -- the stamps ascend
  pub say_stamps : c.progress ≤ c.left → HasStamps c → HasStamps d
  say_stamps low st = record {
    reached = λ f' k' q' s' w'. said_cases (λ o. o ≡ Some (saying s' w') → (s' ≤ c.progress + 1) × (s' ≤ c.left + 1) × IsWord w') f' k' q'
        (λ _ e. let e' : s ≡ s' = stamp_of e in let m : s ≡ c.progress + 1 = may.stamp in
        (omega arith, omega arith, subst IsWord (ap (λ (z : Saying). z.word) (some_same e)) word))
        (λ _ at. st.reached f' k' q' s' w' at);
    apart = λ f1 f2 k' q' s' w1 w2. said_cases (λ o. o ≡ Some (saying s' w1) → d.said f2 k' q' ≡ Some (saying s' w2) → f1 ≡ f2) f1 k' q'
        (λ t e. said_cases (λ o. o ≡ Some (saying s' w2) → f1 ≡ f2) f2 k' q'
        (λ t' _. t.0 ∙ sym t'.0)
        (λ _ at. absurd (other_stamp f1 f2 k' q' s' w1 w2 t e at)))
        (λ _ at. said_cases (λ o. o ≡ Some (saying s' w2) → f1 ≡ f2) f2 k' q'
        (λ t e. absurd (other_stamp f2 f1 k' q' s' w2 w1 t e at))
        (λ _ at'. st.apart f1 f2 k' q' s' w1 w2 at at'));
  }

  -- the cell that was stored
  pub say_here : HasStamps c → (x : ℕ) → x ≡ packed s w → IsLastSaid d q k x
  say_here st x is = last f s w (put_at_here c.said f k q (Some (saying s w))) is
      (λ f' s' w'. said_cases (λ o. o ≡ Some (saying s' w') → s' ≤ s) f' k q
      (λ _ e. let e' : s ≡ s' = stamp_of e in omega arith)
      (λ _ at. let l = (st.reached f' k q s' w' at).0 in let m : s ≡ c.progress + 1 = may.stamp in omega arith))

  -- in another cell nothing more was said
  said_else : (q' k' f' : ℕ) → ¬ ((q' ≡ q) × (k' ≡ k)) → d.said f' k' q' ≡ c.said f' k' q'
  said_else q' k' f' away = said_cases (λ o. o ≡ c.said f' k' q') f' k' q' (λ t. absurd (away (t.2, t.1))) (λ _. refl)

  -- so the last saying there is what it was
  last_else : (q' k' x : ℕ) → ¬ ((q' ≡ q) × (k' ≡ k)) → IsLastSaid c q' k' x → IsLastSaid d q' k' x
  last_else q' k' x away (silent n z) = silent (λ f'. said_else q' k' f' away ∙ n f') z
  last_else q' k' x away (last f0 s0 w0 at is top) = last f0 s0 w0 (said_else q' k' f0 away ∙ at) is
      (λ f' s' w' at'. top f' s' w' (sym (said_else q' k' f' away) ∙ at'))

  -- the other cells
  pub say_else : (q' k' x : ℕ) → ¬ ((q' ≡ q) × (k' ≡ k)) → CellIs c q' k' x → CellIs d q' k' x
  say_else q' k' x away (inl i) = inl (last_else q' k' x away i)
  say_else q' k' x away (inr t) = inr t

  -- what was heard of a unit that had not left
  say_sayings : (q' k' s' h : ℕ) (w' : Option ℕ) → IsFromSayings c q' k' s' h w' → IsFromSayings d q' k' s' h w'
  say_sayings q' k' s' h w' it = record {
    source = ⊎_elim (λ n. inl n) (λ (t : (f0 : ℕ) × (c.said f0 k' q' ≡ Some (saying s' w'))).
        inr (t.0, put_at_keeps c.said f k q (saying s w) t.0 k' q' (saying s' w') may.frame t.1)) it.source;
    same = λ f0 w'' at between. said_cases (λ o. o ≡ Some (saying s' w'') → w' ≡ w'') f0 k' q'
        (λ t e. let e' : s ≡ s' = stamp_of e in let o : s' ≤ c.progress = it.over in let m : s ≡ c.progress + 1 = may.stamp in absurd (omega arith))
        (λ _ old. it.same f0 w'' old (λ f1 s1 w1 at1. between f1 s1 w1 (put_at_keeps c.said f k q (saying s w) f1 k' q' (saying s1 w1) may.frame at1))) at;
    over = it.over;
  }

  -- what others heard of a unit that flies
  pub say_heard : (q' k' s' h : ℕ) (w' : Option ℕ) → HeardIs c q' k' s' h w' → HeardIs d q' k' s' h w'
  say_heard q' k' s' h w' it = record {
    before = λ l. say_sayings q' k' s' h w' (it.before l);
    later = λ l. go (it.later l);
  }
    where
      go : IsFromStrays c q' k' s' w' → IsFromStrays d q' k' s' w'
      go (nothing n) = nothing n
      go (said f0 at) = said f0 (put_at_keeps c.said f k q (saying s w) f0 k' q' (saying s' w') may.frame at)
      go (strayed x am is) = strayed x am is

module _ (r : Ranges) (c : Core) (u : ℕ) (it : Sound r c) where
  -- a saying
  pub say_keeps : (q k f s : ℕ) (w : Option ℕ) → Allowed r c (say u q k f s w) → Sound r (after r c (say u q k f s w))
  say_keeps q k f s w may =
      let hu = may.0 in let m = may.1.0 in let word = may.1.1 in
      let me : Conduct = c.of u in let d' : Conduct = with_said me f k q s w in let st = it.stamps u hu in
      let low : me.progress ≤ me.left = let b = flies_low me (it.formed.stage u hu) m.flies in let a = m.flies in omega arith in
      keep r c u d' (slice_set c.words (place r u q k) (packed s w)) hu it (record {
        wide = length-set c.words (place r u q k) (packed s w);
        shows = cell_shows r c u d' hu it q k (packed s w) refl;
        stage = it.formed.stage u hu;
        holds = cell_holds r c u d' hu it q k (packed s w) m.place.cell.unit m.place.cell.slot
            (inl (say_here r me u q k f s w m word st (packed s w) refl)) (say_else r me u q k f s w m word);
        stamps = say_stamps r me u q k f s w m word low st;
        looks = λ p hp ne. gate_same me d' (c.of p) (me.seen p) refl refl (it.gate u p hu hp ne);
        looked = λ q' hq' nq g. gate_seen me d' (c.of q') ((c.of q').seen u) refl refl g;
        hears = λ p f' k' s' h' w' hp ne hk at. it.heard u p f' k' s' h' w' hu hp ne hk at;
        heard = say_heard r me u q k f s w m word;
      })

  -- a stray
  pub stray_keeps : (q k x : ℕ) → Allowed r c (stray u q k x) → Sound r (after r c (stray u q k x))
  stray_keeps q k x may =
      let hu = may.0 in let m = may.1 in let me : Conduct = c.of u in let d' : Conduct = with_stray me q k x in
      keep r c u d' (slice_set c.words (place r u q k) x) hu it (record {
        wide = length-set c.words (place r u q k) x;
        shows = cell_shows r c u d' hu it q k x refl;
        stage = it.formed.stage u hu;
        holds = cell_holds r c u d' hu it q k x m.cell.unit m.cell.slot (inr (m.turned, (0, omega arith, refl)))
            (λ q' k' y away old. cell_covered me d' q' k' y (record { said = refl; strays = λ _ _ _ gone. (gone, older me.strays _ _) }) old);
        stamps = (let st = it.stamps u hu in record { reached = st.reached; apart = st.apart });
        looks = λ p hp ne. gate_same me d' (c.of p) (me.seen p) refl refl (it.gate u p hu hp ne);
        looked = λ q' hq' nq g. gate_seen me d' (c.of q') ((c.of q').seen u) refl refl g;
        hears = λ p f' k' s' h' w' hp ne hk at. it.heard u p f' k' s' h' w' hu hp ne hk at;
        heard = heard_same me d' refl refl (omega arith) (λ y. older me.strays y _);
      })
