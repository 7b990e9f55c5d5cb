-- Looks, loads, entries and turns keep the core sound.
use Rattle.std.proofs.Common.{◌≡◌, ◌≢◌, inl, inr, ⊎_elim, ℕ, ◌+◌, ◌<◌, ◌≤◌, slice_index, slice_set, Option, Some, sym, refl, subst, arith, length-set}
use Rattle.std.proofs.lemmas.Bool.{cases_lt}
use Rattle.sift_buffer.specs.Cell.{taken}
use Rattle.sift_buffer.specs.Ranges.{Ranges, place}
use Rattle.sift_buffer.specs.Conduct.{Hearing, Conduct, never, last_progress, hearing, with_seen, with_heard, with_entered, with_turned}
use Rattle.sift_buffer.specs.Core.{Core, look, hear, enter, turn, after, Allowed}
use Rattle.sift_buffer.proofs.Puts.{some_same, put_cases, put_at_cases}
use Rattle.sift_buffer.proofs.Sound.{GateIs, HeardIs, Sound, flies_low, from_sayings}
use Rattle.sift_buffer.proofs.Keep.{keep, same_shows, number_shows, same_holds, number_holds}
use Rattle.sift_buffer.proofs.Heard.{sayings_same, strays_same, heard_same, load_is}

-- the same progress, left and sights keep the gate, and so do they seen from another unit
pub gate_same : (c d other : Conduct) (seen : ℕ) → d.progress ≡ c.progress → d.left ≡ c.left → GateIs c other seen → GateIs d other seen
gate_same c d other seen ep el g = record {
  low = g.low;
  near = λ fl. let n = g.near (omega arith) in record {
    sight = (let s = n.sight in omega arith);
    number = (let m = n.number in omega arith);
    left = λ gone. let l = n.left gone in omega arith;
  };
}

-- and so do they in the eyes of another unit
pub gate_seen : (c d other : Conduct) (seen : ℕ) → d.progress ≡ c.progress → d.left ≡ c.left → GateIs other c seen → GateIs other d seen
gate_seen c d other seen ep el g = record {
  low = (let l = g.low in omega arith);
  near = λ fl. let n = g.near fl in record {
    sight = n.sight;
    number = (let m = n.number in omega arith);
    left = λ gone. let l = n.left (omega arith) in omega arith;
  };
}

module _ (r : Ranges) (c : Core) (u : ℕ) (it : Sound r c) where
  -- a look
  pub look_keeps : (p : ℕ) → Allowed r c (look u p) → Sound r (after r c (look u p))
  look_keeps p may =
      let hu = may.0 in let me : Conduct = c.of u in let n : ℕ = slice_index c.words p in let d : Conduct = with_seen me p n in
      keep r c u d c.words hu it (record {
        wide = refl;
        shows = same_shows r c u d hu it refl;
        stage = it.formed.stage u hu;
        holds = same_holds r c u d hu it (record { said = refl; strays = λ q k x gone. (gone, λ am. am) });
        stamps = (let st = it.stamps u hu in record { reached = st.reached; apart = st.apart });
        looks = λ p' hp' ne. put_cases (λ (z : ℕ). GateIs d (c.of p') z) me.seen p n p'
            (λ e. let old = it.gate u p' hu hp' ne in
            let now : n ≡ (c.of p').progress = subst (λ (z : ℕ). slice_index c.words z ≡ (c.of p').progress) e (it.formed.number p' hp') in record {
              low = omega arith;
              near = λ fl. let o = old.near fl in record {
                sight = (let m : me.progress ≤ (c.of p').progress + 1 = o.number in omega arith);
                number = o.number;
                left = o.left;
              };
            })
            (λ _. gate_same me d (c.of p') (me.seen p') refl refl (it.gate u p' hu hp' ne));
        looked = λ q hq ne g. gate_seen me d (c.of q) ((c.of q).seen u) refl refl g;
        hears = λ p' f k s h w hp' ne hk at. it.heard u p' f k s h w hu hp' ne hk at;
        heard = heard_same me d refl refl (omega arith) (λ x am. am);
      })

  -- a load of a cell
  pub hear_keeps : (p k f s : ℕ) → Allowed r c (hear u p k f s) → Sound r (after r c (hear u p k f s))
  hear_keeps p k f s may =
      let hu = may.0 in let hp = may.1.place.cell.unit in let ne : p ≢ u = may.1.place.cell.other in let hk = may.1.place.cell.slot in
      let me : Conduct = c.of u in let w : Option ℕ = taken (slice_index c.words (place r p u k)) s in let d : Conduct = with_heard me f k p s w in
      let mine = (it.gate u p hu hp ne).near may.1.flies in let theirs = it.gate p u hp hu (λ e. ne (sym e)) in
      let new : HeardIs (c.of p) u k s me.progress w = load_is (c.of p) u k s me.progress _ (it.stamps p hp) (it.formed.stage p hp) may.1.stamp.0 may.1.stamp.1
      mine.number (λ fl. (theirs.near fl).number) mine.left (it.cell p u k hp hu hk) in
      keep r c u d c.words hu it (record {
        wide = refl;
        shows = same_shows r c u d hu it refl;
        stage = it.formed.stage u hu;
        holds = same_holds r c u d hu it (record { said = refl; strays = λ q k x gone. (gone, λ am. am) });
        stamps = (let st = it.stamps u hu in record { reached = st.reached; apart = st.apart });
        looks = λ p' hp' ne'. gate_same me d (c.of p') (me.seen p') refl refl (it.gate u p' hu hp' ne');
        looked = λ q hq nq g. gate_seen me d (c.of q) ((c.of q).seen u) refl refl g;
        hears = λ p' f' k' s' h' w' hp' ne' hk'.
            put_at_cases (λ (o : Option Hearing). o ≡ Some (hearing s' h' w') → HeardIs (c.of p') u k' s' h' w')
            me.heard f k p (Some (hearing s me.progress w)) f' k' p'
            (λ t e. subst (λ (z : ℕ). HeardIs (c.of z) u k' s' h' w') (sym t.2) (subst (λ (z : ℕ). HeardIs (c.of p) u z s' h' w') (sym t.1)
            (subst (λ (z : Hearing). HeardIs (c.of p) u k z.stamp z.at z.word) (some_same e) new)))
            (λ _ at. it.heard u p' f' k' s' h' w' hu hp' ne' hk' at);
        heard = heard_same me d refl refl (omega arith) (λ x am. am);
      })

  -- an entry
  pub enter_keeps : Allowed r c (enter u) → Sound r (after r c (enter u))
  enter_keeps may =
      let hu = may.0 in let me : Conduct = c.of u in let fl : me.left ≡ never = may.1.0.flies in let below = may.1.0.below in let d : Conduct = with_entered me in
      keep r c u d (slice_set c.words u (me.progress + 1)) hu it (record {
        wide = length-set c.words u (me.progress + 1);
        shows = number_shows r c u d hu it (me.progress + 1) refl;
        stage = inl (fl, omega arith);
        holds = number_holds r c u d hu it (me.progress + 1) (record { said = refl; strays = λ q k x gone. (gone, λ am. am) });
        stamps = record {
          reached = λ f k q s w at. let l = (it.stamps u hu).reached f k q s w at in (let l' = l.0 in omega arith, l.1, l.2);
          apart = (it.stamps u hu).apart;
        };
        looks = λ p hp ne. let old = it.gate u p hu hp ne in
            let g : me.progress ≤ me.seen p = may.1.1 p hp ne in let low : me.seen p ≤ (c.of p).progress = old.low in record {
              low = low;
              near = λ _. record {
                sight = omega arith;
                number = omega arith;
                left = λ gone. let o : (c.of p).left ≤ me.progress = (old.near fl).left gone in omega arith;
              };
            };
        looked = λ q hq ne g. record {
          low = (let l : (c.of q).seen u ≤ me.progress = g.low in omega arith);
          near = λ flq. let n = g.near flq in record {
            sight = n.sight;
            number = (let m : (c.of q).progress ≤ me.progress + 1 = n.number in omega arith);
            left = n.left;
          };
        };
        hears = λ p f k s h w hp ne hk at. it.heard u p f k s h w hu hp ne hk at;
        heard = heard_same me d refl refl (omega arith) (λ x am. am);
      })

  -- what was heard of a unit before it turns stays true after
  turn_heard : (c.of u).left ≡ never → (c.of u).progress ≤ last_progress → (q k s h : ℕ) (w : Option ℕ) →
      HeardIs (c.of u) q k s h w → HeardIs (with_turned (c.of u)) q k s h w
  turn_heard fl low q k s h w old =
      let me : Conduct = c.of u in let d : Conduct = with_turned me in record {
        before = λ l. sayings_same me d refl (omega arith) q k s h w (old.before (omega arith));
        later = λ _. ⊎_elim
            (λ (l : h < never). let o = old.before (omega arith) in from_sayings d q k s h w (sayings_same me d refl (omega arith) q k s h w o))
            (λ (l : never ≤ h). strays_same me d refl (λ x am. am) q k s w (old.later (omega arith)))
            (cases_lt h never);
      }

  -- a turn
  pub turn_keeps : Allowed r c (turn u) → Sound r (after r c (turn u))
  turn_keeps may =
      let hu = may.0 in let me : Conduct = c.of u in let fl : me.left ≡ never = may.1.0 in let d : Conduct = with_turned me in
      let low : me.progress ≤ last_progress = flies_low me (it.formed.stage u hu) fl in
      keep r c u d (slice_set c.words u never) hu it (record {
        wide = length-set c.words u never;
        shows = number_shows r c u d hu it never refl;
        stage = inr (low, refl);
        holds = number_holds r c u d hu it never (record { said = refl; strays = λ q k x gone. absurd (omega arith) });
        stamps = record {
          reached = λ f k q s w at. let l = (it.stamps u hu).reached f k q s w at in let l' : s ≤ me.progress + 1 = l.0 in (omega arith, l', l.2);
          apart = (it.stamps u hu).apart;
        };
        looks = λ p hp ne. record { low = (it.gate u p hu hp ne).low; near = λ e. absurd (omega arith) };
        looked = λ q hq ne g. record {
          low = (let l : (c.of q).seen u ≤ me.progress = g.low in omega arith);
          near = λ flq. let n = g.near flq in record {
            sight = n.sight;
            number = (let m : (c.of q).progress ≤ me.progress + 1 = n.number in omega arith);
            left = λ _. ⊎_elim
                (λ (z : 0 < me.progress). let a : me.progress ≤ me.seen q = may.1.1 z q hq ne in
                let b : me.seen q ≤ (c.of q).progress = (it.gate u q hu hq ne).low in omega arith)
                (λ (z : me.progress ≤ 0). omega arith)
                (cases_lt 0 me.progress);
          };
        };
        hears = λ p f k s h w hp ne hk at. it.heard u p f k s h w hu hp ne hk at;
        heard = turn_heard fl low;
      })
