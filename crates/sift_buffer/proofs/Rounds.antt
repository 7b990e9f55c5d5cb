-- A round of looks, one look further, and what it decides.
use Rattle.std.proofs.Common.{◌≡◌, ◌≢◌, ℕ, ◌+◌, ◌<◌, ◌≤◌, ◌==◌, true, false, not, List, [], ◌∷◌, length, sym, refl, ap, ◌∙◌, subst, arith, eq-eqb, ne_eqb}
use mathlib.Core.Logic.{dite}
use native.Mathlib.Decide.{ℕ_discrete}
use Rattle.sift_buffer.specs.Ranges.{Ranges}
use Rattle.sift_buffer.specs.Conduct.{Conduct, with_seen}
use Rattle.sift_buffer.specs.Conditions.{PassesGate}
use Rattle.sift_buffer.specs.Views.{View, view_with_look, view_with_looks, AreReached, LooksRound, FindsBehind, KeepsOwn, FindsNone, IsOther}
use Rattle.sift_buffer.proofs.Puts.{put_here, put_cases}

-- the own unit is passed over
pub round_skip : (v v' : View) (k : ℕ) → LooksRound v k v' → k ≡ v.unit → LooksRound v (k + 1) v'
round_skip v v' k r e = let own : length r.found ≡ v.unit = r.all ∙ e in record {
  found = 0 ∷ r.found;
  all = (let a = r.all in omega arith);
  reached = ((λ ne. absurd (ne own)), r.reached);
  after = rw (eq-eqb (length r.found) v.unit own) r.after;
}

-- another unit is looked at, and isn't behind
pub round_look : (v v' : View) (k n : ℕ) → LooksRound v k v' → k ≢ v.unit → v.conduct.progress ≤ n → LooksRound v (k + 1) (view_with_look v' k n)
round_look v v' k n r ne up = record {
  found = n ∷ r.found;
  all = (let a = r.all in omega arith);
  reached = ((λ _. up), r.reached);
  after = rw (ne_eqb (length r.found) v.unit (λ e. ne (sym r.all ∙ e))) (λ i. view_with_look (r.after i) (sym r.all i) n);
}

-- looks leave all but what was seen
looks_keep : (v : View) (own : ℕ) (ns : List ℕ) → KeepsOwn v (view_with_looks v own ns)
looks_keep v own [] = record { ranges = refl; unit = refl; conduct = refl; looks = omega arith }
looks_keep v own (n ∷ ns) = let k = looks_keep v own ns in dite (ℕ_discrete (length ns) own)
    (λ e. rw (eq-eqb (length ns) own e) k)
    (λ ne. rw (ne_eqb (length ns) own ne) (record {
      ranges = k.ranges;
      unit = k.unit;
      conduct = ap (λ (d : Conduct). with_seen d (length ns) n) k.conduct;
      looks = (let l = k.looks in omega arith);
    }))

-- and so does a round of looks
pub round_keeps : (v v' : View) (k : ℕ) → LooksRound v k v' → KeepsOwn v v'
round_keeps v v' k r = subst (λ (w : View). KeepsOwn v w) (sym r.after) (looks_keep v v.unit r.found)

-- each other unit was seen at the progress or more
seen_reached : (v : View) (ns : List ℕ) (p progress : ℕ) → AreReached v.unit progress ns → p < length ns → p ≢ v.unit →
    progress ≤ (view_with_looks v v.unit ns).conduct.seen p
seen_reached v [] p progress t low ne = absurd (omega arith)
seen_reached v (n ∷ ns) p progress t low ne = dite (ℕ_discrete (length ns) v.unit)
    (λ e. rw (eq-eqb (length ns) v.unit e) (seen_reached v ns p progress t.1 (let away : p ≢ length ns = λ h. ne (h ∙ e) in omega arith) ne))
    (λ d. rw (ne_eqb (length ns) v.unit d) (put_cases (λ (x : ℕ). progress ≤ x) (view_with_looks v v.unit ns).conduct.seen (length ns) n p
    (λ _. t.0 d) (λ away. seen_reached v ns p progress t.1 (omega arith) ne)))

-- a round of looks at all units passes the gate
round_passes : (v v' : View) → LooksRound v v.ranges.units v' → PassesGate v'.ranges v'.conduct v'.unit
round_passes v v' r p hp ne = let k = round_keeps v v' v.ranges.units r in
    let low : p < v.ranges.units = subst (λ (x : Ranges). p < x.units) k.ranges hp in
    rw (k.conduct, r.after) (seen_reached v r.found p v.conduct.progress r.reached (let a = r.all in omega arith) (λ e. ne (e ∙ sym k.unit)))

-- a round of looks that comes to a unit behind
pub round_behind : (v before : View) (p n : ℕ) → LooksRound v p before → IsOther v p → n < v.conduct.progress → FindsBehind v p n (view_with_look before p n)
round_behind v before p n r other behind = let k = round_keeps v before p r in record {
  before = before;
  looks_round = r;
  after = refl;
  own = record {
    ranges = k.ranges;
    unit = k.unit;
    conduct = ap (λ (d : Conduct). with_seen d p n) k.conduct;
    looks = (let l = k.looks in omega arith);
  };
  cause = record {
    other = other;
    behind = behind;
    last = refl;
    seen = put_here before.conduct.seen p n;
    looked = (let l = k.looks in omega arith);
  };
}

-- a round of looks at all units
pub round_none : (v v' : View) → LooksRound v v.ranges.units v' → FindsNone v v'
round_none v v' r = record { looks_round = r; own = round_keeps v v' v.ranges.units r; gate = round_passes v v' r }

-- a test of two numbers, and what it tells
pub apart_by : (a b : ℕ) → true ≡ not (a == b) → a ≢ b
apart_by a b t e = absurd (let f : true ≡ false = t ∙ ap not (eq-eqb a b e) in cc)

-- and where it fails
pub same_by : (a b : ℕ) → false ≡ not (a == b) → a ≡ b
same_by a b t = dite (ℕ_discrete a b) (λ e. e) (λ ne. absurd (let f : false ≡ true = t ∙ ap not (ne_eqb a b ne) in cc))

-- a unit that isn't the own one is another, and it is one still after a round of looks
pub is_other : (v : View) (units own p : ℕ) → units ≡ v.ranges.units → own ≡ v.unit → p < units → true ≡ not (p == own) → IsOther v p
is_other v units own p hu ho low t = (rw (← hu) low, λ e. apart_by p own t (e ∙ sym ho))

-- so it is after a round of looks
pub still_other : (v v' : View) (k p : ℕ) → LooksRound v k v' → IsOther v p → IsOther v' p
still_other v v' k p r other = let keeps = round_keeps v v' k r in rw (keeps.ranges, keeps.unit) other
