-- What an expression that is read leaves in force, and that the names in it are there.
use Rattle.std.proofs.Common.{◌≡◌, ℕ, ◌+◌, ◌*◌, ◌<◌, ◌≤◌, true, Option, Some, List, ◌∷◌, length, sum, refl, sym, ap, ◌∙◌, subst, arith, is_none, unwrap_or}
use Rattle.sift_lang.specs.Tree.{Term, sense, local}
use Rattle.sift_lang.specs.Sound.{need, NamesWithin, NowsBelow}
use Rattle.sift_parse.specs.declared.token.Keyword as keywords
use Rattle.sift_parse.specs.declared.token.Keyword.TheVariants.{Sense, Now}
use Rattle.sift_parse.specs.declared.token.Sign.TheVariants.{Dot}
use Rattle.sift_parse.specs.declared.token.Token.{Token}
use Rattle.sift_parse.specs.declared.token.Token.TheVariants.{Keyword, Name, Index, Sign}
use Rattle.sift_parse.specs.Force.{Force, advance, keyword_before, without_minuses, role_after, a_sensor, a_task, old_local}
use Rattle.sift_parse.specs.Lexeme.{numeral, mark}
use Rattle.sift_parse.specs.Roll.{first_word, Roll, number_in}
use Rattle.sift_parse.specs.Levels.{ends_operand}
use Rattle.sift_parse.specs.Refusal.{OfSome}
use Rattle.sift_parse.proofs.Sound.Place.{Place, sign-at, keyword-at, name-at}
use Rattle.sift_parse.proofs.Sound.Number.{index-at}
use Rattle.sift_parse.proofs.Sound.Names.{number_in-below, local_of-below, word-before, word-below}
use Rattle.sift_parse.proofs.Sound.Force.{Starts, word_force, name_force, keyword-place, name-place, name-number}

-- the term was read: the minuses before it are closed, and the rest is as it was. It names what is there, and needs no more than its levels leave.
pub record IsPast (r : Roll) (f : Force) (rest : List Token) (t : Term) (bound : ℕ) : Type 0 where
  pub force : Force
  pub place : Place r force rest
  pub levels : force.levels ≡ without_minuses f.levels
  pub locals : force.locals ≡ f.locals
  pub pending : force.pending ≡ f.pending
  pub ended : ends_operand force.before ≡ true
  pub names : NamesWithin (length r.sensors) (sum r.sizes) (length f.locals) t
  pub nows : NowsBelow (first_word r r.this) t
  pub needs : need t + bound ≤ 230

-- the same, for what was in force at an earlier place with the same levels, but for minuses, and the same locals
pub carried : (r : Roll) (f g : Force) (rest : List Token) (t : Term) (bound other : ℕ) → IsPast r g rest t bound
    → without_minuses g.levels ≡ without_minuses f.levels → g.locals ≡ f.locals → g.pending ≡ f.pending → other ≤ bound
    → IsPast r f rest t other
carried r f g rest t bound other i levels locals pending le = record {
  force = i.force;
  place = i.place;
  levels = i.levels ∙ levels;
  locals = i.locals ∙ locals;
  pending = i.pending ∙ pending;
  ended = i.ended;
  names = subst (λ l. NamesWithin (length r.sensors) (sum r.sizes) (length l) t) locals i.names;
  nows = i.nows;
  needs = (let n = i.needs in omega arith);
}

-- ---- a local, a sensor

-- a local is past where an expression may start and 32 levels are open at most, and it is one that lives
pub local-past : (r : Roll) (f : Force) (l : ℕ) (rest : List Token) → length f.levels ≤ 32 → Starts f → Place r f (Name l ∷ rest)
    → IsPast r f rest (local l) (7 * length f.levels + 5)
local-past r f l rest few s p =
    let h = name-at r f l rest p in
    record {
      force = name_force old_local h.text f;
      place = name-place r f old_local l rest h s.role;
      levels = refl;
      locals = refl;
      pending = refl;
      ended = ap is_none h.is;
      names = local_of-below f.locals h.text l (name-number r f old_local l rest h s.role);
      nows = tt;
      needs = omega arith;
    }

-- a sensor is past where 32 levels are open at most, and it is one that is there
pub sensor-past : (r : Roll) (f : Force) (x : ℕ) (rest : List Token) → length f.levels ≤ 32 → Place r f (Keyword Sense ∷ Name x ∷ rest)
    → IsPast r f rest (sense x) (7 * length f.levels + 5)
sensor-past r f x rest few p =
    let k = keyword-at r f Sense (Name x ∷ rest) p in
    let g : Force = word_force (Some Sense) k.text f in
    let h = name-at r g x rest (keyword-place r f Sense (Name x ∷ rest) k) in
    let role : role_after (keyword_before g) ≡ a_sensor = ap role_after k.is in
    record {
      force = name_force a_sensor h.text g;
      place = name-place r g a_sensor x rest h role;
      levels = refl;
      locals = refl;
      pending = refl;
      ended = ap is_none h.is;
      names = number_in-below r.sensors h.text x (name-number r g a_sensor x rest h role);
      nows = tt;
      needs = omega arith;
    }

-- ---- a word of a task

-- a voted word was read: it is one of those that there are, and after `now` it is of an earlier task
pub record IsPastWord (r : Roll) (f : Force) (k : keywords.Keyword) (w : ℕ) (rest : List Token) : Type 0 where
  pub force : Force
  pub place : Place r force rest
  pub levels : force.levels ≡ without_minuses f.levels
  pub locals : force.locals ≡ f.locals
  pub pending : force.pending ≡ f.pending
  pub ended : ends_operand force.before ≡ true
  pub within : w < sum r.sizes
  pub earlier : k ≡ Now → w < first_word r r.this

unless : (r : Roll) (o : Option ℕ) (task : ℕ) → o ≡ Some task → ¬ OfSome (λ task. r.this ≤ task) o → task < r.this
unless r o task e h = below task r.this (λ le. h (subst (OfSome (λ task. r.this ≤ task)) (sym e) le))
  where
    below : (m n : ℕ) → (n ≤ m → ⊥) → m < n
    below m n h = omega arith

-- what is read of `now` or `last`, a name, a dot and a number is a voted word, after `now` of an earlier task
pub word-past : (r : Roll) (f : Force) (k : keywords.Keyword) (task w : ℕ) (rest : List Token) → role_after (Some k) ≡ a_task
    → Place r f (Keyword k ∷ Name task ∷ Sign Dot ∷ Index w ∷ rest) → IsPastWord r f k w rest
word-past r f k task w rest at p =
    let a = keyword-at r f k (Name task ∷ Sign Dot ∷ Index w ∷ rest) p in
    let g : Force = word_force (Some k) a.text f in
    let b = name-at r g task (Sign Dot ∷ Index w ∷ rest) (keyword-place r f k (Name task ∷ Sign Dot ∷ Index w ∷ rest) a) in
    let role : role_after (keyword_before g) ≡ a_task = ap role_after a.is ∙ at in
    let number : number_in r.tasks b.text ≡ Some task = name-number r g a_task task (Sign Dot ∷ Index w ∷ rest) b role in
    let c = sign-at r (name_force a_task b.text g) Dot (Index w ∷ rest) (name-place r g a_task task (Sign Dot ∷ Index w ∷ rest) b role) in
    let h : Force = advance (name_force a_task b.text g) (mark Dot) in
    let d = index-at r h w rest c.place in
    let asked : Some (unwrap_or (number_in r.tasks b.text) 0) ≡ Some d.of.task = d.of.asks in
    let same : d.of.task ≡ task = (let e : unwrap_or (number_in r.tasks b.text) 0 ≡ task = ap (λ o. unwrap_or o 0) number in let s = asked in cc) in
    record {
      force = advance h (numeral d.written);
      place = d.goes.place;
      levels = refl;
      locals = refl;
      pending = refl;
      ended = refl;
      within = (let le = word-below r d.of.task d.written d.of.within in let is = d.of.is in omega arith);
      earlier =
          λ now. (let lt : task < r.this = unless r (number_in r.tasks b.text) task number
          (λ no. b.goes.fits.tasks (b.is, a.is ∙ ap (λ k. Some k) now, no)) in
          let le = word-before r d.of.task r.this d.written (omega arith) d.of.within in let is = d.of.is in omega arith);
    }
