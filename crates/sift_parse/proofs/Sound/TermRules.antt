-- Each rule of an expression that is read where no refusal stands.
use Rattle.std.proofs.Common.{◌≡◌, ℕ, suc, ◌+◌, ◌*◌, ◌≤◌, List, ◌∷◌, length, drop, sum, refl, ap, arith}
use Rattle.sift_lang.specs.declared.tree.Op.{Op}
use Rattle.sift_lang.specs.Tree.{Term, number, this_frame, last_frame, minus, binary, middle}
use Rattle.sift_lang.specs.Sound.{need, NamesWithin, NowsBelow}
use Rattle.sift_parse.specs.declared.token.Keyword as keywords
use Rattle.sift_parse.specs.declared.token.Keyword.TheVariants.{Now, Last}
use Rattle.sift_parse.specs.declared.token.Sign.TheVariants.{OpenParen, CloseParen, Comma}
use Rattle.sift_parse.specs.declared.token.Token.{Token}
use Rattle.sift_parse.specs.declared.token.Token.TheVariants.{Number, Sign}
use Rattle.sift_parse.specs.Force.{Force, advance, without_minuses}
use Rattle.sift_parse.specs.Lexeme.{numeral, mark}
use Rattle.sift_parse.specs.Roll.{first_word, Roll}
use Rattle.sift_parse.proofs.Sound.Place.{Place, sign-at}
use Rattle.sift_parse.proofs.Sound.Number.{number-at}
use Rattle.sift_parse.proofs.Sound.Force.{Starts, minus_force, joined_force, bare-short}
use Rattle.sift_parse.proofs.Sound.Prim.{IsPast, carried, IsPastWord}

-- ---- one rule each

-- a number is past where 32 levels are open at most, and it names nothing
pub number-past : (r : Roll) (f : Force) (n : ℕ) (rest : List Token) → length f.levels ≤ 32 → Place r f (Number n ∷ rest)
    → IsPast r f rest (number n) (7 * length f.levels + 5)
number-past r f n rest few p =
    let h = number-at r f n rest p in
    record {
      force = advance f (numeral h.written);
      place = h.goes.place;
      levels = refl;
      locals = refl;
      pending = refl;
      ended = refl;
      names = tt;
      nows = tt;
      needs = omega arith;
    }

-- a term that is a voted word
voted-past : (r : Roll) (f : Force) (k : keywords.Keyword) (w : ℕ) (rest : List Token) (t : Term) (bound : ℕ) → IsPastWord r f k w rest
    → NamesWithin (length r.sensors) (sum r.sizes) (length f.locals) t → NowsBelow (first_word r r.this) t → need t + bound ≤ 230
    → IsPast r f rest t bound
voted-past r f k w rest t bound h names nows needs =
    record {
      force = h.force;
      place = h.place;
      levels = h.levels;
      locals = h.locals;
      pending = h.pending;
      ended = h.ended;
      names = names;
      nows = nows;
      needs = needs;
    }

-- a voted word that was read after `now` is past as a term, where 32 levels are open at most
pub this_frame-past : (r : Roll) (f : Force) (w : ℕ) (rest : List Token) → length f.levels ≤ 32 → IsPastWord r f Now w rest
    → IsPast r f rest (this_frame w) (7 * length f.levels + 5)
this_frame-past r f w rest few h = voted-past r f Now w rest (this_frame w) (7 * length f.levels + 5) h h.within (h.earlier refl) (omega arith)

-- a voted word that was read after `last` is past as a term, where 32 levels are open at most
pub last_frame-past : (r : Roll) (f : Force) (w : ℕ) (rest : List Token) → length f.levels ≤ 32 → IsPastWord r f Last w rest
    → IsPast r f rest (last_frame w) (7 * length f.levels + 5)
last_frame-past r f w rest few h = voted-past r f Last w rest (last_frame w) (7 * length f.levels + 5) h h.within tt (omega arith)

-- a minus is past where the prim after it is, which was read one level deeper
pub minus-past : (r : Roll) (f : Force) (rest : List Token) (t : Term) → IsPast r (minus_force f) rest t (7 * (length f.levels + 1) + 5)
    → IsPast r f rest (minus t) (7 * length f.levels + 5)
minus-past r f rest t i =
    record {
      force = i.force;
      place = i.place;
      levels = i.levels;
      locals = i.locals;
      pending = i.pending;
      ended = i.ended;
      names = i.names;
      nows = i.nows;
      needs = (let n = i.needs in omega arith);
    }

-- what is in force within a parenthesis
abbrev pub paren_force : Force → Force
paren_force f = advance f (mark OpenParen)

-- an expression may start after a `(`
pub paren-starts : (f : Force) → Starts (paren_force f)
paren-starts f = record { before = refl; role = refl }

-- a parenthesis closes after the term
pub closed-past : (r : Roll) (f : Force) (rest : List Token) (t : Term) (bound : ℕ) → IsPast r (paren_force f) (Sign CloseParen ∷ rest) t bound
    → IsPast r f rest t bound
closed-past r f rest t bound i =
    let h = sign-at r i.force CloseParen rest i.place in
    record {
      force = advance i.force (mark CloseParen);
      place = h.place;
      levels = ap (λ ls. without_minuses (drop 1 ls)) i.levels;
      locals = i.locals;
      pending = i.pending;
      ended = refl;
      names = i.names;
      nows = i.nows;
      needs = i.needs;
    }

-- what is in force after a comma
abbrev pub comma_force : Force → Force
comma_force f = advance f (mark Comma)

-- an expression may start after a comma
pub comma-starts : (f : Force) → Starts (comma_force f)
comma-starts f = record { before = refl; role = refl }

-- an expression may start after an operator between operands
pub joined-starts : (op : Op) (f : Force) → Starts (joined_force op f)
joined-starts op f = record { before = refl; role = refl }

-- the same as after the first of the parts, where the first is past
pub after-comma : (r : Roll) (f : Force) (us rest : List Token) (t u : Term) → (i : IsPast r (paren_force f) us t (7 * (length f.levels + 1)))
    → IsPast r (comma_force i.force) rest u (7 * length (without_minuses i.force.levels) + 0)
    → IsPast r (paren_force f) rest u (7 * (length f.levels + 1))
after-comma r f us rest t u i j =
    carried r (paren_force f) (comma_force i.force) rest u (7 * length (without_minuses i.force.levels) + 0) (7 * (length f.levels + 1)) j
    (ap without_minuses i.levels) i.locals i.pending
    (let same : length (without_minuses i.force.levels) ≡ suc (length f.levels) = ap (λ ls. length (without_minuses ls)) i.levels in
    omega arith)

-- a `mid` is past where its first two parts are, inside its parenthesis, and its third, with the `)`
pub middle-past : (r : Roll) (f : Force) (us vs rest : List Token) (t u v : Term) → IsPast r (paren_force f) us t (7 * (length f.levels + 1))
    → IsPast r (paren_force f) vs u (7 * (length f.levels + 1)) → IsPast r f rest v (7 * (length f.levels + 1))
    → IsPast r f rest (middle t u v) (7 * length f.levels + 5)
middle-past r f us vs rest t u v i j k =
    record {
      force = k.force;
      place = k.place;
      levels = k.levels;
      locals = k.locals;
      pending = k.pending;
      ended = k.ended;
      names = (i.names, j.names, k.names);
      nows = (i.nows, j.nows, k.nows);
      needs = (let a = i.needs in let b = j.needs in let c = k.needs in omega arith);
    }

-- no more than 32 levels are open after a term that is past, where no more are open before it
pub few-after : (r : Roll) (f : Force) (us : List Token) (t : Term) (bound : ℕ) → (i : IsPast r f us t bound) → length f.levels ≤ 32
    → length i.force.levels ≤ 32
few-after r f us t bound i few = let h : length i.force.levels ≡ length (without_minuses f.levels) = ap length i.levels in omega (arith, bare-short f.levels)

-- an operand joins
pub binary-past : (r : Roll) (f : Force) (n : ℕ) (op : Op) (x y : Term) (rest : List Token) → without_minuses f.levels ≡ f.levels
    → NamesWithin (length r.sensors) (sum r.sizes) (length f.locals) x → NowsBelow (first_word r r.this) x
    → need x + (7 * length f.levels + n) ≤ 230 → IsPast r (joined_force op f) rest y (7 * length (without_minuses f.levels) + suc n)
    → IsPast r f rest (binary op x y) (7 * length f.levels + n)
binary-past r f n op x y rest bare names nows needs i =
    record {
      force = i.force;
      place = i.place;
      levels = i.levels;
      locals = i.locals;
      pending = i.pending;
      ended = i.ended;
      names = (names, i.names);
      nows = (nows, i.nows);
      needs = (let a = i.needs in let same : length (without_minuses f.levels) ≡ length f.levels = ap length bare in omega arith);
    }
