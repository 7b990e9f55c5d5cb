-- A block that is read where no refusal stands is sound.
use Rattle.std.proofs.Common.{◌≡◌, ℕ, Some, is_none, List, ◌∷◌, length, refl, sym, ap, ◌∙◌, subst, arith}
use Rattle.sift_lang.specs.Tree.{Term, Statement, choose, choose_else, repeat, Block, step}
use Rattle.sift_lang.specs.Sound.{IsSoundBlock}
use Rattle.sift_lang.specs.laws.States.{le-locals_after}
use Rattle.sift_parse.specs.declared.token.Keyword.TheVariants.{If, Else, Repeat}
use Rattle.sift_parse.specs.declared.token.Sign.TheVariants.{OpenBrace, CloseBrace}
use Rattle.sift_parse.specs.declared.token.Token.{Token}
use Rattle.sift_parse.specs.declared.token.Token.TheVariants.{Keyword, Number, Sign}
use Rattle.sift_parse.specs.Force.{Force, advance, without_minuses, role_after}
use Rattle.sift_parse.specs.Lexeme.{numeral}
use Rattle.sift_parse.specs.Roll.{Roll}
use Rattle.sift_parse.specs.Grammar.{IsExpr, IsStatement, a_let, an_assignment, an_output, an_if, an_if_else, a_repeat, IsBlock, no_statement, a_statement}
use Rattle.sift_parse.proofs.Sound.Place.{Place, keyword-at}
use Rattle.sift_parse.proofs.Sound.Number.{number-at}
use Rattle.sift_parse.proofs.Sound.Force.{word_force, keyword-place}
use Rattle.sift_parse.proofs.Sound.Prim.{IsPast, carried}
use Rattle.sift_parse.proofs.Sound.Term.{level-past}
use Rattle.sift_parse.proofs.Sound.Block.{bounds, Fresh, IsDone, IsThrough, IsBraced, sound-term, braced, braced-carried}
use Rattle.sift_parse.proofs.Sound.Values.{unless, let-done, assign-done, output-done}

-- ---- statements with blocks

-- what a block is read to, from each place where one may start
abbrev Inside : Roll → List Token → List Token → Block → Type 0
Inside r us rest b = (g : Force) → Fresh g → Place r g us → IsThrough r g rest b

-- the test of an `if`
if-past : (r : Roll) (f : Force) (ts rest : List Token) (t : Term) → IsExpr ts t rest → Fresh f → Place r f (Keyword If ∷ ts)
    → IsPast r f rest t 0
if-past r f ts rest t d fresh p =
    let k = keyword-at r f If ts p in
    let g : Force = word_force (Some If) k.text f in
    let i = level-past r g 0 ts rest t d fresh.few (record { before = ap is_none k.is; role = ap role_after k.is }) (keyword-place r f If ts k) in
    carried r f g rest t _ 0 i refl refl refl (omega arith)

-- the first block of an `if`
first-braced : (r : Roll) (f : Force) (us rest : List Token) (t : Term) (b : Block) → Fresh f → (i : IsPast r f (Sign OpenBrace ∷ us) t 0)
    → Inside r us (Sign CloseBrace ∷ rest) b → IsBraced r f rest b
first-braced r f us rest t b fresh i inside =
    braced-carried r f i.force rest b (braced r i.force us rest b inside (i.pending ∙ fresh.pending) i.place) (i.levels ∙ fresh.bare)
    (ap length i.locals)

if-done : (r : Roll) (f : Force) (us rest : List Token) (t : Term) (first : Block) → Fresh f → IsPast r f (Sign OpenBrace ∷ us) t 0
    → IsBraced r f rest first → IsDone r f rest (choose t first)
if-done r f us rest t first fresh i b =
    record {
      force = b.force;
      place = b.place;
      levels = b.levels;
      pending = b.pending;
      role = b.role;
      locals = b.locals;
      sound = (sound-term r f (Sign OpenBrace ∷ us) t 0 i, b.sound);
      nows = (i.nows, b.nows);
      repeats = (let n = b.repeats in omega arith);
    }

-- the second block of an `if`
second-braced : (r : Roll) (f : Force) (vs rest : List Token) (a b : Block) → IsBraced r f (Keyword Else ∷ Sign OpenBrace ∷ vs) a
    → Inside r vs (Sign CloseBrace ∷ rest) b → IsBraced r f rest b
second-braced r f vs rest a b i inside =
    let k = keyword-at r i.force Else (Sign OpenBrace ∷ vs) i.place in
    let g : Force = word_force (Some Else) k.text i.force in
    braced-carried r f g rest b (braced r g vs rest b inside i.pending (keyword-place r i.force Else (Sign OpenBrace ∷ vs) k)) i.levels i.locals

if_else-done : (r : Roll) (f : Force) (us vs rest : List Token) (t : Term) (first second : Block) → Fresh f
    → IsPast r f (Sign OpenBrace ∷ us) t 0 → IsBraced r f vs first → IsBraced r f rest second → IsDone r f rest (choose_else t first second)
if_else-done r f us vs rest t first second fresh i a b =
    record {
      force = b.force;
      place = b.place;
      levels = b.levels;
      pending = b.pending;
      role = b.role;
      locals = b.locals;
      sound = (sound-term r f (Sign OpenBrace ∷ us) t 0 i, a.sound, b.sound);
      nows = (i.nows, a.nows, b.nows);
      repeats = (let m = a.repeats in let n = b.repeats in omega arith);
    }

repeat-done : (r : Roll) (f : Force) (k : ℕ) (ts rest : List Token) (body : Block) → Fresh f
    → Place r f (Keyword Repeat ∷ Number k ∷ Sign OpenBrace ∷ ts) → Inside r ts (Sign CloseBrace ∷ rest) body
    → IsDone r f rest (repeat k body)
repeat-done r f k ts rest body fresh p inside =
    let w = keyword-at r f Repeat (Number k ∷ Sign OpenBrace ∷ ts) p in
    let g : Force = word_force (Some Repeat) w.text f in
    let n = number-at r g k (Sign OpenBrace ∷ ts) (keyword-place r f Repeat (Number k ∷ Sign OpenBrace ∷ ts) w) in
    let h : Force = advance g (numeral n.written) in
    let b = braced-carried r f h rest body (braced r h ts rest body inside fresh.pending n.goes.place) fresh.bare refl in
    let rounds = unless n.written 1024 (λ lt. n.goes.fits.rounds (w.is, lt)) in
    record {
      force = b.force;
      place = b.place;
      levels = b.levels;
      pending = b.pending;
      role = b.role;
      locals = b.locals;
      sound = ((let m = n.within in omega arith), b.sound);
      nows = b.nows;
      repeats = (let m = b.repeats in omega arith);
    }

-- ---- all rules

-- another statement may start after one
fresh-after : (r : Roll) (f : Force) (rest : List Token) (s : Statement) → Fresh f → (i : IsDone r f rest s) → Fresh i.force
fresh-after r f rest s fresh i =
    record {
      role = i.role;
      pending = i.pending;
      bare = ap without_minuses i.levels
          ∙ (fresh.bare ∙ sym i.levels);
      few = (let e : length i.force.levels ≡ length f.levels = ap length i.levels in let few = fresh.few in omega arith);
    }

step-through : (r : Roll) (f : Force) (mid rest : List Token) (s : Statement) (b : Block) → (i : IsDone r f mid s)
    → IsThrough r i.force rest b → IsThrough r f rest (step s b)
step-through r f mid rest s b i j =
    record {
      force = j.force;
      place = j.place;
      levels = j.levels
          ∙ i.levels;
      pending = j.pending;
      locals = (let m = j.locals in let e = i.locals in let g = le-locals_after (length f.locals) s in omega arith);
      sound = (i.sound, subst (λ n. IsSoundBlock (bounds r) n b) i.locals j.sound);
      nows = (i.nows, j.nows);
      repeats = (let m = i.repeats in let n = j.repeats in let e : length i.force.levels ≡ length f.levels = ap length i.levels in
          omega arith);
    }

mutual
  statement-done : (r : Roll) (ts rest : List Token) (s : Statement) → IsStatement ts s rest → (f : Force) → Fresh f → Place r f ts
      → IsDone r f rest s
  statement-done r ts rest s (a_let l us vs t d) f fresh p = let-done r f l us vs t d fresh p
  statement-done r ts rest s (an_assignment l us vs t d) f fresh p = assign-done r f l us vs t d fresh p
  statement-done r ts rest s (an_output j us vs t d) f fresh p = output-done r f j us vs t d fresh p
  statement-done r ts rest s (an_if us vs ws t first d a) f fresh p =
      let i = if-past r f us (Sign OpenBrace ∷ vs) t d fresh p in
      if-done r f vs ws t first fresh i (first-braced r f vs ws t first fresh i (block-through r vs (Sign CloseBrace ∷ ws) first a))
  statement-done r ts rest s (an_if_else us vs ws qs t first second d a b) f fresh p =
      let i = if-past r f us (Sign OpenBrace ∷ vs) t d fresh p in
      let x =
      first-braced r f vs (Keyword Else ∷ Sign OpenBrace ∷ ws) t first fresh i
      (block-through r vs (Sign CloseBrace ∷ Keyword Else ∷ Sign OpenBrace ∷ ws) first a) in
      if_else-done r f vs (Keyword Else ∷ Sign OpenBrace ∷ ws) qs t first second fresh i x
      (second-braced r f ws qs first second x (block-through r ws (Sign CloseBrace ∷ qs) second b))
  statement-done r ts rest s (a_repeat k us vs body a) f fresh p = repeat-done r f k us vs body fresh p (block-through r us (Sign CloseBrace ∷ vs) body a)

  -- a block that is read from where a statement may start is sound, leaves the levels as they were and loses no local
  pub block-through : (r : Roll) (ts rest : List Token) (b : Block) → IsBlock ts b rest → (f : Force) → Fresh f → Place r f ts
      → IsThrough r f rest b
  block-through r ts rest b (no_statement us) f fresh p =
      record {
        force = f;
        place = p;
        levels = refl;
        locals = omega arith;
        sound = tt;
        nows = tt;
        repeats = (let m = fresh.few in omega arith);
        pending = fresh.pending;
      }
  block-through r ts rest b (a_statement us mid vs s c d e) f fresh p =
      let i = statement-done r us mid s d f fresh p in
      step-through r f mid vs s c i (block-through r mid vs c e i.force (fresh-after r f mid s fresh i) i.place)
