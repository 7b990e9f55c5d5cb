-- What a statement and a block that are read leave in force, and how a value and a block in braces end.
use Rattle.std.proofs.Common.{◌≡◌, ℕ, ◌+◌, ◌-◌, ◌*◌, ◌≤◌, Option, Some, None, List, ◌∷◌, length, sum, slice_index, refl, sym, ap, ◌∙◌, subst, arith, length-drop}
use Rattle.sift_lang.specs.Tree.{Term, Statement, Block}
use Rattle.sift_lang.specs.Sound.{open_repeats, open_repeats_in, locals_after, Bounds, IsSoundTerm, IsSoundStatement, IsSoundBlock, NowsBelow, EachTermOf, EachTerm}
use Rattle.sift_parse.specs.declared.token.Sign.TheVariants.{Assign, OpenBrace, CloseBrace, Semicolon}
use Rattle.sift_parse.specs.declared.token.Token.{Token}
use Rattle.sift_parse.specs.declared.token.Token.TheVariants.{Sign}
use Rattle.sift_parse.specs.Force.{Force, Level, block, advance, keyword_before, without_minuses, leave_block, end_let, oldest, role_after, old_local}
use Rattle.sift_parse.specs.Lexeme.{mark}
use Rattle.sift_parse.specs.Roll.{first_word, Roll}
use Rattle.sift_parse.specs.Grammar.{IsExpr}
use Rattle.sift_parse.proofs.Sound.Place.{Place, sign-at}
use Rattle.sift_parse.proofs.Sound.Force.{deeper}
use Rattle.sift_parse.proofs.Sound.Prim.{IsPast, carried}
use Rattle.sift_parse.proofs.Sound.Term.{level-past}

-- what the task's terms may name
abbrev pub bounds : Roll → Bounds
bounds r = record { sensors = length r.sensors; words = sum r.sizes; outputs = slice_index r.sizes r.this }

-- a statement may start here
pub record Fresh (f : Force) : Type 0 where
  pub role : role_after (keyword_before f) ≡ old_local
  pub pending : f.pending ≡ None
  pub bare : without_minuses f.levels ≡ f.levels
  pub few : length f.levels ≤ 32

-- the statement was read: the levels are as they were, and the locals as it says
pub record IsDone (r : Roll) (f : Force) (rest : List Token) (s : Statement) : Type 0 where
  pub force : Force
  pub place : Place r force rest
  pub levels : force.levels ≡ f.levels
  pub pending : force.pending ≡ None
  pub role : role_after (keyword_before force) ≡ old_local
  pub locals : length force.locals ≡ locals_after (length f.locals) s
  pub sound : IsSoundStatement (bounds r) (length f.locals) s
  pub nows : EachTermOf (NowsBelow (first_word r r.this)) s
  pub repeats : open_repeats s + length f.levels ≤ 32

-- the block was read: the levels are as they were, and no local is gone
pub record IsThrough (r : Roll) (f : Force) (rest : List Token) (b : Block) : Type 0 where
  pub force : Force
  pub place : Place r force rest
  pub levels : force.levels ≡ f.levels
  pub locals : length f.locals ≤ length force.locals
  pub sound : IsSoundBlock (bounds r) (length f.locals) b
  pub nows : EachTerm (NowsBelow (first_word r r.this)) b
  pub repeats : open_repeats_in b + length f.levels ≤ 32
  pub pending : force.pending ≡ None

-- a block in braces was read: all is as it was before
pub record IsBraced (r : Roll) (f : Force) (rest : List Token) (b : Block) : Type 0 where
  pub force : Force
  pub place : Place r force rest
  pub levels : force.levels ≡ f.levels
  pub pending : force.pending ≡ None
  pub role : role_after (keyword_before force) ≡ old_local
  pub locals : length force.locals ≡ length f.locals
  pub sound : IsSoundBlock (bounds r) (length f.locals) b
  pub nows : EachTerm (NowsBelow (first_word r r.this)) b
  pub repeats : open_repeats_in b + (length f.levels + 1) ≤ 32

-- ---- values

-- the expression of a statement, from its `=` on
pub valued : (r : Roll) (f : Force) (ts rest : List Token) (t : Term) → IsExpr ts t rest → length f.levels ≤ 32
    → Place r f (Sign Assign ∷ ts) → IsPast r f rest t 0
valued r f ts rest t d few p =
    let a = sign-at r f Assign ts p in
    let g : Force = advance f (mark Assign) in
    carried r f g rest t (7 * length (without_minuses f.levels) + 0) 0
    (level-past r g 0 ts rest t d few (record { before = refl; role = refl }) a.place) refl refl refl (omega arith)

-- a term that is past is sound for what is there, and for the locals that live before it
pub sound-term : (r : Roll) (f : Force) (rest : List Token) (t : Term) (bound : ℕ) → IsPast r f rest t bound
    → IsSoundTerm (bounds r) (length f.locals) t
sound-term r f rest t bound i = record { names = i.names; needs = (let n = i.needs in omega arith) }

-- what is in force after a `;`, with this `let` before it
abbrev pub end_force : Option (List ℕ) → Force → Force
end_force o f = record (end_let o f) { before = Some (mark Semicolon) }

-- the tokens after a `;` follow it, with what is in force once the `let` before it, if there is one, is over
pub end-place : (r : Roll) (f : Force) (o : Option (List ℕ)) (rest : List Token) → f.pending ≡ o → Place r f (Sign Semicolon ∷ rest)
    → Place r (end_force o f) rest
end-place r f o rest e p = subst (λ o. Place r (end_force o f) rest) e (sign-at r f Semicolon rest p).place

-- a statement that makes no local ends with its value
pub value-done : (r : Roll) (f g : Force) (rest : List Token) (t : Term) (s : Statement) → IsPast r g (Sign Semicolon ∷ rest) t 0
    → without_minuses g.levels ≡ f.levels → g.pending ≡ None → length g.locals ≡ length f.locals
    → locals_after (length f.locals) s ≡ length f.locals → IsSoundStatement (bounds r) (length f.locals) s
    → EachTermOf (NowsBelow (first_word r r.this)) s → open_repeats s + length f.levels ≤ 32 → IsDone r f rest s
value-done r f g rest t s i levels pending locals same sound nows repeats =
    let none : i.force.pending ≡ None = i.pending ∙ pending in
    record {
      force = end_force None i.force;
      place = end-place r i.force None rest none i.place;
      levels = i.levels ∙ levels;
      pending = none;
      role = refl;
      locals = ap length i.locals ∙ (locals ∙ sym same);
      sound = sound;
      nows = nows;
      repeats = repeats;
    }

-- ---- blocks in braces

abbrev pub brace_force : Force → Force
brace_force f = advance f (mark OpenBrace)

-- what is in force after a `}`, with these levels open before it
abbrev leave_force : List Level → Force → Force
leave_force ls f = record (leave_block ls f) { before = Some (mark CloseBrace) }

length-oldest : (n : ℕ) (xs : List (List ℕ)) → n ≤ length xs → length (oldest n xs) ≡ n
length-oldest n xs le = omega (arith, length-drop (length xs - n) xs)

-- a block that is read between braces is sound, and behind it the levels and the number of locals are as they were before it
pub braced : (r : Roll) (f : Force) (us rest : List Token) (b : Block)
    → ((g : Force) → Fresh g → Place r g us → IsThrough r g (Sign CloseBrace ∷ rest) b) → f.pending ≡ None → Place r f (Sign OpenBrace ∷ us)
    → IsBraced r f rest b
braced r f us rest b inside pending p =
    let o = sign-at r f OpenBrace us p in
    let deep = deeper r f (mark OpenBrace) o.fits refl in
    let j = inside (brace_force f) (record { role = refl; pending = pending; bare = refl; few = omega arith }) o.place in
    let c = sign-at r j.force CloseBrace rest j.place in
    record {
      force = leave_force (block (length f.locals) ∷ f.levels) j.force;
      place = subst (λ ls. Place r (leave_force ls j.force) rest) j.levels c.place;
      levels = refl;
      pending = j.pending;
      role = refl;
      locals = length-oldest (length f.locals) j.force.locals j.locals;
      sound = j.sound;
      nows = j.nows;
      repeats = (let n = j.repeats in omega arith);
    }

-- the same, for a place with the same levels and as many locals
pub braced-carried : (r : Roll) (f g : Force) (rest : List Token) (b : Block) → IsBraced r g rest b → g.levels ≡ f.levels
    → length g.locals ≡ length f.locals → IsBraced r f rest b
braced-carried r f g rest b i levels locals = record {
  force = i.force;
  place = i.place;
  levels = i.levels ∙ levels;
  pending = i.pending;
  role = i.role;
  locals = i.locals ∙ locals;
  sound = subst (λ n. IsSoundBlock (bounds r) n b) locals i.sound;
  nows = i.nows;
  repeats = subst (λ ls. open_repeats_in b + (length ls + 1) ≤ 32) levels i.repeats;
}
