-- A statement with an expression that is read where no refusal stands is sound.
use Rattle.std.proofs.Common.{◌≡◌, ℕ, suc, ◌<◌, ◌≤◌, Some, List, ◌∷◌, length, slice_index, refl, sym, ap, ◌∙◌, subst, arith}
use Rattle.sift_lang.specs.Tree.{Term, bind, assign, output}
use Rattle.sift_parse.specs.declared.token.Keyword.TheVariants.{Let, Out}
use Rattle.sift_parse.specs.declared.token.Sign.TheVariants.{Assign, Semicolon}
use Rattle.sift_parse.specs.declared.token.Token.{Token}
use Rattle.sift_parse.specs.declared.token.Token.TheVariants.{Keyword, Name, Index, Sign}
use Rattle.sift_parse.specs.Force.{Force, advance, without_minuses, role_after, new_local, old_local}
use Rattle.sift_parse.specs.Lexeme.{numeral}
use Rattle.sift_parse.specs.Roll.{Roll}
use Rattle.sift_parse.specs.Tokens.{task_after}
use Rattle.sift_parse.specs.Grammar.{IsExpr}
use Rattle.sift_parse.proofs.Sound.Place.{Place, keyword-at, name-at}
use Rattle.sift_parse.proofs.Sound.Number.{index-at}
use Rattle.sift_parse.proofs.Sound.Names.{local_of-below}
use Rattle.sift_parse.proofs.Sound.Force.{word_force, name_force, keyword-place, name-place, name-number}
use Rattle.sift_parse.proofs.Sound.Block.{Fresh, IsDone, valued, sound-term, end_force, end-place, value-done}

-- a number that isn't below another is that one at least
pub unless : (m n : ℕ) → (n < m → ⊥) → m ≤ n
unless m n h = omega arith

-- ---- statements with a value

-- a `let` that is read where a statement may start is sound, and one more local lives after it
pub let-done : (r : Roll) (f : Force) (l : ℕ) (ts rest : List Token) (t : Term) → IsExpr ts t (Sign Semicolon ∷ rest) → Fresh f
    → Place r f (Keyword Let ∷ Name l ∷ Sign Assign ∷ ts) → IsDone r f rest (bind t)
let-done r f l ts rest t d fresh p =
    let k = keyword-at r f Let (Name l ∷ Sign Assign ∷ ts) p in
    let g : Force = word_force (Some Let) k.text f in
    let n = name-at r g l (Sign Assign ∷ ts) (keyword-place r f Let (Name l ∷ Sign Assign ∷ ts) k) in
    let h : Force = name_force new_local n.text g in
    let v = valued r h ts (Sign Semicolon ∷ rest) t d fresh.few (name-place r g new_local l (Sign Assign ∷ ts) n (ap role_after k.is)) in
    let room = unless (suc (length f.locals)) 32 (λ lt. n.goes.fits.locals (k.is, omega arith)) in
    let start = fresh.few in
    record {
      force = end_force (Some n.text) v.force;
      place = end-place r v.force (Some n.text) rest v.pending v.place;
      levels = v.levels ∙ fresh.bare;
      pending = refl;
      role = refl;
      locals = (let s : length v.force.locals ≡ length f.locals = ap length v.locals in omega arith);
      sound = (sound-term r h (Sign Semicolon ∷ rest) t 0 v, omega arith);
      nows = v.nows;
      repeats = omega arith;
    }

-- an assignment that is read where a statement may start is sound: its local is one that lives
pub assign-done : (r : Roll) (f : Force) (l : ℕ) (ts rest : List Token) (t : Term) → IsExpr ts t (Sign Semicolon ∷ rest) → Fresh f
    → Place r f (Name l ∷ Sign Assign ∷ ts) → IsDone r f rest (assign l t)
assign-done r f l ts rest t d fresh p =
    let n = name-at r f l (Sign Assign ∷ ts) p in
    let g : Force = name_force old_local n.text f in
    let few : length (without_minuses f.levels) ≤ 32 =
    (let e : length (without_minuses f.levels) ≡ length f.levels = ap length fresh.bare in let s = fresh.few in omega arith) in
    let v = valued r g ts (Sign Semicolon ∷ rest) t d few (name-place r f old_local l (Sign Assign ∷ ts) n fresh.role) in
    let below = local_of-below f.locals n.text l (name-number r f old_local l (Sign Assign ∷ ts) n fresh.role) in
    let start = fresh.few in
    value-done r f g rest t (assign l t) v (ap without_minuses fresh.bare ∙ fresh.bare) fresh.pending refl refl
    (sound-term r g (Sign Semicolon ∷ rest) t 0 v, below) v.nows (omega arith)

-- an output that is read where a statement may start is sound: its word is one that the task has
pub output-done : (r : Roll) (f : Force) (j : ℕ) (ts rest : List Token) (t : Term) → IsExpr ts t (Sign Semicolon ∷ rest) → Fresh f
    → Place r f (Keyword Out ∷ Index j ∷ Sign Assign ∷ ts) → IsDone r f rest (output j t)
output-done r f j ts rest t d fresh p =
    let k = keyword-at r f Out (Index j ∷ Sign Assign ∷ ts) p in
    let g : Force = word_force (Some Out) k.text f in
    let n = index-at r g j (Sign Assign ∷ ts) (keyword-place r f Out (Index j ∷ Sign Assign ∷ ts) k) in
    let h : Force = advance g (numeral n.written) in
    let few : length (without_minuses f.levels) ≤ 32 =
    (let e : length (without_minuses f.levels) ≡ length f.levels = ap length fresh.bare in let s = fresh.few in omega arith) in
    let v = valued r h ts (Sign Semicolon ∷ rest) t d few n.goes.place in
    let this : Some r.this ≡ Some n.of.task = sym (ap (task_after r) k.is) ∙ n.of.asks in
    let same : n.of.task ≡ r.this = cc in
    let is : n.written ≡ j = n.of.is in
    let below : n.written < slice_index r.sizes r.this = subst (λ task. n.written < slice_index r.sizes task) same n.of.within in
    let start = fresh.few in
    value-done r f h rest t (output j t) v (ap without_minuses fresh.bare ∙ fresh.bare) fresh.pending refl refl
    (sound-term r h (Sign Semicolon ∷ rest) t 0 v, subst (λ m. m < slice_index r.sizes r.this) is below) v.nows (omega arith)
