-- Rounds and statements, one after the other.
use Rattle.std.proofs.Common.{◌≡◌, ℕ, suc, ◌+◌, ◌-◌, ◌<◌, List, ◌∷◌, length, drop, get_or, set, add-one, sym, ap, ◌∙◌, arith}
use Rattle.std.specs.Fn.{iterate}
use Rattle.std.specs.List.{refill}
use Rattle.std.proofs.Math.Seq.{drop-cons, drop-length}
use Rattle.std.proofs.lemmas.List.{length-set, take_all, append-nil}
use Rattle.sift_lang.specs.declared.tree.Stmt.{Stmt}
use Rattle.sift_lang.specs.Tree.{Statement, Block, step, statement_of, block_of}
use Rattle.sift_lang.specs.Meaning.{Readings, State, after}
use Rattle.sift_lang.specs.Sound.{IsSoundBlock}
use Rattle.sift_lang.specs.laws.States.{sizes-after}

-- where n - i rounds are left, one more round leaves n - (i + 1)
pub iterate-less : (n i : ℕ) (round : State → State) (s t : State) → i < n → t ≡ round s → iterate round (n - (i + 1)) t ≡ iterate round (n - i) s
iterate-less n i round s t more is =
    let left : n - i ≡ suc (n - (i + 1)) = omega arith in
    ap (iterate round (n - (i + 1))) is ∙ sym (ap (λ k. iterate round k s) left)

-- the statements from i on are the one at i and then the rest
pub block_of-drop : (statements : List Stmt) (i : ℕ) (statement : Stmt) → i < length statements → statement ≡ get_or statements i statement
    → block_of (drop i statements) ≡ step (statement_of statement) (block_of (drop (i + 1) statements))
block_of-drop statements i statement within is =
    let here = drop-cons statements i statement within ∙ ap (λ first. first ∷ drop (suc i) statements) (sym is) in
    let front : drop i statements ≡ statement ∷ drop (i + 1) statements = rw add-one here in
    ap block_of front

-- a write through the slice of a vector's elements
pub refill-set : (words : List ℕ) (i word : ℕ) → refill (length words) words (set words i word) ≡ set words i word
refill-set words i word =
    rw (length-set words i word, drop-length words, append-nil (set words i word)) (take_all (length words) (set words i word) (omega (arith, length-set words i word)))

-- where a statement has run, the rest of its block is sound in its place
pub IsSoundBlock-rest : (sensors words : ℕ) (statement : Statement) (rest : Block) (r : Readings) (s t : State) → t ≡ after statement r s
    → IsSoundBlock (record { sensors = sensors; words = words; outputs = length s.outs }) (length s.locals) (step statement rest)
    → IsSoundBlock (record { sensors = sensors; words = words; outputs = length t.outs }) (length t.locals) rest
IsSoundBlock-rest sensors words statement rest r s t is sound =
    let sizes = sizes-after statement r s in
    rw (is, sizes.locals_are, sizes.outs_are) sound.1
