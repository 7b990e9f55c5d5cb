-- A task's meaning depends only on the words that it reads.
use Rattle.std.proofs.Common.{◌≡◌, ℕ, ◌<◌, List, slice_index, refl, ap, ◌∙◌}
use Rattle.sift_base.specs.Word.{sub}
use Rattle.sift_lang.specs.Tree.{Term, number, local, sense, this_frame, last_frame, minus, binary, middle, Statement, bind, assign, output, choose, choose_else, repeat, Block, end, step, TaskTree}
use Rattle.sift_lang.specs.Meaning.{Readings, State, value_of, chosen, after, after_all, meaning}
use Rattle.sift_lang.specs.Sound.{NowsBelow, EachTerm, EachTermOf, AllNowsBelow}
use Rattle.sift_lang.specs.laws.States.{iterate-same, scoped-same}

-- the lists have the same words below this number
abbrev pub SameBelow : ℕ → List ℕ → List ℕ → Type 0
SameBelow made xs ys = (w : ℕ) → w < made → slice_index xs w ≡ slice_index ys w

-- the same readings, but for the words made in this frame
abbrev pub over : Readings → List ℕ → Readings
over r xs = record { ins = r.ins; made = xs; last = r.last }

module _ (made : ℕ) (r : Readings) (xs ys : List ℕ) (same : SameBelow made xs ys) where
  value_of-same : (t : Term) (locals : List ℕ) → NowsBelow made t → value_of t (over r xs) locals ≡ value_of t (over r ys) locals
  value_of-same (number n) locals below = refl
  value_of-same (local l) locals below = refl
  value_of-same (sense x) locals below = refl
  value_of-same (this_frame w) locals below = same w below
  value_of-same (last_frame w) locals below = refl
  value_of-same (minus t) locals below = ap (sub 0) (value_of-same t locals below)
  value_of-same (binary op t u) locals below =
      let a = value_of-same t locals below.0 in
      let b = value_of-same u locals below.1 in
      cc (a, b)
  value_of-same (middle t u v) locals below =
      let a = value_of-same t locals below.0 in
      let b = value_of-same u locals below.1 in
      let c = value_of-same v locals below.2 in
      cc (a, b, c)

module _ (made : ℕ) (r : Readings) (xs ys : List ℕ) (same : SameBelow made xs ys) where
  mutual
    after-same : (statement : Statement) → EachTermOf (NowsBelow made) statement → (s : State) → after statement (over r xs) s ≡ after statement (over r ys) s
    after-same (bind t) below s = rw (value_of-same made r xs ys same t s.locals below) refl
    after-same (assign l t) below s = rw (value_of-same made r xs ys same t s.locals below) refl
    after-same (output j t) below s = rw (value_of-same made r xs ys same t s.locals below) refl
    after-same (choose t first) below s =
        rw (value_of-same made r xs ys same t s.locals below.0)
        (ap (λ (u : State). chosen (value_of t (over r ys) s.locals) u s) (scoped-same _ _ (after_all-same first below.1) s))
    after-same (choose_else t first second) below s =
        let a = scoped-same _ _ (after_all-same first below.1) s in
        let b = scoped-same _ _ (after_all-same second below.2) s in
        rw (value_of-same made r xs ys same t s.locals below.0) (rw (a, b) refl)
    after-same (repeat k body) below s = iterate-same k _ _ (scoped-same _ _ (after_all-same body below)) s

    after_all-same : (block : Block) → EachTerm (NowsBelow made) block → (s : State) → after_all block (over r xs) s ≡ after_all block (over r ys) s
    after_all-same end below s = refl
    after_all-same (step statement rest) below s =
        after_all-same rest below.1 (after statement (over r xs) s) ∙ ap (after_all rest (over r ys)) (after-same statement below.0 s)

-- a task that reads by `now` only the first words has one meaning over all lists that begin with them
pub meaning-same : (made : ℕ) (task : TaskTree) (agreed xs ys last : List ℕ) → SameBelow made xs ys → AllNowsBelow made task → meaning task agreed xs last ≡ meaning task agreed ys last
meaning-same made task agreed xs ys last same below =
    ap (λ (s : State). s.outs) (after_all-same made (record { ins = agreed; made = xs; last = last }) xs ys same task.body below _)
