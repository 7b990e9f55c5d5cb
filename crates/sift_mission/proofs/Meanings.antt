-- What a task makes depends only on the sensors and the words of this frame that it reads.
use Rattle.std.proofs.Common.{◌≡◌, ℕ, ◌<◌, List, slice_index, Bool, true, ◌||◌, refl, ap, ◌∙◌}
use Rattle.std.proofs.lemmas.Bool.{eq-eqb, or_left, or_right}
use Rattle.sift_base.specs.Word.{sub}
use Rattle.sift_lang.specs.Tree.{Term, number, local, sense, this_frame, last_frame, minus, binary, middle, Statement, bind, assign, output, choose, choose_else, repeat, Block, end, step, TaskTree}
use Rattle.sift_lang.specs.Meaning.{Readings, State, value_of, chosen, after, after_all, meaning}
use Rattle.sift_lang.specs.Sound.{Bounds, NamesWithin, IsSoundStatement, IsSoundBlock, IsSound, NowsBelow, EachTerm, EachTermOf, AllNowsBelow, locals_after}
use Rattle.sift_lang.specs.laws.States.{iterate-same, scoped-same}
use Rattle.sift_program.specs.Program.{term_reads, statement_reads, block_reads}
use Rattle.sift_program.specs.laws.ShapeLists.{reads_word}

-- the lists have the same words at the places below made that pass a test
abbrev pub SameRead : (ℕ → Bool) → ℕ → List ℕ → List ℕ → Type 0
SameRead test made xs ys = (v : ℕ) → v < made → test v ≡ true → slice_index xs v ≡ slice_index ys v

-- of two tests that together pass, the first part
left_read : (test other : ℕ → Bool) (made : ℕ) (xs ys : List ℕ) → SameRead (λ v. test v || other v) made xs ys → SameRead test made xs ys
left_read test other made xs ys same v low is = same v low (or_left (test v) (other v) is)

-- and the second
right_read : (test other : ℕ → Bool) (made : ℕ) (xs ys : List ℕ) → SameRead (λ v. test v || other v) made xs ys → SameRead other made xs ys
right_read test other made xs ys same v low is = same v low (or_right (test v) (other v) is)

-- two readings with one list of the frame before, with the same words of the sensors that there are
record AreAlike (b : Bounds) (r s : Readings) : Type 0 where
  pub ins : (x : ℕ) → x < b.sensors → slice_index r.ins x ≡ slice_index s.ins x
  pub last : r.last ≡ s.last

module _ (b : Bounds) (made : ℕ) (r r' : Readings) (alike : AreAlike b r r') where
  -- a term has one value over both
  abbrev SameValue : Term → Type 0
  SameValue t = (locals : List ℕ) → value_of t r locals ≡ value_of t r' locals

  value-same : (t : Term) (n : ℕ) → NamesWithin b.sensors b.words n t → NowsBelow made t → SameRead (λ v. term_reads v t) made r.made r'.made → SameValue t
  value-same (number k) n names nows same locals = refl
  value-same (local l) n names nows same locals = refl
  value-same (sense x) n names nows same locals = alike.ins x names
  value-same (this_frame w) n names nows same locals = same w nows (eq-eqb w w refl)
  value-same (last_frame w) n names nows same locals = ap (λ ws. slice_index ws w) alike.last
  value-same (minus t) n names nows same locals = ap (sub 0) (value-same t n names nows same locals)
  value-same (binary op t u) n names nows same locals =
      let one = value-same t n names.0 nows.0 (left_read _ (λ v. term_reads v u) made _ _ same) locals in
      let two = value-same u n names.1 nows.1 (right_read (λ v. term_reads v t) _ made _ _ same) locals in
      cc (one, two)
  value-same (middle t u v) n names nows same locals =
      let rest = right_read (λ w. term_reads w t) (λ w. term_reads w u || term_reads w v) made r.made r'.made same in
      let one = value-same t n names.0 nows.0 (left_read (λ w. term_reads w t) (λ w. term_reads w u || term_reads w v) made _ _ same) locals in
      let two = value-same u n names.1 nows.1 (left_read (λ w. term_reads w u) (λ w. term_reads w v) made _ _ rest) locals in
      let three = value-same v n names.2 nows.2 (right_read (λ w. term_reads w u) (λ w. term_reads w v) made _ _ rest) locals in
      cc (one, two, three)

  mutual
    -- a statement leads to one state over both
    after-same : (statement : Statement) (n : ℕ) → IsSoundStatement b n statement → EachTermOf (NowsBelow made) statement
        → SameRead (λ v. statement_reads v statement) made r.made r'.made → (s : State) → after statement r s ≡ after statement r' s
    after-same (bind t) n sound nows same s = rw (value-same t n sound.0.names nows same s.locals) refl
    after-same (assign l t) n sound nows same s = rw (value-same t n sound.0.names nows same s.locals) refl
    after-same (output j t) n sound nows same s = rw (value-same t n sound.0.names nows same s.locals) refl
    after-same (choose t first) n sound nows same s =
        let test = left_read (λ v. term_reads v t) (λ v. block_reads v first) made r.made r'.made same in
        let body = right_read (λ v. term_reads v t) (λ v. block_reads v first) made r.made r'.made same in
        rw (value-same t n sound.0.names nows.0 test s.locals)
        (ap (λ (u : State). chosen (value_of t r' s.locals) u s) (scoped-same _ _ (all-same first n sound.1 nows.1 body) s))
    after-same (choose_else t first second) n sound nows same s =
        let both : ℕ → Bool = λ v. block_reads v first || block_reads v second in
        let test = left_read (λ v. term_reads v t) both made r.made r'.made same in
        let rest = right_read (λ v. term_reads v t) both made r.made r'.made same in
        let one = left_read (λ v. block_reads v first) (λ v. block_reads v second) made r.made r'.made rest in
        let two = right_read (λ v. block_reads v first) (λ v. block_reads v second) made r.made r'.made rest in
        let a = scoped-same _ _ (all-same first n sound.1 nows.1 one) s in
        let c = scoped-same _ _ (all-same second n sound.2 nows.2 two) s in
        rw (value-same t n sound.0.names nows.0 test s.locals) (rw (a, c) refl)
    after-same (repeat k body) n sound nows same s = iterate-same k _ _ (scoped-same _ _ (all-same body n sound.1 nows same)) s

    -- and so does a block
    all-same : (block : Block) (n : ℕ) → IsSoundBlock b n block → EachTerm (NowsBelow made) block
        → SameRead (λ v. block_reads v block) made r.made r'.made → (s : State) → after_all block r s ≡ after_all block r' s
    all-same end n sound nows same s = refl
    all-same (step statement rest) n sound nows same s =
        let here = left_read (λ v. statement_reads v statement) (λ v. block_reads v rest) made r.made r'.made same in
        let then = right_read (λ v. statement_reads v statement) (λ v. block_reads v rest) made r.made r'.made same in
        all-same rest (locals_after n statement) sound.1 nows.1 then (after statement r s)
        ∙ ap (after_all rest r') (after-same statement n sound.0 nows.0 here s)

-- a sound task whose words of this frame are below made means one thing over lists with the same words where it reads them
pub meaning-same : (sensors words made : ℕ) (task : TaskTree) (ins ins' now now' last : List ℕ) → IsSound sensors words task → AllNowsBelow made task
    → ((x : ℕ) → x < sensors → slice_index ins x ≡ slice_index ins' x) → SameRead (reads_word task) made now now'
    → meaning task ins now last ≡ meaning task ins' now' last
meaning-same sensors words made task ins ins' now now' last sound nows sensed same =
    let b : Bounds = record { sensors = sensors; words = words; outputs = task.outputs } in
    let r : Readings = record { ins = ins; made = now; last = last } in
    let r' : Readings = record { ins = ins'; made = now'; last = last } in
    ap (λ (s : State). s.outs) (all-same b made r r' (record { ins = sensed; last = refl }) task.body 0 sound.sound_body nows same _)
