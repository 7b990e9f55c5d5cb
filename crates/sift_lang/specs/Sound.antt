-- Which tasks are sound: what they name is there, and what they need stays within the limits.
use Rattle.std.specs.Prelude.{ℕ, ◌+◌, ◌<◌, ◌≤◌, max}
use Rattle.sift_base.specs.Shapes.{output_limit}
use Rattle.sift_lang.specs.Tree.{local_limit, repeat_limit, round_limit, need_limit}
use Rattle.sift_lang.specs.Tree.{Term, number, local, sense, this_frame, last_frame, minus, binary, middle, Statement, bind, assign, output, choose, choose_else, repeat, Block, end, step, TaskTree}

-- how many words a term needs at once, where its parts are computed from the left
abbrev pub need : Term → ℕ
need (number n) = 1
need (local l) = 1
need (sense x) = 1
need (this_frame w) = 1
need (last_frame w) = 1
need (minus t) = need t + 1
need (binary op t u) = max (need t) (need u + 1)
need (middle t u v) = max (need t) (max (need u + 1) (need v + 2))

abbrev mutual
  -- the most `repeat`s that are open at once in a statement
  pub open_repeats : Statement → ℕ
  open_repeats (bind t) = 0
  open_repeats (assign l t) = 0
  open_repeats (output j t) = 0
  open_repeats (choose t first) = open_repeats_in first
  open_repeats (choose_else t first second) = max (open_repeats_in first) (open_repeats_in second)
  open_repeats (repeat k body) = open_repeats_in body + 1

  -- the most that are open at once in a block
  pub open_repeats_in : Block → ℕ
  open_repeats_in end = 0
  open_repeats_in (step statement rest) = max (open_repeats statement) (open_repeats_in rest)

-- how many locals live after a statement
abbrev pub locals_after : ℕ → Statement → ℕ
locals_after locals (bind t) = locals + 1
locals_after locals (assign l t) = locals
locals_after locals (output j t) = locals
locals_after locals (choose t first) = locals
locals_after locals (choose_else t first second) = locals
locals_after locals (repeat k body) = locals

-- each sensor, voted word and local that the term names is there, where there are so many of them
abbrev pub NamesWithin : ℕ → ℕ → ℕ → Term → Type 0
NamesWithin sensors words locals (number n) = Unit {0}
NamesWithin sensors words locals (local l) = l < locals
NamesWithin sensors words locals (sense x) = x < sensors
NamesWithin sensors words locals (this_frame w) = w < words
NamesWithin sensors words locals (last_frame w) = w < words
NamesWithin sensors words locals (minus t) = NamesWithin sensors words locals t
NamesWithin sensors words locals (binary op t u) =
    NamesWithin sensors words locals t × NamesWithin sensors words locals u
NamesWithin sensors words locals (middle t u v) =
    NamesWithin sensors words locals t × NamesWithin sensors words locals u × NamesWithin sensors words locals v

-- how many sensors, voted words and output words there are
pub record Bounds : Type 0 where
  pub sensors : ℕ
  pub words : ℕ
  pub outputs : ℕ

-- the term names what is there, where so many locals live, and needs no more than may be
pub record IsSoundTerm (b : Bounds) (locals : ℕ) (t : Term) : Type 0 where
  pub names : NamesWithin b.sensors b.words locals t
  pub needs : need t ≤ need_limit

abbrev mutual
  -- the statement is sound, where so many locals live
  pub IsSoundStatement : Bounds → ℕ → Statement → Type 0
  IsSoundStatement b locals (bind t) = IsSoundTerm b locals t × (locals < local_limit)
  IsSoundStatement b locals (assign l t) = IsSoundTerm b locals t × (l < locals)
  IsSoundStatement b locals (output j t) = IsSoundTerm b locals t × (j < b.outputs)
  IsSoundStatement b locals (choose t first) = IsSoundTerm b locals t × IsSoundBlock b locals first
  IsSoundStatement b locals (choose_else t first second) =
      IsSoundTerm b locals t × IsSoundBlock b locals first × IsSoundBlock b locals second
  IsSoundStatement b locals (repeat k body) = (k ≤ round_limit) × IsSoundBlock b locals body

  -- each statement of the block is sound in its place
  pub IsSoundBlock : Bounds → ℕ → Block → Type 0
  IsSoundBlock b locals end = Unit {0}
  IsSoundBlock b locals (step statement rest) =
      IsSoundStatement b locals statement × IsSoundBlock b (locals_after locals statement) rest

-- the task is sound for so many sensors and so many voted words
pub record IsSound (sensors words : ℕ) (task : TaskTree) : Type 0 where
  pub some_output : 0 < task.outputs
  pub few_outputs : task.outputs ≤ output_limit
  pub few_repeats : open_repeats_in task.body ≤ repeat_limit
  pub sound_body : IsSoundBlock (record { sensors = sensors; words = words; outputs = task.outputs }) 0 task.body

-- ---- words voted in this frame

-- each word that the term reads by `now` is one of the first so many
abbrev pub NowsBelow : ℕ → Term → Type 0
NowsBelow made (number n) = Unit {0}
NowsBelow made (local l) = Unit {0}
NowsBelow made (sense x) = Unit {0}
NowsBelow made (this_frame w) = w < made
NowsBelow made (last_frame w) = Unit {0}
NowsBelow made (minus t) = NowsBelow made t
NowsBelow made (binary op t u) = NowsBelow made t × NowsBelow made u
NowsBelow made (middle t u v) = NowsBelow made t × NowsBelow made u × NowsBelow made v

abbrev mutual
  -- P holds of each term of the statement
  pub EachTermOf : (Term → Type 0) → Statement → Type 0
  EachTermOf P (bind t) = P t
  EachTermOf P (assign l t) = P t
  EachTermOf P (output j t) = P t
  EachTermOf P (choose t first) = P t × EachTerm P first
  EachTermOf P (choose_else t first second) = P t × EachTerm P first × EachTerm P second
  EachTermOf P (repeat k body) = EachTerm P body

  -- P holds of each term of the block
  pub EachTerm : (Term → Type 0) → Block → Type 0
  EachTerm P end = Unit {0}
  EachTerm P (step statement rest) = EachTermOf P statement × EachTerm P rest

-- each word that the task reads by `now` is one of the first so many
abbrev pub AllNowsBelow : ℕ → TaskTree → Type 0
AllNowsBelow made task = EachTerm (NowsBelow made) task.body
