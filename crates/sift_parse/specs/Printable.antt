-- The law of printing: the text that a sound tree prints is a text of that tree.
use Rattle.std.specs.Prelude.{◌≡◌, ◌≢◌, ◌+◌, ◌<◌, ◌≤◌, ℕ, suc, max, nat_lt, Bool, true, false, length, sum, slice_get, slice_index, Some}
use Rattle.sift_base.specs.Name.{IsName}
use Rattle.sift_lang.specs.Sound.{EachTerm, locals_after}
use Rattle.sift_lang.specs.Tree.{Term, number, local, sense, this_frame, last_frame, minus, binary, middle, Statement, bind, assign, output, choose, choose_else, repeat, Block, end, step, TaskTree}
use Rattle.sift_parse.specs.Grammar.{level_of, prim_level}
use Rattle.sift_parse.specs.Lexeme.{text_limit, level_limit, number_limit}
use Rattle.sift_parse.specs.Outcome.{AreNames, IsSoundAmong, IsTaskOf}
use Rattle.sift_parse.specs.Printing.{Naming, left_level, printed_text}
use Rattle.sift_parse.specs.Roll.{Roll, first_word}

-- ---- names

-- the sensor of this number has its name
pub record NamesSensor (r : Roll) (N : Naming) (x : ℕ) : Type 0 where
  pub is_name : IsName (N.sensor_name x)
  pub named : slice_get r.sensors x ≡ Some (N.sensor_name x)

-- the voted word is the word of this number among those of its task, which has its name
pub record NamesWord (r : Roll) (N : Naming) (w : ℕ) : Type 0 where
  pub is_name : IsName (N.task_name w)
  pub named : slice_get r.tasks (N.task_of w) ≡ Some (N.task_name w)
  pub within : N.index_of w < slice_index r.sizes (N.task_of w)
  pub same : first_word r (N.task_of w) + N.index_of w ≡ w

-- what is there has its name, and so have so many locals, of which no two have the same
pub record IsNamingOf (r : Roll) (N : Naming) (locals : ℕ) : Type 0 where
  pub sensors : (x : ℕ) → x < length r.sensors → NamesSensor r N x
  pub words : (w : ℕ) → w < sum r.sizes → NamesWord r N w
  pub local_names : (l : ℕ) → l < locals → IsName (N.local_name l)
  pub distinct : (l m : ℕ) → l < m → m < locals → N.local_name m ≢ N.local_name l

abbrev mutual
  -- the most locals that live at once in a statement, where so many live before it
  pub most_locals_of : ℕ → Statement → ℕ
  most_locals_of k (bind t) = k + 1
  most_locals_of k (assign l t) = k
  most_locals_of k (output j t) = k
  most_locals_of k (choose t first) = most_locals_in k first
  most_locals_of k (choose_else t first second) = max (most_locals_in k first) (most_locals_in k second)
  most_locals_of k (repeat n body) = most_locals_in k body

  -- the most that live at once in a block
  pub most_locals_in : ℕ → Block → ℕ
  most_locals_in k end = k
  most_locals_in k (step statement more) = max (most_locals_of k statement) (most_locals_in (locals_after k statement) more)

-- ---- limits

-- one more level, where there are parentheses
abbrev pub one_more_if : Bool → ℕ → ℕ
one_more_if true n = n + 1
one_more_if false n = n

-- how many levels a term opens at once, where it is printed as an operand of this level
abbrev pub depth : Term → ℕ → ℕ
depth (number k) n = 0
depth (local l) n = 0
depth (sense x) n = 0
depth (this_frame w) n = 0
depth (last_frame w) n = 0
depth (minus t) n = depth t prim_level + 1
depth (binary op t u) n =
    let m = level_of op in
    one_more_if (nat_lt m n) (max (depth t (left_level m)) (depth u (suc m)))
depth (middle t u v) n = max (depth t 0) (max (depth u 0) (depth v 0)) + 1

abbrev mutual
  -- how many levels a statement opens at once
  pub depth_of : Statement → ℕ
  depth_of (bind t) = depth t 0
  depth_of (assign l t) = depth t 0
  depth_of (output j t) = depth t 0
  depth_of (choose t first) = max (depth t 0) (depth_in first + 1)
  depth_of (choose_else t first second) = max (depth t 0) (max (depth_in first) (depth_in second) + 1)
  depth_of (repeat n body) = depth_in body + 1

  -- how many levels the statements of a block open at once
  pub depth_in : Block → ℕ
  depth_in end = 0
  depth_in (step statement more) = max (depth_of statement) (depth_in more)

-- each number of the term is one that a text may hold
abbrev pub HasSmallNumbers : Term → Type 0
HasSmallNumbers (number k) = k ≤ number_limit
HasSmallNumbers (local l) = Unit {0}
HasSmallNumbers (sense x) = Unit {0}
HasSmallNumbers (this_frame w) = Unit {0}
HasSmallNumbers (last_frame w) = Unit {0}
HasSmallNumbers (minus t) = HasSmallNumbers t
HasSmallNumbers (binary op t u) = HasSmallNumbers t × HasSmallNumbers u
HasSmallNumbers (middle t u v) = HasSmallNumbers t × HasSmallNumbers u × HasSmallNumbers v

-- the tree may be printed: it is that of a sound task with as many output words as the task has, and within the limits of a text
pub record IsPrintable (r : Roll) (N : Naming) (tree : TaskTree) : Type 0 where
  pub outputs : tree.outputs ≡ slice_index r.sizes r.this
  pub sound : IsSoundAmong r tree
  pub small : EachTerm HasSmallNumbers tree.body
  pub shallow : depth_in tree.body ≤ level_limit
  pub short : length (printed_text N tree.body) ≤ text_limit

-- the text that a tree prints is a text of that tree
abbrev pub PrintedTreeIsTask : Type 0
PrintedTreeIsTask =
    (r : Roll) (N : Naming) (tree : TaskTree) → AreNames r → IsNamingOf r N (most_locals_in 0 tree.body) → IsPrintable r N tree
    → IsTaskOf r (printed_text N tree.body) tree
