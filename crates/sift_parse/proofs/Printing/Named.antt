-- What a tree names has its name, and its numbers are those that a text may hold.
use Rattle.std.proofs.Common.{◌≡◌, ℕ, ◌+◌, ◌<◌, ◌≤◌, List, ◌∷◌, length, slice_index, Some}
use Rattle.sift_base.specs.Name.{IsName}
use Rattle.sift_lang.specs.Tree.{local_limit, round_limit}
use Rattle.sift_lang.specs.Tree.{Term, number, local, sense, this_frame, last_frame, minus, binary, middle, Statement, bind, assign, output, choose, choose_else, repeat, Block, end, step}
use Rattle.sift_parse.specs.Lexeme.{number_limit}
use Rattle.sift_parse.specs.Printing.{Naming}
use Rattle.sift_parse.specs.Roll.{Roll, number_in, first_word}
use Rattle.sift_parse.specs.Tokens.{local_of}

-- the sensor of this number is found by its name
pub record FindsSensor (r : Roll) (N : Naming) (x : ℕ) : Type 0 where
  pub is_name : IsName (N.sensor_name x)
  pub found : number_in r.sensors (N.sensor_name x) ≡ Some x

-- the local of this number is seen by its name
pub record NamesLocal (N : Naming) (locals : List (List ℕ)) (l : ℕ) : Type 0 where
  pub is_name : IsName (N.local_name l)
  pub found : local_of locals (N.local_name l) ≡ Some l

-- a voted word is found by these bytes and this number of its task's
pub record WritesWord (r : Roll) (name : List ℕ) (task index w : ℕ) : Type 0 where
  pub is_name : IsName name
  pub found : number_in r.tasks name ≡ Some task
  pub small : index ≤ number_limit
  pub within : index < slice_index r.sizes task
  pub same : first_word r task + index ≡ w

-- the voted word is written so
abbrev pub IsWord : Roll → Naming → ℕ → Type 0
IsWord r N w = WritesWord r (N.task_name w) (N.task_of w) (N.index_of w) w

-- the term's names and numbers, where these locals live; `now` reads earlier tasks
abbrev pub IsNamed : Roll → Naming → List (List ℕ) → Term → Type 0
IsNamed r N locals (number k) = k ≤ number_limit
IsNamed r N locals (local l) = NamesLocal N locals l
IsNamed r N locals (sense x) = FindsSensor r N x
IsNamed r N locals (this_frame w) = IsWord r N w × (N.task_of w < r.this)
IsNamed r N locals (last_frame w) = IsWord r N w
IsNamed r N locals (minus t) = IsNamed r N locals t
IsNamed r N locals (binary op t u) = IsNamed r N locals t × IsNamed r N locals u
IsNamed r N locals (middle t u v) = IsNamed r N locals t × IsNamed r N locals u × IsNamed r N locals v

-- the names of the locals that live after a statement, the newest first
abbrev pub names_after : Naming → List (List ℕ) → Statement → List (List ℕ)
names_after N locals (bind t) = N.local_name (length locals) ∷ locals
names_after N locals _ = locals

abbrev mutual
  -- the statement's names and numbers, where these locals live
  pub IsNamedStatement : Roll → Naming → List (List ℕ) → Statement → Type 0
  IsNamedStatement r N locals (bind t) = IsNamed r N locals t × IsName (N.local_name (length locals)) × (length locals < local_limit)
  IsNamedStatement r N locals (assign l t) = IsNamed r N locals t × NamesLocal N locals l
  IsNamedStatement r N locals (output j t) = IsNamed r N locals t × (j ≤ number_limit) × (j < slice_index r.sizes r.this)
  IsNamedStatement r N locals (choose t first) = IsNamed r N locals t × IsNamedBlock r N locals first
  IsNamedStatement r N locals (choose_else t first second) =
      IsNamed r N locals t × IsNamedBlock r N locals first × IsNamedBlock r N locals second
  IsNamedStatement r N locals (repeat n body) = (n ≤ round_limit) × IsNamedBlock r N locals body

  -- those of each statement of the block, in its place
  pub IsNamedBlock : Roll → Naming → List (List ℕ) → Block → Type 0
  IsNamedBlock r N locals end = Unit {0}
  IsNamedBlock r N locals (step s more) = IsNamedStatement r N locals s × IsNamedBlock r N (names_after N locals s) more
