-- The tree of a task as contracts see it, without where it lies in memory, and the limits of the language.
use Rattle.std.specs.Prelude.{ℕ, List, [], ◌∷◌, map, Option, Some, None}
use Rattle.std.specs.declared.vec.Vec.{Vec}
use Rattle.std.specs.declared.alloc.Global.{Global}
use Rattle.sift_lang.specs.declared.tree.Op.{Op}
use Rattle.sift_lang.specs.declared.tree.Expr.{Expr}
use Rattle.sift_lang.specs.declared.tree.Expr.TheVariants as code
use Rattle.sift_lang.specs.declared.tree.Stmt.{Stmt, fold-Stmt}
use Rattle.sift_lang.specs.declared.tree.Stmt.TheOpen.{Stmt-F}
use Rattle.sift_lang.specs.declared.tree.Task.{Task}

-- ---- the limits of the language. That of output words is the mission's

-- the most locals that may live at once, hidden ones counted
abbrev pub local_limit : ℕ
local_limit = 32

-- the most `repeat`s that may be open at once
abbrev pub repeat_limit : ℕ
repeat_limit = 32

-- the most rounds of a `repeat`
abbrev pub round_limit : ℕ
round_limit = 1024

-- the most words that an expression may need at once
abbrev pub need_limit : ℕ
need_limit = 256

-- ---- terms, statements and blocks

-- a term: a word, a local, an agreed word of a sensor, a word voted in this frame or in the last one, or an operator at its parts
pub data Term : Type 0 where
  number : ℕ → Term
  local : ℕ → Term
  sense : ℕ → Term
  this_frame : ℕ → Term
  last_frame : ℕ → Term
  minus : Term → Term
  binary : Op → Term → Term → Term
  middle : Term → Term → Term → Term

mutual
  -- a statement: a new local, an assignment to one, an output, an `if` without or with an `else`, or a `repeat`
  pub data Statement : Type 0 where
    bind : Term → Statement
    assign : ℕ → Term → Statement
    output : ℕ → Term → Statement
    choose : Term → Block → Statement
    choose_else : Term → Block → Block → Statement
    repeat : ℕ → Block → Statement

  -- a block: its statements in turn
  pub data Block : Type 0 where
    end : Block
    step : Statement → Block → Block

-- a task: how many output words it has, and its body
pub record TaskTree : Type 0 where
  pub outputs : ℕ
  pub body : Block

-- ---- the trees of the code's values

-- the term that an expression is
abbrev pub term_of : Expr → Term
term_of (code.Number n) = number n
term_of (code.Local l) = local l
term_of (code.Sense x) = sense x
term_of (code.Now w) = this_frame w
term_of (code.Last w) = last_frame w
term_of (code.Minus' p e) = minus (term_of e)
term_of (code.Binary' op p a q b) = binary op (term_of a) (term_of b)
term_of (code.Mid' p a q b r c) = middle (term_of a) (term_of b) (term_of c)

-- a list of statements as a block
abbrev pub block_from : List Statement → Block
block_from [] = end
block_from (s ∷ ss) = step s (block_from ss)

-- an `if`, whose second block may be absent
abbrev pub choice_of : Term → Block → Option (Vec Statement Global) → Statement
choice_of t first None = choose t first
choice_of t first (Some second) = choose_else t first (block_from second.items)

-- one level of a statement, with each statement inside already seen
abbrev pub layer_of : Stmt-F Statement → Statement
layer_of (Stmt-F.Let e) = bind (term_of e)
layer_of (Stmt-F.Set l e) = assign l (term_of e)
layer_of (Stmt-F.Output j e) = output j (term_of e)
layer_of (Stmt-F.If e first second) = choice_of (term_of e) (block_from first.items) second
layer_of (Stmt-F.Repeat k body) = repeat k (block_from body.items)

-- the statement that a `Stmt` is
abbrev pub statement_of : Stmt → Statement
statement_of = fold-Stmt Statement layer_of

-- the block that a list of `Stmt`s is
abbrev pub block_of : List Stmt → Block
block_of ss = block_from (map statement_of ss)

-- the tree that a task is
abbrev pub tree_of : Task → TaskTree
tree_of task = record { outputs = task.outputs; body = block_of task.body.items }
