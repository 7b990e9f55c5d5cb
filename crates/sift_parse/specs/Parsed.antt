-- What parsing tokens answers, in the words of the grammar.
use Rattle.std.specs.Prelude.{◌≤◌, ℕ, List, length, drop, Result, Ok, Err}
use Rattle.std.specs.declared.vec.Vec.{Vec}
use Rattle.std.specs.declared.alloc.Global.{Global}
use Rattle.sift_lang.specs.declared.tree.Stmt.{Stmt}
use Rattle.sift_lang.specs.Tree.{block_of}
use Rattle.sift_parse.specs.declared.parser.Offence.{Offence}
use Rattle.sift_parse.specs.declared.parser.Offence.TheVariants.{Syntax, NoMemory}
use Rattle.sift_parse.specs.declared.token.Token.{Token}
use Rattle.sift_parse.specs.Grammar.{IsTask, Offends}

-- the offence is that of the tokens from this place on, the first that offends
pub record OffendsAt (ts : List Token) (at : ℕ) : Type 0 where
  pub within : at ≤ length ts
  pub offends : Offends ts (drop at ts)

-- the tokens are a task with this body, or the first place that offends is this one
abbrev pub Parses : List Token → Result (Vec Stmt Global) Offence → Type 0
Parses ts (Ok body) = IsTask ts (block_of body.items)
Parses ts (Err (Syntax at)) = OffendsAt ts at
Parses ts (Err NoMemory) = Unit {0}
