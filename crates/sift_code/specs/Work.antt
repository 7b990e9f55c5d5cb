-- How the state of a run lies in the words of a span. No public clause cites this module.
use Rattle.std.specs.Prelude.{◌≡◌, ℕ, zero, suc, ◌+◌, ◌-◌, ◌≤◌, List, [], ◌∷◌, length, map, take, drop, Some, slice_index, slice_set, ⊤}
use Rattle.sift_code.specs.declared.instr.Instr.{Instr}
use Rattle.sift_code.specs.declared.machine.Machine.{Machine}
use Rattle.sift_code.specs.Machine.{Loop, State, Inputs, local_count, step}
use Rattle.sift_code.specs.Enclosing.{enclosing}
use Rattle.sift_code.specs.Heights.{height_at}
use Rattle.sift_code.specs.Nest.{past_at}
use Rattle.sift_code.specs.Refusal.{Program}

-- where the locals begin
abbrev pub locals_start : ℕ
locals_start = 256

-- where the rounds left begin
abbrev pub lefts_start : ℕ
lefts_start = 288

-- a stack of so many words, from its top down: it lies from the first word on
abbrev pub stack_of : ℕ → List ℕ → List ℕ
stack_of zero ws = []
stack_of (suc n) ws = slice_index ws n ∷ stack_of n ws

-- the locals
abbrev pub locals_of : List ℕ → List ℕ
locals_of ws = take local_count (drop locals_start ws)

-- the open loops with these starts, and the rounds left of each: those of the outermost lie first
abbrev pub loops_of : List ℕ → List ℕ → List Loop
loops_of [] ws = []
loops_of (start ∷ outer) ws =
    record { start = start; left = slice_index ws (lefts_start + length outer) } ∷ loops_of outer ws

-- the state of a run of the code
abbrev pub state_of : List Instr → Machine → List ℕ → List ℕ → State
state_of code m ws outs =
    record { place = m.place; stack = stack_of m.height ws; loops = loops_of (enclosing code m.place) ws; locals = locals_of ws; outs = outs }

-- rounds are left in each loop
abbrev pub AreGoing : List Loop → Type 0
AreGoing [] = ⊤
AreGoing (l ∷ ls) = (1 ≤ l.left) × AreGoing ls

-- the places after the Begins of open loops
abbrev pub starts_of : List Loop → List ℕ
starts_of loops = map (λ (l : Loop). l.start) loops

-- a state is as the code says of its place
pub record Agrees (program : Program) (s : State) : Type 0 where
  pub within : s.place ≤ length program.code
  pub height : length s.stack ≡ height_at program.code s.place
  pub loops : starts_of s.loops ≡ enclosing program.code s.place
  pub going : AreGoing s.loops
  pub locals : length s.locals ≡ local_count
  pub outs : length s.outs ≡ program.limits.outputs

-- a run stands at a place with these words, as the code says
pub record Stands (program : Program) (m : Machine) (ws outs : List ℕ) : Type 0 where
  pub agrees : Agrees program (state_of program.code m ws outs)
  pub depth : m.depth ≡ length (enclosing program.code m.place)

-- one instruction leads from the first place and words to the others
pub record Steps (program : Program) (inputs : Inputs) (m : Machine) (ws outs : List ℕ) (n : Machine) (vs puts : List ℕ) : Type 0 where
  pub stepped : step program.code inputs (state_of program.code m ws outs) ≡ Some (state_of program.code n vs puts)
  pub depth : n.depth ≡ length (enclosing program.code n.place)

-- the same machine at another place
abbrev pub at_place : ℕ → Machine → Machine
at_place p m = record m { place = p }

-- the same machine with a stack of another height
abbrev pub at_height : ℕ → Machine → Machine
at_height h m = record m { height = h }

-- the same machine with so many open loops
abbrev pub at_depth : ℕ → Machine → Machine
at_depth d m = record m { depth = d }

-- behind a Begin of no rounds: past the End of its loop, with the same words
pub record Passes (code : List Instr) (m n : Machine) (ws vs : List ℕ) : Type 0 where
  pub past : past_at code m.place ≡ Some n.place
  pub height : n.height ≡ m.height
  pub depth : n.depth ≡ m.depth
  pub words : vs ≡ ws

-- behind a Begin: in one more loop, with all its rounds left
pub record Enters (rounds : ℕ) (m n : Machine) (ws vs : List ℕ) : Type 0 where
  pub one_more : n ≡ at_depth (m.depth + 1) m
  pub words : vs ≡ slice_set ws (lefts_start + m.depth) rounds

-- behind an End of which so many rounds are left, this one counted: at the start of the next round, or out of the loop
abbrev pub EndsRound : ℕ → ℕ → Machine → Machine → List ℕ → List ℕ → Type 0
EndsRound (suc (suc k)) start m n ws vs =
    (n ≡ at_place start m) × (vs ≡ slice_set ws (lefts_start + m.depth - 1) (suc k))
EndsRound left start m n ws vs = (n ≡ at_depth (m.depth - 1) m) × (vs ≡ ws)
