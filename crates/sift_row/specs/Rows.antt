-- The commands of a list of rows.
use Rattle.std.specs.Prelude.{ℕ, List, [], ◌∷◌, ◌++◌, ◌&&◌, Bool, true, not, bytes_eq}
use Rattle.std.specs.List.{list_any}
use Rattle.sift_flight.specs.Flight.{HasNoStorms}
use Rattle.sift_load.specs.Loads.{States}
use Rattle.sift_mission.specs.Data.{MissionData}
use Rattle.sift_mission.specs.Flown.{flown}
use Rattle.sift_reply.specs.Duty.{Duty}
use Rattle.sift_reply.specs.Promise.{Commands}
use Rattle.sift_row.specs.Row.{Asks, Reads, Nothing, Row, duty_of}
use Rattle.sift_row.specs.declared.list.NoCommand.{NoCommand}
use Rattle.sift_row.specs.declared.list.Or.{Or}
use Rattle.sift_row.specs.declared.list.Or.TheVariants.{This, Other}

-- ---- the commands of several rows

-- by one function for the jobs of a row, and by another for the commands of the later ones
abbrev pub by_case {ℓ} : {A B : Type 0} {C : Type ℓ} → (A → C) → (B → C) → Or A B → C
by_case this other (This job) = this job
by_case this other (Other command) = other command

-- the words of the commands; which words ask for one; what it has to do, by what it reads; the statuses of that, and of all; and
-- the command by one worker
pub record Rows (Command : Type 0) : Type 1 where
  pub words : List (List ℕ)
  pub asks : List (List ℕ) → Command → Type 0
  pub duty : Command → Duty
  pub does : Command → Reads
  pub statuses : Command → List ℕ
  pub all_statuses : List ℕ
  pub by_one : Command → Command

-- a row before others: a command is one of its jobs, or of theirs
infixr 50 ◌⊕◌
abbrev pub ◌⊕◌ : {Job Command : Type 0} → Row Job → Rows Command → Rows (Or Job Command)
row ⊕ others = record {
  words = row.word ∷ others.words;
  asks = λ words. by_case (Asks row words) (others.asks words);
  duty = by_case (λ job. duty_of (row.does job)) others.duty;
  does = by_case row.does others.does;
  statuses = by_case (λ job. row.statuses) others.statuses;
  all_statuses = row.statuses ++ others.all_statuses;
  by_one = by_case (λ job. This (row.by_one job)) (λ command. Other (others.by_one command));
}

-- no row: nothing asks for the end of a list, and nothing is due to it
abbrev pub no_rows : Rows NoCommand
no_rows = record {
  words = [];
  asks = λ words command. ⊥;
  duty = λ command. duty_of (Nothing (λ reply. ⊥));
  does = λ command. Nothing (λ reply. ⊥);
  statuses = λ command. [];
  all_statuses = [];
  by_one = λ command. command;
}

-- rows of commands that stand for others
abbrev pub standing_for : {Inner Command : Type 0} → (inside : Command → Inner) → (made : Inner → Command) → Rows Inner → Rows Command
standing_for inside made rows = record {
  words = rows.words;
  asks = λ words command. rows.asks words (inside command);
  duty = λ command. rows.duty (inside command);
  does = λ command. rows.does (inside command);
  statuses = λ command. rows.statuses (inside command);
  all_statuses = rows.all_statuses;
  by_one = λ command. made (rows.by_one (inside command));
}

-- what is promised of the commands of rows
abbrev pub commands_of : {Command : Type 0} → Rows Command → Commands Command
commands_of rows = record { asks = rows.asks; duty = rows.duty }

-- the word is among these
abbrev pub is_among : (words : List (List ℕ)) → (word : List ℕ) → Bool
is_among words word = list_any (bytes_eq word) words

-- the words all differ
abbrev pub all_differ : List (List ℕ) → Bool
all_differ [] = true
all_differ (word ∷ words) = not (is_among words word) && all_differ words

-- no mission that the bytes state has a storm
abbrev pub AreCalm : List ℕ → Type 0
AreCalm bytes = (mission : MissionData) → States bytes mission → HasNoStorms (flown mission)
