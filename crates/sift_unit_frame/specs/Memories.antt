-- A memory of the code as the plain record of the definitions, and how it goes over to the next frame.
use Rattle.std.specs.Prelude.{◌≡◌, ℕ, ℤ, List}
use Rattle.sift_mission.specs.Data.{FlownMission}
use Rattle.sift_conduct.specs.Conduct.{account_of}
use Rattle.sift_conduct.specs.declared.account.Account.{Account as TheAccount}
use Rattle.sift_unit_frame.specs.Memory.{Memory}
use Rattle.sift_unit_frame.specs.Conditions.{IsShaped}
use Rattle.sift_unit_frame.specs.Tidings.{frame_account}
use Rattle.sift_unit_frame.specs.declared.memory.Memory.{Memory as TheMemory}

-- a memory
abbrev pub memory_of : TheMemory → Memory
memory_of b = record {
  clock = b.clock;
  next_clk = b.next_clk;
  direct = b.direct;
  ins = b.words.agreed;
  relay = b.relay;
  made = b.words.made;
  outs = b.words.voted;
  poll = b.poll;
  reports = b.reports;
  agreed = b.agreed;
}

-- a memory that is in shape, and has this account of its frame, is in shape for the next
abbrev pub TurnsInShape : List ℕ → ℕ → TheAccount → Memory → Memory → Type 0
TurnsInShape us u a b b' = (m : FlownMission) (clk : ℤ) → IsShaped m us u b → account_of a ≡ frame_account m us u clk b → IsShaped m a.next_cfg u b'

-- the words before are those of this account
abbrev pub TakesBefore : List ℕ → ℕ → TheAccount → Memory → List ℕ → Type 0
TakesBefore us u a b before = (m : FlownMission) (clk : ℤ) → account_of a ≡ frame_account m us u clk b → before ≡ a.outs.items
