-- The account so far, and that the words and accounts as they stand are a fate.
use Rattle.std.proofs.Common.{◌≡◌, inl, inr, ℕ, suc, ◌+◌, ◌*◌, ◌<◌, ◌≤◌, ◌++◌, List, [], ◌∷◌, length, true, false, refl, sym, ap, ◌∙◌, subst, arith, lt-ltb, le-ltb}
use Rattle.std.specs.Prelude.{slice_index_or, ℤ}
use Rattle.std.proofs.lemmas.Bool.{cases_Bool}
use Rattle.std.proofs.lemmas.List.{get_or_default}
use Rattle.std.proofs.Math.Seq.{get_or-append_seam}
use mathlib.Core.Logic.{dite}
use native.Mathlib.Decide.{ℕ_discrete}
use Rattle.sift_base.specs.Units.{has}
use Rattle.sift_buffer.specs.Conduct.{Conduct as Acts}
use Rattle.sift_mission.specs.Data.{FlownMission, IsConfigOf}
use Rattle.sift_conduct.specs.Conduct.{Account}
use Rattle.sift_conduct.specs.Frames.{last_of, BeginConduct}
use Rattle.sift_conduct.specs.Acts.{heard_places}
use Rattle.sift_unit_frame.specs.Memory.{Memory}
use Rattle.sift_unit_frame.specs.Tidings.{busy_account, idle_account}
use Rattle.sift_unit.specs.Desk.{Desk, cursor, account_now, accounts_of}
use Rattle.sift_unit.specs.Going.{Accounts, Agrees, Fate, InRange}
use Rattle.sift_unit.proofs.Kept.{matches_own}

-- what the board would account for agrees with what it settled
pub agrees_own : (m : FlownMission) (us : List ℕ) (u : ℕ) (clk : ℤ) (b : Memory) (at : ℕ) → Agrees m us (busy_account m us u clk b) b at
agrees_own m us u clk b at = record { matches = λ k slot low. matches_own m us u clk b k; settled = λ low. refl }

-- the account of the board's frame, where its unit is in its configuration
pub now_in : (m : FlownMission) (b : Desk) → has b.cfg b.unit ≡ true → account_now m b ≡ busy_account m b.cfg b.unit b.clk b.memory
now_in m b t = rw t refl

-- and where it isn't
pub now_out : (m : FlownMission) (b : Desk) → has b.cfg b.unit ≡ false → account_now m b ≡ idle_account b.cfg b.clk
now_out m b t = rw t refl

-- it has the board's configuration
pub now_cfg : (m : FlownMission) (b : Desk) → (account_now m b).cfg ≡ b.cfg
now_cfg m b = elim (cases_Bool (has b.cfg b.unit)) [ inl t ↦ rw t refl | inr t ↦ rw t refl ]

-- and its offset
pub now_clk : (m : FlownMission) (b : Desk) → (account_now m b).clk ≡ b.clk
now_clk m b = elim (cases_Bool (has b.cfg b.unit)) [ inl t ↦ rw t refl | inr t ↦ rw t refl ]

-- the board's frame has it
pub at_frame : (m : FlownMission) (b : Desk) → accounts_of m b b.frame ≡ account_now m b
at_frame m b = rw (le-ltb b.frame b.frame (omega arith)) refl

-- the words and accounts as they stand are a fate
pub stands : (m : FlownMission) (b : Desk) (c : Acts) → InRange m b → Fate m b c (accounts_of m b) (heard_places m c)
stands m b c r = record {
  heard = λ f k p x slot e. rw (slot, e) refl;
  accounts = λ f d low. let count = r.count in rw (lt-ltb f b.frame low) (get_or_default b.accounts f (account_now m b) d (omega arith));
  cfg = ap (λ (z : Account). z.cfg) (at_frame m b) ∙ now_cfg m b;
  clk = ap (λ (z : Account). z.clk) (at_frame m b) ∙ now_clk m b;
  agrees = λ t. subst (λ z. Agrees m b.cfg z b.memory (cursor b)) (sym (at_frame m b ∙ now_in m b t)) (agrees_own m b.cfg b.unit b.clk b.memory (cursor b));
}

-- ---- from a frame to the next

-- one frame more
pub next_mul : (f n : ℕ) → (f + 1) * n ≡ f * n + n
next_mul f n = grind arith

-- a frame begins with what was found in the one before
pub begins_next : (m : FlownMission) (u : ℕ) (a : Accounts) (f : ℕ) → (a (f + 1)).cfg ≡ (a f).next_cfg → (a (f + 1)).clk ≡ (a f).next_clk →
    BeginConduct m u a (f + 1)
begins_next m u a f =
    let e : suc f ≡ f + 1 = omega arith in
    subst (λ n. (a n).cfg ≡ (a f).next_cfg → (a n).clk ≡ (a f).next_clk → BeginConduct m u a n) e (λ x y. (x, y))

-- and has the words voted in it
pub last_next : (m : FlownMission) (a : Accounts) (f : ℕ) → (a f).outs ≡ last_of m a (f + 1)
last_next m a f = let e : suc f ≡ f + 1 = omega arith in subst (λ n. (a f).outs ≡ last_of m a n) e refl

-- what is put at a list's end stands there
pub pushed_at : {A : Type 0} (xs : List A) (x d : A) (n : ℕ) → length xs ≡ n → slice_index_or (xs ++ x ∷ []) n d ≡ x
pushed_at xs x d n e = rw (← e) (get_or-append_seam xs x [] d)

-- ---- configurations

-- each configuration of a board, up to its frame's, is one of the mission
pub config_at : (m : FlownMission) (b : Desk) → InRange m b → (f : ℕ) → f ≤ b.frame → IsConfigOf m (accounts_of m b f).cfg
config_at m b r f low = dite (ℕ_discrete f b.frame)
    (λ e. rw (e, at_frame m b) (subst (λ z. IsConfigOf m z) (sym (now_cfg m b)) r.config))
    (λ ne. let before : f < b.frame = omega arith in rw (lt-ltb f b.frame before) (r.configs f (account_now m b) before))
