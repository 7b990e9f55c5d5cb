-- Where a term may start, and what is printed of it.
use Rattle.std.proofs.Common.{◌≡◌, ◌≢◌, ℕ, ◌≤◌, true, false, List, Some, None, refl}
use Rattle.sift_lang.specs.Tree.{Term}
use Rattle.sift_parse.specs.declared.token.Keyword.TheVariants.{Let, If, Repeat, Now}
use Rattle.sift_parse.specs.declared.token.Sign.TheVariants.{Assign, OpenParen, Comma}
use Rattle.sift_parse.specs.Force.{without_minuses, old_local, role_after}
use Rattle.sift_parse.specs.Grammar.{IsLevel}
use Rattle.sift_parse.specs.Pieces.{Piece}
use Rattle.sift_parse.specs.Roll.{Roll}
use Rattle.sift_parse.proofs.Printing.Known.{Before, after_key, after_joined, after_sign, Known, key_before, ends_in, asked_by, tokens_by}
use Rattle.sift_parse.proofs.Printing.Levels.{lower}
use Rattle.sift_parse.proofs.Printing.MayStand.{AllMayStand}
use Rattle.sift_parse.proofs.Printing.Read.{items_in}

-- ---- where a term may start

-- a name is a local's there, a `-` a minus and a number a word, and none of the keywords that limit something stands before
pub record Starts (r : Roll) (b : Before) : Type 0 where
  pub role : role_after (key_before b) ≡ old_local
  pub ends : ends_in b ≡ false
  pub asked : asked_by r b ≡ None
  pub no_let : key_before b ≢ Some Let
  pub no_repeat : key_before b ≢ Some Repeat
  pub no_now : key_before b ≢ Some Now

-- a term may start after an operator
pub operator-starts : (r : Roll) → Starts r after_joined
operator-starts r = record { role = refl; ends = refl; asked = refl; no_let = λ e. cc; no_repeat = λ e. cc; no_now = λ e. cc }

-- a term may start after a `(`
pub paren-starts : (r : Roll) → Starts r (after_sign OpenParen)
paren-starts r = record { role = refl; ends = refl; asked = refl; no_let = λ e. cc; no_repeat = λ e. cc; no_now = λ e. cc }

-- a term may start after a comma
pub comma-starts : (r : Roll) → Starts r (after_sign Comma)
comma-starts r = record { role = refl; ends = refl; asked = refl; no_let = λ e. cc; no_repeat = λ e. cc; no_now = λ e. cc }

-- a term may start after a `=`
pub assign-starts : (r : Roll) → Starts r (after_sign Assign)
assign-starts r = record { role = refl; ends = refl; asked = refl; no_let = λ e. cc; no_repeat = λ e. cc; no_now = λ e. cc }

-- a term may start after `if`
pub if-starts : (r : Roll) → Starts r (after_key If)
if-starts r = record { role = refl; ends = refl; asked = refl; no_let = λ e. cc; no_repeat = λ e. cc; no_now = λ e. cc }

-- ---- what is printed

-- what is written before the rest is the term, as an operand of this level, and each item of it may stand in its place
pub record Printed (r : Roll) (h : Known) (n : ℕ) (t : Term) (write : List Piece → List Piece) : Type 0 where
  pub after : Known
  pub ends : ends_in after.before ≡ true
  pub levels : after.levels ≡ without_minuses h.levels
  pub locals : after.locals ≡ h.locals
  pub pending : after.pending ≡ h.pending
  pub tokens : (rest : List Piece) → IsLevel n (tokens_by r h (items_in (write rest))) t (tokens_by r after (items_in rest))
  pub stands : (rest : List Piece) → AllMayStand r after (items_in rest) → AllMayStand r h (items_in (write rest))

-- an operand of a level is one of each lower level
pub lowered : (r : Roll) (h : Known) (n m : ℕ) (t : Term) (write : List Piece → List Piece) → n ≤ m → m ≤ 5 → Printed r h m t write
    → Printed r h n t write
lowered r h n m t write le few i = record {
  after = i.after;
  ends = i.ends;
  levels = i.levels;
  locals = i.locals;
  pending = i.pending;
  tokens = λ rest. lower n m _ _ t le few (i.tokens rest);
  stands = i.stands;
}
