-- A seat follows itself, and what follows it further on.
use Rattle.std.proofs.Common.{ℕ, ◌+◌, List, [], ◌++◌, length, append_assoc, refl, sym, ap, ◌∙◌}
use Rattle.std.proofs.Math.Nat.{add-zero, add_assoc}
use Rattle.sift_buffer.specs.Conduct.{Stray}
use Rattle.sift_ether.specs.Deeds.{strays_by}
use Rattle.sift_ether.specs.Seats.{Follows, Makes, chronicle_at}
use Rattle.sift_ether.specs.declared.seat.EtherSeat.{EtherSeat}

pub itself : (x : EtherSeat) → Follows x [] x
itself x = record { words = refl; grid = refl; unit = refl; table = refl; id = refl; more = []; deeds = refl; strays_are = refl }

pub further : (x y z : EtherSeat) (earlier later : List Stray) → Follows x earlier y → Follows y later z → Follows x (later ++ earlier) z
further x y z earlier later a b = record {
  words = b.words ∙ a.words;
  grid = b.grid ∙ a.grid;
  unit = b.unit ∙ a.unit;
  table = b.table ∙ a.table;
  id = b.id ∙ a.id;
  more = b.more ++ a.more;
  deeds = b.deeds ∙ (ap (λ deeds. b.more ++ deeds) a.deeds ∙ sym (append_assoc b.more a.more (chronicle_at x).deeds));
  strays_are = b.strays_are ∙ (ap (λ strays. later ++ strays) a.strays_are ∙ sym (append_assoc later earlier (strays_by (chronicle_at x))));
}

-- no step leads to itself
pub no_step : (x : EtherSeat) → Makes x 0 x
no_step x = sym (add-zero (length (chronicle_at x).deeds))

-- some steps and then others
pub more_steps : (x y z : EtherSeat) (m n : ℕ) → Makes x m y → Makes y n z → Makes x (m + n) z
more_steps x y z m n a b = b ∙ (ap (λ (k : ℕ). k + n) a ∙ add_assoc (length (chronicle_at x).deeds) m n)
