-- A seat after one deed of its unit.
use Rattle.std.proofs.Common.{◌≡◌, ℕ, suc, ◌+◌, List, [], ◌∷◌, ◌++◌, length, sym, ap, ◌∙◌, arith}
use Rattle.atomic_table.specs.Table.{Me}
use Rattle.sift_buffer.specs.Conduct.{Stray}
use Rattle.sift_buffer.specs.Ranges.{Ranges}
use Rattle.sift_ether.specs.declared.rule.Chronicle.{Chronicle}
use Rattle.sift_ether.specs.declared.rule.Deed.{Deed}
use Rattle.sift_ether.specs.declared.seat.EtherSeat.{EtherSeat}
use Rattle.sift_ether.specs.declared.steps.Reach.{Reach}
use Rattle.sift_ether.specs.Deeds.{chronicle_with, conduct_after, looks_in, last_in, strays_by, view_by}
use Rattle.sift_ether.specs.Seats.{Follows, chronicle_at}
use Rattle.sift_ether.specs.TableSeats.{HasDone, IsOne, chronicle_of, ranges_at}

-- it follows the seat before, with the stray of this deed, if it is one
pub follows_one : (a b : EtherSeat) (e : Deed) (strays : List Stray) → b.reach.words ≡ a.reach.words →
    (b.reach.seat.table_id ≡ a.reach.seat.table_id) × (b.reach.seat.id ≡ a.reach.seat.id) → HasDone a.reach.seat.me e b.reach.seat.me → b.grid ≡ a.grid → b.unit ≡ a.unit →
    (conduct_after (e ∷ (chronicle_at a).deeds)).strays ≡ strays ++ strays_by (chronicle_at a) → Follows a strays b
follows_one a b e strays words seat done grid unit same = record {
  words = words;
  grid = grid;
  unit = unit;
  table = seat.0;
  id = seat.1;
  more = e ∷ [];
  deeds = done.deeds;
  strays_are = ap (λ deeds. (conduct_after deeds).strays) done.deeds ∙ same;
}

module _ (me : Me ℕ (List Chronicle)) (me' : Me ℕ (List Chronicle)) where
  -- the chronicle has a deed more, at some place
  pub has_done : (deed told : ℕ → Deed) (n : ℕ) → deed ≡ told → (place : ℕ) × (me' ≡ (chronicle_with (chronicle_of me) place (deed n) ∷ [], [])) → HasDone me (told n) me'
  has_done deed told n same x = record {
    sits = x.1 ∙ (λ i. (chronicle_of (sym x.1 i) ∷ [], []));
    unit = ap (λ m. (chronicle_of m).unit) x.1;
    deeds = ap (λ m. (chronicle_of m).deeds) x.1 ∙ (λ i. same i n ∷ (chronicle_of me).deeds);
  }

  -- it is one still
  pub still_one : (r : Ranges) (e : Deed) → IsOne r me → HasDone me e me' → IsOne r me'
  still_one r e one done = record { sits = done.sits; here = rw done.unit one.here }

  -- by one step
  pub one_step : (e : Deed) → HasDone me e me' → length (chronicle_of me').deeds ≡ length (chronicle_of me).deeds + 1
  one_step e done = ap (λ (deeds : List Deed). length deeds) done.deeds ∙ (let same : suc (length (chronicle_of me).deeds) ≡ length (chronicle_of me).deeds + 1 = omega arith in same)

-- and the unit as a port is that after this deed
pub view_more : (a : EtherSeat) (b : Reach) (e : Deed) → b.words ≡ a.reach.words → HasDone a.reach.seat.me e b.seat.me →
    view_by (ranges_at b.words.now.key) (chronicle_of b.seat.me) ≡ view_by (ranges_at a.reach.words.now.key) (record (chronicle_at a) { deeds = e ∷ (chronicle_at a).deeds })
view_more a b e words done i = record {
  ranges = ranges_at (words i).now.key;
  unit = done.unit i;
  conduct = conduct_after (done.deeds i);
  looks = looks_in (done.deeds i);
  last = last_in (done.deeds i);
}
