-- A stray that is stored, as an event of a rack.
use Rattle.std.proofs.Common.{◌≡◌, ℕ, ◌<◌, [], ◌∷◌, length, slice_index_or, ⊎_elim, List, sym, ap, ◌∙◌, subst, arith}
use Rattle.sift_base.specs.declared.slots.Layout.{Layout}
use Rattle.sift_config.specs.Config.{first_units}
use Rattle.sift_buffer.specs.Ranges.{Ranges, IsCell}
use Rattle.sift_buffer.specs.Conduct.{Conduct, Stray, never}
use Rattle.sift_buffer.specs.Lawful.{Lawful, HasStage}
use Rattle.sift_buffer.specs.Laws.{EventsKeepLawful}
use Rattle.sift_buffer.specs.Views.{View}
use Rattle.sift_mission.specs.Data.{FlownMission}
use Rattle.sift_unit.specs.Boards.{Drives}
use Rattle.sift_unit.specs.declared.board.Board.{Board}
use Rattle.sift_flight.specs.Flight.{Strays}
use Rattle.sift_buffer.specs.Crews.{with_strays}
use Rattle.sift_buffer.specs.Racks.{ranges_for, core_of, conduct_at, view_at}
use Rattle.sift_core.specs.Machines.{Flies, HasTurnedIn, StoresStray, board_at, layout_of}
use Rattle.sift_core.specs.declared.machine.Machine.{Machine}
use Rattle.sift_buffer.specs.declared.rack.Rack.{Rack}
use Rattle.sift_buffer.proofs.lemmas.StoredStrays.{same_ranges, same_view, stray_reaches}
use Rattle.sift_core.proofs.Others.{reached_lawful}

-- a unit whose number is that of one that has turned has left
pub has_left : (c : Conduct) → HasStage c → c.progress ≡ never → c.left < never
has_left c stage turned = ⊎_elim (λ f. absurd (let low = f.1 in omega arith)) (λ t. let low = t.0 in omega arith) stage

-- a machine flies on with a stray of a unit that has turned
pub stray_flies : EventsKeepLawful → (x x' : Machine) (u : ℕ) (s : Stray) → StoresStray u s x x' → u < (layout_of x).units → HasTurnedIn x u →
    IsCell (ranges_for x.rack) u s.to s.slot → (m : FlownMission) (w : Strays) → Flies m w x → Flies m (with_strays w u (s ∷ [])) x'
stray_flies keep x x' u s stored there turned cell m w flies =
    let a : Rack = x.rack in let b : Rack = x'.rack in let v : Strays = with_strays w u (s ∷ []) in
    let left : (conduct_at a u).left < never = has_left ((core_of a w).of u) (flies.lawful.formed.stage u there) turned in record {
      units = flies.units ∙ ap (λ (l : Layout). first_units l.units) (sym stored.rack.layout);
      lawful = subst (λ (r : Ranges). Lawful r (core_of b v)) (sym (same_ranges a u s b stored.rack))
          (reached_lawful keep (ranges_for a) u (core_of a w) (core_of b v) (stray_reaches a u s b stored.rack there left cell w) flies.lawful);
      count = ap length stored.boards ∙ (flies.count ∙ ap (λ (l : Layout). l.units) (sym stored.rack.layout));
      frames = stored.rack.frames ∙ flies.frames;
      drives = λ p e hp. subst (λ (bs : List Board). Drives m (slice_index_or bs p e) (view_at b p)) (sym stored.boards)
          (subst (λ (v : View). Drives m (board_at x e p) v) (sym (same_view a u s b stored.rack p))
          (flies.drives p e (subst (λ (l : Layout). p < l.units) stored.rack.layout hp)));
    }
