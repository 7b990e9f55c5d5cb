-- Units that take their seats one after the other.
use Rattle.std.proofs.Common.{◌≡◌, ℕ, zero, suc, ◌+◌, ◌<◌, List, [], ◌∷◌, ◌++◌, Vec, length, length-append, drop, slice_index_or, refl, sym, ap, ◌∙◌, subst, arith}
use Rattle.std.specs.List.{All}
use Rattle.std.specs.declared.alloc.Global.{Global}
use Rattle.std.proofs.lemmas.List.{get_or_append_left, map-append}
use Rattle.std.proofs.Math.Seq.{get_or-append_seam}
use mathlib.Core.Logic.{dite}
use native.Mathlib.Decide.{ℕ_discrete}
use Rattle.sift_base.specs.declared.slots.Layout.{Layout}
use Rattle.sift_buffer.specs.Conduct.{fresh as fresh_conduct}
use Rattle.sift_buffer.specs.Tables.{ranges_of}
use Rattle.sift_buffer.specs.Views.{View, fresh_view}
use Rattle.sift_config.specs.laws.FirstUnits.{unit_low, low_unit}
use Rattle.sift_ether.specs.Seating.{IsTokenBack}
use Rattle.sift_ether.specs.Seats.{view_of}
use Rattle.sift_ether.specs.Tokens.{IsMade}
use Rattle.sift_ether.specs.declared.ether.Ether.{Ether}
use Rattle.sift_ether.specs.declared.seat.EtherSeat.{EtherSeat}
use Rattle.sift_ether.specs.declared.seat.Token.{Token}
use Rattle.sift_mission.specs.Parts.{data_of, flown_of}
use Rattle.sift_mission.specs.PartsFit.{PartsFit}
use Rattle.sift_mission.specs.declared.mission.MissionParts.{MissionParts}
use Rattle.sift_conduct.specs.declared.account.Account.{Account}
use Rattle.sift_unit.specs.Boards.{Drives, IsPortOf, NewBoardLaw}
use Rattle.sift_unit.specs.Keeping.{IsFresh}
use Rattle.sift_seat.specs.Seats.{IsNewSeat, AreNewSeats, IsManned}
use Rattle.sift_seat.specs.declared.seat.Seat.{Seat}
use Rattle.sift_threads.specs.Crews.{IsSeated, AreSeated, AreLeftOf}
use Rattle.sift_threads.specs.Manned.{IsDriven}
use Rattle.sift_threads.specs.declared.seating.Manned.{Manned}
use Rattle.sift_threads.proofs.Landing.{some_item}
use Rattle.sift_threads.proofs.Homing.{none_some}

-- where a list from a place on has a first item, that is the item at the place, and the others are the list from the next place on
pub record IsNext {A : Type 0} (xs : List A) (n : ℕ) (x : A) (rest : List A) : Type 0 where
  pub low : n < length xs
  pub here : (d : A) → slice_index_or xs n d ≡ x
  pub rest_is : rest ≡ drop (n + 1) xs

-- a list that from a place on has a first item and others has it at the place, and the others from the next place on
pub is_next : {A : Type 0} (xs : List A) (n : ℕ) (x : A) (rest : List A) → drop n xs ≡ x ∷ rest → IsNext xs n x rest
is_next [] zero x rest e = absurd cc
is_next [] (suc n) x rest e = absurd cc
is_next (y ∷ ys) zero x rest e = record { low = omega arith; here = λ d. (let h : y ≡ x = cc in h); rest_is = (let h : ys ≡ rest = cc in sym h) }
is_next (y ∷ ys) (suc n) x rest e = let later = is_next ys n x rest e in record {
  low = (let l = later.low in omega arith);
  here = later.here;
  rest_is = subst (λ (k : ℕ). rest ≡ drop k (y ∷ ys)) (let e : suc (n + 1) ≡ suc n + 1 = omega arith in e) later.rest_is;
}

-- one unit more
pub seated_push : {R : Type 0} (parts : MissionParts) (e : Ether) (tokens : List Token) (seats : List Seat) (rogues : List R) (n : ℕ)
    (places : List (Manned EtherSeat R)) (x : Manned EtherSeat R) (t : Token) (s : Seat) (r : R) → AreSeated parts e tokens seats rogues n places →
    ((d : Token) → slice_index_or tokens n d ≡ t) → ((d : Seat) → slice_index_or seats n d ≡ s) → ((d : R) → slice_index_or rogues n d ≡ r) →
    IsSeated parts e t s r x → AreSeated parts e tokens seats rogues (n + 1) (places ++ x ∷ [])
seated_push {R} parts e tokens seats rogues n places x t s r before at_t at_s at_r new = record {
  count = length-append places (x ∷ []) ∙ ap (λ (i : ℕ). i + 1) before.count;
  each = λ p dt ds dr dx low. dite (ℕ_discrete p n)
      (λ same. subst (λ (z : Manned EtherSeat R). IsSeated parts e (slice_index_or tokens p dt) (slice_index_or seats p ds) (slice_index_or rogues p dr) z)
      (sym (ap (λ (i : ℕ). slice_index_or (places ++ x ∷ []) i dx) (same ∙ sym before.count) ∙ get_or-append_seam places x [] dx))
      (subst (λ (i : ℕ). IsSeated parts e (slice_index_or tokens i dt) (slice_index_or seats i ds) (slice_index_or rogues i dr) x) (sym same)
      (last dt ds dr)))
      (λ ne. subst (λ (z : Manned EtherSeat R). IsSeated parts e (slice_index_or tokens p dt) (slice_index_or seats p ds) (slice_index_or rogues p dr) z)
      (sym (get_or_append_left places (x ∷ []) dx p (let c = before.count in omega arith)))
      (before.each p dt ds dr dx (omega arith)));
}
  where
    last : (dt : Token) (ds : Seat) (dr : R) → IsSeated parts e (slice_index_or tokens n dt) (slice_index_or seats n ds) (slice_index_or rogues n dr) x
    last dt ds dr = subst (λ (z : Token). IsSeated parts e z (slice_index_or seats n ds) (slice_index_or rogues n dr) x) (sym (at_t dt))
        (subst (λ (z : Seat). IsSeated parts e t z (slice_index_or rogues n dr) x) (sym (at_s ds))
        (subst (λ (z : R). IsSeated parts e t s z x) (sym (at_r dr)) new))

-- ---- before the flight

-- each unit at a new seat has all that a step wants
module _ {R : Type 0} (parts : MissionParts) (fit : PartsFit (data_of parts)) (law : NewBoardLaw) (e : Ether) (tokens : List Token) (seats : List Seat)
    (rogues : List R) (made : IsMade e tokens parts.layout parts.frames) (new : AreNewSeats (flown_of parts) parts.units seats) where
  module _ (u : ℕ) (low : u < parts.units) (t : Token) (s : Seat) (r : R) (x : Manned EtherSeat R)
      (sits : IsSeated parts e (slice_index_or tokens u t) (slice_index_or seats u s) r x) where
    view_is : view_of x.port ≡ fresh_view (ranges_of parts.layout parts.frames) u
    view_is = sits.port.view ∙ made.new u t (rw fit.layout.units low)

    seat_new : IsNewSeat (flown_of parts) u x.seat
    seat_new = subst (λ (z : Seat). IsNewSeat (flown_of parts) u z) (sym sits.seat) (new.new u s low)

    port_fits : IsPortOf (flown_of parts) (ranges_of parts.layout parts.frames)
    port_fits = record { units = λ v there. rw fit.layout.units (unit_low parts.units v there); slots = omega arith; frames = omega arith }

    untouched : IsFresh fresh_conduct
    untouched = record { progress = refl; left = refl; said = λ f k q. refl; heard = λ f k p. refl }

    drives : Drives (flown_of parts) x.seat.board (view_of x.port)
    drives = law (flown_of parts) u x.seat.board (view_of x.port) (low_unit parts.units u low) seat_new.board
        (ap (λ (v : View). v.unit) view_is)
        (subst (λ (v : View). IsPortOf (flown_of parts) v.ranges) (sym view_is) port_fits)
        (subst (λ (v : View). IsFresh v.conduct) (sym view_is) untouched)

    manned : IsManned (data_of parts) (view_of x.port) x.seat
    manned = record {
      drives = drives;
      ranges = ap (λ (v : View). v.ranges) view_is;
      flies = λ none. record {
        flies = ap (λ (v : View). v.conduct.left) view_is;
        low = (let zero = ap (λ (v : View). v.conduct.progress) view_is in omega arith);
      };
      strays = λ left some. absurd (none_some seat_new.left some);
    }

    pub one_driven : IsDriven view_of x
    one_driven = subst (λ (p : MissionParts). IsManned (data_of p) (view_of x.port) x.seat) (sym sits.mission) manned

  -- all units that just took a seat, each a new one, have what a step wants and keeps
  pub all_driven : (places : List (Manned EtherSeat R)) → AreSeated parts e tokens seats rogues parts.units places → All (IsDriven view_of) places
  all_driven places seated u x low =
      let at : u < parts.units = rw (sym seated.count) low in
      let t : Token = some_item tokens u (let c = made.all.count in let l = ap (λ (g : Layout). g.units) made.layout_is in let f = fit.layout.units in omega arith) in
      let s : Seat = some_item seats u (let c = new.count in omega arith) in
      let y : Manned EtherSeat R = slice_index_or places u x in
      one_driven u at t s (slice_index_or rogues u y.rogue) y (seated.each u t s y.rogue x at)

-- ---- after the flight

-- what is left of one unit more
pub left_push : {R : Type 0} (places : List (Manned EtherSeat R)) (x : Manned EtherSeat R) (tokens : List Token) (t : Token)
    (lists : List (Vec Account Global)) (list : Vec Account Global) (rogues : List R) (r : R) → AreLeftOf places tokens lists rogues →
    IsTokenBack x.port t → list ≡ x.seat.board.accounts → r ≡ x.rogue →
    AreLeftOf (places ++ x ∷ []) (tokens ++ t ∷ []) (lists ++ list ∷ []) (rogues ++ r ∷ [])
left_push {R} places x tokens t lists list rogues r before back accounts rogue = record {
  count = length-append tokens (t ∷ []) ∙ (ap (λ (i : ℕ). i + 1) before.count ∙ sym (length-append places (x ∷ [])));
  back = λ u dx dt low. dite (ℕ_discrete u (length places))
      (λ same. subst (λ (p : Manned EtherSeat R × Token). IsTokenBack p.0.port p.1) (λ i. (sym (seam_seat u dx same) i, sym (seam_token u dt same) i)) back)
      (λ ne. let under : u < length places = (let all = length-append places (x ∷ []) in omega arith) in
      subst (λ (p : Manned EtherSeat R × Token). IsTokenBack p.0.port p.1)
      (λ i. (sym (get_or_append_left places (x ∷ []) dx u under) i, sym (get_or_append_left tokens (t ∷ []) dt u (let c = before.count in omega arith)) i))
      (before.back u dx dt under));
  accounts_are = (λ i. before.accounts_are i ++ accounts i ∷ []) ∙ sym (map-append (λ (s : Manned EtherSeat R). s.seat.board.accounts) places (x ∷ []));
  rogues_are = (λ i. before.rogues_are i ++ rogue i ∷ []) ∙ sym (map-append (λ (s : Manned EtherSeat R). s.rogue) places (x ∷ []));
}
  where
    seam_seat : (u : ℕ) (dx : Manned EtherSeat R) → u ≡ length places → slice_index_or (places ++ x ∷ []) u dx ≡ x
    seam_seat u dx same = ap (λ (i : ℕ). slice_index_or (places ++ x ∷ []) i dx) same ∙ get_or-append_seam places x [] dx

    seam_token : (u : ℕ) (dt : Token) → u ≡ length places → slice_index_or (tokens ++ t ∷ []) u dt ≡ t
    seam_token u dt same = ap (λ (i : ℕ). slice_index_or (tokens ++ t ∷ []) i dt) (same ∙ sym before.count) ∙ get_or-append_seam tokens t [] dt
