-- What a change of one unit's conduct, and of the shared words, has to show to keep the core sound.
use Rattle.std.proofs.Common.{◌≡◌, ◌≢◌, inl, inr, ℕ, ◌<◌, List, length, slice_index, slice_set, Option, Some, sym, ap, ◌∙◌, subst, arith}
use Rattle.std.specs.List.{Contains}
use Rattle.std.proofs.lemmas.List.{get_or-set_same, get_or-set_other}
use mathlib.Core.Logic.{dite}
use native.Mathlib.Decide.{ℕ_discrete}
use Rattle.sift_buffer.specs.Ranges.{Ranges, place}
use Rattle.sift_buffer.specs.Conduct.{Saying, Conduct, put, never, hearing, stray_to}
use Rattle.sift_buffer.specs.Core.{Core}
use Rattle.sift_buffer.specs.Lawful.{HasStage, IsLastSaid, silent, last, HasStamps}
use Rattle.sift_buffer.proofs.Places.{place_apart, place_low, place_high}
use Rattle.sift_buffer.proofs.Puts.{put_else, put_cases}
use Rattle.sift_buffer.proofs.Sound.{CellIs, GateIs, HeardIs, Sound}

-- the shared words show this number of each unit
abbrev pub Shows : Ranges → List ℕ → (ℕ → Conduct) → Type 0
Shows r ws of = (p : ℕ) → p < r.units → slice_index ws p ≡ (of p).progress

-- the shared words hold each unit's cells
abbrev pub Holds : Ranges → List ℕ → (ℕ → Conduct) → Type 0
Holds r ws of = (p q k : ℕ) → p < r.units → q < r.units → k < r.slots → CellIs (of p) q k (slice_index ws (place r p q k))

-- what one unit heard is from the others
abbrev pub Hears : Ranges → (ℕ → Conduct) → ℕ → Conduct → Type 0
Hears r of u d = (p f k s h : ℕ) (w : Option ℕ) → p < r.units → p ≢ u → k < r.slots → d.heard f k p ≡ Some (hearing s h w) → HeardIs (of p) u k s h w

-- what the change of unit u from its conduct in c to d has to show
pub record Change (r : Ranges) (c : Core) (u : ℕ) (d : Conduct) (ws : List ℕ) : Type 0 where
  pub wide : length ws ≡ length c.words
  pub shows : Shows r ws (put c.of u d)
  pub stage : HasStage d
  pub holds : Holds r ws (put c.of u d)
  pub stamps : HasStamps d
  pub looks : (p : ℕ) → p < r.units → p ≢ u → GateIs d (c.of p) (d.seen p)
  pub looked : (q : ℕ) → q < r.units → q ≢ u → GateIs (c.of q) (c.of u) ((c.of q).seen u) → GateIs (c.of q) d ((c.of q).seen u)
  pub hears : Hears r c.of u d
  pub heard : (q k s h : ℕ) (w : Option ℕ) → HeardIs (c.of u) q k s h w → HeardIs d q k s h w

module _ (r : Ranges) (c : Core) (u : ℕ) (d : Conduct) (ws : List ℕ) (hu : u < r.units) (it : Sound r c) where
  -- such a change keeps the core sound
  pub keep : Change r c u d ws → Sound r (record { words = ws; of = put c.of u d })
  keep ch = record {
    formed = record {
      wide = ch.wide ∙ it.formed.wide;
      number = ch.shows;
      stage = λ p hp. put_cases HasStage c.of u d p (λ _. ch.stage) (λ _. it.formed.stage p hp);
    };
    cell = ch.holds;
    stamps = λ p hp. put_cases HasStamps c.of u d p (λ _. ch.stamps) (λ _. it.stamps p hp);
    gate = λ q p hq hp ne.
        put_cases (λ (x : Conduct). GateIs x (put c.of u d p) (x.seen p)) c.of u d q
        (λ e. let ne' : p ≢ u = λ h. ne (h ∙ sym e) in rw (put_else c.of u d p ne') (ch.looks p hp ne'))
        (λ nq. put_cases (λ (x : Conduct). GateIs (c.of q) x ((c.of q).seen p)) c.of u d p
        (λ e. subst (λ (z : ℕ). GateIs (c.of q) d ((c.of q).seen z)) (sym e) (ch.looked q hq nq (it.gate q u hq hu (λ h. nq (sym h)))))
        (λ np. it.gate q p hq hp ne));
    heard = λ q p f k s h w hq hp ne hk.
        put_cases (λ (x : Conduct). x.heard f k p ≡ Some (hearing s h w) → HeardIs (put c.of u d p) q k s h w) c.of u d q
        (λ e at. let ne' : p ≢ u = λ h'. ne (h' ∙ sym e) in rw (put_else c.of u d p ne', e) (ch.hears p f k s h w hp ne' hk at))
        (λ nq at. put_cases (λ (x : Conduct). HeardIs x q k s h w) c.of u d p
        (λ e. ch.heard q k s h w (subst (λ (z : ℕ). HeardIs (c.of z) q k s h w) e (it.heard q p f k s h w hq hp ne hk at)))
        (λ np. it.heard q p f k s h w hq hp ne hk at));
  }

module _ (r : Ranges) (c : Core) (u : ℕ) (d : Conduct) (hu : u < r.units) (it : Sound r c) where
  -- words as they were, and the progress too
  pub same_shows : d.progress ≡ (c.of u).progress → Shows r c.words (put c.of u d)
  same_shows same p hp = put_cases (λ (x : Conduct). slice_index c.words p ≡ x.progress) c.of u d p
      (λ e. it.formed.number p hp ∙ (ap (λ (z : ℕ). (c.of z).progress) e ∙ sym same))
      (λ _. it.formed.number p hp)

  -- another progress, in the words too
  pub number_shows : (n : ℕ) → d.progress ≡ n → Shows r (slice_set c.words u n) (put c.of u d)
  number_shows n same p hp =
      let low : u < length c.words = rw it.formed.wide (omega arith) in
      put_cases (λ (x : Conduct). slice_index (slice_set c.words u n) p ≡ x.progress) c.of u d p
      (λ e. ap (slice_index (slice_set c.words u n)) e ∙ (get_or-set_same c.words u n 0 low ∙ sym same))
      (λ np. get_or-set_other c.words u p n 0 np ∙ it.formed.number p hp)

  -- another cell, and the progress as it was
  pub cell_shows : (q k n : ℕ) → d.progress ≡ (c.of u).progress → Shows r (slice_set c.words (place r u q k) n) (put c.of u d)
  cell_shows q k n same p hp = get_or-set_other c.words (place r u q k) p n 0 (λ e. place_high r u q k p hp (sym e)) ∙ same_shows same p hp

-- d says all that c says, and each cell of c that is a stray is one of d
pub record Covers (c d : Conduct) : Type 0 where
  pub said : d.said ≡ c.said
  pub strays : (q k x : ℕ) → c.left < never → (d.left < never) × (Contains c.strays (stray_to q k x) → Contains d.strays (stray_to q k x))

-- a conduct that has the same sayings covers another of the same stage and strays
pub said_last : (c d : Conduct) (q k x : ℕ) → d.said ≡ c.said → IsLastSaid c q k x → IsLastSaid d q k x
said_last c d q k x e (silent n z) = silent (λ f. ap (λ (g : ℕ → ℕ → ℕ → Option Saying). g f k q) e ∙ n f) z
said_last c d q k x e (last f s w at is top) = last f s w (ap (λ (g : ℕ → ℕ → ℕ → Option Saying). g f k q) e ∙ at) is
    (λ f' s' w' at'. top f' s' w' (sym (ap (λ (g : ℕ → ℕ → ℕ → Option Saying). g f' k q) e) ∙ at'))

-- and its cells
pub cell_covered : (c d : Conduct) (q k x : ℕ) → Covers c d → CellIs c q k x → CellIs d q k x
cell_covered c d q k x cover (inl i) = inl (said_last c d q k x cover.said i)
cell_covered c d q k x cover (inr t) = let more = cover.strays q k x t.0 in inr (more.0, more.1 t.1)

module _ (r : Ranges) (c : Core) (u : ℕ) (d : Conduct) (hu : u < r.units) (it : Sound r c) where
  -- cells as they were
  pub same_holds : Covers (c.of u) d → Holds r c.words (put c.of u d)
  same_holds cover p q k hp hq hk = put_cases (λ (x : Conduct). CellIs x q k (slice_index c.words (place r p q k))) c.of u d p
      (λ e. let x : ℕ = slice_index c.words (place r p q k) in
      cell_covered (c.of u) d q k x cover (subst (λ (z : ℕ). CellIs (c.of z) q k x) e (it.cell p q k hp hq hk)))
      (λ _. it.cell p q k hp hq hk)

  -- another progress leaves the cells
  pub number_holds : (n : ℕ) → Covers (c.of u) d → Holds r (slice_set c.words u n) (put c.of u d)
  number_holds n cover p q k hp hq hk = rw (get_or-set_other c.words u (place r p q k) n 0 (place_high r p q k u hu)) (same_holds cover p q k hp hq hk)

  -- another number in one own cell
  pub cell_holds : (q k n : ℕ) → q < r.units → k < r.slots → CellIs d q k n →
      ((q' k' x : ℕ) → ¬ ((q' ≡ q) × (k' ≡ k)) → CellIs (c.of u) q' k' x → CellIs d q' k' x) →
      Holds r (slice_set c.words (place r u q k) n) (put c.of u d)
  cell_holds q k n hq hk here there p q' k' hp hq' hk' =
      let i : ℕ = place r u q k in let ws : List ℕ = slice_set c.words i n in
      let low : i < length c.words = rw it.formed.wide (place_low r u q k hu hq hk) in
      let other : ¬ ((p ≡ u) × (q' ≡ q) × (k' ≡ k)) → slice_index ws (place r p q' k') ≡ slice_index c.words (place r p q' k') =
      λ ne. get_or-set_other c.words i (place r p q' k') n 0 (λ same. ne (place_apart r p q' k' u q k hq' hk' hq hk same)) in
      put_cases (λ (x : Conduct). CellIs x q' k' (slice_index ws (place r p q' k'))) c.of u d p
      (λ e. let old : CellIs (c.of u) q' k' (slice_index c.words (place r p q' k')) =
      subst (λ (z : ℕ). CellIs (c.of z) q' k' (slice_index c.words (place r p q' k'))) e (it.cell p q' k' hp hq' hk') in
      dite (ℕ_discrete q' q)
      (λ eq. dite (ℕ_discrete k' k)
      (λ ek. subst (λ (z : ℕ × ℕ × ℕ). CellIs d z.1 z.2 (slice_index ws (place r z.0 z.1 z.2))) (λ i. (sym e i, sym eq i, sym ek i))
      (rw (get_or-set_same c.words i n 0 low) here))
      (λ nk. rw (other (λ t. nk t.2)) (there q' k' _ (λ t. nk t.1) old)))
      (λ nq. rw (other (λ t. nq t.1)) (there q' k' _ (λ t. nq t.0) old)))
      (λ np. rw (other (λ t. np t.0)) (it.cell p q' k' hp hq' hk'))
