-- Seats are made, parted and joined with no event.
use Rattle.std.proofs.Common.{◌≡◌, ◌≢◌, inl, inr, ⊎_elim, ℕ, zero, suc, ◌+◌, ◌-◌, ◌<◌, ◌≤◌, ◌==◌, List, [], ◌∷◌, ◌++◌, length, replicate, slice_set, if◌then◌else◌, sym, refl, ap, ◌∙◌, subst, arith, eq-eqb, ne_eqb}
use mathlib.Core.Logic.{dite}
use mathlib.Core.Option.{some, some-ne-none, some-injective}
use native.Mathlib.Decide.{ℕ_discrete}
use lib.ListN.{get_elem?, length-set}
use Rattle.atomic_table.specs.Table.{State, Splits, Joins, Enters, opening, Final, Seen}
use Rattle.atomic_table.proofs.Lists.{at_set, at_last, set_here}
use Rattle.sift_buffer.specs.Ranges.{Ranges, shared_words}
use Rattle.sift_buffer.specs.Conduct.{put}
use Rattle.sift_buffer.specs.Lawful.{Lawful}
use Rattle.sift_buffer.specs.Laws.{FreshIsLawful, EventsKeepLawful}
use Rattle.sift_ether.specs.declared.rule.Chronicle.{Chronicle}
use Rattle.sift_ether.specs.Deeds.{blank, blanks_from, conduct_by}
use Rattle.sift_ether.specs.Rule.{HasUnit, LacksUnit, StandsFor, IsSeatedAt, HasStory, IsLawfulTable, IsPartOfLawfulCore}
use Rattle.sift_ether.specs.Stories.{part_of, core_after}
use Rattle.sift_ether.specs.TableSeats.{first_of, rest_of}
use Rattle.sift_ether.proofs.Puts.{put_here, put_else}
use Rattle.sift_ether.proofs.Stories.{told_lawful}
use Rattle.sift_ether.proofs.Seated.{at_snoc, at_low, seated_else, reseated, seated_longer, has_left, has_right, stands_moved, stands_for_both, stand_told}

-- ---- a new table

-- blank chronicles from w on lack each unit below w
blanks_lack : (u w n : ℕ) → u < w → LacksUnit u (blanks_from w n)
blanks_lack u w zero l = tt
blanks_lack u w (suc n) l = ((λ e. omega arith), blanks_lack u (w + 1) n (omega arith))

-- and have each of the n units from w on
blanks_have : (u w n : ℕ) → w ≤ u → u < w + n → HasUnit u (blanks_from w n)
blanks_have u w zero low high = absurd (omega arith)
blanks_have u w (suc n) low high = dite (ℕ_discrete w u) (λ e. inl e) (λ ne. inr (blanks_have u (w + 1) n (omega arith) (omega arith)))

-- they tell that nothing was done
blanks_stand : (w n : ℕ) → StandsFor (part_of []) (λ _. 0) 0 (blanks_from w n)
blanks_stand w zero = tt
blanks_stand w (suc n) = (refl, refl, blanks_lack w (w + 1) n (omega arith), blanks_stand (w + 1) n)

-- the next blank chronicle
pub next_blank : (unit units : ℕ) → unit < units → blanks_from unit (units - unit) ≡ blank unit ∷ blanks_from (unit + 1) (units - (unit + 1))
next_blank unit units low = let e : units - unit ≡ suc (units - (unit + 1)) = omega arith in ap (blanks_from unit) e

-- another view is appended, of a seat that stands for no unit
none_more : (part : ℕ → Chronicle) (seat_of : ℕ → ℕ) (views : List (List Chronicle)) →
    ((j : ℕ) (view : List Chronicle) → get_elem? views j ≡ some view → StandsFor part seat_of j view) →
    (j : ℕ) (view : List Chronicle) → get_elem? (views ++ [] ∷ []) j ≡ some view → StandsFor part seat_of j view
none_more part seat_of views stand j view e = ⊎_elim (λ at. stand j view at) (λ (t : ([] ≡ view) × (j ≡ length views)). subst (StandsFor part seat_of j) t.0 tt) (at_snoc views [] view j e)

module _ {S : Type 0} where
  -- a new table, of words that are 0 and one seat for all units, has a story in which nothing was done
  pub opens : (r : Ranges) (ws : List ℕ) (xs : List S) → ws ≡ replicate (shared_words r) 0 → HasStory r (opening ws xs (blanks_from 0 r.units))
  opens r ws xs e = record {
    story = [];
    seat_of = λ _. 0;
    happened = tt;
    words = e;
    seated = λ u low. record { view = blanks_from 0 r.units; there = refl; has = blanks_have u 0 r.units (omega arith) (omega arith) };
    views = only;
  }
    where
      only : (id : ℕ) (view : List Chronicle) → get_elem? (blanks_from 0 r.units ∷ []) id ≡ some view → StandsFor (part_of []) (λ _. 0) id view
      only zero view at = subst (StandsFor (part_of []) (λ _. 0) 0) (some-injective _ view at) (blanks_stand 0 r.units)
      only (suc id) view at = absurd (some-ne-none view (sym at))

  -- ---- a unit goes to a seat of its own

  module _ (r : Ranges) (s : State S (List Chronicle)) (h : HasStory r s) (id : ℕ) where
    -- nothing is parted off a seat that stands for no unit
    splits_none : get_elem? s.views id ≡ some [] → HasStory r (record { words = s.words; homes = s.homes; views = slice_set s.views id [] ++ [] ∷ [] })
    splits_none at = record {
      story = h.story;
      seat_of = h.seat_of;
      happened = h.happened;
      words = h.words;
      seated = λ u low. seated_longer (slice_set s.views id []) u (h.seat_of u) ([] ∷ []) (reseated s.views u id (h.seat_of u) [] [] at (λ has. has) (h.seated u low));
      views = none_more (part_of h.story) h.seat_of (slice_set s.views id []) (λ j view e. ⊎_elim
          (λ (t : (j ≡ id) × ([] ≡ view)). subst (StandsFor (part_of h.story) h.seat_of j) t.1 tt)
          (λ (t : (j ≢ id) × (get_elem? s.views j ≡ some view)). h.views j view t.1)
          (at_set s.views id j [] view e));
    }

    module _ (c : Chronicle) (cs : List Chronicle) (at : get_elem? s.views id ≡ some (c ∷ cs)) where
      -- the number of the new seat, and whose seat each unit then has
      abbrev new_id : ℕ
      new_id = length s.views

      abbrev seat_of' : ℕ → ℕ
      seat_of' = put h.seat_of c.unit new_id

      -- the seat stood for the first unit
      own : StandsFor (part_of h.story) h.seat_of id (c ∷ cs)
      own = h.views id (c ∷ cs) at

      id_low : id < new_id
      id_low = at_low s.views id (c ∷ cs) at

      abbrev views' : List (List Chronicle)
      views' = slice_set s.views id cs ++ (c ∷ []) ∷ []

      count : length (slice_set s.views id cs) ≡ new_id
      count = length-set s.views id cs

      -- the others keep their seats
      kept : (u : ℕ) → u ≢ c.unit → seat_of' u ≡ h.seat_of u
      kept u ne = put_else h.seat_of c.unit new_id u ne

      seated' : (u : ℕ) → u < r.units → IsSeatedAt views' (seat_of' u) u
      seated' u low = dite (ℕ_discrete u c.unit)
          (λ e. subst (λ (j : ℕ). IsSeatedAt views' j u) (sym (ap seat_of' e ∙ put_here h.seat_of c.unit new_id))
          (record { view = c ∷ []; there = at_last (slice_set s.views id cs) (c ∷ []) new_id count; has = inl (sym e) }))
          (λ ne. subst (λ (j : ℕ). IsSeatedAt views' j u) (sym (kept u ne)) (seated_longer (slice_set s.views id cs) u (h.seat_of u) ((c ∷ []) ∷ [])
          (reseated s.views u id (h.seat_of u) (c ∷ cs) cs at (λ has. ⊎_elim (λ e. absurd (ne (sym e))) (λ more. more) has) (h.seated u low))))

      -- the seat that gave the unit away
      rest_stands : StandsFor (part_of h.story) seat_of' id cs
      rest_stands = stands_moved (part_of h.story) h.seat_of seat_of' id id cs
          (λ u o. dite (ℕ_discrete u c.unit) (λ e. inl (subst (λ (z : ℕ). LacksUnit z cs) (sym e) own.2)) (λ ne. inr (kept u ne ∙ o))) own.3

      -- each other seat
      other_stands : (j : ℕ) (view : List Chronicle) → j ≢ id → get_elem? s.views j ≡ some view → StandsFor (part_of h.story) seat_of' j view
      other_stands j view ne there = stands_moved (part_of h.story) h.seat_of seat_of' j j view
          (λ u o. inr (kept u (λ e. ne (sym o ∙ (ap h.seat_of e ∙ own.1))) ∙ o)) (h.views j view there)

      splits_some : HasStory r (record { words = s.words; homes = s.homes; views = views' })
      splits_some = record {
        story = h.story;
        seat_of = seat_of';
        happened = h.happened;
        words = h.words;
        seated = seated';
        views = λ j view e. ⊎_elim
            (λ (t : get_elem? (slice_set s.views id cs) j ≡ some view). ⊎_elim
            (λ (t' : (j ≡ id) × (cs ≡ view)). subst (λ (x : ℕ × List Chronicle). StandsFor (part_of h.story) seat_of' x.0 x.1) (λ i. (sym t'.0 i, t'.1 i)) rest_stands)
            (λ (t' : (j ≢ id) × (get_elem? s.views j ≡ some view)). other_stands j view t'.0 t'.1)
            (at_set s.views id j cs view t))
            (λ (t : (c ∷ [] ≡ view) × (j ≡ length (slice_set s.views id cs))).
            subst (λ (x : ℕ × List Chronicle). StandsFor (part_of h.story) seat_of' x.0 x.1) (λ i. (sym (t.1 ∙ count) i, t.0 i)) (own.0, put_here h.seat_of c.unit new_id, tt, tt))
            (at_snoc (slice_set s.views id cs) (c ∷ []) view j e);
      }

  splits_at : (r : Ranges) (s : State S (List Chronicle)) (h : HasStory r s) (id : ℕ) (view : List Chronicle) → get_elem? s.views id ≡ some view →
      HasStory r (record { words = s.words; homes = s.homes; views = slice_set s.views id (rest_of view) ++ first_of view ∷ [] })
  splits_at r s h id [] at = splits_none r s h id at
  splits_at r s h id (c ∷ cs) at = splits_some r s h id c cs at

  -- the first unit goes to a new seat
  pub splits : (r : Ranges) (id : ℕ) (view : List Chronicle) → Splits {S = S} (HasStory r) id view (rest_of view) (first_of view)
  splits r id view s h at = splits_at r s h id view at

  -- ---- the units of two seats go to the first

  module _ (r : Ranges) (s : State S (List Chronicle)) (h : HasStory r s) (id other : ℕ) (view view' : List Chronicle) (at : get_elem? s.views id ≡ some view) (ne : other ≢ id)
      (there : get_elem? s.views other ≡ some view') where
    abbrev joined : List (List Chronicle)
    joined = slice_set s.views id (view ++ view')

    -- whose seat each unit then has
    abbrev seat_by : ℕ → ℕ
    seat_by u = if h.seat_of u == other then id else h.seat_of u

    taken_in : (u : ℕ) → h.seat_of u ≡ other → seat_by u ≡ id
    taken_in u e = rw (eq-eqb (h.seat_of u) other e) refl

    stays : (u : ℕ) → h.seat_of u ≢ other → seat_by u ≡ h.seat_of u
    stays u ne' = rw (ne_eqb (h.seat_of u) other ne') refl

    -- the other seat's units stand at the first
    moved_in : (u : ℕ) → h.seat_of u ≡ other → IsSeatedAt s.views (h.seat_of u) u → IsSeatedAt joined id u
    moved_in u e old = record {
      view = view ++ view';
      there = set_here s.views id (view ++ view') (at_low s.views id view at);
      has = has_right u view view' (subst (HasUnit u) (sym (some-injective view' old.view (sym there ∙ (ap (get_elem? s.views) (sym e) ∙ old.there)))) old.has);
    }

    seated_by : (u : ℕ) → u < r.units → IsSeatedAt (slice_set joined other []) (seat_by u) u
    seated_by u low = dite (ℕ_discrete (h.seat_of u) other)
        (λ e. subst (λ (j : ℕ). IsSeatedAt (slice_set joined other []) j u) (sym (taken_in u e))
        (seated_else joined u other id [] (λ e'. ne (sym e')) (moved_in u e (h.seated u low))))
        (λ ne'. subst (λ (j : ℕ). IsSeatedAt (slice_set joined other []) j u) (sym (stays u ne'))
        (seated_else joined u other (h.seat_of u) [] ne' (reseated s.views u id (h.seat_of u) view (view ++ view') at (has_left u view view') (h.seated u low))))

    both_stand : StandsFor (part_of h.story) seat_by id (view ++ view')
    both_stand = stands_for_both (part_of h.story) h.seat_of seat_by id other view view' ne (λ u o. stays u (λ w. ne (sym w ∙ o)) ∙ o) taken_in (h.views id view at) (h.views other view' there)

    joins_both : HasStory r (record { words = s.words; homes = s.homes; views = slice_set joined other [] })
    joins_both = record {
      story = h.story;
      seat_of = seat_by;
      happened = h.happened;
      words = h.words;
      seated = seated_by;
      views = λ j seen e. ⊎_elim
          (λ (t : (j ≡ other) × ([] ≡ seen)). subst (StandsFor (part_of h.story) seat_by j) t.1 tt)
          (λ (t : (j ≢ other) × (get_elem? joined j ≡ some seen)). ⊎_elim
          (λ (t' : (j ≡ id) × (view ++ view' ≡ seen)). subst (λ (x : ℕ × List Chronicle). StandsFor (part_of h.story) seat_by x.0 x.1) (λ i. (sym t'.0 i, t'.1 i)) both_stand)
          (λ (t' : (j ≢ id) × (get_elem? s.views j ≡ some seen)).
          stands_moved (part_of h.story) h.seat_of seat_by j j seen (λ u o. inr (stays u (λ w. t.0 (sym o ∙ w)) ∙ o)) (h.views j seen t'.1))
          (at_set s.views id j (view ++ view') seen t.1))
          (at_set joined other j [] seen e);
    }

  -- a table in which a seat takes in another's chronicles has a story still, and the other stands for no unit then
  pub joins : (r : Ranges) (id : ℕ) (view : List Chronicle) (other : ℕ) (view' : List Chronicle) → Joins {S = S} (HasStory r) id view other view' (view ++ view') []
  joins r id view other view' s h at ne at' = joins_both r s h id other view view' at ne
      (⊎_elim (λ (t : (other ≡ id) × (view ++ view' ≡ view')). absurd (ne t.0)) (λ (t : (other ≢ id) × (get_elem? s.views other ≡ some view')). t.1)
      (at_set s.views id other (view ++ view') view' at'))

  -- ---- a new seat comes, which stands for no unit

  -- a table to which a seat comes that stands for no unit has a story still
  pub arrives : (r : Ranges) (slots i : ℕ) → Enters {S = S} (HasStory r) slots i (λ _ view. view ≡ [])
  arrives r slots i s h _ _ = (
    [],
    (record {
      story = h.story;
      seat_of = h.seat_of;
      happened = h.happened;
      words = h.words;
      seated = λ u low. seated_longer s.views u (h.seat_of u) ([] ∷ []) (h.seated u low);
      views = none_more (part_of h.story) h.seat_of s.views h.views;
    }),
    refl,
  )

  -- ---- the end

  -- what a seat of the ended table knows is part of a lawful core
  pub lands : FreshIsLawful → EventsKeepLawful → (r : Ranges) (id : ℕ) (view : List Chronicle) (ws : List ℕ) (xs : List S) →
      Final (Seen (HasStory r) id view) ws xs → IsPartOfLawfulCore r view
  lands fresh keep r id view ws xs f = let h = f.1.0 in record {
    core = record { words = (core_after r h.story).words; of = λ u. conduct_by (part_of h.story u) };
    lawful = told_lawful fresh keep r h.story h.happened;
    tell = stand_told (part_of h.story) h.seat_of id view (h.views id view f.1.1);
  }

  -- between steps the words and the units' conduct are a lawful core
  pub story_lawful : FreshIsLawful → EventsKeepLawful → (r : Ranges) (s : State S (List Chronicle)) → HasStory r s → IsLawfulTable r s
  story_lawful fresh keep r s h = record {
    of = λ u. conduct_by (part_of h.story u);
    lawful = subst (λ (ws : List ℕ). Lawful r (record { words = ws; of = λ u. conduct_by (part_of h.story u) })) (sym h.words)
        (told_lawful fresh keep r h.story h.happened);
    seated = λ u low. (h.seat_of u, h.seated u low);
    tell = λ id view at. stand_told (part_of h.story) h.seat_of id view (h.views id view at);
  }
