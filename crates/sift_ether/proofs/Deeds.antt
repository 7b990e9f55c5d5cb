-- Each deed of a seat that stands for one unit is one more of its table's story.
use Rattle.std.proofs.Common.{◌≡◌, ◌≢◌, ⊎_elim, inl, ℕ, ◌+◌, ◌<◌, List, [], ◌∷◌, length, slice_index, slice_set, sym, refl, ap, ◌∙◌, subst}
use Rattle.std.proofs.lemmas.List.{set-get_or}
use mathlib.Core.Option.{some}
use mathlib.Core.Option as maybe
use lib.ListN.{get_elem?}
use Rattle.atomic_table.specs.Table.{State, Me, keeps, Allows}
use Rattle.atomic_table.proofs.Lists.{at_set}
use Rattle.sift_buffer.specs.Cell.{taken, IsWord}
use Rattle.sift_buffer.specs.Ranges.{Ranges}
use Rattle.sift_buffer.specs.Conduct.{Conduct}
use Rattle.sift_buffer.specs.Conditions.{MayHear, MaySay, MayEnter, MayTurn, MayStray, PassesGate}
use Rattle.sift_buffer.specs.Core.{Core, after, Allowed}
use Rattle.sift_ether.specs.declared.rule.Chronicle.{Chronicle}
use Rattle.sift_ether.specs.declared.rule.Deed.{Deed}
use Rattle.sift_ether.specs.Deeds.{conduct_by, chronicle_with}
use Rattle.sift_ether.specs.declared.steps.Call.{Call}
use Rattle.sift_ether.specs.declared.steps.Call.TheVariants.{Look, Hear, Say, Enter, Turn, Stray}
use Rattle.sift_ether.specs.Steps.{MayLoad, MayStore, deed_of}
use Rattle.sift_ether.specs.Stories.{Doing, FindsThere, core_after, event_by, part_of}
use Rattle.sift_ether.specs.Rule.{StandsFor, HasStory}
use Rattle.sift_ether.specs.TableSeats.{AddsDeed}
use Rattle.sift_ether.proofs.Stories.{part_more, part_else, told_conduct}
use Rattle.sift_ether.proofs.Seated.{reseated, stands_beside}

-- the unit of this chronicle may do this deed at a core, finds there what the deed tells, and leaves these words
abbrev Does : Ranges → Chronicle → Core → List ℕ → Deed → Type 0
Does r c core words e = Allowed r core (event_by c.unit e) × FindsThere r core.words c.unit e × (words ≡ (after r core (event_by c.unit e)).words)

-- the first chronicle, or c where there is none
abbrev first_or : Chronicle → List Chronicle → Chronicle
first_or c [] = c
first_or c (d ∷ ds) = d

module _ {S : Type 0} where
  module _ (r : Ranges) (s : State S (List Chronicle)) (h : HasStory r s) (id : ℕ) (c : Chronicle) (at : get_elem? s.views id ≡ some (c ∷ [])) where
    -- the seat stands for the unit
    mine : StandsFor (part_of h.story) h.seat_of id (c ∷ [])
    mine = h.views id (c ∷ []) at

    -- the unit's conduct is what its chronicle tells
    own : (core_after r h.story).of c.unit ≡ conduct_by c
    own = told_conduct r h.story h.happened c.unit ∙ ap conduct_by mine.0

    -- its chronicle, after a deed
    abbrev next : Deed → Chronicle
    next e = chronicle_with c (length h.story) e

    -- the rule after a deed of the unit
    keeps_rule : (e : Deed) (ws : List ℕ) (homes : List (maybe.Option S)) → Does r c (core_after r h.story) ws e →
        HasStory r (record { words = ws; homes = homes; views = slice_set s.views id (next e ∷ []) })
    keeps_rule e ws homes does =
        let story : List Doing = record { unit = c.unit; deed = e } ∷ h.story in record {
          story = story;
          seat_of = h.seat_of;
          happened = (does.0, does.1, h.happened);
          words = does.2;
          seated = λ u low. reseated s.views u id (h.seat_of u) (c ∷ []) (next e ∷ []) at (λ has. has) (h.seated u low);
          views = λ j view at'. ⊎_elim
              (λ (t : (j ≡ id) × (next e ∷ [] ≡ view)). subst (λ (x : ℕ × List Chronicle). StandsFor (part_of story) h.seat_of x.0 x.1) (λ i. (sym t.0 i, t.1 i))
              (part_more h.story c.unit e ∙ ap (λ (d : Chronicle). chronicle_with d (length h.story) e) mine.0, mine.1, tt, tt))
              (λ (t : (j ≢ id) × (get_elem? s.views j ≡ some view)).
              stands_beside (part_of h.story) (part_of story) h.seat_of c.unit j view (part_else h.story c.unit e) (λ z. t.0 (sym z ∙ mine.1)) (h.views j view t.1))
              (at_set s.views id j (next e ∷ []) view at');
        }

  -- a step adds the deed that it is to add
  adds : (deed : ℕ → Deed) (c : Chronicle) (place n : ℕ) → AddsDeed {S = S} deed (c ∷ [], []) n (chronicle_with c place (deed n) ∷ [], [])
  adds deed c place n c' e = (place, ap (λ (m : Me S (List Chronicle)). (chronicle_with (first_or c m.0) place (deed n) ∷ [], [])) e)

  module _ (r : Ranges) (slots id i : ℕ) (me : Me S (List Chronicle)) (c : Chronicle) (deed : ℕ → Deed) (is : me ≡ (c ∷ [], [])) where
    -- a load, by which the words stay as they are
    loads : ((core : Core) → core.of c.unit ≡ conduct_by c → Does r c core core.words (deed (slice_index core.words i))) →
        Allows (HasStory r) slots id me i (λ n. n) (AddsDeed deed me)
    loads does = subst (λ (m : Me S (List Chronicle)). Allows (HasStory r) slots id m i (λ n. n) (AddsDeed deed m)) (sym is)
        (λ s h _ at low. let n : ℕ = slice_index s.words i in let core : Core = core_after r h.story in (
          next r s h id c at (deed n) ∷ [],
          keeps,
          tt,
          keeps_rule r s h id c at (deed n) (slice_set s.words i n) s.homes
              (subst (λ (ws : List ℕ). Does r c core (slice_set ws i (slice_index ws i)) (deed (slice_index ws i))) (sym h.words)
              (subst (λ (ws : List ℕ). Does r c core ws (deed (slice_index core.words i))) (sym (set-get_or core.words i 0))
              (does core (own r s h id c at)))),
          adds deed c (length h.story) n,
        ))

    -- a store of n
    stores : (n : ℕ) → ((core : Core) → core.of c.unit ≡ conduct_by c → Does r c core (slice_set core.words i n) (deed n)) →
        Allows (HasStory r) slots id me i (λ _. n) (λ _. AddsDeed deed me n)
    stores n does = subst (λ (m : Me S (List Chronicle)). Allows (HasStory r) slots id m i (λ _. n) (λ _. AddsDeed deed m n)) (sym is)
        (λ s h _ at low. let core : Core = core_after r h.story in (
          next r s h id c at (deed n) ∷ [],
          keeps,
          tt,
          keeps_rule r s h id c at (deed n) (slice_set s.words i n) s.homes
              (subst (λ (ws : List ℕ). Does r c core (slice_set ws i n) (deed n)) (sym h.words) (does core (own r s h id c at))),
          adds deed c (length h.story) n,
        ))

    module _ (here : c.unit < r.units) where
      -- a load by which the unit may make the call
      pub may_load : (call : Call) → deed ≡ deed_of call → MayLoad r c i call → Allows (HasStory r) slots id me i (λ n. n) (AddsDeed deed me)
      may_load call told may = loads (λ core mine.
          subst (λ (e : ℕ → Deed). Does r c core core.words (e (slice_index core.words i))) (sym told) (by core mine call may))
        where
          by : (core : Core) → core.of c.unit ≡ conduct_by c → (call : Call) → MayLoad r c i call → Does r c core core.words (deed_of call (slice_index core.words i))
          by core mine (Look p) may = ((here, (may.1, may.2)), ap (slice_index core.words) may.0, refl)
          by core mine (Hear f k p s) may = (
            (here, subst (λ (d : Conduct). MayHear r d c.unit p k f s) (sym mine) may.1),
            ap (λ (j : ℕ). taken (slice_index core.words j) s) may.0,
            refl,
          )
          by core mine (Say f k q s w) may = absurd may
          by core mine Enter may = absurd may
          by core mine Turn may = absurd may
          by core mine (Stray q k) may = absurd may

      -- a store by which the unit may make the call
      pub may_store : (n : ℕ) (call : Call) → deed ≡ deed_of call → MayStore r c i n call → Allows (HasStory r) slots id me i (λ _. n) (λ _. AddsDeed deed me n)
      may_store n call told may = stores n (λ core mine.
          subst (λ (e : ℕ → Deed). Does r c core (slice_set core.words i n) (e n)) (sym told) (by core mine call may))
        where
          by : (core : Core) → core.of c.unit ≡ conduct_by c → (call : Call) → MayStore r c i n call → Does r c core (slice_set core.words i n) (deed_of call n)
          by core mine (Look p) may = absurd may
          by core mine (Hear f k p s) may = absurd may
          by core mine (Say f k q s w) may = (
            (here, subst (λ (d : Conduct). MaySay r d c.unit q k f s × IsWord w) (sym mine) (may.2, may.3)),
            tt,
            (λ j. slice_set core.words (may.0 j) (may.1 j)),
          )
          by core mine Enter may = (
            (here, subst (λ (d : Conduct). MayEnter d × PassesGate r d c.unit) (sym mine) (may.2, may.3)),
            tt,
            (λ j. slice_set core.words (may.0 j) ((may.1 ∙ ap (λ (d : Conduct). d.progress + 1) (sym mine)) j)),
          )
          by core mine Turn may = (
            (here, subst (λ (d : Conduct). MayTurn d × (0 < d.progress → PassesGate r d c.unit)) (sym mine) (may.2, may.3)),
            tt,
            (λ j. slice_set core.words (may.0 j) (may.1 j)),
          )
          by core mine (Stray q k) may = (
            (here, subst (λ (d : Conduct). MayStray r d c.unit q k) (sym mine) may.1),
            tt,
            (λ j. slice_set core.words (may.0 j) n),
          )
