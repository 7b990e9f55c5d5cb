-- A change of one unit's acts, of its strays, and of words, as an event of a rack.
use Rattle.std.proofs.Common.{◌≡◌, ◌≢◌, ℕ, ◌<◌, List, [], length, slice_index_or, slice_set, sym, ap, ◌∙◌, eq-eqb, ne_eqb}
use Rattle.std.proofs.lemmas.List.{get_or-set_same, get_or-set_other, get_or_default}
use mathlib.Core.Logic.{dite}
use native.Mathlib.Decide.{ℕ_discrete}
use Rattle.sift_buffer.specs.Conduct.{Conduct, Stray, put}
use Rattle.sift_buffer.specs.Core.{Event, doer, after, Allowed}
use Rattle.sift_buffer.specs.Ledgers.{Ledger, conduct_in, conduct_with}
use Rattle.sift_buffer.specs.Following.{reaches_one}
use Rattle.sift_buffer.specs.Crews.{no_ledger, ledger_at, with_strays}
use Rattle.sift_buffer.specs.Racks.{Follows, ranges_for, core_of, conduct_at, looks_at, last_at}
use Rattle.sift_buffer.specs.Tables.{ranges_of}
use Rattle.sift_buffer.specs.declared.rack.Rack.{Rack}

-- an entry that was lent, by any default
pub lent : {A : Type 0} (xs : List A) (i j : ℕ) (o d : A) → j ≡ i → i < length xs → o ≡ slice_index_or xs j o → o ≡ slice_index_or xs i d
lent xs i j o d e low is = is ∙ (ap (λ (k : ℕ). slice_index_or xs k o) e ∙ get_or_default xs i o d low)

-- the conducts of ledgers with strays, where the ledger and the strays of one unit are other ones
pub conducts_put : (acts acts' : List Ledger) (w : ℕ → List Stray) (u : ℕ) (strays : List Stray) →
    ((j : ℕ) → j ≢ u → ledger_at acts' j ≡ ledger_at acts j) →
    (λ j. conduct_with (ledger_at acts' j) (put w u strays j)) ≡ put (λ j. conduct_with (ledger_at acts j) (w j)) u (conduct_with (ledger_at acts' u) strays)
conducts_put acts acts' w u strays same i j = at j i
  where
    at : (j : ℕ) → conduct_with (ledger_at acts' j) (put w u strays j)
        ≡ put (λ j. conduct_with (ledger_at acts j) (w j)) u (conduct_with (ledger_at acts' u) strays) j
    at j = dite (ℕ_discrete j u)
        (λ e. rw (eq-eqb j u e) (ap (λ (k : ℕ). conduct_with (ledger_at acts' k) strays) e))
        (λ ne. rw (ne_eqb j u ne) (ap (λ (l : Ledger). conduct_with l (w j)) (same j ne)))

-- the entry at this place, which was o, became l, by an event of the rack's unit that makes F of its conduct, whatever strays it has
pub record MakesEvent (a b : Rack) (e : Event) (F : Conduct → Conduct) (at : ℕ) (o l : Ledger) : Type 0 where
  pub layout : b.grid.layout ≡ a.grid.layout
  pub frames : b.grid.frames ≡ a.grid.frames
  pub unit : b.unit ≡ a.unit
  pub at_is : at ≡ a.unit
  pub lent_is : o ≡ slice_index_or a.acts.items at o
  pub noted : conduct_in l ≡ F (conduct_in o)
  pub beside : (c : Conduct) (strays : List Stray) → record (F c) { strays = strays } ≡ F (record c { strays = strays })
  pub acts : b.acts.items ≡ slice_set a.acts.items at l
  pub looks : (p : ℕ) → p ≢ a.unit → looks_at b p ≡ looks_at a p
  pub last : (p : ℕ) → p ≢ a.unit → last_at b p ≡ last_at a p
  pub doer_is : doer e ≡ a.unit
  pub may : (w : ℕ → List Stray) → Allowed (ranges_for a) (core_of a w) e
  pub of : (w : ℕ → List Stray) → (after (ranges_for a) (core_of a w) e).of ≡ put (core_of a w).of a.unit (F ((core_of a w).of a.unit))
  pub words : (w : ℕ → List Stray) → (after (ranges_for a) (core_of a w) e).words ≡ b.words.items

-- a rack that differs from another by one allowed event of its unit, which that unit's entry notes, follows it with no stray
pub follows_by : (a b : Rack) (e : Event) (F : Conduct → Conduct) (at : ℕ) (o l : Ledger) → MakesEvent a b e F at o l → Follows a [] b
follows_by a b e F at o l made = record {
  layout = made.layout;
  frames = made.frames;
  unit = made.unit;
  reaches = λ w. reaches_one (ranges_for a) a.unit (core_of a w) (core_of b (with_strays w a.unit [])) e made.doer_is (made.may w)
      ((λ i. record { words = made.words w i; of = made.of w i }) ∙ (λ i. record { words = b.words.items; of = now w i }));
  others = λ p ne i. record {
    ranges = ranges_of (made.layout i) (made.frames i);
    unit = p;
    conduct = conduct_in (others p ne i);
    looks = made.looks p ne i;
    last = made.last p ne i;
  };
}
  where
    low : a.unit < length a.acts.items
    low = rw a.crew a.here

    items : b.acts.items ≡ slice_set a.acts.items a.unit l
    items = made.acts ∙ ap (λ (k : ℕ). slice_set a.acts.items k l) made.at_is

    old : o ≡ ledger_at a.acts.items a.unit
    old = lent a.acts.items a.unit at o no_ledger made.at_is low made.lent_is

    own : ledger_at b.acts.items a.unit ≡ l
    own = ap (λ (ls : List Ledger). ledger_at ls a.unit) items ∙ get_or-set_same a.acts.items a.unit l no_ledger low

    others : (j : ℕ) → j ≢ a.unit → ledger_at b.acts.items j ≡ ledger_at a.acts.items j
    others j ne = ap (λ (ls : List Ledger). ledger_at ls j) items ∙ get_or-set_other a.acts.items a.unit j l no_ledger ne

    new : conduct_at b a.unit ≡ F (conduct_at a a.unit)
    new = ap conduct_in own ∙ (made.noted ∙ ap (λ (z : Ledger). F (conduct_in z)) old)

    mine : (w : ℕ → List Stray) → conduct_with (ledger_at b.acts.items a.unit) (w a.unit) ≡ F ((core_of a w).of a.unit)
    mine w = ap (λ (c : Conduct). record c { strays = w a.unit }) new ∙ made.beside (conduct_at a a.unit) (w a.unit)

    now : (w : ℕ → List Stray) → put (core_of a w).of a.unit (F ((core_of a w).of a.unit)) ≡ (core_of b (with_strays w a.unit [])).of
    now w = sym (conducts_put a.acts.items b.acts.items w a.unit (w a.unit) others ∙ ap (λ (c : Conduct). put (core_of a w).of a.unit c) (mine w))
