-- The chronicles of all tokens, in the order of their units, are a lawful core by themselves.
use Rattle.std.proofs.Common.{◌≡◌, ℕ, zero, suc, ◌+◌, ◌<◌, ◌≤◌, ◌⊎◌, List, [], ◌∷◌, map, length, slice_index, slice_index_or, Some, option_and_then, refl, sym, ap, ◌∙◌, subst, arith}
use Rattle.std.specs.List.{All, Contains}
use Rattle.atomic_table.specs.Seated.{TableId}
use Rattle.sift_base.specs.declared.slots.Layout.{Layout}
use Rattle.sift_buffer.specs.Ranges.{Ranges, place}
use Rattle.sift_buffer.specs.Conduct.{Conduct, never, hearing, stray_to}
use Rattle.sift_buffer.specs.Core.{Core}
use Rattle.sift_buffer.specs.Lawful.{Lawful, HasStage, IsLastSaid, HasStamps, IsNear, IsFromSayings, IsFromStrays}
use Rattle.sift_buffer.specs.Ledgers.{HasItsWords}
use Rattle.sift_ether.specs.declared.seat.Token.{Token}
use Rattle.sift_ether.specs.Landed.{IsJournalFrom}
use Rattle.sift_ether.specs.Rule.{TellConduct}
use Rattle.sift_ether.specs.Tokens.{IsAt, chronicle_in, conduct_of, conduct_at}

-- a core is lawful by the conduct of its own units alone
pub lawful_by : (r : Ranges) (ws : List ℕ) (of of' : ℕ → Conduct) → ((u : ℕ) → u < r.units → of u ≡ of' u) →
    Lawful r (record { words = ws; of = of }) → Lawful r (record { words = ws; of = of' })
lawful_by r ws of of' e law = record {
  formed = record {
    wide = law.formed.wide;
    number = λ p hp. law.formed.number p hp ∙ ap (λ (d : Conduct). d.progress) (e p hp);
    stage = λ p hp. subst HasStage (e p hp) (law.formed.stage p hp);
  };
  cells = λ p q k hp hq hk. subst (λ (d : Conduct). d.left ≡ never → IsLastSaid d q k (slice_index ws (place r p q k))) (e p hp) (law.cells p q k hp hq hk);
  stamps = λ p hp. subst HasStamps (e p hp) (law.stamps p hp);
  sights = λ q p hq hp ne. subst (λ (x : Conduct × Conduct). x.0.seen p ≤ x.1.progress) (λ i. (e q hq i, e p hp i)) (law.sights q p hq hp ne);
  pace = λ q p hq hp ne. subst (λ (x : Conduct × Conduct). x.0.left ≡ never → IsNear x.0 x.1 (x.0.seen p)) (λ i. (e q hq i, e p hp i)) (law.pace q p hq hp ne);
  heard = λ q p f k s h w hq hp ne hk.
      subst (λ (x : Conduct × Conduct). x.0.heard f k p ≡ Some (hearing s h w) → h < x.1.left → IsFromSayings x.1 q k s h w)
      (λ i. (e q hq i, e p hp i)) (law.heard q p f k s h w hq hp ne hk);
  turned = record {
    cells = λ p q k hp hq hk.
        subst (λ (d : Conduct). d.left < never → IsLastSaid d q k (slice_index ws (place r p q k)) ⊎ Contains d.strays (stray_to q k (slice_index ws (place r p q k))))
        (e p hp) (law.turned.cells p q k hp hq hk);
    heard = λ q p f k s h w hq hp ne hk.
        subst (λ (x : Conduct × Conduct). x.0.heard f k p ≡ Some (hearing s h w) → x.1.left ≤ h → IsFromStrays x.1 q k s w)
        (λ i. (e q hq i, e p hp i)) (law.turned.heard q p f k s h w hq hp ne hk);
  };
}

-- what the chronicles of tokens in the order of their units, from unit n on, tell of each unit
conduct_from : (of : ℕ → Conduct) (n : ℕ) (ts : List Token) → TellConduct of (map chronicle_in ts) →
    ((u : ℕ) (d : Token) → u < length ts → (slice_index_or ts u d).unit ≡ n + u) → (u : ℕ) → u < length ts → of (n + u) ≡ conduct_at ts u
conduct_from of n [] tell order u low = absurd (omega arith)
conduct_from of n (t ∷ ts) tell order zero low = ap of (sym (order zero t low) ∙ sym t.unit_is) ∙ tell.0
conduct_from of n (t ∷ ts) tell order (suc u) low =
    let e : n + 1 + u ≡ n + suc u = omega arith in
    subst (λ (m : ℕ). of m ≡ conduct_at ts u) e
    (conduct_from of (n + 1) ts tell.1 (λ v d h. order (suc v) d (omega arith) ∙ (let e' : n + suc v ≡ n + 1 + v = omega arith in e')) u (omega arith))

-- the tokens of all units, in order, are a lawful core
pub landed_lawful : (r : Ranges) (core : Core) (ts : List Token) → Lawful r core → TellConduct core.of (map chronicle_in ts) → length ts ≡ r.units →
    ((u : ℕ) (d : Token) → u < r.units → (slice_index_or ts u d).unit ≡ u) → Lawful r (record { words = core.words; of = conduct_at ts })
landed_lawful r core ts law tell count order = lawful_by r core.words core.of (conduct_at ts)
    (λ u hu. let e : 0 + u ≡ u = omega arith in subst (λ (m : ℕ). core.of m ≡ conduct_at ts u) e
    (conduct_from core.of 0 ts tell (λ v d low. order v d (omega arith) ∙ (let e' : v ≡ 0 + v = omega arith in e')) u (omega arith)))
    law

-- what tokens tell of a unit is what its own token tells
conduct_is : (ts : List Token) (u : ℕ) (d : Token) → u < length ts → conduct_at ts u ≡ conduct_of (slice_index_or ts u d)
conduct_is [] u d low = absurd (omega arith)
conduct_is (t ∷ ts) zero d low = refl
conduct_is (t ∷ ts) (suc u) d low = conduct_is ts u d (omega arith)

-- the journal in a unit's token is the unit's, and has just the words of its conduct
pub journal_from : (table : TableId) (layout : Layout) (frames : ℕ) (ts : List Token) (u : ℕ) (d : Token) → u < length ts →
    IsAt table layout frames (slice_index_or ts u d) → (slice_index_or ts u d).unit ≡ u → All (λ t. HasItsWords t.acts) ts →
    IsJournalFrom ts layout frames u (slice_index_or ts u d).acts.pages
journal_from table layout frames ts u d low at unit told =
    let t = slice_index_or ts u d in let words = told u d low in
    let tells = t.noted ∙ sym (conduct_is ts u d low) in record {
      owner = record { layout_is = at.layout_is; unit_is = t.owner ∙ unit; frames_are = at.frames_are };
      words = record {
        said = λ f k q. words.said f k q ∙ ap (λ (c : Conduct). option_and_then (λ act. act.word) (c.said f k q)) tells;
        heard = λ f k p. words.heard f k p ∙ ap (λ (c : Conduct). option_and_then (λ act. act.word) (c.heard f k p)) tells;
      };
    }
