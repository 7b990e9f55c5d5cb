-- What others heard of a unit stays true when its conduct changes, and what is loaded of a cell is from its unit.
use Rattle.std.proofs.Common.{◌≡◌, ◌⊎◌, inl, inr, ⊎_elim, ℕ, ◌+◌, ◌<◌, ◌≤◌, Option, Some, None, sym, refl, ap, ◌∙◌, arith}
use Rattle.std.specs.List.{Contains}
use mathlib.Core.Logic.{dite}
use native.Mathlib.Decide.{ℕ_discrete}
use Rattle.sift_buffer.specs.Cell.{packed, taken}
use Rattle.sift_buffer.specs.Conduct.{Saying, Stray, Conduct, never, saying, stray_to}
use Rattle.sift_buffer.specs.Lawful.{HasStage, silent, last, HasStamps, IsFromSayings, IsFromStrays, nothing, said, strayed}
use Rattle.sift_buffer.proofs.Cells.{taken_same, taken_other, taken_zero}
use Rattle.sift_buffer.proofs.Puts.{some_same, none_some}
use Rattle.sift_buffer.proofs.Sound.{CellIs, HeardIs, from_sayings, flies_or_turned}

module _ (c d : Conduct) (same : d.said ≡ c.said) where
  -- the same sayings are the same source, at a progress that is no less
  pub sayings_same : c.progress ≤ d.progress → (q k s h : ℕ) (w : Option ℕ) → IsFromSayings c q k s h w → IsFromSayings d q k s h w
  sayings_same up q k s h w it = record {
    source = ⊎_elim (λ n. inl n) (λ (t : (f : ℕ) × (c.said f k q ≡ Some (saying s w))).
        inr (t.0, ap (λ (g : ℕ → ℕ → ℕ → Option Saying). g t.0 k q) same ∙ t.1)) it.source;
    same = λ f w' at between. it.same f w' (sym (ap (λ (g : ℕ → ℕ → ℕ → Option Saying). g f k q) same) ∙ at)
        (λ f' s' w'' at'. between f' s' w'' (ap (λ (g : ℕ → ℕ → ℕ → Option Saying). g f' k q) same ∙ at'));
    over = (let o = it.over in omega arith);
  }

  -- and with the strays that were there, the same source of what is heard later
  pub strays_same : ((x : Stray) → Contains c.strays x → Contains d.strays x) → (q k s : ℕ) (w : Option ℕ) → IsFromStrays c q k s w → IsFromStrays d q k s w
  strays_same more q k s w (nothing n) = nothing n
  strays_same more q k s w (said f at) = said f (ap (λ (g : ℕ → ℕ → ℕ → Option Saying). g f k q) same ∙ at)
  strays_same more q k s w (strayed x am is) = strayed x (more (stray_to q k x) am) is

  -- a unit that left where it had left is heard as before
  pub heard_same : d.left ≡ c.left → c.progress ≤ d.progress → ((x : Stray) → Contains c.strays x → Contains d.strays x) →
      (q k s h : ℕ) (w : Option ℕ) → HeardIs c q k s h w → HeardIs d q k s h w
  heard_same left up more q k s h w it = record {
    before = λ l. sayings_same up q k s h w (it.before (omega arith));
    later = λ l. strays_same more q k s w (it.later (omega arith));
  }

-- what is loaded, by a stamp s, of the cell of a unit that is near or has turned
module _ (d : Conduct) (u k s h x : ℕ) (stamps : HasStamps d) (stage : HasStage d) (one : 1 ≤ s) (ahead : s + 1 ≤ h)
    (near : h ≤ d.progress + 1) (back : d.left ≡ never → d.progress ≤ h + 1) (past : d.left < never → d.left ≤ h) where
  -- the stamp is one that the unit has reached
  reached : s ≤ d.progress
  reached = omega arith

  -- where nothing was said, absence is loaded
  silent_load : ((f : ℕ) → d.said f k u ≡ None) → x ≡ 0 → IsFromSayings d u k s h (taken x s)
  silent_load n z = record {
    source = inl (ap (λ (y : ℕ). taken y s) z ∙ taken_zero s one);
    same = λ f w at between. none_some (sym (n f) ∙ at);
    over = reached;
  }

  -- where something was said, it is loaded, or absence
  last_load : (d.left ≡ never) ⊎ (d.left ≤ h) → (f0 s0 : ℕ) (w0 : Option ℕ) → d.said f0 k u ≡ Some (saying s0 w0) → x ≡ packed s0 w0 →
      ((f s : ℕ) (w : Option ℕ) → d.said f k u ≡ Some (saying s w) → s ≤ s0) → h < d.left → IsFromSayings d u k s h (taken x s)
  last_load stays f0 s0 w0 at0 is top hl = dite (ℕ_discrete s0 s)
      (λ e. let word : taken x s ≡ w0 = ap (λ (y : ℕ). taken y s) (is ∙ ap (λ (y : ℕ). packed y w0) e) ∙ taken_same s w0 (stamps.reached f0 k u s0 w0 at0).2 in
      let at : d.said f0 k u ≡ Some (saying s w0) = at0 ∙ ap (λ (y : ℕ). Some (saying y w0)) e in record {
        source = inr (f0, at ∙ ap (λ (y : Option ℕ). Some (saying s y)) (sym word));
        same = λ f w at' between. word ∙ ap (λ (z : Saying). z.word) (some_same (sym at
            ∙ (ap (λ (z : ℕ). d.said z k u) (stamps.apart f0 f k u s w0 w at at') ∙ at')));
        over = reached;
      })
      (λ ne. let none : taken x s ≡ None = ap (λ (y : ℕ). taken y s) is ∙ taken_other s0 s w0 (stamps.reached f0 k u s0 w0 at0).2 (λ e. ne (sym e)) in record {
        source = inl none;
        same = λ f w at' between. absurd (⊎_elim
            (λ (l : s0 ≤ s). let l' : s ≤ s0 = top f s w at' in ne (omega arith))
            (λ (l : h + 2 < s0). let l' : s0 ≤ d.progress + 1 = (stamps.reached f0 k u s0 w0 at0).0 in
            ⊎_elim (λ (fl : d.left ≡ never). let b : d.progress ≤ h + 1 = back fl in omega arith) (λ (g : d.left ≤ h). omega arith) stays)
            (between f0 s0 w0 at0));
        over = reached;
      })

  -- the unit flies, or has left
  stays : (d.left ≡ never) ⊎ (d.left ≤ h)
  stays = flies_or_turned d stage (λ fl. inl fl) (λ gone. inr (past gone))

  -- and of a unit that had left as well
  load_strayed : (f0 s0 : ℕ) (w0 : Option ℕ) → d.said f0 k u ≡ Some (saying s0 w0) → x ≡ packed s0 w0 → IsFromStrays d u k s (taken x s)
  load_strayed f0 s0 w0 at0 is = dite (ℕ_discrete s0 s)
      (λ e. let word : taken x s ≡ w0 = ap (λ (y : ℕ). taken y s) (is ∙ ap (λ (y : ℕ). packed y w0) e) ∙ taken_same s w0 (stamps.reached f0 k u s0 w0 at0).2 in
      said f0 (at0 ∙ (ap (λ (y : ℕ). Some (saying y w0)) e ∙ ap (λ (y : Option ℕ). Some (saying s y)) (sym word))))
      (λ ne. nothing (ap (λ (y : ℕ). taken y s) is ∙ taken_other s0 s w0 (stamps.reached f0 k u s0 w0 at0).2 (λ e. ne (sym e))))

  -- what is loaded is heard lawfully
  pub load_is : CellIs d u k x → HeardIs d u k s h (taken x s)
  load_is (inl (silent n z)) = record { before = λ _. silent_load n z; later = λ _. from_sayings d u k s h (taken x s) (silent_load n z) }
  load_is (inl (last f0 s0 w0 at0 is top)) = record { before = last_load stays f0 s0 w0 at0 is top; later = λ _. load_strayed f0 s0 w0 at0 is }
  load_is (inr t) = record { before = λ l. let p : d.left ≤ h = past t.0 in absurd (omega arith); later = λ _. strayed x t.1 refl }
