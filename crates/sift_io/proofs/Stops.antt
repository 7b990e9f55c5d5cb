-- What is known where a whole read or a whole write stops.
use Rattle.std.proofs.Common.{◌≡◌, ◌+◌, ◌≤◌, ◌-◌, ℕ, List, ◌++◌, length, take, drop, None, Some, subst, sym, ap, ◌∙◌, append_assoc, append-nil, length-append, arith}
use Rattle.std.proofs.Math.Seq.{take-append_seam}
use Rattle.std.proofs.lemmas.List.{length-take, take_rest, take-append-drop}
use Rattle.std.proofs.KnownBytes.{Appends-kept, Consumes-trans}
use Rattle.std.specs.Io.KnownBytes.{Appends, Consumes, Keeps}
use Rattle.std.specs.declared.option.Option.{Option}
use Rattle.sift_io.specs.Flow.{Inflow, Outflow}
use Rattle.sift_io.specs.Reading.{TakesAtMost, TakesExactly}
use Rattle.sift_io.specs.Writing.{AddsPrefix}

module _ (old mid new : Inflow) (taken buf : List ℕ) (n count : ℕ) where
  -- one more read makes so many bytes
  pub TakesExactly-more : Consumes old.left mid.left taken → Consumes mid.left new.left (take n buf) → n ≤ length buf
      → length taken + n ≡ count → TakesExactly old new count
  TakesExactly-more p q fits size =
      let whole : length (taken ++ take n buf) ≡ count =
      omega (arith, length-append taken (take n buf), length-take n buf) in
      (taken ++ take n buf, Consumes-trans old.left mid.left new.left taken (take n buf) p q, whole)

  -- one more read makes no more than so many bytes
  pub TakesAtMost-more : Consumes old.left mid.left taken → Consumes mid.left new.left (take n buf) → length taken + n ≤ count
      → TakesAtMost old new count
  TakesAtMost-more p q size =
      let whole : length (taken ++ take n buf) ≤ count =
      omega (arith, length-append taken (take n buf), length-take n buf) in
      (taken ++ take n buf, Consumes-trans old.left mid.left new.left taken (take n buf) p q, whole)

-- to add none of the bytes is to keep what there is
pub Keeps-take_none : (old new : Option (List ℕ)) (n : ℕ) (bytes : List ℕ) → n ≡ 0
    → Appends old new (take n bytes) → Keeps old new
Keeps-take_none None new n bytes none p = tt
Keeps-take_none (Some x) None n bytes none p = absurd p
Keeps-take_none (Some x) (Some y) n bytes none p = p ∙ ap (λ k. x ++ take k bytes) none ∙ append-nil x

-- what was sent stands at the front of the bytes
pub AddsPrefix-sent : (old mid new : Outflow) (sent rest bytes : List ℕ) → Appends old.written mid.written sent
    → sent ++ rest ≡ bytes → Keeps mid.written new.written → AddsPrefix old new bytes
AddsPrefix-sent old mid new sent rest bytes p e q =
    let front : take (length sent) bytes ≡ sent =
    ap (take (length sent)) (sym e) ∙ take-append_seam sent rest in
    let size : length sent ≤ length bytes = omega (arith, length-append sent rest, ap length e) in (
      length sent,
      size,
      subst (Appends old.written new.written) (sym front)
          (Appends-kept old.written mid.written new.written sent p q),
    )

-- what a write took moves from what is left to what was sent
pub append-take_rest : (sent rest bytes : List ℕ) (n : ℕ) → sent ++ rest ≡ bytes
    → (sent ++ take n rest) ++ take (length rest - n) (drop n rest) ≡ bytes
append-take_rest sent rest bytes n e =
    let whole : take n rest ++ take (length rest - n) (drop n rest) ≡ rest =
    ap (λ l. take n rest ++ l) (take_rest rest n) ∙ take-append-drop n rest in
    append_assoc sent (take n rest) _ ∙ ap (λ l. sent ++ l) whole ∙ e
