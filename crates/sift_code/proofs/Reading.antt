-- Each instruction that reads the lists is a step of the machine, by what its source tells.
use Rattle.std.proofs.Common.{◌≡◌, ℕ, ◌+◌, ◌<◌, List, length, Some, refl, sym, ap, ◌∙◌, arith}
use Rattle.std.specs.Prelude.{slice_index, slice_set}
use Rattle.std.specs.Borrow.{Bor}
use Rattle.std.proofs.lemmas.Option.{slice_get-get_or}
use Rattle.sift_code.specs.declared.instr.Instr.{Instr}
use Rattle.sift_code.specs.declared.instr.Instr.TheVariants.{Push, Sense, Now, Last}
use Rattle.sift_code.specs.declared.machine.Machine.{Machine}
use Rattle.sift_code.specs.Ends.{Fits}
use Rattle.sift_code.specs.Refusal.{Program}
use Rattle.sift_code.specs.Sources.{source_of, words_at, inputs_of, AreLists, IsWordAt}
use Rattle.sift_code.specs.Work.{Steps}
use Rattle.sift_code.proofs.Standing.{machine, Fetched, heights, operand}
use Rattle.sift_code.proofs.Steps.{pushes_word}

module _ {program : Program} {lists : List (Bor (List ℕ))} (are : AreLists lists) (fits : Fits (inputs_of lists) program.limits) {m : Machine} {ws outs : List ℕ} where
  -- there is a word at the source's place
  pub read_there : (i : Instr) → Fetched program m ws outs i → (source_of i).list < 4
      → (source_of i).at < length (words_at lists (source_of i).list)
  read_there (Push w) f some = omega (arith, ap (length {A = ℕ}) are.zero)
  read_there (Sense x) f some = let named = operand f in omega (arith, named, fits.sensed)
  read_there (Now w) f some = let named = operand f in omega (arith, named, fits.made)
  read_there (Last w) f some = let named = operand f in omega (arith, named, fits.last)
  read_there _ f some = absurd (omega (arith, some))

  -- the stack has room for it
  pub read_low : (i : Instr) → Fetched program m ws outs i → (source_of i).list < 4 → m.height < 256
  read_low (Push w) f some = let h = heights f in omega (arith, h.1)
  read_low (Sense x) f some = let h = heights f in omega (arith, h.1)
  read_low (Now w) f some = let h = heights f in omega (arith, h.1)
  read_low (Last w) f some = let h = heights f in omega (arith, h.1)
  read_low _ f some = absurd (omega (arith, some))

  -- it is pushed
  pub reads : {n : Machine} {vs : List ℕ} (i : Instr) (word : ℕ) → Fetched program m ws outs i → (source_of i).list < 4
      → IsWordAt lists (source_of i) word → n ≡ machine (m.place + 1) (m.height + 1) m.depth → vs ≡ slice_set ws m.height word
      → Steps program (inputs_of lists) m ws outs n vs outs
  reads (Push w) word f some is up words =
      pushes_word (inputs_of lists) f (Some w) word
      (record { nests = λ next loops. refl; costs = λ cs. refl; heights = λ next trail. refl })
      (read_low (Push w) f some) refl (ap Some (sym (is.own (ap (λ l. slice_index l 0) are.zero)))) up words
  reads (Sense x) word f some is up words =
      pushes_word (inputs_of lists) f _ word
      (record { nests = λ next loops. refl; costs = λ cs. refl; heights = λ next trail. refl })
      (read_low (Sense x) f some) refl (slice_get-get_or (words_at lists 1) x _ (read_there (Sense x) f some) ∙ ap Some (sym (is.there refl))) up words
  reads (Now w) word f some is up words =
      pushes_word (inputs_of lists) f _ word
      (record { nests = λ next loops. refl; costs = λ cs. refl; heights = λ next trail. refl })
      (read_low (Now w) f some) refl (slice_get-get_or (words_at lists 2) w _ (read_there (Now w) f some) ∙ ap Some (sym (is.there refl))) up words
  reads (Last w) word f some is up words =
      pushes_word (inputs_of lists) f _ word
      (record { nests = λ next loops. refl; costs = λ cs. refl; heights = λ next trail. refl })
      (read_low (Last w) f some) refl (slice_get-get_or (words_at lists 3) w _ (read_there (Last w) f some) ∙ ap Some (sym (is.there refl))) up words
  reads _ word f some is up words = absurd (omega (arith, some))
