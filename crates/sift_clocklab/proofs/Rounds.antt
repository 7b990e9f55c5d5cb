-- One round more, and whole runs.
use Rattle.std.proofs.Common.{◌≡◌, ◌+◌, ◌≤◌, List, [], ◌∷◌, ◌++◌, length, get_or, ℤ, Option, refl, ap, sym, subst, ◌∙◌, arith}
use Rattle.std.proofs.lemmas.List.Elements.{All-same}
use Rattle.sift_clocklab.specs.Laboratory.{Laboratory}
use Rattle.sift_clocklab.specs.Conditions.{IsReady}
use Rattle.sift_clocklab.specs.Rounds.{offsets_after, offsets_from, run_offsets}
use Rattle.sift_clocklab.specs.Skew.{AreKept, IsKept, farthest, farthest_after}
use Rattle.sift_clocklab.proofs.Keeping.{kept_farther, offsets_are_kept}

-- after one round more there is one list of offsets more
pub offsets_from-more : (lab : Laboratory) (offsets : List ℤ) (rounds : List (List (Option ℤ))) (shown : List (Option ℤ))
    → offsets_from lab offsets (rounds ++ shown ∷ [])
    ≡ offsets_from lab offsets rounds ++ offsets_after lab (get_or (offsets_from lab offsets rounds) (length rounds) []) shown ∷ []
offsets_from-more lab offsets [] shown = refl
offsets_from-more lab offsets (readings ∷ rounds) shown =
    ap (λ lists. offsets ∷ lists) (offsets_from-more lab (offsets_after lab offsets readings) rounds shown)

-- there is one list of offsets more than there are rounds
pub length-offsets_from : (lab : Laboratory) (offsets : List ℤ) (rounds : List (List (Option ℤ)))
    → length (offsets_from lab offsets rounds) ≡ length rounds + 1
length-offsets_from lab offsets [] = refl
length-offsets_from lab offsets (readings ∷ rounds) =
    omega (arith, length-offsets_from lab (offsets_after lab offsets readings) rounds)

-- so, where the longer lists are given
pub run_more : (lab : Laboratory) (lists more_lists : List (List ℤ)) (rounds more_rounds : List (List (Option ℤ))) (offsets after : List ℤ)
    (shown : List (Option ℤ)) → lists ≡ run_offsets lab rounds → more_rounds ≡ rounds ++ shown ∷ []
    → more_lists ≡ lists ++ after ∷ []
    → offsets ≡ get_or lists (length rounds) [] → after ≡ offsets_after lab offsets shown
    → more_lists ≡ run_offsets lab more_rounds
run_more lab lists more_lists rounds more_rounds offsets after shown are one_round one_list is_last is_next =
    let latest : offsets ≡ get_or (run_offsets lab rounds) (length rounds) [] = is_last ∙ ap (λ ls. get_or ls (length rounds) []) are in
    let next : after ≡ offsets_after lab (get_or (run_offsets lab rounds) (length rounds) []) shown =
    is_next ∙ ap (λ os. offsets_after lab os shown) latest in
    one_list ∙ ((λ i. are i ++ next i ∷ []) ∙ (sym (offsets_from-more lab lab.start rounds shown) ∙ ap (run_offsets lab) (sym one_round)))

-- the last list of offsets of a run of so many rounds is kept
pub latest_kept : (lab : Laboratory) (lists : List (List ℤ)) (shown : List (List (Option ℤ))) (offsets : List ℤ)
    → IsReady lab
    → length shown ≤ lab.rounds → lists ≡ run_offsets lab shown → offsets ≡ get_or lists (length shown) []
    → AreKept lab farthest offsets
latest_kept lab lists shown offsets ready few are is =
    let all = offsets_are_kept lab shown ready (length shown) [] (omega (arith, length-offsets_from lab lab.start shown)) in
    let rounds = ready.in_range.few_rounds in
    subst (AreKept lab farthest) (sym (is ∙ ap (λ ls. get_or ls (length shown) []) are))
    (kept_farther lab (farthest_after (length shown)) farthest (get_or (run_offsets lab shown) (length shown) []) (omega arith) all)

-- so are all lists of offsets of a whole run
pub run_kept : (lab : Laboratory) (shown : List (List (Option ℤ))) (offsets : List (List ℤ)) → IsReady lab
    → length shown ≡ lab.rounds
    → offsets ≡ run_offsets lab shown → IsKept lab offsets
run_kept lab shown offsets ready whole is = record {
  lists = ap length is ∙ (length-offsets_from lab lab.start shown ∙ ap (λ k. k + 1) whole);
  each = All-same (AreKept lab farthest) offsets (run_offsets lab shown) is
      (λ k d below.
      let few = ready.in_range.few_rounds in
      kept_farther lab (farthest_after (length shown)) farthest (get_or (run_offsets lab shown) k d) (omega arith)
      (offsets_are_kept lab shown ready k d below));
}
