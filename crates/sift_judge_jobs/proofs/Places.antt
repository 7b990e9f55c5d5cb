-- The divider is looked for place by place.
use Rattle.std.proofs.Common.{◌≡◌, ◌≢◌, ◌≤◌, ◌<◌, ◌+◌, ◌++◌, ⊎_elim, ℕ, List, Option, Some, None, length, take, drop, sym, ap, ◌∙◌, arith}
use Rattle.std.proofs.Math.Seq.{drop-append_seam}
use Rattle.std.proofs.lemmas.Bool.{cases_lt}
use Rattle.std.proofs.lemmas.List.{length-append, length-take-le, take-append-drop}
use Rattle.std.specs.Borrow.{Bor}
use Rattle.std.specs.Option.{IfNone, IfSome, MatchOption}
use Rattle.sift_judge_jobs.specs.Divided.{AreDivided, AreUndivided, AreWholeLines, StandsBetween, divider}

-- it stands between no two parts of which the first is shorter
abbrev pub IsNowhereBefore : List ℕ → ℕ → Type 0
IsNowhereBefore bytes place = (document report : List ℕ) → length document < place → ¬ StandsBetween bytes document report

module _ (bytes : List ℕ) where
  back_is : (document report : List ℕ) → StandsBetween bytes document report → drop (length document) bytes ≡ divider ++ report
  back_is document report stands = ap (drop (length document)) (sym stands.parts) ∙ drop-append_seam document (divider ++ report)

  -- it begins before the end
  begins_inside : (document report : List ℕ) → StandsBetween bytes document report → length document < length bytes
  begins_inside document report stands =
      let whole = ap length stands.parts in
      let both = length-append document (divider ++ report) in
      let rest = length-append divider report in
      omega (arith, whole, both, rest)

  -- it stands at a place where whole lines are before it and it is what follows
  pub stands_there : (place : ℕ) (report : List ℕ) → AreWholeLines (take place bytes) → drop place bytes ≡ divider ++ report
      → StandsBetween bytes (take place bytes) report
  stands_there place report begins follows = record {
    parts = ap (λ (rest : List ℕ). take place bytes ++ rest) (sym follows) ∙ take-append-drop place bytes;
    begins = begins;
  }

  -- or another text follows
  pub other_follows : (place : ℕ) → ((report : List ℕ) → drop place bytes ≢ divider ++ report) → (document report : List ℕ) → length document ≡ place
      → ¬ StandsBetween bytes document report
  other_follows place none document report long stands =
      none report (ap (λ n. drop n bytes) (sym long) ∙ back_is document report stands)

  -- the first place divides
  pub divides_first : (place : ℕ) (report : List ℕ) → place ≤ length bytes → IsNowhereBefore bytes place → StandsBetween bytes (take place bytes) report
      → AreDivided bytes (take place bytes) report
  divides_first place report inside nowhere stands = record {
    between = stands;
    first = λ before behind earlier.
        let long = length-take-le place bytes inside in
        ⊎_elim (λ (short : length before < place). absurd (nowhere before behind short earlier)) (λ (rest : place ≤ length before). omega (arith, long, rest))
        (cases_lt (length before) place);
  }

  -- a place more
  pub one_more : (place : ℕ) → IsNowhereBefore bytes place → ((document report : List ℕ) → length document ≡ place → ¬ StandsBetween bytes document report)
      → IsNowhereBefore bytes (place + 1)
  one_more place nowhere here document report short stands =
      ⊎_elim (λ (earlier : length document < place). nowhere document report earlier stands)
      (λ (rest : place ≤ length document). here document report (omega (arith, short, rest)) stands) (cases_lt (length document) place)

  -- nowhere at all
  pub nowhere_at_all : IsNowhereBefore bytes (length bytes) → AreUndivided bytes
  nowhere_at_all nowhere document report stands = nowhere document report (begins_inside document report stands) stands

-- what a text begins with is taken off it where it does
pub stripped_there : (bytes : List ℕ) (place : ℕ) (rest : List ℕ) (found : Option (Bor (List ℕ))) → drop place bytes ≡ rest → AreWholeLines (take place bytes)
    → MatchOption found ((report : List ℕ) → rest ≢ divider ++ report) (λ report. rest ≡ divider ++ report.now)
    → IfSome found (λ report. StandsBetween bytes (take place bytes) report.now)
stripped_there bytes place rest None is begins none = tt
stripped_there bytes place rest (Some report) is begins follows = stands_there bytes place report.now begins (is ∙ follows)

-- and where it doesn't, none is
pub stripped_elsewhere : (bytes : List ℕ) (place : ℕ) (rest : List ℕ) (found : Option (Bor (List ℕ))) → drop place bytes ≡ rest
    → MatchOption found ((report : List ℕ) → rest ≢ divider ++ report) (λ report. rest ≡ divider ++ report.now)
    → IfNone found ((document report : List ℕ) → length document ≡ place → ¬ StandsBetween bytes document report)
stripped_elsewhere bytes place rest None is none = other_follows bytes place (λ report follows. none report (sym is ∙ follows))
stripped_elsewhere bytes place rest (Some report) is follows = tt
