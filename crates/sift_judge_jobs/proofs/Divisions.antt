-- An input is divided at one place at most.
use Rattle.std.proofs.Common.{◌≡◌, ◌++◌, ℕ, List, length, take, drop, refl, sym, ap, ◌∙◌, arith}
use Rattle.std.proofs.Math.Seq.{take-append_seam, drop-append_seam}
use Rattle.sift_judge_jobs.specs.Divided.{AreDivided, divider}

-- parts of one list are equal where the first ones are as long
same_front : (front other back behind : List ℕ) → length front ≡ length other → front ++ back ≡ other ++ behind → front ≡ other
same_front front other back behind long is =
    sym (take-append_seam front back) ∙ ap (take (length front)) is ∙ ap (λ n. take n (other ++ behind)) long ∙ take-append_seam other behind

same_back : (front other back behind : List ℕ) → length front ≡ length other → front ++ back ≡ other ++ behind → back ≡ behind
same_back front other back behind long is =
    sym (drop-append_seam front back) ∙ ap (drop (length front)) is ∙ ap (λ n. drop n (other ++ behind)) long ∙ drop-append_seam other behind

-- the divider between two parts at one place
module _ (bytes document report other behind : List ℕ) (divided : AreDivided bytes document report) (divided' : AreDivided bytes other behind) where
  -- neither place is before the other
  as_long : length document ≡ length other
  as_long =
      let low = divided.first other behind divided'.between in
      let high = divided'.first document report divided.between in
      omega (arith, low, high)

  same : document ++ (divider ++ report) ≡ other ++ (divider ++ behind)
  same = divided.between.parts ∙ sym divided'.between.parts

  -- two divisions of an input have one document
  pub one_document : document ≡ other
  one_document = same_front document other (divider ++ report) (divider ++ behind) as_long same

  -- two divisions of an input have one report
  pub one_report : report ≡ behind
  one_report =
      let rest : divider ++ report ≡ divider ++ behind = same_back document other (divider ++ report) (divider ++ behind) as_long same in
      same_back divider divider report behind refl rest
