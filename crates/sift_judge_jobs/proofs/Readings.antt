-- A report's lines are read, or refused at one line.
use Rattle.std.proofs.Common.{suc, ◌≡◌, ◌≢◌, ◌++◌, ◌+◌, ◌∷◌, [], inl, inr, ℕ, List, length, map, refl, sym, ap, ◌∙◌}
use Rattle.std.proofs.lemmas.List.Elements.{All-head, All-tail}
use Rattle.std.specs.List.{All}
use Rattle.sift_line.specs.Line.{line_text}
use Rattle.sift_line.specs.declared.line.ReportLine.{ReportLine}
use Rattle.sift_line.specs.declared.line.Version.{Version}
use Rattle.sift_judge_jobs.specs.Lines.{AreRead, IsFirstRefused, IsLineOf, IsRefused}

-- equal lists have equal parts
pub head_same : {A : Type 0} (x y : A) (xs ys : List A) → x ∷ xs ≡ y ∷ ys → x ≡ y
head_same x y xs ys e = cc

-- behind their first elements equal lists are equal
pub tail_same : {A : Type 0} (x y : A) (xs ys : List A) → x ∷ xs ≡ y ∷ ys → xs ≡ ys
tail_same x y xs ys e = cc

-- some texts and one more aren't none
pub more : (texts : List (List ℕ)) (text : List ℕ) (later : List (List ℕ)) → texts ++ text ∷ later ≢ []
more [] text later e = cc
more (first ∷ texts) text later e = cc

module _ (version : Version) where
  -- a line's text that stands before some text is not refused
  unrefused : (line : ReportLine) (text : List ℕ) (later texts : List (List ℕ)) (last : List ℕ) (others : List (List ℕ))
      → IsLineOf version line → line_text line ≡ text → texts ++ last ∷ others ≡ later → ¬ IsRefused version text later
  unrefused line text later texts last others is printed long (inl (none, some)) = more texts last others (long ∙ none)
  unrefused line text later texts last others is printed long (inr (some, none)) = none line is printed

  -- what is read to its end is refused nowhere
  pub read_unrefused : (lines before : List ReportLine) (text : List ℕ) (later : List (List ℕ))
      → All (IsLineOf version) lines → map line_text lines ++ [] ∷ [] ≡ map line_text before ++ text ∷ later → ¬ IsRefused version text later
  read_unrefused [] [] text later are same (inl (none, some)) = some (sym (head_same _ _ _ _ same))
  read_unrefused [] [] text later are same (inr (some, none)) = some (sym (tail_same _ _ _ _ same))
  read_unrefused [] (b ∷ before) text later are same refused = more (map line_text before) text later (sym (tail_same _ _ _ _ same))
  read_unrefused (line ∷ lines) [] text later are same refused =
      unrefused line text later (map line_text lines) [] [] (All-head (IsLineOf version) line lines are) (head_same _ _ _ _ same) (tail_same _ _ _ _ same) refused
  read_unrefused (line ∷ lines) (b ∷ before) text later are same refused =
      read_unrefused lines before text later (All-tail (IsLineOf version) line lines are) (tail_same _ _ _ _ same) refused

  -- two that are refused stand behind as many lines
  pub as_many : (lines before : List ReportLine) (text other : List ℕ) (later behind : List (List ℕ))
      → All (IsLineOf version) lines → All (IsLineOf version) before → IsRefused version text later → IsRefused version other behind
      → map line_text lines ++ text ∷ later ≡ map line_text before ++ other ∷ behind → length lines ≡ length before
  as_many [] [] text other later behind are are' refused refused' same = refl
  as_many [] (b ∷ before) text other later behind are are' refused refused' same = absurd
      (unrefused b text later (map line_text before) other behind (All-head (IsLineOf version) b before are') (sym (head_same _ _ _ _ same)) (sym (tail_same _ _ _ _ same)) refused)
  as_many (line ∷ lines) [] text other later behind are are' refused refused' same = absurd
      (unrefused line other behind (map line_text lines) text later (All-head (IsLineOf version) line lines are) (head_same _ _ _ _ same) (tail_same _ _ _ _ same) refused')
  as_many (line ∷ lines) (b ∷ before) text other later behind are are' refused refused' same =
      ap suc (as_many lines before text other later behind (All-tail (IsLineOf version) line lines are) (All-tail (IsLineOf version) b before are') refused refused' (tail_same _ _ _ _ same))

  -- a report isn't both read and refused
  pub not_both : (report : List ℕ) (lines : List ReportLine) (number : ℕ) → AreRead version report lines → ¬ IsFirstRefused version report number
  not_both report lines number read first =
      read_unrefused lines first.before first.text first.later read.all (read.texts ∙ sym first.texts) first.refused

  -- it is refused at one line
  pub one_number : (report : List ℕ) (number other : ℕ) → IsFirstRefused version report number → IsFirstRefused version report other → number ≡ other
  one_number report number other one two =
      one.counted ∙ ap (λ n. n + 1) (as_many one.before two.before one.text two.text one.later two.later one.all two.all one.refused two.refused
      (one.texts ∙ sym two.texts)) ∙ sym two.counted
