-- A report is read line by line.
use Rattle.std.proofs.Common.{◌≡◌, ◌≢◌, ◌≤◌, ◌<◌, ◌++◌, ◌+◌, ◌-◌, ◌∷◌, [], inl, inr, ⊎_elim, ℕ, List, Option, Some, None, IfSome}
use Rattle.std.proofs.Common.{Result, Ok, Err, length, map, take, drop, append_assoc, cond, eqb, not, false, refl, sym, ap, ◌∙◌, subst, arith}
use Rattle.std.proofs.lemmas.Bool.{cases_lt, le-ltb, lt-ltb}
use Rattle.std.proofs.lemmas.List.{length-drop, map-append, take_all}
use Rattle.std.proofs.lemmas.List.Elements.{All-from_get_or, All-nil, All-push, All-head, All-tail, All-weaker}
use Rattle.std.proofs.lemmas.List.Splits.{length-slice_split, slice_split_first, slice_split_none}
use Rattle.std.proofs.lemmas.List.Sums.{fails_before_first, prefix_len-le-length}
use Rattle.std.specs.List.{All, position, position_or_len}
use Rattle.std.specs.Result.{MatchResult, result_ok}
use Rattle.sift_line.specs.Line.{HasVersion, IsLine, line_text}
use Rattle.sift_line.specs.Texts.{texts_of}
use Rattle.sift_line.specs.declared.line.ReportLine.{ReportLine}
use Rattle.sift_line.specs.declared.line.Version.{Version}
use Rattle.sift_judge_jobs.specs.Lines.{AreAllRead, BeginsRefused, IsFirstRefused, IsLineOf, IsNoLine}
use Rattle.sift_judge_jobs.proofs.Readings.{head_same, more, tail_same}

-- a line that is a text, and is the only one with it
pub record IsOnly (version : Version) (line : ReportLine) : Type 0 where
  pub read : IsLineOf version line
  pub only : (other : ReportLine) → IsLineOf version other → line_text other ≡ line_text line → other ≡ line

-- the report is that of these lines and of the rest
pub record IsReadTo (version : Version) (report : List ℕ) (lines : List ReportLine) (rest : List ℕ) : Type 0 where
  pub all : All (IsOnly version) lines
  pub texts : map line_text lines ++ texts_of rest ≡ texts_of report

-- before a line is read, a report is that of no lines and of the whole rest
pub begun : (version : Version) (report : List ℕ) → IsReadTo version report [] report
begun version report = record { all = All-nil (IsOnly version); texts = refl }

-- a line more
pub one_more : (version : Version) (report rest later : List ℕ) (lines : List ReportLine) (line : ReportLine) → IsReadTo version report lines rest
    → IsOnly version line → line_text line ∷ texts_of later ≡ texts_of rest → IsReadTo version report (lines ++ line ∷ []) later
one_more version report rest later lines line so_far is begins = record {
  all = All-push (IsOnly version) lines line so_far.all is;
  texts = ap (λ (texts : List (List ℕ)). texts ++ texts_of later) (map-append line_text lines (line ∷ []))
      ∙ append_assoc (map line_text lines) (line_text line ∷ []) (texts_of later)
      ∙ ap (λ (texts : List (List ℕ)). map line_text lines ++ texts) begins ∙ so_far.texts;
}

-- lines with the same texts as some that are the only ones are these
same_lines : (version : Version) (lines others : List ReportLine) → All (IsOnly version) lines → All (IsLineOf version) others
    → map line_text others ++ [] ∷ [] ≡ map line_text lines ++ [] ∷ [] → others ≡ lines
same_lines version [] [] only are same = refl
same_lines version [] (other ∷ others) only are same = absurd (more (map line_text others) [] [] (tail_same _ _ _ _ same))
same_lines version (line ∷ lines) [] only are same = absurd (more (map line_text lines) [] [] (sym (tail_same _ _ _ _ same)))
same_lines version (line ∷ lines) (other ∷ others) only are same =
    let first = (All-head (IsOnly version) line lines only).only other (All-head (IsLineOf version) other others are) (head_same _ _ _ _ same) in
    let rest = same_lines version lines others (All-tail (IsOnly version) line lines only) (All-tail (IsLineOf version) other others are) (tail_same _ _ _ _ same) in
    λ i. first i ∷ rest i

-- the whole report is read where nothing is left
pub finished : (version : Version) (report rest : List ℕ) (lines : List ReportLine) → IsReadTo version report lines rest → length rest ≡ 0
    → AreAllRead version report lines
finished version report (byte ∷ rest) lines so_far none = absurd (omega (arith, none))
finished version report [] lines so_far none = record {
  read = record { all = All-weaker (IsOnly version) (IsLineOf version) (λ line is. is.read) lines so_far.all; texts = so_far.texts };
  only = λ others read. same_lines version lines others so_far.all read.all (read.texts ∙ sym so_far.texts);
}

-- it is refused where the rest begins with what is refused
pub stops : (version : Version) (report rest : List ℕ) (lines : List ReportLine) → IsReadTo version report lines rest → BeginsRefused version rest
    → (number : ℕ) → number ≡ length lines + 1 → IsFirstRefused version report number
stops version report rest lines so_far (text, later, are, refused) number counted = record {
  before = lines;
  text = text;
  later = later;
  all = All-weaker (IsOnly version) (IsLineOf version) (λ line is. is.read) lines so_far.all;
  texts = ap (λ (texts : List (List ℕ)). map line_text lines ++ texts) are ∙ so_far.texts;
  refused = refused;
  counted = counted;
}

-- ---- the first text of what is left

-- some text stands behind each line feed
some_texts : (report : List ℕ) → texts_of report ≢ []
some_texts report none =
    let long = length-slice_split (λ b. eqb b 10) report in
    let short : length (texts_of report) ≡ 0 = ap length none in
    omega (arith, long, short)

-- it ends before the first line feed
pub first_text : (report : List ℕ) (end : ℕ) → position_or_len (λ b. eqb b 10) report ≡ end → end < length report
    → take end report ∷ texts_of (drop (end + 1) report) ≡ texts_of report
first_text report end at inside = subst (λ n. take n report ∷ texts_of (drop (n + 1) report) ≡ texts_of report) at
    (sym (slice_split_first (λ b. eqb b 10) report 0 (omega (arith, at, inside))))

-- where it is no line's it is refused
pub first_refused : (version : Version) (report : List ℕ) (end : ℕ) → position_or_len (λ b. eqb b 10) report ≡ end → end < length report
    → IsNoLine version (take end report) → BeginsRefused version report
first_refused version report end at inside none =
    (take end report, texts_of (drop (end + 1) report), first_text report end at inside, inr (some_texts (drop (end + 1) report), none))

-- so is one that no line feed ends
pub unended : (version : Version) (report : List ℕ) → report ≢ [] → position_or_len (λ b. eqb b 10) report ≡ length report → BeginsRefused version report
unended version report some none =
    let fail : All (λ b. eqb b 10 ≡ false) report =
    All-from_get_or (λ b. eqb b 10 ≡ false) report 0 (λ i inside. fails_before_first (λ b. eqb b 10) report i 0 (omega (arith, none, inside))) in
    let alone : texts_of report ≡ report ∷ [] = slice_split_none (λ b. eqb b 10) report fail in
    (report, [], sym alone, inl (refl, some))

-- ---- as the code finds it

-- a part of a list to its end is all of the rest
pub to_the_end : {X : Type 0} (xs : List X) (n : ℕ) → take (length xs - n) (drop n xs) ≡ drop n xs
to_the_end xs n = take_all (length xs - n) (drop n xs) (let long = length-drop n xs in omega (arith, long))

-- the first line feed, where there is one
pub found_end : (report : List ℕ) (found : Option ℕ) (end : ℕ) → found ≡ position (λ b. eqb b 10) report → found ≡ Some end
    → (position_or_len (λ b. eqb b 10) report ≡ end) × (end < length report)
found_end report found end is there =
    ⊎_elim
    (λ (inside : position_or_len (λ b. eqb b 10) report < length report).
    let at : Some (position_or_len (λ b. eqb b 10) report) ≡ Some end =
    ap (λ b. cond b (Some (position_or_len (λ b. eqb b 10) report)) None) (sym (lt-ltb _ _ inside)) ∙ sym is ∙ there in
    let same : position_or_len (λ b. eqb b 10) report ≡ end = cc in
    (same, omega (arith, same, inside)))
    (λ (past : length report ≤ position_or_len (λ b. eqb b 10) report).
    let none : None ≡ Some end =
    ap (λ b. cond b (Some (position_or_len (λ b. eqb b 10) report)) None) (sym (le-ltb _ _ past)) ∙ sym is ∙ there in
    absurd cc)
    (cases_lt (position_or_len (λ b. eqb b 10) report) (length report))

-- there is none
pub no_end : (report : List ℕ) (found : Option ℕ) → found ≡ position (λ b. eqb b 10) report → found ≡ None
    → position_or_len (λ b. eqb b 10) report ≡ length report
no_end report found is none =
    ⊎_elim
    (λ (inside : position_or_len (λ b. eqb b 10) report < length report).
    let some : Some (position_or_len (λ b. eqb b 10) report) ≡ None =
    ap (λ b. cond b (Some (position_or_len (λ b. eqb b 10) report)) None) (sym (lt-ltb _ _ inside)) ∙ sym is ∙ none in
    absurd cc)
    (λ (past : length report ≤ position_or_len (λ b. eqb b 10) report).
    let within = prefix_len-le-length (λ b. not (eqb b 10)) report in
    omega (arith, past, within))
    (cases_lt (position_or_len (λ b. eqb b 10) report) (length report))

-- what is none isn't there
pub not_there : {X : Type 0} (found : Option X) (x : X) → found ≡ None → found ≢ Some x
not_there found x none some = cc

-- what was found there is as it was found
pub found_as : {X E : Type 0} (found : Result X E) (x : X) (Is : X → Type 0) (Not : E → Type 0) → result_ok found ≡ Some x → MatchResult found Is Not → Is x
found_as (Ok y) x Is Not there is = let same : y ≡ x = cc in subst Is same is
found_as (Err e) x Is Not there not = absurd cc

-- and what wasn't found failed so
pub failed_as : {X E : Type 0} (found : Result X E) (Is : X → Type 0) (Not : E → Type 0) → result_ok found ≡ None → MatchResult found Is Not → (e : E) × Not e
failed_as (Ok y) Is Not there is = absurd cc
failed_as (Err e) Is Not there not = (e, not)

-- a line that is read in a version is one of it
pub read_as : (version : Version) (found : Option ReportLine) → IfSome found IsLine → IfSome found (HasVersion version) → IfSome found (IsLineOf version)
read_as version None holds told = tt
read_as version (Some line) holds told = record { holds = holds; told = told }
