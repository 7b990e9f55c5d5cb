-- The line that a text begins with ends at its first line feed.
use Rattle.std.proofs.Common.{◌≡◌, ◌∙◌, ◌++◌, ◌∷◌, ◌+◌, ◌==◌, [], ℕ, Bool, true, false, List, cond, length, take, count_by, append_assoc, append-nil, ap, sym, refl, subst, arith, inl, inr}
use Rattle.std.specs.List.{All, before_first, position_or_len}
use Rattle.std.proofs.lemmas.Grind.{common_steps}
use Rattle.std.proofs.lemmas.List.{append_cancel_left, get_or_append_left, get_or_at, length-append, take_at}
use Rattle.std.proofs.lemmas.List.Elements.{All-cons, All-nil}
use Rattle.std.proofs.lemmas.List.Splits.{length-slice_split}
use Rattle.std.proofs.lemmas.List.Sums.{position_or_len_is, sum_by-cons, sum_by_push}
use Rattle.sift_line.specs.Line.{IsLine, line_text, printed}
use Rattle.sift_line.specs.Texts.{LinesComeApart, texts_of}
use Rattle.sift_line.specs.declared.line.ReportLine.{ReportLine}
use Rattle.sift_line.specs.declared.line.Version.{Version}
use Rattle.sift_reread.specs.Report.{BeginsWithNoLine, IsLineIn, line_feed}

-- a byte is no line feed
abbrev NoFeed : ℕ → Type 0
NoFeed byte = (byte == line_feed) ≡ false

not_counted : (passes : Bool) → ◌≡◌ {A = ℕ} (cond passes 1 0) 0 → passes ≡ false
not_counted false none = refl
not_counted true none = absurd (omega (arith, none))

-- where no line feed is counted, none stands
none_counted : (text : List ℕ) → count_by (λ b. b == line_feed) text ≡ 0 → All NoFeed text
none_counted [] none = All-nil NoFeed
none_counted (b ∷ bs) none =
    let parts = sum_by-cons (λ b. cond (b == line_feed) 1 0) b bs in
    All-cons NoFeed b bs (not_counted (b == line_feed) (omega (arith, none, parts))) (none_counted bs (omega (arith, none, parts)))

module _ (apart : LinesComeApart) where
  -- no line has a line feed
  no_feed : (line : ReportLine) → IsLine line → All NoFeed (line_text line)
  no_feed line holds =
      let two : length (texts_of (printed line ++ [])) ≡ 2 = sym (ap length (apart (line ∷ []) (All-cons IsLine line [] holds (All-nil IsLine)))) in
      let cuts = length-slice_split (λ b. b == line_feed) (printed line ++ []) in
      let same = ap (λ (text : List ℕ). count_by (λ b. b == line_feed) text) (append-nil (printed line)) in
      let more : count_by (λ b. b == line_feed) (printed line) ≡ count_by (λ b. b == line_feed) (line_text line) + 1 =
      sum_by_push (λ b. cond (b == line_feed) 1 0) (line_text line) 10 in
      none_counted (line_text line) (omega (arith, two, cuts, same, more))

  -- the first line feed of what begins with a line stands behind it
  feed_at : (line : ReportLine) (later : List ℕ) → IsLine line
      → position_or_len (λ b. b == line_feed) (printed line ++ later) ≡ length (line_text line)
  feed_at line later holds =
      let text = line_text line in
      let none = no_feed line holds in
      subst (λ (whole : List ℕ). position_or_len (λ b. b == line_feed) whole ≡ length text) (sym (append_assoc text (10 ∷ []) later))
      (position_or_len_is (λ b. b == line_feed) (text ++ 10 ∷ later) (length text) 0 (grind (arith, common_steps))
      (λ k low. rw get_or_append_left (none k 0 low)) (λ _. rw (get_or_at text 10 later 0 (length text) refl) refl))

  -- so what stands before it is the line
  pub line_before : (line : ReportLine) (later : List ℕ) → IsLine line → before_first (λ b. b == line_feed) (printed line ++ later) ≡ line_text line
  line_before line later holds =
      ap (λ n. take n (printed line ++ later)) (feed_at line later holds)
      ∙ ap (λ (whole : List ℕ). take (length (line_text line)) whole) (append_assoc (line_text line) (10 ∷ []) later)
      ∙ take_at (line_text line) (10 ∷ later) (length (line_text line)) refl

  -- and what begins with a line doesn't begin with none
  pub begins : (version : Version) (line : ReportLine) (later : List ℕ) → IsLineIn version line → ¬ BeginsWithNoLine version (printed line ++ later)
  begins version line later is (inl no_feed_there) =
      let at = feed_at line later is.0 in
      let whole = length-append (printed line) later in
      let first = length-append (line_text line) (10 ∷ []) in
      absurd (omega (arith, no_feed_there, at, whole, first))
  begins version line later is (inr no_line) = absurd (no_line line is (sym (line_before line later is.0)))

  -- two texts that begin with a line are one only where the lines are printed alike and go on alike
  pub goes_on : (one other : ReportLine) (later behind : List ℕ) → IsLine one → IsLine other → printed one ++ later ≡ printed other ++ behind → later ≡ behind
  goes_on one other later behind is so same =
      let lines : line_text one ≡ line_text other =
      sym (line_before one later is) ∙ ap (λ (whole : List ℕ). before_first (λ b. b == line_feed) whole) same ∙ line_before other behind so in
      append_cancel_left (printed other) later behind (ap (λ (line : List ℕ). (line ++ 10 ∷ []) ++ later) (sym lines) ∙ same)
