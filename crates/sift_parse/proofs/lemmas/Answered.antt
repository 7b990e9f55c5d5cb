-- No text is without an answer: where no refusal stands, its lexemes go on to its end, and are a task.
use Rattle.std.proofs.Common.{◌≡◌, ◌≢◌, ℕ, suc, zero, ◌+◌, ◌-◌, ◌<◌, ◌≤◌, Bool, true, false, cond, inl, inr, ◌==◌, List, [], ◌∷◌, ◌++◌, length, slice_index, refl, sym, ap, ◌∙◌, subst, arith, length-append}
use Rattle.std.proofs.lemmas.Bool.{cases_lt}
use Rattle.std.specs.Str.{byte}
use Rattle.sift_lang.specs.Tree.{TaskTree}
use Rattle.sift_parse.specs.declared.task.ParseStop.TheVariants as stop
use Rattle.sift_parse.specs.declared.task.Which.TheVariants as which
use Rattle.sift_parse.specs.Answer.{HasAnswer, a_task, a_refusal, NoTextIsUnanswered}
use Rattle.sift_parse.specs.Lexeme.{Lexeme, Spells, IsLexeme, Placed, Lexes, no_lexeme, is_blank, after_gap, after_comment, text_limit}
use Rattle.sift_parse.specs.Refusal.{lexemes_of}
use Rattle.sift_parse.specs.Scanned.{Kind, no_lexeme_here, no_syntax, long_name, large_number, many_rounds, many_locals, deep_level, unknown_name, later_task, order_of}
use Rattle.sift_parse.proofs.Refusals.Kinds.{Stands, stop_for, NoneEarlier, none_told, IsRefusedFor, kind-stops}
use Rattle.sift_parse.specs.Roll.{Roll}
use Rattle.sift_parse.proofs.Lexing.Gaps.{Lexes-more}
use Rattle.sift_parse.proofs.Lexing.OneLexing.{one_rest}
use Rattle.sift_parse.proofs.Refusals.OneRefusal.{sided, Sided, at_one, earlier, later}
use Rattle.sift_parse.proofs.Refusals.Standing.{spells-some}

-- ---- refusals and their answers

-- no refusal is want of memory
no-memory : (kind : Kind) (at : ℕ) → stop_for kind at ≢ stop.NoMemory
no-memory no_lexeme_here at e = cc
no-memory no_syntax at e = cc
no-memory long_name at e = cc
no-memory large_number at e = cc
no-memory many_rounds at e = cc
no-memory many_locals at e = cc
no-memory deep_level at e = cc
no-memory unknown_name at e = cc
no-memory later_task at e = cc

-- ---- what is left of a text

gap-short : (blank hash : Bool) (b : ℕ) (bs : List ℕ) → length (after_gap bs) ≤ length bs → length (after_comment bs) ≤ length bs
    → length (cond blank (after_gap bs) (cond hash (after_comment bs) (b ∷ bs))) ≤ suc (length bs)
gap-short true hash b bs gap comment = omega arith
gap-short false true b bs gap comment = omega arith
gap-short false false b bs gap comment = omega arith

comment-short : (line : Bool) (bs : List ℕ) → length (after_gap bs) ≤ length bs → length (after_comment bs) ≤ length bs
    → length (cond line (after_gap bs) (after_comment bs)) ≤ suc (length bs)
comment-short true bs gap comment = omega arith
comment-short false bs gap comment = omega arith

mutual
  after_gap-short : (bs : List ℕ) → length (after_gap bs) ≤ length bs
  after_gap-short [] = omega arith
  after_gap-short (b ∷ bs) = gap-short (is_blank b) (b == byte "#") b bs (after_gap-short bs) (after_comment-short bs)

  after_comment-short : (bs : List ℕ) → length (after_comment bs) ≤ length bs
  after_comment-short [] = omega arith
  after_comment-short (b ∷ bs) = comment-short (b == byte "\n") bs (after_gap-short bs) (after_comment-short bs)

some-bytes : (l : Lexeme) (bytes : List ℕ) → Spells l bytes → 0 < length bytes
some-bytes l [] h = absurd (spells-some l [] refl h)
some-bytes l (b ∷ bytes) h = omega arith

-- a lexeme leaves less
lexeme-short : (text mid : List ℕ) (l : Lexeme) → IsLexeme text l mid → length mid < length text
lexeme-short text mid l x =
    let some = some-bytes l x.spelled x.spells in
    let long : length text ≡ length x.spelled + length mid = ap length x.split ∙ length-append x.spelled mid in
    omega arith

-- ---- a text without an answer

module _ (r : Roll) (text : List ℕ) (short : length text ≤ text_limit) (none : ¬ HasAnswer r text) where
  -- no refusal stands at a place before which none does
  module _ (front : List Placed) (rest : List ℕ) (lexes : Lexes (length text) text front rest) (fine : NoneEarlier r text front) where
    none-below : (n : ℕ) (kind : Kind) → order_of kind < n → ¬ Stands r (lexemes_of front) rest kind
    none-below zero kind lt h = omega arith
    none-below (suc n) kind lt h =
        let at = length text - length rest in
        let first : (other : Kind) → order_of other < order_of kind → ¬ Stands r (lexemes_of front) rest other =
        (λ other lower. none-below n other (omega (arith, lower, lt))) in
        let refused : IsRefusedFor r text kind at =
        record {
          front = front;
          rest = rest;
          lexes = lexes;
          place = refl;
          stands = h;
          first_kind = first;
          first_place = none_told r text front fine;
        } in
        none (a_refusal (stop_for kind at) (no-memory kind at) (kind-stops r text kind at short refused))

    none-here : (kind : Kind) → ¬ Stands r (lexemes_of front) rest kind
    none-here kind = none-below (suc (order_of kind)) kind (omega arith)

    -- nor at a place before the lexeme that follows
    before-more : (p : Placed) (before more : List Placed) (back : List ℕ) (kind : Kind) → front ++ p ∷ [] ≡ before ++ more → more ≢ []
        → Lexes (length text) text before back → Stands r (lexemes_of before) back kind → Sided before front → ⊥
    before-more p before more back kind e some x h (at_one same) =
        let ends : back ≡ rest = one_rest (length text) text front back rest (subst (λ ps. Lexes (length text) text ps back) same x) lexes in
        none-here kind (subst (λ t. Stands r (lexemes_of front) t kind) ends (subst (λ ps. Stands r (lexemes_of ps) back kind) same h))
    before-more p before more back kind e some x h (earlier q others split) = fine before (q ∷ others) back kind split (λ z. cc) x h
    before-more p before [] back kind e some x h (later q others split) = some refl
    before-more p before (m ∷ more) back kind e some x h (later q others split) =
        let whole : length front + 1 ≡ length before + suc (length more) = sym (length-append front (p ∷ [])) ∙ ap length e ∙ length-append before (m ∷ more) in
        let longer : length before ≡ length front + suc (length others) = ap length split ∙ length-append front (q ∷ others) in
        omega arith

    none-more : (p : Placed) → NoneEarlier r text (front ++ p ∷ [])
    none-more p before more back kind e some x h = before-more p before more back kind e some x h (sided (length text) text before front back rest x lexes)

  -- where the text ends, its tokens are no task; and that is a refusal
  at-end : (front : List Placed) → Lexes (length text) text front [] → NoneEarlier r text front → ⊥
  at-end front lexes fine = none-here front [] lexes fine no_syntax (λ body task. none (a_task
      (let tree : TaskTree = record { outputs = slice_index r.sizes r.this; body = body } in tree)
      (record { short = short; parsed = record { front = front; lexes = lexes; task = task; fine = none_told r text front fine }; outputs = refl })))

  -- lexeme by lexeme
  climb : (n : ℕ) (front : List Placed) (rest : List ℕ) → length rest ≤ n → Lexes (length text) text front rest → NoneEarlier r text front
      → ⊥
  climb n front [] low lexes fine = at-end front lexes fine
  climb zero front (b ∷ bs) low lexes fine = omega arith
  climb (suc n) front (b ∷ bs) low lexes fine = none-here front (b ∷ bs) lexes fine no_lexeme_here (
    (λ e. cc),
    λ l mid x.
        let p : Placed = record { lexeme = l; at = length text - length (b ∷ bs) } in
        let less = lexeme-short (b ∷ bs) mid l x in
        let gap = after_gap-short mid in
        climb n (front ++ p ∷ []) (after_gap mid) (omega (arith, less, gap, low)) (Lexes-more (length text) text (b ∷ bs) mid l front lexes x)
        (none-more front (b ∷ bs) lexes fine p),
  )

  none-first : NoneEarlier r text []
  none-first [] [] rest kind e some x h = some refl
  none-first [] (m ∷ more) rest kind e some x h = cc
  none-first (p ∷ before) more rest kind e some x h = cc

  absurd-short : ⊥
  absurd-short = climb (length (after_gap text)) [] (after_gap text) (omega arith) (no_lexeme text) none-first

-- it can't be that a text is neither the text of a task nor refused
pub no_text_is_unanswered : NoTextIsUnanswered
no_text_is_unanswered r text none = elim (cases_lt text_limit (length text)) [
  | inl long ↦ none (a_refusal (stop.Limit which.Text text_limit) (λ e. cc) (refl, long))
  | inr short ↦ absurd-short r text short none
]
