-- What is known at a place is what is in force there: the record of what agrees, and that keywords keep it.
use Rattle.std.proofs.Common.{◌≡◌, ℕ, ◌<◌, List, length, Some, is_none, unwrap_or, refl, sym, ap, ◌∙◌, subst}
use Rattle.sift_parse.specs.declared.token.Keyword.{Keyword}
use Rattle.sift_parse.specs.declared.token.Keyword.TheVariants.{Let, Out, If, Else, Repeat, Mid, Sense, Now, Last}
use Rattle.sift_parse.specs.Force.{Force, at_start, advance, keyword_before, task_asked, word_token, token_of}
use Rattle.sift_parse.specs.Lexeme.{keyword_of}
use Rattle.sift_parse.specs.Levels.{ends_operand}
use Rattle.sift_parse.specs.Pieces.{Item, key, keyword_bytes, lexeme_for}
use Rattle.sift_parse.specs.Roll.{Roll, number_in}
use Rattle.sift_parse.specs.Scanned.{NoneAt}
use Rattle.sift_parse.specs.Tokens.{task_after, index_meant}
use Rattle.sift_parse.proofs.Printing.Keywords.{keyword-is, keyword-short}
use Rattle.sift_parse.proofs.Printing.Known.{after_key, Known, at_front, key_before, ends_in, known_after, asked_by, index_by, token_by}
use Rattle.sift_parse.proofs.Printing.MayStand.{FitsLet, MayStand}
use Rattle.sift_parse.proofs.Refusals.Fine.{none_at_keyword}
use Rattle.sift_parse.proofs.Sound.Force.{word_force}

-- what is known is what is in force
pub record Agrees (r : Roll) (f : Force) (h : Known) : Type 0 where
  pub key : keyword_before f ≡ key_before h.before
  pub ends : ends_operand f.before ≡ ends_in h.before
  pub asked : task_asked r f f.before ≡ asked_by r h.before
  pub meant : (task n : ℕ) → index_meant r f.before task n ≡ index_by r h.before task n
  pub levels : f.levels ≡ h.levels
  pub locals : f.locals ≡ h.locals
  pub pending : f.pending ≡ h.pending
  pub named : (task : ℕ) → h.task ≡ Some task → unwrap_or (number_in r.tasks f.named) 0 ≡ task

-- nothing is known at the front of a text, and nothing is in force at its start
pub front-agrees : (r : Roll) → Agrees r at_start at_front
front-agrees r = record {
  key = refl;
  ends = refl;
  asked = refl;
  meant = λ task n. refl;
  levels = refl;
  locals = refl;
  pending = refl;
  named = λ task e. cc;
}

-- one lexeme: its token is the item's, no refusal stands at it, and what is known after it is in force
pub record Agreed (r : Roll) (f : Force) (h : Known) (i : Item) : Type 0 where
  pub token : token_of r f (lexeme_for i) ≡ token_by r h i
  pub none : NoneAt r f (lexeme_for i)
  pub after : Agrees r (advance f (lexeme_for i)) (known_after h i)

-- one more local may live, by what is in force
pub lets-agree : (r : Roll) (f : Force) (h : Known) → Agrees r f h → FitsLet (length h.locals) (key_before h.before)
    → FitsLet (length f.locals) (keyword_before f)
lets-agree r f h a fits e = subst (λ l. length l < 32) (sym a.locals) (fits (sym a.key ∙ e))

-- ---- keywords

-- a keyword asks for the words of this task, or for none
asked-after : (r : Roll) (k : Keyword) → task_after r (Some k) ≡ asked_by r (after_key k)
asked-after r Let = refl
asked-after r Out = refl
asked-after r If = refl
asked-after r Else = refl
asked-after r Repeat = refl
asked-after r Mid = refl
asked-after r Sense = refl
asked-after r Now = refl
asked-after r Last = refl

-- what is known after a keyword is in force after it
keyword-agrees : (r : Roll) (f : Force) (h : Known) (w : List ℕ) (k : Keyword) → keyword_of w ≡ Some k → Agrees r f h
    → Agrees r (word_force (Some k) w f) (known_after h (key k))
keyword-agrees r f h w k e a = record {
  key = e;
  ends = ap is_none e;
  asked = ap (task_after r) e ∙ asked-after r k;
  meant = λ task n. refl;
  levels = a.levels;
  locals = a.locals;
  pending = a.pending;
  named = λ task e. cc;
}

-- a keyword is its token, and nothing is refused of it
pub keyword-agreed : (r : Roll) (f : Force) (h : Known) (k : Keyword) → Agrees r f h → MayStand r h (key k) → Agreed r f h (key k)
keyword-agreed r f h k a may =
    let w = keyword_bytes k in
    let e = keyword-is k in
    record {
      token = ap (word_token r f w) e;
      none = none_at_keyword r f w k (keyword-short k) (lets-agree r f h a may) e;
      after = subst (λ o. Agrees r (word_force o w f) (known_after h (key k))) (sym e) (keyword-agrees r f h w k e a);
    }
