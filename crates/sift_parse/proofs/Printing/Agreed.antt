-- What is known at each printed item is what is in force at its lexeme: numbers, operators, other signs, and all of them.
use Rattle.std.proofs.Common.{◌≡◌, ℕ, ◌<◌, ◌≤◌, not, true, false, ◌∷◌, length, slice_index, Option, Some, None, refl, sym, ap, ◌∙◌, subst, arith}
use Rattle.std.specs.Prelude.{Bool, if◌then◌else◌, nat_lt, nat_le}
use Rattle.std.proofs.lemmas.Bool.Decides.{nat_tests}
use Rattle.sift_lang.specs.declared.tree.Op.{Op}
use Rattle.sift_lang.specs.declared.tree.Op.TheVariants.{Add, Sub, Mul, Div, Rem, And, Or, Xor, Shl, Shr, Lt, Eq}
use Rattle.sift_parse.specs.Force.{Force, negation, opens, without_minuses}
use Rattle.sift_parse.specs.Levels.{ends_operand}
use Rattle.sift_parse.specs.Lexeme.{Lexeme, operator, number_limit}
use Rattle.sift_parse.specs.Pieces.{figure, joined}
use Rattle.sift_parse.specs.Refusal.{OfSome}
use Rattle.sift_parse.specs.Roll.{Roll}
use Rattle.sift_parse.specs.Tokens.{index_meant, number_token}
use Rattle.sift_parse.proofs.Printing.Agrees.{Agrees, Agreed}
use Rattle.sift_parse.proofs.Printing.Known.{Before, Known, ends_in, is_minus_after, after_operator, known_after, asked_by, index_by, figure_token}
use Rattle.sift_parse.proofs.Printing.MayStand.{FitsLevel, HasWord, MayStand}
use Rattle.sift_parse.proofs.Refusals.Fine.{none_at_operator, none_at_number}

-- ---- numbers

-- a task that has the word doesn't lack it
has-word : (r : Roll) (o : Option ℕ) (n : ℕ) → HasWord r o n → OfSome (λ task. slice_index r.sizes task ≤ n) o → ⊥
has-word r (Some task) n lt le = omega arith
has-word r None n lt h = h

-- the token of a number that is small, and that of a word that is there
number-token : (r : Roll) (b : Option Lexeme) (before : Before) (o : Option ℕ) (n : ℕ)
    → ((task n : ℕ) → index_meant r b task n ≡ index_by r before task n) → n ≤ number_limit → HasWord r o n
    → number_token r b o n ≡ figure_token r before o n
number-token r b before (Some task) n meant small lt =
    let test : nat_lt n (slice_index r.sizes task) ≡ true = grind (arith, nat_tests) in
    let same = meant task n in
    rw (test, same) refl
number-token r b before None n meant small lt = let test : nat_le n 65535 ≡ true = grind (arith, nat_tests) in rw test refl

-- a number keeps what is known
pub figure-agreed : (r : Roll) (f : Force) (h : Known) (n : ℕ) → Agrees r f h → MayStand r h (figure n) → Agreed r f h (figure n)
figure-agreed r f h n a may = record {
  token =
      ap (λ o. number_token r f.before o n) a.asked ∙ number-token r f.before h.before (asked_by r h.before) n a.meant may.0 may.2;
  none =
      none_at_number r f n may.0 (λ e. may.1 (sym a.key ∙ e))
      (λ x. has-word r (asked_by r h.before) n may.2 (subst (λ o. OfSome (λ task. slice_index r.sizes task ≤ n) o) a.asked x));
  after = record {
    key = refl;
    ends = refl;
    asked = refl;
    meant = λ task n. refl;
    levels = ap without_minuses a.levels;
    locals = a.locals;
    pending = a.pending;
    named = a.named;
  };
}

-- ---- operators

-- an operator opens a minus by what is known where it does by what is in force
opens-same : (f : Force) (b : Before) (op : Op) → ends_operand f.before ≡ ends_in b → opens f (operator op) ≡ is_minus_after b op
opens-same f b Sub e = ap not e
opens-same f b Add e = refl
opens-same f b Mul e = refl
opens-same f b Div e = refl
opens-same f b Rem e = refl
opens-same f b And e = refl
opens-same f b Or e = refl
opens-same f b Xor e = refl
opens-same f b Shl e = refl
opens-same f b Shr e = refl
opens-same f b Lt e = refl
opens-same f b Eq e = refl

-- what is in force after an operator, which is a minus or isn't
abbrev operator_force : Bool → Op → Force → Force
operator_force minus op f = record (if minus then record f { levels = negation ∷ f.levels } else f) { before = Some (operator op) }

-- an operator keeps what is known, whether it is a minus or not
operator-agrees : (r : Roll) (f : Force) (h : Known) (op : Op) (minus : Bool) → Agrees r f h
    → Agrees r (operator_force minus op f) (after_operator minus h)
operator-agrees r f h op true a = record {
  key = refl;
  ends = refl;
  asked = refl;
  meant = λ task n. refl;
  levels = ap (λ l. negation ∷ l) a.levels;
  locals = a.locals;
  pending = a.pending;
  named = a.named;
}
operator-agrees r f h op false a = record {
  key = refl;
  ends = refl;
  asked = refl;
  meant = λ task n. refl;
  levels = a.levels;
  locals = a.locals;
  pending = a.pending;
  named = a.named;
}

-- one more level may be open, by what is in force
pub levels-agree : (r : Roll) (f : Force) (h : Known) (opens closed : Bool) → Agrees r f h → opens ≡ closed → FitsLevel closed (length h.levels)
    → FitsLevel opens (length f.levels)
levels-agree r f h opens closed a same fits e = subst (λ l. length l < 32) (sym a.levels) (fits (sym same ∙ e))

-- an operator is the token that is computed, and nothing is refused of it
pub operator-agreed : (r : Roll) (f : Force) (h : Known) (op : Op) → Agrees r f h → MayStand r h (joined op) → Agreed r f h (joined op)
operator-agreed r f h op a may =
    let minus = is_minus_after h.before op in
    let e = opens-same f h.before op a.ends in
    record {
      token = refl;
      none = none_at_operator r f op (levels-agree r f h (opens f (operator op)) minus a e may);
      after = subst (λ b. Agrees r (operator_force b op f) (known_after h (joined op))) (sym e) (operator-agrees r f h op minus a);
    }
