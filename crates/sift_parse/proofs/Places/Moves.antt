-- One more lexeme moves the levels as its token says.
use Rattle.std.proofs.Common.{◌≡◌, ℕ, suc, Bool, true, false, not, ◌&&◌, if◌then◌else◌, Option, Some, None, List, [], ◌∷◌, ◌++◌, refl, sym, ap, ◌∙◌, subst, is_none}
use Rattle.sift_lang.specs.declared.tree.Op.{Op}
use Rattle.sift_lang.specs.declared.tree.Op.TheVariants.{Sub}
use Rattle.sift_parse.specs.declared.token.Keyword as keywords
use Rattle.sift_parse.specs.declared.token.Keyword.TheVariants.{Let, Sense, Now, Last}
use Rattle.sift_parse.specs.declared.token.Sign as signs
use Rattle.sift_parse.specs.declared.token.Sign.TheVariants.{OpenParen, CloseParen, OpenBrace, CloseBrace}
use Rattle.sift_parse.specs.declared.token.Token.TheVariants.{Name, Operator, Sign}
use Rattle.sift_parse.specs.Force.{Force, keyword_before, opens_after, word_token, task_asked, token_of, Role, new_local, a_sensor, a_task, old_local, role_after}
use Rattle.sift_parse.specs.Lexeme.{keyword_of, Lexeme, word, numeral, operator, mark}
use Rattle.sift_parse.specs.Roll.{Roll}
use Rattle.sift_parse.specs.Levels.{ends_operand, reads_task, ends_prim}
use Rattle.sift_parse.proofs.Places.States.{state_of, number-next, opens_by}
use Rattle.sift_parse.proofs.Places.Tidy.{Open, brace, paren, minus, State, bare, tail_of, next_name, next_operator, next, OnlyBraces, InBlock, InParen, OkHere, Ok}
use Rattle.sift_parse.proofs.Places.Depths.{listed, moved, fresh}
use Rattle.sift_parse.proofs.Places.Layers.{ann, Layered, layered-bare, layered-braces, NoBracket, moved-braces, moved-quiet, moved-end}

-- ---- brackets

open-paren : (b : Option Lexeme) (p q : ℕ) (ls : List Open) → moved b (mark OpenParen) (ann p q ls) ≡ ann (suc p) q ls
open-paren b p q [] = refl
open-paren b p q (brace ∷ ls) = ap (λ es. record { kind = brace; depth = q } ∷ es) (open-paren b p (suc q) ls)
open-paren b p q (paren ∷ ls) = ap (λ es. record { kind = paren; depth = suc p } ∷ es) (open-paren b (suc p) q ls)
open-paren b p q (minus ∷ ls) = ap (λ es. record { kind = minus; depth = suc p } ∷ es) (open-paren b p q ls)

open-brace : (b : Option Lexeme) (p q : ℕ) (ls : List Open) → OnlyBraces ls → moved b (mark OpenBrace) (ann p q ls) ≡ ann p (suc q) ls
open-brace b p q [] h = refl
open-brace b p q (brace ∷ ls) h = ap (λ es. record { kind = brace; depth = suc q } ∷ es) (open-brace b p (suc q) ls h)
open-brace b p q (paren ∷ ls) h = absurd h
open-brace b p q (minus ∷ ls) h = absurd h

close-brace : (b : Option Lexeme) (p q : ℕ) (ls : List Open) → OnlyBraces ls → moved b (mark CloseBrace) (ann p (suc q) ls) ≡ ann p q ls
close-brace b p q [] h = refl
close-brace b p q (brace ∷ ls) h = ap (λ es. record { kind = brace; depth = q } ∷ es) (close-brace b p (suc q) ls h)
close-brace b p q (paren ∷ ls) h = absurd h
close-brace b p q (minus ∷ ls) h = absurd h

close-deep : (b : Option Lexeme) (p q : ℕ) (ls : List Open) → moved b (mark CloseParen) (ann (suc (suc p)) q ls) ≡ ann (suc p) q ls
close-deep b p q [] = refl
close-deep b p q (brace ∷ ls) = ap (λ es. record { kind = brace; depth = q } ∷ es) (close-deep b p (suc q) ls)
close-deep b p q (paren ∷ ls) = ap (λ es. record { kind = paren; depth = suc p } ∷ es) (close-deep b (suc p) q ls)
close-deep b p q (minus ∷ ls) = ap (λ es. record { kind = minus; depth = suc p } ∷ es) (close-deep b p q ls)

close-braces : (b : Option Lexeme) (p s q : ℕ) (ls : List Open) → OnlyBraces ls → moved b (mark CloseParen) (ann p q ls) ≡ ann s q ls
close-braces b p s q [] h = refl
close-braces b p s q (brace ∷ ls) h = ap (λ es. record { kind = brace; depth = q } ∷ es) (close-braces b p s (suc q) ls h)
close-braces b p s q (paren ∷ ls) h = absurd h
close-braces b p s q (minus ∷ ls) h = absurd h

close-paren : (b : Option Lexeme) (q : ℕ) (ls : List Open) → Layered ls → moved b (mark CloseParen) (ann 1 q ls) ≡ ann 0 q (bare ls)
close-paren b q [] h = refl
close-paren b q (brace ∷ ls) h = ap (λ es. record { kind = brace; depth = q } ∷ es) (close-braces b 1 0 (suc q) ls h)
close-paren b q (paren ∷ ls) h = ap (λ es. record { kind = paren; depth = 0 } ∷ es) (close-deep b 0 q ls)
close-paren b q (minus ∷ ls) h = close-paren b q ls h

-- ---- one more lexeme

-- the levels move as the token says
pub record Moves (b : Option Lexeme) (x : Lexeme) (ls new : List Open) : Type 0 where
  pub open_are : fresh b x ++ moved b x (ann 0 0 ls) ≡ ann 0 0 new
  pub layered : Layered new

ends-name : (b : Bool) (o : Option keywords.Keyword) (w : List ℕ) → keyword_of w ≡ o → (is_none (keyword_of w) && b) ≡ (is_none o && b)
ends-name b o w e = ap (λ o. is_none o && b) e

name-moves : (k : Option keywords.Keyword) (b : Option Lexeme) (w : List ℕ) (s : State) (n : ℕ) → ends_prim b (word w) ≡ not (reads_task k)
    → Layered s.levels → Ok (role_after k) s (Name n) → Moves b (word w) s.levels (next_name (role_after k) s).levels
name-moves (Some Let) b w s n e h ok = record { open_are = moved-braces b (word w) tt 0 0 s.levels ok.1; layered = h }
name-moves (Some Now) b w s n e h ok = record { open_are = moved-quiet b (word w) tt 0 0 s.levels e; layered = h }
name-moves (Some Last) b w s n e h ok = record { open_are = moved-quiet b (word w) tt 0 0 s.levels e; layered = h }
name-moves (Some Sense) b w s n e h ok = record { open_are = moved-end b (word w) tt 0 s.levels e h; layered = layered-bare s.levels h }
name-moves k b w s n e h ok = record { open_are = moved-end b (word w) tt 0 s.levels e h; layered = layered-bare s.levels h }

word-moves : (r : Roll) (f : Force) (w : List ℕ) (o : Option keywords.Keyword) → keyword_of w ≡ o → Layered (state_of f).levels
    → Ok (role_after (keyword_before f)) (state_of f) (word_token r f w o)
    → Moves f.before (word w) (state_of f).levels (next (state_of f) (word_token r f w o)).levels
word-moves r f w (Some k) e h ok =
    record {
      open_are = moved-quiet f.before (word w) tt 0 0 (state_of f).levels
          (ends-name (not (reads_task (keyword_before f))) (Some k) w e);
      layered = h;
    }
word-moves r f w None e h ok = name-moves (keyword_before f) f.before w (state_of f) _ (ends-name (not (reads_task (keyword_before f))) None w e) h ok

operator-opens : (b : Option Lexeme) (op : Op) → opens_after b (operator op) ≡ opens_by (ends_operand b) op
operator-opens b Sub = refl
operator-opens b op = refl

operator-levels : (op : Op) (c : Bool) (s : State)
    → (if opens_by c op then listed minus (Some 0) else []) ++ ann 0 0 s.levels ≡ ann 0 0 (next_operator c op s).levels
operator-levels Sub true s = refl
operator-levels Sub false s = refl
operator-levels op true s = refl
operator-levels op false s = refl

operator-layered : (op : Op) (c : Bool) (s : State) → Layered s.levels → Layered (next_operator c op s).levels
operator-layered Sub true s h = h
operator-layered Sub false s h = h
operator-layered op true s h = h
operator-layered op false s h = h

operator-moves : (f : Force) (op : Op) → Layered (state_of f).levels
    → Moves f.before (operator op) (state_of f).levels (next (state_of f) (Operator op)).levels
operator-moves f op h = record {
  open_are =
      ap (λ es. fresh f.before (operator op) ++ es) (moved-quiet f.before (operator op) tt 0 0 (state_of f).levels refl)
      ∙ ap (λ c. (if c then listed minus (Some 0) else []) ++ ann 0 0 (state_of f).levels) (operator-opens f.before op)
      ∙ operator-levels op (ends_operand f.before) (state_of f);
  layered = operator-layered op (ends_operand f.before) (state_of f) h;
}

paren-moves : (b : Option Lexeme) (ls : List Open) → Layered ls → InParen ls → Moves b (mark CloseParen) ls (bare (tail_of ls))
paren-moves b [] h k = absurd k
paren-moves b (brace ∷ ls) h k = absurd k
paren-moves b (minus ∷ ls) h k = absurd k
paren-moves b (paren ∷ ls) h k = record { open_are = close-paren b 0 ls h; layered = layered-bare ls h }

brace-moves : (b : Option Lexeme) (ls : List Open) → Layered ls → InBlock ls → Moves b (mark CloseBrace) ls (tail_of ls)
brace-moves b [] h k = absurd k
brace-moves b (paren ∷ ls) h k = absurd k
brace-moves b (minus ∷ ls) h k = absurd k
brace-moves b (brace ∷ ls) h k = record { open_are = close-brace b 0 0 ls h; layered = layered-braces ls h }

quiet-moves : (b : Option Lexeme) (x : Lexeme) (ls : List Open) → NoBracket x → fresh b x ≡ [] → ends_prim b x ≡ false → Layered ls
    → Moves b x ls ls
quiet-moves b x ls n e k h = record { open_are = ap (λ es. es ++ moved b x (ann 0 0 ls)) e ∙ moved-quiet b x n 0 0 ls k; layered = h }

mark-moves : (f : Force) (s : signs.Sign) → Layered (state_of f).levels → OkHere (state_of f) (Sign s)
    → Moves f.before (mark s) (state_of f).levels (next (state_of f) (Sign s)).levels
mark-moves f OpenParen h ok =
    record { open_are = ap (λ es. record { kind = paren; depth = 0 } ∷ es) (open-paren f.before 0 0 (state_of f).levels); layered = h }
mark-moves f CloseParen h ok = paren-moves f.before (state_of f).levels h ok
mark-moves f OpenBrace h ok =
    record {
      open_are = ap (λ es. record { kind = brace; depth = 0 } ∷ es) (open-brace f.before 0 0 (state_of f).levels ok.1);
      layered = ok.1;
    }
mark-moves f CloseBrace h ok = brace-moves f.before (state_of f).levels h ok.1
mark-moves f s h ok = quiet-moves f.before (mark s) (state_of f).levels tt refl refl h

number-moves : (b : Option Lexeme) (n : ℕ) (ls : List Open) → Layered ls → Moves b (numeral n) ls (bare ls)
number-moves b n ls h = record { open_are = moved-end b (numeral n) tt 0 ls refl h; layered = layered-bare ls h }

sign-ok : (role : Role) (s : State) (x : signs.Sign) → Ok role s (Sign x) → OkHere s (Sign x)
sign-ok new_local s x h = absurd h
sign-ok a_sensor s x h = h
sign-ok a_task s x h = h
sign-ok old_local s x h = h

-- a lexeme whose token may stand here moves layered levels as that token says, and leaves them layered
pub lexeme-moves : (r : Roll) (f : Force) (l : Lexeme) → Layered (state_of f).levels
    → Ok (role_after (keyword_before f)) (state_of f) (token_of r f l)
    → Moves f.before l (state_of f).levels (next (state_of f) (token_of r f l)).levels
lexeme-moves r f (word w) h ok = word-moves r f w (keyword_of w) refl h ok
lexeme-moves r f (numeral n) h ok =
    subst (λ s. Moves f.before (numeral n) (state_of f).levels s.levels)
    (sym (number-next (state_of f) r f.before (task_asked r f f.before) n)) (number-moves f.before n (state_of f).levels h)
lexeme-moves r f (operator op) h ok = operator-moves f op h
lexeme-moves r f (mark s) h ok = mark-moves f s h (sign-ok (role_after (keyword_before f)) (state_of f) s ok)
