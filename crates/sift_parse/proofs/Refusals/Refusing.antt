-- What is refused at a lexeme, where none is before it.
use Rattle.std.proofs.Common.{◌≡◌, ℕ, ◌-◌, ◌<◌, ◌≤◌, List, [], ◌∷◌, ◌++◌, length, sym, subst, arith}
use Rattle.sift_parse.specs.declared.scan.Refusal as held
use Rattle.sift_parse.specs.Grammar.{Begins}
use Rattle.sift_parse.specs.Force.{force_after}
use Rattle.sift_parse.specs.Lexeme.{Lexeme, IsLexeme, Placed, Lexes}
use Rattle.sift_parse.specs.Roll.{Roll}
use Rattle.sift_parse.specs.Tokens.{tokens_of}
use Rattle.sift_parse.specs.Refusal.{lexemes_of}
use Rattle.sift_parse.proofs.Refusals.Kinds.{Stands, IsRefusedFor}
use Rattle.sift_parse.specs.Scanned.{Kind, no_lexeme_here, no_syntax, long_name, large_number, many_rounds, many_locals, deep_level, unknown_name, later_task, order_of, IsFirst, IsFine, kind_of}
use Rattle.sift_parse.proofs.Lexing.OneLexing.{lexes_split, next_lexeme}
use Rattle.sift_parse.proofs.Refusals.Standing.{stands-at, stands-here, syntax-here, lexemes_of-one, begins-one, begins-before, none_before}

-- where the lexemes before one are read
record Reached (text : List ℕ) (front : List Placed) (p : Placed) : Type 0 where
  pub rest : List ℕ
  pub mid : List ℕ
  pub lexes : Lexes (length text) text front rest
  pub is_lexeme : IsLexeme rest p.lexeme mid
  pub place : p.at ≡ length text - length rest

reached : (text end : List ℕ) (ps front more : List Placed) (p : Placed) → Lexes (length text) text ps end → ps ≡ front ++ p ∷ more
    → Reached text front p
reached text end ps front more p x e =
    let y = subst (λ l. Lexes (length text) text l end) e x in
    let parts = lexes_split (length text) text end front (p ∷ more) y in
    let n = next_lexeme (length text) text front p more parts.mid end y parts.first in
    record { rest = parts.mid; mid = n.mid; lexes = parts.first; is_lexeme = n.is_lexeme; place = n.at }

-- the place is within the text
pub place-within : (text end : List ℕ) (ps front more : List Placed) (p : Placed) → Lexes (length text) text ps end → ps ≡ front ++ p ∷ more
    → p.at ≤ length text
place-within text end ps front more p x e = let i = reached text end ps front more p x e in let at = i.place in omega arith

-- a refusal of the lexeme is answered, where the tokens to it begin a task
pub refused-lexeme : (r : Roll) (text end : List ℕ) (ps front more : List Placed) (p : Placed) (k : held.Refusal)
    → Lexes (length text) text ps end → ps ≡ front ++ p ∷ more → IsFine r front
    → IsFirst r (force_after (lexemes_of front)) p.lexeme (kind_of k) → Begins (tokens_of r (lexemes_of (front ++ p ∷ [])))
    → IsRefusedFor r text (kind_of k) p.at
refused-lexeme r text end ps front more p k x e fine first b =
    let i = reached text end ps front more p x e in
    let c = begins-one r front [] p b in
    record {
      front = front;
      rest = i.rest;
      lexes = i.lexes;
      place = i.place;
      stands = stands-here r (lexemes_of front) i.rest i.mid p.lexeme k i.is_lexeme (begins-before r front (p ∷ []) b) first.stands;
      first_kind = λ other lt h. first.first other lt (stands-at r (lexemes_of front) i.rest i.mid p.lexeme other i.is_lexeme c h);
      first_place = none_before r text i.rest front i.lexes fine (begins-before r front (p ∷ []) b);
    }

only_lexeme-before : (r : Roll) (front : List Lexeme) (text mid : List ℕ) (l : Lexeme) (other : Kind) → IsLexeme text l mid
    → order_of other < 1 → Stands r front text other → ⊥
only_lexeme-before r front text mid l no_lexeme_here x lt h = h.1 l mid x
only_lexeme-before r front text mid l no_syntax x lt h = omega arith
only_lexeme-before r front text mid l long_name x lt h = omega arith
only_lexeme-before r front text mid l large_number x lt h = omega arith
only_lexeme-before r front text mid l many_rounds x lt h = omega arith
only_lexeme-before r front text mid l many_locals x lt h = omega arith
only_lexeme-before r front text mid l deep_level x lt h = omega arith
only_lexeme-before r front text mid l unknown_name x lt h = omega arith
only_lexeme-before r front text mid l later_task x lt h = omega arith

-- a lexeme with whose token the tokens begin no task is no syntax
pub refused-token : (r : Roll) (text end : List ℕ) (ps front more : List Placed) (p : Placed) → Lexes (length text) text ps end
    → ps ≡ front ++ p ∷ more → IsFine r front → Begins (tokens_of r (lexemes_of front))
    → ¬ Begins (tokens_of r (lexemes_of (front ++ p ∷ []))) → IsRefusedFor r text no_syntax p.at
refused-token r text end ps front more p x e fine b never =
    let i = reached text end ps front more p x e in
    record {
      front = front;
      rest = i.rest;
      lexes = i.lexes;
      place = i.place;
      stands =
          syntax-here r (lexemes_of front) i.rest i.mid p.lexeme i.is_lexeme b
          (λ c. never (subst (λ l. Begins (tokens_of r l)) (sym (lexemes_of-one front p)) c));
      first_kind = λ other lt h. only_lexeme-before r (lexemes_of front) i.rest i.mid p.lexeme other i.is_lexeme lt h;
      first_place = none_before r text i.rest front i.lexes fine b;
    }
