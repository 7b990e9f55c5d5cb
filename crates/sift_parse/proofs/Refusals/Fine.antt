-- No refusal stands at a lexeme, where what may be refused isn't there.
use Rattle.std.proofs.Common.{◌≡◌, ℕ, ◌<◌, ◌≤◌, IsTrue, true, false, List, [], ◌∷◌, ◌++◌, length, slice_index, Some, None, sym, ◌∙◌, subst, arith}
use Rattle.std.specs.Prelude.{fold}
use Rattle.sift_base.specs.Name.{name_limit}
use Rattle.sift_lang.specs.declared.tree.Op.{Op}
use Rattle.sift_lang.specs.Tree.{local_limit, round_limit}
use Rattle.sift_parse.specs.declared.token.Keyword.{Keyword}
use Rattle.sift_parse.specs.declared.token.Keyword.TheVariants.{Let, Repeat, Now}
use Rattle.sift_parse.specs.declared.token.Sign.{Sign}
use Rattle.sift_parse.specs.Force.{Force, advance, opens, keyword_before, number_named, task_asked}
use Rattle.sift_parse.specs.Lexeme.{keyword_of, Lexeme, word, numeral, operator, mark, Placed, level_limit, number_limit}
use Rattle.sift_parse.specs.Refusal.{OfSome, lexemes_of}
use Rattle.sift_parse.specs.Roll.{Roll, number_in}
use Rattle.sift_parse.specs.Scanned.{long_name, large_number, many_rounds, many_locals, deep_level, unknown_name, later_task, NoneAt}

-- ---- at one lexeme

-- at an operator
pub none_at_operator : (r : Roll) (f : Force) (op : Op) → (opens f (operator op) ≡ true → length f.levels < level_limit)
    → NoneAt r f (operator op)
none_at_operator r f op fits deep_level h = let lt = fits h.0 in omega (arith, h.1)
none_at_operator r f op fits kind h = h

-- at another sign
pub none_at_mark : (r : Roll) (f : Force) (s : Sign) → (opens f (mark s) ≡ true → length f.levels < level_limit) → NoneAt r f (mark s)
none_at_mark r f s fits deep_level h = let lt = fits h.0 in omega (arith, h.1)
none_at_mark r f s fits kind h = h

-- at a number
pub none_at_number : (r : Roll) (f : Force) (n : ℕ) → n ≤ number_limit → (keyword_before f ≡ Some Repeat → n ≤ round_limit)
    → ¬ OfSome (λ task. slice_index r.sizes task ≤ n) (task_asked r f f.before) → NoneAt r f (numeral n)
none_at_number r f n small rounds lacks large_number h = omega arith
none_at_number r f n small rounds lacks many_rounds h = let le = rounds h.0 in omega (arith, h.1)
none_at_number r f n small rounds lacks deep_level h = let e : IsTrue false = h.0 in cc
none_at_number r f n small rounds lacks unknown_name h = lacks h
none_at_number r f n small rounds lacks kind h = h

-- at a word
pub none_at_word : (r : Roll) (f : Force) (w : List ℕ) → length w ≤ name_limit
    → (keyword_before f ≡ Some Let → length f.locals < local_limit) → ((keyword_of w ≡ None) → ¬ (number_named r f w ≡ None))
    → ((keyword_of w ≡ None) → keyword_before f ≡ Some Now → ¬ OfSome (λ task. r.this ≤ task) (number_in r.tasks w)) → NoneAt r f (word w)
none_at_word r f w short locals named earlier long_name h = omega arith
none_at_word r f w short locals named earlier many_locals h = let lt = locals h.0 in omega (arith, h.1)
none_at_word r f w short locals named earlier deep_level h = let e : IsTrue false = h.0 in cc
none_at_word r f w short locals named earlier unknown_name h = named h.0 h.1
none_at_word r f w short locals named earlier later_task h = earlier h.0 h.1 h.2
none_at_word r f w short locals named earlier kind h = h

-- a keyword is no name
pub none_at_keyword : (r : Roll) (f : Force) (w : List ℕ) (k : Keyword) → length w ≤ name_limit
    → (keyword_before f ≡ Some Let → length f.locals < local_limit) → keyword_of w ≡ Some k → NoneAt r f (word w)
none_at_keyword r f w k short locals is =
    none_at_word r f w short locals (λ e. absurd (let h = sym is ∙ e in cc)) (λ e. absurd (let h = sym is ∙ e in cc))

-- ---- at each of them

-- no refusal stands at any of the lexemes, where this is in force before them
abbrev pub AllFine : Roll → Force → List Lexeme → Type 0
AllFine r f [] = Unit {0}
AllFine r f (l ∷ ls) = NoneAt r f l × AllFine r (advance f l) ls

-- no refusal stands at one of them
pub fine-at : (r : Roll) (f : Force) (ps front more : List Placed) (p : Placed) → ps ≡ front ++ p ∷ more → AllFine r f (lexemes_of ps)
    → NoneAt r (fold advance f (lexemes_of front)) p.lexeme
fine-at r f [] [] more p e h = cc
fine-at r f [] (q ∷ front) more p e h = cc
fine-at r f (x ∷ ps) [] more p e h = let same : x ≡ p = cc in subst (λ q. NoneAt r f q.lexeme) same h.0
fine-at r f (x ∷ ps) (q ∷ front) more p e h =
    let same : x ≡ q = cc in
    subst (λ y. NoneAt r (fold advance (advance f y.lexeme) (lexemes_of front)) p.lexeme) same
    (fine-at r (advance f x.lexeme) ps front more p (cc) h.1)
