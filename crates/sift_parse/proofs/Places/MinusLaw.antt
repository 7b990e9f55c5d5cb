-- A prim is passed where it ends, and not earlier.
use Rattle.std.proofs.Common.{◌≡◌, ◌≢◌, ℕ, zero, suc, Bool, true, false, not, ◌&&◌, ◌||◌, Option, Some, None, List, [], ◌∷◌, ◌++◌, refl, sym, ap, ◌∙◌, is_none}
use Rattle.sift_lang.specs.declared.tree.Op.TheVariants.{Sub}
use Rattle.sift_parse.specs.declared.token.Keyword as keywords
use Rattle.sift_parse.specs.declared.token.Keyword.TheVariants.{Now, Last}
use Rattle.sift_parse.specs.declared.token.Sign.TheVariants.{OpenParen, CloseParen}
use Rattle.sift_parse.specs.declared.token.Token.{Token}
use Rattle.sift_parse.specs.Lexeme.{keyword_in, keyword_of, Lexeme, word, numeral, operator, mark}
use Rattle.sift_parse.specs.Tokens.{Place, place_after, number_token, task_asked, word_token, tokens_after}
use Rattle.sift_parse.specs.Roll.{Roll}
use Rattle.sift_parse.specs.Levels.{reads_task, passes_prim}
use Rattle.sift_parse.specs.MinusLaw.{MinusEndsWithPrim}
use Rattle.sift_parse.proofs.Places.Placing.{tokens_after-append}
use Rattle.sift_parse.proofs.Places.MinusTokens.{skip, prim-skip, grown, skip-grows}

-- ---- by the lexemes

abbrev is_some : Option (List Token) → Bool
is_some (Some ts) = true
is_some None = false

word-flat : (r : Roll) (p : Place) (w : List ℕ) (o : Option keywords.Keyword) (k x : Bool) (ts : List Token)
    → x ≡ is_some (skip 0 (reads_task o) ts) → ((is_none o && not k) || x) ≡ is_some (skip 0 k (word_token r p w o ∷ ts))
word-flat r p w (Some Now) k x ts h = h
word-flat r p w (Some Last) k x ts h = h
word-flat r p w (Some key) k x ts h = h
word-flat r p w None true x ts h = h
word-flat r p w None false x ts h = refl

word-deep : (r : Roll) (p : Place) (w : List ℕ) (o : Option keywords.Keyword) (n : ℕ) (k x : Bool) (ts : List Token)
    → x ≡ is_some (skip (suc n) (reads_task o) ts) → x ≡ is_some (skip (suc n) k (word_token r p w o ∷ ts))
word-deep r p w (Some Now) n k x ts h = h
word-deep r p w (Some Last) n k x ts h = h
word-deep r p w (Some key) n k x ts h = h
word-deep r p w None n k x ts h = h

number-flat : (r : Roll) (b : Option Lexeme) (asked : Option ℕ) (m : ℕ) (k x : Bool) (ts : List Token)
    → (true || x) ≡ is_some (skip 0 k (number_token r b asked m ∷ ts))
number-flat r b (Some task) m k x ts = refl
number-flat r b None m k x ts = refl

number-deep : (r : Roll) (b : Option Lexeme) (asked : Option ℕ) (m n : ℕ) (k x : Bool) (ts : List Token)
    → x ≡ is_some (skip (suc n) false ts) → x ≡ is_some (skip (suc n) k (number_token r b asked m ∷ ts))
number-deep r b (Some task) m n k x ts h = h
number-deep r b None m n k x ts h = h

-- the lexemes tell what their tokens tell
passes-is : (r : Roll) (front : List Lexeme) (n : ℕ) (b : Option Lexeme) (ls : List Lexeme)
    → passes_prim n b ls ≡ is_some (skip n (reads_task (keyword_in b)) (tokens_after r front ls))
passes-is r front n b [] = refl
passes-is r front zero b (word w ∷ ls) =
    word-flat r (place_after front) w (keyword_of w) (reads_task (keyword_in b)) (passes_prim 0 (Some (word w)) ls)
    (tokens_after r (front ++ word w ∷ []) ls) (passes-is r (front ++ word w ∷ []) 0 (Some (word w)) ls)
passes-is r front (suc n) b (word w ∷ ls) =
    word-deep r (place_after front) w (keyword_of w) n (reads_task (keyword_in b)) (passes_prim (suc n) (Some (word w)) ls)
    (tokens_after r (front ++ word w ∷ []) ls) (passes-is r (front ++ word w ∷ []) (suc n) (Some (word w)) ls)
passes-is r front zero b (numeral m ∷ ls) =
    let p = place_after front in
    number-flat r p.before (task_asked r p p.before) m (reads_task (keyword_in b)) (passes_prim 0 (Some (numeral m)) ls)
    (tokens_after r (front ++ numeral m ∷ []) ls)
passes-is r front (suc n) b (numeral m ∷ ls) =
    let p = place_after front in
    number-deep r p.before (task_asked r p p.before) m n (reads_task (keyword_in b)) (passes_prim (suc n) (Some (numeral m)) ls)
    (tokens_after r (front ++ numeral m ∷ []) ls) (passes-is r (front ++ numeral m ∷ []) (suc n) (Some (numeral m)) ls)
passes-is r front n b (mark OpenParen ∷ ls) = passes-is r (front ++ mark OpenParen ∷ []) (suc n) (Some (mark OpenParen)) ls
passes-is r front zero b (mark CloseParen ∷ ls) = refl
passes-is r front (suc zero) b (mark CloseParen ∷ ls) = refl
passes-is r front (suc (suc n)) b (mark CloseParen ∷ ls) = passes-is r (front ++ mark CloseParen ∷ []) (suc n) (Some (mark CloseParen)) ls
passes-is r front zero b (l ∷ ls) = passes-is r (front ++ l ∷ []) zero (Some l) ls
passes-is r front (suc n) b (l ∷ ls) = passes-is r (front ++ l ∷ []) (suc n) (Some l) ls

some-left : (r : Roll) (front ls : List Lexeme) (rest : List Token) → ls ≢ [] → rest ++ tokens_after r front ls ≡ [] → ⊥
some-left r front [] rest h e = h refl
some-left r front (l ∷ ls) [] h e = cc
some-left r front (l ∷ ls) (t ∷ rest) h e = cc

cut : (r : Roll) (front back : List Lexeme) (o whole : Option (List Token)) → back ≢ [] → grown o (tokens_after r front back) whole
    → whole ≡ Some [] → is_some o ≡ false
cut r front back None whole h g e = refl
cut r front back (Some rest) whole h g e =
    absurd (let k : Some (rest ++ tokens_after r front back) ≡ Some [] = sym g
    ∙ e in let m : rest ++ tokens_after r front back ≡ [] = cc in some-left r front back rest h m)

-- by its lexemes, the prim after a minus is over after the last of them, and not earlier
pub minus_ends_with_prim : MinusEndsWithPrim
minus_ends_with_prim r front prim t d =
    let f : List Lexeme = front ++ operator Sub ∷ [] in
    let all : skip 0 false (tokens_after r f prim) ≡ Some [] = prim-skip (tokens_after r f prim) [] t d in
    record {
      over = passes-is r f 0 (Some (operator Sub)) prim ∙ ap is_some all;
      not_before = λ xs ys e some. (
          let parted : tokens_after r f prim ≡ tokens_after r f xs ++ tokens_after r (f ++ xs) ys = ap (tokens_after r f) e ∙ tokens_after-append r f xs ys in
          let whole : skip 0 false (tokens_after r f xs ++ tokens_after r (f ++ xs) ys) ≡ Some [] = ap (skip 0 false) (sym parted) ∙ all in
          passes-is r f 0 (Some (operator Sub)) xs
          ∙ cut r (f ++ xs) ys (skip 0 false (tokens_after r f xs)) (skip 0 false (tokens_after r f xs ++ tokens_after r (f ++ xs) ys)) some
          (skip-grows 0 false (tokens_after r f xs) (tokens_after r (f ++ xs) ys)) whole);
    }
