-- An expression and a block end nothing that is open before them.
use Rattle.std.proofs.Common.{◌≡◌, ℕ, zero, suc, Option, Some, None, List, [], ◌∷◌, ◌++◌, refl, sym, ap, ◌∙◌}
use Rattle.sift_parse.specs.declared.token.Keyword as keywords
use Rattle.sift_parse.specs.declared.token.Sign.TheVariants.{OpenParen, CloseParen, OpenBrace, CloseBrace, Semicolon}
use Rattle.sift_parse.specs.declared.token.Token.{Token}
use Rattle.sift_parse.specs.EndLaws.{ExpressionsEndNothing, BlocksEndNoBlock}
use Rattle.sift_parse.specs.Lexeme.{keyword_of, Lexeme, word, numeral, mark}
use Rattle.sift_parse.specs.Tokens.{Place, place_after, number_token, task_asked, word_token, tokens_after}
use Rattle.sift_parse.specs.Roll.{Roll}
use Rattle.sift_parse.specs.Levels.{leaves_paren, ends, leaves}
use Rattle.sift_parse.proofs.Places.Placing.{tokens_after-append}
use Rattle.sift_parse.proofs.Places.EndTokens.{level-same, block-same, over, out, paren_out}

-- ---- by the lexemes

word-over : (r : Roll) (p : Place) (w : List ℕ) (o : Option keywords.Keyword) (ts : List Token) → over (word_token r p w o ∷ ts) ≡ over ts
word-over r p w (Some k) ts = refl
word-over r p w None ts = refl

number-over : (r : Roll) (b : Option Lexeme) (asked : Option ℕ) (m : ℕ) (ts : List Token) → over (number_token r b asked m ∷ ts) ≡ over ts
number-over r b (Some task) m ts = refl
number-over r b None m ts = refl

word-out : (r : Roll) (p : Place) (w : List ℕ) (o : Option keywords.Keyword) (n : ℕ) (ts : List Token)
    → out n (word_token r p w o ∷ ts) ≡ out n ts
word-out r p w (Some k) n ts = refl
word-out r p w None n ts = refl

number-out : (r : Roll) (b : Option Lexeme) (asked : Option ℕ) (m n : ℕ) (ts : List Token)
    → out n (number_token r b asked m ∷ ts) ≡ out n ts
number-out r b (Some task) m n ts = refl
number-out r b None m n ts = refl

word-paren : (r : Roll) (p : Place) (w : List ℕ) (o : Option keywords.Keyword) (n : ℕ) (ts : List Token)
    → paren_out n (word_token r p w o ∷ ts) ≡ paren_out n ts
word-paren r p w (Some k) n ts = refl
word-paren r p w None n ts = refl

number-paren : (r : Roll) (b : Option Lexeme) (asked : Option ℕ) (m n : ℕ) (ts : List Token)
    → paren_out n (number_token r b asked m ∷ ts) ≡ paren_out n ts
number-paren r b (Some task) m n ts = refl
number-paren r b None m n ts = refl

ends-is : (r : Roll) (front ls : List Lexeme) → ends ls ≡ over (tokens_after r front ls)
ends-is r front [] = refl
ends-is r front (word w ∷ ls) =
    ends-is r (front ++ word w ∷ []) ls ∙ sym (word-over r (place_after front) w (keyword_of w) (tokens_after r (front ++ word w ∷ []) ls))
ends-is r front (numeral m ∷ ls) =
    let p = place_after front in ends-is r (front ++ numeral m ∷ []) ls
    ∙ sym (number-over r p.before (task_asked r p p.before) m (tokens_after r (front ++ numeral m ∷ []) ls))
ends-is r front (mark Semicolon ∷ ls) = refl
ends-is r front (l ∷ ls) = ends-is r (front ++ l ∷ []) ls

leaves-is : (r : Roll) (front : List Lexeme) (n : ℕ) (ls : List Lexeme) → leaves n ls ≡ out n (tokens_after r front ls)
leaves-is r front n [] = refl
leaves-is r front n (word w ∷ ls) =
    leaves-is r (front ++ word w ∷ []) n ls
    ∙ sym (word-out r (place_after front) w (keyword_of w) n (tokens_after r (front ++ word w ∷ []) ls))
leaves-is r front n (numeral m ∷ ls) =
    let p = place_after front in leaves-is r (front ++ numeral m ∷ []) n ls
    ∙ sym (number-out r p.before (task_asked r p p.before) m n (tokens_after r (front ++ numeral m ∷ []) ls))
leaves-is r front n (mark OpenBrace ∷ ls) = leaves-is r (front ++ mark OpenBrace ∷ []) (suc n) ls
leaves-is r front zero (mark CloseBrace ∷ ls) = refl
leaves-is r front (suc n) (mark CloseBrace ∷ ls) = leaves-is r (front ++ mark CloseBrace ∷ []) n ls
leaves-is r front n (l ∷ ls) = leaves-is r (front ++ l ∷ []) n ls

parens-is : (r : Roll) (front : List Lexeme) (n : ℕ) (ls : List Lexeme) → leaves_paren n ls ≡ paren_out n (tokens_after r front ls)
parens-is r front n [] = refl
parens-is r front n (word w ∷ ls) =
    parens-is r (front ++ word w ∷ []) n ls
    ∙ sym (word-paren r (place_after front) w (keyword_of w) n (tokens_after r (front ++ word w ∷ []) ls))
parens-is r front n (numeral m ∷ ls) =
    let p = place_after front in parens-is r (front ++ numeral m ∷ []) n ls
    ∙ sym (number-paren r p.before (task_asked r p p.before) m n (tokens_after r (front ++ numeral m ∷ []) ls))
parens-is r front n (mark OpenParen ∷ ls) = parens-is r (front ++ mark OpenParen ∷ []) (suc n) ls
parens-is r front zero (mark CloseParen ∷ ls) = refl
parens-is r front (suc n) (mark CloseParen ∷ ls) = parens-is r (front ++ mark CloseParen ∷ []) n ls
parens-is r front n (l ∷ ls) = parens-is r (front ++ l ∷ []) n ls

-- the lexemes of an expression end no statement, no block and no parenthesis that is open before them
pub expressions_end_nothing : ExpressionsEndNothing
expressions_end_nothing r front c t e = record {
  statements =
      λ d. (let qs = tokens_after r (front ++ c) d in ends-is r front (c ++ d) ∙ ap over (tokens_after-append r front c d)
      ∙ (level-same qs 0 (tokens_after r front c) [] t e).statements ∙ sym (ends-is r (front ++ c) d));
  blocks =
      λ n d. (let qs = tokens_after r (front ++ c) d in leaves-is r front n (c ++ d) ∙ ap (out n) (tokens_after-append r front c d)
      ∙ (level-same qs 0 (tokens_after r front c) [] t e).blocks n ∙ sym (leaves-is r (front ++ c) n d));
  parens =
      λ n d. (let qs = tokens_after r (front ++ c) d in parens-is r front n (c ++ d) ∙ ap (paren_out n) (tokens_after-append r front c d)
      ∙ (level-same qs 0 (tokens_after r front c) [] t e).parens n ∙ sym (parens-is r (front ++ c) n d));
}

-- the lexemes of a block end no block that is open before them
pub blocks_end_no_block : BlocksEndNoBlock
blocks_end_no_block r front c b e n d =
    let qs = tokens_after r (front ++ c) d in
    leaves-is r front n (c ++ d) ∙ ap (out n) (tokens_after-append r front c d) ∙ block-same qs (tokens_after r front c) [] b e n
    ∙ sym (leaves-is r (front ++ c) n d)
