-- What a numeral is at a place of a text in which no refusal stands: a number, or the number of a word that is there.
use Rattle.std.proofs.Common.{◌≡◌, ℕ, ◌<◌, ◌≤◌, Bool, true, false, if◌then◌else◌, Option, Some, None, List, ◌∷◌, refl, arith, nat_lt, nat_le, slice_index}
use Rattle.std.proofs.lemmas.Bool.Decides.{nat_tests}
use Rattle.sift_parse.specs.declared.token.Keyword as keywords
use Rattle.sift_parse.specs.declared.token.Token.{Token}
use Rattle.sift_parse.specs.declared.token.Token.TheVariants.{Number, Index}
use Rattle.sift_parse.specs.Force.{Force, advance, task_asked, word_token, token_of}
use Rattle.sift_parse.specs.Lexeme.{keyword_of, Lexeme, word, numeral, operator, mark, number_limit}
use Rattle.sift_parse.specs.Roll.{Roll}
use Rattle.sift_parse.specs.Tokens.{index_meant, number_token}
use Rattle.sift_parse.specs.Refusal.{OfSome}
use Rattle.sift_parse.proofs.Sound.Place.{Fits, Place, Goes, head}

-- the numeral is this number, or a greater one
pub record IsNumber (r : Roll) (f : Force) (n : ℕ) (ts : List Token) : Type 0 where
  pub written : ℕ
  pub within : n ≤ written
  pub goes : Goes r f (numeral written) ts

kept-below : (b : Bool) (m n : ℕ) → (if b then m else 0) ≡ n → n ≤ m
kept-below true m n e = omega arith
kept-below false m n e = omega arith

number-token : (r : Roll) (b : Option Lexeme) (asked : Option ℕ) (m n : ℕ) → number_token r b asked m ≡ Number n → n ≤ m
number-token r b (Some task) m n e = cc
number-token r b None m n e = kept-below (nat_le m number_limit) m n (cc)

word-number : (r : Roll) (f : Force) (w : List ℕ) (o : Option keywords.Keyword) (n : ℕ) → word_token r f w o ≡ Number n → ⊥
word-number r f w (Some k) n e = cc
word-number r f w None n e = cc

number-by : (r : Roll) (f : Force) (n : ℕ) (ts : List Token) (l : Lexeme) → token_of r f l ≡ Number n → Fits r f l
    → Place r (advance f l) ts → IsNumber r f n ts
number-by r f n ts (word w) e h p = absurd (word-number r f w (keyword_of w) n e)
number-by r f n ts (numeral m) e h p =
    record { written = m; within = number-token r f.before (task_asked r f f.before) m n e; goes = record { fits = h; place = p } }
number-by r f n ts (operator op) e h p = cc
number-by r f n ts (mark s) e h p = cc

-- where the next token is a number, the next lexeme is a numeral of this number or of a greater one
pub number-at : (r : Roll) (f : Force) (n : ℕ) (ts : List Token) → Place r f (Number n ∷ ts) → IsNumber r f n ts
number-at r f n ts p = let h = head r f (Number n) ts p in number-by r f n ts h.lexeme h.is h.fits h.place

-- the word of a task that the number asks for
pub record IsWordOf (r : Roll) (b : Option Lexeme) (asked : Option ℕ) (m n : ℕ) : Type 0 where
  pub task : ℕ
  pub asks : asked ≡ Some task
  pub within : m < slice_index r.sizes task
  pub is : index_meant r b task m ≡ n

-- the numeral is the number of a word that is there
pub record IsIndex (r : Roll) (f : Force) (n : ℕ) (ts : List Token) : Type 0 where
  pub written : ℕ
  pub of : IsWordOf r f.before (task_asked r f f.before) written n
  pub goes : Goes r f (numeral written) ts

picked : (b : Bool) (x n : ℕ) → b ≡ true → (if b then x else 0) ≡ n → x ≡ n
picked true x n e h = h
picked false x n e h = cc

index-token : (r : Roll) (b : Option Lexeme) (asked : Option ℕ) (m n : ℕ) → number_token r b asked m ≡ Index n → ¬ OfSome (λ task. slice_index r.sizes task ≤ m) asked
    → IsWordOf r b asked m n
index-token r b (Some task) m n e h =
    let below : m < slice_index r.sizes task = omega arith in
    record {
      task = task;
      asks = refl;
      within = below;
      is = picked (nat_lt m (slice_index r.sizes task)) (index_meant r b task m) n (grind (arith, nat_tests)) (cc);
    }
index-token r b None m n e h = cc

word-index : (r : Roll) (f : Force) (w : List ℕ) (o : Option keywords.Keyword) (n : ℕ) → word_token r f w o ≡ Index n → ⊥
word-index r f w (Some k) n e = cc
word-index r f w None n e = cc

index-by : (r : Roll) (f : Force) (n : ℕ) (ts : List Token) (l : Lexeme) → token_of r f l ≡ Index n → Fits r f l → Place r (advance f l) ts
    → IsIndex r f n ts
index-by r f n ts (word w) e h p = absurd (word-index r f w (keyword_of w) n e)
index-by r f n ts (numeral m) e h p =
    record { written = m; of = index-token r f.before (task_asked r f f.before) m n e h.names; goes = record { fits = h; place = p } }
index-by r f n ts (operator op) e h p = cc
index-by r f n ts (mark s) e h p = cc

-- where the next token is the number of a word, the next lexeme is a numeral for that word, which is there
pub index-at : (r : Roll) (f : Force) (n : ℕ) (ts : List Token) → Place r f (Index n ∷ ts) → IsIndex r f n ts
index-at r f n ts p = let h = head r f (Index n) ts p in index-by r f n ts h.lexeme h.is h.fits h.place
