-- A place of a text in which no refusal stands: what is in force there, and the lexemes from there on. What the next token is tells what the next lexeme is.
use Rattle.std.proofs.Common.{◌≡◌, ℕ, Option, Some, None, List, [], ◌∷◌, refl, ap, subst, unwrap_or}
use Rattle.sift_lang.specs.declared.tree.Op as ops
use Rattle.sift_parse.specs.declared.token.Keyword as keywords
use Rattle.sift_parse.specs.declared.token.Sign as signs
use Rattle.sift_parse.specs.declared.token.Token.{Token}
use Rattle.sift_parse.specs.declared.token.Token.TheVariants.{Keyword, Name, Operator, Sign}
use Rattle.sift_parse.specs.Force.{Force, place_of, advance, number_named, task_asked, word_token, token_of, tokens_from}
use Rattle.sift_parse.specs.Lexeme.{keyword_of, Lexeme, word, numeral, operator, mark}
use Rattle.sift_parse.specs.Roll.{Roll}
use Rattle.sift_parse.specs.Tokens.{number_token}
use Rattle.sift_parse.specs.Refusal.{IsManyRounds, IsManyLocals, IsDeepLevel, IsUnknownName, IsLaterTask}

-- no refusal stands at the lexeme
pub record Fits (r : Roll) (f : Force) (l : Lexeme) : Type 0 where
  pub rounds : ¬ IsManyRounds (place_of f) l
  pub locals : ¬ IsManyLocals (place_of f) l
  pub levels : ¬ IsDeepLevel (place_of f) l
  pub names : ¬ IsUnknownName r (place_of f) l
  pub tasks : ¬ IsLaterTask r (place_of f) l

-- no refusal stands at any of them
abbrev pub AllFit : Roll → Force → List Lexeme → Type 0
AllFit r f [] = Unit {0}
AllFit r f (l ∷ ls) = Fits r f l × AllFit r (advance f l) ls

-- these tokens follow, and no refusal stands at any of their lexemes
pub record Place (r : Roll) (f : Force) (ts : List Token) : Type 0 where
  pub lexemes : List Lexeme
  pub tokens : tokens_from r f lexemes ≡ ts
  pub fits : AllFit r f lexemes

-- the next lexeme
pub record Head (r : Roll) (f : Force) (t : Token) (ts : List Token) : Type 0 where
  pub lexeme : Lexeme
  pub is : token_of r f lexeme ≡ t
  pub fits : Fits r f lexeme
  pub place : Place r (advance f lexeme) ts

head-by : (r : Roll) (f : Force) (t : Token) (ts : List Token) (ls : List Lexeme) → tokens_from r f ls ≡ t ∷ ts → AllFit r f ls
    → Head r f t ts
head-by r f t ts [] e h = cc
head-by r f t ts (l ∷ ls) e h = record { lexeme = l; is = (cc); fits = h.0; place = record { lexemes = ls; tokens = (cc); fits = h.1 } }

-- the next lexeme stands for the next token, no refusal stands at it, and the other tokens follow it
pub head : (r : Roll) (f : Force) (t : Token) (ts : List Token) → Place r f (t ∷ ts) → Head r f t ts
head r f t ts p = head-by r f t ts p.lexemes p.tokens p.fits

-- ---- signs and operators

-- the lexeme is this one
pub record Goes (r : Roll) (f : Force) (l : Lexeme) (ts : List Token) : Type 0 where
  pub fits : Fits r f l
  pub place : Place r (advance f l) ts

goes : (r : Roll) (f : Force) (l m : Lexeme) (ts : List Token) → l ≡ m → Fits r f l → Place r (advance f l) ts → Goes r f m ts
goes r f l m ts e h p = subst (λ m. Goes r f m ts) e (record { fits = h; place = p })

word-sign : (r : Roll) (f : Force) (w : List ℕ) (k : Option keywords.Keyword) (s : signs.Sign) → word_token r f w k ≡ Sign s → ⊥
word-sign r f w (Some k) s e = cc
word-sign r f w None s e = cc

number-sign : (r : Roll) (b : Option Lexeme) (asked : Option ℕ) (n : ℕ) (s : signs.Sign) → number_token r b asked n ≡ Sign s → ⊥
number-sign r b (Some task) n s e = cc
number-sign r b None n s e = cc

sign-is : (r : Roll) (f : Force) (l : Lexeme) (s : signs.Sign) → token_of r f l ≡ Sign s → l ≡ mark s
sign-is r f (word w) s e = absurd (word-sign r f w (keyword_of w) s e)
sign-is r f (numeral n) s e = absurd (number-sign r f.before (task_asked r f f.before) n s e)
sign-is r f (operator op) s e = cc
sign-is r f (mark u) s e = let h : u ≡ s = cc in ap mark h

-- where the next token is a sign, the next lexeme is this sign, and the other tokens follow it
pub sign-at : (r : Roll) (f : Force) (s : signs.Sign) (ts : List Token) → Place r f (Sign s ∷ ts) → Goes r f (mark s) ts
sign-at r f s ts p = let h = head r f (Sign s) ts p in goes r f h.lexeme (mark s) ts (sign-is r f h.lexeme s h.is) h.fits h.place

word-operator : (r : Roll) (f : Force) (w : List ℕ) (k : Option keywords.Keyword) (op : ops.Op) → word_token r f w k ≡ Operator op → ⊥
word-operator r f w (Some k) op e = cc
word-operator r f w None op e = cc

number-operator : (r : Roll) (b : Option Lexeme) (asked : Option ℕ) (n : ℕ) (op : ops.Op) → number_token r b asked n ≡ Operator op → ⊥
number-operator r b (Some task) n op e = cc
number-operator r b None n op e = cc

operator-is : (r : Roll) (f : Force) (l : Lexeme) (op : ops.Op) → token_of r f l ≡ Operator op → l ≡ operator op
operator-is r f (word w) op e = absurd (word-operator r f w (keyword_of w) op e)
operator-is r f (numeral n) op e = absurd (number-operator r f.before (task_asked r f f.before) n op e)
operator-is r f (operator oq) op e = let h : oq ≡ op = cc in ap operator h
operator-is r f (mark u) op e = cc

-- where the next token is an operator, the next lexeme is this operator, and the other tokens follow it
pub operator-at : (r : Roll) (f : Force) (op : ops.Op) (ts : List Token) → Place r f (Operator op ∷ ts) → Goes r f (operator op) ts
operator-at r f op ts p = let h = head r f (Operator op) ts p in goes r f h.lexeme (operator op) ts (operator-is r f h.lexeme op h.is) h.fits h.place

-- ---- words

-- the word is this keyword
pub record IsKeyword (r : Roll) (f : Force) (k : keywords.Keyword) (ts : List Token) : Type 0 where
  pub text : List ℕ
  pub is : keyword_of text ≡ Some k
  pub goes : Goes r f (word text) ts

keyword-token : (r : Roll) (f : Force) (w : List ℕ) (o : Option keywords.Keyword) (k : keywords.Keyword) → word_token r f w o ≡ Keyword k
    → o ≡ Some k
keyword-token r f w (Some j) k e = let h : j ≡ k = cc in ap (λ k. Some k) h
keyword-token r f w None k e = cc

number-keyword : (r : Roll) (b : Option Lexeme) (asked : Option ℕ) (n : ℕ) (k : keywords.Keyword) → number_token r b asked n ≡ Keyword k → ⊥
number-keyword r b (Some task) n k e = cc
number-keyword r b None n k e = cc

keyword-by : (r : Roll) (f : Force) (k : keywords.Keyword) (ts : List Token) (l : Lexeme) → token_of r f l ≡ Keyword k → Fits r f l
    → Place r (advance f l) ts → IsKeyword r f k ts
keyword-by r f k ts (word w) e h p = record { text = w; is = keyword-token r f w (keyword_of w) k e; goes = record { fits = h; place = p } }
keyword-by r f k ts (numeral n) e h p = absurd (number-keyword r f.before (task_asked r f f.before) n k e)
keyword-by r f k ts (operator op) e h p = cc
keyword-by r f k ts (mark s) e h p = cc

-- where the next token is a keyword, the next lexeme is the word of this keyword, and the other tokens follow it
pub keyword-at : (r : Roll) (f : Force) (k : keywords.Keyword) (ts : List Token) → Place r f (Keyword k ∷ ts) → IsKeyword r f k ts
keyword-at r f k ts p = let h = head r f (Keyword k) ts p in keyword-by r f k ts h.lexeme h.is h.fits h.place

-- the word is a name, and names this
pub record IsNamed (r : Roll) (f : Force) (n : ℕ) (ts : List Token) : Type 0 where
  pub text : List ℕ
  pub is : keyword_of text ≡ None
  pub names : number_named r f text ≡ Some n
  pub goes : Goes r f (word text) ts

number-name : (r : Roll) (b : Option Lexeme) (asked : Option ℕ) (n x : ℕ) → number_token r b asked n ≡ Name x → ⊥
number-name r b (Some task) n x e = cc
number-name r b None n x e = cc

name-token : (r : Roll) (f : Force) (w : List ℕ) (o : Option keywords.Keyword) (n : ℕ) → word_token r f w o ≡ Name n
    → (o ≡ None) × (unwrap_or (number_named r f w) 0 ≡ n)
name-token r f w (Some k) n e = cc
name-token r f w None n e = (refl, (cc))

there : (o : Option ℕ) (n : ℕ) → unwrap_or o 0 ≡ n → ¬ (o ≡ None) → o ≡ Some n
there (Some m) n e h = ap (λ n. Some n) e
there None n e h = absurd (h refl)

name-by : (r : Roll) (f : Force) (n : ℕ) (ts : List Token) (l : Lexeme) → token_of r f l ≡ Name n → Fits r f l → Place r (advance f l) ts
    → IsNamed r f n ts
name-by r f n ts (word w) e h p =
    let both = name-token r f w (keyword_of w) n e in
    record { text = w; is = both.0; names = there (number_named r f w) n both.1 (λ x. h.names (both.0, x)); goes = record { fits = h; place = p } }
name-by r f n ts (numeral m) e h p = absurd (number-name r f.before (task_asked r f f.before) m n e)
name-by r f n ts (operator op) e h p = cc
name-by r f n ts (mark s) e h p = cc

-- where the next token is a name, the next lexeme is a word that is no keyword and names what the token tells
pub name-at : (r : Roll) (f : Force) (n : ℕ) (ts : List Token) → Place r f (Name n ∷ ts) → IsNamed r f n ts
name-at r f n ts p = let h = head r f (Name n) ts p in name-by r f n ts h.lexeme h.is h.fits h.place
