-- What is in force after a lexeme, where the token that it is tells.
use Rattle.std.proofs.Common.{◌≡◌, ℕ, ◌<◌, ◌≤◌, Bool, true, false, not, if◌then◌else◌, Option, Some, List, [], ◌∷◌, length, refl, sym, ap, ◌∙◌, subst, arith}
use Rattle.sift_lang.specs.declared.tree.Op.{Op}
use Rattle.sift_lang.specs.declared.tree.Op.TheVariants.{Add, Sub, Mul, Div, Rem, And, Or, Xor, Shl, Shr, Lt, Eq}
use Rattle.sift_parse.specs.declared.token.Keyword.{Keyword}
use Rattle.sift_parse.specs.declared.token.Keyword.TheVariants.{Let, Sense, Now, Last}
use Rattle.sift_parse.specs.declared.token.Token.{Token}
use Rattle.sift_parse.specs.Force.{Force, Level, block, parenthesis, negation, keyword_before, opens, without_minuses, after_name, after_word, named_by, place_of, Role, role_after, old_local}
use Rattle.sift_parse.specs.Lexeme.{Lexeme, word, operator}
use Rattle.sift_parse.specs.Roll.{Roll}
use Rattle.sift_parse.specs.Tokens.{named_after}
use Rattle.sift_parse.specs.Levels.{ends_operand}
use Rattle.sift_parse.proofs.Sound.Place.{Fits, Place, Goes, IsKeyword, IsNamed}

-- an expression may start here: a `-` is a minus, and a name is a local's
pub record Starts (f : Force) : Type 0 where
  pub before : ends_operand f.before ≡ false
  pub role : role_after (keyword_before f) ≡ old_local

-- ---- words

-- what is in force after a word, which is this keyword or none
abbrev pub word_force : Option Keyword → List ℕ → Force → Force
word_force o w f = record (after_word o w f) { named = w; before = Some (word w) }

-- what is in force after a name of this role
abbrev pub name_force : Role → List ℕ → Force → Force
name_force role w f = record (after_name role w f) { named = w; before = Some (word w) }

-- the tokens after a keyword follow it, with what is in force after that keyword
pub keyword-place : (r : Roll) (f : Force) (k : Keyword) (ts : List Token) (h : IsKeyword r f k ts)
    → Place r (word_force (Some k) h.text f) ts
keyword-place r f k ts h = subst (λ o. Place r (word_force o h.text f) ts) h.is h.goes.place

-- the tokens after a name of this role follow it, with what is in force after a name of this role
pub name-place : (r : Roll) (f : Force) (role : Role) (n : ℕ) (ts : List Token) (h : IsNamed r f n ts)
    → role_after (keyword_before f) ≡ role → Place r (name_force role h.text f) ts
name-place r f role n ts h e =
    let p : Place r (name_force (role_after (keyword_before f)) h.text f) ts = subst (λ o. Place r (word_force o h.text f) ts) h.is h.goes.place in
    subst (λ role. Place r (name_force role h.text f) ts) e p

-- what a name after a keyword names is what one of its role does
pub named-role : (r : Roll) (f : Force) (k : Option Keyword) (w : List ℕ) → named_after r (place_of f) k w ≡ named_by r f (role_after k) w
named-role r f (Some Let) w = refl
named-role r f (Some Sense) w = refl
named-role r f (Some Now) w = refl
named-role r f (Some Last) w = refl
named-role r f k w = refl

-- in the role that a name has here, it names what its token has the number of
pub name-number : (r : Roll) (f : Force) (role : Role) (n : ℕ) (ts : List Token) (h : IsNamed r f n ts)
    → role_after (keyword_before f) ≡ role → named_by r f role h.text ≡ Some n
name-number r f role n ts h e =
    subst (λ role. named_by r f role h.text ≡ Some n) e (sym (named-role r f (keyword_before f) h.text) ∙ h.names)

-- ---- operators

-- what is in force after an operator, which is a minus or isn't
abbrev operator_force : Bool → Op → Force → Force
operator_force b op f = record (if b then record f { levels = negation ∷ f.levels } else f) { before = Some (operator op) }

-- what is in force after a minus before a prim, which opens a level
abbrev pub minus_force : Force → Force
minus_force f = record f { levels = negation ∷ f.levels; before = Some (operator Sub) }

-- what is in force after an operator between operands, which opens no level
abbrev pub joined_force : Op → Force → Force
joined_force op f = record f { before = Some (operator op) }

-- where an expression may start, a `-` opens a level
pub minus-opens : (f : Force) → Starts f → opens f (operator Sub) ≡ true
minus-opens f s = ap not s.before

-- the tokens after a `-` where an expression may start follow it, with one more level open, which is a minus
pub minus-place : (r : Roll) (f : Force) (ts : List Token) → Starts f → Goes r f (operator Sub) ts → Place r (minus_force f) ts
minus-place r f ts s h = subst (λ b. Place r (operator_force b Sub f) ts) (minus-opens f s) h.place

joins : (f : Force) (op : Op) → ends_operand f.before ≡ true → opens f (operator op) ≡ false
joins f Sub e = ap not e
joins f Add e = refl
joins f Mul e = refl
joins f Div e = refl
joins f Rem e = refl
joins f And e = refl
joins f Or e = refl
joins f Xor e = refl
joins f Shl e = refl
joins f Shr e = refl
joins f Lt e = refl
joins f Eq e = refl

-- the tokens after an operator with an operand before it follow it, with the same levels open
pub joined-place : (r : Roll) (f : Force) (op : Op) (ts : List Token) → ends_operand f.before ≡ true → Goes r f (operator op) ts
    → Place r (joined_force op f) ts
joined-place r f op ts e h = subst (λ b. Place r (operator_force b op f) ts) (joins f op e) h.place

-- ---- levels

-- one more level may be open
pub deeper : (r : Roll) (f : Force) (l : Lexeme) → Fits r f l → opens f l ≡ true → length f.levels < 32
deeper r f l h e = below (length f.levels) (λ le. h.levels (e, le))
  where
    below : (n : ℕ) → (32 ≤ n → ⊥) → n < 32
    below n h = omega arith

-- no minus is innermost, once those of a prim are closed
pub bare-twice : (ls : List Level) → without_minuses (without_minuses ls) ≡ without_minuses ls
bare-twice [] = refl
bare-twice (block n ∷ ls) = refl
bare-twice (parenthesis ∷ ls) = refl
bare-twice (negation ∷ ls) = bare-twice ls

-- no more levels are open once the minuses of a prim that ends are closed
pub bare-short : (ls : List Level) → length (without_minuses ls) ≤ length ls
bare-short [] = omega arith
bare-short (block n ∷ ls) = omega arith
bare-short (parenthesis ∷ ls) = omega arith
bare-short (negation ∷ ls) = let h = bare-short ls in omega arith
