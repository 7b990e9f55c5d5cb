-- The reader of prims is lawful for the grammar.
use Rattle.std.proofs.Common.{ℕ, List, [], ◌∷◌, refl}
use Rattle.sift_lang.specs.declared.tree.Op.TheVariants.{Sub}
use Rattle.sift_lang.specs.Tree.{Term, number, local, sense, this_frame, last_frame, minus, middle}
use Rattle.sift_parse.specs.declared.token.Keyword.TheVariants.{Mid, Sense, Now, Last}
use Rattle.sift_parse.specs.declared.token.Sign.TheVariants.{OpenParen, CloseParen, Comma}
use Rattle.sift_parse.specs.declared.token.Token.{Token}
use Rattle.sift_parse.specs.declared.token.Token.TheVariants.{Keyword, Name, Number, Operator, Sign}
use Rattle.sift_parse.specs.Grammar.{IsPrim, a_number, a_minus, in_parens, a_local, a_middle, a_sensor, of_this_frame, of_last_frame, IsLevel}
use Rattle.sift_parse.specs.Reading.{Outcome, found, fault, and_then, read_name, read_word, closed_by, prim_from, prim_by}
use Rattle.sift_parse.proofs.Parsing.Laws.{Rel, Lawful, done, default-fault}
use Rattle.sift_parse.proofs.Parsing.Steps.{Then, in_turn, then_lawful, widened}
use Rattle.sift_parse.proofs.Parsing.Looks.{Picks, takes, leaves, choice, mapped}
use Rattle.sift_parse.proofs.Parsing.Signs.{NameHere, is_name, name_lawful, WordHere, is_word, word_lawful, Closed, closed_lawful, After, after_sign, after_lawful}

-- ---- prims

-- the third part of a middle, with the first two before it
data Third (t u : Term) : List Token → Term → List Token → Type 0 where
  third : (ts rest : List Token) (v : Term) → IsLevel 0 ts v (Sign CloseParen ∷ rest) → Third t u ts (middle t u v) rest

-- the second and the third
abbrev Second : Term → Rel Term
Second t = Then Term Term (Closed Term Comma (IsLevel 0)) (Third t)

-- the first and those
abbrev First : Rel Term
First = Then Term Term (Closed Term Comma (IsLevel 0)) Second

third_lawful : (expr : List Token → Outcome Term) → Lawful Term (IsLevel 0) expr → (t u : Term)
    → Lawful Term (Third t u) (λ ws. and_then (closed_by CloseParen expr ws) (λ v rest. found (middle t u v) rest))
third_lawful expr e t u =
    mapped Term Term (Closed Term CloseParen (IsLevel 0)) (Third t u) (closed_by CloseParen expr) (middle t u) third
    (closed_lawful Term CloseParen (IsLevel 0) expr e)

second_lawful : (expr : List Token → Outcome Term) → Lawful Term (IsLevel 0) expr → (t : Term)
    → Lawful Term (Second t) (λ vs. and_then (closed_by Comma expr vs) (λ u ws. and_then (closed_by CloseParen expr ws) (λ v rest. found (middle t u v) rest)))
second_lawful expr e t =
    then_lawful Term Term (Closed Term Comma (IsLevel 0)) (Third t) (closed_by Comma expr)
    (λ u ws. and_then (closed_by CloseParen expr ws) (λ v rest. found (middle t u v) rest)) (closed_lawful Term Comma (IsLevel 0) expr e)
    (third_lawful expr e t)

first_lawful : (expr : List Token → Outcome Term) → Lawful Term (IsLevel 0) expr
    → Lawful Term First (λ us. and_then (closed_by Comma expr us)
    (λ t vs. and_then (closed_by Comma expr vs) (λ u ws. and_then (closed_by CloseParen expr ws) (λ v rest. found (middle t u v) rest))))
first_lawful expr e =
    then_lawful Term Term (Closed Term Comma (IsLevel 0)) Second (closed_by Comma expr)
    (λ t vs. and_then (closed_by Comma expr vs) (λ u ws. and_then (closed_by CloseParen expr ws) (λ v rest. found (middle t u v) rest)))
    (closed_lawful Term Comma (IsLevel 0) expr e) (second_lawful expr e)

middle_rule : (ts rest : List Token) (m : Term) → After Term OpenParen First ts m rest → IsPrim (Keyword Mid ∷ ts) m rest
middle_rule ts rest m (after_sign us vs a (in_turn us1 mid vs1 t b d (in_turn us2 mid2 vs2 u c e (third us3 vs3 v f)))) = a_middle us1 us2 us3 vs3 t u v d e f

middle_lawful : (expr : List Token → Outcome Term) → Lawful Term (IsLevel 0) expr
    → Lawful Term (λ ts t rest. IsPrim (Keyword Mid ∷ ts) t rest) (λ ts. prim_from expr expr (Keyword Mid) ts)
middle_lawful expr e =
    widened Term (After Term OpenParen First) (λ ts t rest. IsPrim (Keyword Mid ∷ ts) t rest)
    (λ ts. prim_from expr expr (Keyword Mid) ts) middle_rule
    (after_lawful Term OpenParen First
    (λ us. and_then (closed_by Comma expr us)
    (λ t vs. and_then (closed_by Comma expr vs)
    (λ u ws. and_then (closed_by CloseParen expr ws) (λ v rest. found (middle t u v) rest)))) (first_lawful expr e))

sensor_rule : (ts rest : List Token) (x : ℕ) → NameHere ts x rest → IsPrim (Keyword Sense ∷ ts) (sense x) rest
sensor_rule ts rest x (is_name n us) = a_sensor n us

now_rule : (ts rest : List Token) (w : ℕ) → WordHere ts w rest → IsPrim (Keyword Now ∷ ts) (this_frame w) rest
now_rule ts rest w (is_word task v us) = of_this_frame task v us

last_rule : (ts rest : List Token) (w : ℕ) → WordHere ts w rest → IsPrim (Keyword Last ∷ ts) (last_frame w) rest
last_rule ts rest w (is_word task v us) = of_last_frame task v us

prim_picks : (prim expr : List Token → Outcome Term) → Lawful Term IsPrim prim → Lawful Term (IsLevel 0) expr → (t : Token)
    → Picks Term IsPrim (λ ts. fault ts) t (λ ts. prim_by prim expr (t ∷ ts))
prim_picks prim expr p e (Number n) = takes (done Term (λ ts t rest. IsPrim (Number n ∷ ts) t rest) (number n) (a_number n))
prim_picks prim expr p e (Name l) = takes (done Term (λ ts t rest. IsPrim (Name l ∷ ts) t rest) (local l) (a_local l))
prim_picks prim expr p e (Operator Sub) = takes (mapped Term Term IsPrim (λ ts t rest. IsPrim (Operator Sub ∷ ts) t rest) prim minus a_minus p)
prim_picks prim expr p e (Sign OpenParen) =
    takes (widened Term (Closed Term CloseParen (IsLevel 0)) (λ ts t rest. IsPrim (Sign OpenParen ∷ ts) t rest)
    (closed_by CloseParen expr) in_parens (closed_lawful Term CloseParen (IsLevel 0) expr e))
prim_picks prim expr p e (Keyword Mid) = takes (middle_lawful expr e)
prim_picks prim expr p e (Keyword Sense) =
    takes (mapped ℕ Term NameHere (λ ts t rest. IsPrim (Keyword Sense ∷ ts) t rest) read_name sense sensor_rule name_lawful)
prim_picks prim expr p e (Keyword Now) =
    takes (mapped ℕ Term WordHere (λ ts t rest. IsPrim (Keyword Now ∷ ts) t rest) read_word this_frame now_rule word_lawful)
prim_picks prim expr p e (Keyword Last) =
    takes (mapped ℕ Term WordHere (λ ts t rest. IsPrim (Keyword Last ∷ ts) t rest) read_word last_frame last_rule word_lawful)
prim_picks prim expr p e t = leaves (λ ts. refl)

-- the reader of prims is lawful for the grammar, where its readers of a prim and of an expression inside it are
pub prim_lawful : (prim expr : List Token → Outcome Term) → Lawful Term IsPrim prim → Lawful Term (IsLevel 0) expr
    → Lawful Term IsPrim (prim_by prim expr)
prim_lawful prim expr p e =
    choice Term IsPrim (λ ts. fault ts) (prim_by prim expr)
    (default-fault Term IsPrim (record { back = Number 0 ∷ []; made = number 0; rest = a_number 0 })) refl (prim_picks prim expr p e)
