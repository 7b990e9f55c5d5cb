-- How operators, parentheses and `mid` are printed, where their operands are.
use Rattle.std.proofs.Common.{◌≡◌, suc, ◌<◌, Bool, true, false, not, List, ◌∷◌, length, drop, refl, sym, ap, ◌∙◌, subst}
use Rattle.sift_lang.specs.declared.tree.Op.{Op}
use Rattle.sift_lang.specs.declared.tree.Op.TheVariants.{Add, Sub, Mul, Div, Rem, And, Or, Xor, Shl, Shr, Lt, Eq}
use Rattle.sift_lang.specs.Tree.{Term, minus, binary, middle}
use Rattle.sift_parse.specs.declared.token.Keyword.TheVariants.{Mid}
use Rattle.sift_parse.specs.declared.token.Sign.TheVariants.{OpenParen, CloseParen, Comma}
use Rattle.sift_parse.specs.declared.token.Token.TheVariants as token
use Rattle.sift_parse.specs.Force.{without_minuses}
use Rattle.sift_parse.specs.Grammar.{level_of, a_minus, in_parens, a_middle, IsLevel, a_prim}
use Rattle.sift_parse.specs.Lexeme.{level_limit}
use Rattle.sift_parse.specs.Pieces.{key, joined, sign, Piece, piece, far, near}
use Rattle.sift_parse.specs.Printing.{left_level}
use Rattle.sift_parse.specs.Roll.{Roll}
use Rattle.sift_parse.proofs.Printing.Known.{Before, Known, ends_in, is_minus_after, after_operator, known_after, tokens_by}
use Rattle.sift_parse.proofs.Printing.Levels.{prim-of, op-level, two-operands}
use Rattle.sift_parse.proofs.Printing.MayStand.{FitsLevel, AllMayStand}
use Rattle.sift_parse.proofs.Printing.Printed.{Starts, Printed}
use Rattle.sift_parse.proofs.Printing.Read.{items_in}
use Rattle.sift_parse.proofs.Sound.Force.{bare-twice}

-- what is known after a `-` before a prim
abbrev pub in_minus : Known → Known
in_minus h = after_operator true h

-- a minus is written by a `-` and its prim
pub minus-written : (r : Roll) (h : Known) (t : Term) (write : List Piece → List Piece) (blank : Bool) → Starts r h.before
    → length h.levels < level_limit → Printed r (in_minus h) 5 t write → Printed r h 5 (minus t) (λ rest. piece blank (joined Sub) ∷ write rest)
minus-written r h t write blank s lt i =
    let opens : is_minus_after h.before Sub ≡ true = ap not s.ends in
    record {
      after = i.after;
      ends = i.ends;
      levels = i.levels;
      locals = i.locals;
      pending = i.pending;
      tokens = λ rest.
          subst (λ b. IsLevel 5 (token.Operator Sub ∷ tokens_by r (after_operator b h) (items_in (write rest))) (minus t)
          (tokens_by r i.after (items_in rest))) (sym opens)
          (a_prim _ _ (minus t) (a_minus _ _ t (prim-of 5 _ _ t refl (i.tokens rest))));
      stands = λ rest y. (
        (λ e. lt),
        subst (λ b. AllMayStand r (after_operator b h) (items_in (write rest))) (sym opens) (i.stands rest y),
      );
    }

-- an operator after an operand is no minus
joins : (b : Before) (op : Op) → ends_in b ≡ true → is_minus_after b op ≡ false
joins b Sub e = ap not e
joins b Add e = refl
joins b Mul e = refl
joins b Div e = refl
joins b Rem e = refl
joins b And e = refl
joins b Or e = refl
joins b Xor e = refl
joins b Shl e = refl
joins b Shr e = refl
joins b Lt e = refl
joins b Eq e = refl

-- what is known after an operator between operands
abbrev pub in_joined : Known → Known
in_joined h = after_operator false h

-- an operator is written between its operands
pub binary-written : (r : Roll) (h : Known) (op : Op) (t u : Term) (left right : List Piece → List Piece)
    → (i : Printed r h (left_level (level_of op)) t left) → Printed r (in_joined i.after) (suc (level_of op)) u right
    → Printed r h (level_of op) (binary op t u) (λ rest. left (far (joined op) ∷ right rest))
binary-written r h op t u left right i j =
    let closed = joins i.after.before op i.ends in
    record {
      after = j.after;
      ends = j.ends;
      levels = j.levels ∙ (ap without_minuses i.levels ∙ bare-twice h.levels);
      locals = j.locals ∙ i.locals;
      pending = j.pending ∙ i.pending;
      tokens = λ rest. (let more = far (joined op) ∷ right rest in
          two-operands (level_of op) op t u _ (tokens_by r (in_joined i.after) (items_in (right rest))) _ refl (op-level op)
          (subst (λ b. IsLevel (left_level (level_of op)) (tokens_by r h (items_in (left more))) t
          (token.Operator op ∷ tokens_by r (after_operator b i.after) (items_in (right rest)))) closed (i.tokens more))
          (j.tokens rest));
      stands = λ rest y.
          i.stands (far (joined op) ∷ right rest)
          (subst (λ b. FitsLevel b (length i.after.levels) × AllMayStand r (after_operator b i.after) (items_in (right rest))) (sym closed)
          ((λ e. cc), j.stands rest y));
    }

-- what is known after a `(`
abbrev pub in_paren : Known → Known
in_paren h = known_after h (sign OpenParen)

-- an expression in parentheses is a prim
pub parens-written : (r : Roll) (h : Known) (t : Term) (write : List Piece → List Piece) (blank : Bool) → length h.levels < level_limit
    → Printed r (in_paren h) 0 t write → Printed r h 5 t (λ rest. piece blank (sign OpenParen) ∷ write (near (sign CloseParen) ∷ rest))
parens-written r h t write blank lt i = record {
  after = known_after i.after (sign CloseParen);
  ends = refl;
  levels = ap (λ l. without_minuses (drop 1 l)) i.levels;
  locals = i.locals;
  pending = i.pending;
  tokens = λ rest. a_prim _ _ t (in_parens _ _ t (i.tokens (near (sign CloseParen) ∷ rest)));
  stands = λ rest y. ((tt, (λ e. lt)), i.stands (near (sign CloseParen) ∷ rest) ((tt, (λ e. cc)), y));
}

-- what is known after a comma
abbrev pub in_comma : Known → Known
in_comma h = known_after h (sign Comma)

-- the middle of three is written by its three expressions
pub middle-written : (r : Roll) (h : Known) (t u v : Term) (first second third : List Piece → List Piece) (blank : Bool) → Starts r h.before
    → length h.levels < level_limit → (i : Printed r (in_paren (known_after h (key Mid))) 0 t first)
    → (j : Printed r (in_comma i.after) 0 u second) → Printed r (in_comma j.after) 0 v third
    → Printed r h 5 (middle t u v)
    (λ rest. (let last = near (sign Comma) ∷ third (near (sign CloseParen) ∷ rest) in
    piece blank (key Mid) ∷ near (sign OpenParen) ∷ first (near (sign Comma) ∷ second last)))
middle-written r h t u v first second third blank s lt i j k = record {
  after = known_after k.after (sign CloseParen);
  ends = refl;
  levels =
      ap (λ l. without_minuses (drop 1 l)) (k.levels ∙ (ap without_minuses j.levels ∙ ap (λ l. without_minuses (without_minuses l)) i.levels));
  locals = k.locals ∙ (j.locals ∙ i.locals);
  pending = k.pending ∙ (j.pending ∙ i.pending);
  tokens = λ rest. (let close = near (sign CloseParen) ∷ rest in
      let last = near (sign Comma) ∷ third close in
      a_prim _ _ (middle t u v) (a_middle _ _ _ _ t u v (i.tokens (near (sign Comma) ∷ second last)) (j.tokens last) (k.tokens close)));
  stands = λ rest y. (let close = near (sign CloseParen) ∷ rest in
      let last = near (sign Comma) ∷ third close in (
        (λ e. absurd (s.no_let e)),
        (
          (tt, (λ e. lt)),
          i.stands (near (sign Comma) ∷ second last) ((tt, (λ e. cc)), j.stands last ((tt, (λ e. cc)), k.stands close ((tt, (λ e. cc)), y))),
        ),
      ));
}
