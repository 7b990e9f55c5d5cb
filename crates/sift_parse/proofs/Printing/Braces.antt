-- How statements with blocks in braces are printed.
use Rattle.std.proofs.Common.{◌≡◌, ℕ, ◌<◌, ◌≤◌, Bool, List, ◌∷◌, length, None, refl, sym, ap, ◌∙◌, arith}
use Rattle.sift_lang.specs.Tree.{round_limit, Term, choose, choose_else, repeat, Block}
use Rattle.sift_parse.specs.declared.token.Keyword.TheVariants.{If, Else, Repeat}
use Rattle.sift_parse.specs.declared.token.Sign.TheVariants.{OpenBrace, CloseBrace}
use Rattle.sift_parse.specs.Force.{without_minuses, oldest}
use Rattle.sift_parse.specs.Grammar.{an_if, an_if_else, a_repeat}
use Rattle.sift_parse.specs.Lexeme.{level_limit}
use Rattle.sift_parse.specs.Pieces.{key, figure, sign, Piece, piece, far}
use Rattle.sift_parse.specs.Printing.{Naming, in_braces}
use Rattle.sift_parse.specs.Roll.{Roll}
use Rattle.sift_parse.proofs.Places.Seen.{oldest-append}
use Rattle.sift_parse.proofs.Printing.Known.{Known, left_levels, left_locals, known_after}
use Rattle.sift_parse.proofs.Printing.Printed.{Printed}
use Rattle.sift_parse.proofs.Printing.Statements.{Opens, Stated, Blocked, bare-of}
use Rattle.sift_parse.proofs.Sound.Force.{bare-twice}

-- what is known after a `{`
abbrev pub in_brace : Known → Known
in_brace h = known_after h (sign OpenBrace)

-- a statement may start after a `{`
pub brace-opens : (r : Roll) (h : Known) → h.pending ≡ None → Opens r (in_brace h)
brace-opens r h e = record { role = refl; no_let = λ e. cc; no_now = λ e. cc; bare = refl; none = e }

-- the block in braces is over: its level is closed, and its locals live no more
pub record Closed (r : Roll) (h after : Known) : Type 0 where
  pub opens : without_minuses h.levels ≡ h.levels → Opens r after
  pub levels : after.levels ≡ h.levels
  pub locals : after.locals ≡ h.locals
  pub pending : after.pending ≡ None

-- what is so after the `}` of a block
pub closed : (r : Roll) (h : Known) (b : Block) (write : List Piece → List Piece) (j : Blocked r (in_brace h) b write)
    → Closed r h (known_after j.after (sign CloseBrace))
closed r h b write j =
    let levels : left_levels j.after.levels ≡ h.levels = ap left_levels j.levels in
    record {
      opens = λ e.
          record { role = refl; no_let = λ e. cc; no_now = λ e. cc; bare = ap without_minuses levels ∙ (e ∙ sym levels); none = j.opens.none };
      levels = levels;
      locals =
          ap (λ l. left_locals l j.after.locals) j.levels
          ∙ (ap (oldest (length h.locals)) j.locals ∙ oldest-append j.more h.locals);
      pending = j.opens.none;
    }

-- ---- an `if`

-- what is known after its keyword
abbrev pub in_if : Known → Known
in_if h = known_after h (key If)

-- an `if` is written by its expression and its block
pub if-written : (r : Roll) (N : Naming) (h : Known) (t : Term) (b : Block) (term first : List Piece → List Piece) (blank : Bool) → Opens r h
    → length h.levels < level_limit → (i : Printed r (in_if h) 0 t term) → Blocked r (in_brace i.after) b first
    → Stated r N h (choose t b) (λ rest. piece blank (key If) ∷ term (in_braces first rest))
if-written r N h t b term first blank o lt i j =
    let c = closed r i.after b first j in
    let same : length i.after.levels ≡ length h.levels = ap length (i.levels ∙ o.bare) in
    record {
      after = known_after j.after (sign CloseBrace);
      opens = c.opens (bare-of i.after.levels h.levels i.levels);
      levels = c.levels ∙ (i.levels ∙ o.bare);
      locals = c.locals ∙ i.locals;
      tokens = λ rest. an_if _ _ _ t b (i.tokens (in_braces first rest)) (j.tokens (far (sign CloseBrace) ∷ rest));
      stands = λ rest y. (
        (λ x. absurd (o.no_let x)),
        i.stands (in_braces first rest)
            ((tt, (λ x. omega arith)), j.stands (far (sign CloseBrace) ∷ rest) ((tt, (λ x. cc)), y)),
      );
    }

-- ---- an `if` with an `else`

-- what is known after the `else`
abbrev pub in_else : Known → Known
in_else h = known_after (known_after h (sign CloseBrace)) (key Else)

-- an `if` with an `else` is written by its expression and its blocks
pub else-written : (r : Roll) (N : Naming) (h : Known) (t : Term) (b c : Block) (term first second : List Piece → List Piece) (blank : Bool)
    → Opens r h → length h.levels < level_limit → (i : Printed r (in_if h) 0 t term) → (j : Blocked r (in_brace i.after) b first)
    → Blocked r (in_brace (in_else j.after)) c second
    → Stated r N h (choose_else t b c) (λ rest. piece blank (key If) ∷ term (in_braces first (far (key Else) ∷ in_braces second rest)))
else-written r N h t b c term first second blank o lt i j k =
    let x = closed r i.after b first j in
    let y = closed r (in_else j.after) c second k in
    let levels : left_levels j.after.levels ≡ h.levels = x.levels ∙ (i.levels ∙ o.bare) in
    let same : length i.after.levels ≡ length h.levels = ap length (i.levels ∙ o.bare) in
    let again : length (left_levels j.after.levels) ≡ length h.levels = ap length levels in
    record {
      after = known_after k.after (sign CloseBrace);
      opens = y.opens (ap without_minuses levels ∙ (o.bare ∙ sym levels));
      levels = y.levels ∙ levels;
      locals = y.locals ∙ (x.locals ∙ i.locals);
      tokens = λ rest. (let other = far (key Else) ∷ in_braces second rest in
          an_if_else _ _ _ _ t b c (i.tokens (in_braces first other)) (j.tokens (far (sign CloseBrace) ∷ other))
          (k.tokens (far (sign CloseBrace) ∷ rest)));
      stands = λ rest z. (let other = far (key Else) ∷ in_braces second rest in (
        (λ e. absurd (o.no_let e)),
        i.stands (in_braces first other) (
          (tt, (λ e. omega arith)),
          j.stands (far (sign CloseBrace) ∷ other) (
            (tt, (λ e. cc)),
            ((λ e. cc), ((tt, (λ e. omega arith)), k.stands (far (sign CloseBrace) ∷ rest) ((tt, (λ e. cc)), z))),
          ),
        ),
      ));
    }

-- ---- a `repeat`

-- what is known after its number
abbrev pub in_repeat : Known → ℕ → Known
in_repeat h n = known_after (known_after h (key Repeat)) (figure n)

-- a `repeat` is written by its number and its block
pub repeat-written : (r : Roll) (N : Naming) (h : Known) (n : ℕ) (b : Block) (body : List Piece → List Piece) (blank : Bool) → Opens r h
    → length h.levels < level_limit → n ≤ round_limit → Blocked r (in_brace (in_repeat h n)) b body
    → Stated r N h (repeat n b) (λ rest. piece blank (key Repeat) ∷ far (figure n) ∷ in_braces body rest)
repeat-written r N h n b body blank o lt le j =
    let c = closed r (in_repeat h n) b body j in
    let same : length (without_minuses h.levels) ≡ length h.levels = ap length o.bare in
    record {
      after = known_after j.after (sign CloseBrace);
      opens = c.opens (bare-twice h.levels);
      levels = c.levels ∙ o.bare;
      locals = c.locals;
      tokens = λ rest. a_repeat n _ _ b (j.tokens (far (sign CloseBrace) ∷ rest));
      stands = λ rest y. (
        (λ x. absurd (o.no_let x)),
        (
          (omega arith, (λ x. le), tt),
          ((tt, (λ x. omega arith)), j.stands (far (sign CloseBrace) ∷ rest) ((tt, (λ x. cc)), y)),
        ),
      );
    }
