-- How statements with an expression are printed, and what is printed of statements and blocks.
use Rattle.std.proofs.Common.{◌≡◌, ◌≢◌, ℕ, ◌<◌, ◌≤◌, Bool, List, ◌∷◌, ◌++◌, length, Some, None, slice_index, refl, sym, ap, ◌∙◌, subst}
use Rattle.sift_base.specs.Name.{IsName}
use Rattle.sift_lang.specs.Tree.{local_limit, Term, Statement, bind, assign, output, Block}
use Rattle.sift_parse.specs.declared.token.Keyword.TheVariants.{Let, Out, Now}
use Rattle.sift_parse.specs.declared.token.Sign.TheVariants.{Assign, Semicolon}
use Rattle.sift_parse.specs.declared.token.Token.TheVariants as token
use Rattle.sift_parse.specs.Force.{Level, without_minuses, old_local, role_after}
use Rattle.sift_parse.specs.Grammar.{IsStatement, a_let, an_assignment, an_output, IsBlock}
use Rattle.sift_parse.specs.Lexeme.{number_limit}
use Rattle.sift_parse.specs.Pieces.{key, called, figure, sign, Piece, piece, far, near}
use Rattle.sift_parse.specs.Printing.{Naming}
use Rattle.sift_parse.specs.Roll.{Roll}
use Rattle.sift_parse.specs.Tokens.{local_of}
use Rattle.sift_parse.proofs.Printing.Known.{Known, key_before, after_role, ended_let, known_after, tokens_by}
use Rattle.sift_parse.proofs.Printing.MayStand.{Means, AllMayStand}
use Rattle.sift_parse.proofs.Printing.Named.{names_after}
use Rattle.sift_parse.proofs.Printing.Printed.{Printed}
use Rattle.sift_parse.proofs.Printing.Read.{items_in}
use Rattle.sift_parse.proofs.Sound.Force.{bare-twice}

-- a statement may start here: a name is a local's, and no minus and no `let` is open
pub record Opens (r : Roll) (h : Known) : Type 0 where
  pub role : role_after (key_before h.before) ≡ old_local
  pub no_let : key_before h.before ≢ Some Let
  pub no_now : key_before h.before ≢ Some Now
  pub bare : without_minuses h.levels ≡ h.levels
  pub none : h.pending ≡ None

-- what is written before the rest is the statement, and each item of it may stand in its place
pub record Stated (r : Roll) (N : Naming) (h : Known) (s : Statement) (write : List Piece → List Piece) : Type 0 where
  pub after : Known
  pub opens : Opens r after
  pub levels : after.levels ≡ h.levels
  pub locals : after.locals ≡ names_after N h.locals s
  pub tokens : (rest : List Piece) → IsStatement (tokens_by r h (items_in (write rest))) s (tokens_by r after (items_in rest))
  pub stands : (rest : List Piece) → AllMayStand r after (items_in rest) → AllMayStand r h (items_in (write rest))

-- the same for a block, after which its own locals live besides the older ones
pub record Blocked (r : Roll) (h : Known) (b : Block) (write : List Piece → List Piece) : Type 0 where
  pub after : Known
  pub opens : Opens r after
  pub levels : after.levels ≡ h.levels
  pub more : List (List ℕ)
  pub locals : after.locals ≡ more ++ h.locals
  pub tokens : (rest : List Piece) → IsBlock (tokens_by r h (items_in (write rest))) b (tokens_by r after (items_in rest))
  pub stands : (rest : List Piece) → AllMayStand r after (items_in rest) → AllMayStand r h (items_in (write rest))

-- no minus is innermost after an expression
pub bare-of : (l m : List Level) → l ≡ without_minuses m → without_minuses l ≡ l
bare-of l m e = ap without_minuses e ∙ (bare-twice m ∙ sym e)

-- after a `;` a statement may start
semicolon-opens : (r : Roll) (g : Known) (l : List Level) → g.levels ≡ without_minuses l → Opens r (known_after g (sign Semicolon))
semicolon-opens r g l e = record { role = refl; no_let = λ e. cc; no_now = λ e. cc; bare = bare-of g.levels l e; none = refl }

-- an expression after a `=`, with its `;`
abbrev value_pieces : (List Piece → List Piece) → List Piece → List Piece
value_pieces write rest = far (sign Assign) ∷ write (near (sign Semicolon) ∷ rest)

-- ---- a new local

-- what is known after its `=`
abbrev pub in_let : Known → List ℕ → ℕ → Known
in_let h w k = known_after (known_after (known_after h (key Let)) (called w k)) (sign Assign)

-- a `let` is written by its name and its expression
pub let-written : (r : Roll) (N : Naming) (h : Known) (k : ℕ) (t : Term) (write : List Piece → List Piece) (blank : Bool) → Opens r h
    → k ≡ length h.locals → length h.locals < local_limit → IsName (N.local_name k) → Printed r (in_let h (N.local_name k) k) 0 t write
    → Stated r N h (bind t) (λ rest. piece blank (key Let) ∷ far (called (N.local_name k) k) ∷ value_pieces write rest)
let-written r N h k t write blank o e lt is i = record {
  after = known_after i.after (sign Semicolon);
  opens = semicolon-opens r i.after h.levels i.levels;
  levels = i.levels ∙ o.bare;
  locals =
      ap (λ x. ended_let x i.after.locals) i.pending
      ∙ (ap (λ l. N.local_name k ∷ l) i.locals ∙ ap (λ k. N.local_name k ∷ h.locals) e);
  tokens = λ rest. a_let k _ _ t (i.tokens (near (sign Semicolon) ∷ rest));
  stands = λ rest y. (
    (λ x. absurd (o.no_let x)),
    ((is, e, (λ x. lt), (λ x. cc)), ((tt, (λ x. cc)), i.stands (near (sign Semicolon) ∷ rest) ((tt, (λ x. cc)), y))),
  );
}

-- ---- an assignment

-- what is known after its `=`
abbrev pub in_assignment : Known → List ℕ → ℕ → Known
in_assignment h w l = known_after (after_role old_local w l h) (sign Assign)

-- an assignment is written by its name and its expression
pub assign-written : (r : Roll) (N : Naming) (h : Known) (l : ℕ) (w : List ℕ) (t : Term) (write : List Piece → List Piece) (blank : Bool)
    → Opens r h → IsName w → local_of h.locals w ≡ Some l → Printed r (in_assignment h w l) 0 t write
    → Stated r N h (assign l t) (λ rest. piece blank (called w l) ∷ value_pieces write rest)
assign-written r N h l w t write blank o is found i = record {
  after = known_after i.after (sign Semicolon);
  opens = semicolon-opens r i.after (without_minuses h.levels) i.levels;
  levels = i.levels ∙ (bare-twice h.levels ∙ o.bare);
  locals = ap (λ x. ended_let x i.after.locals) (i.pending ∙ o.none) ∙ i.locals;
  tokens = λ rest.
      subst (λ role. IsStatement (token.Name l ∷ tokens_by r (after_role role w l h) (items_in (value_pieces write rest))) (assign l t)
      (tokens_by r (known_after i.after (sign Semicolon)) (items_in rest))) (sym o.role)
      (an_assignment l _ _ t (i.tokens (near (sign Semicolon) ∷ rest)));
  stands = λ rest y. (
    (is, subst (λ role. Means r h.locals role w l) (sym o.role) found, (λ x. absurd (o.no_let x)), (λ x. absurd (o.no_now x))),
    subst (λ role. AllMayStand r (after_role role w l h) (items_in (value_pieces write rest))) (sym o.role)
        ((tt, (λ x. cc)), i.stands (near (sign Semicolon) ∷ rest) ((tt, (λ x. cc)), y)),
  );
}

-- ---- an output

-- what is known after its `=`
abbrev pub in_output : Known → ℕ → Known
in_output h j = known_after (known_after (known_after h (key Out)) (figure j)) (sign Assign)

-- an output is written by its number and its expression
pub output-written : (r : Roll) (N : Naming) (h : Known) (j : ℕ) (t : Term) (write : List Piece → List Piece) (blank : Bool) → Opens r h
    → j ≤ number_limit → j < slice_index r.sizes r.this → Printed r (in_output h j) 0 t write
    → Stated r N h (output j t) (λ rest. piece blank (key Out) ∷ far (figure j) ∷ value_pieces write rest)
output-written r N h j t write blank o small within i = record {
  after = known_after i.after (sign Semicolon);
  opens = semicolon-opens r i.after (without_minuses h.levels) i.levels;
  levels = i.levels ∙ (bare-twice h.levels ∙ o.bare);
  locals = ap (λ x. ended_let x i.after.locals) (i.pending ∙ o.none) ∙ i.locals;
  tokens = λ rest. an_output j _ _ t (i.tokens (near (sign Semicolon) ∷ rest));
  stands = λ rest y. (
    (λ x. absurd (o.no_let x)),
    ((small, (λ x. cc), within), ((tt, (λ x. cc)), i.stands (near (sign Semicolon) ∷ rest) ((tt, (λ x. cc)), y))),
  );
}
