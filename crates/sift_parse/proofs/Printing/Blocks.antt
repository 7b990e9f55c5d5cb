-- Statements and blocks that are printed are read as these.
use Rattle.std.proofs.Common.{◌≡◌, ℕ, ◌+◌, ◌≤◌, Bool, true, List, [], ◌∷◌, ◌++◌, length, refl, sym, ap, ◌∙◌, subst, arith, append_assoc}
use Rattle.sift_base.specs.Name.{IsName}
use Rattle.sift_lang.specs.Sound.{locals_after}
use Rattle.sift_lang.specs.Tree.{Term, Statement, bind, assign, output, choose, choose_else, repeat, Block, end, step}
use Rattle.sift_parse.specs.declared.token.Sign.TheVariants.{CloseBrace}
use Rattle.sift_parse.specs.Grammar.{no_statement, a_statement}
use Rattle.sift_parse.specs.Lexeme.{level_limit}
use Rattle.sift_parse.specs.Pieces.{sign, Piece}
use Rattle.sift_parse.specs.Printable.{depth, depth_of, depth_in}
use Rattle.sift_parse.specs.Printing.{Naming, print_term, print_statement, print_block}
use Rattle.sift_parse.specs.Roll.{Roll}
use Rattle.sift_parse.proofs.Printing.Braces.{in_brace, brace-opens, Closed, closed, in_if, if-written, in_else, else-written, in_repeat, repeat-written}
use Rattle.sift_parse.proofs.Printing.Known.{Known, known_after}
use Rattle.sift_parse.proofs.Printing.Named.{names_after, IsNamedStatement, IsNamedBlock}
use Rattle.sift_parse.proofs.Printing.Printed.{assign-starts, if-starts, Printed}
use Rattle.sift_parse.proofs.Printing.Statements.{Opens, Stated, Blocked, in_let, let-written, in_assignment, assign-written, in_output, output-written}
use Rattle.sift_parse.proofs.Printing.Terms.{fits-at, term-printed}
use Rattle.sift_parse.proofs.Sound.Force.{bare-short}

-- ---- one statement after another

-- after a statement as many locals live as names are seen
pub names-many : (N : Naming) (locals : List (List ℕ)) (s : Statement) → length (names_after N locals s) ≡ locals_after (length locals) s
names-many N locals (bind t) = omega arith
names-many N locals (assign l t) = refl
names-many N locals (output j t) = refl
names-many N locals (choose t b) = refl
names-many N locals (choose_else t b c) = refl
names-many N locals (repeat n b) = refl

-- the names that a statement adds
abbrev added : Naming → List (List ℕ) → Statement → List (List ℕ)
added N locals (bind t) = N.local_name (length locals) ∷ []
added N locals _ = []

-- a statement adds names before the older ones
names-added : (N : Naming) (locals : List (List ℕ)) (s : Statement) → names_after N locals s ≡ added N locals s ++ locals
names-added N locals (bind t) = refl
names-added N locals (assign l t) = refl
names-added N locals (output j t) = refl
names-added N locals (choose t b) = refl
names-added N locals (choose_else t b c) = refl
names-added N locals (repeat n b) = refl

-- a statement and the block after it are a block
step-written : (r : Roll) (N : Naming) (h : Known) (s : Statement) (b : Block) (first more : List Piece → List Piece)
    → (i : Stated r N h s first) → Blocked r i.after b more → Blocked r h (step s b) (λ rest. first (more rest))
step-written r N h s b first more i j = record {
  after = j.after;
  opens = j.opens;
  levels = j.levels ∙ i.levels;
  more = j.more ++ added N h.locals s;
  locals =
      j.locals ∙ (ap (λ l. j.more ++ l) (i.locals ∙ names-added N h.locals s) ∙ sym (append_assoc j.more (added N h.locals s) h.locals));
  tokens = λ rest. a_statement _ _ _ s b (i.tokens (more rest)) (j.tokens rest);
  stands = λ rest y. i.stands (more rest) (j.stands rest y);
}

-- ---- statements with blocks

-- how a block is printed, wherever it may start
abbrev InBlock : Roll → Naming → Block → Type 0
InBlock r N b = (k : ℕ) (g : Known) → Opens r g → k ≡ length g.locals → IsNamedBlock r N g.locals b
    → length g.levels + depth_in b ≤ level_limit → Blocked r g b (print_block N k b)

-- an `if` is printed as itself, where its block is
if-printed : (r : Roll) (N : Naming) (t : Term) (b : Block) (k : ℕ) (blank : Bool) (h : Known) → InBlock r N b → Opens r h
    → k ≡ length h.locals → IsNamedStatement r N h.locals (choose t b) → length h.levels + depth_of (choose t b) ≤ level_limit
    → Stated r N h (choose t b) (print_statement N k (choose t b) blank)
if-printed r N t b k blank h first o e named few =
    let i = term-printed r N t 0 true (in_if h) (omega arith) (if-starts r) (fits-at r N h (in_if h) t (depth t 0) refl named.0 (omega arith)) in
    let same : length i.after.levels ≡ length h.levels = ap length (i.levels ∙ o.bare) in
    if-written r N h t b (print_term N t 0 true) (print_block N k b) blank o (omega arith) i
    (first k (in_brace i.after) (brace-opens r i.after (i.pending ∙ o.none)) (e ∙ sym (ap length i.locals))
    (subst (λ l. IsNamedBlock r N l b) (sym i.locals) named.1) (omega arith))

-- an `if` with an `else` is printed as itself, where its blocks are
else-printed : (r : Roll) (N : Naming) (t : Term) (b c : Block) (k : ℕ) (blank : Bool) (h : Known) → InBlock r N b → InBlock r N c → Opens r h
    → k ≡ length h.locals → IsNamedStatement r N h.locals (choose_else t b c) → length h.levels + depth_of (choose_else t b c) ≤ level_limit
    → Stated r N h (choose_else t b c) (print_statement N k (choose_else t b c) blank)
else-printed r N t b c k blank h first second o e named few =
    then-first (term-printed r N t 0 true (in_if h) (omega arith) (if-starts r) (fits-at r N h (in_if h) t (depth t 0) refl named.0 (omega arith)))
  where
    then-second : (i : Printed r (in_if h) 0 t (print_term N t 0 true)) (j : Blocked r (in_brace i.after) b (print_block N k b))
        → Closed r i.after (known_after j.after (sign CloseBrace)) → length i.after.levels ≡ length h.levels
        → Stated r N h (choose_else t b c) (print_statement N k (choose_else t b c) blank)
    then-second i j x same =
        let g = in_else j.after in
        let again : length g.levels ≡ length i.after.levels = ap length x.levels in
        else-written r N h t b c (print_term N t 0 true) (print_block N k b) (print_block N k c) blank o (omega arith) i j
        (second k (in_brace g) (brace-opens r g x.pending) (e ∙ sym (ap length (x.locals ∙ i.locals)))
        (subst (λ l. IsNamedBlock r N l c) (sym (x.locals ∙ i.locals)) named.2) (omega arith))

    then-first : Printed r (in_if h) 0 t (print_term N t 0 true) → Stated r N h (choose_else t b c) (print_statement N k (choose_else t b c) blank)
    then-first i =
        let same : length i.after.levels ≡ length h.levels = ap length (i.levels ∙ o.bare) in
        let j = first k (in_brace i.after) (brace-opens r i.after (i.pending ∙ o.none)) (e ∙ sym (ap length i.locals))
        (subst (λ l. IsNamedBlock r N l b) (sym i.locals) named.1) (omega arith) in
        then-second i j (closed r i.after b (print_block N k b) j) same

-- ---- all statements and blocks

mutual
  -- a statement that is named, and within the limit of levels, is printed as itself where one may start
  pub statement-printed : (r : Roll) (N : Naming) (s : Statement) (k : ℕ) (blank : Bool) (h : Known) → Opens r h → k ≡ length h.locals
      → IsNamedStatement r N h.locals s → length h.levels + depth_of s ≤ level_limit → Stated r N h s (print_statement N k s blank)
  statement-printed r N (bind t) k blank h o e named few =
      let g = in_let h (N.local_name k) k in
      let-written r N h k t (print_term N t 0 true) blank o e named.2 (subst (λ n. IsName (N.local_name n)) (sym e) named.1)
      (term-printed r N t 0 true g (omega arith) (assign-starts r) (fits-at r N h g t (depth t 0) refl named.0 (omega arith)))
  statement-printed r N (assign l t) k blank h o e named few =
      let g = in_assignment h (N.local_name l) l in
      let short = bare-short h.levels in
      assign-written r N h l (N.local_name l) t (print_term N t 0 true) blank o named.1.is_name named.1.found
      (term-printed r N t 0 true g (omega arith) (assign-starts r) (fits-at r N h g t (depth t 0) refl named.0 (omega arith)))
  statement-printed r N (output j t) k blank h o e named few =
      let g = in_output h j in
      let short = bare-short h.levels in
      output-written r N h j t (print_term N t 0 true) blank o named.1 named.2
      (term-printed r N t 0 true g (omega arith) (assign-starts r) (fits-at r N h g t (depth t 0) refl named.0 (omega arith)))
  statement-printed r N (choose t b) k blank h o e named few =
      if-printed r N t b k blank h (λ k g o e named few. block-printed r N b k g o e named few) o e named few
  statement-printed r N (choose_else t b c) k blank h o e named few =
      else-printed r N t b c k blank h (λ k g o e named few. block-printed r N b k g o e named few)
      (λ k g o e named few. block-printed r N c k g o e named few) o e named few
  statement-printed r N (repeat n b) k blank h o e named few =
      let g = in_repeat h n in
      let same : length g.levels ≡ length h.levels = ap length o.bare in
      repeat-written r N h n b (print_block N k b) blank o (omega arith) named.0
      (block-printed r N b k (in_brace g) (brace-opens r g o.none) e named.1 (omega arith))

  -- a block that is named, and within the limit of levels, is printed as itself where a statement may start
  pub block-printed : (r : Roll) (N : Naming) (b : Block) (k : ℕ) (h : Known) → Opens r h → k ≡ length h.locals → IsNamedBlock r N h.locals b
      → length h.levels + depth_in b ≤ level_limit → Blocked r h b (print_block N k b)
  block-printed r N end k h o e named few = record {
    after = h;
    opens = o;
    levels = refl;
    more = [];
    locals = refl;
    tokens = λ rest. no_statement _;
    stands = λ rest y. y;
  }
  block-printed r N (step s b) k h o e named few =
      let i = statement-printed r N s k true h o e named.0 (omega arith) in
      let same : length i.after.levels ≡ length h.levels = ap length i.levels in
      let many : locals_after k s ≡ length i.after.locals =
      ap (λ k. locals_after k s) e ∙ (sym (names-many N h.locals s) ∙ sym (ap length i.locals)) in
      step-written r N h s b (print_statement N k s true) (print_block N (locals_after k s) b) i
      (block-printed r N b (locals_after k s) i.after i.opens many (subst (λ l. IsNamedBlock r N l b) (sym i.locals) named.1) (omega arith))
