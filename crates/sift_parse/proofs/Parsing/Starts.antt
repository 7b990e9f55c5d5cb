-- How statements and prims are read from their first token on.
use Rattle.std.proofs.Common.{rules, ◌≡◌, ℕ, suc, ◌-◌, ◌<◌, ◌≤◌, List, [], ◌∷◌, Option, Some, None, length, take, drop, get_or, Vec, Global, refl, sym, ap, ◌∙◌, arith}
use Rattle.std.proofs.lemmas.List.{take_all}
use Rattle.sift_lang.specs.declared.tree.Expr.{Expr}
use Rattle.sift_lang.specs.declared.tree.Op.TheVariants.{Sub}
use Rattle.sift_lang.specs.declared.tree.Stmt as stmts
use Rattle.sift_lang.specs.declared.tree.Stmt.{the_lemmas}
use Rattle.sift_lang.specs.Tree.{Term, number, local, sense, this_frame, last_frame, minus, Statement, bind, assign, output, choose, choose_else, repeat, Block, term_of, statement_of, block_of}
use Rattle.sift_parse.specs.declared.token.Keyword.TheVariants.{Let, Out, If, Repeat, Mid, Sense, Now, Last}
use Rattle.sift_parse.specs.declared.token.Sign.TheVariants.{OpenParen, CloseParen}
use Rattle.sift_parse.specs.declared.token.Token.{Token}
use Rattle.sift_parse.specs.declared.token.Token.TheVariants.{Keyword, Name, Number, Operator, Sign}
use Rattle.sift_parse.specs.Grammar.{prim_level}
use Rattle.sift_parse.specs.Reading.{Outcome, found, fault, and_then, read_name, read_number, read_index, read_word, closed_by, middle_by, prim_from, prim_by, read}
use Rattle.sift_parse.specs.ReadingBlocks.{braced_by, if_by, valued_by, value_by, statement_from, statement_by, read_block}
use Rattle.sift_parse.specs.Parsing.{Settles}

-- no token is left
pub none-left : (ts : List Token) → length ts < 1 → ts ≡ []
none-left [] lt = refl
none-left (t ∷ ts) lt = absurd (omega arith)

-- the tokens begin with this one
pub front : (t d : Token) (ts : List Token) → 1 ≤ length ts → get_or ts 0 d ≡ t → ts ≡ t ∷ take (length ts - 1) (drop 1 ts)
front t d [] le e = absurd (omega arith)
front t d (u ∷ us) le e = ap (λ v. v ∷ us) e ∙ ap (λ vs. t ∷ vs) (sym (take_all (suc (length us) - 1) us (omega arith)))

-- ---- statements

-- a statement, that there is one
abbrev some : Outcome Statement → Outcome (Option Statement)
some o = and_then o (λ s rest. found (Some s) rest)

-- a statement that is made of an expression
abbrev made : (Term → Statement) → Outcome Term → Outcome Statement
made make o = and_then o (λ t rest. found (make t) rest)

statement-front : (least : ℕ) (t : Token) (ts us : List Token) (o : Outcome (Option Statement)) → ts ≡ t ∷ us
    → ((fuel : ℕ) → least ≤ fuel → statement_from (read fuel 0) (read_block fuel) t us ≡ o)
    → Settles (Option Statement) (λ fuel. statement_by (read fuel 0) (read_block fuel)) ts o
statement-front least t ts us o e f =
    record { least = least; from = λ fuel le. ap (statement_by (read fuel 0) (read_block fuel)) e ∙ f fuel le }

-- no token is left, and no statement
pub statement-none : (ts : List Token) → ts ≡ [] → Settles (Option Statement) (λ fuel. statement_by (read fuel 0) (read_block fuel)) ts (found None ts)
statement-none ts e =
    record { least = 0; from = λ fuel le. ap (statement_by (read fuel 0) (read_block fuel)) e ∙ ap (λ us. found None us) (sym e) }

-- a `let` without a name
pub let-name : (ts us bad : List Token) → ts ≡ Keyword Let ∷ us → read_name us ≡ fault bad
    → Settles (Option Statement) (λ fuel. statement_by (read fuel 0) (read_block fuel)) ts (fault bad)
let-name ts us bad e r =
    statement-front 0 (Keyword Let) ts us (fault bad) e
    (λ fuel le. ap (λ o. some (and_then o (λ _ vs. value_by (read fuel 0) bind vs))) r)

-- a `let` with its name
pub let-value : (ts us vs : List Token) (n : ℕ) (o : Outcome Term) → ts ≡ Keyword Let ∷ us → read_name us ≡ found n vs
    → Settles Term (λ fuel. valued_by (read fuel 0)) vs o
    → Settles (Option Statement) (λ fuel. statement_by (read fuel 0) (read_block fuel)) ts (some (made bind o))
let-value ts us vs n o e r s =
    statement-front s.least (Keyword Let) ts us (some (made bind o)) e
    (λ fuel le. ap (λ p. some (and_then p (λ _ vs. value_by (read fuel 0) bind vs))) r ∙ ap (λ p. some (made bind p)) (s.from fuel le))

-- a local that is set
pub set-value : (l : ℕ) (ts us : List Token) (o : Outcome Term) → ts ≡ Name l ∷ us → Settles Term (λ fuel. valued_by (read fuel 0)) us o
    → Settles (Option Statement) (λ fuel. statement_by (read fuel 0) (read_block fuel)) ts (some (made (assign l) o))
set-value l ts us o e s =
    statement-front s.least (Name l) ts us (some (made (assign l) o)) e (λ fuel le. ap (λ p. some (made (assign l) p)) (s.from fuel le))

-- an `out` without the number of a word
pub out-word : (ts us bad : List Token) → ts ≡ Keyword Out ∷ us → read_index us ≡ fault bad
    → Settles (Option Statement) (λ fuel. statement_by (read fuel 0) (read_block fuel)) ts (fault bad)
out-word ts us bad e r =
    statement-front 0 (Keyword Out) ts us (fault bad) e
    (λ fuel le. ap (λ o. some (and_then o (λ j vs. value_by (read fuel 0) (output j) vs))) r)

-- an `out` with the number of its word
pub out-value : (ts us vs : List Token) (j : ℕ) (o : Outcome Term) → ts ≡ Keyword Out ∷ us → read_index us ≡ found j vs
    → Settles Term (λ fuel. valued_by (read fuel 0)) vs o
    → Settles (Option Statement) (λ fuel. statement_by (read fuel 0) (read_block fuel)) ts (some (made (output j) o))
out-value ts us vs j o e r s =
    statement-front s.least (Keyword Out) ts us (some (made (output j) o)) e
    (λ fuel le. ap (λ p. some (and_then p (λ j vs. value_by (read fuel 0) (output j) vs))) r
    ∙ ap (λ p. some (made (output j) p)) (s.from fuel le))

-- an `if`
pub if-rest : (ts us : List Token) (o : Outcome Statement) → ts ≡ Keyword If ∷ us
    → Settles Statement (λ fuel. if_by (read fuel 0) (read_block fuel)) us o
    → Settles (Option Statement) (λ fuel. statement_by (read fuel 0) (read_block fuel)) ts (some o)
if-rest ts us o e s = statement-front s.least (Keyword If) ts us (some o) e (λ fuel le. ap some (s.from fuel le))

-- a `repeat` without a number
pub repeat-number : (ts us bad : List Token) → ts ≡ Keyword Repeat ∷ us → read_number us ≡ fault bad
    → Settles (Option Statement) (λ fuel. statement_by (read fuel 0) (read_block fuel)) ts (fault bad)
repeat-number ts us bad e r =
    statement-front 0 (Keyword Repeat) ts us (fault bad) e
    (λ fuel le. ap (λ o. some (and_then o (λ k vs. and_then (braced_by (read_block fuel) vs) (λ body rest. found (repeat k body) rest)))) r)

-- a `repeat` with its number
pub repeat-block : (ts us vs : List Token) (k : ℕ) (o : Outcome Block) → ts ≡ Keyword Repeat ∷ us → read_number us ≡ found k vs
    → Settles Block (λ fuel. braced_by (read_block fuel)) vs o
    → Settles (Option Statement) (λ fuel. statement_by (read fuel 0) (read_block fuel)) ts
    (some (and_then o (λ body rest. found (repeat k body) rest)))
repeat-block ts us vs k o e r s =
    statement-front s.least (Keyword Repeat) ts us (some (and_then o (λ body rest. found (repeat k body) rest))) e
    (λ fuel le. ap (λ p. some (and_then p (λ k vs. and_then (braced_by (read_block fuel) vs) (λ body rest. found (repeat k body) rest)))) r
    ∙ ap (λ p. some (and_then p (λ body rest. found (repeat k body) rest))) (s.from fuel le))

-- ---- the statements that are built

-- a `let` binds its expression
pub of-let : (e : Expr) → statement_of (stmts.Let e) ≡ bind (term_of e)
of-let e = search (rules, the_lemmas)

-- a `set` gives a local the value of its expression
pub of-set : (l : ℕ) (e : Expr) → statement_of (stmts.Set l e) ≡ assign l (term_of e)
of-set l e = search (rules, the_lemmas)

-- an output word gets the value of its expression
pub of-output : (j : ℕ) (e : Expr) → statement_of (stmts.Output j e) ≡ output j (term_of e)
of-output j e = search (rules, the_lemmas)

-- a `repeat` repeats its block
pub of-repeat : (k : ℕ) (body : Vec stmts.Stmt Global) → statement_of (stmts.Repeat k body) ≡ repeat k (block_of body.items)
of-repeat k body = search (rules, the_lemmas)

-- an `if` without `else` takes its block, or nothing
pub of-if : (e : Expr) (first : Vec stmts.Stmt Global) → statement_of (stmts.If e first None) ≡ choose (term_of e) (block_of first.items)
of-if e first = search (rules, the_lemmas)

-- and one with `else` takes either block
pub of-if_else : (e : Expr) (first second : Vec stmts.Stmt Global)
    → statement_of (stmts.If e first (Some second)) ≡ choose_else (term_of e) (block_of first.items) (block_of second.items)
of-if_else e first second = search (rules, the_lemmas)

-- ---- prims

prim-front : (least : ℕ) (t : Token) (ts us : List Token) (o : Outcome Term) → ts ≡ t ∷ us
    → ((fuel : ℕ) → least ≤ fuel → prim_from (read fuel prim_level) (read fuel 0) t us ≡ o)
    → Settles Term (λ fuel. prim_by (read fuel prim_level) (read fuel 0)) ts o
prim-front least t ts us o e f =
    record { least = least; from = λ fuel le. ap (prim_by (read fuel prim_level) (read fuel 0)) e ∙ f fuel le }

-- no token is left
pub prim-none : (ts : List Token) → ts ≡ [] → Settles Term (λ fuel. prim_by (read fuel prim_level) (read fuel 0)) ts (fault ts)
prim-none ts e =
    record { least = 0; from = λ fuel le. ap (prim_by (read fuel prim_level) (read fuel 0)) e ∙ ap (λ us. fault us) (sym e) }

-- a number
pub number-here : (n : ℕ) (ts us : List Token) → ts ≡ Number n ∷ us
    → Settles Term (λ fuel. prim_by (read fuel prim_level) (read fuel 0)) ts (found (number n) us)
number-here n ts us e = prim-front 0 (Number n) ts us (found (number n) us) e (λ fuel le. refl)

-- a local
pub local-here : (l : ℕ) (ts us : List Token) → ts ≡ Name l ∷ us
    → Settles Term (λ fuel. prim_by (read fuel prim_level) (read fuel 0)) ts (found (local l) us)
local-here l ts us e = prim-front 0 (Name l) ts us (found (local l) us) e (λ fuel le. refl)

-- a minus and its prim
pub minus-prim : (ts us : List Token) (o : Outcome Term) → ts ≡ Operator Sub ∷ us → Settles Term (λ fuel. read fuel prim_level) us o
    → Settles Term (λ fuel. prim_by (read fuel prim_level) (read fuel 0)) ts (and_then o (λ t rest. found (minus t) rest))
minus-prim ts us o e s =
    prim-front s.least (Operator Sub) ts us (and_then o (λ t rest. found (minus t) rest)) e
    (λ fuel le. ap (λ p. and_then p (λ t rest. found (minus t) rest)) (s.from fuel le))

-- an expression in parentheses
pub paren-rest : (ts us : List Token) (o : Outcome Term) → ts ≡ Sign OpenParen ∷ us
    → Settles Term (λ fuel. closed_by CloseParen (read fuel 0)) us o
    → Settles Term (λ fuel. prim_by (read fuel prim_level) (read fuel 0)) ts o
paren-rest ts us o e s = prim-front s.least (Sign OpenParen) ts us o e (λ fuel le. s.from fuel le)

-- a `mid`
pub mid-rest : (ts us : List Token) (o : Outcome Term) → ts ≡ Keyword Mid ∷ us → Settles Term (λ fuel. middle_by (read fuel 0)) us o
    → Settles Term (λ fuel. prim_by (read fuel prim_level) (read fuel 0)) ts o
mid-rest ts us o e s = prim-front s.least (Keyword Mid) ts us o e (λ fuel le. s.from fuel le)

-- a sensor
pub sense-name : (ts us : List Token) (o : Outcome ℕ) → ts ≡ Keyword Sense ∷ us → read_name us ≡ o
    → Settles Term (λ fuel. prim_by (read fuel prim_level) (read fuel 0)) ts (and_then o (λ x rest. found (sense x) rest))
sense-name ts us o e r =
    prim-front 0 (Keyword Sense) ts us (and_then o (λ x rest. found (sense x) rest)) e
    (λ fuel le. ap (λ p. and_then p (λ x rest. found (sense x) rest)) r)

-- a word of this frame
pub now-word : (ts us : List Token) (o : Outcome ℕ) → ts ≡ Keyword Now ∷ us → read_word us ≡ o
    → Settles Term (λ fuel. prim_by (read fuel prim_level) (read fuel 0)) ts (and_then o (λ w rest. found (this_frame w) rest))
now-word ts us o e r =
    prim-front 0 (Keyword Now) ts us (and_then o (λ w rest. found (this_frame w) rest)) e
    (λ fuel le. ap (λ p. and_then p (λ w rest. found (this_frame w) rest)) r)

-- a word of the last frame
pub last-word : (ts us : List Token) (o : Outcome ℕ) → ts ≡ Keyword Last ∷ us → read_word us ≡ o
    → Settles Term (λ fuel. prim_by (read fuel prim_level) (read fuel 0)) ts (and_then o (λ w rest. found (last_frame w) rest))
last-word ts us o e r =
    prim-front 0 (Keyword Last) ts us (and_then o (λ w rest. found (last_frame w) rest)) e
    (λ fuel le. ap (λ p. and_then p (λ w rest. found (last_frame w) rest)) r)
