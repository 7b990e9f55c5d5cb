-- What is printed may be written one piece after another.
use Rattle.std.proofs.Common.{◌≡◌, ℕ, suc, Bool, true, false, List, [], ◌∷◌, refl, sym, subst}
use Rattle.std.specs.Prelude.{nat_lt}
use Rattle.sift_lang.specs.Sound.{locals_after}
use Rattle.sift_lang.specs.Tree.{Term, number, local, sense, this_frame, last_frame, minus, binary, middle, Statement, bind, assign, output, choose, choose_else, repeat, Block, end, step}
use Rattle.sift_parse.specs.declared.token.Keyword.TheVariants.{If}
use Rattle.sift_parse.specs.declared.token.Sign.TheVariants.{Assign, OpenParen, CloseParen, OpenBrace, CloseBrace, Comma, Semicolon}
use Rattle.sift_parse.specs.Grammar.{level_of, prim_level}
use Rattle.sift_parse.specs.Lexeme.{word, operator, mark}
use Rattle.sift_parse.specs.Pieces.{joined, sign, keyword_bytes, Piece, far, near}
use Rattle.sift_parse.specs.Printing.{Naming, in_parens_if, left_level, print_term, print_value, print_statement, print_block, print_body}
use Rattle.sift_parse.proofs.Printing.Spacing.{MayFollow, AllFollow}
use Rattle.sift_parse.proofs.Printing.Follows.{term-first, block-first, IsOpen, block-open, far-follows, open-follows, parting-follows, minus-follows, FollowOperand, word-follows, number-follows}

-- ---- terms

-- it may be written before what may follow an operand
abbrev Follows : (Bool → List Piece → List Piece) → Type 0
Follows write = (blank : Bool) (rest : List Piece) → FollowOperand rest → AllFollow rest → AllFollow (write blank rest)

-- in parentheses it may be written before what may follow an operand
parens-follow : (b : Bool) (write : Bool → List Piece → List Piece) → Follows write → Follows (in_parens_if b write)
parens-follow true write law blank rest e f =
    let close = near (sign CloseParen) ∷ rest in
    (parting-follows OpenParen (write false close) tt, law false close tt (parting-follows CloseParen rest tt, f))
parens-follow false write law blank rest e f = law blank rest e f

-- a term may be written before what may follow an operand
term-follows : (N : Naming) (t : Term) (n : ℕ) → Follows (print_term N t n)
term-follows N (number k) n blank rest e f = (number-follows k rest e, f)
term-follows N (local l) n blank rest e f = (word-follows (N.local_name l) rest e, f)
term-follows N (sense x) n blank rest e f = (tt, (word-follows (N.sensor_name x) rest e, f))
term-follows N (this_frame w) n blank rest e f = (tt, (tt, (tt, (number-follows (N.index_of w) rest e, f))))
term-follows N (last_frame w) n blank rest e f = (tt, (tt, (tt, (number-follows (N.index_of w) rest e, f))))
term-follows N (minus t) n blank rest e f =
    let operand = print_term N t prim_level false rest in
    (minus-follows operand false (term-first N t prim_level false rest), term-follows N t prim_level false rest e f)
term-follows N (binary op t u) n blank rest e f =
    let m = level_of op in
    parens-follow (nat_lt m n) (λ blank rest. print_term N t (left_level m) blank (far (joined op) ∷ print_term N u (suc m) true rest))
    (λ blank rest e f. (let right = print_term N u (suc m) true rest in
    term-follows N t (left_level m) blank (far (joined op) ∷ right) tt
    (far-follows (operator op) right (term-first N u (suc m) true rest), term-follows N u (suc m) true rest e f)))
    blank rest e f
term-follows N (middle t u v) n blank rest e f =
    let close = near (sign CloseParen) ∷ rest in
    let third = print_term N v 0 true close in
    let second = print_term N u 0 true (near (sign Comma) ∷ third) in
    let first = print_term N t 0 false (near (sign Comma) ∷ second) in
    let x = term-follows N v 0 true close tt (parting-follows CloseParen rest tt, f) in
    let y = term-follows N u 0 true (near (sign Comma) ∷ third) tt (parting-follows Comma third tt, x) in
    let z = term-follows N t 0 false (near (sign Comma) ∷ second) tt (parting-follows Comma second tt, y) in
    (tt, (parting-follows OpenParen first tt, z))

-- ---- statements

-- an expression, with its `=` and its `;`
value-follows : (N : Naming) (t : Term) (rest : List Piece) → AllFollow rest → AllFollow (print_value N t rest)
value-follows N t rest f =
    let over = near (sign Semicolon) ∷ rest in
    let expr = print_term N t 0 true over in
    (far-follows (mark Assign) expr (term-first N t 0 true over), term-follows N t 0 true over tt (parting-follows Semicolon rest tt, f))

-- a block in braces, where the block may be written before what is open
braces-follow : (N : Naming) (b : Block) (k : ℕ) (rest : List Piece)
    → ((after : List Piece) → IsOpen after → AllFollow after → AllFollow (print_block N k b after)) → MayFollow (mark CloseBrace) rest
    → AllFollow rest → AllFollow (far (sign OpenBrace) ∷ print_block N k b (far (sign CloseBrace) ∷ rest))
braces-follow N b k rest law e f =
    let close = far (sign CloseBrace) ∷ rest in
    (far-follows (mark OpenBrace) (print_block N k b close) (block-first N b k close refl), law close refl (e, f))

-- a condition after `if`, before a block in braces
condition-follows : (N : Naming) (t : Term) (rest : List Piece) (blocks : List Piece) → blocks ≡ far (sign OpenBrace) ∷ rest → AllFollow blocks
    → MayFollow (word (keyword_bytes If)) (print_term N t 0 true blocks) × AllFollow (print_term N t 0 true blocks)
condition-follows N t rest blocks e f = (
  far-follows (word (keyword_bytes If)) (print_term N t 0 true blocks) (term-first N t 0 true blocks),
  term-follows N t 0 true blocks (subst FollowOperand (sym e) tt) f,
)

mutual
  statement-follows : (N : Naming) (s : Statement) (k : ℕ) (blank : Bool) (rest : List Piece) → IsOpen rest → AllFollow rest
      → AllFollow (print_statement N k s blank rest)
  statement-follows N (bind t) k blank rest o f = (tt, (tt, value-follows N t rest f))
  statement-follows N (assign l t) k blank rest o f = (tt, value-follows N t rest f)
  statement-follows N (output j t) k blank rest o f = (tt, (tt, value-follows N t rest f))
  statement-follows N (choose t b) k blank rest o f =
      condition-follows N t _ _ refl (braces-follow N b k rest (λ after o f. block-follows N b k after o f) (open-follows CloseBrace rest o) f)
  statement-follows N (choose_else t b c) k blank rest o f =
      let other = braces-follow N c k rest (λ after o f. block-follows N c k after o f) (open-follows CloseBrace rest o) f in
      condition-follows N t _ _ refl (braces-follow N b k _ (λ after o f. block-follows N b k after o f) tt (tt, other))
  statement-follows N (repeat n b) k blank rest o f =
      (tt, (tt, braces-follow N b k rest (λ after o f. block-follows N b k after o f) (open-follows CloseBrace rest o) f))

  block-follows : (N : Naming) (b : Block) (k : ℕ) (rest : List Piece) → IsOpen rest → AllFollow rest → AllFollow (print_block N k b rest)
  block-follows N end k rest o f = f
  block-follows N (step s b) k rest o f =
      let m = locals_after k s in
      statement-follows N s k true (print_block N m b rest) (block-open N b m rest o) (block-follows N b m rest o f)

-- the pieces of a body follow one another
pub body-follows : (N : Naming) (b : Block) → AllFollow (print_body N b)
body-follows N end = tt
body-follows N (step s b) =
    let m = locals_after 0 s in
    statement-follows N s 0 false (print_block N m b []) (block-open N b m [] tt) (block-follows N b m [] tt tt)
