-- The canonical text of a task's tree: one blank between lexemes that aren't bound closely, and parentheses only where the tree asks for them.
use Rattle.std.specs.Prelude.{ℕ, zero, suc, nat_lt, Bool, true, false, List, [], ◌∷◌}
use Rattle.sift_lang.specs.declared.tree.Op.TheVariants.{Sub}
use Rattle.sift_lang.specs.Sound.{locals_after}
use Rattle.sift_lang.specs.Tree.{Term, number, local, sense, this_frame, last_frame, minus, binary, middle, Statement, bind, assign, output, choose, choose_else, repeat, Block, end, step}
use Rattle.sift_parse.specs.declared.token.Keyword.TheVariants.{Let, Out, If, Else, Repeat, Mid, Sense, Now, Last}
use Rattle.sift_parse.specs.declared.token.Sign.TheVariants.{Assign, OpenParen, CloseParen, OpenBrace, CloseBrace, Comma, Dot, Semicolon}
use Rattle.sift_parse.specs.Grammar.{level_of, prim_level}
use Rattle.sift_parse.specs.Pieces.{key, called, figure, joined, sign, Piece, piece, far, near, text_of}

-- The names that a text writes: of a sensor and of a local by its number, and of a voted word that of its task.
-- Which task that is, and which of its words, the naming tells too.
pub record Naming : Type 0 where
  pub sensor_name : ℕ → List ℕ
  pub local_name : ℕ → List ℕ
  pub task_name : ℕ → List ℕ
  pub task_of : ℕ → ℕ
  pub index_of : ℕ → ℕ

-- ---- terms

-- what is written, in parentheses where they are asked for
abbrev pub in_parens_if : Bool → (Bool → List Piece → List Piece) → Bool → List Piece → List Piece
in_parens_if true write blank rest = piece blank (sign OpenParen) ∷ write false (near (sign CloseParen) ∷ rest)
in_parens_if false write blank rest = write blank rest

-- the level of a left operand: an operator of the same level may stand there without parentheses, but for comparisons
abbrev pub left_level : ℕ → ℕ
left_level zero = 1
left_level (suc n) = suc n

-- the pieces of a voted word: its task's name, a dot and its number among the task's
abbrev pub print_word : Naming → ℕ → List Piece → List Piece
print_word N w rest = far (called (N.task_name w) (N.task_of w)) ∷ near (sign Dot) ∷ near (figure (N.index_of w)) ∷ rest

-- the pieces of a term that is an operand of this level, the first after a blank or not, and then the rest
abbrev pub print_term : Naming → Term → ℕ → Bool → List Piece → List Piece
print_term N (number k) n blank rest = piece blank (figure k) ∷ rest
print_term N (local l) n blank rest = piece blank (called (N.local_name l) l) ∷ rest
print_term N (sense x) n blank rest = piece blank (key Sense) ∷ far (called (N.sensor_name x) x) ∷ rest
print_term N (this_frame w) n blank rest = piece blank (key Now) ∷ print_word N w rest
print_term N (last_frame w) n blank rest = piece blank (key Last) ∷ print_word N w rest
print_term N (minus t) n blank rest = piece blank (joined Sub) ∷ print_term N t prim_level false rest
print_term N (binary op t u) n blank rest =
    let m = level_of op in
    in_parens_if (nat_lt m n) (λ blank rest. print_term N t (left_level m) blank (far (joined op) ∷ print_term N u (suc m) true rest)) blank rest
print_term N (middle t u v) n blank rest =
    let third = near (sign Comma) ∷ print_term N v 0 true (near (sign CloseParen) ∷ rest) in
    let second = near (sign Comma) ∷ print_term N u 0 true third in
    piece blank (key Mid) ∷ near (sign OpenParen) ∷ print_term N t 0 false second

-- the pieces of a statement's expression, from its `=` to its `;`
abbrev pub print_value : Naming → Term → List Piece → List Piece
print_value N t rest = far (sign Assign) ∷ print_term N t 0 true (near (sign Semicolon) ∷ rest)

-- ---- statements

-- what is written, in braces
abbrev pub in_braces : (List Piece → List Piece) → List Piece → List Piece
in_braces write rest = far (sign OpenBrace) ∷ write (far (sign CloseBrace) ∷ rest)

abbrev mutual
  -- the pieces of a statement, where so many locals live
  pub print_statement : Naming → ℕ → Statement → Bool → List Piece → List Piece
  print_statement N k (bind t) blank rest = piece blank (key Let) ∷ far (called (N.local_name k) k) ∷ print_value N t rest
  print_statement N k (assign l t) blank rest = piece blank (called (N.local_name l) l) ∷ print_value N t rest
  print_statement N k (output j t) blank rest = piece blank (key Out) ∷ far (figure j) ∷ print_value N t rest
  print_statement N k (choose t first) blank rest = piece blank (key If) ∷ print_term N t 0 true (in_braces (print_block N k first) rest)
  print_statement N k (choose_else t first second) blank rest =
      let other = far (key Else) ∷ in_braces (print_block N k second) rest in
      piece blank (key If) ∷ print_term N t 0 true (in_braces (print_block N k first) other)
  print_statement N k (repeat n body) blank rest = piece blank (key Repeat) ∷ far (figure n) ∷ in_braces (print_block N k body) rest

  -- the pieces of a block, where so many locals live: its statements in turn, each after a blank
  pub print_block : Naming → ℕ → Block → List Piece → List Piece
  print_block N k end rest = rest
  print_block N k (step statement more) rest = print_statement N k statement true (print_block N (locals_after k statement) more rest)

-- the pieces of a task's body, which begin the text
abbrev pub print_body : Naming → Block → List Piece
print_body N end = []
print_body N (step statement more) = print_statement N 0 statement false (print_block N (locals_after 0 statement) more [])

-- the text that a body prints
abbrev pub printed_text : Naming → Block → List ℕ
printed_text N body = text_of (print_body N body)
