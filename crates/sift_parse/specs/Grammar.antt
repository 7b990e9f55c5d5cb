-- The grammar: which tokens are a task, and which tree they have. What a relation relates is the tokens from a place on, the tree that begins there, and the tokens after it.
use Rattle.std.specs.Prelude.{◌≡◌, ℕ, suc, ◌<◌, List, [], ◌∷◌, ◌++◌}
use Rattle.sift_lang.specs.declared.tree.Op.{Op}
use Rattle.sift_lang.specs.declared.tree.Op.TheVariants.{Add, Sub, Mul, Div, Rem, And, Or, Xor, Shl, Shr, Lt, Eq}
use Rattle.sift_lang.specs.Tree.{Term, number, local, sense, this_frame, last_frame, minus, binary, middle, Statement, bind, assign, output, choose, choose_else, repeat, Block, end, step}
use Rattle.sift_parse.specs.declared.token.Keyword.TheVariants.{Let, Out, If, Else, Repeat, Mid, Sense, Now, Last}
use Rattle.sift_parse.specs.declared.token.Sign.TheVariants.{Assign, OpenParen, CloseParen, OpenBrace, CloseBrace, Comma, Dot, Semicolon}
use Rattle.sift_parse.specs.declared.token.Token.{Token}
use Rattle.sift_parse.specs.declared.token.Token.TheVariants.{Keyword, Name, Number, Index, Operator, Sign}

-- the level of an operator: `expr` is level 0, then come `bits`, `sum`, `term` and `shift`
abbrev pub level_of : Op → ℕ
level_of Lt = 0
level_of Eq = 0
level_of And = 1
level_of Or = 1
level_of Xor = 1
level_of Add = 2
level_of Sub = 2
level_of Mul = 3
level_of Div = 3
level_of Rem = 3
level_of Shl = 4
level_of Shr = 4

-- the level of a prim, which binds tighter than each operator
abbrev pub prim_level : ℕ
prim_level = 5

mutual
  -- prim = number | "-" prim | "(" expr ")" | name | "mid" "(" expr "," expr "," expr ")" | "sense" name | "now" name "." number | "last" name "." number
  pub data IsPrim : List Token → Term → List Token → Type 0 where
    a_number : (n : ℕ) (rest : List Token) → IsPrim (Number n ∷ rest) (number n) rest
    a_minus : (ts rest : List Token) (t : Term) → IsPrim ts t rest → IsPrim (Operator Sub ∷ ts) (minus t) rest
    in_parens : (ts rest : List Token) (t : Term) → IsLevel 0 ts t (Sign CloseParen ∷ rest) → IsPrim (Sign OpenParen ∷ ts) t rest
    a_local : (l : ℕ) (rest : List Token) → IsPrim (Name l ∷ rest) (local l) rest
    a_middle : (ts us vs rest : List Token) (t u v : Term) → IsLevel 0 ts t (Sign Comma ∷ us) → IsLevel 0 us u (Sign Comma ∷ vs) → IsLevel 0 vs v (Sign CloseParen ∷ rest) → IsPrim (Keyword Mid ∷ Sign OpenParen ∷ ts) (middle t u v) rest
    a_sensor : (x : ℕ) (rest : List Token) → IsPrim (Keyword Sense ∷ Name x ∷ rest) (sense x) rest
    of_this_frame : (task w : ℕ) (rest : List Token) → IsPrim (Keyword Now ∷ Name task ∷ Sign Dot ∷ Index w ∷ rest) (this_frame w) rest
    of_last_frame : (task w : ℕ) (rest : List Token) → IsPrim (Keyword Last ∷ Name task ∷ Sign Dot ∷ Index w ∷ rest) (last_frame w) rest

  -- a prim, or an operand of the next level with what joins it by operators of this level
  pub data IsLevel : ℕ → List Token → Term → List Token → Type 0 where
    a_prim : (ts rest : List Token) (t : Term) → IsPrim ts t rest → IsLevel prim_level ts t rest
    a_chain : (n : ℕ) (ts mid rest : List Token) (x t : Term) → n < prim_level → IsLevel (suc n) ts x mid → IsTail n x mid t rest → IsLevel n ts t rest

  -- x stands before the tokens, and the operators of level n that follow join it: one comparison at most, and others from the left as many as there are
  pub data IsTail : ℕ → Term → List Token → Term → List Token → Type 0 where
    no_more : (n : ℕ) (x : Term) (rest : List Token) → IsTail n x rest x rest
    compared : (op : Op) (x y : Term) (ts rest : List Token) → level_of op ≡ 0 → IsLevel 1 ts y rest → IsTail 0 x (Operator op ∷ ts) (binary op x y) rest
    more : (n : ℕ) (op : Op) (x y t : Term) (ts mid rest : List Token) → 0 < n → level_of op ≡ n → IsLevel (suc n) ts y mid → IsTail n (binary op x y) mid t rest → IsTail n x (Operator op ∷ ts) t rest

-- expr = bits [ ( "<" | "==" ) bits ]
abbrev pub IsExpr : List Token → Term → List Token → Type 0
IsExpr = IsLevel 0

mutual
  -- a statement, in one of its six forms
  pub data IsStatement : List Token → Statement → List Token → Type 0 where
    a_let : (l : ℕ) (ts rest : List Token) (t : Term) → IsExpr ts t (Sign Semicolon ∷ rest) → IsStatement (Keyword Let ∷ Name l ∷ Sign Assign ∷ ts) (bind t) rest
    an_assignment : (l : ℕ) (ts rest : List Token) (t : Term) → IsExpr ts t (Sign Semicolon ∷ rest) → IsStatement (Name l ∷ Sign Assign ∷ ts) (assign l t) rest
    an_output : (j : ℕ) (ts rest : List Token) (t : Term) → IsExpr ts t (Sign Semicolon ∷ rest) → IsStatement (Keyword Out ∷ Index j ∷ Sign Assign ∷ ts) (output j t) rest
    an_if : (ts us rest : List Token) (t : Term) (first : Block) → IsExpr ts t (Sign OpenBrace ∷ us) → IsBlock us first (Sign CloseBrace ∷ rest) → IsStatement (Keyword If ∷ ts) (choose t first) rest
    an_if_else : (ts us vs rest : List Token) (t : Term) (first second : Block) → IsExpr ts t (Sign OpenBrace ∷ us) → IsBlock us first (Sign CloseBrace ∷ Keyword Else ∷ Sign OpenBrace ∷ vs) → IsBlock vs second (Sign CloseBrace ∷ rest) → IsStatement (Keyword If ∷ ts) (choose_else t first second) rest
    a_repeat : (k : ℕ) (ts rest : List Token) (body : Block) → IsBlock ts body (Sign CloseBrace ∷ rest) → IsStatement (Keyword Repeat ∷ Number k ∷ Sign OpenBrace ∷ ts) (repeat k body) rest

  -- { stmt }
  pub data IsBlock : List Token → Block → List Token → Type 0 where
    no_statement : (rest : List Token) → IsBlock rest end rest
    a_statement : (ts mid rest : List Token) (s : Statement) (b : Block) → IsStatement ts s mid → IsBlock mid b rest → IsBlock ts (step s b) rest

-- task = { stmt }: the tokens are a task with this body
abbrev pub IsTask : List Token → Block → Type 0
IsTask ts body = IsBlock ts body []

-- the tokens begin some task
pub record Begins (front : List Token) : Type 0 where
  pub back : List Token
  pub body : Block
  pub whole : IsTask (front ++ back) body

-- The first place that offends: what stands before it begins a task, and with the token there it doesn't, or the tokens end there and are no task.
pub record Offends (ts bad : List Token) : Type 0 where
  pub front : List Token
  pub split : ts ≡ front ++ bad
  pub begins : Begins front
  pub not_with : (t : Token) (more : List Token) → bad ≡ t ∷ more → ¬ Begins (front ++ t ∷ [])
  pub not_whole : bad ≡ [] → (body : Block) → ¬ IsTask ts body
