-- A term that is printed is read as this term.
use Rattle.std.proofs.Common.{◌≡◌, ℕ, zero, suc, ◌+◌, ◌<◌, ◌≤◌, Bool, true, false, List, ◌∷◌, length, refl, sym, ap, ◌∙◌, subst, arith, max}
use Rattle.std.specs.Prelude.{nat_lt}
use Rattle.std.proofs.lemmas.Bool.Decides.{nat_tests}
use Rattle.sift_lang.specs.declared.tree.Op.{Op}
use Rattle.sift_lang.specs.Tree.{Term, number, local, sense, this_frame, last_frame, minus, binary, middle}
use Rattle.sift_parse.specs.declared.token.Keyword.TheVariants.{Mid}
use Rattle.sift_parse.specs.Force.{without_minuses}
use Rattle.sift_parse.specs.Grammar.{level_of}
use Rattle.sift_parse.specs.Lexeme.{level_limit}
use Rattle.sift_parse.specs.Pieces.{key, joined, Piece, far}
use Rattle.sift_parse.specs.Printable.{one_more_if, depth}
use Rattle.sift_parse.specs.Printing.{Naming, in_parens_if, left_level, print_term}
use Rattle.sift_parse.specs.Roll.{Roll}
use Rattle.sift_parse.proofs.Printing.Known.{Known, known_after}
use Rattle.sift_parse.proofs.Printing.Levels.{op-level}
use Rattle.sift_parse.proofs.Printing.Named.{IsNamed}
use Rattle.sift_parse.proofs.Printing.Operators.{in_minus, minus-written, in_joined, binary-written, in_paren, parens-written, in_comma, middle-written}
use Rattle.sift_parse.proofs.Printing.Prims.{number-written, local-written, sense-written, now-written, last-written}
use Rattle.sift_parse.proofs.Printing.Printed.{Starts, operator-starts, paren-starts, comma-starts, Printed, lowered}
use Rattle.sift_parse.proofs.Sound.Force.{bare-short}

-- what a term asks of the place where it is printed: its names are seen, and so many more levels may be open
pub record Fits (r : Roll) (N : Naming) (h : Known) (t : Term) (d : ℕ) : Type 0 where
  pub named : IsNamed r N h.locals t
  pub room : length h.levels + d ≤ level_limit

-- the same at a place with the same locals
pub fits-at : (r : Roll) (N : Naming) (g h : Known) (t : Term) (d : ℕ) → h.locals ≡ g.locals → IsNamed r N g.locals t
    → length h.levels + d ≤ level_limit → Fits r N h t d
fits-at r N g h t d e named room = record { named = subst (λ l. IsNamed r N l t) (sym e) named; room = room }

-- how an operand is printed, wherever it may start
abbrev Operand : Roll → Naming → Term → ℕ → Type 0
Operand r N t n = (blank : Bool) (g : Known) → Starts r g.before → Fits r N g t (depth t n) → Printed r g n t (print_term N t n blank)

-- ---- operators

-- the level of a left operand is that of a prim at most
left-few : (m : ℕ) → m < 5 → left_level m ≤ 5
left-few zero lt = omega arith
left-few (suc m) lt = omega arith

-- in parentheses where the level asks for them
in-parens-if : (r : Roll) (h : Known) (m n : ℕ) (t : Term) (write : Bool → List Piece → List Piece) (blank b : Bool) → nat_lt m n ≡ b → m < 5
    → n ≤ 5 → (b ≡ true → (length h.levels < level_limit) × Printed r (in_paren h) m t (write false))
    → (b ≡ false → Printed r h m t (write blank)) → Printed r h n t (in_parens_if b write blank)
in-parens-if r h m n t write blank true e lt few inside bare =
    let y = inside refl in
    lowered r h n 5 t _ few (omega arith)
    (parens-written r h t (write false) blank y.0 (lowered r (in_paren h) 0 m t (write false) (omega arith) (omega arith) y.1))
in-parens-if r h m n t write blank false e lt few inside bare =
    let le : n ≤ m = grind (arith, nat_tests) in lowered r h n m t (write blank) le (omega arith) (bare refl)

-- how many levels both operands open
abbrev both_depth : Op → Term → Term → ℕ
both_depth op t u = max (depth t (left_level (level_of op))) (depth u (suc (level_of op)))

-- both operands with the operator between
abbrev both_pieces : Naming → Op → Term → Term → Bool → List Piece → List Piece
both_pieces N op t u blank rest = print_term N t (left_level (level_of op)) blank (far (joined op) ∷ print_term N u (suc (level_of op)) true rest)

-- an operator and its operands, without parentheses
both-printed : (r : Roll) (N : Naming) (op : Op) (t u : Term) (h g : Known) (blank : Bool) → Operand r N t (left_level (level_of op))
    → Operand r N u (suc (level_of op)) → IsNamed r N h.locals (binary op t u) → g.locals ≡ h.locals → Starts r g.before
    → length g.levels + both_depth op t u ≤ level_limit → Printed r g (level_of op) (binary op t u) (both_pieces N op t u blank)
both-printed r N op t u h g blank left right named e st room =
    let i = left blank g st (fits-at r N h g t (depth t (left_level (level_of op))) e named.0 (omega arith)) in
    let x : length i.after.levels ≡ length (without_minuses g.levels) = ap length i.levels in
    let short = bare-short g.levels in
    let k = in_joined i.after in
    let j = right true k (operator-starts r) (fits-at r N h k u (depth u (suc (level_of op))) (i.locals ∙ e) named.1 (omega arith)) in
    binary-written r g op t u (print_term N t (left_level (level_of op)) blank) (print_term N u (suc (level_of op)) true) i j

-- an operator and its operands, in parentheses where the level asks for them
operator-printed : (r : Roll) (N : Naming) (op : Op) (t u : Term) (n : ℕ) (h : Known) (blank : Bool) → n ≤ 5
    → Operand r N t (left_level (level_of op)) → Operand r N u (suc (level_of op)) → Starts r h.before
    → Fits r N h (binary op t u) (depth (binary op t u) n) → Printed r h n (binary op t u) (print_term N (binary op t u) n blank)
operator-printed r N op t u n h blank few left right s f =
    let m = level_of op in
    in-parens-if r h m n (binary op t u) (both_pieces N op t u) blank (nat_lt m n) refl (op-level op) few
    (λ e. (let room : length h.levels + (both_depth op t u + 1) ≤ 32 =
    subst (λ c. length h.levels + one_more_if c (both_depth op t u) ≤ 32) e f.room in
    (omega arith, both-printed r N op t u h (in_paren h) false left right f.named refl (paren-starts r) (omega arith))))
    (λ e. (let room : length h.levels + both_depth op t u ≤ 32 = subst (λ c. length h.levels + one_more_if c (both_depth op t u) ≤ 32) e f.room in
    both-printed r N op t u h h blank left right f.named refl s room))

-- ---- the middle of three

-- the middle of three is printed as itself, where the three are
three-printed : (r : Roll) (N : Naming) (t u v : Term) (n : ℕ) (h : Known) (blank : Bool) → n ≤ 5 → Operand r N t 0 → Operand r N u 0
    → Operand r N v 0 → Starts r h.before → Fits r N h (middle t u v) (depth (middle t u v) n)
    → Printed r h n (middle t u v) (print_term N (middle t u v) n blank)
three-printed r N t u v n h blank few first second third s f =
    let room = f.room in
    then-second (first false g (paren-starts r) (fits-at r N h g t (depth t 0) refl f.named.0 (omega arith)))
  where
    g : Known
    g = in_paren (known_after h (key Mid))

    then-third : (i : Printed r g 0 t (print_term N t 0 false)) (j : Printed r (in_comma i.after) 0 u (print_term N u 0 true))
        → Printed r h n (middle t u v) (print_term N (middle t u v) n blank)
    then-third i j =
        let room = f.room in
        let x : length j.after.levels ≡ suc (length h.levels) = ap length (j.levels ∙ ap without_minuses i.levels) in
        let c = in_comma j.after in
        let k = third true c (comma-starts r) (fits-at r N h c v (depth v 0) (j.locals ∙ i.locals) f.named.2 (omega arith)) in
        lowered r h n 5 (middle t u v) _ few (omega arith)
        (middle-written r h t u v (print_term N t 0 false) (print_term N u 0 true) (print_term N v 0 true) blank s (omega arith) i j k)

    then-second : Printed r g 0 t (print_term N t 0 false) → Printed r h n (middle t u v) (print_term N (middle t u v) n blank)
    then-second i =
        let room = f.room in
        let x : length i.after.levels ≡ suc (length h.levels) = ap length i.levels in
        let c = in_comma i.after in
        then-third i (second true c (comma-starts r) (fits-at r N h c u (depth u 0) i.locals f.named.1 (omega arith)))

-- ---- all terms

-- a term is printed as itself, wherever it fits
pub term-printed : (r : Roll) (N : Naming) (t : Term) (n : ℕ) (blank : Bool) (h : Known) → n ≤ 5 → Starts r h.before
    → Fits r N h t (depth t n) → Printed r h n t (print_term N t n blank)
term-printed r N (number k) n blank h few s f = lowered r h n 5 (number k) _ few (omega arith) (number-written r h k blank s f.named)
term-printed r N (local l) n blank h few s f =
    lowered r h n 5 (local l) _ few (omega arith) (local-written r h l (N.local_name l) blank s f.named.is_name f.named.found)
term-printed r N (sense x) n blank h few s f =
    lowered r h n 5 (sense x) _ few (omega arith) (sense-written r h x (N.sensor_name x) blank s f.named.is_name f.named.found)
term-printed r N (this_frame w) n blank h few s f =
    lowered r h n 5 (this_frame w) _ few (omega arith)
    (now-written r h (N.task_name w) (N.task_of w) (N.index_of w) w blank s f.named.0 f.named.1)
term-printed r N (last_frame w) n blank h few s f =
    lowered r h n 5 (last_frame w) _ few (omega arith) (last-written r h (N.task_name w) (N.task_of w) (N.index_of w) w blank s f.named)
term-printed r N (minus t) n blank h few s f =
    let room = f.room in
    let g = in_minus h in
    let i = term-printed r N t 5 false g (omega arith) (operator-starts r) (fits-at r N h g t (depth t 5) refl f.named (omega arith)) in
    lowered r h n 5 (minus t) _ few (omega arith) (minus-written r h t (print_term N t 5 false) blank s (omega arith) i)
term-printed r N (binary op t u) n blank h few s f =
    let m = level_of op in
    operator-printed r N op t u n h blank few
    (λ blank g st x. term-printed r N t (left_level m) blank g (left-few m (op-level op)) st x)
    (λ blank g st x. term-printed r N u (suc m) blank g (omega (arith, op-level op)) st x) s f
term-printed r N (middle t u v) n blank h few s f =
    three-printed r N t u v n h blank few (λ blank g st x. term-printed r N t 0 blank g (omega arith) st x)
    (λ blank g st x. term-printed r N u 0 blank g (omega arith) st x) (λ blank g st x. term-printed r N v 0 blank g (omega arith) st x) s f
