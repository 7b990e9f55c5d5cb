-- What stands at the place of a lexeme, and that nothing stands before lexemes whose tokens begin a task.
use Rattle.std.proofs.Common.{◌≡◌, ℕ, inl, inr, List, [], ◌∷◌, ◌++◌, length, codes, refl, sym, ap, ◌∙◌, subst, arith, append_assoc, length-append}
use Rattle.std.proofs.lemmas.List.{map-append}
use Rattle.sift_lang.specs.declared.tree.Op.{Op}
use Rattle.sift_lang.specs.declared.tree.Op.TheVariants.{Add, Sub, Mul, Div, Rem, And, Or, Xor, Shl, Shr, Lt, Eq}
use Rattle.sift_parse.specs.declared.scan.Refusal as held
use Rattle.sift_parse.specs.declared.scan.Refusal.TheVariants as variant
use Rattle.sift_parse.specs.declared.token.Sign.{Sign}
use Rattle.sift_parse.specs.declared.token.Sign.TheVariants.{Assign, OpenParen, CloseParen, OpenBrace, CloseBrace, Comma, Dot, Semicolon}
use Rattle.sift_parse.specs.Grammar.{Begins}
use Rattle.sift_parse.specs.Force.{force_after}
use Rattle.sift_parse.specs.Lexeme.{Lexeme, word, numeral, operator, mark, operator_bytes, sign_bytes, Spells, IsLexeme, Placed, Lexes}
use Rattle.sift_parse.specs.Tokens.{place_after, tokens_of, tokens_after}
use Rattle.sift_parse.specs.Roll.{Roll}
use Rattle.sift_parse.specs.Refusal.{BeginsWith, IsNoSyntax, lexemes_of, NoneBefore}
use Rattle.sift_parse.specs.Scanned.{Kind, no_lexeme_here, no_syntax, long_name, large_number, many_rounds, many_locals, deep_level, unknown_name, later_task, StandsIn, StandsAt, IsFine, kind_of}
use Rattle.sift_parse.proofs.Refusals.Kinds.{Stands, NoneEarlier, none_told}
use Rattle.sift_parse.proofs.Lexing.OneLexing.{one_lexeme, next_lexeme}
use Rattle.sift_parse.proofs.Places.Placing.{begins-front, tokens_of-append, places_are_force}

-- ---- a lexeme has bytes

operator-some : (op : Op) → [] ≡ operator_bytes op → ⊥
operator-some Add e = cc
operator-some Sub e = cc
operator-some Mul e = cc
operator-some Div e = cc
operator-some Rem e = cc
operator-some And e = cc
operator-some Or e = cc
operator-some Xor e = cc
operator-some Shl e = cc
operator-some Shr e = cc
operator-some Lt e = cc
operator-some Eq e = cc

mark-some : (s : Sign) → [] ≡ sign_bytes s → ⊥
mark-some Assign e = cc
mark-some OpenParen e = cc
mark-some CloseParen e = cc
mark-some OpenBrace e = cc
mark-some CloseBrace e = cc
mark-some Comma e = cc
mark-some Dot e = cc
mark-some Semicolon e = cc

-- what a lexeme is spelled by has bytes
pub spells-some : (l : Lexeme) (bytes : List ℕ) → bytes ≡ [] → Spells l bytes → ⊥
spells-some (word w) [] e h = h.0
spells-some (word w) (b ∷ bytes) e h = cc
spells-some (numeral n) bytes e (inl h) = let n : length bytes ≡ 0 = ap length e in let s = h.some in omega arith
spells-some (numeral n) bytes e (inr h) =
    let n : 0 ≡ length (codes "0x" ++ h.0) = ap length (sym e ∙ h.1) in let m = length-append (codes "0x") h.0 in
    omega arith
spells-some (operator op) bytes e h = operator-some op (sym e ∙ h)
spells-some (mark s) bytes e h = mark-some s (sym e ∙ h)

front-empty : (xs ys : List ℕ) → [] ≡ xs ++ ys → xs ≡ []
front-empty [] ys e = refl
front-empty (x ∷ xs) ys e = cc

-- no lexeme begins a text without bytes
pub no_lexeme-of-nothing : (l : Lexeme) (rest : List ℕ) → IsLexeme [] l rest → ⊥
no_lexeme-of-nothing l rest x = spells-some l x.spelled (front-empty x.spelled rest x.split) x.spells

-- ---- at the place of a lexeme

begins-with : (P : Lexeme → Type 0) (text mid : List ℕ) (l : Lexeme) → IsLexeme text l mid → BeginsWith text P → P l
begins-with P text mid l x b = subst P (one_lexeme text b.lexeme l b.rest mid b.is_lexeme x).0 b.holds

syntax-stands : (r : Roll) (front : List Lexeme) (text mid : List ℕ) (l : Lexeme) → IsLexeme text l mid → IsNoSyntax r front text
    → ¬ Begins (tokens_of r (front ++ l ∷ []))
syntax-stands r front [] mid l x h = absurd (no_lexeme-of-nothing l mid x)
syntax-stands r front (b ∷ bs) mid l x h = begins-with (λ l. ¬ Begins (tokens_of r (front ++ l ∷ []))) (b ∷ bs) mid l x h.1

-- what stands at the place stands at the lexeme, where the tokens to it begin a task
stands-in : (r : Roll) (front : List Lexeme) (text mid : List ℕ) (l : Lexeme) (kind : Kind) → IsLexeme text l mid
    → Begins (tokens_of r (front ++ l ∷ [])) → Stands r front text kind → StandsIn r (place_after front) l kind
stands-in r front text mid l no_lexeme_here x b h = h.1 l mid x
stands-in r front text mid l no_syntax x b h = syntax-stands r front text mid l x h b
stands-in r front text mid l long_name x b h = begins-with (λ l. StandsIn r (place_after front) l long_name) text mid l x h
stands-in r front text mid l large_number x b h = begins-with (λ l. StandsIn r (place_after front) l large_number) text mid l x h
stands-in r front text mid l many_rounds x b h = begins-with (λ l. StandsIn r (place_after front) l many_rounds) text mid l x h
stands-in r front text mid l many_locals x b h = begins-with (λ l. StandsIn r (place_after front) l many_locals) text mid l x h
stands-in r front text mid l deep_level x b h = begins-with (λ l. StandsIn r (place_after front) l deep_level) text mid l x h
stands-in r front text mid l unknown_name x b h = begins-with (λ l. StandsIn r (place_after front) l unknown_name) text mid l x h
stands-in r front text mid l later_task x b h = begins-with (λ l. StandsIn r (place_after front) l later_task) text mid l x h

-- the lexemes before one begin a task, where those to it do
begins-to : (r : Roll) (front : List Lexeme) (l : Lexeme) → Begins (tokens_of r (front ++ l ∷ [])) → Begins (tokens_of r front)
begins-to r front l b = begins-front (tokens_of r front) (tokens_after r front (l ∷ [])) (subst Begins (tokens_of-append r front (l ∷ [])) b)

-- what stands at a lexeme's place stands at it with what is in force there, where the tokens to it begin a task
pub stands-at : (r : Roll) (front : List Lexeme) (text mid : List ℕ) (l : Lexeme) (kind : Kind) → IsLexeme text l mid
    → Begins (tokens_of r (front ++ l ∷ [])) → Stands r front text kind → StandsAt r (force_after front) l kind
stands-at r front text mid l kind x b h =
    subst (λ p. StandsIn r p l kind) (sym (places_are_force r front (begins-to r front l b))) (stands-in r front text mid l kind x b h)

-- what stands at the lexeme stands at its place
told-here : (r : Roll) (front : List Lexeme) (text mid : List ℕ) (l : Lexeme) (k : held.Refusal) → IsLexeme text l mid
    → StandsIn r (place_after front) l (kind_of k) → Stands r front text (kind_of k)
told-here r front text mid l variant.LongName x h = record { lexeme = l; rest = mid; is_lexeme = x; holds = h }
told-here r front text mid l variant.LargeNumber x h = record { lexeme = l; rest = mid; is_lexeme = x; holds = h }
told-here r front text mid l variant.ManyRounds x h = record { lexeme = l; rest = mid; is_lexeme = x; holds = h }
told-here r front text mid l variant.ManyLocals x h = record { lexeme = l; rest = mid; is_lexeme = x; holds = h }
told-here r front text mid l variant.DeepLevel x h = record { lexeme = l; rest = mid; is_lexeme = x; holds = h }
told-here r front text mid l variant.UnknownName x h = record { lexeme = l; rest = mid; is_lexeme = x; holds = h }
told-here r front text mid l variant.LaterTask x h = record { lexeme = l; rest = mid; is_lexeme = x; holds = h }

-- what stands at a lexeme with what is in force stands at its place, where the tokens before it begin a task
pub stands-here : (r : Roll) (front : List Lexeme) (text mid : List ℕ) (l : Lexeme) (k : held.Refusal) → IsLexeme text l mid
    → Begins (tokens_of r front) → StandsAt r (force_after front) l (kind_of k) → Stands r front text (kind_of k)
stands-here r front text mid l k x b h = told-here r front text mid l k x (subst (λ p. StandsIn r p l (kind_of k)) (places_are_force r front b) h)

-- the refusal of grammar stands at a lexeme's place, where the tokens before it begin a task, and with it don't
pub syntax-here : (r : Roll) (front : List Lexeme) (text mid : List ℕ) (l : Lexeme) → IsLexeme text l mid → Begins (tokens_of r front)
    → ¬ Begins (tokens_of r (front ++ l ∷ [])) → IsNoSyntax r front text
syntax-here r front [] mid l x b h = absurd (no_lexeme-of-nothing l mid x)
syntax-here r front (c ∷ cs) mid l x b h = (b, record { lexeme = l; rest = mid; is_lexeme = x; holds = h })

-- ---- the places before

-- the tokens of lexemes begin a task, where those of more do
pub begins-before : (r : Roll) (ps qs : List Placed) → Begins (tokens_of r (lexemes_of (ps ++ qs))) → Begins (tokens_of r (lexemes_of ps))
begins-before r ps qs b =
    begins-front (tokens_of r (lexemes_of ps)) (tokens_after r (lexemes_of ps) (lexemes_of qs))
    (subst Begins (ap (tokens_of r) (map-append (λ p. p.lexeme) ps qs) ∙ tokens_of-append r (lexemes_of ps) (lexemes_of qs)) b)

-- the lexemes of placed ones and of one more are theirs, and then its own
pub lexemes_of-one : (ps : List Placed) (p : Placed) → lexemes_of (ps ++ p ∷ []) ≡ lexemes_of ps ++ p.lexeme ∷ []
lexemes_of-one ps p = map-append (λ p. p.lexeme) ps (p ∷ [])

-- the tokens up to a lexeme, with its own, begin a task, where those with the lexemes after it do
pub begins-one : (r : Roll) (ps qs : List Placed) (p : Placed) → Begins (tokens_of r (lexemes_of (ps ++ p ∷ qs)))
    → Begins (tokens_of r (lexemes_of ps ++ p.lexeme ∷ []))
begins-one r ps qs p b =
    subst (λ l. Begins (tokens_of r l)) (lexemes_of-one ps p)
    (begins-before r (ps ++ p ∷ []) qs (subst (λ l. Begins (tokens_of r (lexemes_of l))) (sym (append_assoc ps (p ∷ []) qs)) b))

-- nothing stands before lexemes at none of which a refusal stands, and whose tokens begin a task
none-earlier : (r : Roll) (text rest : List ℕ) (front : List Placed) → Lexes (length text) text front rest → IsFine r front
    → Begins (tokens_of r (lexemes_of front)) → NoneEarlier r text front
none-earlier r text end front x fine b before [] rest kind e some y h = some refl
none-earlier r text end front x fine b before (p ∷ more) rest kind e some y h =
    let n = next_lexeme (length text) text before p more rest end (subst (λ l. Lexes (length text) text l end) e x) y in
    fine before more p e kind
    (stands-at r (lexemes_of before) rest n.mid p.lexeme kind n.is_lexeme
    (begins-one r before more p (subst (λ l. Begins (tokens_of r (lexemes_of l))) e b)) h)

-- so no refusal does
pub none_before : (r : Roll) (text rest : List ℕ) (front : List Placed) → Lexes (length text) text front rest → IsFine r front
    → Begins (tokens_of r (lexemes_of front)) → NoneBefore r text front
none_before r text rest front x fine b = none_told r text front (none-earlier r text rest front x fine b)
