-- The lexemes of a text are read in one way only, and part and join where one ends.
use Rattle.std.proofs.Common.{◌≡◌, ℕ, ◌-◌, Bool, true, false, ◌==◌, cond, List, [], ◌∷◌, ◌++◌, length, refl, sym, ap, ◌∙◌, subst, arith}
use Rattle.std.specs.Str.{byte}
use Rattle.sift_parse.specs.Lexeme.{Lexeme, Spells, IsLexeme, is_blank, after_gap, after_comment, Placed, Lexes, no_lexeme, a_lexeme}
use Rattle.sift_parse.specs.Refusal.{BeginsWith}
use Rattle.sift_parse.proofs.Lexing.OneLexeme.{one_spelling}

-- ---- one lexeme begins a text

-- lists that are joined alike, where their fronts are of one length
same_parts : (us bs cs ds : List ℕ) → us ++ cs ≡ bs ++ ds → length us ≡ length bs → (us ≡ bs) × (cs ≡ ds)
same_parts [] [] cs ds e n = (refl, e)
same_parts [] (b ∷ bs) cs ds e n = absurd (omega arith)
same_parts (a ∷ us) [] cs ds e n = absurd (omega arith)
same_parts (a ∷ us) (b ∷ bs) cs ds e n =
    let i = same_parts us bs cs ds (cc) (omega arith) in
    (let h : a ≡ b = cc in ap (λ x. x ∷ us) h ∙ ap (λ l. b ∷ l) i.0, i.1)

-- the lexeme at the front and what follows it are determined
pub one_lexeme : (text : List ℕ) (l m : Lexeme) (rest other : List ℕ) → IsLexeme text l rest → IsLexeme text m other
    → (l ≡ m) × (rest ≡ other)
one_lexeme text l m rest other x y =
    let below = x.longest m y.spelled other y.split y.spells in
    let above = y.longest l x.spelled rest x.split x.spells in
    let parts = same_parts x.spelled y.spelled rest other (sym x.split ∙ y.split) (omega arith) in
    (one_spelling l m y.spelled (subst (Spells l) parts.0 x.spells) y.spells, parts.1)

-- a fact of the lexeme that begins the text
pub begins-with : (text : List ℕ) (P : Lexeme → Type 0) (l : Lexeme) (rest : List ℕ) → IsLexeme text l rest → BeginsWith text P → P l
begins-with text P l rest x b = subst P (one_lexeme text b.lexeme l b.rest rest b.is_lexeme x).0 b.holds

-- ---- gaps

gap-step : (b : ℕ) (bs : List ℕ) (x y : Bool) → is_blank b ≡ x → (b == byte "#") ≡ y → after_gap (after_gap bs) ≡ after_gap bs
    → after_gap (after_comment bs) ≡ after_comment bs
    → after_gap (cond x (after_gap bs) (cond y (after_comment bs) (b ∷ bs))) ≡ cond x (after_gap bs) (cond y (after_comment bs) (b ∷ bs))
gap-step b bs true y e f i j = i
gap-step b bs false true e f i j = j
gap-step b bs false false e f i j =
    ap (λ x. cond x (after_gap bs) (cond (b == byte "#") (after_comment bs) (b ∷ bs))) e ∙ ap (λ y. cond y (after_comment bs) (b ∷ bs)) f

comment-step : (bs : List ℕ) (x : Bool) → after_gap (after_gap bs) ≡ after_gap bs → after_gap (after_comment bs) ≡ after_comment bs
    → after_gap (cond x (after_gap bs) (after_comment bs)) ≡ cond x (after_gap bs) (after_comment bs)
comment-step bs true i j = i
comment-step bs false i j = j

mutual
  -- no gap follows a gap
  pub after_gap-twice : (bs : List ℕ) → after_gap (after_gap bs) ≡ after_gap bs
  after_gap-twice [] = refl
  after_gap-twice (b ∷ bs) = gap-step b bs (is_blank b) (b == byte "#") refl refl (after_gap-twice bs) (after_comment-twice bs)

  after_comment-twice : (bs : List ℕ) → after_gap (after_comment bs) ≡ after_comment bs
  after_comment-twice [] = refl
  after_comment-twice (b ∷ bs) = comment-step bs (b == byte "\n") (after_gap-twice bs) (after_comment-twice bs)

-- ---- one rest

one_rest-by : (total : ℕ) (text other : List ℕ) (ps qs : List Placed) (rest back : List ℕ) → Lexes total text ps rest
    → Lexes total other qs back → text ≡ other → ps ≡ qs → rest ≡ back
one_rest-by total text other ps qs rest back (no_lexeme us) (no_lexeme vs) e f = ap after_gap e
one_rest-by total text other ps qs rest back (no_lexeme us) (a_lexeme vs mid ws l ls x h) e f = cc
one_rest-by total text other ps qs rest back (a_lexeme us mid ws l ls x h) (no_lexeme vs) e f = cc
one_rest-by total text other ps qs rest back (a_lexeme us mid ws l ls x h) (a_lexeme vs mad xs m ms y k) e f =
    let one = one_lexeme (after_gap vs) l m mid mad (subst (λ t. IsLexeme (after_gap t) l mid) e x) y in
    one_rest-by total mid mad ls ms rest back h k one.1 (cc)

-- where these lexemes end is determined
pub one_rest : (total : ℕ) (text : List ℕ) (ps : List Placed) (rest other : List ℕ) → Lexes total text ps rest → Lexes total text ps other
    → rest ≡ other
one_rest total text ps rest other x y = one_rest-by total text text ps ps rest other x y refl refl

-- ---- parts

-- a gap at the front doesn't count
pub lexes-after_gap : (total : ℕ) (text : List ℕ) (ps : List Placed) (rest : List ℕ) → Lexes total text ps rest
    → Lexes total (after_gap text) ps rest
lexes-after_gap total text ps rest (no_lexeme us) = subst (Lexes total (after_gap us) []) (after_gap-twice us) (no_lexeme (after_gap us))
lexes-after_gap total text ps rest (a_lexeme us mid ws l ls x h) =
    subst (λ t. Lexes total (after_gap us) ((let p : Placed = record { lexeme = l; at = total - length t } in p) ∷ ls) ws)
    (after_gap-twice us) (a_lexeme (after_gap us) mid ws l ls (subst (λ t. IsLexeme t l mid) (sym (after_gap-twice us)) x) h)

pub lexes-before_gap : (total : ℕ) (text : List ℕ) (ps : List Placed) (rest : List ℕ) → Lexes total (after_gap text) ps rest
    → Lexes total text ps rest
lexes-before_gap total text ps rest h = before (after_gap text) ps rest h refl
  where
    before : (other : List ℕ) (ps : List Placed) (rest : List ℕ) → Lexes total other ps rest → other ≡ after_gap text
        → Lexes total text ps rest
    before other ps rest (no_lexeme us) e = subst (Lexes total text []) (sym (ap after_gap e ∙ after_gap-twice text)) (no_lexeme text)
    before other ps rest (a_lexeme us mid ws l ls x h) e =
        let same : after_gap us ≡ after_gap text = ap after_gap e ∙ after_gap-twice text in
        subst (λ t. Lexes total text ((let p : Placed = record { lexeme = l; at = total - length t } in p) ∷ ls) ws) (sym same)
        (a_lexeme text mid ws l ls (subst (λ t. IsLexeme t l mid) same x) h)

-- lexemes after lexemes
pub lexes_join : (total : ℕ) (text mid rest : List ℕ) (ps qs : List Placed) → Lexes total text ps mid → Lexes total mid qs rest
    → Lexes total text (ps ++ qs) rest
lexes_join total text mid rest ps qs (no_lexeme us) k = lexes-before_gap total us qs rest k
lexes_join total text mid rest ps qs (a_lexeme us vs ws l ls x h) k = a_lexeme us vs rest l (ls ++ qs) x (lexes_join total vs mid rest ls qs h k)

-- where the first of the lexemes end and the others begin
pub record Parts (total : ℕ) (text : List ℕ) (ps qs : List Placed) (rest : List ℕ) : Type 0 where
  pub mid : List ℕ
  pub first : Lexes total text ps mid
  pub second : Lexes total mid qs rest

parts-by : (total : ℕ) (text : List ℕ) (ps qs all : List Placed) (rest : List ℕ) → Lexes total text all rest → all ≡ ps ++ qs
    → Parts total text ps qs rest
parts-by total text [] qs all rest h e =
    record {
      mid = after_gap text;
      first = no_lexeme text;
      second = subst (λ l. Lexes total (after_gap text) l rest) e (lexes-after_gap total text all rest h);
    }
parts-by total text (p ∷ ps) qs all rest (no_lexeme us) e = cc
parts-by total text (p ∷ ps) qs all rest (a_lexeme us vs ws l ls x h) e =
    let i = parts-by total vs ps qs ls ws h (cc) in
    let same : (let q : Placed = record { lexeme = l; at = total - length (after_gap us) } in q) ≡ p = cc in
    record { mid = i.mid; first = subst (λ q. Lexes total us (q ∷ ps) i.mid) same (a_lexeme us vs i.mid l ps x i.first); second = i.second }

-- lexemes that are read one after another may be parted anywhere: where the first ones end, the others are read from there
pub lexes_split : (total : ℕ) (text rest : List ℕ) (ps qs : List Placed) → Lexes total text (ps ++ qs) rest → Parts total text ps qs rest
lexes_split total text rest ps qs h = parts-by total text ps qs (ps ++ qs) rest h refl

-- the next lexeme is read here, where another stands after those before
pub record Next (total : ℕ) (p : Placed) (more : List Placed) (rest end : List ℕ) : Type 0 where
  pub mid : List ℕ
  pub is_lexeme : IsLexeme rest p.lexeme mid
  pub at : p.at ≡ total - length rest
  pub lexes : Lexes total mid more end

next-by : (total : ℕ) (p : Placed) (more : List Placed) (text : List ℕ) (qs : List Placed) (rest end : List ℕ) → Lexes total text qs end
    → qs ≡ p ∷ more → after_gap text ≡ rest → Next total p more rest end
next-by total p more text qs rest end (no_lexeme us) e f = cc
next-by total p more text qs rest end (a_lexeme us mid ws l ls x h) e f =
    let head : (let q : Placed = record { lexeme = l; at = total - length (after_gap us) } in q) ≡ p = cc in
    record {
      mid = mid;
      is_lexeme = subst (λ m. IsLexeme rest m mid) (ap (λ q. q.lexeme) head) (subst (λ t. IsLexeme t l mid) f x);
      at = sym (ap (λ q. q.at) head) ∙ ap (λ t. total - length t) f;
      lexes = subst (λ ls. Lexes total mid ls end) (cc) h;
    }

-- lexemes end where the next begins, after a gap
ends_gap : (total : ℕ) (text : List ℕ) (ps : List Placed) (rest : List ℕ) → Lexes total text ps rest → after_gap rest ≡ rest
ends_gap total text ps rest (no_lexeme us) = after_gap-twice us
ends_gap total text ps rest (a_lexeme us mid ws l ls x h) = ends_gap total mid ls ws h

-- where the lexemes before another one end, that one begins the text and has that place, and those behind it are read after it
pub next_lexeme : (total : ℕ) (text : List ℕ) (before : List Placed) (p : Placed) (more : List Placed) (rest end : List ℕ)
    → Lexes total text (before ++ (p ∷ more)) end → Lexes total text before rest → Next total p more rest end
next_lexeme total text before p more rest end h k =
    let parts = lexes_split total text end before (p ∷ more) h in
    let same = one_rest total text before parts.mid rest parts.first k in
    next-by total p more parts.mid (p ∷ more) rest end parts.second refl (ap after_gap same ∙ ends_gap total text before rest k)
