-- A text is refused in one way: the first place at which a refusal stands is determined, and the first kind there is too.
use Rattle.std.proofs.Common.{◌≡◌, ℕ, ◌-◌, List, [], ◌∷◌, ◌++◌, length, refl, sym, ap, ◌∙◌, subst}
use Rattle.sift_parse.specs.Lexeme.{IsLexeme, after_gap, Placed, Lexes, no_lexeme, a_lexeme}
use Rattle.sift_parse.specs.Roll.{Roll}
use Rattle.sift_parse.specs.Refusal.{lexemes_of}
use Rattle.sift_parse.specs.Scanned.{Kind}
use Rattle.sift_parse.proofs.Refusals.Kinds.{Stands, one_kind, none_found, IsRefusedFor}
use Rattle.sift_parse.proofs.Lexing.OneLexing.{one_lexeme, one_rest, next_lexeme}
use Rattle.sift_parse.proofs.Refusals.Standing.{no_lexeme-of-nothing}

-- ---- two places of a text

-- of two places one is earlier, or they are one
pub data Sided (ps qs : List Placed) : Type 0 where
  at_one : ps ≡ qs → Sided ps qs
  earlier : (p : Placed) (more : List Placed) → qs ≡ ps ++ (p ∷ more) → Sided ps qs
  later : (p : Placed) (more : List Placed) → ps ≡ qs ++ (p ∷ more) → Sided ps qs

sided-more : (p : Placed) (ps qs : List Placed) → Sided ps qs → Sided (p ∷ ps) (p ∷ qs)
sided-more p ps qs (at_one e) = at_one (ap (λ l. p ∷ l) e)
sided-more p ps qs (earlier q more e) = earlier q more (ap (λ l. p ∷ l) e)
sided-more p ps qs (later q more e) = later q more (ap (λ l. p ∷ l) e)

sided-by : (total : ℕ) (text other : List ℕ) (ps qs : List Placed) (rest back : List ℕ) → Lexes total text ps rest
    → Lexes total other qs back → text ≡ other → Sided ps qs
sided-by total text other ps qs rest back (no_lexeme us) (no_lexeme vs) e = at_one refl
sided-by total text other ps qs rest back (no_lexeme us) (a_lexeme vs mid ws l ls x h) e =
    earlier (record { lexeme = l; at = total - length (after_gap vs) }) ls refl
sided-by total text other ps qs rest back (a_lexeme us mid ws l ls x h) (no_lexeme vs) e =
    later (record { lexeme = l; at = total - length (after_gap us) }) ls refl
sided-by total text other ps qs rest back (a_lexeme us mid ws l ls x h) (a_lexeme vs mad xs m ms y k) e =
    let one = one_lexeme (after_gap vs) l m mid mad (subst (λ t. IsLexeme (after_gap t) l mid) e x) y in
    let p : Placed = record { lexeme = l; at = total - length (after_gap us) } in
    let q : Placed = record { lexeme = m; at = total - length (after_gap vs) } in
    let same : p ≡ q =
    ap (λ t. let n : Placed = record { lexeme = l; at = total - length (after_gap t) } in n) e
    ∙ ap (λ k. let n : Placed = record { lexeme = k; at = total - length (after_gap vs) } in n) one.0 in
    subst (λ n. Sided (p ∷ ls) (n ∷ ms)) same (sided-more p ls ms (sided-by total mid mad ls ms ws xs h k one.1))

-- of two lists of lexemes that are read from the front of a text, one goes on where the other ends, or they are one
pub sided : (total : ℕ) (text : List ℕ) (ps qs : List Placed) (rest back : List ℕ) → Lexes total text ps rest → Lexes total text qs back
    → Sided ps qs
sided total text ps qs rest back x y = sided-by total text text ps qs rest back x y refl

-- no lexeme stands after those that end where the text does
pub none_after : (total : ℕ) (text : List ℕ) (ps qs : List Placed) (p : Placed) (more : List Placed) (back : List ℕ)
    → Lexes total text ps [] → Lexes total text qs back → qs ≡ ps ++ (p ∷ more) → ⊥
none_after total text ps qs p more back x y e =
    let n = next_lexeme total text ps p more [] back (subst (λ l. Lexes total text l back) e y) x in
    no_lexeme-of-nothing p.lexeme n.mid n.is_lexeme

-- ---- one refusal

-- a refusal stands where no other refusal is earlier
same_refusal-by : (r : Roll) (text : List ℕ) (k j : Kind) (x y : ℕ) (h : IsRefusedFor r text k x) (g : IsRefusedFor r text j y)
    → Sided h.front g.front → (k ≡ j) × (x ≡ y)
same_refusal-by r text k j x y h g (at_one e) =
    let ends : h.rest ≡ g.rest = one_rest (length text) text g.front h.rest g.rest (subst (λ ps. Lexes (length text) text ps h.rest) e h.lexes) g.lexes in
    let stands : Stands r (lexemes_of g.front) g.rest k =
    subst (λ t. Stands r (lexemes_of g.front) t k) ends (subst (λ ps. Stands r (lexemes_of ps) h.rest k) e h.stands) in
    let back : Stands r (lexemes_of h.front) h.rest j =
    subst (λ t. Stands r (lexemes_of h.front) t j) (sym ends) (subst (λ ps. Stands r (lexemes_of ps) g.rest j) (sym e) g.stands) in
    (one_kind k j (λ lt. g.first_kind k lt stands) (λ lt. h.first_kind j lt back), h.place ∙ (ap (λ t. length text - length t) ends ∙ sym g.place))
same_refusal-by r text k j x y h g (earlier p more e) = absurd (none_found r text g.front g.first_place h.front (p ∷ more) h.rest k e (λ z. cc) h.lexes h.stands)
same_refusal-by r text k j x y h g (later p more e) = absurd (none_found r text h.front h.first_place g.front (p ∷ more) g.rest j e (λ z. cc) g.lexes g.stands)

-- two refusals that one text is answered with are of one kind and at one place
pub same_refusal : (r : Roll) (text : List ℕ) (k j : Kind) (x y : ℕ) → IsRefusedFor r text k x → IsRefusedFor r text j y → (k ≡ j) × (x ≡ y)
same_refusal r text k j x y h g = same_refusal-by r text k j x y h g (sided (length text) text h.front g.front h.rest g.rest h.lexes g.lexes)
