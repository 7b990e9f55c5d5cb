-- What is read and tested, entries that are read one after another, and how many receivers there may be.
use Rattle.std.proofs.Common.{◌≡◌, ◌<◌, ◌≤◌, ◌+◌, ℕ, suc, List, [], ◌∷◌, ◌++◌, length, get_or, map, take, Bool, true, false, Option, None, Some, refl, sym, ap, ◌∙◌, arith}
use Rattle.std.specs.Option.{IfNone, IfSome, is_some}
use Rattle.std.specs.List.{All}
use Rattle.toml.specs.Data.{Data, Members, string, integer, float, boolean, datetime, array, table, as_table, get, get_member}
use Rattle.std.proofs.lemmas.List.{get_or-map, length-map, map-append, take_more}
use Rattle.std.proofs.lemmas.List.Elements.{All-head, All-tail}
use Rattle.sift_base.specs.Units.{IsAscending}
use Rattle.sift_base.specs.laws.Counts.{IsBelowAll}
use Rattle.sift_byz.specs.Stated.{lie_limit}

-- ---- what is read, and what is tested

-- what is read is one value
pub one_value : {A : Type 0} (found : Option A) (one other : A) → found ≡ Some one → found ≡ Some other → one ≡ other
one_value found one other is is' = let both : Some one ≡ Some other = sym is ∙ is' in cc both

-- no test is passed and failed
pub not_both : {b : Bool} → b ≡ true → b ≡ false → ⊥
not_both passed failed = let both : true ≡ false = sym passed ∙ failed in absurd (cc both)

-- nothing is no value
pub none_some : {A : Type 0} {found : Option A} {x : A} → None ≡ found → found ≡ Some x → ⊥
none_some none some = let both : None ≡ Some _ = none ∙ some in absurd (cc both)

-- a test for what is found tells whether the fact holds
pub found_where : {T P : Type 0} (found : Option T) (b : Bool) → b ≡ is_some found → IfSome found (λ _. P) → IfNone found (P → ⊥) → (b ≡ true → P) × (P → b ≡ true)
found_where None b is known none = (λ passed. absurd (not_both passed is), λ holds. absurd (none holds))
found_where (Some x) b is known none = (λ _. known, λ _. is)

-- ---- values of a document

-- what stands at a key of a table
pub got_from : (key : List ℕ) (d : Data) (ms : Members) → Some ms ≡ as_table d → get_member key ms ≡ get key d
got_from key (table ms) ms' is = let same : ms' ≡ ms = cc is in ap (get_member key) same
got_from key (string s) ms' is = cc
got_from key (integer z) ms' is = cc
got_from key (float x) ms' is = cc
got_from key (boolean b) ms' is = cc
got_from key (datetime t) ms' is = cc
got_from key (array ds) ms' is = cc

-- and nothing where no table is
pub got_none : (key : List ℕ) (d : Data) → None ≡ as_table d → None ≡ get key d
got_none key (table ms) none = cc
got_none key (string s) none = refl
got_none key (integer z) none = refl
got_none key (float x) none = refl
got_none key (boolean b) none = refl
got_none key (datetime t) none = refl
got_none key (array ds) none = refl

-- ---- entries

-- no number is below 0
pub not_below : {k : ℕ} → k < 0 → ⊥
not_below low = omega (arith, low)

-- the place of an entry is a small number
pub place_fits : {place entries : ℕ} → place < entries → entries ≤ lie_limit → place < 4294967296
place_fits low few = omega (arith, low, few)

-- what is made of the entries so far is one more
pub made_more :
    {A B C D : Type 0} (shown : D → C) (f : B → C) (see : A → B) (xs : List A) (old new : List D) (i : ℕ) (x : A) (d : D)
    → i < length xs → x ≡ get_or xs i x → map shown old ≡ take i (map f (map see xs)) → new ≡ old ++ d ∷ [] → shown d ≡ f (see x)
    → map shown new ≡ take (i + 1) (map f (map see xs))
made_more shown f see xs old new i x d low is so_far added same =
    let seen : get_or (map see xs) i (see x) ≡ see x = get_or-map see xs i x (see x) low ∙ ap see (sym is) in
    let within : i < length (map see xs) = rw length-map low in
    let here : get_or (map f (map see xs)) i (f (see x)) ≡ f (see x) = get_or-map f (map see xs) i (see x) (f (see x)) within ∙ ap f seen in
    ap (map shown) added ∙ map-append shown old (d ∷ []) ∙ ap (λ y. map shown old ++ y ∷ []) same ∙ ap (λ ys. ys ++ f (see x) ∷ []) so_far
    ∙ sym (take_more (map f (map see xs)) i (f (see x)) (rw length-map within) ∙ ap (λ y. take i (map f (map see xs)) ++ y ∷ []) here)

-- ---- receivers

-- numbers that ascend below a limit, from one on, end before it
ends_before : (u n : ℕ) (us : List ℕ) → IsBelowAll u us → IsAscending us → u < n → All (λ v. v < n) us → u + suc (length us) ≤ n
ends_before u n [] below ascending low each = omega arith
ends_before u n (v ∷ vs) below ascending low each =
    let rest = ends_before v n vs ascending.0 ascending.1 (All-head (λ x. x < n) v vs each) (All-tail (λ x. x < n) v vs each) in
    omega (arith, rest, below.0)

-- so there are no more than the limit
pub ascending_few : (n : ℕ) (us : List ℕ) → IsAscending us → All (λ v. v < n) us → length us ≤ n
ascending_few n [] ascending each = omega arith
ascending_few n (u ∷ us) ascending each =
    let rest = ends_before u n us ascending.0 ascending.1 (All-head (λ x. x < n) u us each) (All-tail (λ x. x < n) u us each) in
    omega (arith, rest)
