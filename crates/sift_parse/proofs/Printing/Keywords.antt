-- Keywords: each has the form of a name and is short, and no name is one.
use Rattle.std.proofs.Common.{◌≡◌, ℕ, zero, suc, ◌≤◌, inl, Bool, true, false, List, [], ◌∷◌, length, codes, Some, None, refl, sym, subst, arith}
use Rattle.std.specs.Char.{IsAsciiLowercase}
use Rattle.std.specs.List.{All, Contains}
use Rattle.std.specs.Str.{bytes_eq}
use Rattle.std.proofs.lemmas.Slice.Eq.{bytes_eq-Decides}
use Rattle.sift_base.specs.Name.{name_limit, keywords, HasNameForm, IsNameByte}
use Rattle.sift_parse.specs.declared.token.Keyword.{Keyword}
use Rattle.sift_parse.specs.declared.token.Keyword.TheVariants.{Let, Out, If, Else, Repeat, Mid, Sense, Now, Last}
use Rattle.sift_parse.specs.Lexeme.{keyword_of}
use Rattle.sift_parse.specs.Pieces.{keyword_bytes}

-- ---- the form of keywords

-- lower-case letters
abbrev AreLower : List ℕ → Type 0
AreLower [] = Unit {0}
AreLower (b ∷ bs) = IsAsciiLowercase b × AreLower bs

-- lower-case letters may follow in a name
name_bytes : (bs : List ℕ) → AreLower bs → All IsNameByte bs
name_bytes [] h k d lt = absurd (omega arith)
name_bytes (b ∷ bs) h zero d lt = inl h.0
name_bytes (b ∷ bs) h (suc k) d lt = name_bytes bs h.1 k d (omega arith)

-- a keyword has the form of a name
pub keyword-form : (k : Keyword) → HasNameForm (keyword_bytes k)
keyword-form Let = ((omega arith, omega arith), name_bytes (codes "et") ((omega arith, omega arith), ((omega arith, omega arith), tt)))
keyword-form Out = ((omega arith, omega arith), name_bytes (codes "ut") ((omega arith, omega arith), ((omega arith, omega arith), tt)))
keyword-form If = ((omega arith, omega arith), name_bytes (codes "f") ((omega arith, omega arith), tt))
keyword-form Else = (
  (omega arith, omega arith),
  name_bytes (codes "lse")
      ((omega arith, omega arith), ((omega arith, omega arith), ((omega arith, omega arith), tt))),
)
keyword-form Repeat = (
  (omega arith, omega arith),
  name_bytes (codes "epeat") (
    (omega arith, omega arith),
    (
      (omega arith, omega arith),
      (
        (omega arith, omega arith),
        ((omega arith, omega arith), ((omega arith, omega arith), tt)),
      ),
    ),
  ),
)
keyword-form Mid = ((omega arith, omega arith), name_bytes (codes "id") ((omega arith, omega arith), ((omega arith, omega arith), tt)))
keyword-form Sense = (
  (omega arith, omega arith),
  name_bytes (codes "ense")
      ((omega arith, omega arith), ((omega arith, omega arith), ((omega arith, omega arith), ((omega arith, omega arith), tt)))),
)
keyword-form Now = ((omega arith, omega arith), name_bytes (codes "ow") ((omega arith, omega arith), ((omega arith, omega arith), tt)))
keyword-form Last = (
  (omega arith, omega arith),
  name_bytes (codes "ast")
      ((omega arith, omega arith), ((omega arith, omega arith), ((omega arith, omega arith), tt))),
)

-- ---- the bytes of keywords

-- the bytes of a keyword are that keyword
pub keyword-is : (k : Keyword) → keyword_of (keyword_bytes k) ≡ Some k
keyword-is Let = refl
keyword-is Out = refl
keyword-is If = refl
keyword-is Else = refl
keyword-is Repeat = refl
keyword-is Mid = refl
keyword-is Sense = refl
keyword-is Now = refl
keyword-is Last = refl

-- a keyword is no longer than a name may be
pub keyword-short : (k : Keyword) → length (keyword_bytes k) ≤ name_limit
keyword-short Let = omega arith
keyword-short Out = omega arith
keyword-short If = omega arith
keyword-short Else = omega arith
keyword-short Repeat = omega arith
keyword-short Mid = omega arith
keyword-short Sense = omega arith
keyword-short Now = omega arith
keyword-short Last = omega arith

-- ---- names

-- bytes that are no keyword aren't this one
not_keyword : (name : List ℕ) → ¬ Contains keywords name → (w : List ℕ) → Contains keywords w → bytes_eq name w ≡ false
not_keyword name free w among = differs (bytes_eq name w) refl
  where
    differs : (b : Bool) → bytes_eq name w ≡ b → bytes_eq name w ≡ false
    differs false e = e
    differs true e = absurd (free (subst (Contains keywords) (sym ((bytes_eq-Decides name w).0 e)) among))

-- a name is no keyword
pub no_keyword : (name : List ℕ) → ¬ Contains keywords name → keyword_of name ≡ None
no_keyword name free =
    let a = not_keyword name free (codes "let") (0, omega arith, refl) in
    let b = not_keyword name free (codes "out") (1, omega arith, refl) in
    let c = not_keyword name free (codes "if") (2, omega arith, refl) in
    let d = not_keyword name free (codes "else") (3, omega arith, refl) in
    let e = not_keyword name free (codes "repeat") (4, omega arith, refl) in
    let f = not_keyword name free (codes "mid") (5, omega arith, refl) in
    let g = not_keyword name free (codes "sense") (6, omega arith, refl) in
    let h = not_keyword name free (codes "now") (7, omega arith, refl) in
    let i = not_keyword name free (codes "last") (8, omega arith, refl) in
    rw (a, b, c, d, e, f, g, h, i) refl
