-- How numbers and names are printed.
use Rattle.std.proofs.Common.{◌≡◌, ℕ, ◌<◌, ◌≤◌, Bool, List, ◌∷◌, Some, refl, sym, subst}
use Rattle.sift_base.specs.Name.{IsName}
use Rattle.sift_lang.specs.Tree.{number, local, sense, this_frame, last_frame}
use Rattle.sift_parse.specs.declared.token.Keyword.{Keyword}
use Rattle.sift_parse.specs.declared.token.Keyword.TheVariants.{Sense, Now, Last}
use Rattle.sift_parse.specs.declared.token.Sign.TheVariants.{Dot}
use Rattle.sift_parse.specs.declared.token.Token.TheVariants as token
use Rattle.sift_parse.specs.Grammar.{IsPrim, a_number, a_local, a_sensor, of_this_frame, of_last_frame, IsLevel, a_prim}
use Rattle.sift_parse.specs.Lexeme.{number_limit}
use Rattle.sift_parse.specs.Pieces.{key, called, figure, sign, Piece, piece, far, near}
use Rattle.sift_parse.specs.Roll.{Roll, number_in}
use Rattle.sift_parse.specs.Force.{old_local}
use Rattle.sift_parse.specs.Tokens.{local_of}
use Rattle.sift_parse.proofs.Printing.Known.{Known, after_role, known_after, figure_token, tokens_by}
use Rattle.sift_parse.proofs.Printing.MayStand.{Means, HasWord, AllMayStand}
use Rattle.sift_parse.proofs.Printing.Named.{WritesWord}
use Rattle.sift_parse.proofs.Printing.Read.{items_in}
use Rattle.sift_parse.proofs.Printing.Printed.{Starts, Printed}

-- a number is written as itself
pub number-written : (r : Roll) (h : Known) (k : ℕ) (blank : Bool) → Starts r h.before → k ≤ number_limit
    → Printed r h 5 (number k) (λ rest. piece blank (figure k) ∷ rest)
number-written r h k blank s small = record {
  after = known_after h (figure k);
  ends = refl;
  levels = refl;
  locals = refl;
  pending = refl;
  tokens = λ rest. (let ts = tokens_by r (known_after h (figure k)) (items_in rest) in
      a_prim _ ts (number k) (subst (λ o. IsPrim (figure_token r h.before o k ∷ ts) (number k) ts) (sym s.asked) (a_number k ts)));
  stands = λ rest x. ((small, (λ e. absurd (s.no_repeat e)), subst (λ o. HasWord r o k) (sym s.asked) tt), x);
}

-- a local is written by its name
pub local-written : (r : Roll) (h : Known) (l : ℕ) (w : List ℕ) (blank : Bool) → Starts r h.before → IsName w → local_of h.locals w ≡ Some l
    → Printed r h 5 (local l) (λ rest. piece blank (called w l) ∷ rest)
local-written r h l w blank s is seen = record {
  after = after_role old_local w l h;
  ends = refl;
  levels = refl;
  locals = refl;
  pending = refl;
  tokens = λ rest. (let ts = tokens_by r (after_role old_local w l h) (items_in rest) in
      subst (λ role. IsLevel 5 (token.Name l ∷ tokens_by r (after_role role w l h) (items_in rest)) (local l) ts) (sym s.role)
      (a_prim _ ts (local l) (a_local l ts)));
  stands = λ rest x. (
    (is, subst (λ role. Means r h.locals role w l) (sym s.role) seen, (λ e. absurd (s.no_let e)), (λ e. absurd (s.no_now e))),
    subst (λ role. AllMayStand r (after_role role w l h) (items_in rest)) (sym s.role) x,
  );
}

-- a sensor's word is written by the sensor's name
pub sense-written : (r : Roll) (h : Known) (x : ℕ) (w : List ℕ) (blank : Bool) → Starts r h.before → IsName w → number_in r.sensors w ≡ Some x
    → Printed r h 5 (sense x) (λ rest. piece blank (key Sense) ∷ far (called w x) ∷ rest)
sense-written r h x w blank s is found = record {
  after = known_after (known_after h (key Sense)) (called w x);
  ends = refl;
  levels = refl;
  locals = refl;
  pending = refl;
  tokens = λ rest. a_prim _ _ (sense x) (a_sensor x (tokens_by r (known_after (known_after h (key Sense)) (called w x)) (items_in rest)));
  stands = λ rest y. ((λ e. absurd (s.no_let e)), ((is, found, (λ e. cc), (λ e. cc)), y));
}

-- ---- voted words

-- what is known after a voted word
abbrev word_known : Known → Keyword → List ℕ → ℕ → ℕ → Known
word_known h k w task index = known_after (known_after (known_after (known_after h (key k)) (called w task)) (sign Dot)) (figure index)

-- the pieces of a voted word, with its keyword
abbrev word_pieces : Keyword → List ℕ → (task index : ℕ) → Bool → List Piece → List Piece
word_pieces k w task index blank rest = piece blank (key k) ∷ far (called w task) ∷ near (sign Dot) ∷ near (figure index) ∷ rest

-- a word voted in this frame is written by its task and its number
pub now-written : (r : Roll) (h : Known) (w : List ℕ) (task index v : ℕ) (blank : Bool) → Starts r h.before → WritesWord r w task index v
    → task < r.this → Printed r h 5 (this_frame v) (word_pieces Now w task index blank)
now-written r h w task index v blank s is earlier = record {
  after = word_known h Now w task index;
  ends = refl;
  levels = refl;
  locals = refl;
  pending = refl;
  tokens = λ rest. (let ts = tokens_by r (word_known h Now w task index) (items_in rest) in
      a_prim _ ts (this_frame v)
      (subst (λ n. IsPrim (token.Keyword Now ∷ token.Name task ∷ token.Sign Dot ∷ token.Index n ∷ ts) (this_frame v) ts) (sym is.same)
      (of_this_frame task v ts)));
  stands = λ rest y. (
    (λ e. absurd (s.no_let e)),
    ((is.is_name, is.found, (λ e. cc), (λ e. earlier)), ((tt, (λ e. cc)), ((is.small, (λ e. cc), is.within), y))),
  );
}

-- a word voted in the last frame is written by its task and its number
pub last-written : (r : Roll) (h : Known) (w : List ℕ) (task index v : ℕ) (blank : Bool) → Starts r h.before → WritesWord r w task index v
    → Printed r h 5 (last_frame v) (word_pieces Last w task index blank)
last-written r h w task index v blank s is = record {
  after = word_known h Last w task index;
  ends = refl;
  levels = refl;
  locals = refl;
  pending = refl;
  tokens = λ rest. (let ts = tokens_by r (word_known h Last w task index) (items_in rest) in
      a_prim _ ts (last_frame v)
      (subst (λ n. IsPrim (token.Keyword Last ∷ token.Name task ∷ token.Sign Dot ∷ token.Index n ∷ ts) (last_frame v) ts) (sym is.same)
      (of_last_frame task v ts)));
  stands = λ rest y. (
    (λ e. absurd (s.no_let e)),
    ((is.is_name, is.found, (λ e. cc), (λ e. cc)), ((tt, (λ e. cc)), ((is.small, (λ e. cc), is.within), y))),
  );
}
