-- What one more lexeme of a statement makes of where a `let` stands.
use Rattle.std.proofs.Common.{◌≡◌, ℕ, true, false, List, [], ◌∷◌, ◌++◌, refl, sym, ap, ◌∙◌, append_assoc}
use Rattle.std.proofs.lemmas.List.{append-nil}
use Rattle.sift_parse.specs.declared.token.Sign.TheVariants.{Semicolon}
use Rattle.sift_parse.specs.Lexeme.{Lexeme, word, mark}
use Rattle.sift_parse.specs.Levels.{living}
use Rattle.sift_parse.proofs.Places.Seen.{is_let, Balanced, balanced-stays, Settled, settled-append, living-append}
use Rattle.sift_parse.proofs.Places.Plain.{IsPlain, plain-append, plain-leaves, plain-living, plain-settled, nest-append, J, still, let_read, bound}

-- ---- one more lexeme

-- lexemes that are balanced and settled, where no `let` is open
pub grow : (front d : List Lexeme) (ls new : List (List ℕ)) (bs : List ℕ) → Balanced d → Settled d → living d ≡ new → J front ls bs still
    → J (front ++ d) (new ++ ls) bs still
grow front d ls new bs h s e j =
    let all : front ≡ j.base = j.split ∙ ap (λ l. j.base ++ l) j.hangs ∙ append-nil j.base in
    record {
      base = j.base ++ d;
      rest = [];
      split = ap (λ l. l ++ d) all ∙ sym (append-nil (j.base ++ d));
      settled = settled-append j.base d j.settled s;
      lives = ap (λ l. new ++ l) j.lives ∙ ap (λ l. l ++ living j.base) (sym e) ∙ sym (living-append j.base d j.settled (balanced-stays d h));
      nest = nest-append j.base d bs h j.nest;
      hangs = refl;
    }

-- a lexeme that may stand inside a `let`, where none is open, opens none, and leaves locals and blocks as they are
pub plain-still : (front : List Lexeme) (l : Lexeme) (ls : List (List ℕ)) (bs : List ℕ) → IsPlain l → J front ls bs still
    → J (front ++ l ∷ []) ls bs still
plain-still front l ls bs h j =
    grow front (l ∷ []) ls [] bs (plain-leaves (l ∷ []) (h, tt)) (plain-settled (l ∷ []) [] (h, tt) tt)
    (plain-living (l ∷ []) [] (h, tt) refl) j

-- a lexeme that may stand inside a bound `let` leaves it bound, and locals and blocks as they are
pub plain-bound : (front : List Lexeme) (l : Lexeme) (ls : List (List ℕ)) (bs : List ℕ) (w : List ℕ) → IsPlain l → J front ls bs (bound w)
    → J (front ++ l ∷ []) ls bs (bound w)
plain-bound front l ls bs w h j =
    let k = j.hangs in
    record {
      base = j.base;
      rest = j.rest ++ l ∷ [];
      split = ap (λ x. x ++ l ∷ []) j.split ∙ append_assoc j.base j.rest (l ∷ []);
      settled = j.settled;
      lives = j.lives;
      nest = j.nest;
      hangs =
          record {
            key = k.key;
            inside = k.inside ++ l ∷ [];
            is = ap (λ x. x ++ l ∷ []) k.is;
            is_key = k.is_key;
            is_name = k.is_name;
            plain = plain-append k.inside l k.plain h;
          };
    }

-- after the keyword `let`, where no `let` is open, a `let` was read just now, and locals and blocks are as before
pub let-step : (front : List Lexeme) (v : List ℕ) (ls : List (List ℕ)) (bs : List ℕ) → is_let (word v) ≡ true → J front ls bs still
    → J (front ++ word v ∷ []) ls bs let_read
let-step front v ls bs h j = record {
  base = j.base;
  rest = word v ∷ [];
  split = ap (λ x. x ++ word v ∷ []) (j.split ∙ ap (λ l. j.base ++ l) j.hangs ∙ append-nil j.base);
  settled = j.settled;
  lives = j.lives;
  nest = j.nest;
  hangs = record { key = v; is = refl; is_key = h };
}

-- a word other than `let` directly after a `let` is the name that it binds, and no local yet
pub name-step : (front : List Lexeme) (w : List ℕ) (ls : List (List ℕ)) (bs : List ℕ) → is_let (word w) ≡ false → J front ls bs let_read
    → J (front ++ word w ∷ []) ls bs (bound w)
name-step front w ls bs h j =
    let k = j.hangs in
    record {
      base = j.base;
      rest = j.rest ++ word w ∷ [];
      split = ap (λ x. x ++ word w ∷ []) j.split ∙ append_assoc j.base j.rest (word w ∷ []);
      settled = j.settled;
      lives = j.lives;
      nest = j.nest;
      hangs = record { key = k.key; inside = []; is = ap (λ x. x ++ word w ∷ []) k.is; is_key = k.is_key; is_name = h; plain = tt };
    }

-- a `;` where no `let` is open leaves locals and blocks as they are, and opens none
pub end-still : (front : List Lexeme) (ls : List (List ℕ)) (bs : List ℕ) → J front ls bs still → J (front ++ mark Semicolon ∷ []) ls bs still
end-still front ls bs j = grow front (mark Semicolon ∷ []) ls [] bs (λ n d. refl) (tt, tt) refl j
