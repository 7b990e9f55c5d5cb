-- Gaps between lexemes, and one more lexeme at the end.
use Rattle.std.proofs.Common.{◌≡◌, ℕ, ◌+◌, ◌-◌, ◌≤◌, Bool, true, false, List, [], ◌∷◌, ◌++◌, length, drop, sym, ap, ◌∙◌, subst, arith, length-drop}
use Rattle.std.proofs.lemmas.List.{drop-drop}
use Rattle.sift_parse.specs.Written.{IsGap, IsLexemeAt}
use Rattle.sift_parse.specs.Lexeme.{Lexeme, IsLexeme, Placed, Lexes, no_lexeme, a_lexeme, after_gap, after_comment}

-- what follows the gap, from within a comment or from outside of one
abbrev pub after_either : Bool → List ℕ → List ℕ
after_either true bytes = after_comment bytes
after_either false bytes = after_gap bytes

-- one more lexeme
pub Lexes-more : (total : ℕ) (text rest mid : List ℕ) (l : Lexeme) (ps : List Placed) → Lexes total text ps rest → IsLexeme rest l mid
    → Lexes total text (ps ++ (record { lexeme = l; at = total - length rest } ∷ [])) (after_gap mid)
Lexes-more total text rest mid l ps (no_lexeme us) x = a_lexeme us mid (after_gap mid) l [] x (no_lexeme mid)
Lexes-more total text rest mid l ps (a_lexeme us vs ws k qs y z) x =
    a_lexeme us vs (after_gap mid) k (qs ++ (record { lexeme = l; at = total - length rest } ∷ [])) y (Lexes-more total vs ws mid l qs z x)

-- before the first lexeme there is the gap
pub Lexes-start : (text : List ℕ) (n : ℕ) → IsGap text n → Lexes (length text) text [] (drop n text)
Lexes-start text n g = subst (Lexes (length text) text []) (sym g.after) (no_lexeme text)

moved : (text : List ℕ) (ps : List Placed) (l : Lexeme) (a b : ℕ) (rest other : List ℕ) → a ≡ b → rest ≡ other
    → Lexes (length text) text (ps ++ (record { lexeme = l; at = a } ∷ [])) rest
    → Lexes (length text) text (ps ++ (record { lexeme = l; at = b } ∷ [])) other
moved text ps l a b rest other e f h =
    subst (λ a. Lexes (length text) text (ps ++ (let p : Placed = record { lexeme = l; at = a } in p ∷ [])) other) e
    (subst (λ r. Lexes (length text) text (ps ++ (let p : Placed = record { lexeme = l; at = a } in p ∷ [])) r) f h)

-- one more lexeme, with the gap after it
pub record OneMore (text : List ℕ) (at len gap : ℕ) (l : Lexeme) (ps : List Placed) : Type 0 where
  pub within : at + len + gap ≤ length text
  pub lexes : Lexes (length text) text (ps ++ (record { lexeme = l; at = at } ∷ [])) (drop (at + len + gap) text)

-- after the lexemes up to a place the one there is read too, and the next would begin behind its gap, within the text
pub one-more : (text : List ℕ) (at len gap : ℕ) (l : Lexeme) (ps : List Placed) → at ≤ length text
    → Lexes (length text) text ps (drop at text) → IsLexemeAt (drop at text) l len → IsGap (drop (at + len) text) gap
    → OneMore text at len gap l ps
one-more text at len gap l ps le z x g =
    let within : len ≤ length (drop at text) = x.within in
    let long : length (drop at text) ≡ length text - at = length-drop at text in
    let gone : length (drop (at + len) text) ≡ length text - (at + len) = length-drop (at + len) text in
    let next : drop len (drop at text) ≡ drop (at + len) text = drop-drop len at text in
    let last : drop gap (drop (at + len) text) ≡ drop (at + len + gap) text = drop-drop gap (at + len) text in
    let place : length text - length (drop at text) ≡ at = omega arith in
    let more = Lexes-more (length text) text (drop at text) (drop len (drop at text)) l ps z x.lexeme in
    let here : after_gap (drop len (drop at text)) ≡ drop (at + len + gap) text = ap after_gap next ∙ (sym g.after ∙ last) in
    record {
      within = omega (arith, g.within);
      lexes = moved text ps l (length text - length (drop at text)) at (after_gap (drop len (drop at text)))
          (drop (at + len + gap) text) place here more;
    }
