use Rattle.std.proofs.Common.{◌≡◌, ◌↔◌, ℕ, Bool, false, sym, ◌∙◌, List, Option, Some, None, IfSome, IfNone}
use Rattle.std.specs.Prelude.{IsTrue}
use Rattle.std.proofs.lemmas.Bool.{false≢true}
use Rattle.sift_parse.specs.declared.lexeme.Lexeme as held
use Rattle.sift_parse.specs.Written.{BeginsLetter, BeginsDigit, IsSignAt, IsLexemeAt, lexeme_of}
use Rattle.sift_parse.proofs.Lexing.Fronts.{words-found, signs-found, signs-none}
use Rattle.sift_parse.proofs.lexeme.lexeme_at.Goals as goal

if_sign : (text : List ℕ) (o : Option (held.Lexeme × ℕ)) → ¬ BeginsLetter text → ¬ BeginsDigit text
    → IfSome o (λ r. IsSignAt text (lexeme_of r.0) r.1) → IfSome o (λ r. IsLexemeAt text (lexeme_of r.0) r.1)
if_sign text None l d h = tt
if_sign text (Some r) l d h = signs-found text (lexeme_of r.0) r.1 l d h

if_none : {A : Type 0} (o : Option A) (P Q : Type 0) → (P → Q) → IfNone o P → IfNone o Q
if_none None P Q f h = f h
if_none (Some a) P Q f h = tt

refuted : (b : Bool) (P : Type 0) → IsTrue b ↔ P → b ≡ false → ¬ P
refuted b P d e h = false≢true (sym e ∙ d.1 h)

pub returns-then-begins_name-clause-found : goal.returns-then-begins_name-clause-found
returns-then-begins_name-clause-found c =
    words-found c.args.bytes.now c.name_len-len.result (c.begins_name.ensures.0 c.if-begins_name.true) c.name_len-len.ensures

pub returns-clause-found : goal.returns-clause-found
returns-clause-found c =
    let letter : ¬ BeginsLetter c.args.bytes.now = refuted _ _ c.begins_name.ensures c.if-begins_name.false in
    let digit : ¬ BeginsDigit c.args.bytes.now = refuted _ _ c.begins_number.ensures c.if-begins_number.false in
    if_sign c.args.bytes.now _ letter digit c.sign_at.ensures.found

pub returns-clause-none : goal.returns-clause-none
returns-clause-none c =
    let letter : ¬ BeginsLetter c.args.bytes.now = refuted _ _ c.begins_name.ensures c.if-begins_name.false in
    let digit : ¬ BeginsDigit c.args.bytes.now = refuted _ _ c.begins_number.ensures c.if-begins_number.false in
    if_none _ _ _ (λ x. signs-none c.args.bytes.now letter digit x) c.sign_at.ensures.none
