-- What is known after a sign is what is in force after it, and what is known of all items.
use Rattle.std.proofs.Common.{◌≡◌, ℕ, List, [], ◌∷◌, length, drop, Option, Some, None, refl, sym, ap, ◌∙◌, subst}
use Rattle.std.specs.Prelude.{map}
use Rattle.sift_parse.specs.declared.token.Sign.{Sign}
use Rattle.sift_parse.specs.declared.token.Sign.TheVariants.{Assign, OpenParen, CloseParen, OpenBrace, CloseBrace, Comma, Dot, Semicolon}
use Rattle.sift_parse.specs.Force.{Force, Level, block, parenthesis, negation, advance, opens, without_minuses, oldest, leave_block, end_let, tokens_from}
use Rattle.sift_parse.specs.Lexeme.{mark}
use Rattle.sift_parse.specs.Pieces.{Item, key, called, figure, joined, sign, lexeme_for}
use Rattle.sift_parse.specs.Roll.{Roll}
use Rattle.sift_parse.proofs.Printing.Agreed.{levels-agree, figure-agreed, operator-agreed}
use Rattle.sift_parse.proofs.Printing.Agrees.{Agrees, Agreed, keyword-agreed}
use Rattle.sift_parse.proofs.Printing.NamesAgree.{name-agreed}
use Rattle.sift_parse.proofs.Printing.Known.{after_sign, Known, left_levels, left_locals, ended_let, sign_before, known_after, token_by, tokens_by}
use Rattle.sift_parse.proofs.Printing.MayStand.{NamesTask, opens_level, MayStand, AllMayStand}
use Rattle.sift_parse.proofs.Refusals.Fine.{none_at_mark, AllFine}

-- a sign opens a level by what is known where it does by what is in force
sign-opens : (f : Force) (s : Sign) → opens f (mark s) ≡ opens_level s
sign-opens f Assign = refl
sign-opens f OpenParen = refl
sign-opens f CloseParen = refl
sign-opens f OpenBrace = refl
sign-opens f CloseBrace = refl
sign-opens f Comma = refl
sign-opens f Dot = refl
sign-opens f Semicolon = refl

-- what is known after a sign but a dot, with these levels, locals and `let`
abbrev known_with : Sign → List Level → List (List ℕ) → Option (List ℕ) → Known → Known
known_with s levels locals pending h = record { before = after_sign s; levels = levels; locals = locals; pending = pending; task = h.task }

-- what is in force after a sign, with these levels, locals and `let`
abbrev force_with : Sign → List Level → List (List ℕ) → Option (List ℕ) → Force → Force
force_with s levels locals pending f = record { before = Some (mark s); levels = levels; locals = locals; pending = pending; named = f.named }

-- a sign that asks for no word
abbrev AsksNothing : Sign → Type 0
AsksNothing Dot = ⊥
AsksNothing s = Unit {0}

-- a sign keeps what is known, but for the levels, the locals and the `let` that it changes
plain-agrees : (r : Roll) (f : Force) (h : Known) (s : Sign) (levels kept : List Level) (locals lived : List (List ℕ)) (pending due : Option (List ℕ))
    → AsksNothing s → Agrees r f h → levels ≡ kept → locals ≡ lived → pending ≡ due
    → Agrees r (force_with s levels locals pending f) (known_with s kept lived due h)
plain-agrees r f h Dot levels kept locals lived pending due asks a x y z = absurd asks
plain-agrees r f h s levels kept locals lived pending due asks a x y z =
    record { key = refl; ends = refl; asked = refl; meant = λ task n. refl; levels = x; locals = y; pending = z; named = a.named }

-- the end of a block, whichever level is innermost
brace-agrees : (r : Roll) (f : Force) (h : Known) (levels : List Level) → h.levels ≡ levels → Agrees r f h
    → Agrees r (record (leave_block levels f) { before = Some (mark CloseBrace) })
    (known_with CloseBrace (left_levels levels) (left_locals levels h.locals) h.pending h)
brace-agrees r f h [] e a = plain-agrees r f h CloseBrace f.levels [] f.locals h.locals f.pending h.pending tt a (a.levels ∙ e) a.locals a.pending
brace-agrees r f h (block n ∷ ls) e a =
    plain-agrees r f h CloseBrace ls ls (oldest n f.locals) (oldest n h.locals) f.pending h.pending tt a refl (ap (oldest n) a.locals) a.pending
brace-agrees r f h (parenthesis ∷ ls) e a =
    plain-agrees r f h CloseBrace ls ls f.locals h.locals f.pending h.pending tt a refl a.locals a.pending
brace-agrees r f h (negation ∷ ls) e a =
    plain-agrees r f h CloseBrace ls ls f.locals h.locals f.pending h.pending tt a refl a.locals a.pending

-- the end of a statement, which is a `let` or isn't
end-agrees : (r : Roll) (f : Force) (h : Known) (pending : Option (List ℕ)) → f.pending ≡ pending → Agrees r f h
    → Agrees r (record (end_let pending f) { before = Some (mark Semicolon) }) (known_with Semicolon h.levels (ended_let pending h.locals) None h)
end-agrees r f h (Some w) e a =
    plain-agrees r f h Semicolon f.levels h.levels (w ∷ f.locals) (w ∷ h.locals) None None tt a a.levels (ap (λ l. w ∷ l) a.locals) refl
end-agrees r f h None e a =
    plain-agrees r f h Semicolon f.levels h.levels f.locals h.locals f.pending None tt a a.levels a.locals e

-- a dot, which follows the name of a task
dot-agrees : (r : Roll) (f : Force) (h : Known) (o : Option ℕ) → h.task ≡ o → NamesTask Dot o → Agrees r f h
    → Agrees r (advance f (mark Dot))
    (record { before = sign_before Dot o; levels = h.levels; locals = h.locals; pending = h.pending; task = h.task })
dot-agrees r f h (Some task) e names a = record {
  key = refl;
  ends = refl;
  asked = ap (λ t. Some t) (a.named task e);
  meant = λ task n. refl;
  levels = a.levels;
  locals = a.locals;
  pending = a.pending;
  named = a.named;
}
dot-agrees r f h None e names a = absurd names

-- what is known after a sign is in force after it
sign-agrees : (r : Roll) (f : Force) (h : Known) (s : Sign) → NamesTask s h.task → Agrees r f h
    → Agrees r (advance f (mark s)) (known_after h (sign s))
sign-agrees r f h Assign names a = plain-agrees r f h Assign _ _ _ _ _ _ tt a a.levels a.locals a.pending
sign-agrees r f h OpenParen names a =
    plain-agrees r f h OpenParen _ _ _ _ _ _ tt a (ap (λ l. parenthesis ∷ l) a.levels) a.locals a.pending
sign-agrees r f h CloseParen names a =
    plain-agrees r f h CloseParen _ _ _ _ _ _ tt a (ap (λ l. without_minuses (drop 1 l)) a.levels) a.locals a.pending
sign-agrees r f h OpenBrace names a =
    plain-agrees r f h OpenBrace _ _ _ _ _ _ tt a
    (ap (λ l. block (length l) ∷ f.levels) a.locals ∙ ap (λ l. block (length h.locals) ∷ l) a.levels) a.locals a.pending
sign-agrees r f h CloseBrace names a =
    subst (λ l. Agrees r (record (leave_block l f) { before = Some (mark CloseBrace) }) (known_after h (sign CloseBrace))) (sym a.levels)
    (brace-agrees r f h h.levels refl a)
sign-agrees r f h Comma names a = plain-agrees r f h Comma _ _ _ _ _ _ tt a a.levels a.locals a.pending
sign-agrees r f h Dot names a = dot-agrees r f h h.task refl names a
sign-agrees r f h Semicolon names a =
    subst (λ p. Agrees r (record (end_let p f) { before = Some (mark Semicolon) }) (known_after h (sign Semicolon))) (sym a.pending)
    (end-agrees r f h h.pending a.pending a)

-- a sign is its token, and nothing is refused of it
sign-agreed : (r : Roll) (f : Force) (h : Known) (s : Sign) → Agrees r f h → MayStand r h (sign s) → Agreed r f h (sign s)
sign-agreed r f h s a may = record {
  token = refl;
  none = none_at_mark r f s (levels-agree r f h (opens f (mark s)) (opens_level s) a (sign-opens f s) may.1);
  after = sign-agrees r f h s may.0 a;
}

-- ---- all items

-- each item is the token that is computed, and nothing is refused of it
item-agreed : (r : Roll) (f : Force) (h : Known) (i : Item) → Agrees r f h → MayStand r h i → Agreed r f h i
item-agreed r f h (key k) a may = keyword-agreed r f h k a may
item-agreed r f h (called w n) a may = name-agreed r f h w n a may
item-agreed r f h (figure n) a may = figure-agreed r f h n a may
item-agreed r f h (joined op) a may = operator-agreed r f h op a may
item-agreed r f h (sign s) a may = sign-agreed r f h s a may

-- the tokens of the lexemes are those that are computed
pub items-tokens : (r : Roll) (f : Force) (h : Known) (is : List Item) → Agrees r f h → AllMayStand r h is
    → tokens_from r f (map lexeme_for is) ≡ tokens_by r h is
items-tokens r f h [] a may = refl
items-tokens r f h (i ∷ is) a may =
    let one = item-agreed r f h i a may.0 in
    let more = items-tokens r (advance f (lexeme_for i)) (known_after h i) is one.after may.1 in
    ap (λ t. t ∷ tokens_from r (advance f (lexeme_for i)) (map lexeme_for is)) one.token ∙ ap (λ ts. token_by r h i ∷ ts) more

-- no refusal stands at any of the lexemes
pub items-fine : (r : Roll) (f : Force) (h : Known) (is : List Item) → Agrees r f h → AllMayStand r h is → AllFine r f (map lexeme_for is)
items-fine r f h [] a may = tt
items-fine r f h (i ∷ is) a may =
    let one = item-agreed r f h i a may.0 in
    (one.none, items-fine r (advance f (lexeme_for i)) (known_after h i) is one.after may.1)
