-- The locals in force are those that live.
use Rattle.std.proofs.Common.{◌≡◌, ℕ, Bool, true, false, if◌then◌else◌, Option, Some, None, List, [], ◌∷◌, ◌++◌, length, drop, refl, sym, subst, append_assoc}
use Rattle.std.specs.Prelude.{fold, map}
use Rattle.std.proofs.lemmas.List.{append-nil}
use Rattle.sift_lang.specs.declared.tree.Op.{Op}
use Rattle.sift_parse.specs.declared.token.Sign as signs
use Rattle.sift_parse.specs.declared.token.Sign.TheVariants.{OpenParen, CloseParen, OpenBrace, CloseBrace, Semicolon}
use Rattle.sift_parse.specs.declared.token.Token.{Token}
use Rattle.sift_parse.specs.declared.token.Token.TheVariants.{Name, Operator, Sign}
use Rattle.sift_parse.specs.Force.{Force, Level, block, parenthesis, negation, keyword_before, opens, without_minuses, oldest, leave_block, end_let, advance, at_start, force_after, task_asked, token_of, tokens_from, tokens_of, Role, new_local, a_sensor, a_task, old_local, role_after}
use Rattle.sift_parse.specs.Lexeme.{keyword_of, Lexeme, word, numeral, operator, mark}
use Rattle.sift_parse.specs.Roll.{Roll}
use Rattle.sift_parse.specs.Tokens.{number_token}
use Rattle.sift_parse.specs.Levels.{living}
use Rattle.sift_parse.specs.Grammar.{Begins}
use Rattle.sift_parse.proofs.Places.States.{shape, is_open, state_of, state-next}
use Rattle.sift_parse.proofs.Places.Tidy.{State, InBlock, InParen, OkHere, OkLet, Ok, Tidy}
use Rattle.sift_parse.proofs.Places.TidyTasks.{begins-tidy}
use Rattle.sift_parse.proofs.Places.Plain.{J, outside}
use Rattle.sift_parse.proofs.Places.Lets.{end-still}
use Rattle.sift_parse.proofs.Places.Blocks.{end-bound, open-step, close-step, lives-all}
use Rattle.sift_parse.proofs.Places.Naming.{blocks_of, blocks-bare, phase, Holds, plain-step, after_by, by-word, After, phase-free, phase-task, word-step}

-- ---- other lexemes, which no `let` stands right before

pub record Free (front : List Lexeme) (f : Force) (t : Token) : Type 0 where
  pub holds : J front f.locals (blocks_of f.levels) (phase f.pending old_local)
  pub ok : OkHere (state_of f) t

-- a token that is no name
abbrev NoName : Token → Type 0
NoName (Name n) = ⊥
NoName _ = Unit {0}

no-let-here : (s : State) (t : Token) → NoName t → OkLet s t → ⊥
no-let-here s (Name n) h k = h
no-let-here s t h k = k

free : (front : List Lexeme) (f : Force) (t : Token) (role : Role) → NoName t → After front f role → Ok role (state_of f) t → Free front f t
free front f t new_local n j ok = absurd (no-let-here (state_of f) t n ok)
free front f t a_sensor n j ok = record { holds = subst (J front f.locals (blocks_of f.levels)) (phase-free f.pending) j; ok = ok }
free front f t a_task n j ok = record { holds = subst (J front f.locals (blocks_of f.levels)) (phase-task f.pending) j; ok = ok }
free front f t old_local n j ok = record { holds = j; ok = ok }

number-no-name : (r : Roll) (b : Option Lexeme) (asked : Option ℕ) (n : ℕ) → NoName (number_token r b asked n)
number-no-name r b (Some task) n = tt
number-no-name r b None n = tt

operator-step : (front : List Lexeme) (f : Force) (op : Op) (b : Bool) → J front f.locals (blocks_of f.levels) (phase f.pending old_local)
    → Holds (front ++ operator op ∷ []) (record (if b then record f { levels = negation ∷ f.levels } else f) { before = Some (operator op) })
operator-step front f op true j = plain-step front (operator op) f.locals (blocks_of f.levels) f.pending tt j
operator-step front f op false j = plain-step front (operator op) f.locals (blocks_of f.levels) f.pending tt j

paren-step : (front : List Lexeme) (f : Force) (ls : List Level) → InParen (map shape ls)
    → J front f.locals (blocks_of ls) (phase f.pending old_local)
    → J (front ++ mark CloseParen ∷ []) f.locals (blocks_of (without_minuses (drop 1 ls))) (phase f.pending old_local)
paren-step front f [] h j = absurd h
paren-step front f (block n ∷ ls) h j = absurd h
paren-step front f (negation ∷ ls) h j = absurd h
paren-step front f (parenthesis ∷ ls) h j =
    subst (λ bs. J (front ++ mark CloseParen ∷ []) f.locals bs (phase f.pending old_local)) (sym (blocks-bare ls))
    (plain-step front (mark CloseParen) f.locals (blocks_of ls) f.pending tt j)

brace-step : (front : List Lexeme) (ls : List (List ℕ)) (bs : List ℕ) (p : Option (List ℕ)) → is_open p ≡ false
    → J front ls bs (phase p old_local) → J (front ++ mark OpenBrace ∷ []) ls (length ls ∷ bs) (phase p old_local)
brace-step front ls bs (Some w) e j = absurd (let g : true ≡ false = e in cc)
brace-step front ls bs None e j = open-step front ls bs j

leave-step : (front : List Lexeme) (f : Force) (ls : List Level) (p : Option (List ℕ)) → f.pending ≡ p → is_open p ≡ false
    → InBlock (map shape ls) → J front f.locals (blocks_of ls) (phase p old_local)
    → Holds (front ++ mark CloseBrace ∷ []) (record (leave_block ls f) { before = Some (mark CloseBrace) })
leave-step front f ls (Some w) q e h j = absurd (let g : true ≡ false = e in cc)
leave-step front f [] None q e h j = absurd h
leave-step front f (parenthesis ∷ ls) None q e h j = absurd h
leave-step front f (negation ∷ ls) None q e h j = absurd h
leave-step front f (block n ∷ ls) None q e h j =
    subst (λ p. J (front ++ mark CloseBrace ∷ []) (oldest n f.locals) (blocks_of ls) (phase p old_local)) (sym q)
    (close-step front f.locals n (blocks_of ls) j)

semicolon-step : (front : List Lexeme) (f : Force) (p : Option (List ℕ)) → f.pending ≡ p
    → J front f.locals (blocks_of f.levels) (phase p old_local)
    → Holds (front ++ mark Semicolon ∷ []) (record (end_let p f) { before = Some (mark Semicolon) })
semicolon-step front f (Some w) q j = end-bound front w f.locals (blocks_of f.levels) j
semicolon-step front f None q j =
    subst (λ p. J (front ++ mark Semicolon ∷ []) f.locals (blocks_of f.levels) (phase p old_local)) (sym q)
    (end-still front f.locals (blocks_of f.levels) j)

mark-step : (front : List Lexeme) (f : Force) (s : signs.Sign) → Free front f (Sign s) → Holds (front ++ mark s ∷ []) (advance f (mark s))
mark-step front f OpenParen h = plain-step front (mark OpenParen) f.locals (blocks_of f.levels) f.pending tt h.holds
mark-step front f CloseParen h = paren-step front f f.levels h.ok h.holds
mark-step front f OpenBrace h = brace-step front f.locals (blocks_of f.levels) f.pending h.ok.0 h.holds
mark-step front f CloseBrace h = leave-step front f f.levels f.pending refl h.ok.0 h.ok.1 h.holds
mark-step front f Semicolon h = semicolon-step front f f.pending refl h.holds
mark-step front f s h = plain-step front (mark s) f.locals (blocks_of f.levels) f.pending tt h.holds

numeral-step : (front : List Lexeme) (f : Force) (n : ℕ) (t : Token) → Free front f t
    → Holds (front ++ numeral n ∷ []) (advance f (numeral n))
numeral-step front f n t h =
    subst (λ bs. J (front ++ numeral n ∷ []) f.locals bs (phase f.pending old_local)) (sym (blocks-bare f.levels))
    (plain-step front (numeral n) f.locals (blocks_of f.levels) f.pending tt h.holds)

lexeme-step : (r : Roll) (front : List Lexeme) (f : Force) (l : Lexeme) → Holds front f
    → Ok (role_after (keyword_before f)) (state_of f) (token_of r f l) → Holds (front ++ l ∷ []) (advance f l)
lexeme-step r front f (word w) j ok =
    let role = role_after (keyword_before f) in
    let k : After (front ++ word w ∷ []) (after_by (keyword_of w) role w f) (role_after (keyword_of w)) = word-step r front f w (keyword_of w) role refl j ok in
    subst (λ g. After (front ++ word w ∷ []) g (role_after (keyword_of w))) (by-word (keyword_of w) w f) k
lexeme-step r front f (numeral n) j ok =
    let t : Token = number_token r f.before (task_asked r f f.before) n in
    numeral-step front f n t (free front f t (role_after (keyword_before f)) (number-no-name r f.before (task_asked r f f.before) n) j ok)
lexeme-step r front f (operator op) j ok =
    operator-step front f op (opens f (operator op)) (free front f (Operator op) (role_after (keyword_before f)) tt j ok).holds
lexeme-step r front f (mark s) j ok = mark-step front f s (free front f (Sign s) (role_after (keyword_before f)) tt j ok)

walk : (r : Roll) (front : List Lexeme) (f : Force) (ls : List Lexeme) → Holds front f → Tidy (state_of f) (tokens_from r f ls)
    → Holds (front ++ ls) (fold advance f ls)
walk r front f [] j h = subst (λ l. Holds l f) (sym (append-nil front)) j
walk r front f (l ∷ ls) j h =
    let next_tidy : Tidy (state_of (advance f l)) (tokens_from r (advance f l) ls) =
    subst (λ s. Tidy s (tokens_from r (advance f l) ls)) (sym (state-next r f l)) h.1 in
    subst (λ x. Holds x (fold advance (advance f l) ls)) (append_assoc front (l ∷ []) ls)
    (walk r (front ++ l ∷ []) (advance f l) ls (lexeme-step r front f l j h.0) next_tidy)

at-first : Holds [] at_start
at-first = record { base = []; rest = []; split = refl; settled = tt; lives = refl; nest = outside []; hangs = refl }

-- the locals in force after lexemes that begin a task are those that live
pub locals_live : (r : Roll) (front : List Lexeme) → Begins (tokens_of r front) → (force_after front).locals ≡ living front
locals_live r front b =
    let f : Force = force_after front in
    lives-all front f.locals (blocks_of f.levels) (phase f.pending (role_after (keyword_before f)))
    (walk r [] at_start front at-first (begins-tidy (tokens_of r front) b))
