-- A text has one answer: a parsed text has one tree, and no refusal.
use Rattle.std.proofs.Common.{◌≡◌, ◌≢◌, ℕ, ◌<◌, ◌≤◌, List, [], ◌∷◌, length, Result, Ok, Err, refl, sym, ap, ◌∙◌, subst, arith}
use Rattle.sift_lang.specs.declared.tree.Task.{Task}
use Rattle.sift_lang.specs.Tree.{TaskTree, Block, tree_of}
use Rattle.sift_parse.specs.declared.task.ParseStop.{ParseStop}
use Rattle.sift_parse.specs.declared.task.ParseStop.TheVariants as stop
use Rattle.sift_parse.specs.declared.task.Which.TheVariants as which
use Rattle.sift_parse.specs.Grammar.{IsTask}
use Rattle.sift_parse.specs.Lexeme.{Lexeme, Lexes, text_limit}
use Rattle.sift_parse.specs.Outcome.{IsTaskOf, Tells}
use Rattle.sift_parse.specs.Roll.{Roll}
use Rattle.sift_parse.specs.Tokens.{tokens_of}
use Rattle.sift_parse.specs.Refusal.{BeginsWith, lexemes_of, IsRefused, IsParsed}
use Rattle.sift_parse.specs.Scanned.{Kind, no_lexeme_here, no_syntax, long_name, large_number, many_rounds, many_locals, deep_level, unknown_name, later_task}
use Rattle.sift_parse.specs.Answer.{IsSameAnswer, OneAnswer, IsAnswerOf, TaskIsAnswered}
use Rattle.sift_parse.proofs.Refusals.Kinds.{Stands, stop_for, none_found, IsRefusedFor, refused_found}
use Rattle.sift_parse.proofs.Lexing.OneLexing.{one_rest}
use Rattle.sift_parse.proofs.Refusals.OneRefusal.{Sided, at_one, earlier, later, sided, none_after, same_refusal}
use Rattle.sift_parse.proofs.Refusals.Standing.{no_lexeme-of-nothing}
use Rattle.sift_parse.proofs.Parsing.Whole.{one_tree}

-- ---- no refusal in a parsed text

begins-nothing : (P : Lexeme → Type 0) → BeginsWith [] P → ⊥
begins-nothing P b = no_lexeme-of-nothing b.lexeme b.rest b.is_lexeme

-- where a text ends, no refusal stands after lexemes whose tokens are a task
none_at_end : (r : Roll) (front : List Lexeme) (body : Block) (kind : Kind) → IsTask (tokens_of r front) body → Stands r front [] kind → ⊥
none_at_end r front body no_lexeme_here t h = h.0 refl
none_at_end r front body no_syntax t h = h body t
none_at_end r front body long_name t h = begins-nothing _ h
none_at_end r front body large_number t h = begins-nothing _ h
none_at_end r front body many_rounds t h = begins-nothing _ h
none_at_end r front body many_locals t h = begins-nothing _ h
none_at_end r front body deep_level t h = begins-nothing _ h
none_at_end r front body unknown_name t h = begins-nothing _ h
none_at_end r front body later_task t h = begins-nothing _ h

not_both-by : (r : Roll) (text : List ℕ) (body : Block) (k : Kind) (x : ℕ) (p : IsParsed r text body) (h : IsRefusedFor r text k x)
    → Sided p.front h.front → ⊥
not_both-by r text body k x p h (at_one e) =
    let ends : h.rest ≡ [] = one_rest (length text) text h.front h.rest [] h.lexes (subst (λ ps. Lexes (length text) text ps []) e p.lexes) in
    none_at_end r (lexemes_of h.front) body k (subst (λ ps. IsTask (tokens_of r (lexemes_of ps)) body) e p.task)
    (subst (λ t. Stands r (lexemes_of h.front) t k) ends h.stands)
not_both-by r text body k x p h (earlier q more e) = none_after (length text) text p.front h.front q more h.rest p.lexes h.lexes e
not_both-by r text body k x p h (later q more e) = none_found r text p.front p.fine h.front (q ∷ more) h.rest k e (λ z. cc) h.lexes h.stands

-- a text that is parsed is not refused
not_both : (r : Roll) (text : List ℕ) (body : Block) (k : Kind) (x : ℕ) → IsParsed r text body → IsRefusedFor r text k x → ⊥
not_both r text body k x p h = not_both-by r text body k x p h (sided (length text) text p.front h.front [] h.rest p.lexes h.lexes)

-- ---- one tree

one_body-by : (r : Roll) (text : List ℕ) (a b : Block) (p : IsParsed r text a) (q : IsParsed r text b) → Sided p.front q.front → a ≡ b
one_body-by r text a b p q (at_one e) = one_tree (tokens_of r (lexemes_of q.front)) a b (subst (λ ps. IsTask (tokens_of r (lexemes_of ps)) a) e p.task) q.task
one_body-by r text a b p q (earlier l more e) = absurd (none_after (length text) text p.front q.front l more [] p.lexes q.lexes e)
one_body-by r text a b p q (later l more e) = absurd (none_after (length text) text q.front p.front l more [] q.lexes p.lexes e)

one_body : (r : Roll) (text : List ℕ) (a b : Block) → IsParsed r text a → IsParsed r text b → a ≡ b
one_body r text a b p q = one_body-by r text a b p q (sided (length text) text p.front q.front [] [] p.lexes q.lexes)

-- a text is the text of one task
pub one_task : (r : Roll) (text : List ℕ) (a b : TaskTree) → IsTaskOf r text a → IsTaskOf r text b → a ≡ b
one_task r text a b x y =
    let outputs : a.outputs ≡ b.outputs = x.outputs ∙ sym y.outputs in
    ap (λ n. let t : TaskTree = record { outputs = n; body = a.body } in t) outputs
    ∙ ap (λ c. let t : TaskTree = record { outputs = b.outputs; body = c } in t) (one_body r text a.body b.body x.parsed y.parsed)

-- ---- one answer

-- what an answer says: a task, a text that is too long, or a refusal
data Told (r : Roll) (text : List ℕ) (a : Result Task ParseStop) : Type 0 where
  a_task : (task : Task) → a ≡ Ok task → IsTaskOf r text (tree_of task) → Told r text a
  too_long : a ≡ Err (stop.Limit which.Text text_limit) → text_limit < length text → Told r text a
  refused : (kind : Kind) (at : ℕ) → a ≡ Err (stop_for kind at) → length text ≤ text_limit → IsRefusedFor r text kind at → Told r text a

limit-told : (r : Roll) (text : List ℕ) (at : ℕ) → (at ≡ text_limit) × (text_limit < length text)
    → Told r text (Err (stop.Limit which.Text at))
limit-told r text at h = too_long (ap (λ n. Err (stop.Limit which.Text n)) h.0) h.1

told-refused : (r : Roll) (text : List ℕ) (s : ParseStop) → IsRefused r text s → Told r text (Err s)
told-refused r text s h = let f = refused_found r text s h in refused f.kind f.at (ap (λ e. Err e) f.answers) f.short f.refused

told : (r : Roll) (text : List ℕ) (a : Result Task ParseStop) → a ≢ Err stop.NoMemory → Tells r text a → Told r text a
told r text (Ok task) n h = a_task task refl h
told r text (Err (stop.Limit which.Text at)) n h = limit-told r text at h
told r text (Err stop.NoMemory) n h = absurd (n refl)
told r text (Err s) n h = told-refused r text s h

-- answers that are these ones are one, where these are
as_said : (a b c d : Result Task ParseStop) → a ≡ c → b ≡ d → IsSameAnswer c d → IsSameAnswer a b
as_said a b c d e f h = subst (λ x. IsSameAnswer x b) (sym e) (subst (λ y. IsSameAnswer c y) (sym f) h)

same-refused : (k j : Kind) (x y : ℕ) → (k ≡ j) × (x ≡ y) → stop_for k x ≡ stop_for j y
same-refused k j x y h = ap (λ n. stop_for n x) h.0 ∙ ap (λ n. stop_for j n) h.1

one_answer-by : (r : Roll) (text : List ℕ) (a b : Result Task ParseStop) → Told r text a → Told r text b → IsSameAnswer a b
one_answer-by r text a b (a_task t e h) (a_task u f g) = as_said a b (Ok t) (Ok u) e f (one_task r text (tree_of t) (tree_of u) h g)
one_answer-by r text a b (a_task t e h) (too_long f g) = absurd (let s = h.short in omega arith)
one_answer-by r text a b (a_task t e h) (refused k x f le g) = absurd (not_both r text (tree_of t).body k x h.parsed g)
one_answer-by r text a b (too_long e h) (a_task u f g) = absurd (let s = g.short in omega arith)
one_answer-by r text a b (too_long e h) (too_long f g) = as_said a b (Err (stop.Limit which.Text text_limit)) (Err (stop.Limit which.Text text_limit)) e f refl
one_answer-by r text a b (too_long e h) (refused k x f le g) = absurd (omega arith)
one_answer-by r text a b (refused k x e le h) (a_task u f g) = absurd (not_both r text (tree_of u).body k x g.parsed h)
one_answer-by r text a b (refused k x e le h) (too_long f g) = absurd (omega arith)
one_answer-by r text a b (refused k x e le h) (refused j y f low g) =
    as_said a b (Err (stop_for k x)) (Err (stop_for j y)) e f (same-refused k j x y (same_refusal r text k j x y h g))

-- two answers to a text, neither of them want of memory, are tasks with one tree or one refusal at one place
pub one_answer : OneAnswer
one_answer r text a b m n x y = one_answer-by r text a b (told r text a m x) (told r text b n y)

task_is_answered-by : (r : Roll) (text : List ℕ) (tree : TaskTree) (a : Result Task ParseStop) → IsTaskOf r text tree → Told r text a
    → IsAnswerOf tree a
task_is_answered-by r text tree a x (a_task t e h) = subst (IsAnswerOf tree) (sym e) (one_task r text (tree_of t) tree h x)
task_is_answered-by r text tree a x (too_long e h) = absurd (let s = x.short in omega arith)
task_is_answered-by r text tree a x (refused k at e le h) = absurd (not_both r text tree.body k at x.parsed h)

-- the text of a task is answered with a task of the same tree, where memory is not wanting
pub task_is_answered : TaskIsAnswered
task_is_answered r text tree a n x h = task_is_answered-by r text tree a x (told r text a n h)
