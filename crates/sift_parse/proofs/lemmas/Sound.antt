-- A parsed text is a sound task.
use Rattle.std.proofs.Common.{◌≡◌, ℕ, ◌<◌, List, [], ◌∷◌, ◌++◌, length, sum, refl, sym, ap, ◌∙◌, subst, arith, append_assoc}
use Rattle.std.proofs.lemmas.List.{length-map}
use Rattle.std.proofs.lemmas.List.Sums.{fold-append}
use Rattle.sift_lang.specs.Tree.{Block}
use Rattle.sift_lang.specs.Sound.{IsSoundBlock}
use Rattle.sift_parse.specs.declared.task.Names.{Names}
use Rattle.sift_parse.specs.Force.{at_start, advance, force_after}
use Rattle.sift_parse.specs.Lexeme.{Lexeme, IsLexeme, Placed, Lexes}
use Rattle.sift_parse.specs.Answer.{HasSize, TaskIsSound}
use Rattle.sift_parse.specs.Outcome.{AreNames}
use Rattle.sift_parse.specs.Roll.{Roll, roll_of}
use Rattle.sift_parse.specs.Tokens.{tokens_of}
use Rattle.sift_parse.specs.Force as force
use Rattle.sift_parse.specs.Grammar.{IsTask, Begins}
use Rattle.sift_parse.specs.Refusal.{IsManyRounds, IsManyLocals, IsDeepLevel, IsUnknownName, IsLaterTask, lexemes_of, IsParsed}
use Rattle.sift_parse.specs.Scanned.{Kind, many_rounds, many_locals, deep_level, unknown_name, later_task}
use Rattle.sift_parse.proofs.Refusals.Kinds.{Stands, NoneEarlier, none_found}
use Rattle.sift_parse.proofs.Lexing.OneLexing.{lexes_split, next_lexeme}
use Rattle.sift_parse.proofs.Refusals.Answering.{begins-task}
use Rattle.sift_parse.proofs.Places.Placing.{places_are_force, tokens-found}
use Rattle.sift_parse.proofs.Refusals.Standing.{begins-before}
use Rattle.sift_parse.proofs.Sound.Place.{Fits, AllFit}
use Rattle.sift_parse.proofs.Sound.Block.{IsThrough}
use Rattle.sift_parse.proofs.Sound.Statement.{block-through}

-- ---- no refusal stands at any lexeme

-- no refusal stands at the lexeme after those before
fits-here : (r : Roll) (front : List Lexeme) (l : Lexeme) (rest mid : List ℕ) → Begins (tokens_of r front) → IsLexeme rest l mid
    → ((kind : Kind) → ¬ Stands r front rest kind) → Fits r (force_after front) l
fits-here r front l rest mid b x none = let e = places_are_force r front b in record {
  rounds = λ h. none many_rounds (record { lexeme = l; rest = mid; is_lexeme = x; holds = subst (λ p. IsManyRounds p l) e h });
  locals = λ h. none many_locals (record { lexeme = l; rest = mid; is_lexeme = x; holds = subst (λ p. IsManyLocals p l) e h });
  levels = λ h. none deep_level (record { lexeme = l; rest = mid; is_lexeme = x; holds = subst (λ p. IsDeepLevel p l) e h });
  names = λ h. none unknown_name (record { lexeme = l; rest = mid; is_lexeme = x; holds = subst (λ p. IsUnknownName r p l) e h });
  tasks = λ h. none later_task (record { lexeme = l; rest = mid; is_lexeme = x; holds = subst (λ p. IsLaterTask r p l) e h });
}

lexemes_of-more : (before : List Placed) (p : Placed) → lexemes_of (before ++ p ∷ []) ≡ lexemes_of before ++ p.lexeme ∷ []
lexemes_of-more [] p = refl
lexemes_of-more (q ∷ before) p = ap (λ ls. q.lexeme ∷ ls) (lexemes_of-more before p)

-- one more lexeme moves what is in force
force_after-more : (before : List Placed) (p : Placed)
    → force_after (lexemes_of (before ++ p ∷ [])) ≡ advance (force_after (lexemes_of before)) p.lexeme
force_after-more before p = ap force_after (lexemes_of-more before p) ∙ fold-append advance at_start (lexemes_of before) (p.lexeme ∷ [])

all-fit : (r : Roll) (text : List ℕ) (front before more : List Placed) (end : List ℕ) → front ≡ before ++ more
    → Lexes (length text) text front end → Begins (tokens_of r (lexemes_of front)) → NoneEarlier r text front
    → AllFit r (force_after (lexemes_of before)) (lexemes_of more)
all-fit r text front before [] end e x b none = tt
all-fit r text front before (p ∷ more) end e x b none =
    let whole : Lexes (length text) text (before ++ (p ∷ more)) end = subst (λ ps. Lexes (length text) text ps end) e x in
    let parts = lexes_split (length text) text end before (p ∷ more) whole in
    let next = next_lexeme (length text) text before p more parts.mid end whole parts.first in
    let here =
    fits-here r (lexemes_of before) p.lexeme parts.mid next.mid
    (begins-before r before (p ∷ more) (subst (λ ps. Begins (tokens_of r (lexemes_of ps))) e b)) next.is_lexeme
    (λ kind. none before (p ∷ more) parts.mid kind e (λ h. cc) parts.first) in
    let again : front ≡ (before ++ p ∷ []) ++ more = e ∙ sym (append_assoc before (p ∷ []) more) in
    let rest = all-fit r text front (before ++ p ∷ []) more end again x b none in
    (here, subst (λ f. AllFit r f (lexemes_of more)) (force_after-more before p) rest)

-- ---- the task

whole : (r : Roll) (text : List ℕ) (body : Block) → IsParsed r text body → IsThrough r at_start [] body
whole r text body h =
    let ls = lexemes_of h.front in
    let b : Begins (tokens_of r ls) = begins-task (tokens_of r ls) body h.task in
    let task : IsTask (force.tokens_of r ls) body = subst (λ ts. IsTask ts body) (tokens-found r ls b) h.task in
    block-through r (force.tokens_of r ls) [] body task at_start (record { role = refl; pending = refl; bare = refl; few = omega arith })
    (record { lexemes = ls; tokens = refl; fits = all-fit r text h.front [] h.front [] refl h.lexes b (none_found r text h.front h.fine) })

-- the task of a text is sound, and reads by `now` only words of earlier tasks
pub task_is_sound : TaskIsSound
task_is_sound r text tree size is =
    let w = whole r text tree.body is.parsed in
    record {
      sound = record {
        some_output = (let n = size.some in let e = is.outputs in omega arith);
        few_outputs = (let n = size.few in let e = is.outputs in omega arith);
        few_repeats = (let n = w.repeats in omega arith);
        sound_body = subst (λ n. IsSoundBlock (record { sensors = length r.sensors; words = sum r.sizes; outputs = n }) 0 tree.body) (sym is.outputs) w.sound;
      };
      nows = w.nows;
    }

-- as many sizes as tasks are there where the code holds the names, and this task has one
pub has_words : (names : Names) → AreNames (roll_of names) → names.this < length (roll_of names).sizes
has_words names a =
    let this = a.one_of_them in
    let m = length-map names.tasks.items (λ t. t.0.bytes) in
    let n = length-map names.tasks.items (λ t. t.1) in
    omega arith

-- where names are as they may be, the task has as many words as a task may have
pub has_size : (r : Roll) → AreNames r → r.this < length r.sizes → HasSize r
has_size r a here = record { some = a.some_words r.this 0 here; few = a.few_words r.this 0 here }
