-- The text that a sound tree prints is a text of that tree.
use Rattle.std.proofs.Common.{◌≡◌, ℕ, ◌<◌, ◌≤◌, false, [], length, sum, refl, sym, ap, ◌∙◌, subst, arith}
use Rattle.sift_lang.specs.Sound.{Bounds, IsSoundBlock, locals_after}
use Rattle.sift_lang.specs.Tree.{Statement, Block, end, step}
use Rattle.sift_parse.specs.Answer.{HasSize}
use Rattle.sift_parse.specs.Grammar.{IsTask, no_statement, a_statement}
use Rattle.sift_parse.specs.Lexeme.{level_limit}
use Rattle.sift_parse.specs.Printable.{most_locals_in, depth_in, PrintedTreeIsTask}
use Rattle.sift_parse.specs.Printing.{Naming, print_statement, print_block, print_body, printed_text}
use Rattle.sift_parse.specs.Refusal.{IsParsed}
use Rattle.sift_parse.specs.Roll.{Roll}
use Rattle.sift_parse.proofs.Printing.Blocks.{names-many, statement-printed, block-printed}
use Rattle.sift_parse.proofs.Printing.Known.{at_front, tokens_by}
use Rattle.sift_parse.proofs.Printing.MayStand.{AllMayStand}
use Rattle.sift_parse.proofs.Printing.Named.{IsNamedBlock}
use Rattle.sift_parse.proofs.Printing.Names.{Named}
use Rattle.sift_parse.proofs.Printing.Read.{items_in}
use Rattle.sift_parse.proofs.Printing.Spaces.{body-follows}
use Rattle.sift_parse.proofs.Printing.Statements.{Opens, Stated, Blocked}
use Rattle.sift_parse.proofs.Printing.Text.{pieces-parsed}
use Rattle.sift_parse.proofs.Printing.TreeNames.{bounds, block-named}

-- a text begins with a statement
front-opens : (r : Roll) → Opens r at_front
front-opens r = record { role = refl; no_let = λ e. cc; no_now = λ e. cc; bare = refl; none = refl }

-- what is printed of a body is a task, and each item of it may stand in its place
record Body (r : Roll) (N : Naming) (b : Block) : Type 0 where
  pub task : IsTask (tokens_by r at_front (items_in (print_body N b))) b
  pub stands : AllMayStand r at_front (items_in (print_body N b))

-- a statement and the block after it are a body
body-step : (r : Roll) (N : Naming) (s : Statement) (b : Block) → (i : Stated r N at_front s (print_statement N 0 s false))
    → Blocked r i.after b (print_block N (locals_after 0 s) b) → Body r N (step s b)
body-step r N s b i j = let rest = print_block N (locals_after 0 s) b [] in record {
  task = a_statement _ (tokens_by r i.after (items_in rest)) [] s b (i.tokens rest) (j.tokens []);
  stands = i.stands rest (j.stands [] tt);
}

-- a body that has its names is printed as itself
body-printed : (r : Roll) (N : Naming) (b : Block) → IsNamedBlock r N [] b → depth_in b ≤ level_limit → Body r N b
body-printed r N end named few = record { task = no_statement []; stands = tt }
body-printed r N (step s b) named few =
    let i = statement-printed r N s 0 false at_front (front-opens r) refl named.0 (omega arith) in
    let same : length i.after.levels ≡ 0 = ap length i.levels in
    let many : locals_after 0 s ≡ length i.after.locals = sym (names-many N [] s) ∙ sym (ap length i.locals) in
    body-step r N s b i
    (block-printed r N b (locals_after 0 s) i.after i.opens many (subst (λ l. IsNamedBlock r N l b) (sym i.locals) named.1) (omega arith))

-- the text of a body that has its names is a text of that body
pub body-parsed : (r : Roll) (N : Naming) (b : Block) → IsNamedBlock r N [] b → depth_in b ≤ level_limit → IsParsed r (printed_text N b) b
body-parsed r N b named few =
    let i = body-printed r N b named few in pieces-parsed r (print_body N b) b (body-follows N b) i.stands i.task

-- a sound tree has its names, so that what it prints is a text of it
pub printed_tree_is_task : PrintedTreeIsTask
printed_tree_is_task r N tree names naming p =
    let size : HasSize r = record {
      some = subst (λ n. 0 < n) p.outputs p.sound.sound.some_output;
      few = subst (λ n. n ≤ 8) p.outputs p.sound.sound.few_outputs;
    } in
    let most = most_locals_in 0 tree.body in
    let is : Named r N most = record { names = names; size = size; naming = naming } in
    let tree_in : ℕ → Bounds = λ n. record { sensors = length r.sensors; words = sum r.sizes; outputs = n } in
    let sound : IsSoundBlock (bounds r) 0 tree.body = subst (λ n. IsSoundBlock (tree_in n) 0 tree.body) p.outputs p.sound.sound.sound_body in
    let named = block-named r N most 0 tree.body is (omega arith) (omega arith) sound p.sound.nows p.small in
    record { short = p.short; parsed = body-parsed r N tree.body named p.shallow; outputs = p.outputs }
