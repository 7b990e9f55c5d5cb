use Rattle.std.proofs.Common.{arith, ℕ, ◌-◌, ◌<◌, ap, ◌∙◌, length, map, take, drop, Option, Vec, Global}
use Rattle.std.specs.Prelude.{option_map}
use Rattle.std.proofs.lemmas.List.{map-append}
use Rattle.std.proofs.lemmas.Grind.{common_steps}
use Rattle.sift_lang.specs.declared.tree.Expr.{Expr}
use Rattle.sift_lang.specs.declared.tree.Stmt.{Stmt}
use Rattle.sift_lang.specs.Tree.{Term, Statement, Block, term_of, statement_of, block_of}
use Rattle.sift_parse.specs.declared.token.Keyword.TheVariants.{Let, Out, Repeat}
use Rattle.sift_parse.specs.declared.token.Keyword.TheVariants as keywords
use Rattle.sift_parse.specs.declared.token.Sign.TheVariants.{OpenBrace, CloseBrace}
use Rattle.sift_parse.specs.declared.token.Token.TheVariants.{Keyword, Name}
use Rattle.sift_parse.specs.Reading.{fault, read_sign, read_name, read_number, read_index, read}
use Rattle.sift_parse.specs.ReadingBlocks.{read_block, braced_by, valued_by, else_by, if_by, statement_by}
use Rattle.sift_parse.proofs.Parsing.Exits.{out-of-memory, part-failed, token-failed}
use Rattle.sift_parse.proofs.Parsing.Sequences.{closed-inner, closed-sign, braced-open, braced-rest}
use Rattle.sift_parse.proofs.Parsing.Shorter.{behind, behind-sign, behind-name, behind-number, behind-index}
use Rattle.sift_parse.proofs.Parsing.Starts.{none-left, front, statement-none, let-name, let-value, set-value, out-word, out-value, if-rest, repeat-number, repeat-block, of-let, of-set, of-output, of-repeat, of-if, of-if_else}
use Rattle.sift_parse.proofs.Parsing.Turns.{turns-more, turns-end, turns-fault, else-found, else-fault, else-none, if-test, if-fault, if-to, answered}
use Rattle.sift_parse.proofs.parser.+blocks.Goals as goal

pub block-returns-in_err-next-clause-reads : goal.block-returns-in_err-next-clause-reads
block-returns-in_err-next-clause-reads t c =
    let ts = c.args.tokens.now.rest.now in
    let us = c.loop-statements.tokens.rest.now in
    part-failed (Option Statement) Block (Option Stmt) (Vec Stmt Global) (option_map statement_of) (λ v. block_of v.items) (λ fuel. statement_by (read fuel 0) (read_block fuel))
    (λ fuel. read_block fuel) us c.args.tokens.now.rest.now c.statement.new.tokens.rest.now c.in_err-next.field-0.0
    c.from_residual.result c.from_residual.ensures
    (λ bad r. turns-fault ts (map statement_of c.loop-statements.statements.items) us bad c.loop-statements.invariant.turns r) c.in_err-next.ensures.reads

pub block-loop-statements-preserved : goal.block-loop-statements-preserved
block-loop-statements-preserved t c =
    let ts = c.args.tokens.now.rest.now in
    let us = c.loop-statements.tokens.rest.now in
    let vs = c.statement.new.tokens.rest.now in
    let shorter : length vs < length us = rw c.in-Some.is at c.in_ok-next.ensures.goes_on in
    record {
      shorter = omega arith;
      turns =
          rw (c.in_ok-push.ensures.items, map-append)
          (turns-more ts (map statement_of c.loop-statements.statements.items) us vs
          (statement_of c.in-Some.next) c.loop-statements.invariant.turns (rw c.in-Some.is at c.in_ok-next.ensures.reads));
    }

pub block-returns-clause-reads : goal.block-returns-clause-reads
block-returns-clause-reads t c =
    turns-end c.args.tokens.now.rest.now
    (map statement_of c.loop-statements.statements.items) c.loop-statements.tokens.rest.now c.statement.new.tokens.rest.now
    c.loop-statements.invariant.turns (rw c.in_default.is at c.in_ok-next.ensures.reads)

pub branches-returns-in_err-first-clause-reads : goal.branches-returns-in_err-first-clause-reads
branches-returns-in_err-first-clause-reads t c =
    let ts = c.args.tokens.now.rest.now in
    let us = c.expr.new.tokens.rest.now in
    part-failed Block Statement (Vec Stmt Global) Stmt (λ v. block_of v.items) (statement_of) (λ fuel. braced_by (read_block fuel))
    (λ fuel. if_by (read fuel 0) (read_block fuel)) us c.args.tokens.now.rest.now c.braced.new.tokens.rest.now c.in_err-first.field-0.0
    c.from_residual-in_err-first.result c.from_residual-in_err-first.ensures
    (λ bad r. if-fault (term_of c.in_ok-test.test) ts us bad c.in_ok-test.ensures.reads r) c.in_err-first.ensures.reads

pub branches-returns-clause-reads : goal.branches-returns-clause-reads
branches-returns-clause-reads t c =
    let ts = c.args.tokens.now.rest.now in
    let us = c.expr.new.tokens.rest.now in
    let vs = c.braced.new.tokens.rest.now in
    let test = term_of c.in_ok-test.test in
    let first = block_of c.in_ok-first.first.items in
    answered Statement Stmt statement_of (λ fuel. else_by (read_block fuel) test first)
    (λ fuel. if_by (read fuel 0) (read_block fuel)) vs ts c.second_branch.new.tokens.rest.now c.second_branch.result
    (λ o r. if-to test first ts us vs o c.in_ok-test.ensures.reads c.in_ok-first.ensures.reads r) c.second_branch.ensures.reads

pub second_branch-returns-clause-reads : goal.second_branch-returns-clause-reads
second_branch-returns-clause-reads t c =
    let ts = c.args.tokens.now.rest.now in
    let us = c.otherwise.new.self.rest.now in
    let first = block_of c.args.first.items in
    let second = block_of c.in_ok-second.second.items in
    let taken = c.if-not-otherwise.ensures in
    rw (of-if_else c.args.test c.args.first c.in_ok-second.second) (else-found (term_of c.args.test) first second ts us c.braced.new.tokens.rest.now taken c.in_ok-second.ensures.reads)

pub statement-returns-in_err-value-in-Keyword-Let-clause-reads : goal.statement-returns-in_err-value-in-Keyword-Let-clause-reads
statement-returns-in_err-value-in-Keyword-Let-clause-reads t c =
    let ts = c.args.tokens.now.rest.now in
    let us = take (length ts - 1) (drop 1 ts) in
    let is = c.in-Keyword-Let.is ∙ ap Keyword (rw c.in-Keyword-Let.is at c.in-Keyword-Let.field-0-is) in
    let begins = front (Keyword Let) (Keyword Let) ts c.in-len1-up.len_at_least is in
    let vs = c.name.new.self.rest.now in
    part-failed Term (Option Statement) Expr (Option Stmt) (term_of) (option_map statement_of) (λ fuel. valued_by (read fuel 0))
    (λ fuel. statement_by (read fuel 0) (read_block fuel)) vs c.args.tokens.now.rest.now c.value.new.tokens.rest.now c.in_err-value-in-Keyword-Let.field-0.0
    c.from_residual-in_err-value-in-Keyword-Let.result c.from_residual-in_err-value-in-Keyword-Let.ensures
    (λ bad r. let-value ts us vs _ _ begins c.in_ok-name-in-Keyword-Let.ensures r) c.in_err-value-in-Keyword-Let.ensures.reads

pub statement-returns-in_err-value-in-Name-clause-reads : goal.statement-returns-in_err-value-in-Name-clause-reads
statement-returns-in_err-value-in-Name-clause-reads t c =
    let ts = c.args.tokens.now.rest.now in
    let us = take (length ts - 1) (drop 1 ts) in
    let begins = front (Name c.in-Name.local) (Keyword Let) ts c.in-len1-up.len_at_least c.in-Name.is in
    part-failed Term (Option Statement) Expr (Option Stmt) (term_of) (option_map statement_of) (λ fuel. valued_by (read fuel 0))
    (λ fuel. statement_by (read fuel 0) (read_block fuel)) us c.args.tokens.now.rest.now c.value-in-Name.new.tokens.rest.now c.in_err-value-in-Name.field-0.0
    c.from_residual-in_err-value-in-Name.result c.from_residual-in_err-value-in-Name.ensures
    (λ bad r. set-value c.in-Name.local ts us _ begins r) c.in_err-value-in-Name.ensures.reads

pub block-returns-clause-goes_on : goal.block-returns-clause-goes_on
block-returns-clause-goes_on c = grind (arith, common_steps)

pub statement-returns-in_err-branches-in-Keyword-If-clause-reads : goal.statement-returns-in_err-branches-in-Keyword-If-clause-reads
statement-returns-in_err-branches-in-Keyword-If-clause-reads t c =
    let ts = c.args.tokens.now.rest.now in
    let us = take (length ts - 1) (drop 1 ts) in
    let is = c.in-Keyword-If.is ∙ ap Keyword (rw c.in-Keyword-If.is at c.in-Keyword-If.field-0-is) in
    let begins = front (Keyword keywords.If) (Keyword Let) ts c.in-len1-up.len_at_least is in
    part-failed Statement (Option Statement) Stmt (Option Stmt) (statement_of) (option_map statement_of) (λ fuel. if_by (read fuel 0) (read_block fuel))
    (λ fuel. statement_by (read fuel 0) (read_block fuel)) us c.args.tokens.now.rest.now c.branches.new.tokens.rest.now c.in_err-branches-in-Keyword-If.field-0.0
    c.from_residual-in_err-branches-in-Keyword-If.result c.from_residual-in_err-branches-in-Keyword-If.ensures
    (λ bad r. if-rest ts us _ begins r) c.in_err-branches-in-Keyword-If.ensures.reads

pub statement-returns-in_ok-branches-in-Keyword-If-clause-reads : goal.statement-returns-in_ok-branches-in-Keyword-If-clause-reads
statement-returns-in_ok-branches-in-Keyword-If-clause-reads t c =
    let ts = c.args.tokens.now.rest.now in
    let us = take (length ts - 1) (drop 1 ts) in
    let is = c.in-Keyword-If.is ∙ ap Keyword (rw c.in-Keyword-If.is at c.in-Keyword-If.field-0-is) in
    let begins = front (Keyword keywords.If) (Keyword Let) ts c.in-len1-up.len_at_least is in
    if-rest ts us _ begins c.in_ok-branches-in-Keyword-If.ensures.reads

pub statement-returns-in_err-braced-in-Keyword-Repeat-clause-reads : goal.statement-returns-in_err-braced-in-Keyword-Repeat-clause-reads
statement-returns-in_err-braced-in-Keyword-Repeat-clause-reads t c =
    let ts = c.args.tokens.now.rest.now in
    let us = take (length ts - 1) (drop 1 ts) in
    let is = c.in-Keyword-Repeat.is ∙ ap Keyword (rw c.in-Keyword-Repeat.is at c.in-Keyword-Repeat.field-0-is) in
    let begins = front (Keyword Repeat) (Keyword Let) ts c.in-len1-up.len_at_least is in
    let vs = c.number.new.self.rest.now in
    part-failed Block (Option Statement) (Vec Stmt Global) (Option Stmt) (λ v. block_of v.items) (option_map statement_of) (λ fuel. braced_by (read_block fuel))
    (λ fuel. statement_by (read fuel 0) (read_block fuel)) vs c.args.tokens.now.rest.now c.braced.new.tokens.rest.now c.in_err-braced-in-Keyword-Repeat.field-0.0
    c.from_residual-in_err-braced-in-Keyword-Repeat.result c.from_residual-in_err-braced-in-Keyword-Repeat.ensures
    (λ bad r. repeat-block ts us vs _ _ begins c.in_ok-rounds-in-Keyword-Repeat.ensures r) c.in_err-braced-in-Keyword-Repeat.ensures.reads

pub statement-returns-in_err-value-in-Keyword-Out-clause-reads : goal.statement-returns-in_err-value-in-Keyword-Out-clause-reads
statement-returns-in_err-value-in-Keyword-Out-clause-reads t c =
    let ts = c.args.tokens.now.rest.now in
    let us = take (length ts - 1) (drop 1 ts) in
    let is = c.in-Keyword-Out.is ∙ ap Keyword (rw c.in-Keyword-Out.is at c.in-Keyword-Out.field-0-is) in
    let begins = front (Keyword Out) (Keyword Let) ts c.in-len1-up.len_at_least is in
    let vs = c.index.new.self.rest.now in
    part-failed Term (Option Statement) Expr (Option Stmt) (term_of) (option_map statement_of) (λ fuel. valued_by (read fuel 0))
    (λ fuel. statement_by (read fuel 0) (read_block fuel)) vs c.args.tokens.now.rest.now c.value-in-Keyword-Out.new.tokens.rest.now c.in_err-value-in-Keyword-Out.field-0.0
    c.from_residual-in_err-value-in-Keyword-Out.result c.from_residual-in_err-value-in-Keyword-Out.ensures
    (λ bad r. out-value ts us vs _ _ begins c.in_ok-word-in-Keyword-Out.ensures r) c.in_err-value-in-Keyword-Out.ensures.reads

pub block-returns-in_err-push-clause-reads : goal.block-returns-in_err-push-clause-reads
block-returns-in_err-push-clause-reads t c =
    out-of-memory Block (Vec Stmt Global) (λ v. block_of v.items) (λ fuel. read_block fuel) c.args.tokens.now.rest.now
    c.statement.new.tokens.rest.now c.from_residual-in_err-push.result c.from_residual-in_err-push.ensures

pub braced-returns-in_err-sign-clause-reads : goal.braced-returns-in_err-sign-clause-reads
braced-returns-in_err-sign-clause-reads t c =
    let ts = c.args.tokens.now.rest.now in
    token-failed (Unit {0}) Block (Unit {0}) (Vec Stmt Global) (λ _. tt) (λ v. block_of v.items) (read_sign OpenBrace ts)
    (λ fuel. braced_by (read_block fuel)) c.args.tokens.now.rest.now c.sign.new.self.rest.now c.in_err-sign.field-0.0
    c.from_residual.result c.from_residual.ensures
    (λ r. braced-open ts _ r) c.in_err-sign.ensures

pub braced-returns-in_err-inner-clause-reads : goal.braced-returns-in_err-inner-clause-reads
braced-returns-in_err-inner-clause-reads t c =
    let ts = c.args.tokens.now.rest.now in
    let us = c.sign.new.self.rest.now in
    part-failed Block Block (Vec Stmt Global) (Vec Stmt Global) (λ v. block_of v.items) (λ v. block_of v.items) (λ fuel. read_block fuel)
    (λ fuel. braced_by (read_block fuel)) us c.args.tokens.now.rest.now c.block.new.tokens.rest.now c.in_err-inner.field-0.0
    c.from_residual-in_err-inner.result c.from_residual-in_err-inner.ensures
    (λ bad r. braced-rest ts us (fault bad) c.in_ok-sign.ensures (closed-inner Block CloseBrace (λ fuel. read_block fuel) us bad r)) c.in_err-inner.ensures.reads

pub braced-returns-in_err-sign-2-clause-reads : goal.braced-returns-in_err-sign-2-clause-reads
braced-returns-in_err-sign-2-clause-reads t c =
    let ts = c.args.tokens.now.rest.now in
    let us = c.sign.new.self.rest.now in
    let vs = c.block.new.tokens.rest.now in
    token-failed (Unit {0}) Block (Unit {0}) (Vec Stmt Global) (λ _. tt) (λ v. block_of v.items) (read_sign CloseBrace vs)
    (λ fuel. braced_by (read_block fuel)) c.args.tokens.now.rest.now c.sign-2.new.self.rest.now c.in_err-sign-2.field-0.0
    c.from_residual-in_err-sign-2.result c.from_residual-in_err-sign-2.ensures
    (λ r. braced-rest ts us _ c.in_ok-sign.ensures
    (closed-sign Block CloseBrace (λ fuel. read_block fuel) us vs (block_of c.in_ok-inner.inner.items) _ c.in_ok-inner.ensures.reads r)) c.in_err-sign-2.ensures

pub braced-returns-clause-reads : goal.braced-returns-clause-reads
braced-returns-clause-reads t c =
    let ts = c.args.tokens.now.rest.now in
    let us = c.sign.new.self.rest.now in
    let vs = c.block.new.tokens.rest.now in
    braced-rest ts us _ c.in_ok-sign.ensures
    (closed-sign Block CloseBrace (λ fuel. read_block fuel) us vs (block_of c.in_ok-inner.inner.items) _ c.in_ok-inner.ensures.reads c.in_ok-sign-2.ensures)

pub branches-returns-in_err-test-clause-reads : goal.branches-returns-in_err-test-clause-reads
branches-returns-in_err-test-clause-reads t c =
    let ts = c.args.tokens.now.rest.now in
    part-failed Term Statement Expr Stmt (term_of) (statement_of) (λ fuel. read fuel 0)
    (λ fuel. if_by (read fuel 0) (read_block fuel)) ts c.args.tokens.now.rest.now c.expr.new.tokens.rest.now c.in_err-test.field-0.0
    c.from_residual.result c.from_residual.ensures
    (λ bad r. if-test ts bad r) c.in_err-test.ensures.reads

pub second_branch-returns-in_err-second-clause-reads : goal.second_branch-returns-in_err-second-clause-reads
second_branch-returns-in_err-second-clause-reads t c =
    let ts = c.args.tokens.now.rest.now in
    let us = c.otherwise.new.self.rest.now in
    part-failed Block Statement (Vec Stmt Global) Stmt (λ v. block_of v.items) (statement_of) (λ fuel. braced_by (read_block fuel))
    (λ fuel. else_by (read_block fuel) (term_of c.args.test) (block_of c.args.first.items)) us c.args.tokens.now.rest.now c.braced.new.tokens.rest.now c.in_err-second.field-0.0
    c.from_residual.result c.from_residual.ensures
    (λ bad r. else-fault (term_of c.args.test) (block_of c.args.first.items) ts us bad c.if-not-otherwise.ensures r) c.in_err-second.ensures.reads

pub second_branch-returns-then-not-otherwise-clause-reads : goal.second_branch-returns-then-not-otherwise-clause-reads
second_branch-returns-then-not-otherwise-clause-reads t c =
    let none = c.if-not-otherwise.ensures in
    rw (of-if c.args.test c.args.first)
    (else-none (term_of c.args.test) (block_of c.args.first.items) c.args.tokens.now.rest.now c.otherwise.new.self.rest.now none.0 none.1)

pub statement-returns-in_default-clause-reads : goal.statement-returns-in_default-clause-reads
statement-returns-in_default-clause-reads t c =
    statement-none c.args.tokens.now.rest.now (none-left _ c.in_default.len_below)

pub statement-returns-in_err-name-in-Keyword-Let-clause-reads : goal.statement-returns-in_err-name-in-Keyword-Let-clause-reads
statement-returns-in_err-name-in-Keyword-Let-clause-reads t c =
    let ts = c.args.tokens.now.rest.now in
    let us = take (length ts - 1) (drop 1 ts) in
    let is = c.in-Keyword-Let.is ∙ ap Keyword (rw c.in-Keyword-Let.is at c.in-Keyword-Let.field-0-is) in
    let begins = front (Keyword Let) (Keyword Let) ts c.in-len1-up.len_at_least is in
    token-failed ℕ (Option Statement) ℕ (Option Stmt) (λ n. n) (option_map statement_of) (read_name us)
    (λ fuel. statement_by (read fuel 0) (read_block fuel)) c.args.tokens.now.rest.now c.name.new.self.rest.now c.in_err-name-in-Keyword-Let.field-0.0
    c.from_residual.result c.from_residual.ensures
    (λ r. let-name ts us _ begins r) c.in_err-name-in-Keyword-Let.ensures

pub statement-returns-in_ok-value-in-Keyword-Let-clause-reads : goal.statement-returns-in_ok-value-in-Keyword-Let-clause-reads
statement-returns-in_ok-value-in-Keyword-Let-clause-reads t c =
    let ts = c.args.tokens.now.rest.now in
    let us = take (length ts - 1) (drop 1 ts) in
    let is = c.in-Keyword-Let.is ∙ ap Keyword (rw c.in-Keyword-Let.is at c.in-Keyword-Let.field-0-is) in
    let begins = front (Keyword Let) (Keyword Let) ts c.in-len1-up.len_at_least is in
    let vs = c.name.new.self.rest.now in
    rw (of-let c.in_ok-value-in-Keyword-Let.field-0) (let-value ts us vs _ _ begins c.in_ok-name-in-Keyword-Let.ensures c.in_ok-value-in-Keyword-Let.ensures.reads)

pub statement-returns-in_err-word-in-Keyword-Out-clause-reads : goal.statement-returns-in_err-word-in-Keyword-Out-clause-reads
statement-returns-in_err-word-in-Keyword-Out-clause-reads t c =
    let ts = c.args.tokens.now.rest.now in
    let us = take (length ts - 1) (drop 1 ts) in
    let is = c.in-Keyword-Out.is ∙ ap Keyword (rw c.in-Keyword-Out.is at c.in-Keyword-Out.field-0-is) in
    let begins = front (Keyword Out) (Keyword Let) ts c.in-len1-up.len_at_least is in
    token-failed ℕ (Option Statement) ℕ (Option Stmt) (λ n. n) (option_map statement_of) (read_index us)
    (λ fuel. statement_by (read fuel 0) (read_block fuel)) c.args.tokens.now.rest.now c.index.new.self.rest.now c.in_err-word-in-Keyword-Out.field-0.0
    c.from_residual-in_err-word-in-Keyword-Out.result c.from_residual-in_err-word-in-Keyword-Out.ensures
    (λ r. out-word ts us _ begins r) c.in_err-word-in-Keyword-Out.ensures

pub statement-returns-in_ok-value-in-Keyword-Out-clause-reads : goal.statement-returns-in_ok-value-in-Keyword-Out-clause-reads
statement-returns-in_ok-value-in-Keyword-Out-clause-reads t c =
    let ts = c.args.tokens.now.rest.now in
    let us = take (length ts - 1) (drop 1 ts) in
    let is = c.in-Keyword-Out.is ∙ ap Keyword (rw c.in-Keyword-Out.is at c.in-Keyword-Out.field-0-is) in
    let begins = front (Keyword Out) (Keyword Let) ts c.in-len1-up.len_at_least is in
    let vs = c.index.new.self.rest.now in
    rw (of-output c.in_ok-word-in-Keyword-Out.word c.in_ok-value-in-Keyword-Out.field-0)
    (out-value ts us vs _ _ begins c.in_ok-word-in-Keyword-Out.ensures c.in_ok-value-in-Keyword-Out.ensures.reads)

pub statement-returns-in_err-rounds-in-Keyword-Repeat-clause-reads : goal.statement-returns-in_err-rounds-in-Keyword-Repeat-clause-reads
statement-returns-in_err-rounds-in-Keyword-Repeat-clause-reads t c =
    let ts = c.args.tokens.now.rest.now in
    let us = take (length ts - 1) (drop 1 ts) in
    let is = c.in-Keyword-Repeat.is ∙ ap Keyword (rw c.in-Keyword-Repeat.is at c.in-Keyword-Repeat.field-0-is) in
    let begins = front (Keyword Repeat) (Keyword Let) ts c.in-len1-up.len_at_least is in
    token-failed ℕ (Option Statement) ℕ (Option Stmt) (λ n. n) (option_map statement_of) (read_number us)
    (λ fuel. statement_by (read fuel 0) (read_block fuel)) c.args.tokens.now.rest.now c.number.new.self.rest.now c.in_err-rounds-in-Keyword-Repeat.field-0.0
    c.from_residual-in_err-rounds-in-Keyword-Repeat.result c.from_residual-in_err-rounds-in-Keyword-Repeat.ensures
    (λ r. repeat-number ts us _ begins r) c.in_err-rounds-in-Keyword-Repeat.ensures

pub statement-returns-in_ok-braced-in-Keyword-Repeat-clause-reads : goal.statement-returns-in_ok-braced-in-Keyword-Repeat-clause-reads
statement-returns-in_ok-braced-in-Keyword-Repeat-clause-reads t c =
    let ts = c.args.tokens.now.rest.now in
    let us = take (length ts - 1) (drop 1 ts) in
    let is = c.in-Keyword-Repeat.is ∙ ap Keyword (rw c.in-Keyword-Repeat.is at c.in-Keyword-Repeat.field-0-is) in
    let begins = front (Keyword Repeat) (Keyword Let) ts c.in-len1-up.len_at_least is in
    let vs = c.number.new.self.rest.now in
    rw (of-repeat c.in_ok-rounds-in-Keyword-Repeat.rounds c.in_ok-braced-in-Keyword-Repeat.field-0)
    (repeat-block ts us vs _ _ begins c.in_ok-rounds-in-Keyword-Repeat.ensures c.in_ok-braced-in-Keyword-Repeat.ensures.reads)

pub statement-returns-in_ok-value-in-Name-clause-reads : goal.statement-returns-in_ok-value-in-Name-clause-reads
statement-returns-in_ok-value-in-Name-clause-reads t c =
    let ts = c.args.tokens.now.rest.now in
    let us = take (length ts - 1) (drop 1 ts) in
    let begins = front (Name c.in-Name.local) (Keyword Let) ts c.in-len1-up.len_at_least c.in-Name.is in
    rw (of-set c.in-Name.local c.in_ok-value-in-Name.field-0)
    (set-value c.in-Name.local ts us _ begins c.in_ok-value-in-Name.ensures.reads)

pub braced-returns-clause-goes_on : goal.braced-returns-clause-goes_on
braced-returns-clause-goes_on t c =
    let ts = c.args.tokens.now.rest.now in
    let us = c.sign.new.self.rest.now in
    let vs = c.block.new.tokens.rest.now in
    omega (arith, behind-sign OpenBrace ts us c.in_ok-sign.ensures, c.in_ok-inner.ensures.goes_on, behind-sign CloseBrace vs c.sign-2.new.self.rest.now c.in_ok-sign-2.ensures)

pub statement-returns-in_ok-value-in-Keyword-Let-clause-goes_on : goal.statement-returns-in_ok-value-in-Keyword-Let-clause-goes_on
statement-returns-in_ok-value-in-Keyword-Let-clause-goes_on t c =
    let ts = c.args.tokens.now.rest.now in
    let us = take (length ts - 1) (drop 1 ts) in
    omega (arith, behind ts c.in-len1-up.len_at_least, behind-name us c.name.new.self.rest.now _ c.in_ok-name-in-Keyword-Let.ensures, c.in_ok-value-in-Keyword-Let.ensures.goes_on)

pub statement-returns-in_ok-value-in-Keyword-Out-clause-goes_on : goal.statement-returns-in_ok-value-in-Keyword-Out-clause-goes_on
statement-returns-in_ok-value-in-Keyword-Out-clause-goes_on t c =
    let ts = c.args.tokens.now.rest.now in
    let us = take (length ts - 1) (drop 1 ts) in
    omega (arith, behind ts c.in-len1-up.len_at_least, behind-index us c.index.new.self.rest.now _ c.in_ok-word-in-Keyword-Out.ensures, c.in_ok-value-in-Keyword-Out.ensures.goes_on)

pub statement-returns-in_ok-braced-in-Keyword-Repeat-clause-goes_on : goal.statement-returns-in_ok-braced-in-Keyword-Repeat-clause-goes_on
statement-returns-in_ok-braced-in-Keyword-Repeat-clause-goes_on t c =
    let ts = c.args.tokens.now.rest.now in
    let us = take (length ts - 1) (drop 1 ts) in
    omega (arith, behind ts c.in-len1-up.len_at_least, behind-number us c.number.new.self.rest.now _ c.in_ok-rounds-in-Keyword-Repeat.ensures, c.in_ok-braced-in-Keyword-Repeat.ensures.goes_on)

pub statement-returns-in_ok-branches-in-Keyword-If-clause-goes_on : goal.statement-returns-in_ok-branches-in-Keyword-If-clause-goes_on
statement-returns-in_ok-branches-in-Keyword-If-clause-goes_on t c =
    let ts = c.args.tokens.now.rest.now in
    omega (arith, behind ts c.in-len1-up.len_at_least, c.in_ok-branches-in-Keyword-If.ensures.goes_on)

pub statement-returns-in_ok-value-in-Name-clause-goes_on : goal.statement-returns-in_ok-value-in-Name-clause-goes_on
statement-returns-in_ok-value-in-Name-clause-goes_on t c =
    let ts = c.args.tokens.now.rest.now in
    omega (arith, behind ts c.in-len1-up.len_at_least, c.in_ok-value-in-Name.ensures.goes_on)

pub braced-block-requires : goal.braced-block-requires
braced-block-requires t c =
    let ts = c.args.tokens.now.rest.now in
    (omega (arith, behind-sign OpenBrace ts c.sign.new.self.rest.now c.in_ok-sign.ensures), tt)

pub branches-braced-requires : goal.branches-braced-requires
branches-braced-requires t c =
    (omega (arith, c.in_ok-test.ensures.goes_on), tt)

pub branches-second_branch-requires : goal.branches-second_branch-requires
branches-second_branch-requires t c =
    (omega (arith, c.in_ok-test.ensures.goes_on, c.in_ok-first.ensures.goes_on), tt)

pub second_branch-braced-requires : goal.second_branch-braced-requires
second_branch-braced-requires t c =
    (omega (arith, ap length c.if-not-otherwise.ensures), tt)

pub second_branch-returns-clause-goes_on : goal.second_branch-returns-clause-goes_on
second_branch-returns-clause-goes_on t c =
    omega (arith, ap length c.if-not-otherwise.ensures, c.in_ok-second.ensures.goes_on)

pub statement-branches-requires : goal.statement-branches-requires
statement-branches-requires t c =
    let ts = c.args.tokens.now.rest.now in
    (omega (arith, behind ts c.in-len1-up.len_at_least), tt)

pub statement-braced-requires : goal.statement-braced-requires
statement-braced-requires t c =
    let ts = c.args.tokens.now.rest.now in
    let us = take (length ts - 1) (drop 1 ts) in
    (omega (arith, behind ts c.in-len1-up.len_at_least, behind-number us c.number.new.self.rest.now _ c.in_ok-rounds-in-Keyword-Repeat.ensures), tt)

pub block-loop-statements-smaller : goal.block-loop-statements-smaller
block-loop-statements-smaller t c =
    rw c.in-Some.is at c.in_ok-next.ensures.goes_on

pub block-statement-requires : goal.block-statement-requires
block-statement-requires t c =
    (omega (arith, c.loop-statements.invariant.shorter), tt)
