use Rattle.std.proofs.Common.{arith, ℕ, ◌+◌, ◌-◌, ap, ◌∙◌, length, take, drop}
use Rattle.sift_lang.specs.declared.tree.Expr.{Expr}
use Rattle.sift_lang.specs.declared.tree.Op.TheVariants.{Sub}
use Rattle.sift_lang.specs.Tree.{Term, term_of}
use Rattle.sift_parse.specs.declared.token.Sign.TheVariants.{OpenParen, CloseParen, Comma}
use Rattle.sift_parse.specs.declared.token.Token.TheVariants.{Keyword, Name, Number, Operator, Sign}
use Rattle.sift_parse.specs.declared.token.Keyword.TheVariants.{Let, Mid, Sense, Now, Last}
use Rattle.sift_parse.specs.Grammar.{prim_level}
use Rattle.sift_parse.specs.Reading.{read_sign, read_name, read_word, prim_by, closed_by, middle_by, read, tail}
use Rattle.sift_parse.proofs.Parsing.Chains.{leads-start, leads-more, leads-compared, leads-fault, leads-end, reads-prim, reads-chain, reads-fault}
use Rattle.sift_parse.proofs.Parsing.Exits.{out-of-memory, part-failed, token-failed}
use Rattle.sift_parse.proofs.Parsing.Sequences.{reads-suc, answered, closed-inner, closed-sign, middle-open, middle-first, middle-second, middle-third, middle-found}
use Rattle.sift_parse.proofs.Parsing.Shorter.{behind, behind-sign, behind-name, behind-word}
use Rattle.sift_parse.proofs.Parsing.Starts.{none-left, front, prim-none, number-here, local-here, minus-prim, paren-rest, mid-rest, sense-name, now-word, last-word}
use Rattle.sift_parse.proofs.parser.+exprs.Goals as goal

pub chain-loop-op-init : goal.chain-loop-op-init
chain-loop-op-init t c = record { shorter = omega arith; leads = leads-start _ _ _ }

pub chain-returns-in_err-right-clause-reads : goal.chain-returns-in_err-right-clause-reads
chain-returns-in_err-right-clause-reads t c =
    let n = c.args.n in
    let us = c.operator.new.self.rest.now in
    let ts = c.args.tokens.now.rest.now in
    part-failed Term Term Expr Expr term_of term_of (λ fuel. read fuel (n + 1)) (λ fuel. tail fuel n (term_of c.args.first))
    us c.args.tokens.now.rest.now c.level.new.tokens.rest.now c.in_err-right.field-0.0 c.from_residual-in_err-right.result c.from_residual-in_err-right.ensures
    (λ bad r. leads-fault n c.in-Some.op (term_of c.args.first) (term_of c.loop-op.left) ts us bad c.in-Some.ensures.1
    (rw c.in-Some.ensures.0 at c.loop-op.invariant.leads) (reads-suc n us _ r)) c.in_err-right.ensures.reads

pub chain-returns-then-n-eq-COMPARISON_LEVEL-clause-reads : goal.chain-returns-then-n-eq-COMPARISON_LEVEL-clause-reads
chain-returns-then-n-eq-COMPARISON_LEVEL-clause-reads t c =
    let n = c.args.n in
    let us = c.operator.new.self.rest.now in
    rw (c.in_ok-before.ensures.ok, c.in_ok-new.ensures.ok)
    (leads-compared n c.in-Some.op (term_of c.args.first) (term_of c.loop-op.left)
    (term_of c.in_ok-right.right) c.args.tokens.now.rest.now us c.level.new.tokens.rest.now c.if-n-eq-COMPARISON_LEVEL.true
    c.in-Some.ensures.1 (rw c.in-Some.ensures.0 at c.loop-op.invariant.leads) (reads-suc n us _ c.in_ok-right.ensures.reads))

pub chain-loop-op-preserved : goal.chain-loop-op-preserved
chain-loop-op-preserved t c =
    let n = c.args.n in
    let us = c.operator.new.self.rest.now in
    let taken = ap length c.in-Some.ensures.0 in
    record {
      shorter = omega (arith, c.in_ok-right.ensures.goes_on);
      leads =
          rw (c.in_ok-before.ensures.ok, c.in_ok-new.ensures.ok)
          (leads-more n c.in-Some.op (term_of c.args.first) (term_of c.loop-op.left)
          (term_of c.in_ok-right.right) c.args.tokens.now.rest.now us c.level.new.tokens.rest.now (omega arith) c.in-Some.ensures.1
          (rw c.in-Some.ensures.0 at c.loop-op.invariant.leads) (reads-suc n us _ c.in_ok-right.ensures.reads));
    }

pub chain-returns-clause-reads : goal.chain-returns-clause-reads
chain-returns-clause-reads t c =
    leads-end c.args.n (term_of c.args.first)
    (term_of c.loop-op.left) c.args.tokens.now.rest.now c.loop-op.tokens.rest.now c.operator.new.self.rest.now c.in_default.ensures.0 c.in_default.ensures.1 c.loop-op.invariant.leads

pub level-returns-then-n-eq-PRIM_LEVEL-clause-reads : goal.level-returns-then-n-eq-PRIM_LEVEL-clause-reads
level-returns-then-n-eq-PRIM_LEVEL-clause-reads t c =
    let ts = c.args.tokens.now.rest.now in
    rw c.if-n-eq-PRIM_LEVEL.true
    (answered (λ fuel. prim_by (read fuel prim_level) (read fuel 0))
    (λ fuel. read fuel prim_level) ts ts c.prim.new.tokens.rest.now c.prim.result (reads-prim ts) c.prim.ensures.reads)

pub level-returns-in_err-first-clause-reads : goal.level-returns-in_err-first-clause-reads
level-returns-in_err-first-clause-reads t c =
    let n = c.args.n in
    let ts = c.args.tokens.now.rest.now in
    part-failed Term Term Expr Expr term_of term_of (λ fuel. read fuel (n + 1)) (λ fuel. read fuel n)
    ts c.args.tokens.now.rest.now c.level.new.tokens.rest.now c.in_err-first.field-0.0 c.from_residual.result c.from_residual.ensures
    (λ bad r. reads-fault n ts bad (omega arith) (reads-suc n ts _ r)) c.in_err-first.ensures.reads

pub level-returns-clause-reads : goal.level-returns-clause-reads
level-returns-clause-reads t c =
    let n = c.args.n in
    let ts = c.args.tokens.now.rest.now in
    let mid = c.level.new.tokens.rest.now in
    answered (λ fuel. tail fuel n (term_of c.in_ok-first.first)) (λ fuel. read fuel n) mid ts c.chain.new.tokens.rest.now c.chain.result
    (λ o r. reads-chain n ts mid (term_of c.in_ok-first.first) o (omega arith)
    (reads-suc n ts _ c.in_ok-first.ensures.reads) r) c.chain.ensures.reads

pub middle-returns-in_err-closed-2-clause-reads : goal.middle-returns-in_err-closed-2-clause-reads
middle-returns-in_err-closed-2-clause-reads t c =
    let ts = c.args.tokens.now.rest.now in
    let us = c.sign.new.self.rest.now in
    let vs = c.closed.new.tokens.rest.now in
    part-failed Term Term Expr Expr term_of term_of (λ fuel. closed_by Comma (read fuel 0)) (λ fuel. middle_by (read fuel 0))
    vs c.args.tokens.now.rest.now c.closed-2.new.tokens.rest.now c.in_err-closed-2.field-0.0 c.from_residual-in_err-closed-2.result c.from_residual-in_err-closed-2.ensures
    (λ bad r. middle-second ts us vs bad (term_of c.in_ok-closed.field-0) c.in_ok-sign.ensures c.in_ok-closed.ensures.reads r) c.in_err-closed-2.ensures.reads

pub middle-returns-in_err-closed-3-clause-reads : goal.middle-returns-in_err-closed-3-clause-reads
middle-returns-in_err-closed-3-clause-reads t c =
    let ts = c.args.tokens.now.rest.now in
    let us = c.sign.new.self.rest.now in
    let vs = c.closed.new.tokens.rest.now in
    let ws = c.closed-2.new.tokens.rest.now in
    part-failed Term Term Expr Expr term_of term_of (λ fuel. closed_by CloseParen (read fuel 0)) (λ fuel. middle_by (read fuel 0))
    ws c.args.tokens.now.rest.now c.closed-3.new.tokens.rest.now c.in_err-closed-3.field-0.0 c.from_residual-in_err-closed-3.result c.from_residual-in_err-closed-3.ensures
    (λ bad r. middle-third ts us vs ws bad (term_of c.in_ok-closed.field-0) (term_of c.in_ok-closed-2.field-0)
    c.in_ok-sign.ensures c.in_ok-closed.ensures.reads c.in_ok-closed-2.ensures.reads r) c.in_err-closed-3.ensures.reads

pub middle-returns-clause-reads : goal.middle-returns-clause-reads
middle-returns-clause-reads t c =
    let ts = c.args.tokens.now.rest.now in
    let us = c.sign.new.self.rest.now in
    let vs = c.closed.new.tokens.rest.now in
    let ws = c.closed-2.new.tokens.rest.now in
    rw (c.in_ok-first.ensures.ok, c.in_ok-second.ensures.ok, c.in_ok-third.ensures.ok)
    (middle-found ts us vs ws c.closed-3.new.tokens.rest.now (term_of c.in_ok-closed.field-0) (term_of c.in_ok-closed-2.field-0)
    (term_of c.in_ok-closed-3.field-0) c.in_ok-sign.ensures c.in_ok-closed.ensures.reads c.in_ok-closed-2.ensures.reads c.in_ok-closed-3.ensures.reads)

pub middle-returns-clause-goes_on : goal.middle-returns-clause-goes_on
middle-returns-clause-goes_on t c =
    let ts = c.args.tokens.now.rest.now in
    omega (
      arith,
      behind-sign OpenParen ts c.sign.new.self.rest.now c.in_ok-sign.ensures,
      c.in_ok-closed.ensures.goes_on,
      c.in_ok-closed-2.ensures.goes_on,
      c.in_ok-closed-3.ensures.goes_on,
    )

pub chain-returns-in_err-before-clause-reads : goal.chain-returns-in_err-before-clause-reads
chain-returns-in_err-before-clause-reads t c =
    out-of-memory Term Expr term_of (λ fuel. tail fuel c.args.n (term_of c.args.first))
    c.args.tokens.now.rest.now c.operator.new.self.rest.now c.from_residual.result c.from_residual.ensures

pub chain-returns-in_err-new-clause-reads : goal.chain-returns-in_err-new-clause-reads
chain-returns-in_err-new-clause-reads t c =
    out-of-memory Term Expr term_of (λ fuel. tail fuel c.args.n (term_of c.args.first))
    c.args.tokens.now.rest.now c.level.new.tokens.rest.now c.from_residual-in_err-new.result c.from_residual-in_err-new.ensures

pub prim-returns-in_err-new-in-Operator-Sub-clause-reads : goal.prim-returns-in_err-new-in-Operator-Sub-clause-reads
prim-returns-in_err-new-in-Operator-Sub-clause-reads t c =
    out-of-memory Term Expr term_of (λ fuel. prim_by (read fuel prim_level) (read fuel 0))
    c.args.tokens.now.rest.now c.level.new.tokens.rest.now c.from_residual-in_err-new-in-Operator-Sub.result c.from_residual-in_err-new-in-Operator-Sub.ensures

pub closed-returns-in_err-inner-clause-reads : goal.closed-returns-in_err-inner-clause-reads
closed-returns-in_err-inner-clause-reads t c =
    let ts = c.args.tokens.now.rest.now in
    part-failed Term Term Expr Expr term_of term_of (λ fuel. read fuel 0) (λ fuel. closed_by c.args.sign (read fuel 0))
    ts c.args.tokens.now.rest.now c.level.new.tokens.rest.now c.in_err-inner.field-0.0 c.from_residual.result c.from_residual.ensures
    (λ bad r. closed-inner Term c.args.sign (λ fuel. read fuel 0) ts bad r) c.in_err-inner.ensures.reads

pub closed-returns-in_err-sign-clause-reads : goal.closed-returns-in_err-sign-clause-reads
closed-returns-in_err-sign-clause-reads t c =
    let us = c.level.new.tokens.rest.now in
    token-failed (Unit {0}) Term (Unit {0}) Expr (λ _. tt) term_of (read_sign c.args.sign us) (λ fuel. closed_by c.args.sign (read fuel 0))
    c.args.tokens.now.rest.now c.sign.new.self.rest.now c.in_err-sign.field-0.0 c.from_residual-in_err-sign.result c.from_residual-in_err-sign.ensures
    (λ r. closed-sign Term c.args.sign (λ fuel. read fuel 0) c.args.tokens.now.rest.now us (term_of c.in_ok-inner.inner) _ c.in_ok-inner.ensures.reads r) c.in_err-sign.ensures

pub closed-returns-clause-reads : goal.closed-returns-clause-reads
closed-returns-clause-reads t c =
    closed-sign Term c.args.sign (λ fuel. read fuel 0) c.args.tokens.now.rest.now c.level.new.tokens.rest.now (term_of c.in_ok-inner.inner) _
    c.in_ok-inner.ensures.reads c.in_ok-sign.ensures

pub middle-returns-in_err-sign-clause-reads : goal.middle-returns-in_err-sign-clause-reads
middle-returns-in_err-sign-clause-reads t c =
    let ts = c.args.tokens.now.rest.now in
    token-failed (Unit {0}) Term (Unit {0}) Expr (λ _. tt) term_of (read_sign OpenParen ts) (λ fuel. middle_by (read fuel 0))
    c.args.tokens.now.rest.now c.sign.new.self.rest.now c.in_err-sign.field-0.0 c.from_residual.result c.from_residual.ensures
    (λ r. middle-open ts _ r) c.in_err-sign.ensures

pub middle-returns-in_err-closed-clause-reads : goal.middle-returns-in_err-closed-clause-reads
middle-returns-in_err-closed-clause-reads t c =
    let ts = c.args.tokens.now.rest.now in
    let us = c.sign.new.self.rest.now in
    part-failed Term Term Expr Expr term_of term_of (λ fuel. closed_by Comma (read fuel 0)) (λ fuel. middle_by (read fuel 0))
    us c.args.tokens.now.rest.now c.closed.new.tokens.rest.now c.in_err-closed.field-0.0 c.from_residual-in_err-closed.result c.from_residual-in_err-closed.ensures
    (λ bad r. middle-first ts us bad c.in_ok-sign.ensures r) c.in_err-closed.ensures.reads

pub prim-returns-in_default-clause-reads : goal.prim-returns-in_default-clause-reads
prim-returns-in_default-clause-reads t c =
    prim-none c.args.tokens.now.rest.now (none-left _ c.in_default.len_below)

pub prim-returns-in_err-part-in-Operator-Sub-clause-reads : goal.prim-returns-in_err-part-in-Operator-Sub-clause-reads
prim-returns-in_err-part-in-Operator-Sub-clause-reads t c =
    let ts = c.args.tokens.now.rest.now in
    let us = take (length ts - 1) (drop 1 ts) in
    let is = c.in-Operator-Sub.is ∙ ap Operator (rw c.in-Operator-Sub.is at c.in-Operator-Sub.field-0-is) in
    let begins = front (Operator Sub) (Keyword Let) ts c.in-len1-up.len_at_least is in
    part-failed Term Term Expr Expr term_of term_of (λ fuel. read fuel prim_level) (λ fuel. prim_by (read fuel prim_level) (read fuel 0))
    us c.args.tokens.now.rest.now c.level.new.tokens.rest.now c.in_err-part-in-Operator-Sub.field-0.0 c.from_residual.result c.from_residual.ensures
    (λ bad r. minus-prim ts us _ begins r) c.in_err-part-in-Operator-Sub.ensures.reads

pub prim-returns-in_ok-new-in-Operator-Sub-clause-reads : goal.prim-returns-in_ok-new-in-Operator-Sub-clause-reads
prim-returns-in_ok-new-in-Operator-Sub-clause-reads t c =
    let ts = c.args.tokens.now.rest.now in
    let us = take (length ts - 1) (drop 1 ts) in
    let is = c.in-Operator-Sub.is ∙ ap Operator (rw c.in-Operator-Sub.is at c.in-Operator-Sub.field-0-is) in
    let begins = front (Operator Sub) (Keyword Let) ts c.in-len1-up.len_at_least is in
    rw c.in_ok-new-in-Operator-Sub.ensures.ok (minus-prim ts us _ begins c.in_ok-part-in-Operator-Sub.ensures.reads)

pub prim-returns-in-Number-clause-reads : goal.prim-returns-in-Number-clause-reads
prim-returns-in-Number-clause-reads t c =
    let ts = c.args.tokens.now.rest.now in
    let us = take (length ts - 1) (drop 1 ts) in
    rw c.of.ensures (number-here c.in-Number.number ts us (front (Number c.in-Number.number) (Keyword Let) ts c.in-len1-up.len_at_least c.in-Number.is))

pub prim-returns-in-Name-clause-reads : goal.prim-returns-in-Name-clause-reads
prim-returns-in-Name-clause-reads t c =
    let ts = c.args.tokens.now.rest.now in
    let us = take (length ts - 1) (drop 1 ts) in
    local-here c.in-Name.local ts us (front (Name c.in-Name.local) (Keyword Let) ts c.in-len1-up.len_at_least c.in-Name.is)

pub prim-returns-in-Sign-OpenParen-clause-reads : goal.prim-returns-in-Sign-OpenParen-clause-reads
prim-returns-in-Sign-OpenParen-clause-reads t c =
    let ts = c.args.tokens.now.rest.now in
    let us = take (length ts - 1) (drop 1 ts) in
    let is = c.in-Sign-OpenParen.is ∙ ap Sign (rw c.in-Sign-OpenParen.is at c.in-Sign-OpenParen.field-0-is) in
    let begins = front (Sign OpenParen) (Keyword Let) ts c.in-len1-up.len_at_least is in
    answered (λ fuel. closed_by CloseParen (read fuel 0)) (λ fuel. prim_by (read fuel prim_level) (read fuel 0)) us ts c.closed.new.tokens.rest.now c.closed.result
    (λ o r. paren-rest ts us o begins r) c.closed.ensures.reads

pub prim-returns-in-Keyword-Mid-clause-reads : goal.prim-returns-in-Keyword-Mid-clause-reads
prim-returns-in-Keyword-Mid-clause-reads t c =
    let ts = c.args.tokens.now.rest.now in
    let us = take (length ts - 1) (drop 1 ts) in
    let is = c.in-Keyword-Mid.is ∙ ap Keyword (rw c.in-Keyword-Mid.is at c.in-Keyword-Mid.field-0-is) in
    let begins = front (Keyword Mid) (Keyword Let) ts c.in-len1-up.len_at_least is in
    answered (λ fuel. middle_by (read fuel 0)) (λ fuel. prim_by (read fuel prim_level) (read fuel 0)) us ts c.middle.new.tokens.rest.now c.middle.result
    (λ o r. mid-rest ts us o begins r) c.middle.ensures.reads

pub prim-returns-in_err-name-in-Keyword-Sense-clause-reads : goal.prim-returns-in_err-name-in-Keyword-Sense-clause-reads
prim-returns-in_err-name-in-Keyword-Sense-clause-reads t c =
    let ts = c.args.tokens.now.rest.now in
    let us = take (length ts - 1) (drop 1 ts) in
    let is = c.in-Keyword-Sense.is ∙ ap Keyword (rw c.in-Keyword-Sense.is at c.in-Keyword-Sense.field-0-is) in
    let begins = front (Keyword Sense) (Keyword Let) ts c.in-len1-up.len_at_least is in
    token-failed ℕ Term ℕ Expr (λ n. n) term_of (read_name us) (λ fuel. prim_by (read fuel prim_level) (read fuel 0))
    c.args.tokens.now.rest.now c.name.new.self.rest.now c.in_err-name-in-Keyword-Sense.field-0.0
    c.from_residual-in_err-name-in-Keyword-Sense.result c.from_residual-in_err-name-in-Keyword-Sense.ensures
    (λ r. sense-name ts us _ begins r) c.in_err-name-in-Keyword-Sense.ensures

pub prim-returns-in_ok-name-in-Keyword-Sense-clause-reads : goal.prim-returns-in_ok-name-in-Keyword-Sense-clause-reads
prim-returns-in_ok-name-in-Keyword-Sense-clause-reads t c =
    let ts = c.args.tokens.now.rest.now in
    let us = take (length ts - 1) (drop 1 ts) in
    let is = c.in-Keyword-Sense.is ∙ ap Keyword (rw c.in-Keyword-Sense.is at c.in-Keyword-Sense.field-0-is) in
    let begins = front (Keyword Sense) (Keyword Let) ts c.in-len1-up.len_at_least is in
    sense-name ts us _ begins c.in_ok-name-in-Keyword-Sense.ensures

pub prim-returns-in_err-word-in-Keyword-Now-clause-reads : goal.prim-returns-in_err-word-in-Keyword-Now-clause-reads
prim-returns-in_err-word-in-Keyword-Now-clause-reads t c =
    let ts = c.args.tokens.now.rest.now in
    let us = take (length ts - 1) (drop 1 ts) in
    let is = c.in-Keyword-Now.is ∙ ap Keyword (rw c.in-Keyword-Now.is at c.in-Keyword-Now.field-0-is) in
    let begins = front (Keyword Now) (Keyword Let) ts c.in-len1-up.len_at_least is in
    token-failed ℕ Term ℕ Expr (λ n. n) term_of (read_word us) (λ fuel. prim_by (read fuel prim_level) (read fuel 0))
    c.args.tokens.now.rest.now c.word.new.self.rest.now c.in_err-word-in-Keyword-Now.field-0.0 c.from_residual-in_err-word-in-Keyword-Now.result c.from_residual-in_err-word-in-Keyword-Now.ensures
    (λ r. now-word ts us _ begins r) c.in_err-word-in-Keyword-Now.ensures

pub prim-returns-in_ok-word-in-Keyword-Now-clause-reads : goal.prim-returns-in_ok-word-in-Keyword-Now-clause-reads
prim-returns-in_ok-word-in-Keyword-Now-clause-reads t c =
    let ts = c.args.tokens.now.rest.now in
    let us = take (length ts - 1) (drop 1 ts) in
    let is = c.in-Keyword-Now.is ∙ ap Keyword (rw c.in-Keyword-Now.is at c.in-Keyword-Now.field-0-is) in
    let begins = front (Keyword Now) (Keyword Let) ts c.in-len1-up.len_at_least is in
    now-word ts us _ begins c.in_ok-word-in-Keyword-Now.ensures

pub prim-returns-in_err-word-in-Keyword-Last-clause-reads : goal.prim-returns-in_err-word-in-Keyword-Last-clause-reads
prim-returns-in_err-word-in-Keyword-Last-clause-reads t c =
    let ts = c.args.tokens.now.rest.now in
    let us = take (length ts - 1) (drop 1 ts) in
    let is = c.in-Keyword-Last.is ∙ ap Keyword (rw c.in-Keyword-Last.is at c.in-Keyword-Last.field-0-is) in
    let begins = front (Keyword Last) (Keyword Let) ts c.in-len1-up.len_at_least is in
    token-failed ℕ Term ℕ Expr (λ n. n) term_of (read_word us) (λ fuel. prim_by (read fuel prim_level) (read fuel 0))
    c.args.tokens.now.rest.now c.word-in-Keyword-Last.new.self.rest.now c.in_err-word-in-Keyword-Last.field-0.0
    c.from_residual-in_err-word-in-Keyword-Last.result c.from_residual-in_err-word-in-Keyword-Last.ensures
    (λ r. last-word ts us _ begins r) c.in_err-word-in-Keyword-Last.ensures

pub prim-returns-in_ok-word-in-Keyword-Last-clause-reads : goal.prim-returns-in_ok-word-in-Keyword-Last-clause-reads
prim-returns-in_ok-word-in-Keyword-Last-clause-reads t c =
    let ts = c.args.tokens.now.rest.now in
    let us = take (length ts - 1) (drop 1 ts) in
    let is = c.in-Keyword-Last.is ∙ ap Keyword (rw c.in-Keyword-Last.is at c.in-Keyword-Last.field-0-is) in
    let begins = front (Keyword Last) (Keyword Let) ts c.in-len1-up.len_at_least is in
    last-word ts us _ begins c.in_ok-word-in-Keyword-Last.ensures

pub closed-returns-clause-goes_on : goal.closed-returns-clause-goes_on
closed-returns-clause-goes_on t c =
    omega (arith, c.in_ok-inner.ensures.goes_on, behind-sign c.args.sign c.level.new.tokens.rest.now c.sign.new.self.rest.now c.in_ok-sign.ensures)

pub prim-returns-in_ok-new-in-Operator-Sub-clause-goes_on : goal.prim-returns-in_ok-new-in-Operator-Sub-clause-goes_on
prim-returns-in_ok-new-in-Operator-Sub-clause-goes_on t c =
    let ts = c.args.tokens.now.rest.now in
    omega (arith, behind ts c.in-len1-up.len_at_least, c.in_ok-part-in-Operator-Sub.ensures.goes_on)

pub prim-returns-in-Number-clause-goes_on : goal.prim-returns-in-Number-clause-goes_on
prim-returns-in-Number-clause-goes_on t c =
    behind c.args.tokens.now.rest.now c.in-len1-up.len_at_least

pub prim-returns-in-Name-clause-goes_on : goal.prim-returns-in-Name-clause-goes_on
prim-returns-in-Name-clause-goes_on t c =
    behind c.args.tokens.now.rest.now c.in-len1-up.len_at_least

pub prim-returns-in_ok-name-in-Keyword-Sense-clause-goes_on : goal.prim-returns-in_ok-name-in-Keyword-Sense-clause-goes_on
prim-returns-in_ok-name-in-Keyword-Sense-clause-goes_on t c =
    let ts = c.args.tokens.now.rest.now in
    let us = take (length ts - 1) (drop 1 ts) in
    omega (arith, behind ts c.in-len1-up.len_at_least, behind-name us c.name.new.self.rest.now _ c.in_ok-name-in-Keyword-Sense.ensures)

pub prim-returns-in_ok-word-in-Keyword-Now-clause-goes_on : goal.prim-returns-in_ok-word-in-Keyword-Now-clause-goes_on
prim-returns-in_ok-word-in-Keyword-Now-clause-goes_on t c =
    let ts = c.args.tokens.now.rest.now in
    let us = take (length ts - 1) (drop 1 ts) in
    omega (arith, behind ts c.in-len1-up.len_at_least, behind-word us c.word.new.self.rest.now _ c.in_ok-word-in-Keyword-Now.ensures)

pub prim-returns-in_ok-word-in-Keyword-Last-clause-goes_on : goal.prim-returns-in_ok-word-in-Keyword-Last-clause-goes_on
prim-returns-in_ok-word-in-Keyword-Last-clause-goes_on t c =
    let ts = c.args.tokens.now.rest.now in
    let us = take (length ts - 1) (drop 1 ts) in
    omega (arith, behind ts c.in-len1-up.len_at_least, behind-word us c.word-in-Keyword-Last.new.self.rest.now _ c.in_ok-word-in-Keyword-Last.ensures)

pub prim-level-requires : goal.prim-level-requires
prim-level-requires t c =
    let ts = c.args.tokens.now.rest.now in
    (omega (arith, behind ts c.in-len1-up.len_at_least), omega arith)

pub prim-closed-requires : goal.prim-closed-requires
prim-closed-requires t c =
    let ts = c.args.tokens.now.rest.now in
    (omega (arith, behind ts c.in-len1-up.len_at_least), tt)

pub prim-middle-requires : goal.prim-middle-requires
prim-middle-requires t c =
    let ts = c.args.tokens.now.rest.now in
    (omega (arith, behind ts c.in-len1-up.len_at_least), tt)

pub middle-closed-requires : goal.middle-closed-requires
middle-closed-requires t c =
    let ts = c.args.tokens.now.rest.now in
    (omega (arith, behind-sign OpenParen ts c.sign.new.self.rest.now c.in_ok-sign.ensures), tt)

pub middle-closed-requires-2 : goal.middle-closed-requires-2
middle-closed-requires-2 t c =
    let ts = c.args.tokens.now.rest.now in
    (omega (arith, behind-sign OpenParen ts c.sign.new.self.rest.now c.in_ok-sign.ensures, c.in_ok-closed.ensures.goes_on), tt)

pub middle-closed-requires-3 : goal.middle-closed-requires-3
middle-closed-requires-3 t c =
    let ts = c.args.tokens.now.rest.now in
    (omega (arith, behind-sign OpenParen ts c.sign.new.self.rest.now c.in_ok-sign.ensures, c.in_ok-closed.ensures.goes_on, c.in_ok-closed-2.ensures.goes_on), tt)

pub closed-level-requires : goal.closed-level-requires
closed-level-requires t c =
    (omega arith, omega arith)

pub chain-level-requires : goal.chain-level-requires
chain-level-requires t c =
    (omega (arith, ap length c.in-Some.ensures.0), omega arith)

pub chain-loop-op-smaller : goal.chain-loop-op-smaller
chain-loop-op-smaller t c =
    omega (arith, ap length c.in-Some.ensures.0, c.in_ok-right.ensures.goes_on)

pub chain-returns-then-n-eq-COMPARISON_LEVEL-clause-goes_on : goal.chain-returns-then-n-eq-COMPARISON_LEVEL-clause-goes_on
chain-returns-then-n-eq-COMPARISON_LEVEL-clause-goes_on t c =
    omega (arith, ap length c.in-Some.ensures.0, c.in_ok-right.ensures.goes_on)

pub middle-returns-in_err-first-clause-reads : goal.middle-returns-in_err-first-clause-reads
middle-returns-in_err-first-clause-reads t c =
    out-of-memory Term Expr term_of (λ fuel. middle_by (read fuel 0))
    c.args.tokens.now.rest.now c.closed.new.tokens.rest.now c.from_residual-in_err-first.result c.from_residual-in_err-first.ensures

pub middle-returns-in_err-second-clause-reads : goal.middle-returns-in_err-second-clause-reads
middle-returns-in_err-second-clause-reads t c =
    out-of-memory Term Expr term_of (λ fuel. middle_by (read fuel 0))
    c.args.tokens.now.rest.now c.closed-2.new.tokens.rest.now c.from_residual-in_err-second.result c.from_residual-in_err-second.ensures

pub middle-returns-in_err-third-clause-reads : goal.middle-returns-in_err-third-clause-reads
middle-returns-in_err-third-clause-reads t c =
    out-of-memory Term Expr term_of (λ fuel. middle_by (read fuel 0))
    c.args.tokens.now.rest.now c.closed-3.new.tokens.rest.now c.from_residual-in_err-third.result c.from_residual-in_err-third.ensures
