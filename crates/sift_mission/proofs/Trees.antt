-- Trees of tasks may be lent to several threads.
use denote.Param.Send.{IsSync, sendable}
use denote.Param.SendFields.{variants_sync}
use denote.Hole.FixSend.{Syncs, fix_sync}
use Rattle.std.proofs.Crossing.{crosses}
use Rattle.sift_lang.specs.contracts.tree.Expr as Expr
use Rattle.sift_lang.specs.contracts.tree.Expr.TheKnot as expr
use Rattle.sift_lang.specs.declared.tree.Expr.TheBlock.{member-Expr}
use Rattle.sift_lang.specs.contracts.tree.Stmt as Stmt
use Rattle.sift_lang.specs.contracts.tree.Stmt.TheKnot as stmt
use Rattle.sift_lang.specs.declared.tree.Stmt.TheBlock.{member-Stmt}
use Rattle.sift_lang.specs.contracts.tree.Task as Task

expr_step : (i : expr.the_members) → Syncs expr.ring i
expr_step member-Expr = record {
  sync = λ h all. let e = h member-Expr in record {
    shared = (variants_sync (expr.type-Expr e e e e e e) (
      (search (sendable, crosses) depth 40 fits 20000, tt),
      (
        (search (sendable, crosses) depth 40 fits 20000, tt),
        (
          (search (sendable, crosses) depth 40 fits 20000, tt),
          (
            (search (sendable, crosses) depth 40 fits 20000, tt),
            (
              (search (sendable, crosses) depth 40 fits 20000, tt),
              (
                (search (sendable, crosses, all) depth 40 fits 20000, tt),
                (
                  (
                    search (sendable, crosses) depth 40 fits 20000,
                    (
                      search (sendable, crosses, all) depth 40 fits 20000,
                      (search (sendable, crosses, all) depth 40 fits 20000, tt),
                    ),
                  ),
                  (
                    (
                      search (sendable, crosses, all) depth 40 fits 20000,
                      (search (sendable, crosses, all) depth 40 fits 20000, (search (sendable, crosses, all) depth 40 fits 20000, tt)),
                    ),
                    tt,
                  ),
                ),
              ),
            ),
          ),
        ),
      ),
    )).shared;
  };
}

expr_hole : IsSync Expr.the_hole
expr_hole = fix_sync expr.ring expr_step expr.member-Expr

pub expr_sync : IsSync Expr.the_row
expr_sync = search (sendable, crosses, expr_hole) depth 60 fits 20000

stmt_step : (i : stmt.the_members) → Syncs stmt.ring i
stmt_step member-Stmt = record {
  sync = λ h all. let s = h member-Stmt in record {
    shared = (variants_sync (stmt.type-Stmt s s s) (
      (search (sendable, crosses, expr_sync) depth 40 fits 20000, tt),
      (
        (
          search (sendable, crosses) depth 40 fits 20000,
          (search (sendable, crosses, expr_sync) depth 40 fits 20000, tt),
        ),
        (
          (
            search (sendable, crosses) depth 40 fits 20000,
            (search (sendable, crosses, expr_sync) depth 40 fits 20000, tt),
          ),
          (
            (
              search (sendable, crosses, expr_sync) depth 40 fits 20000,
              (
                search (sendable, crosses, all) depth 40 fits 20000,
                (search (sendable, crosses, all) depth 40 fits 20000, tt),
              ),
            ),
            (
              (
                search (sendable, crosses) depth 40 fits 20000,
                (search (sendable, crosses, all) depth 40 fits 20000, tt),
              ),
              tt,
            ),
          ),
        ),
      ),
    )).shared;
  };
}

stmt_hole : IsSync Stmt.the_hole
stmt_hole = fix_sync stmt.ring stmt_step stmt.member-Stmt

pub stmt_sync : IsSync Stmt.the_row
stmt_sync = variants_sync Stmt.enum (
  (search (sendable, crosses, expr_sync) depth 40 fits 20000, tt),
  (
    (
      search (sendable, crosses) depth 40 fits 20000,
      (search (sendable, crosses, expr_sync) depth 40 fits 20000, tt),
    ),
    (
      (
        search (sendable, crosses) depth 40 fits 20000,
        (search (sendable, crosses, expr_sync) depth 40 fits 20000, tt),
      ),
      (
        (
          search (sendable, crosses, expr_sync) depth 40 fits 20000,
          (
            search (sendable, crosses, stmt_hole) depth 40 fits 20000,
            (search (sendable, crosses, stmt_hole) depth 40 fits 20000, tt),
          ),
        ),
        (
          (
            search (sendable, crosses) depth 40 fits 20000,
            (search (sendable, crosses, stmt_hole) depth 40 fits 20000, tt),
          ),
          tt,
        ),
      ),
    ),
  ),
)

-- a task may be lent to several threads
pub task_sync : IsSync Task.the_row
task_sync = search (sendable, crosses, stmt_sync) depth 60 fits 20000
