-- A table is refused in one way.
use Rattle.std.proofs.Common.{◌≡◌, ℕ, inl, inr, ◌∙◌, sym}
use Rattle.sift_base.specs.Shapes.{AllShapes}
use Rattle.sift_base.specs.laws.Requirements.{met_unbroken, one_number, one_refused}
use Rattle.sift_table.specs.Laws.{OneBrokenRule}
use Rattle.sift_table.specs.Rules.{IsFirstBroken, IsGood, row_rules, table_rules}
use Rattle.sift_table.specs.Schedule.{Schedule}

-- a table with a broken rule doesn't meet all rules
refused_bad : (table : Schedule) (shapes : AllShapes) (number row : ℕ) → IsFirstBroken table shapes number row → ¬ IsGood table shapes
refused_bad table shapes number row (inl whole) good = met_unbroken (table_rules table shapes) number good.whole whole.0
refused_bad table shapes number row (inr broken) good = met_unbroken (row_rules table shapes row) number (good.rows row broken.1.inside) broken.1.broken

-- two first broken rules are one
one_refusal : (table : Schedule) (shapes : AllShapes) (number row other at : ℕ)
    → IsFirstBroken table shapes number row → IsFirstBroken table shapes other at → (other ≡ number) × (at ≡ row)
one_refusal table shapes number row other at (inl one) (inl two) = (one_number (table_rules table shapes) number other one.0 two.0, two.1 ∙ sym one.1)
one_refusal table shapes number row other at (inl one) (inr two) = absurd (met_unbroken (table_rules table shapes) number two.0 one.0)
one_refusal table shapes number row other at (inr one) (inl two) = absurd (met_unbroken (table_rules table shapes) other one.0 two.0)
one_refusal table shapes number row other at (inr one) (inr two) = one_refused (row_rules table shapes) _ number row other at one.1 two.1

-- a table that breaks a rule first in a row isn't good, and breaks no other rule first, nor in another row
pub one_broken_rule : OneBrokenRule
one_broken_rule table shapes number row broken = (refused_bad table shapes number row broken, λ other at again. one_refusal table shapes number row other at broken again)
