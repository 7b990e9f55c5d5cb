use Rattle.std.proofs.Common.{sym}
use Rattle.toml.specs.View.{table_view}
use Rattle.sift_document.specs.Document.{HasOnlyKeys}
use Rattle.sift_document.specs.laws.Order.{stopped}
use Rattle.sift_document.specs.laws.Testing.{refused_of_none}
use Rattle.sift_byz.specs.Lawful.{rules_of}
use Rattle.sift_byz.specs.Stated.{root_keys}
use Rattle.sift_byz.proofs.Stopping.{handed_on, kept_stated, kept_with_units, refusal, refused_later, refused_unstated, stopped_with_m, stopped_with_units}
use Rattle.sift_byz.proofs.Testing.{not_both}
use Rattle.sift_byz.proofs.reading.read_plan.Goals as goal

-- a key is unknown
pub returns-then-not-has_only_keys-clause-refused : goal.returns-then-not-has_only_keys-clause-refused
returns-then-not-has_only_keys-clause-refused c =
    rw c.broken.ensures (stopped 0 (rules_of (table_view c.args.document.now)) (refusal 1)
    (refused_of_none 1 (¬ HasOnlyKeys root_keys (table_view c.args.document.now)) (λ only. not_both (c.has_only_keys.ensures.1 only) c.if-not-has_only_keys.true)))

-- it isn't stated how many may lie
pub returns-in_default-clause-refused : goal.returns-in_default-clause-refused
returns-in_default-clause-refused c =
    rw c.broken-in_default.ensures (stopped 1 (rules_of (table_view c.args.document.now)) (refusal 2) (
      (λ place unknown. unknown.1 (c.has_only_keys.ensures.0 c.if-not-has_only_keys.false)),
      refused_unstated 2 c.in_default.ensures.m,
    ))

-- nor how many units there are
pub returns-in_default-units_of-clause-refused : goal.returns-in_default-units_of-clause-refused
returns-in_default-units_of-clause-refused c =
    rw c.broken-in_default-units_of.ensures (stopped_with_m (table_view c.args.document.now) c.in-Some.m (sym c.in-Some.ensures.m) 2 (refusal 3) (
      (λ place unknown. unknown.1 (c.has_only_keys.ensures.0 c.if-not-has_only_keys.false)),
      (kept_stated c.in-Some.ensures.m, refused_unstated 3 c.in_default-units_of.ensures.units),
    ))

-- nor the value of each
pub returns-in_default-values_of-clause-refused : goal.returns-in_default-values_of-clause-refused
returns-in_default-values_of-clause-refused c =
    rw c.broken-in_default-values_of.ensures (stopped_with_units (table_view c.args.document.now) c.in-Some.m (sym c.in-Some.ensures.m)
    c.in-Some-units_of.units (sym c.in-Some-units_of.ensures.units) 3 (refusal 4) (
      (λ place unknown. unknown.1 (c.has_only_keys.ensures.0 c.if-not-has_only_keys.false)),
      (kept_stated c.in-Some.ensures.m, (kept_stated c.in-Some-units_of.ensures.units, refused_unstated 4 c.in_default-values_of.ensures)),
    ))

-- a rule of the lies is broken
pub returns-in_err-lies-clause-refused : goal.returns-in_err-lies-clause-refused
returns-in_err-lies-clause-refused c =
    let document = table_view c.args.document.now in
    rw (handed_on c.from_residual.result _ c.from_residual.ensures)
    (refused_later document c.in-Some.m (sym c.in-Some.ensures.m) c.in-Some-units_of.units (sym c.in-Some-units_of.ensures.units) _ (
      (λ place unknown. unknown.1 (c.has_only_keys.ensures.0 c.if-not-has_only_keys.false)),
      (kept_stated c.in-Some.ensures.m, (kept_stated c.in-Some-units_of.ensures.units, (kept_stated c.in-Some-values_of.ensures, tt))),
    ) c.in_err-lies.ensures.tests)

-- all rules are kept, and this is what is stated
pub returns-clause-accepted : goal.returns-clause-accepted
returns-clause-accepted c =
    let document = table_view c.args.document.now in
    record {
      lawful = kept_with_units document c.in-Some.m (sym c.in-Some.ensures.m) c.in-Some-units_of.units (sym c.in-Some-units_of.ensures.units) (
        (λ place unknown. unknown.1 (c.has_only_keys.ensures.0 c.if-not-has_only_keys.false)),
        (kept_stated c.in-Some.ensures.m, (kept_stated c.in-Some-units_of.ensures.units, (kept_stated c.in-Some-values_of.ensures, c.in_ok-lies.ensures.tests))),
      );
      m = sym c.in-Some.ensures.m;
      units = sym c.in-Some-units_of.ensures.units;
      values = sym c.in-Some-values_of.ensures;
      lies = c.in_ok-lies.ensures.lies;
    }

pub units_of-requires : goal.units_of-requires
units_of-requires c = c.in-Some.ensures.few

pub values_of-requires : goal.values_of-requires
values_of-requires c = c.in-Some-units_of.ensures.few

pub stated_lies-requires : goal.stated_lies-requires
stated_lies-requires c = record { few_units = c.in-Some-units_of.ensures.few; few_traitors = c.in-Some.ensures.few }
