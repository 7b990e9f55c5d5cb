use Rattle.std.proofs.Common.{inl, inr}
use Rattle.std.specs.Prelude.{codes}
use Rattle.toml.specs.View.{table_view, view}
use Rattle.sift_document.specs.Document.{IsTableOf}
use Rattle.sift_sections.specs.Fault.{AreItems}
use Rattle.sift_sections.specs.laws.Named.{storm_keys}
use Rattle.sift_sections.proofs.Faulting.{alone_where, found_where, not_alone}
use Rattle.sift_sections.proofs.fault.has_one_way.Goals as goal

-- a `say` stands alone
pub returns-in-Some-None : goal.returns-in-Some-None
returns-in-Some-None c =
    let fault = table_view c.args.fault.now in
    let says = alone_where (codes "say") (codes "storm") AreItems fault (view c.in-Some-None.said.now) c.in-Some-None.ensures c.in-Some-None.ensures' in (
      λ are. inl (says.0 (c.are_items.ensures.0 are)),
      λ way. elim way [
        | inl said ↦ c.are_items.ensures.1 (says.1 said)
        | inr storm ↦ absurd (not_alone (codes "storm") (codes "say") (IsTableOf storm_keys) fault c.in-Some-None.ensures' storm)
      ],
    )

-- a storm stands alone
pub returns-in-None-Some : goal.returns-in-None-Some
returns-in-None-Some c =
    let fault = table_view c.args.fault.now in
    let storm = view c.in-None-Some.storm.now in
    let known = found_where (IsTableOf storm_keys storm) c.table_of.result c.is_some.result c.is_some.ensures c.table_of.ensures.known c.table_of.ensures.none in
    let storms = alone_where (codes "storm") (codes "say") (IsTableOf storm_keys) fault storm c.in-None-Some.ensures' c.in-None-Some.ensures in (
      λ are. inr (storms.0 (known.0 are)),
      λ way. elim way [
        | inl said ↦ absurd (not_alone (codes "say") (codes "storm") AreItems fault c.in-None-Some.ensures said)
        | inr alone ↦ known.1 (storms.1 alone)
      ],
    )
