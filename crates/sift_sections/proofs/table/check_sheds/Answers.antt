use Rattle.std.proofs.Common.{List, refl, subst}
use Rattle.toml.specs.Data.{Members}
use Rattle.sift_document.specs.Testing.{Tests}
use Rattle.sift_document.specs.laws.EntryTests.{of_entries}
use Rattle.sift_sections.specs.laws.Named.{BreaksShed}
use Rattle.sift_sections.proofs.table.check_sheds.Goals as goal

-- the tables of the entries are those of the document
pub returns : goal.returns
returns c =
    subst (λ (tables : List Members). Tests 31 (BreaksShed tables) c.check_shed_entries.result)
    (of_entries c.entries_at.result.now refl c.entries_at.ensures) c.check_shed_entries.ensures
