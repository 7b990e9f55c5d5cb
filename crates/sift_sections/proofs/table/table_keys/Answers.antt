use Rattle.std.proofs.Common.{refl}
use Rattle.std.proofs.lemmas.Bool.{lt-ltb}
use Rattle.sift_sections.proofs.table.table_keys.Goals as goal

-- version 1 has no `shed`
pub returns-then-version-lt2 : goal.returns-then-version-lt2
returns-then-version-lt2 c = rw (lt-ltb c.args.version 2 c.if-version-lt2.true) refl
