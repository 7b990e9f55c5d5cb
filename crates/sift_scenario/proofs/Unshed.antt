-- A document of version 1 sheds nothing.
use Rattle.std.proofs.Common.{◌≡◌, ℕ, List, [], sym, ap, subst, length}
use Rattle.std.specs.List.{All}
use Rattle.std.specs.Prelude.{codes, unwrap_or}
use Rattle.toml.specs.Data.{get_member}
use Rattle.sift_table.specs.Schedule.{Schedule}
use Rattle.sift_document.specs.Rules.{IsKept, rule}
use Rattle.sift_sections.specs.laws.Named.{BreaksTables}
use Rattle.sift_sections.proofs.lemmas.Unshed.{schedules_unshed}
use Rattle.sift_scenario.specs.Laws.{VersionOneShedsNothing}
use Rattle.sift_scenario.specs.Root.{version_of}
use Rattle.sift_scenario.specs.Task.{task_entries}
use Rattle.sift_scenario.proofs.Themes.{kept_themes}

-- no table of a mission sheds a task where a document of version 1 states the mission
pub unshed : VersionOneShedsNothing
unshed document mission first is =
    let value = get_member (codes "table") document in
    let kept : IsKept (rule 23 (BreaksTables (unwrap_or (version_of document) 0) mission.units value)) =
    (kept_themes document mission.units is.stated.units is.stated.lawful).1.1.1.1.0.0 in
    let one : IsKept (rule 23 (BreaksTables 1 mission.units value)) =
    subst (λ (v : ℕ). IsKept (rule 23 (BreaksTables v mission.units value))) (ap (λ o. unwrap_or o 0) first) kept in
    subst (λ (ts : List Schedule). All (λ (t : Schedule). t.shed ≡ []) ts) (sym is.stated.tables)
    (schedules_unshed mission.units mission.period (length (task_entries document)) value one)
