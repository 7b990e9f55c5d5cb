-- What follows from what was read of a document.
use Rattle.std.proofs.Common.{◌≡◌, ◌≤◌, ℕ, List, length, map, sym, ap, subst, ◌∙◌, arith}
use Rattle.std.proofs.lemmas.List.{length-map}
use Rattle.std.specs.List.{flat_map, sum}
use Rattle.toml.specs.Data.{Members}
use Rattle.sift_compile.specs.Tasks.{AreCodesOf}
use Rattle.sift_lang.specs.Tree.{tree_of}
use Rattle.sift_parse.specs.Roll.{Roll}
use Rattle.sift_document.specs.Document.{members_of}
use Rattle.sift_document.specs.Rules.{AreKept}
use Rattle.sift_scenario.proofs.Rolls.{few_words, turns}
use Rattle.sift_scenario.proofs.Sensing.{few_sensors, sensors_differ}
use Rattle.sift_scenario.proofs.Starts.{all_starts_from, counts_from, names_from, starts_long}
use Rattle.sift_scenario.proofs.Themes.{kept_themes}
use Rattle.sift_scenario.proofs.TaskRefusals.{text_refused_by}
use Rattle.sift_scenario.specs.Program.{AreAllowed, roll_for}
use Rattle.sift_scenario.specs.Reading.{AreTasksOf, IsReadOf, IsRunningOf}
use Rattle.sift_scenario.specs.Refusal.{IsFirstRefused, IsRefusedWith}
use Rattle.sift_scenario.specs.Sensor.{sensor_names}
use Rattle.sift_scenario.specs.Task.{counts_of, task_entries, tasks_of, task_rules}
use Rattle.sift_scenario.specs.Testing.{AreTurns, form_of}
use Rattle.sift_scenario.specs.declared.document.Entries.{Entries}
use Rattle.sift_scenario.specs.declared.program.Running.{Running}
use Rattle.sift_scenario.specs.declared.entries.Tasks.{Tasks}
use Rattle.sift_scenario.proofs.Named.{all_starts, AreTreesOf}
use Rattle.sift_scenario.specs.declared.mission.Refused.{Refused}

-- there are as many forms as entries of `task`
pub count_is : (document : Members) (tasks : Tasks) → AreTasksOf document tasks → length tasks.forms.items ≡ length (task_entries document)
count_is document tasks read =
    sym (length-map tasks.forms.items form_of) ∙ read.forms.as_many ∙ length-map (task_entries document) members_of

-- the names of these entries, as texts of tasks may use them; it is the first task's turn
abbrev pub roll_read : Entries → Roll
roll_read entries = record {
  sensors = map (λ name. name.bytes) entries.sensors.names.items;
  tasks = map (λ name. name.bytes) entries.tasks.names.items;
  sizes = map (λ words. length words.items) entries.tasks.starts.items;
  this = 0;
}

module _ (document : Members) (entries : Entries) (read : IsReadOf document entries) where
  -- the rules of the tasks are kept
  tasks_kept : AreKept (task_rules document)
  tasks_kept = (kept_themes document entries.units read.units read.lawful).1.1.1.0

  -- these names are the document's
  pub roll_is : roll_read entries ≡ roll_for (sensor_names document) (tasks_of document)
  roll_is =
      let names = names_from (λ name. name.bytes) (tasks_of document) entries.tasks.names.items read.tasks.names in
      let counts = counts_from (λ words. words.items) (tasks_of document) entries.tasks.starts.items read.tasks.starts in
      let sensors = read.sensors.names in
      cc (names, counts, sensors)

  -- the start words are the document's
  starts_are : (starts : List ℕ) → starts ≡ flat_map (λ words. words.items) entries.tasks.starts.items → starts ≡ all_starts (tasks_of document)
  starts_are starts is = is ∙ all_starts_from (λ words. words.items) (tasks_of document) entries.tasks.starts.items read.tasks.starts

  -- there are as many as words, and they are few
  pub length_is : (starts : List ℕ) → starts ≡ flat_map (λ words. words.items) entries.tasks.starts.items → length starts ≡ sum (counts_of (tasks_of document))
  length_is starts is = ap length (starts_are starts is) ∙ starts_long (tasks_of document)

  -- the tasks have at most 64 output words
  pub words_few : sum (counts_of (tasks_of document)) ≤ 64
  words_few = few_words (tasks_of document) read.tasks.some tasks_kept.1.1.1.0

  -- there are as many as these names say
  pub words_are : (starts : List ℕ) → starts ≡ flat_map (λ words. words.items) entries.tasks.starts.items → length starts ≡ sum (roll_read entries).sizes
  words_are starts is = length_is starts is ∙ sym (ap (λ (r : Roll). sum r.sizes) roll_is)

  -- there are as many sensors as names of sensors, and they are few
  pub sensors_few : length entries.sensors.names.items ≤ 8
  sensors_few =
      let long = length-map entries.sensors.names.items (λ name. name.bytes) in
      let same = ap length read.sensors.names in
      omega (arith, long, same, few_sensors document entries.units read.units read.lawful)

  -- each task may take its turn
  pub turns_are : (count : ℕ) → count ≡ length entries.tasks.forms.items → AreTurns count (roll_read entries)
  turns_are count is =
      let long = length-map entries.tasks.forms.items form_of in
      subst (AreTurns count) (sym roll_is) (λ task low. turns (sensor_names document) (tasks_of document)
      (sensors_differ document entries.units read.units read.lawful) (few_sensors document entries.units read.units read.lawful)
      tasks_kept.1.0 tasks_kept.1.1.0 tasks_kept.1.1.1.0
      read.tasks.some read.tasks.few task (omega (arith, low, is, long, read.tasks.forms.as_many)))

  -- what was made of them is the document's program, with its code
  pub running_from :
      (running : Running) → running.program.starts.items ≡ flat_map (λ words. words.items) entries.tasks.starts.items
      → AreTreesOf (roll_read entries) (map form_of entries.tasks.forms.items) (map tree_of running.program.tasks.items)
      → AreAllowed (map tree_of running.program.tasks.items)
      → AreCodesOf (length entries.sensors.names.items) (length running.program.starts.items) (map tree_of running.program.tasks.items) running.code.items
      → IsRunningOf document running
  running_from running starts trees allowed codes =
      let forms = map form_of entries.tasks.forms.items in
      let theirs : AreTreesOf (roll_for (sensor_names document) (tasks_of document)) forms (map tree_of running.program.tasks.items) =
      subst (λ (r : Roll). AreTreesOf r forms (map tree_of running.program.tasks.items)) roll_is trees in
      let sensors : length entries.sensors.names.items ≡ length (sensor_names document) =
      sym (length-map entries.sensors.names.items (λ name. name.bytes)) ∙ ap length read.sensors.names in
      record {
        stated = record { starts = starts_are _ starts; forms = forms; stated = read.tasks.forms; trees = theirs; allowed = allowed };
        codes = rw (← sensors) codes;
      }

  -- the first task that is refused is the document's
  pub task_refused :
      (e : Refused) → IsFirstRefused (roll_read entries) (map form_of entries.tasks.forms.items) e → IsRefusedWith document e
  task_refused e first = text_refused_by document e read.lawful (
    map form_of entries.tasks.forms.items,
    read.tasks.forms,
    subst (λ (r : Roll). IsFirstRefused r (map form_of entries.tasks.forms.items) e) roll_is first,
  )
