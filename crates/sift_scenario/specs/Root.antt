-- What the root says beside its entries, and its rules.
use Rattle.std.specs.Prelude.{codes, ℕ, ◌≡◌, ◌+◌, ◌*◌, List, [], ◌∷◌, length, Option, None}
use Rattle.toml.specs.Data.{Members}
use Rattle.sift_base.specs.Layout.{least_units}
use Rattle.sift_base.specs.Units.{unit_limit}
use Rattle.sift_table.specs.Rules.{report_lead}
use Rattle.sift_table.specs.Schedule.{agreed_in, hearing_delay, shortest_period}
use Rattle.sift_mission.specs.PartsFit.{frame_limit, longest_period}
use Rattle.sift_document.specs.Document.{HasOnlyKeys, integer_between, read_at, read_or}
use Rattle.sift_document.specs.Rules.{OfNoEntry, Rule, rule}
use Rattle.sift_scenario.specs.Task.{task_entries}

-- ---- what it says

-- the keys that the root may have
abbrev pub root_keys : List (List ℕ)
root_keys = codes "version" ∷ codes "units" ∷ codes "frames" ∷ codes "subframes" ∷ codes "clock" ∷ codes "sensor" ∷ codes "task" ∷ codes "table" ∷ codes "fault" ∷ []

-- the number of units
abbrev pub units_of : Members → Option ℕ
units_of document = read_at (integer_between least_units unit_limit) (codes "units") document

-- the number of frames
abbrev pub frames_of : Members → Option ℕ
frames_of document = read_at (integer_between 1 frame_limit) (codes "frames") document

-- the newest version of the format of documents
abbrev pub newest_version : ℕ
newest_version = 2

-- the version, which is 1 where none is stated
abbrev pub version_of : Members → Option ℕ
version_of document = read_or 1 (integer_between 1 newest_version) (codes "version") document

-- the number of subframes of a frame; where none is stated, that in which the plain table of so many tasks is run and reported
abbrev pub period_of : Members → Option ℕ
period_of document =
    read_or (agreed_in + hearing_delay * length (task_entries document) + report_lead)
    (integer_between shortest_period longest_period) (codes "subframes") document

-- ---- its rules

-- the rules of the root
abbrev pub root_rules : Members → List Rule
root_rules document =
    -- a key of the root is unknown
    rule 1 (OfNoEntry (¬ HasOnlyKeys root_keys document))
    -- `units` is missing, or is no integer from 4 to 8
    ∷ rule 2 (OfNoEntry (units_of document ≡ None))
    -- `frames` is missing, or is no integer from 1 to 1,000
    ∷ rule 3 (OfNoEntry (frames_of document ≡ None))
    -- `version` is there, and isn't the integer 1 or 2
    ∷ rule 4 (OfNoEntry (version_of document ≡ None))
    -- `subframes` is there, and is no integer from 12 to 64
    ∷ rule 5 (OfNoEntry (period_of document ≡ None))
    ∷ []
