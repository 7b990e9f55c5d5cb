-- What an item of `say` states: how a faulty unit's words in a slot are changed.
use Rattle.std.specs.Prelude.{codes, ℕ, ◌-◌, List, [], ◌∷◌, Bool, true, false, Option, Some, None, option_and_then, option_map, if◌then◌else◌}
use Rattle.std.specs.Str.{bytes_eq}
use Rattle.toml.specs.Data.{Members, as_str}
use Rattle.sift_base.specs.Units.{unit_limit}
use Rattle.sift_script.specs.Script.{Change}
use Rattle.sift_script.specs.declared.script.SlotKind.{SlotKind}
use Rattle.sift_script.specs.declared.script.SlotKind.TheVariants.{Clock, Sense, Relay, Out, Report, RelayReport}
use Rattle.sift_mission.specs.PartsFit.{frame_limit}
use Rattle.sift_document.specs.Document.{◌>>=◌, digits_to, integer_between, read_at, read_or, word_value}

-- the keys that an item may have
abbrev pub item_keys : List (List ℕ)
item_keys = codes "slot" ∷ codes "index" ∷ codes "word" ∷ codes "to" ∷ codes "frame" ∷ codes "value" ∷ []

-- the highest number of a sensor, a task, a unit or a word that may be stated
abbrev pub highest_index : ℕ
highest_index = 63

-- the kind of slot of a name
abbrev pub kind_named : List ℕ → Option SlotKind
kind_named name =
    if bytes_eq name (codes "clock") then Some Clock
    else if bytes_eq name (codes "sense") then Some Sense
    else if bytes_eq name (codes "relay") then Some Relay
    else if bytes_eq name (codes "out") then Some Out
    else if bytes_eq name (codes "report") then Some Report
    else if bytes_eq name (codes "relay-report") then Some RelayReport
    else None

-- whether slots of a kind have an index: the sensor, the task, or the unit whose report is relayed
abbrev pub has_index : SlotKind → Bool
has_index Clock = false
has_index Report = false
has_index _ = true

-- whether slots of a kind have a word: those of a task's output have one
abbrev pub has_word : SlotKind → Bool
has_word Out = true
has_word _ = false

-- the number at a key, which is there just where it is wanted; 0 where it isn't
abbrev pub number_where : Bool → List ℕ → Members → Option ℕ
number_where true key item = read_at (integer_between 0 highest_index) key item
number_where false key item = read_or 0 (λ value. None) key item

-- the receivers of an item
abbrev pub receivers_of : Members → Option (List ℕ)
receivers_of item = read_at (digits_to (unit_limit - 1)) (codes "to") item

-- the frame that an item is about, or none where no frame is stated
abbrev pub frame_of : Members → Option (Option ℕ)
frame_of item = read_or None (λ value. option_map (λ n. Some n) (integer_between 0 (frame_limit - 1) value)) (codes "frame") item

-- the word that an item has said, or absence where no value is stated
abbrev pub said_of : Members → Option (Option ℕ)
said_of item = read_or None (λ value. option_map (λ w. Some w) (word_value value)) (codes "value") item

-- the change that an item states: in slots of the kind that is named at `slot`, where all of it is stated
abbrev pub change_in : Members → Option Change
change_in item =
    option_and_then kind_named (read_at as_str (codes "slot") item) >>= λ kind.
    number_where (has_index kind) (codes "index") item >>= λ index.
    number_where (has_word kind) (codes "word") item >>= λ word.
    receivers_of item >>= λ to.
    frame_of item >>= λ frame.
    said_of item >>= λ value.
    Some (record { kind = kind; index = index; word = word; to = to; frame = frame; value = value })
