-- Where an item may stand, so that no refusal stands at it.
use Rattle.std.proofs.Common.{◌≡◌, ℕ, ◌<◌, ◌≤◌, Bool, true, false, List, [], ◌∷◌, length, slice_index, Option, Some, None}
use Rattle.sift_base.specs.Name.{IsName}
use Rattle.sift_lang.specs.Tree.{local_limit, round_limit}
use Rattle.sift_parse.specs.declared.token.Keyword.{Keyword}
use Rattle.sift_parse.specs.declared.token.Keyword.TheVariants.{Let, Repeat, Now}
use Rattle.sift_parse.specs.declared.token.Sign.{Sign}
use Rattle.sift_parse.specs.declared.token.Sign.TheVariants.{OpenParen, OpenBrace, Dot}
use Rattle.sift_parse.specs.Lexeme.{level_limit, number_limit}
use Rattle.sift_parse.specs.Pieces.{Item, key, called, figure, joined, sign}
use Rattle.sift_parse.specs.Roll.{Roll, number_in}
use Rattle.sift_parse.specs.Force.{Role, new_local, a_sensor, a_task, old_local, role_after}
use Rattle.sift_parse.specs.Tokens.{local_of}
use Rattle.sift_parse.proofs.Printing.Known.{Known, key_before, is_minus_after, known_after, asked_by}

-- after `let` one more local may live
abbrev pub FitsLet : ℕ → Option Keyword → Type 0
FitsLet lived k = k ≡ Some Let → lived < local_limit

-- after `repeat` the number is one of rounds
abbrev pub FitsRounds : Option Keyword → ℕ → Type 0
FitsRounds k n = k ≡ Some Repeat → n ≤ round_limit

-- where a level is opened, one more may be open
abbrev pub FitsLevel : Bool → ℕ → Type 0
FitsLevel opens many = opens ≡ true → many < level_limit

-- the name names this
abbrev pub Means : Roll → List (List ℕ) → Role → List ℕ → ℕ → Type 0
Means r locals new_local w n = n ≡ length locals
Means r locals a_sensor w n = number_in r.sensors w ≡ Some n
Means r locals a_task w n = number_in r.tasks w ≡ Some n
Means r locals old_local w n = local_of locals w ≡ Some n

-- after `now` the task is before this one
abbrev pub IsEarlier : Roll → Option Keyword → ℕ → Type 0
IsEarlier r k task = k ≡ Some Now → task < r.this

-- the task whose word is asked for has it
abbrev pub HasWord : Roll → Option ℕ → ℕ → Type 0
HasWord r (Some task) n = n < slice_index r.sizes task
HasWord r None n = Unit {0}

-- a dot follows the name of a task
abbrev pub NamesTask : Sign → Option ℕ → Type 0
NamesTask Dot None = ⊥
NamesTask _ _ = Unit {0}

-- the sign opens a level
abbrev pub opens_level : Sign → Bool
opens_level OpenParen = true
opens_level OpenBrace = true
opens_level _ = false

-- the item may stand here
abbrev pub MayStand : Roll → Known → Item → Type 0
MayStand r h (key k) = FitsLet (length h.locals) (key_before h.before)
MayStand r h (called w n) =
    IsName w × Means r h.locals (role_after (key_before h.before)) w n
    × FitsLet (length h.locals) (key_before h.before) × IsEarlier r (key_before h.before) n
MayStand r h (figure n) = (n ≤ number_limit) × FitsRounds (key_before h.before) n × HasWord r (asked_by r h.before) n
MayStand r h (joined op) = FitsLevel (is_minus_after h.before op) (length h.levels)
MayStand r h (sign s) = NamesTask s h.task × FitsLevel (opens_level s) (length h.levels)

-- each item may stand in its place
abbrev pub AllMayStand : Roll → Known → List Item → Type 0
AllMayStand r h [] = Unit {0}
AllMayStand r h (i ∷ is) = MayStand r h i × AllMayStand r (known_after h i) is
