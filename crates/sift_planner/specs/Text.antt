-- The text of tables, as a document states them.
use Rattle.std.specs.Prelude.{codes, ℕ, List, [], ◌∷◌, ◌++◌, map}
use Rattle.std.specs.Fmt.{decimal}
use Rattle.std.specs.List.{flat_map}
use Rattle.sift_table.specs.Schedule.{Schedule}

-- what stands between two entries of a list: a comma and a blank
abbrev pub break : List ℕ
break = codes ", "

-- entries, one after another
abbrev pub listed : List (List ℕ) → List ℕ
listed [] = []
listed (first ∷ others) = first ++ flat_map (λ entry. break ++ entry) others

-- a list of numbers
abbrev pub numbers_text : List ℕ → List ℕ
numbers_text numbers = listed (map decimal numbers)

-- the positions of a row: their digits, in double quotes
abbrev pub positions_text : List ℕ → List ℕ
positions_text positions = codes "\"" ++ flat_map decimal positions ++ codes "\""

-- the positions of all rows
abbrev pub rows_text : List (List ℕ) → List ℕ
rows_text rows = listed (map positions_text rows)

-- the line of a list of numbers, by its key
abbrev pub numbers_line : (key : List ℕ) → List ℕ → List ℕ
numbers_line key numbers = key ++ codes " = [" ++ numbers_text numbers ++ codes "]\n"

-- the line of the positions
abbrev pub rows_line : List (List ℕ) → List ℕ
rows_line rows = codes "at = [" ++ rows_text rows ++ codes "]\n"

-- a table, as a document states it that sheds nothing
abbrev pub table_text : Schedule → List ℕ
table_text table =
    codes "[[table]]\nsize = " ++ decimal table.size ++ codes "\n" ++ numbers_line (codes "run") table.run ++ numbers_line (codes "poll") table.poll
    ++ rows_line table.at

-- tables, one after another
abbrev pub tables_text : List Schedule → List ℕ
tables_text tables = flat_map table_text tables
