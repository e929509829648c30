-- Where a fault is, as its line tells it before the words.
-- Here a place and its words are one formula; the code appends noun after noun, each with its number.
use Rattle.std.specs.Prelude.{ℕ, List, ◌++◌, codes, decimal}
use Rattle.osm_entity.specs.declared.verdict.Spot.{Spot}
use Rattle.osm_entity.specs.declared.verdict.Spot.TheVariants.{Line, Blob, Item}

-- words at what is counted by a noun
abbrev pub at_number : List ℕ → ℕ → List ℕ → List ℕ
at_number noun number words = noun ++ decimal number ++ codes ": " ++ words

-- words at a task
abbrev pub at_task : ℕ → List ℕ → List ℕ
at_task task words = at_number (codes "task ") task words

-- words at a part of a task: one of its words, inputs, outputs or lines
abbrev pub at_part : ℕ → List ℕ → ℕ → List ℕ → List ℕ
at_part task noun number words =
    codes "task " ++ decimal task ++ noun ++ decimal number ++ codes ": " ++ words

-- words at a place within a part of a task
abbrev pub within_part : ℕ → List ℕ → ℕ → List ℕ → ℕ → List ℕ → List ℕ
within_part task noun number inner place words =
    codes "task " ++ decimal task ++ noun ++ decimal number ++ inner ++ decimal place ++ codes ": " ++ words

-- words at a spot of the input of a task: a line, a blob and its first byte, or an item of an input
abbrev pub at_spot : ℕ → Spot → List ℕ → List ℕ
at_spot task (Line number) words = at_part task (codes " line ") number words
at_spot task (Blob number byte) words = within_part task (codes " blob ") number (codes " byte ") byte words
at_spot task (Item port number) words = within_part task (codes " input ") port (codes " item ") number words
