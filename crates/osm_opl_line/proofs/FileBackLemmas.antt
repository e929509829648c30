-- The file of items reads back, line by line.
use Rattle.std.proofs.Common.{◌≡◌, ℕ, ◌+◌, ◌<◌, ◌≤◌, List, [], ◌∷◌, ◌++◌, length, Bool, true, arith, refl, ap, append_assoc, ◌∙◌}
use Rattle.std.specs.Prelude.{◌==◌, All}
use Rattle.std.specs.List.{flat_map, slice_split}
use Rattle.std.proofs.lemmas.List.Elements.{All-head, All-tail}
use Rattle.std.proofs.lemmas.List.Splits.{slice_split_at, length-slice_split}
use Rattle.osm_entity.specs.Items.{ItemValue}
use Rattle.osm_entity.specs.Streams.{Stream}
use Rattle.osm_entity.specs.declared.kind.Flow.{Flow}
use Rattle.osm_entity.specs.declared.parts.Body.{Body}
use Rattle.osm_entity.specs.declared.parts.Body.TheVariants.{Node, Way, Relation}
use Rattle.osm_opl_line.specs.Line.{Good, longest_line, opl_line}
use Rattle.osm_entity.specs.Readings.{Reading, Whole}
use Rattle.osm_opl_line.specs.Reading.{lines_of, before, read_lines, opl_reading}
use Rattle.osm_entity.specs.Writable.{IsBodyText, IsWritable}
use Rattle.osm_opl_line.specs.Writing.{line_text, opl_text}
use Rattle.osm_opl_line.proofs.ItemBackLemmas.{TextsBack}
use Rattle.osm_opl_line.proofs.LineBackLemmas.{opl_line-item}
use Rattle.osm_opl_line.proofs.LinePiecesLemmas.{head_part, field_parts, item_line, item-pieces, line_text-joined, pieces-no_newline}
use Rattle.osm_opl_line.proofs.SizeLemmas.{IdsFit, length-line_text-le}

-- the ids of a writable item's body fit 64 bits
ids_fit : (body : Body) → IsBodyText body → IdsFit body
ids_fit (Node place) texts = tt
ids_fit (Way refs) texts = texts
ids_fit (Relation members) texts = λ k d below. (texts k d below).id

-- the line of a writable item is within the limit
line_text-short : (flow : Flow) (item : ItemValue) → IsWritable flow item → length (line_text item) ≤ longest_line
line_text-short flow item writable =
    length-line_text-le item writable.entity writable.id (ids_fit item.entity.body writable.body)

-- all of these items, and a whole reading
abbrev pub whole_reading : List ItemValue → Reading
whole_reading items = record { items = items; ending = Whole }

-- a line before others is one of the lines
lines_of-cons : (clean : Bool) (line : List ℕ) (parts : List (List ℕ)) → 0 < length parts →
    lines_of clean (line ∷ parts) ≡ line ∷ lines_of clean parts
lines_of-cons clean line [] some = absurd (omega arith)
lines_of-cons clean line (part ∷ parts) some = refl

-- the first line of a file that begins with an item's line
lines_of-item : TextsBack → (flow : Flow) (item : ItemValue) (rest : List ℕ) → IsWritable flow item →
    lines_of true (slice_split (λ b. b == 10) (line_text item ++ rest))
    ≡ item_line item ∷ lines_of true (slice_split (λ b. b == 10) rest)
lines_of-item laws flow item rest writable =
    let each = item-pieces laws.whole_back laws.time_back laws.escaped_back flow item writable in
    let text : line_text item ++ rest ≡ item_line item ++ 10 ∷ rest =
    ap (λ line. line ++ rest) (line_text-joined item) ∙ append_assoc (item_line item) (10 ∷ []) rest in
    let cut : slice_split (λ b. b == 10) (item_line item ++ 10 ∷ rest)
    ≡ item_line item ∷ slice_split (λ b. b == 10) rest =
    slice_split_at (λ b. b == 10) (item_line item) 10 rest
    (pieces-no_newline (head_part item ∷ field_parts item) each) refl in
    ap (λ bytes. lines_of true (slice_split (λ b. b == 10) bytes)) text
    ∙ ap (λ parts. lines_of true parts) cut
    ∙ lines_of-cons true (item_line item) (slice_split (λ b. b == 10) rest)
    (omega (arith, length-slice_split (λ b. b == 10) rest))

-- the lines of writable items read back
read_lines-items : TextsBack → (flow : Flow) (number : ℕ) (items : List ItemValue) →
    All (IsWritable flow) items →
    read_lines flow true number (lines_of true (slice_split (λ b. b == 10) (flat_map line_text items)))
    ≡ whole_reading items
read_lines-items laws flow number [] writable = refl
read_lines-items laws flow number (item ∷ items) writable =
    let first : IsWritable flow item = All-head (IsWritable flow) item items writable in
    let rest : List ℕ = flat_map line_text items in
    let good : opl_line flow (item_line item) ≡ Good item =
    opl_line-item laws flow item first (line_text-short flow item first) in
    let later : List (List ℕ) = lines_of true (slice_split (λ b. b == 10) rest) in
    let more : read_lines flow true (number + 1) later ≡ whole_reading items =
    read_lines-items laws flow (number + 1) items (All-tail (IsWritable flow) item items writable) in
    ap (λ lines. read_lines flow true number lines) (lines_of-item laws flow item rest first)
    ∙ ap (λ line. before number line (read_lines flow true (number + 1) later)) good
    ∙ ap (λ reading. before number (Good item) reading) more

-- the file of writable items reads back as these items
pub opl_reading-opl_text : TextsBack → (flow : Flow) (s : Stream) → All (IsWritable flow) s.items →
    opl_reading flow (opl_text s) true ≡ whole_reading s.items
unfolding opl_reading
opl_reading-opl_text laws flow s writable = read_lines-items laws flow 1 s.items writable
