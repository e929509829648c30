-- The line of an item, without its newline, says that item.
use Rattle.std.proofs.Common.{◌≡◌, ℕ, ◌≤◌, List, [], ◌∷◌, ◌++◌, length, true, false, arith, sym, refl, ap, subst, ◌∙◌}
use Rattle.std.specs.Prelude.{◌==◌, slice_index}
use Rattle.std.specs.List.{AllByRecursion, join_with_byte, list_any}
use Rattle.std.specs.Str.{is_utf8}
use Rattle.std.proofs.lemmas.Bool.{le-ltb, ne_eqb, or_from}
use Rattle.std.proofs.lemmas.List.{length-append}
use Rattle.std.proofs.lemmas.Str.{is_utf8-from_IsUtf8}
use Rattle.osm_entity.specs.Items.{ItemValue, kind_of}
use Rattle.osm_entity.specs.declared.kind.Flow.{Flow}
use Rattle.osm_opl_line.specs.Fields.{pieces}
use Rattle.osm_opl_line.specs.Line.{Good, is_control, is_skipped, longest_line, opl_line, said_of}
use Rattle.osm_entity.specs.Writable.{IsWritable}
use Rattle.osm_opl_line.specs.Writing.{kind_letter, line_text}
use Rattle.osm_opl_line.proofs.ItemBackLemmas.{TextsBack, said_of-item}
use Rattle.osm_opl_line.proofs.LinePiecesLemmas.{IsPiece, head_part, field_parts, item_line, item-pieces, line_text-joined, pieces-joined, pieces-utf8, pieces-no_control}
use Rattle.osm_opl_line.proofs.ListsBackLemmas.{kind_letter-small}

-- a line within the limit that isn't skipped and has no bad byte says what its pieces say
opl_line-said : (flow : Flow) (line : List ℕ) → length line ≤ longest_line → is_skipped line ≡ false →
    is_utf8 line ≡ true → list_any is_control line ≡ false → opl_line flow line ≡ said_of flow (pieces line)
unfolding opl_line
opl_line-said flow line short kept utf8 plain =
    rw (le-ltb longest_line (length line) short, kept, utf8, plain) refl

-- a first part, joined with others, stands first
joined-first : (letter : ℕ) (content : List ℕ) (parts : List (List ℕ)) →
    slice_index (join_with_byte 32 ((letter ∷ content) ∷ parts)) 0 ≡ letter
joined-first letter content [] = refl
joined-first letter content (part ∷ parts) = refl

-- a list with an element has a length
cons-some : (part : List ℕ) (parts : List (List ℕ)) → (length (part ∷ parts) == 0) ≡ false
cons-some part parts = ne_eqb (length (part ∷ parts)) 0 (omega arith)

-- pieces that begin with a letter aren't skipped
pieces-kept : (letter : ℕ) (content : List ℕ) (parts : List (List ℕ)) → 97 ≤ letter →
    AllByRecursion IsPiece ((letter ∷ content) ∷ parts) →
    is_skipped (join_with_byte 32 ((letter ∷ content) ∷ parts)) ≡ false
pieces-kept letter content parts small each =
    let line : List ℕ = join_with_byte 32 ((letter ∷ content) ∷ parts) in
    let first : (slice_index line 0 == 35) ≡ false =
    ne_eqb (slice_index line 0) 35 (omega (arith, joined-first letter content parts)) in
    let some : (length (pieces line) == 0) ≡ false =
    subst (λ p. (length p == 0) ≡ false) (sym (pieces-joined (letter ∷ content) parts each))
    (cons-some (letter ∷ content) parts) in
    or_from (slice_index line 0 == 35) (length (pieces line) == 0) first some

-- an item's line is within the limit where it is with its newline
item_line-short : (item : ItemValue) → length (line_text item) ≤ longest_line → length (item_line item) ≤ longest_line
item_line-short item short =
    let whole : length (item_line item ++ 10 ∷ []) ≤ longest_line =
    subst (λ text. length text ≤ longest_line) (line_text-joined item) short in
    omega (arith, length-append (item_line item) (10 ∷ []))

-- an item's line says the item
pub opl_line-item : TextsBack → (flow : Flow) (item : ItemValue) → IsWritable flow item →
    length (line_text item) ≤ longest_line → opl_line flow (item_line item) ≡ Good item
opl_line-item laws flow item writable short =
    let each = item-pieces laws.whole_back laws.time_back laws.escaped_back flow item writable in
    let letter = kind_letter-small (kind_of item.entity.body) in
    opl_line-said flow (item_line item) (item_line-short item short)
    (pieces-kept (kind_letter (kind_of item.entity.body)) _ (field_parts item) letter.0 each)
    (is_utf8-from_IsUtf8 (item_line item) (pieces-utf8 (head_part item ∷ field_parts item) each))
    (pieces-no_control (head_part item ∷ field_parts item) each)
    ∙ ap (λ parts. said_of flow parts) (pieces-joined (head_part item) (field_parts item) each)
    ∙ said_of-item laws flow item writable
