-- Where the bytes of an entry lie.
use Rattle.std.proofs.Common.{◌≡◌, ◌∙◌, ◌<◌, ◌-◌, ◌+◌, ◌++◌, ◌∷◌, [], ℕ, List, Option, Result, Ok, Some, None, IfOk, length, map, take, drop, refl, sym, ap, subst, append_assoc, arith}
use Rattle.std.proofs.lemmas.List.{append-nil, drop-take, drop_at, length-append, map-append, take-append-drop, take_at, take_rest}
use Rattle.std.specs.Option.{option_map}
use Rattle.std.specs.Prelude.{All}
use Rattle.osm_entity.specs.Prefixes.{IsPrefix}
use Rattle.std.proofs.lemmas.Result.{IfOk-at_ok}
use Rattle.osm_wire.specs.Entries.{◌>>=◌, all_bytes, as_bytes, message_fields, unless_refused}
use Rattle.osm_wire.specs.Pieces.{piece_before}
use Rattle.osm_wire.specs.Messages.{Bytes, FieldValue, Fixed32, Fixed64, Payload, SpellsField, SpellsPayload, Varint, good_front}
use Rattle.osm_wire.specs.Seen.{field_seen}
use Rattle.osm_wire.specs.declared.error.WireError.{WireError}
use Rattle.osm_wire.specs.declared.field.Field.{Field}
use Rattle.osm_block_read.specs.Spans.{IsSpanIn, part_in}
use Rattle.osm_block_read.specs.Strings.{table_texts}
use Rattle.osm_block_read.specs.Table.{IsNextSpan, IsWellRest, entries_left}
use Rattle.osm_block_read.specs.Told.{behind}
use Rattle.osm_block_read.specs.declared.span.Span.{Span}
use Rattle.osm_block_read.proofs.OptionLemmas.{behind-behind, behind-one, none_some, some_equal}
use Rattle.osm_block_read.proofs.FieldLemmas.{all_bytes-other, all_bytes-same}
use Rattle.osm_block_read.proofs.TagLemmas.{parts-grown}

-- a field of an answer that is one has what the answer has
pub cut-at : (old new : List ℕ) (answer : Result Field WireError) (field : Field) → answer ≡ Ok field →
    IfOk answer (λ f. (begin : List ℕ) × (old ≡ begin ++ new) × SpellsField begin (field_seen f)) →
    (begin : List ℕ) × (old ≡ begin ++ new) × SpellsField begin (field_seen field)
cut-at old new answer field is cut =
    IfOk-at_ok (λ f. (begin : List ℕ) × (old ≡ begin ++ new) × SpellsField begin (field_seen f)) is cut

pub pieces-at : (old new : List ℕ) (answer : Result Field WireError) (field : Field) → answer ≡ Ok field →
    IfOk answer (λ f. good_front old ≡ piece_before (field_seen f) (good_front new)) →
    good_front old ≡ piece_before (field_seen field) (good_front new)
pieces-at old new answer field is cut = IfOk-at_ok (λ f. good_front old ≡ piece_before (field_seen f) (good_front new))
    is cut

-- what is left after a field
pub rest-more : (bytes old new begin : List ℕ) (field : FieldValue) → IsWellRest bytes old → old ≡ begin ++ new →
    good_front old ≡ piece_before field (good_front new) → IsWellRest bytes new
rest-more bytes old new begin field rest cut is = record {
  before = rest.before ++ begin;
  joined = rest.joined ∙ ap (λ list. rest.before ++ list) cut ∙ sym (append_assoc rest.before begin new);
  fine = sym (ap (λ f. f.fault) is) ∙ rest.fine;
}

-- the entries that are left, by the first field
pub entries_left-other : (number : ℕ) (old new : List ℕ) (field : FieldValue) →
    good_front old ≡ piece_before field (good_front new) →
    (field.number ≡ number → ⊥) → entries_left number old ≡ entries_left number new
entries_left-other number old new field is other =
    ap (λ pieces. all_bytes number pieces.items) is ∙ all_bytes-other number field (good_front new).items other

pub entries_left-same : (number : ℕ) (old new content : List ℕ) (field : FieldValue) →
    good_front old ≡ piece_before field (good_front new) →
    field.number ≡ number → as_bytes field.value ≡ Some content →
    entries_left number old ≡ option_map (λ more. content ∷ more) (entries_left number new)
entries_left-same number old new content field is same held =
    ap (λ pieces. all_bytes number pieces.items) is ∙ all_bytes-same number field
    (good_front new).items content same held

-- a payload with these bytes holds them
payload-bytes : (payload : Payload) (content : List ℕ) → as_bytes payload ≡ Some content → payload ≡ Bytes content
payload-bytes (Varint n) content is = cc
payload-bytes (Fixed64 eight) content is = cc
payload-bytes (Bytes held) content is = ap Bytes (some_equal held content is)
payload-bytes (Fixed32 four) content is = cc

-- the bytes of a field lie at the end of what spells it
content-last : (begin content : List ℕ) (field : FieldValue) → SpellsField begin field →
    as_bytes field.value ≡ Some content →
    (ahead : List ℕ) × (begin ≡ ahead ++ content)
content-last begin content field spelled is =
    let held : SpellsPayload spelled.payload (Bytes content) =
    subst (SpellsPayload spelled.payload) (payload-bytes field.value content is) spelled.held in (
      spelled.tag ++ held.0,
      spelled.joined ∙ ap (λ list. spelled.tag ++ list) held.1 ∙ sym (append_assoc spelled.tag held.0 content),
    )

-- the part of bytes between those ahead of it and those behind it
part-between : (bytes ahead content behind : List ℕ) (span : Span) → bytes ≡ ahead ++ (content ++ behind) →
    span.end ≡ length bytes - length behind → span.start ≡ span.end - length content →
    (part_in bytes span ≡ content) × IsSpanIn (length bytes) span
part-between bytes ahead content behind span is end start =
    let long : length bytes ≡ length ahead + (length content + length behind) =
    ap length is ∙ length-append ahead (content ++ behind) ∙ ap (λ n. length ahead + n)
    (length-append content behind) in
    let at : span.start ≡ length ahead = omega (arith, long, end, start) in
    let size : span.end - span.start ≡ length content = omega (arith, long, end, start) in (
      ap (λ list. part_in list span) is
          ∙ ap (λ n. take (span.end - span.start) (drop n (ahead ++ (content ++ behind)))) at
          ∙ ap (take (span.end - span.start)) (drop_at ahead (content ++ behind) (length ahead) refl)
          ∙ ap (λ n. take n (content ++ behind)) size ∙ take_at content behind (length content) refl,
      record { ordered = omega (arith, start); within = omega (arith, end) },
    )

-- the entry of a field, and where it lies
pub next-span : (bytes old new begin content : List ℕ) (number : ℕ) (field : FieldValue) (span : Span) →
    IsWellRest bytes old →
    old ≡ begin ++ new → SpellsField begin field → good_front old ≡ piece_before field (good_front new) →
    field.number ≡ number → as_bytes field.value ≡ Some content → length new < length old →
    span.end ≡ length bytes - length new → span.start ≡ span.end - length content →
    IsNextSpan bytes number span old new
next-span bytes old new begin content number field span rest cut spelled is same held fewer end start =
    let last = content-last begin content field spelled held in
    let whole : bytes ≡ (rest.before ++ last.0) ++ (content ++ new) =
    rest.joined ∙ ap (λ list. rest.before ++ list) (cut ∙ ap (λ list. list ++ new) last.1
    ∙ append_assoc last.0 content new)
    ∙ sym (append_assoc rest.before last.0 (content ++ new)) in
    let lies = part-between bytes (rest.before ++ last.0) content new span whole end start in
    record {
      within = lies.1;
      entries =
          entries_left-same number old new content field is same held
          ∙ ap (λ part. option_map (λ more. part ∷ more) (entries_left number new)) (sym lies.0);
      fewer = fewer;
    }

refused-none : (fault : Option WireError) (items fields : List FieldValue) → unless_refused fault items ≡ Some fields →
    (fault ≡ None) × (items ≡ fields)
refused-none None items fields is = (refl, some_equal items fields is)
refused-none (Some error) items fields is = absurd (none_some fields is)

-- the fields of a message that is well formed
pub fine-fields : (bytes : List ℕ) (fields : List FieldValue) → message_fields bytes ≡ Some fields →
    ((good_front bytes).fault ≡ None) × ((good_front bytes).items ≡ fields)
fine-fields bytes fields is = refused-none (good_front bytes).fault (good_front bytes).items fields is

-- a table's bytes, and all bytes up to their end
pub record IsTable (raw begin content : List ℕ) (table : Span) : Type 0 where
  pub within : IsSpanIn (length raw) table
  pub first : begin ≡ take table.end raw
  pub cut : content ≡ take (length begin - table.start) (drop table.start begin)

table-begin : (raw begin content : List ℕ) (table : Span) → IsTable raw begin content table → IsPrefix begin raw
table-begin raw begin content table is = record {
  rest = drop table.end raw;
  joined = sym (take-append-drop table.end raw) ∙ ap (λ first. first ++ drop table.end raw) (sym is.first);
}

table-cut : (raw begin content : List ℕ) (table : Span) → IsTable raw begin content table →
    content ≡ drop table.start begin
table-cut raw begin content table is = is.cut ∙ take_rest begin table.start

table-content : (raw begin content : List ℕ) (table : Span) → IsTable raw begin content table →
    content ≡ part_in raw table
table-content raw begin content table is =
    table-cut raw begin content table is ∙ ap (drop table.start) is.first
    ∙ ap (λ n. drop table.start (take n raw)) (omega (arith, is.within.ordered))
    ∙ drop-take table.start (table.end - table.start) raw

-- all of its bytes are left at first
pub table-rest : (raw begin content : List ℕ) (table : Span) (fields : List FieldValue) →
    IsTable raw begin content table →
    message_fields content ≡ Some fields → IsWellRest begin content
table-rest raw begin content table fields is fine = record {
  before = take table.start begin;
  joined = sym (take-append-drop table.start begin) ∙ ap (λ rest. take table.start begin ++ rest)
      (sym (table-cut raw begin content table is));
  fine = (fine-fields content fields fine).0;
}

-- a text more
pub texts-more : (begin old new : List ℕ) (spans : List Span) (span : Span) (all : Option (List (List ℕ))) →
    IsNextSpan begin 1 span old new → behind (map (part_in begin) spans) (entries_left 1 old) ≡ all →
    behind (map (part_in begin) (spans ++ span ∷ [])) (entries_left 1 new) ≡ all
texts-more begin old new spans span all next before =
    ap (λ parts. behind parts (entries_left 1 new)) (map-append (part_in begin) spans (span ∷ []))
    ∙ sym (behind-behind (map (part_in begin) spans) (part_in begin span ∷ []) (entries_left 1 new))
    ∙ ap (behind (map (part_in begin) spans)) (sym (next.entries
    ∙ behind-one (part_in begin span) (entries_left 1 new)))
    ∙ before

-- a table that isn't well formed
pub table-bad : (raw begin content : List ℕ) (table : Span) → IsTable raw begin content table →
    message_fields content ≡ None →
    table_texts (part_in raw table) ≡ None
table-bad raw begin content table is none =
    ap table_texts (sym (table-content raw begin content table is)) ∙ ap (λ f. f >>= all_bytes 1) none

-- a table is not one of texts
pub table-none : (raw begin content : List ℕ) (table : Span) (fields : List FieldValue) →
    IsTable raw begin content table →
    message_fields content ≡ Some fields → entries_left 1 content ≡ None → table_texts (part_in raw table) ≡ None
table-none raw begin content table fields is fine none =
    ap table_texts (sym (table-content raw begin content table is)) ∙ ap (λ f. f >>= all_bytes 1) fine
    ∙ ap (all_bytes 1) (sym (fine-fields content fields fine).1) ∙ none

-- or its texts are those of the spans
pub table-read : (raw begin content : List ℕ) (table : Span) (spans : List Span) (fields : List FieldValue) →
    IsTable raw begin content table → message_fields content ≡ Some fields →
    behind (map (part_in begin) spans) (Some []) ≡ entries_left 1 content → All (IsSpanIn (length begin)) spans →
    table_texts (part_in raw table) ≡ Some (map (part_in raw) spans)
table-read raw begin content table spans fields is fine said within =
    ap table_texts (sym (table-content raw begin content table is)) ∙ ap (λ f. f >>= all_bytes 1) fine
    ∙ ap (all_bytes 1) (sym (fine-fields content fields fine).1) ∙ sym said
    ∙ ap Some (append-nil (map (part_in begin) spans))
    ∙ ap Some (sym (parts-grown begin raw spans (table-begin raw begin content table is) within))
