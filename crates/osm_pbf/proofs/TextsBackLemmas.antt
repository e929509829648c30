-- The string table of a run is read back, and each text that an entity uses is at its number.
use Rattle.std.proofs.Common.{◌≡◌, ◌∙◌, ◌<◌, ◌≤◌, ◌^◌, ◌++◌, ◌∷◌, [], ℕ, List, Some, Bool, true, length, map, refl, sym, ap, lit<, arith}
use Rattle.std.specs.Prelude.{◌≢◌, bytes_eq, not, slice_get, slice_index_or}
use Rattle.std.specs.Cmp.Lexicographic.{bytes_decides}
use Rattle.std.specs.List.{AllByRecursion as Each, flat_map, list_all, list_any}
use Rattle.std.specs.Str.{IsUtf8, is_utf8}
use Rattle.std.proofs.lemmas.Bool.{and_from, cond_both, or_left, or_right}
use Rattle.std.proofs.lemmas.Option.{get_or_from_slice_get, slice_get_within}
use Rattle.std.proofs.lemmas.Str.{IsUtf8-nil, is_utf8-from_IsUtf8}
use Rattle.osm_entity.specs.Entities.{EntityValue}
use Rattle.osm_wire.specs.Entries.{all_bytes}
use Rattle.osm_wire.specs.Written.{written_field, written_message}
use Rattle.osm_wire.proofs.WrittenLemmas.{shortest_varint-small}
use Rattle.osm_block_read.specs.Strings.{table_texts}
use Rattle.osm_block_read.proofs.OptionLemmas.{some_equal}
use Rattle.osm_block_write.specs.declared.options.PbfOptions.{PbfOptions}
use Rattle.osm_block_write.specs.Columns.{bytes_field}
use Rattle.osm_block_write.specs.Tables.{first_uses, role_texts, string_table, table_of, tag_texts, text_number, texts_of, user_texts, without}
use Rattle.osm_block_write.proofs.TableLawLemmas.{named}
use Rattle.osm_pbf.proofs.FieldsBackLemmas.{AreSound, each-append, each-weaker, message-back}
use Rattle.osm_pbf.proofs.SizeLemmas.{message-next}

-- what holds of all texts holds of those without one
each-without : (P : List ℕ → Type 0) (text : List ℕ) (texts : List (List ℕ)) → Each P texts →
    Each P (without text texts)
each-without P text [] all = tt
each-without P text (first ∷ texts) all =
    cond_both (not (bytes_eq text first)) (first ∷ without text texts) (without text texts) (Each P)
    (λ _. (all.0, each-without P text texts all.1)) (λ _. each-without P text texts all.1)

-- what holds of all texts holds of each once
each-first_uses : (P : List ℕ → Type 0) (texts : List (List ℕ)) → Each P texts → Each P (first_uses texts)
each-first_uses P [] all = tt
each-first_uses P (text ∷ texts) all =
    (all.0, each-without P text (first_uses texts) (each-first_uses P texts all.1))

-- a test that each element passes is passed by all
pub all-from_each : {T : Type 0} (test : T → Bool) (items : List T) → Each (λ x. test x ≡ true) items →
    list_all test items ≡ true
all-from_each test [] all = refl
all-from_each test (x ∷ items) all = and_from (test x) (list_all test items) all.0 (all-from_each test items all.1)

-- the texts of a table of UTF-8 texts are UTF-8
pub table-utf8 : (texts : List (List ℕ)) → Each IsUtf8 texts → list_all is_utf8 (string_table texts) ≡ true
table-utf8 texts all =
    all-from_each is_utf8 (string_table texts)
    (each-first_uses (λ text. is_utf8 text ≡ true) ([] ∷ texts)
    (is_utf8-from_IsUtf8 [] IsUtf8-nil, each-weaker IsUtf8 (λ text. is_utf8 text ≡ true) texts is_utf8-from_IsUtf8 all))

-- a text as a field is good to write
texts-sound : (table : List (List ℕ)) → AreSound (map (bytes_field 1) table)
texts-sound [] = tt
texts-sound (text ∷ table) = (((lit< tt, lit< tt), tt), texts-sound table)

-- the texts of a table as fields
texts-said : (table : List (List ℕ)) → all_bytes 1 (map (bytes_field 1) table) ≡ Some table
texts-said [] = refl
texts-said (text ∷ table) = rw (texts-said table) refl

-- a written table of few bytes says its texts
pub table-back : (table : List (List ℕ)) → length (written_message (map (bytes_field 1) table)) < 2 ^ 64 →
    table_texts (written_message (map (bytes_field 1) table)) ≡ Some table
table-back table few =
    rw (message-back (map (bytes_field 1) table) (texts-sound table) few) (texts-said table)

-- a text as a field has a byte
field-some : (text : List ℕ) → 0 < length (written_field (bytes_field 1 text))
field-some text = rw (shortest_varint-small 10 (lit< tt)) (omega arith)

-- a table has no more texts than bytes
pub table-few : (table : List (List ℕ)) → length table ≤ length (written_message (map (bytes_field 1) table))
table-few [] = omega arith
table-few (text ∷ table) = omega (
  arith,
  table-few table,
  message-next (bytes_field 1 text) (map (bytes_field 1) table),
  field-some text,
)

-- a text is at its number in a table
abbrev pub IsNamed : List (List ℕ) → List ℕ → Type 0
IsNamed table text = slice_get table (text_number table text) ≡ Some text

-- each text is among all
each-among : (texts : List (List ℕ)) → Each (λ text. list_any (bytes_eq text) texts ≡ true) texts
each-among [] = tt
each-among (first ∷ texts) = (
  or_left (bytes_eq first first) (list_any (bytes_eq first) texts) ((bytes_decides first first).1 refl),
  each-weaker (λ text. list_any (bytes_eq text) texts ≡ true) (λ text. list_any (bytes_eq text) (first ∷ texts) ≡ true)
      texts (λ text among. or_right (bytes_eq text first) (list_any (bytes_eq text) texts) among) (each-among texts),
)

-- each text is at its number in the table of all
each-named : (texts : List (List ℕ)) → Each (IsNamed (string_table texts)) texts
each-named texts =
    each-weaker (λ text. list_any (bytes_eq text) texts ≡ true) (IsNamed (string_table texts)) texts
    (λ text among. named texts text among) (each-among texts)

-- what holds of each of two lists joined holds of each of both
pub each-parts : {T : Type 0} (P : T → Type 0) (first more : List T) → Each P (first ++ more) →
    Each P first × Each P more
each-parts P [] more all = (tt, all)
each-parts P (x ∷ first) more all =
    let rest = each-parts P first more all.1 in ((all.0, rest.0), rest.1)

-- what holds of each of many lists joined holds of each list
pub each-lists : {S T : Type 0} (P : T → Type 0) (f : S → List T) (items : List S) → Each P (flat_map f items) →
    Each (λ x. Each P (f x)) items
each-lists P f [] all = tt
each-lists P f (x ∷ items) all =
    let parts = each-parts P (f x) (flat_map f items) all in (parts.0, each-lists P f items parts.1)

-- and the other way round
pub each-joined : {S T : Type 0} (P : T → Type 0) (f : S → List T) (items : List S) → Each (λ x. Each P (f x)) items →
    Each P (flat_map f items)
each-joined P f [] all = tt
each-joined P f (x ∷ items) all = each-append P (f x) (flat_map f items) all.0 (each-joined P f items all.1)

-- the texts of an entity are at their numbers in a table: those of its user, where metadata is written, of its tags
-- and of its roles
pub record AreNamed (options : PbfOptions) (table : List (List ℕ)) (e : EntityValue) : Type 0 where
  pub user : Each (IsNamed table) (user_texts options e)
  pub tags : Each (λ tag. IsNamed table tag.key × IsNamed table tag.value) e.tags
  pub roles : Each (IsNamed table) (role_texts e.body)

-- the texts of each entity of a run are at their numbers in the table of the run
pub run-named : (options : PbfOptions) (run : List EntityValue) → Each (AreNamed options (table_of options run)) run
run-named options run =
    let table = table_of options run in
    each-weaker (λ e. Each (IsNamed table) (texts_of options e)) (AreNamed options table) run
    (λ e all.
    let described = user_texts options e ++ flat_map tag_texts e.tags in
    let parts = each-parts (IsNamed table) described (role_texts e.body) all in
    let first = each-parts (IsNamed table) (user_texts options e) (flat_map tag_texts e.tags) parts.0 in
    record {
      user = first.0;
      tags =
          each-weaker (λ tag. Each (IsNamed table) (tag_texts tag))
          (λ tag. IsNamed table tag.key × IsNamed table tag.value) e.tags (λ tag both. (both.0, both.1.0))
          (each-lists (IsNamed table) tag_texts e.tags first.1);
      roles = parts.1;
    })
    (each-lists (IsNamed table) (texts_of options) run (each-named (flat_map (texts_of options) run)))

-- the number of a text that is there is below the table's length
pub named-below : (table : List (List ℕ)) (text : List ℕ) → IsNamed table text → text_number table text < length table
named-below table text is = slice_get_within table (text_number table text) text is

-- and the text is at it
pub named-at : (table : List (List ℕ)) (text : List ℕ) → IsNamed table text →
    slice_index_or table (text_number table text) [] ≡ text
named-at table text is = get_or_from_slice_get table (text_number table text) text [] is

-- a text that isn't the first, which is empty, has a number above 0
pub named-some : (texts : List (List ℕ)) (text : List ℕ) → IsNamed (string_table texts) text → text ≢ [] →
    text_number (string_table texts) text ≢ 0
named-some texts text is some = λ none.
    let first : Some [] ≡ Some text = ap (slice_get (string_table texts)) (sym none) ∙ is in
    some (sym (some_equal [] text first))
