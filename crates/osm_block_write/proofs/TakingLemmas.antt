-- What is taken of a run with an entity more, and the block of what was taken.
use Rattle.std.proofs.Common.{◌≡◌, ℕ, List, [], ◌∷◌, ◌++◌, map, true, false, refl, sym, ap, subst, ◌∙◌, append-nil}
use Rattle.std.specs.Prelude.{Bool, if◌then◌else◌}
use Rattle.std.specs.List.{flat_map}
use Rattle.std.proofs.lemmas.List.{map-append}
use Rattle.std.proofs.lemmas.List.Concat.{flat_map-append}
use Rattle.osm_entity.specs.Entities.{EntityValue}
use Rattle.osm_entity.specs.Prefixes.{IsPrefix}
use Rattle.osm_entity.specs.declared.kind.Kind.{Kind}
use Rattle.osm_entity.specs.declared.parts.Tag.{Tag}
use Rattle.osm_wire.specs.Written.{packed, shortest_varint, written_field, written_message}
use Rattle.osm_block_write.specs.declared.options.PbfOptions.{PbfOptions}
use Rattle.osm_block_write.specs.Block.{is_dense}
use Rattle.osm_block_write.specs.Messages.{entity_field, keys_vals}
use Rattle.osm_block_write.specs.Numbered.{Numbered, with_numbers, numbered_tag, user_number}
use Rattle.osm_block_write.specs.Tables.{text_number, role_texts, string_table, table_of, tag_texts, texts_of, user_texts, with_text, with_texts}
use Rattle.osm_block_write.specs.Taking.{row_of, tags_packed, taken_by, taken_of, with_numbered, with_taken}
use Rattle.osm_block_write.proofs.TablesLemmas.{AreIn, AreIn-parts, AreIn-with_texts, is_in-with_text, text_number-begins, text_number-with_text, string_table-append, with_texts-begins}

-- the tags of an entity by a table that begins with one that has their texts
tags-stay : (table new : List (List ℕ)) (tags : List Tag) → IsPrefix table new →
    AreIn table (flat_map tag_texts tags) → map (numbered_tag new) tags ≡ map (numbered_tag table) tags
tags-stay table new [] begins are = refl
tags-stay table new (tag ∷ tags) begins are =
    let key = text_number-begins table new tag.key begins are.0 in
    let value = text_number-begins table new tag.value begins are.1.0 in
    let rest = tags-stay table new tags begins are.1.1 in
    rw (key, value, rest) refl

-- the numbers of texts by a table that begins with one that has them
numbers-stay : (table new texts : List (List ℕ)) → IsPrefix table new → AreIn table texts →
    map (text_number new) texts ≡ map (text_number table) texts
numbers-stay table new [] begins are = refl
numbers-stay table new (text ∷ texts) begins are =
    let one = text_number-begins table new text begins are.0 in
    let rest = numbers-stay table new texts begins are.1 in
    rw (one, rest) refl

-- the number of a user by a table that begins with one that has it, by whether metadata is left out
user-stays_by : (omitted : Bool) (table new : List (List ℕ)) (user : List ℕ) → IsPrefix table new →
    AreIn table (if omitted then [] else user ∷ []) →
    (if omitted then 0 else text_number new user) ≡ (if omitted then 0 else text_number table user)
user-stays_by true table new user begins are = refl
user-stays_by false table new user begins are = text_number-begins table new user begins are.0

-- the number of a user by a table that begins with one that has it
pub user-stays : (options : PbfOptions) (table new : List (List ℕ)) (e : EntityValue) → IsPrefix table new →
    AreIn table (user_texts options e) → user_number options new e.user ≡ user_number options table e.user
user-stays options table new e begins are = user-stays_by options.omitmetadata table new e.user begins are

-- an entity by a table that begins with one that has its texts
with_numbers-stays : (options : PbfOptions) (table new : List (List ℕ)) (e : EntityValue) → IsPrefix table new →
    AreIn table (texts_of options e) → with_numbers options new e ≡ with_numbers options table e
with_numbers-stays options table new e begins are =
    let parts = AreIn-parts table (user_texts options e ++ flat_map tag_texts e.tags) (role_texts e.body) are in
    let first = AreIn-parts table (user_texts options e) (flat_map tag_texts e.tags) parts.0 in
    let user = user-stays options table new e begins first.0 in
    let tags = tags-stay table new e.tags begins first.1 in
    let roles = numbers-stay table new (role_texts e.body) begins parts.1 in
    cc

-- entities by a table that begins with one that has their texts
run-stays : (options : PbfOptions) (table new : List (List ℕ)) (run : List EntityValue) → IsPrefix table new →
    AreIn table (flat_map (texts_of options) run) →
    map (with_numbers options new) run ≡ map (with_numbers options table) run
run-stays options table new [] begins are = refl
run-stays options table new (e ∷ run) begins are =
    let parts = AreIn-parts table (texts_of options e) (flat_map (texts_of options) run) are in
    let one = with_numbers-stays options table new e begins parts.0 in
    let rest = run-stays options table new run begins parts.1 in
    rw (one, rest) refl

-- the string table of a run has the texts of its entities
table_of-has : (options : PbfOptions) (run : List EntityValue) →
    AreIn (table_of options run) (flat_map (texts_of options) run)
table_of-has options run =
    let texts = flat_map (texts_of options) run in
    subst (λ table. AreIn table texts) (sym (string_table-append [] texts)) (AreIn-with_texts ([] ∷ []) texts)

-- the string table of a run with an entity more is that of the run, with the texts of the entity
pub table_of-push : (options : PbfOptions) (run : List EntityValue) (e : EntityValue) →
    table_of options (run ++ e ∷ []) ≡ with_texts (table_of options run) (texts_of options e)
table_of-push options run e =
    ap string_table
    (flat_map-append (texts_of options) run (e ∷ [])
    ∙ ap (λ last. flat_map (texts_of options) run ++ last) (append-nil (texts_of options e)))
    ∙ string_table-append (flat_map (texts_of options) run) (texts_of options e)

-- a run with an entity more, by the table with its texts
with_numbers-push : (options : PbfOptions) (run : List EntityValue) (e : EntityValue) (new : List (List ℕ)) →
    IsPrefix (table_of options run) new →
    map (with_numbers options new) (run ++ e ∷ [])
    ≡ map (with_numbers options (table_of options run)) run ++ with_numbers options new e ∷ []
with_numbers-push options run e new begins =
    map-append (with_numbers options new) run (e ∷ [])
    ∙ ap (λ first. first ++ with_numbers options new e ∷ [])
    (run-stays options (table_of options run) new run begins (table_of-has options run))

-- the tags of dense nodes and of one more
tags_packed-push : (nodes : List Numbered) (n : Numbered) →
    tags_packed nodes ++ packed (keys_vals n.tags) ≡ tags_packed (nodes ++ n ∷ [])
tags_packed-push nodes n =
    sym
    (ap packed
    (flat_map-append (λ n. keys_vals n.tags) nodes (n ∷ [])
    ∙ ap (λ last. flat_map (λ n. keys_vals n.tags) nodes ++ last) (append-nil (keys_vals n.tags)))
    ∙ flat_map-append shortest_varint (flat_map (λ n. keys_vals n.tags) nodes) (keys_vals n.tags))

-- the messages of entities and of one more
messages-push : (options : PbfOptions) (run : List Numbered) (n : Numbered) →
    written_message (map (entity_field options) run) ++ written_field (entity_field options n)
    ≡ written_message (map (entity_field options) (run ++ n ∷ []))
messages-push options run n =
    sym
    (ap written_message (map-append (entity_field options) run (n ∷ []))
    ∙ flat_map-append written_field (map (entity_field options) run) (entity_field options n ∷ [])
    ∙ ap (λ last. written_message (map (entity_field options) run) ++ last)
    (append-nil (written_field (entity_field options n))))

-- what is taken of a run and of one entity more
taken_by-push : (dense : Bool) (options : PbfOptions) (table new : List (List ℕ)) (run : List Numbered)
    (n : Numbered) →
    with_numbered dense options (taken_by dense options table run) new n ≡ taken_by dense options new (run ++ n ∷ [])
taken_by-push true options table new run n =
    let rows = map-append (row_of options) run (n ∷ []) in
    let bytes = tags_packed-push run n in
    cc
taken_by-push false options table new run n = let bytes = messages-push options run n in cc

-- what is taken of a run, with an entity more, is what is taken of the run with it
pub with_taken-of : (options : PbfOptions) (kind : Kind) (run : List EntityValue) (e : EntityValue) →
    with_taken options kind (taken_of options kind run) e ≡ taken_of options kind (run ++ e ∷ [])
with_taken-of options kind run e =
    let dense = is_dense options kind in
    let table = table_of options run in
    let new = with_texts table (texts_of options e) in
    taken_by-push dense options table new (map (with_numbers options table) run) (with_numbers options new e)
    ∙ ap (taken_by dense options new)
    (sym (with_numbers-push options run e new (with_texts-begins table (texts_of options e))))
    ∙ ap (λ t. taken_by dense options t (map (with_numbers options t) (run ++ e ∷ [])))
    (sym (table_of-push options run e))

-- the number of a user stays where its entity's texts are taken, by whether metadata is left out
user-kept_by : (omitted : Bool) (table others last : List (List ℕ)) (user : List ℕ) →
    (if omitted then 0 else text_number (with_texts table ((if omitted then [] else user ∷ []) ++ others ++ last)) user)
    ≡ (if omitted then 0 else text_number table user)
user-kept_by true table others last user = refl
user-kept_by false table others last user =
    let one = with_text table user in
    text_number-begins one (with_texts one (others ++ last)) user (with_texts-begins one (others ++ last))
    (is_in-with_text table user) ∙ text_number-with_text table user

-- the number of a user stays where its entity's texts are taken
pub user-kept : (options : PbfOptions) (table new : List (List ℕ)) (e : EntityValue) →
    new ≡ with_texts table (texts_of options e) →
    user_number options table e.user ≡ user_number options new e.user
user-kept options table new e is =
    sym
    (ap (λ t. user_number options t e.user) is
    ∙ user-kept_by options.omitmetadata table (flat_map tag_texts e.tags) (role_texts e.body) e.user)
