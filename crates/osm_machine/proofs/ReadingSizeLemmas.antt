-- A raw PBF file has no more items than bytes: each has a byte of its own in its message.
use Rattle.std.proofs.Common.{◌≡◌, ℕ, zero, suc, ℤ, pos, ◌+◌, ◌≤◌, List, [], ◌∷◌, ◌++◌, length, map, drop, Bool, true, false, Option, Some, None, refl, sym, ap, subst, ◌∙◌, arith}
use Rattle.std.specs.Prelude.{◌==◌, ◌+ℤ◌, not, filter, if◌then◌else◌, Result, Ok, Err}
use Rattle.std.specs.Int.{Width, int_wrap, w64}
use Rattle.std.specs.List.{concat, list_all, range_with_len}
use Rattle.std.specs.Option.{option_map}
use Rattle.std.specs.Str.{is_utf8}
use Rattle.std.proofs.lemmas.Bool.{ne_eqb}
use Rattle.std.proofs.lemmas.List.{length-append, length-drop, length-map}
use Rattle.std.proofs.lemmas.List.FromFn.{length-map-range_with_len}
use Rattle.osm_entity.specs.Items.{ItemValue}
use Rattle.osm_entity.specs.Readings.{Reading}
use Rattle.osm_entity.specs.declared.verdict.Cause.{Cause}
use Rattle.osm_entity.specs.declared.verdict.Cause.TheVariants.{BadText}
use Rattle.osm_entity.specs.declared.verdict.Spot.{Spot}
use Rattle.osm_entity.specs.declared.verdict.Spot.TheVariants.{Blob}
use Rattle.osm_wire.specs.Entries.{◌>>=◌, all_bytes, all_said, as_bytes, as_numbers, at_most_one, message_fields, messages, payloads_of, repeated, said_or, scalar, singular, single_bytes, whole_pieces}
use Rattle.osm_wire.specs.Integers.{unzigzagged}
use Rattle.osm_wire.specs.Messages.{FieldValue, Payload, Varint, Fixed64, Bytes, Fixed32, SpellsField, SpellsPayload, field_tag, good_front, leading_field, packed_pieces}
use Rattle.osm_wire.specs.Pieces.{Pieces, SpellsAll}
use Rattle.osm_wire.specs.Refusals.{RefusesField, RefusesNumber}
use Rattle.osm_wire.specs.Varints.{SpellsNumber, leading_number}
use Rattle.osm_wire.specs.declared.error.WireError.{WireError}
use Rattle.osm_wire.proofs.FieldLemmas.{fields_read, numbers_read}
use Rattle.osm_wire.proofs.NumberLemmas.{SpellsNumber-some}
use Rattle.osm_wire.proofs.PiecesLemmas.{pieces_of-good}
use Rattle.osm_blob.specs.Frames.{FrameStart, Frames, FramesStop, first_start, frames_from, frames_within, leading_frame_before, next_start}
use Rattle.osm_blob.specs.Leading.{LeadingFrame, Short, Whole, Faulty, leading_frame, leading_frame_size}
use Rattle.osm_blob.specs.declared.messages.What.{What}
use Rattle.osm_blob.specs.declared.messages.What.TheVariants.{Header, Block, Other}
use Rattle.osm_blob.specs.declared.reading.Frame.{Frame}
use Rattle.osm_blob.proofs.LeadingLemmas.{leading_frame-size}
use Rattle.osm_block_read.specs.Block.{Block as BlockValue, Group, all_entries, block, block_or_cause, block_said, checked_block, dense_in, dense_part, group, group_entries, items_or_cause, joined}
use Rattle.osm_block_read.specs.Dense.{Dense, are_lengths_fit, dense, dense_entries, dense_entry_at, dense_info, no_dense_info, tags_of_all}
use Rattle.osm_block_read.specs.Entries.{Entry, SettingValue, entry_item}
use Rattle.osm_block_read.specs.Faults.{entries_fault, entries_said, unless}
use Rattle.osm_block_read.specs.Header.{header_fault}
use Rattle.osm_block_read.specs.Numbers.{running, summed}
use Rattle.osm_block_read.specs.Plain.{node_entry, relation_entry, way_entry}
use Rattle.osm_block_read.specs.Strings.{table_texts}
use Rattle.osm_pbf.specs.Reading.{frame_said, header_came, no_items_or, pbf_reading, read_frames, said_before}

-- ---- bytes of fields

-- the least bytes of a payload and its tag
abbrev payload_size : Payload → ℕ
payload_size (Varint n) = 1
payload_size (Fixed64 eight) = 0
payload_size (Bytes content) = suc (length content)
payload_size (Fixed32 four) = 0

-- those of payloads
abbrev payloads_size : List Payload → ℕ
payloads_size [] = 0
payloads_size (payload ∷ more) = payload_size payload + payloads_size more

-- those of fields
abbrev fields_size : List FieldValue → ℕ
fields_size [] = 0
fields_size (field ∷ more) = payload_size field.value + fields_size more

payload_few : (bytes : List ℕ) (payload : Payload) → SpellsPayload bytes payload → payload_size payload ≤ length bytes + 1
payload_few bytes (Varint n) s = omega arith
payload_few bytes (Fixed64 eight) s = omega arith
payload_few bytes (Bytes content) s = omega (arith, ap length s.1, length-append s.0 content)
payload_few bytes (Fixed32 four) s = omega arith

field_few : (bytes : List ℕ) (field : FieldValue) → SpellsField bytes field → payload_size field.value ≤ length bytes
field_few bytes field s =
    omega (
      arith,
      payload_few s.payload field.value s.held,
      SpellsNumber-some s.tag (field_tag field) s.tagged,
      ap length s.joined,
      length-append s.tag s.payload,
    )

fields_few : (bytes : List ℕ) (fields : List FieldValue) → SpellsAll SpellsField bytes fields →
    fields_size fields ≤ length bytes
fields_few bytes [] s = omega arith
fields_few bytes (field ∷ fields) s =
    omega (arith, ap length s.2, length-append s.0 s.1, field_few s.0 field s.3, fields_few s.1 fields s.4)

numbers_few : (bytes numbers : List ℕ) → SpellsAll SpellsNumber bytes numbers → length numbers ≤ length bytes
numbers_few bytes [] s = omega arith
numbers_few bytes (number ∷ numbers) s =
    omega (arith, ap length s.2, length-append s.0 s.1, SpellsNumber-some s.0 number s.3, numbers_few s.1 numbers s.4)

-- the pieces, where they are all the bytes
whole_items : {T : Type 0} (pieces : Pieces T) (items : List T) → whole_pieces pieces ≡ Some items → pieces.items ≡ items
whole_items pieces items is = by pieces.fault is where
  by : (fault : Option WireError) → whole_pieces (record { items = pieces.items; fault = fault }) ≡ Some items →
      pieces.items ≡ items
  by None is = cc
  by (Some error) is = cc

-- the fields of a message have no more bytes than it
message_few : (bytes : List ℕ) (fields : List FieldValue) → message_fields bytes ≡ Some fields →
    fields_size fields ≤ length bytes
message_few bytes fields is =
    let good = pieces_of-good leading_field SpellsField RefusesField fields_read bytes in
    let few : fields_size (good_front bytes).items ≤ length good.before = fields_few good.before _ good.spelled in
    omega (
      arith,
      few,
      ap fields_size (whole_items (good_front bytes) fields is),
      ap length good.joined,
      length-append good.before good.rest,
    )

-- the numbers of a packed payload are no more than its bytes
packed_few : (bytes numbers : List ℕ) → whole_pieces (packed_pieces bytes) ≡ Some numbers →
    length numbers ≤ length bytes
packed_few bytes numbers is =
    let good = pieces_of-good leading_number SpellsNumber RefusesNumber numbers_read bytes in
    let few : length (packed_pieces bytes).items ≤ length good.before = numbers_few good.before _ good.spelled in
    omega (
      arith,
      few,
      ap length (whole_items (packed_pieces bytes) numbers is),
      ap length good.joined,
      length-append good.before good.rest,
    )

-- the bytes of the payloads of one number
abbrev size_at : ℕ → List FieldValue → ℕ
size_at number fields = payloads_size (payloads_of number fields)

-- what a field adds to those of a number
size_at-step : (number : ℕ) (field : FieldValue) (fields : List FieldValue) →
    size_at number (field ∷ fields)
    ≡ (if field.number == number then payload_size field.value else 0) + size_at number fields
size_at-step number field fields = by (field.number == number) refl where
  by : (same : Bool) → (field.number == number) ≡ same →
      payloads_size (map (λ (f : FieldValue). f.value)
      (if same then field ∷ filter (λ (f : FieldValue). f.number == number) fields
      else filter (λ (f : FieldValue). f.number == number) fields))
      ≡ (if same then payload_size field.value else 0) + size_at number fields
  by true is = refl
  by false is = omega arith

-- a field is of one number
one_number : (number size : ℕ) → (if number == 1 then size else 0) + (if number == 2 then size else 0)
    + (if number == 3 then size else 0) + (if number == 4 then size else 0) ≤ size
one_number zero size = omega arith
one_number (suc zero) size = omega arith
one_number (suc (suc zero)) size = omega arith
one_number (suc (suc (suc zero))) size = omega arith
one_number (suc (suc (suc (suc zero)))) size = omega arith
one_number (suc (suc (suc (suc (suc n))))) size =
    rw (
      ne_eqb (suc (suc (suc (suc (suc n))))) 1 (λ is. omega (arith, is)),
      ne_eqb (suc (suc (suc (suc (suc n))))) 2 (λ is. omega (arith, is)),
      ne_eqb (suc (suc (suc (suc (suc n))))) 3 (λ is. omega (arith, is)),
      ne_eqb (suc (suc (suc (suc (suc n))))) 4 (λ is. omega (arith, is)),
    ) (omega arith)

-- the payloads of four numbers are among the fields
four_few : (fields : List FieldValue) →
    size_at 1 fields + size_at 2 fields + size_at 3 fields + size_at 4 fields ≤ fields_size fields
four_few [] = omega arith
four_few (field ∷ fields) =
    omega (
      arith,
      four_few fields,
      one_number field.number (payload_size field.value),
      size_at-step 1 field fields,
      size_at-step 2 field fields,
      size_at-step 3 field fields,
      size_at-step 4 field fields,
    )

-- ---- what fields say

-- what was handed on, where something came of it
bind-some : {A B : Type 0} (o : Option A) (next : A → Option B) (b : B) → (o >>= next) ≡ Some b →
    (a : A) × (o ≡ Some a) × (next a ≡ Some b)
bind-some None next b is = absurd cc
bind-some (Some a) next b is = (a, refl, is)

-- and what was mapped
map-some : {A B : Type 0} (f : A → B) (o : Option A) (b : B) → option_map f o ≡ Some b → (a : A) × (o ≡ Some a) × (f a ≡ b)
map-some f None b is = absurd cc
map-some f (Some a) b is = (a, refl, cc)

-- values that are there and equal are equal
some_is : {A : Type 0} (a b : A) → Some a ≡ Some b → a ≡ b
some_is a b is = cc

-- what the first of some elements says, and the others
said-cons : {A B : Type 0} (says : A → Option B) (x : A) (xs : List A) (ys : List B) →
    all_said says (x ∷ xs) ≡ Some ys →
    (y : B) × (rest : List B) × (says x ≡ Some y) × (all_said says xs ≡ Some rest) × (y ∷ rest ≡ ys)
said-cons says x xs ys is =
    let first = bind-some (says x) (λ y. all_said says xs >>= (λ rest. Some (y ∷ rest))) ys is in
    let others = bind-some (all_said says xs) (λ rest. Some (first.0 ∷ rest)) ys first.2 in
    (first.0, others.0, first.1, others.1, some_is (first.0 ∷ others.0) ys others.2)

-- each element says one thing
said-length : {A B : Type 0} (says : A → Option B) (xs : List A) (ys : List B) → all_said says xs ≡ Some ys →
    length ys ≡ length xs
said-length says [] ys is = let none : [] ≡ ys = cc in ap length (sym none)
said-length says (x ∷ xs) ys is =
    let said = said-cons says x xs ys is in
    omega (arith, ap length said.4, said-length says xs said.1 said.3)

-- the bytes of messages, with one more for each
abbrev contents_size : List (List ℕ) → ℕ
contents_size [] = 0
contents_size (content ∷ more) = suc (length content) + contents_size more

contents_count : (contents : List (List ℕ)) → length contents ≤ contents_size contents
contents_count [] = omega arith
contents_count (content ∷ contents) = omega (arith, contents_count contents)

bytes_few : (payload : Payload) (content : List ℕ) → as_bytes payload ≡ Some content →
    suc (length content) ≤ payload_size payload
bytes_few (Varint n) content is = absurd cc
bytes_few (Fixed64 eight) content is = absurd cc
bytes_few (Bytes held) content is = let same : held ≡ content = cc in omega (arith, ap length same)
bytes_few (Fixed32 four) content is = absurd cc

contents_few : (payloads : List Payload) (contents : List (List ℕ)) → all_said as_bytes payloads ≡ Some contents →
    contents_size contents ≤ payloads_size payloads
contents_few [] contents is = let none : [] ≡ contents = cc in omega (arith, ap contents_size none)
contents_few (payload ∷ payloads) contents is =
    let said = said-cons as_bytes payload payloads contents is in
    omega (arith, ap contents_size said.4, bytes_few payload said.0 said.2, contents_few payloads said.1 said.3)

numbers_in_few : (payload : Payload) (numbers : List ℕ) → as_numbers payload ≡ Some numbers →
    length numbers ≤ payload_size payload
numbers_in_few (Varint n) numbers is = let same : n ∷ [] ≡ numbers = cc in omega (arith, ap length same)
numbers_in_few (Fixed64 eight) numbers is = absurd cc
numbers_in_few (Bytes content) numbers is = omega (arith, packed_few content numbers is)
numbers_in_few (Fixed32 four) numbers is = absurd cc

concat_few : (payloads : List Payload) (lists : List (List ℕ)) → all_said as_numbers payloads ≡ Some lists →
    length (concat lists) ≤ payloads_size payloads
concat_few [] lists is = let none : [] ≡ lists = cc in omega (arith, ap (λ l. length (concat l)) none)
concat_few (payload ∷ payloads) lists is =
    let said = said-cons as_numbers payload payloads lists is in
    omega (
      arith,
      ap (λ l. length (concat l)) said.4,
      length-append said.0 (concat said.1),
      numbers_in_few payload said.0 said.2,
      concat_few payloads said.1 said.3,
    )

-- a repeated field has no more numbers than bytes
repeated_few : (number : ℕ) (fields : List FieldValue) (numbers : List ℕ) → repeated number fields ≡ Some numbers →
    length numbers ≤ size_at number fields
repeated_few number fields numbers is =
    let lists = map-some concat (all_said as_numbers (payloads_of number fields)) numbers is in
    omega (arith, concat_few (payloads_of number fields) lists.0 lists.1, ap length lists.2)

-- a repeated field of messages has no more of them than bytes
messages_few : {T : Type 0} (says : List ℕ → Option T) (number : ℕ) (fields : List FieldValue) (xs : List T) →
    messages says number fields ≡ Some xs → length xs ≤ size_at number fields
messages_few says number fields xs is =
    let contents = bind-some (all_bytes number fields) (all_said says) xs is in
    omega (
      arith,
      said-length says contents.0 xs contents.2,
      contents_count contents.0,
      contents_few (payloads_of number fields) contents.0 contents.1,
    )

-- ---- dense nodes

running-length : (from : ℤ) (xs : List ℤ) → length (running from xs) ≡ length xs
running-length from [] = refl
running-length from (x ∷ xs) = ap suc (running-length (from +ℤ x) xs)

summed-length : (w : Width) (xs : List ℤ) → length (summed w xs) ≡ length xs
summed-length w xs = length-map (running (pos 0) xs) (int_wrap w) ∙ running-length (pos 0) xs

-- there are no more dense nodes than bytes
dense_few : (bytes : List ℕ) (d : Dense) → dense bytes ≡ Some d → length d.ids ≤ length bytes
dense_few bytes d is =
    let fields = bind-some (message_fields bytes) _ d is in
    let ids = bind-some (repeated 1 fields.0) _ d fields.2 in
    let info = bind-some (singular no_dense_info dense_info 5 fields.0) _ d ids.2 in
    let lats = bind-some (repeated 8 fields.0) _ d info.2 in
    let lons = bind-some (repeated 9 fields.0) _ d lats.2 in
    let indexes = bind-some (repeated 10 fields.0) _ d lons.2 in
    let same = some_is _ d indexes.2 in
    let count : length d.ids ≡ length ids.0 =
    ap (λ (d : Dense). length d.ids) (sym same) ∙ summed-length w64 (map unzigzagged ids.0)
    ∙ length-map ids.0 unzigzagged in
    omega (arith, count, repeated_few 1 fields.0 ids.0 ids.1, four_few fields.0, message_few bytes fields.0 fields.1)

-- the ids of dense nodes that may be there
abbrev ids_in : Option Dense → List ℤ
ids_in None = []
ids_in (Some d) = d.ids

-- what a field that is given once says of dense nodes
one_dense_few : (contents : List (List ℕ)) (content : Option (List ℕ)) (one : Option Dense) →
    at_most_one contents ≡ Some content → said_or None dense_part content ≡ Some one →
    length (ids_in one) ≤ contents_size contents
one_dense_few [] content one once is =
    let none : None ≡ content = some_is None content once in
    let nothing : said_or None dense_part None ≡ Some one =
    subst (λ c. said_or None dense_part c ≡ Some one) (sym none) is in
    omega (arith, ap (λ one. length (ids_in one)) (some_is None one nothing))
one_dense_few (bytes ∷ []) content one once is =
    let held : Some bytes ≡ content = some_is (Some bytes) content once in
    let says : option_map Some (dense bytes) ≡ Some one =
    subst (λ c. said_or None dense_part c ≡ Some one) (sym held) is in
    let there = map-some Some (dense bytes) one says in
    omega (arith, dense_few bytes there.0 there.1, ap (λ one. length (ids_in one)) there.2)
one_dense_few (bytes ∷ other ∷ contents) content one once is = absurd cc

group_dense_few : (fields : List FieldValue) (one : Option Dense) → singular None dense_part 2 fields ≡ Some one →
    length (ids_in one) ≤ size_at 2 fields
group_dense_few fields one is =
    let content = bind-some (single_bytes 2 fields) (said_or None dense_part) one is in
    let contents = bind-some (all_bytes 2 fields) at_most_one content.0 content.1 in
    omega (
      arith,
      one_dense_few contents.0 content.0 one contents.2 content.2,
      contents_few (payloads_of 2 fields) contents.0 contents.1,
    )

dense_entries_few : (d : Dense) (entries : List Entry) → dense_entries d ≡ Some entries →
    length entries ≡ length d.ids
dense_entries_few d entries is = by (are_lengths_fit d) is where
  by : (fit : Bool) → (if fit
      then option_map (λ each. map (dense_entry_at d each) (range_with_len 0 (length d.ids)))
      (tags_of_all (length d.ids) d.keys_vals)
      else None) ≡ Some entries → length entries ≡ length d.ids
  by true is =
      let each = map-some (λ each. map (dense_entry_at d each) (range_with_len 0 (length d.ids)))
      (tags_of_all (length d.ids) d.keys_vals) entries is in
      ap length (sym each.2) ∙ length-map-range_with_len (dense_entry_at d each.0) 0 (length d.ids)
  by false is = absurd cc

dense_in_few : (one : Option Dense) (entries : List Entry) → dense_in one ≡ Some entries →
    length entries ≡ length (ids_in one)
dense_in_few None entries is = ap length (sym (some_is [] entries is))
dense_in_few (Some d) entries is = dense_entries_few d entries is

-- ---- groups and blocks

-- how many entries a group has
group_count : (nodes even ways relations entries : List Entry) → nodes ++ even ++ ways ++ relations ≡ entries →
    length entries ≡ length nodes + length even + length ways + length relations
group_count nodes even ways relations entries is =
    omega (
      arith,
      ap length is,
      length-append (nodes ++ even ++ ways) relations,
      length-append (nodes ++ even) ways,
      length-append nodes even,
    )

-- a group has no more entries than bytes
group_few : (bytes : List ℕ) (g : Group) (entries : List Entry) → group bytes ≡ Some g →
    group_entries g ≡ Some entries → length entries ≤ length bytes
group_few bytes g entries is are =
    let fields = bind-some (message_fields bytes) _ g is in
    let nodes = bind-some (messages node_entry 1 fields.0) _ g fields.2 in
    let one = bind-some (singular None dense_part 2 fields.0) _ g nodes.2 in
    let ways = bind-some (messages way_entry 3 fields.0) _ g one.2 in
    let relations = bind-some (messages relation_entry 4 fields.0) _ g ways.2 in
    let same = some_is _ g relations.2 in
    let given : option_map (λ even. nodes.0 ++ even ++ ways.0 ++ relations.0) (dense_in one.0) ≡ Some entries =
    subst (λ g. group_entries g ≡ Some entries) (sym same) are in
    let even = map-some (λ even. nodes.0 ++ even ++ ways.0 ++ relations.0) (dense_in one.0) entries given in
    omega (
      arith,
      group_count nodes.0 even.0 ways.0 relations.0 entries even.2,
      messages_few node_entry 1 fields.0 nodes.0 nodes.1,
      group_dense_few fields.0 one.0 one.1,
      dense_in_few one.0 even.0 even.1,
      messages_few way_entry 3 fields.0 ways.0 ways.1,
      messages_few relation_entry 4 fields.0 relations.0 relations.1,
      four_few fields.0,
      message_few bytes fields.0 fields.1,
    )

joined-some : (first later : Option (List Entry)) (entries : List Entry) → joined first later ≡ Some entries →
    (some : List Entry) × (more : List Entry) × (first ≡ Some some) × (later ≡ Some more) × (some ++ more ≡ entries)
joined-some None later entries is = absurd cc
joined-some (Some some) None entries is = absurd cc
joined-some (Some some) (Some more) entries is = (some, more, refl, refl, some_is (some ++ more) entries is)

groups_few : (contents : List (List ℕ)) (groups : List Group) (entries : List Entry) →
    all_said group contents ≡ Some groups → all_entries groups ≡ Some entries →
    length entries ≤ contents_size contents
groups_few [] groups entries is are =
    let none : [] ≡ groups = some_is [] groups is in
    omega (arith, ap length (some_is [] entries (subst (λ groups. all_entries groups ≡ Some entries) (sym none) are)))
groups_few (content ∷ contents) groups entries is are =
    let said = said-cons group content contents groups is in
    let both = joined-some (group_entries said.0) (all_entries said.1) entries
    (subst (λ groups. all_entries groups ≡ Some entries) (sym said.4) are) in
    omega (
      arith,
      ap length both.4,
      length-append both.0 both.1,
      group_few content said.0 both.0 said.2 both.2,
      groups_few contents said.1 both.1 said.3 both.3,
    )

-- a block has no more entries than bytes
block_few : (bytes : List ℕ) (b : BlockValue) (entries : List Entry) → block bytes ≡ Some b →
    all_entries b.groups ≡ Some entries → length entries ≤ length bytes
block_few bytes b entries is are =
    let fields = bind-some (message_fields bytes) _ b is in
    let given = bind-some (single_bytes 1 fields.0) _ b fields.2 in
    let table = bind-some given.0 _ b given.2 in
    let texts = bind-some (table_texts table.0) _ b table.2 in
    let groups = bind-some (messages group 2 fields.0) _ b texts.2 in
    let granularity = bind-some (scalar 100 17 fields.0) _ b groups.2 in
    let date = bind-some (scalar 1000 18 fields.0) _ b granularity.2 in
    let lat = bind-some (scalar 0 19 fields.0) _ b date.2 in
    let lon = bind-some (scalar 0 20 fields.0) _ b lat.2 in
    let same = some_is _ b lon.2 in
    let contents = bind-some (all_bytes 2 fields.0) (all_said group) groups.0 groups.1 in
    omega (
      arith,
      groups_few contents.0 groups.0 entries contents.2
          (subst (λ (b : BlockValue). all_entries b.groups ≡ Some entries) (sym same) are),
      contents_few (payloads_of 2 fields.0) contents.0 contents.1,
      four_few fields.0,
      message_few bytes fields.0 fields.1,
    )

entries_said_few : (s : SettingValue) (entries : List Entry) (items : List ItemValue) →
    entries_said s entries ≡ Ok items → length items ≡ length entries
entries_said_few s entries items is = by (entries_fault s entries) is where
  by : (fault : Option Cause) → unless fault (map (entry_item s) entries) ≡ Ok items → length items ≡ length entries
  by None is =
      let same : map (entry_item s) entries ≡ items = cc in ap length (sym same) ∙ length-map entries (entry_item s)
  by (Some cause) is = absurd cc

checked_few : (b : BlockValue) (items : List ItemValue) → checked_block b ≡ Ok items →
    (entries : List Entry) × (all_entries b.groups ≡ Some entries) × (length items ≡ length entries)
checked_few b items is = by (not (list_all is_utf8 b.setting.texts)) is where
  entries_by : (entries : Option (List Entry)) → items_or_cause b.setting entries ≡ Ok items →
      (some : List Entry) × (entries ≡ Some some) × (length items ≡ length some)
  entries_by None is = absurd cc
  entries_by (Some entries) is = (entries, refl, entries_said_few b.setting entries items is)

  by : (bad : Bool) → (if bad then Err BadText else items_or_cause b.setting (all_entries b.groups)) ≡ Ok items →
      (entries : List Entry) × (all_entries b.groups ≡ Some entries) × (length items ≡ length entries)
  by true is = absurd cc
  by false is = entries_by (all_entries b.groups) is

-- a block says no more items than it has bytes
block_said_few : (raw : List ℕ) (items : List ItemValue) → block_said raw ≡ Ok items → length items ≤ length raw
unfolding block_said
block_said_few raw items is = by (block raw) refl is where
  by : (b : Option BlockValue) → block raw ≡ b → block_or_cause b ≡ Ok items → length items ≤ length raw
  by None there is = absurd cc
  by (Some b) there is =
      let checked = checked_few b items is in
      omega (arith, checked.2, block_few raw b checked.0 there checked.1)

-- ---- frames

-- the raw contents of frames
abbrev raws_size : List Frame → ℕ
raws_size [] = 0
raws_size (frame ∷ more) = length frame.raw + raws_size more

header_few : (fault : Option Cause) (items : List ItemValue) → no_items_or fault ≡ Ok items → items ≡ []
header_few None items is = cc
header_few (Some cause) items is = absurd cc

-- a frame says no more items than its raw content has bytes
said_few : (came : Bool) (what : What) (raw : List ℕ) (items : List ItemValue) → frame_said came what raw ≡ Ok items →
    length items ≤ length raw
said_few came Header raw items is = omega (arith, ap length (header_few (header_fault raw) items is))
said_few true Block raw items is = block_said_few raw items is
said_few false Block raw items is = absurd cc
said_few true Other raw items is = let none : [] ≡ items = cc in omega (arith, ap length none)
said_few false Other raw items is = let none : [] ≡ items = cc in omega (arith, ap length none)

before_few : (spot : Spot) (said : Result (List ItemValue) Cause) (later : Reading) (most : ℕ) →
    ((items : List ItemValue) → said ≡ Ok items → length items ≤ most) →
    length (said_before spot said later).items ≤ most + length later.items
before_few spot (Ok items) later most few = omega (arith, few items refl, length-append items later.items)
before_few spot (Err cause) later most few = omega arith

read_few : (clean came : Bool) (next : FrameStart) (stop : FramesStop) (frames : List Frame) →
    length (read_frames clean came next stop frames).items ≤ raws_size frames
read_few clean came next stop [] = omega arith
read_few clean came next stop (frame ∷ frames) =
    omega (
      arith,
      before_few (Blob frame.number frame.byte) (frame_said came frame.what frame.raw)
          (read_frames clean (header_came came frame.what) next stop frames) (length frame.raw)
          (said_few came frame.what frame.raw),
      read_few clean (header_came came frame.what) next stop frames,
    )

before_frame_few : (start : FrameStart) (bytes : List ℕ) (leading : LeadingFrame) (later : Frames) →
    leading_frame bytes ≡ leading → raws_size later.frames ≤ length (drop (leading_frame_size leading) bytes) →
    raws_size (leading_frame_before start bytes leading later).frames ≤ length bytes
before_frame_few start bytes Short later is few = omega arith
before_frame_few start bytes (Whole what raw size) later is few =
    let sized = leading_frame-size bytes what raw size is in
    omega (arith, few, length-drop size bytes, sized.0, sized.1, sized.2)
before_frame_few start bytes (Faulty cause blamed) later is few = omega arith

within_few : (count : ℕ) (start : FrameStart) (bytes : List ℕ) →
    raws_size (frames_within count start bytes).frames ≤ length bytes
within_few zero start bytes = omega arith
within_few (suc count) start bytes =
    let size = leading_frame_size (leading_frame bytes) in
    before_frame_few start bytes (leading_frame bytes) (frames_within count (next_start start size) (drop size bytes)) refl
    (within_few count (next_start start size) (drop size bytes))

from_few : (start : FrameStart) (bytes : List ℕ) → raws_size (frames_from start bytes).frames ≤ length bytes
unfolding frames_from
from_few start bytes = within_few (length bytes) start bytes

-- a raw PBF file has no more items than bytes
pub pbf-few : (bytes : List ℕ) (clean : Bool) → length (pbf_reading bytes clean).items ≤ length bytes
unfolding pbf_reading
pbf-few bytes clean =
    let file : Frames = frames_from first_start bytes in
    omega (arith, read_few clean false file.next file.stop file.frames, from_few first_start bytes)
