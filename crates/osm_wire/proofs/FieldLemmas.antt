-- How the field at the beginning of bytes follows from what they spell, and why there is none.
use Rattle.std.proofs.Common.{◌≡◌, ◌∙◌, ◌<◌, ◌≤◌, ◌-◌, ◌+◌, ◌*◌, ◌/◌, ◌%◌, ◌++◌, ℕ, List, Option, Result, Ok, Err, Some, None, length, take, drop, refl, ap, sym, subst, arith, append_assoc, length-append, length-drop}
use Rattle.std.proofs.lemmas.List.{drop_at, take-append-drop}
use Rattle.std.proofs.lemmas.Nat.{div-add-mod'}
use Rattle.osm_wire.specs.Messages.{FieldValue, Payload, SpellsField, field_behind, field_tag, leading_field, leading_payload, numbered_field, tag_fault, tagged_field, wire_type}
use Rattle.osm_wire.specs.Refusals.{RefusesField, RefusesNumber, no_tag, bad_tag, no_payload}
use Rattle.osm_wire.specs.Varints.{SpellsNumber, leading_number}
use Rattle.osm_wire.specs.declared.error.WireError.{WireError}
use Rattle.osm_wire.proofs.AnswerLemmas.{err_ok, same_error, same_value}
use Rattle.osm_wire.proofs.PiecesLemmas.{ReadsFirst}
use Rattle.osm_wire.proofs.NumberLemmas.{SpellsNumber-some, leading_number-read, leading_number-refused, leading_number-refuses, leading_number-spelled}
use Rattle.osm_wire.proofs.PayloadLemmas.{leading_payload-read, leading_payload-refused, leading_payload-refuses, leading_payload-spelled, take-add}
use Rattle.osm_wire.proofs.TagLemmas.{IsTag, IsTag-field, IsTag-from_none, IsWireType-payload, tag_fault-none}

-- the field behind a tag, by its parts
field_behind-parts : (tag number kind size more : ℕ) (bytes left : List ℕ) (payload : Payload) →
    tag_fault tag ≡ None → tag / 8 ≡ number →
    tag % 8 ≡ kind → drop size bytes ≡ left → leading_payload kind left ≡ Ok (payload, more) →
    field_behind (Ok (tag, size)) bytes ≡ Ok (record { number = number; value = payload }, size + more)
field_behind-parts tag number kind size more bytes left payload none is_number is_kind is_left read =
    rw (none, is_number, is_kind, is_left, read) refl

-- the field that bytes spell is read, whatever follows
pub leading_field-spelled : (bytes rest : List ℕ) (field : FieldValue) → SpellsField bytes field →
    leading_field (bytes ++ rest) ≡ Ok (field, length bytes)
unfolding leading_field
leading_field-spelled bytes rest field s =
    let tag : ℕ = field_tag field in
    let same : bytes ++ rest ≡ s.tag ++ (s.payload ++ rest) =
    ap (λ list. list ++ rest) s.joined ∙ append_assoc s.tag s.payload rest in
    let typed = IsWireType-payload field.value in
    let whole : length bytes ≡ length s.tag + length s.payload =
    ap (λ list. length list) s.joined ∙ length-append s.tag s.payload in
    ap (λ list. leading_field list) same
    ∙ ap (λ answer. field_behind answer (s.tag ++ (s.payload ++ rest)))
    (leading_number-spelled s.tag (s.payload ++ rest) (field_tag field) s.tagged)
    ∙ field_behind-parts (field_tag field) field.number (wire_type field.value) (length s.tag) (length s.payload)
    (s.tag ++ (s.payload ++ rest))
    (s.payload ++ rest) field.value (tag_fault-none (field_tag field) (IsTag-field field s.numbered))
    (omega (arith, typed.low)) (omega (arith, typed.low))
    (drop_at s.tag (s.payload ++ rest) (length s.tag) refl) (leading_payload-spelled s.payload rest field.value s.held)
    ∙ ap (λ size. Ok (field, size)) (sym whole)

-- a field was read
abbrev IsFieldRead : List ℕ → FieldValue × ℕ → Type 0
IsFieldRead bytes cut = (cut.1 ≤ length bytes) × SpellsField (take cut.1 bytes) cut.0

-- a field that is read was spelled, by its payload
numbered_field-read : (bytes : List ℕ) (tag size : ℕ) (cut : FieldValue × ℕ) (answer : Result (Payload × ℕ) WireError) →
    (size ≤ length bytes) × SpellsNumber (take size bytes) tag → IsTag tag →
    leading_payload (tag % 8) (drop size bytes) ≡ answer →
    numbered_field (tag / 8) size answer ≡ Ok cut → IsFieldRead bytes cut
numbered_field-read bytes tag size cut (Err error) read good found is = absurd (err_ok is)
numbered_field-read bytes tag size cut (Ok (payload, more)) read good found is =
    let held = leading_payload-read (drop size bytes) (payload, more) (tag % 8) good.typed found in
    let left : length (drop size bytes) ≡ length bytes - size = length-drop size bytes in
    let whole : tag / 8 * 8 + tag % 8 ≡ tag = div-add-mod' tag 8 in
    let same : tag ≡ tag / 8 * 8 + wire_type payload = omega (arith, whole, held.1) in
    let spelled : SpellsField (take (size + more) bytes) (record { number = tag / 8; value = payload }) = record {
      tag = take size bytes;
      payload = take more (drop size bytes);
      joined = take-add size more bytes;
      numbered = (omega (arith, good.numbered), omega (arith, good.fits));
      tagged = subst (λ (n : ℕ). SpellsNumber (take size bytes) n) same read.1;
      held = held.2;
    } in
    subst (λ (c : FieldValue × ℕ). IsFieldRead bytes c) (same_value is) (omega (arith, held.0, left, read.0), spelled)

-- by the fault of its tag
tagged_field-read : (bytes : List ℕ) (tag size : ℕ) (cut : FieldValue × ℕ) (fault : Option WireError) →
    (size ≤ length bytes) × SpellsNumber (take size bytes) tag → tag_fault tag ≡ fault →
    tagged_field fault tag size bytes ≡ Ok cut → IsFieldRead bytes cut
tagged_field-read bytes tag size cut (Some error) read found is = absurd (err_ok is)
tagged_field-read bytes tag size cut None read found is =
    numbered_field-read bytes tag size cut (leading_payload (tag % 8) (drop size bytes)) read
    (IsTag-from_none tag found) refl is

-- by its tag
field_behind-read : (bytes : List ℕ) (cut : FieldValue × ℕ) (answer : Result (ℕ × ℕ) WireError) →
    leading_number bytes ≡ answer →
    field_behind answer bytes ≡ Ok cut → IsFieldRead bytes cut
field_behind-read bytes cut (Err error) found is = absurd (err_ok is)
field_behind-read bytes cut (Ok (tag, size)) found is =
    tagged_field-read bytes tag size cut (tag_fault tag) (leading_number-read bytes tag size found) refl is

-- a field that is read was spelled
pub leading_field-read : (bytes : List ℕ) (field : FieldValue) (size : ℕ) → leading_field bytes ≡ Ok (field, size) →
    (size ≤ length bytes) × SpellsField (take size bytes) field
unfolding leading_field
leading_field-read bytes field size is = field_behind-read bytes (field, size) (leading_number bytes) refl is

-- what is refused as a field is answered so
pub leading_field-refused : (bytes : List ℕ) (error : WireError) → RefusesField bytes error →
    leading_field bytes ≡ Err error
unfolding leading_field
leading_field-refused bytes error (no_tag is) =
    ap (λ answer. field_behind answer bytes) (leading_number-refused bytes error is)
leading_field-refused bytes error (bad_tag {tag} {n} rest spelled fault) =
    ap (λ answer. field_behind answer (tag ++ rest)) (leading_number-spelled tag rest n spelled)
    ∙ ap (λ found. tagged_field found n (length tag) (tag ++ rest)) fault
leading_field-refused bytes error (no_payload {tag} {n} rest spelled none is) =
    ap (λ answer. field_behind answer (tag ++ rest)) (leading_number-spelled tag rest n spelled)
    ∙ ap (λ found. tagged_field found n (length tag) (tag ++ rest)) none
    ∙ ap (λ left. numbered_field (n / 8) (length tag) (leading_payload (n % 8) left))
    (drop_at tag rest (length tag) refl)
    ∙ ap (λ answer. numbered_field (n / 8) (length tag) answer) (leading_payload-refused (n % 8) rest error is)

-- an error of a field is refused, by its payload
numbered_field-refuses : (bytes : List ℕ) (tag size : ℕ) (error : WireError) (answer : Result (Payload × ℕ) WireError) →
    (size ≤ length bytes) × SpellsNumber (take size bytes) tag → tag_fault tag ≡ None →
    leading_payload (tag % 8) (drop size bytes) ≡ answer →
    numbered_field (tag / 8) size answer ≡ Err error → RefusesField bytes error
numbered_field-refuses bytes tag size error (Ok (payload, more)) read none found is = absurd (err_ok (sym is))
numbered_field-refuses bytes tag size error (Err other) read none found is =
    let good = IsTag-from_none tag none in
    let refused =
    leading_payload-refuses (drop size bytes) error (tag % 8) good.typed (found ∙ ap (λ e. Err e) (same_error is)) in
    subst (λ (list : List ℕ). RefusesField list error) (take-append-drop size bytes)
    (no_payload (drop size bytes) read.1 none refused)

-- by the fault of its tag
tagged_field-refuses : (bytes : List ℕ) (tag size : ℕ) (error : WireError) (fault : Option WireError) →
    (size ≤ length bytes) × SpellsNumber (take size bytes) tag → tag_fault tag ≡ fault →
    tagged_field fault tag size bytes ≡ Err error → RefusesField bytes error
tagged_field-refuses bytes tag size error (Some other) read found is =
    subst (λ (list : List ℕ). RefusesField list error) (take-append-drop size bytes)
    (bad_tag (drop size bytes) read.1 (found ∙ ap (λ e. Some e) (same_error is)))
tagged_field-refuses bytes tag size error None read found is =
    numbered_field-refuses bytes tag size error (leading_payload (tag % 8) (drop size bytes)) read found refl is

-- by its tag
field_behind-refuses : (bytes : List ℕ) (error : WireError) (answer : Result (ℕ × ℕ) WireError) →
    leading_number bytes ≡ answer →
    field_behind answer bytes ≡ Err error → RefusesField bytes error
field_behind-refuses bytes error (Err other) found is =
    no_tag (leading_number-refuses bytes error (found ∙ ap (λ e. Err e) (same_error is)))
field_behind-refuses bytes error (Ok (tag, size)) found is =
    tagged_field-refuses bytes tag size error (tag_fault tag) (leading_number-read bytes tag size found) refl is

-- an error of a field is refused
pub leading_field-refuses : (bytes : List ℕ) (error : WireError) → leading_field bytes ≡ Err error →
    RefusesField bytes error
unfolding leading_field
leading_field-refuses bytes error is = field_behind-refuses bytes error (leading_number bytes) refl is

-- a spelled field has bytes
pub SpellsField-some : (bytes : List ℕ) (field : FieldValue) → SpellsField bytes field → 0 < length bytes
SpellsField-some bytes field s =
    let some = SpellsNumber-some s.tag (field_tag field) s.tagged in
    let whole : length bytes ≡ length s.tag + length s.payload =
    ap (λ list. length list) s.joined ∙ length-append s.tag s.payload in
    omega (arith, some, whole)

-- fields are read as they are spelled
pub fields_read : ReadsFirst leading_field SpellsField RefusesField
fields_read = record {
  some = SpellsField-some;
  spelled = leading_field-spelled;
  read = leading_field-read;
  refused = leading_field-refused;
  refuses = leading_field-refuses;
}

-- and numbers
pub numbers_read : ReadsFirst leading_number SpellsNumber RefusesNumber
numbers_read = record {
  some = SpellsNumber-some;
  spelled = leading_number-spelled;
  read = leading_number-read;
  refused = leading_number-refused;
  refuses = leading_number-refuses;
}
