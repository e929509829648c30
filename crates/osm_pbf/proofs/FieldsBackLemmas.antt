-- What a message says that was written of fields: each field by the payloads of its number.
use Rattle.std.proofs.Common.{◌≡◌, ◌∙◌, ◌<◌, ◌≤◌, ◌+◌, ◌*◌, ◌^◌, ◌++◌, ◌∷◌, [], ℕ, List, Option, Some, length, map, refl, ap, arith, append-nil}
use Rattle.std.specs.Prelude.{All, ◌==◌, filter}
use Rattle.std.specs.List.{AllByRecursion as Each, concat}
use Rattle.std.specs.Option.{option_map}
use Rattle.std.proofs.lemmas.Bool.{eq-eqb, ne_eqb}
use Rattle.std.proofs.lemmas.List.{length-append, map-append}
use Rattle.std.proofs.lemmas.List.Elements.{All-cons, All-from_recursion, All-nil, filter-append}
use Rattle.osm_wire.specs.Entries.{all_said, as_numbers, message_fields, needed, payloads_of, repeated, scalar, singular}
use Rattle.osm_wire.specs.Messages.{Bytes, FieldValue, Fixed32, Fixed64, IsFieldNumber, Payload, Varint}
use Rattle.osm_wire.specs.Written.{IsField, IsPayload, packed, shortest_varint, written_field, written_message}
use Rattle.osm_wire.proofs.WrittenLemmas.{packed-pieces, written_message-fields}
use Rattle.osm_block_write.specs.Columns.{bytes_field, packed_field}
use Rattle.osm_pbf.proofs.SizeLemmas.{message-next}

-- a payload is good to write, where its bytes are few: a number has 64 bits
abbrev pub IsSoundPayload : Payload → Type 0
IsSoundPayload (Varint n) = n < 2 ^ 64
IsSoundPayload (Fixed64 eight) = length eight ≡ 8
IsSoundPayload (Bytes content) = Unit {0}
IsSoundPayload (Fixed32 four) = length four ≡ 4

-- a field is good to write, where its bytes are few
abbrev pub IsSound : FieldValue → Type 0
IsSound field = IsFieldNumber field.number × IsSoundPayload field.value

-- fields are
abbrev pub AreSound : List FieldValue → Type 0
AreSound fields = Each IsSound fields

-- what holds of each of two lists holds of each of both
pub each-append : {T : Type 0} (P : T → Type 0) (first more : List T) → Each P first → Each P more →
    Each P (first ++ more)
each-append P [] more one all = all
each-append P (x ∷ first) more one all = (one.0, each-append P first more one.1 all)

-- what holds of what each element becomes holds of each of the map
pub each-map : {S T : Type 0} (P : T → Type 0) (f : S → T) (items : List S) → Each (λ x. P (f x)) items →
    Each P (map f items)
each-map P f [] all = tt
each-map P f (x ∷ items) all = (all.0, each-map P f items all.1)

-- what follows for each element holds of each
pub each-weaker : {T : Type 0} (P Q : T → Type 0) (items : List T) → ((x : T) → P x → Q x) → Each P items →
    Each Q items
each-weaker P Q [] then all = tt
each-weaker P Q (x ∷ items) then all = (then x all.0, each-weaker P Q items then all.1)

-- bytes in a field have no more bytes than the field
pub bytes-within : (number : ℕ) (content : List ℕ) →
    length content ≤ length (written_field (bytes_field number content))
bytes-within number content = omega (
  arith,
  length-append (shortest_varint (number * 8 + 2)) (shortest_varint (length content) ++ content),
  length-append (shortest_varint (length content)) content,
)

-- a payload that is good to write can be written, where its field has few bytes
payload-fits : (number : ℕ) (payload : Payload) → IsSoundPayload payload →
    length (written_field (record { number = number; value = payload })) < 2 ^ 64 → IsPayload payload
payload-fits number (Varint n) sound few = sound
payload-fits number (Fixed64 eight) sound few = sound
payload-fits number (Bytes content) sound few = omega (arith, few, bytes-within number content)
payload-fits number (Fixed32 four) sound few = sound

-- fields that are good to write can be written, where their bytes are few
fields-fit : (fields : List FieldValue) → AreSound fields → length (written_message fields) < 2 ^ 64 →
    All IsField fields
fields-fit [] sound few = All-nil IsField
fields-fit (field ∷ fields) sound few =
    All-cons IsField field fields
    (sound.0.0, payload-fits field.number field.value sound.0.1 (omega (arith, few, message-next field fields)))
    (fields-fit fields sound.1 (omega (arith, few, message-next field fields)))

-- a written message of few bytes says its fields
pub message-back : (fields : List FieldValue) → AreSound fields → length (written_message fields) < 2 ^ 64 →
    message_fields (written_message fields) ≡ Some fields
message-back fields sound few = written_message-fields fields (fields-fit fields sound few)

-- the payloads of fields and of more are those of both
pub payloads-append : (number : ℕ) (first more : List FieldValue) →
    payloads_of number (first ++ more) ≡ payloads_of number first ++ payloads_of number more
payloads-append number first more =
    ap (map (λ field. field.value)) (filter-append (λ field. field.number == number) first more)
    ∙ map-append (λ field. field.value) (filter (λ field. field.number == number) first)
    (filter (λ field. field.number == number) more)

-- fields without one of a number, before others
pub payloads-behind : (number : ℕ) (first more : List FieldValue) → payloads_of number first ≡ [] →
    payloads_of number (first ++ more) ≡ payloads_of number more
payloads-behind number first more none =
    payloads-append number first more ∙ ap (λ list. list ++ payloads_of number more) none

-- fields before others without one of a number
pub payloads-before : (number : ℕ) (first more : List FieldValue) → payloads_of number more ≡ [] →
    payloads_of number (first ++ more) ≡ payloads_of number first
payloads-before number first more none =
    payloads-append number first more ∙ ap (λ list. payloads_of number first ++ list) none
    ∙ append-nil (payloads_of number first)

-- neither of two has one
pub payloads-neither : (number : ℕ) (first more : List FieldValue) → payloads_of number first ≡ [] →
    payloads_of number more ≡ [] → payloads_of number (first ++ more) ≡ []
payloads-neither number first more one none = payloads-behind number first more one ∙ none

-- the payload of packed numbers; none where there are no numbers
abbrev pub packed_payload : List ℕ → List Payload
packed_payload [] = []
packed_payload (n ∷ more) = Bytes (packed (n ∷ more)) ∷ []

-- packed numbers are the payload of their field
pub packed-own : (number : ℕ) (numbers : List ℕ) →
    payloads_of number (packed_field number numbers) ≡ packed_payload numbers
packed-own number [] = refl
packed-own number (n ∷ more) = rw (eq-eqb number number refl) refl

-- and of no other
pub packed-other : (number other : ℕ) (numbers : List ℕ) → (other ≡ number → ⊥) →
    payloads_of number (packed_field other numbers) ≡ []
packed-other number other [] differ = refl
packed-other number other (n ∷ more) differ = rw (ne_eqb other number differ) refl

-- packed numbers are good to write
pub packed-sound : (number : ℕ) (numbers : List ℕ) → IsFieldNumber number → AreSound (packed_field number numbers)
packed-sound number [] fits = tt
packed-sound number (n ∷ more) fits = ((fits, tt), tt)

-- packed numbers are read back
packed-said : (numbers : List ℕ) → Each (λ n. n < 2 ^ 64) numbers →
    option_map concat (all_said as_numbers (packed_payload numbers)) ≡ Some numbers
packed-said [] fit = refl
packed-said (n ∷ more) fit =
    rw (packed-pieces (n ∷ more) (All-from_recursion (λ n. n < 2 ^ 64) (n ∷ more) fit))
    (ap Some (append-nil (n ∷ more)))

-- a repeated field says its numbers
pub repeated-back : (number : ℕ) (fields : List FieldValue) (numbers : List ℕ) →
    payloads_of number fields ≡ packed_payload numbers → Each (λ n. n < 2 ^ 64) numbers →
    repeated number fields ≡ Some numbers
repeated-back number fields numbers is fit =
    ap (λ payloads. option_map concat (all_said as_numbers payloads)) is ∙ packed-said numbers fit

-- a field of one number says it
pub scalar-back : (absent number : ℕ) (fields : List FieldValue) (n : ℕ) → payloads_of number fields ≡ Varint n ∷ [] →
    scalar absent number fields ≡ Some n
scalar-back absent number fields n is =
    rw is refl

-- a field of one number that has to be given says it
pub needed-back : (number : ℕ) (fields : List FieldValue) (n : ℕ) → payloads_of number fields ≡ Varint n ∷ [] →
    needed number fields ≡ Some n
needed-back number fields n is = rw is refl

-- a field of one message that isn't given
pub singular-none : {T : Type 0} (absent : T) (says : List ℕ → Option T) (number : ℕ) (fields : List FieldValue) →
    payloads_of number fields ≡ [] → singular absent says number fields ≡ Some absent
singular-none absent says number fields is = rw is refl

-- a field of one message says what the message says
pub singular-back : {T : Type 0} (absent : T) (says : List ℕ → Option T) (number : ℕ) (fields : List FieldValue)
    (content : List ℕ) → payloads_of number fields ≡ Bytes content ∷ [] →
    singular absent says number fields ≡ says content
singular-back absent says number fields content is = rw is refl
