-- What the fields of a message say: the last entry of a number, repeated numbers, and bytes in order.
-- None stands for a message that isn't well formed.
-- Here the entries of each field are looked up in the whole list; the code goes through the fields once.
use Rattle.std.specs.Prelude.{ℕ, List, [], ◌∷◌, ◌==◌, Option, Some, None, map, filter}
use Rattle.std.specs.List.{concat}
use Rattle.std.specs.Option.{option_map}
use Rattle.osm_wire.specs.declared.error.WireError.{WireError}
use Rattle.osm_wire.specs.Pieces.{Pieces}
use Rattle.osm_wire.specs.Messages.{FieldValue, Payload, Varint, Fixed64, Bytes, Fixed32, good_front, packed_pieces}

infixl 10 ◌>>=◌
-- a value handed on, where there is one
abbrev pub ◌>>=◌ : {A B : Type 0} → Option A → (A → Option B) → Option B
None >>= next = None
(Some x) >>= next = next x

-- a value, where nothing is refused
abbrev pub unless_refused : {T : Type 0} → Option WireError → T → Option T
unless_refused None x = Some x
unless_refused (Some error) x = None

-- the pieces, where they are all the bytes
abbrev pub whole_pieces : {T : Type 0} → Pieces T → Option (List T)
whole_pieces pieces = unless_refused pieces.fault pieces.items

-- the fields of a message, where it is well formed
abbrev pub message_fields : List ℕ → Option (List FieldValue)
message_fields message = whole_pieces (good_front message)

-- what every element says, in order, where each says something
abbrev pub all_said : {A B : Type 0} → (A → Option B) → List A → Option (List B)
all_said says [] = Some []
all_said says (x ∷ xs) = do
  first ← says x
  rest ← all_said says xs
  Some (first ∷ rest)

-- a payload as a number
abbrev pub as_number : Payload → Option ℕ
as_number (Varint n) = Some n
as_number (Fixed64 eight) = None
as_number (Bytes content) = None
as_number (Fixed32 four) = None

-- a payload as bytes
abbrev pub as_bytes : Payload → Option (List ℕ)
as_bytes (Varint n) = None
as_bytes (Fixed64 eight) = None
as_bytes (Bytes content) = Some content
as_bytes (Fixed32 four) = None

-- a payload as numbers: one, or some packed
abbrev pub as_numbers : Payload → Option (List ℕ)
as_numbers (Varint n) = Some (n ∷ [])
as_numbers (Fixed64 eight) = None
as_numbers (Bytes content) = whole_pieces (packed_pieces content)
as_numbers (Fixed32 four) = None

-- the payloads of the entries of a field, in order
abbrev pub payloads_of : ℕ → List FieldValue → List Payload
payloads_of number fields = map (λ field. field.value) (filter (λ field. field.number == number) fields)

-- the last of some values, or this one where there is none
abbrev pub last_or : {T : Type 0} → T → List T → T
last_or absent [] = absent
last_or absent (x ∷ xs) = last_or x xs

-- what the last entry of a field says, or this where it isn't given
abbrev pub last_entry : {T : Type 0} → (Payload → Option T) → T → ℕ → List FieldValue → Option T
last_entry says absent number fields = option_map (last_or absent) (all_said says (payloads_of number fields))

-- a field that holds one number: that of its last entry, or this where it isn't given
abbrev pub scalar : ℕ → ℕ → List FieldValue → Option ℕ
scalar absent number fields = last_entry as_number absent number fields

-- a field that holds one number, if it is given: that of its last entry, or this where it isn't given
abbrev pub number_given : Option ℕ → ℕ → List FieldValue → Option (Option ℕ)
number_given absent number fields = last_entry (λ payload. option_map Some (as_number payload)) absent number fields

-- a field that holds bytes, if it is given: those of its last entry, or this where it isn't given
abbrev pub bytes_given : Option (List ℕ) → ℕ → List FieldValue → Option (Option (List ℕ))
bytes_given absent number fields = last_entry (λ payload. option_map Some (as_bytes payload)) absent number fields

-- a field that holds one number and has to be given
abbrev pub needed : ℕ → List FieldValue → Option ℕ
needed number fields = number_given None number fields >>= (λ given. given)

-- a repeated field of numbers: the numbers of all its entries joined, packed or not
abbrev pub repeated : ℕ → List FieldValue → Option (List ℕ)
repeated number fields = option_map concat (all_said as_numbers (payloads_of number fields))

-- a repeated field of bytes, texts or messages: each entry as it is
abbrev pub all_bytes : ℕ → List FieldValue → Option (List (List ℕ))
all_bytes number fields = all_said as_bytes (payloads_of number fields)

-- a repeated field of messages: what each says
abbrev pub messages : {T : Type 0} → (List ℕ → Option T) → ℕ → List FieldValue → Option (List T)
messages says number fields = all_bytes number fields >>= all_said says

-- at most one value
abbrev pub at_most_one : {T : Type 0} → List T → Option (Option T)
at_most_one [] = Some None
at_most_one (x ∷ []) = Some (Some x)
at_most_one (x ∷ y ∷ more) = None

-- the bytes of a field that is given at most once
abbrev pub single_bytes : ℕ → List FieldValue → Option (Option (List ℕ))
single_bytes number fields = all_bytes number fields >>= at_most_one

-- what a message says, or this where there is none
abbrev pub said_or : {T : Type 0} → T → (List ℕ → Option T) → Option (List ℕ) → Option T
said_or absent says None = Some absent
said_or absent says (Some message) = says message

-- a field of a message that is given at most once: what it says, or this where it isn't given
abbrev pub singular : {T : Type 0} → T → (List ℕ → Option T) → ℕ → List FieldValue → Option T
singular absent says number fields = single_bytes number fields >>= said_or absent says
