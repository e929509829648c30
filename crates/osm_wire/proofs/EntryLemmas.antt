-- What fields say follows from the first of them and those after it.
use Rattle.std.proofs.Common.{◌≡◌, ◌∙◌, ◌∷◌, ℕ, List, Option, Some, None, refl, ap}
use Rattle.std.specs.Option.{option_map}
use Rattle.std.proofs.lemmas.Bool.{eq-eqb, ne_eqb}
use Rattle.osm_wire.specs.Entries.{◌>>=◌, all_said, last_entry, last_or, payloads_of}
use Rattle.osm_wire.specs.Messages.{FieldValue, Payload}

-- a field of the number comes first among its payloads
pub payloads_of-here : (number : ℕ) (field : FieldValue) (fields : List FieldValue) → field.number ≡ number →
    payloads_of number (field ∷ fields) ≡ field.value ∷ payloads_of number fields
payloads_of-here number field fields is = rw (eq-eqb field.number number is) refl

-- a field of another number isn't among them
pub payloads_of-other : (number : ℕ) (field : FieldValue) (fields : List FieldValue) → (field.number ≡ number → ⊥) →
    payloads_of number (field ∷ fields) ≡ payloads_of number fields
payloads_of-other number field fields other = rw (ne_eqb field.number number other) refl

-- what the first of some payloads says, before what the others say
pub all_said-here : {T : Type 0} (says : Payload → Option T) (x : T) (number : ℕ) (field : FieldValue)
    (fields : List FieldValue) → field.number ≡ number → says field.value ≡ Some x →
    all_said says (payloads_of number (field ∷ fields))
    ≡ (all_said says (payloads_of number fields) >>= (λ rest. Some (x ∷ rest)))
all_said-here says x number field fields is said = rw (payloads_of-here number field fields is, said) refl

-- where the first says nothing, they don't all say something
pub all_said-none : {T : Type 0} (says : Payload → Option T) (number : ℕ) (field : FieldValue)
    (fields : List FieldValue) → field.number ≡ number → says field.value ≡ None →
    all_said says (payloads_of number (field ∷ fields)) ≡ None
all_said-none says number field fields is said = rw (payloads_of-here number field fields is, said) refl

-- the last of one value and others
last-more : {T : Type 0} (absent x : T) (others : Option (List T)) →
    option_map (last_or absent) (others >>= (λ rest. Some (x ∷ rest))) ≡ option_map (last_or x) others
last-more absent x None = refl
last-more absent x (Some rest) = refl

-- the first entry of a field counts until another follows
pub last_entry-here : {T : Type 0} (says : Payload → Option T) (absent x : T) (number : ℕ) (field : FieldValue)
    (fields : List FieldValue) → field.number ≡ number → says field.value ≡ Some x →
    last_entry says absent number (field ∷ fields) ≡ last_entry says x number fields
last_entry-here says absent x number field fields is said =
    ap (λ values. option_map (last_or absent) values) (all_said-here says x number field fields is said)
    ∙ last-more absent x (all_said says (payloads_of number fields))

-- an entry that says nothing says nothing of the field
pub last_entry-none : {T : Type 0} (says : Payload → Option T) (absent : T) (number : ℕ) (field : FieldValue)
    (fields : List FieldValue) → field.number ≡ number → says field.value ≡ None →
    last_entry says absent number (field ∷ fields) ≡ None
last_entry-none says absent number field fields is said =
    ap (λ values. option_map (last_or absent) values) (all_said-none says number field fields is said)

-- a field of another number changes nothing
pub last_entry-other : {T : Type 0} (says : Payload → Option T) (absent : T) (number : ℕ) (field : FieldValue)
    (fields : List FieldValue) → (field.number ≡ number → ⊥) →
    last_entry says absent number (field ∷ fields) ≡ last_entry says absent number fields
last_entry-other says absent number field fields other =
    ap (λ payloads. option_map (last_or absent) (all_said says payloads)) (payloads_of-other number field fields other)
