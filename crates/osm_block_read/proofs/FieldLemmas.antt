-- What the entries of a field say, by the first field of its message.
use Rattle.std.proofs.Common.{◌≡◌, ◌∙◌, ◌∷◌, [], ℕ, List, Option, Some, None, IfNone, IfSome, unwrap_or, map, refl, sym, ap, subst}
use Rattle.std.specs.Option.{option_map}
use Rattle.osm_wire.proofs.EntryLemmas.{all_said-here, payloads_of-other}
use Rattle.osm_wire.specs.Entries.{◌>>=◌, all_said, all_bytes, as_bytes, as_number, last_or, number_given, payloads_of, scalar, whole_pieces}
use Rattle.osm_wire.specs.Messages.{FieldValue, Payload}
use Rattle.osm_wire.specs.declared.error.WireError.{WireError}
use Rattle.osm_block_read.specs.Told.{EntriesValue, IsNextEntry, behind}
use Rattle.osm_block_read.proofs.OptionLemmas.{bind-map}

-- the bytes of all entries, by the first field
pub all_bytes-other : (number : ℕ) (field : FieldValue) (fields : List FieldValue) → (field.number ≡ number → ⊥) →
    all_bytes number (field ∷ fields) ≡ all_bytes number fields
all_bytes-other number field fields other = ap (all_said as_bytes) (payloads_of-other number field fields other)

pub all_bytes-same : (number : ℕ) (field : FieldValue) (fields : List FieldValue) (bytes : List ℕ) →
    field.number ≡ number →
    as_bytes field.value ≡ Some bytes → all_bytes number (field ∷ fields)
    ≡ option_map (λ more. bytes ∷ more) (all_bytes number fields)
all_bytes-same number field fields bytes same is =
    all_said-here as_bytes bytes number field fields same is ∙ bind-map (all_bytes number fields) (λ more. bytes ∷ more)

-- a piece before others, where they are all the bytes
pub whole_pieces-more : {T : Type 0} (item : T) (items : List T) (fault : Option WireError) →
    whole_pieces (record { items = item ∷ items; fault = fault })
    ≡ behind (item ∷ []) (whole_pieces (record { items = items; fault = fault }))
whole_pieces-more item items None = refl
whole_pieces-more item items (Some error) = refl

-- the last of some numbers that may be there is the last of them
last_or-given : (absent before : ℕ) (numbers : List ℕ) → unwrap_or (last_or (Some before) (map Some numbers)) absent
    ≡ last_or before numbers
last_or-given absent before [] = refl
last_or-given absent before (n ∷ numbers) = last_or-given absent n numbers

last_or-none : (absent : ℕ) (numbers : List ℕ) → unwrap_or (last_or None (map Some numbers)) absent
    ≡ last_or absent numbers
last_or-none absent [] = refl
last_or-none absent (n ∷ numbers) = last_or-given absent n numbers

-- what a payload and others say as numbers that are there
given-more : (first : Option ℕ) (rest : Option (List ℕ)) (said : Option (List (Option ℕ))) →
    said ≡ option_map (map Some) rest →
    (option_map Some first >>= (λ x. said >>= (λ xs. Some (x ∷ xs))))
    ≡ option_map (map Some) (first >>= (λ x. rest >>= (λ xs. Some (x ∷ xs))))
given-more None rest said is = refl
given-more (Some n) None said is = rw is refl
given-more (Some n) (Some rest) said is = rw is refl

all_said-given : (payloads : List Payload) →
    all_said (λ payload. option_map Some (as_number payload)) payloads
    ≡ option_map (map Some) (all_said as_number payloads)
all_said-given [] = refl
all_said-given (payload ∷ payloads) =
    given-more (as_number payload) (all_said as_number payloads)
    (all_said (λ payload. option_map Some (as_number payload)) payloads) (all_said-given payloads)

last-given : (absent : ℕ) (said : Option (List ℕ)) →
    option_map (λ given. unwrap_or given absent) (option_map (last_or None) (option_map (map Some) said))
    ≡ option_map (last_or absent) said
last-given absent None = refl
last-given absent (Some numbers) = ap Some (last_or-none absent numbers)

-- the last number of a field, or this one, is the last that is given
pub scalar-given : (absent number : ℕ) (fields : List FieldValue) →
    scalar absent number fields ≡ option_map (λ given. unwrap_or given absent) (number_given None number fields)
scalar-given absent number fields =
    sym
    (ap (λ said. option_map (λ given. unwrap_or given absent) (option_map (last_or None) said))
    (all_said-given (payloads_of number fields)) ∙ last-given absent (all_said as_number (payloads_of number fields)))

-- an entry that was given is the next
pub next-given : {S : Type 0} (result : Option (Option S)) (given : Option S) (entry : S) (bytes : S → List ℕ)
    (old new : EntriesValue) →
    result ≡ Some given → given ≡ Some entry → IfSome result (λ o. IfSome o (λ s. IsNextEntry (bytes s) old new)) →
    IsNextEntry (bytes entry) old new
next-given result given entry bytes old new is there next =
    subst (λ o. IfSome o (λ s. IsNextEntry (bytes s) old new)) there
    (subst (λ r. IfSome r (λ o. IfSome o (λ s. IsNextEntry (bytes s) old new))) is next)

-- where none was given, none is left
pub end-given : {S : Type 0} (result : Option (Option S)) (given : Option S) (P : Type 0) → result ≡ Some given →
    given ≡ None →
    IfSome result (λ o. IfNone o P) → P
end-given result given P is none end =
    subst (λ o. IfNone o P) none (subst (λ r. IfSome r (λ o. IfNone o P)) is end)

-- what holds of the one that was given
pub some-given : {S : Type 0} (result : Option (Option S)) (given : Option S) (entry : S) (P : S → Type 0) →
    result ≡ Some given →
    given ≡ Some entry → IfSome result (λ o. IfSome o P) → P entry
some-given result given entry P is there some =
    subst (λ o. IfSome o P) there (subst (λ r. IfSome r (λ o. IfSome o P)) is some)

-- what holds where there is no answer
pub none-given : {S : Type 0} (result : Option S) (P : Type 0) → result ≡ None → IfNone result P → P
none-given result P is none = subst (λ r. IfNone r P) is none
