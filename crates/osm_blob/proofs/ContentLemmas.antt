-- The raw content of a blob is no longer than the blob.
use Rattle.std.proofs.Common.{◌≡◌, ℕ, ◌≤◌, List, [], ◌∷◌, length, Bool, true, false, refl, sym, ap, ◌∙◌, arith, subst, length-append, inl, inr}
use Rattle.std.specs.Prelude.{◌||◌, Option, Some, None, Ok, Err, nat_lt}
use Rattle.std.specs.Option.{option_map}
use Rattle.std.specs.declared.result.Result.{Result}
use Rattle.std.proofs.lemmas.Bool.{cases_eq, cond_both}
use Rattle.osm_entity.specs.declared.verdict.Cause.{Cause}
use Rattle.osm_entity.specs.declared.verdict.Cause.TheVariants.{BlobTooLong}
use Rattle.osm_wire.specs.Entries.{◌>>=◌, as_bytes, bytes_given, number_given, unless_refused}
use Rattle.osm_wire.specs.Pieces.{SpellsAll}
use Rattle.osm_wire.specs.Messages.{Bytes, FieldValue, Fixed32, Fixed64, Payload, SpellsField, SpellsPayload, Varint, good_front, leading_field}
use Rattle.osm_wire.specs.Refusals.{RefusesField}
use Rattle.osm_wire.specs.declared.error.WireError.{WireError}
use Rattle.osm_wire.proofs.EntryLemmas.{last_entry-here, last_entry-none, last_entry-other}
use Rattle.osm_wire.proofs.FieldLemmas.{fields_read}
use Rattle.osm_wire.proofs.PiecesLemmas.{pieces_of-good}
use Rattle.osm_blob.specs.Messages.{blob_said, compressed_in, content_given, content_in, raw_limit, unless_bad_wire}

-- bytes, if there are any, are no more than a limit
abbrev IsShort : ℕ → Option (List ℕ) → Type 0
IsShort limit None = Unit {0}
IsShort limit (Some content) = length content ≤ limit

-- what each field holds is no more than a limit
abbrev AreShort : ℕ → List FieldValue → Type 0
AreShort limit [] = Unit {0}
AreShort limit (field ∷ fields) = IsShort limit (as_bytes field.value) × AreShort limit fields

-- a payload is no longer than its spelling
payload-short : (limit : ℕ) (bytes : List ℕ) (payload : Payload) → length bytes ≤ limit →
    SpellsPayload bytes payload → IsShort limit (as_bytes payload)
payload-short limit bytes (Varint n) fits is = tt
payload-short limit bytes (Fixed64 eight) fits is = tt
payload-short limit bytes (Bytes content) fits (size, joined, spelled) =
    omega (arith, ap length joined, length-append size content)
payload-short limit bytes (Fixed32 four) fits is = tt

-- fields are no longer than their spelling
fields-short : (limit : ℕ) (bytes : List ℕ) (fields : List FieldValue) → length bytes ≤ limit →
    SpellsAll SpellsField bytes fields → AreShort limit fields
fields-short limit bytes [] fits is = tt
fields-short limit bytes (field ∷ fields) fits (before, rest, joined, first, more) = (
  payload-short limit first.payload field.value
      (omega (
        arith,
        ap length joined,
        length-append before rest,
        ap length first.joined,
        length-append first.tag first.payload,
      )) first.held,
  fields-short limit rest fields (omega (arith, ap length joined, length-append before rest)) more,
)

-- bytes of a payload, if they are given
abbrev some_bytes : Payload → Option (Option (List ℕ))
some_bytes payload = option_map Some (as_bytes payload)

-- the bytes that fields give are those of the first one, or those that the others give
given-step : (limit : ℕ) (absent : Option (List ℕ)) (field : FieldValue) (fields : List FieldValue) (content : List ℕ)
    (said : Option (List ℕ)) → as_bytes field.value ≡ said → IsShort limit said → field.number ≡ 1 →
    ((next : Option (List ℕ)) → IsShort limit next → bytes_given next 1 fields ≡ Some (Some content) →
    length content ≤ limit) →
    bytes_given absent 1 (field ∷ fields) ≡ Some (Some content) → length content ≤ limit
given-step limit absent field fields content None says fits one later is =
    let none = last_entry-none some_bytes absent 1 field fields one (ap (option_map Some) says) in
    let clash : None ≡ Some (Some content) = sym none ∙ is in cc
given-step limit absent field fields content (Some found) says fits one later is =
    later (Some found) fits
    (sym (last_entry-here some_bytes absent (Some found) 1 field fields one (ap (option_map Some) says)) ∙ is)

-- the bytes that fields give are no more than a limit that each of them keeps
given-short : (limit : ℕ) (absent : Option (List ℕ)) (fields : List FieldValue) (content : List ℕ) →
    IsShort limit absent → AreShort limit fields → bytes_given absent 1 fields ≡ Some (Some content) →
    length content ≤ limit
given-short limit absent [] content fits all is =
    let same : absent ≡ Some content = cc in
    subst (IsShort limit) same fits
given-short limit absent (field ∷ fields) content fits all is =
    elim (cases_eq field.number 1) as (λ _. length content ≤ limit) [
      | inl one ↦
          given-step limit absent field fields content (as_bytes field.value) refl all.0 one
          (λ next short later. given-short limit next fields content short all.1 later) is
      | inr other ↦
          given-short limit absent fields content fits all.1
          (sym (last_entry-other some_bytes absent 1 field fields other) ∙ is)
    ]

-- a content is the raw content that is given
content_given-short : (limit : ℕ) (given : Option (List ℕ)) (compressed : Bool) (raw : List ℕ) → IsShort limit given →
    content_given given compressed ≡ Ok raw → length raw ≤ limit
content_given-short limit given true raw fits is = cc
content_given-short limit None false raw fits is = cc
content_given-short limit (Some content) false raw fits is =
    cond_both {A = Result (List ℕ) Cause} (nat_lt (length content) raw_limit) (Ok content) (Err BlobTooLong)
    (λ said. said ≡ Ok raw → length raw ≤ limit)
    (λ _ e. let same : content ≡ raw = cc in omega (arith, ap length same)) (λ _ e. cc) is

-- what fields of a blob say, by the raw content, the number that is skipped and the compressed contents
said-short : (limit : ℕ) (given : Option (Option (List ℕ))) (skipped : Option (Option ℕ))
    (contents : Option (List (List ℕ))) (raw : List ℕ) →
    ((content : List ℕ) → given ≡ Some (Some content) → length content ≤ limit) →
    unless_bad_wire (given >>= (λ its_raw. skipped >>= (λ _. contents >>= (λ found.
    Some (content_given its_raw (false || nat_lt 0 (length found))))))) ≡ Ok raw → length raw ≤ limit
said-short limit None skipped contents raw short is = cc
said-short limit (Some given) None contents raw short is = cc
said-short limit (Some given) (Some skipped) None raw short is = cc
said-short limit (Some None) (Some skipped) (Some found) raw short is =
    content_given-short limit None (nat_lt 0 (length found)) raw tt is
said-short limit (Some (Some content)) (Some skipped) (Some found) raw short is =
    content_given-short limit (Some content) (nat_lt 0 (length found)) raw (short content refl) is

-- what a blob says, by whether its fields are all of it
pieces-short : (limit : ℕ) (fault : Option WireError) (fields : List FieldValue) (raw : List ℕ) →
    AreShort limit fields → unless_bad_wire (unless_refused fault fields >>= content_in None false) ≡ Ok raw →
    length raw ≤ limit
pieces-short limit (Some error) fields raw all is = cc
pieces-short limit None fields raw all is =
    said-short limit (bytes_given None 1 fields) (number_given None 2 fields) (compressed_in fields) raw
    (λ content given. given-short limit None fields content tt all given) is

-- the content of a blob is no longer than the blob
pub blob_said-short : (blob raw : List ℕ) → blob_said blob ≡ Ok raw → length raw ≤ length blob
unfolding blob_said
blob_said-short blob raw is =
    let good = pieces_of-good leading_field SpellsField RefusesField fields_read blob in
    let pieces = good_front blob in
    pieces-short (length blob) pieces.fault pieces.items raw
    (fields-short (length blob) good.before pieces.items
    (omega (arith, ap length good.joined, length-append good.before good.rest)) good.spelled) is
