-- What is written spells what it is written of, in as few bytes as can be, and is read back.
use Rattle.std.proofs.Common.{◌≡◌, ◌∙◌, ◌<◌, ◌≤◌, ◌-◌, ◌+◌, ◌*◌, ◌/◌, ◌%◌, ◌^◌, ◌++◌, ◌∷◌, [], ℕ, zero, suc, List, Some, None, length, set, take, get_or, refl, ap, sym, subst, lit<, arith, add-one, sub-one, inl, inr}
use Rattle.std.specs.Prelude.{All}
use Rattle.std.specs.List.{flat_map}
use Rattle.std.proofs.lemmas.Bool.{lt-ltb, le-ltb, cases_lt}
use Rattle.std.proofs.lemmas.List.{append-nil, append_assoc, take_more_set}
use Rattle.std.proofs.lemmas.List.Elements.{All-head, All-tail}
use Rattle.std.proofs.lemmas.Nat.{pow-add}
use Rattle.osm_wire.specs.Entries.{message_fields, whole_pieces}
use Rattle.osm_wire.specs.Pieces.{SpellsAll}
use Rattle.osm_wire.specs.Messages.{FieldValue, Payload, Varint, Fixed64, Bytes, Fixed32, SpellsField, SpellsPayload, field_tag, good_front, leading_field, packed_pieces}
use Rattle.osm_wire.specs.Refusals.{RefusesField, RefusesNumber}
use Rattle.osm_wire.specs.Varints.{SpellsNumber, leading_number, varint_value}
use Rattle.osm_wire.specs.Written.{IsField, IsPayload, packed, shortest_varint, varint_within, written_field, written_message, written_payload}
use Rattle.osm_wire.proofs.FieldLemmas.{fields_read, numbers_read}
use Rattle.osm_wire.proofs.PiecesLemmas.{pieces_of-spelled}
use Rattle.osm_wire.proofs.NumberLemmas.{SpellsNumber-some}
use Rattle.osm_wire.proofs.TagLemmas.{IsTag-field}
use Rattle.osm_wire.proofs.VarintLemmas.{GoOn, position-at, varint_value-small}

-- bytes spell a number, in at most the given number of bytes
record IsSpelling (bytes : List ℕ) (most n : ℕ) : Type 0 where
  pub some : 0 < length bytes
  pub within : length bytes ≤ most
  pub more : GoOn bytes (length bytes - 1)
  pub ends : get_or bytes (length bytes - 1) 0 < 128
  pub value : varint_value bytes ≡ n

-- one byte spells a number below 128
IsSpelling-one : (most n : ℕ) → 0 < most → n < 128 → IsSpelling (n ∷ []) most n
IsSpelling-one most n room small = record {
  some = lit< tt;
  within = omega (arith, room);
  more = λ k below. absurd (omega (arith, below));
  ends = small;
  value = omega (arith, small);
}

-- a byte that goes on before bytes
GoOn-cons : (byte : ℕ) (bytes : List ℕ) (size : ℕ) → 128 ≤ byte → GoOn bytes size → GoOn (byte ∷ bytes) (size + 1)
GoOn-cons byte bytes size high more zero below = le-ltb byte 128 high
GoOn-cons byte bytes size high more (suc k) below = more k (omega (arith, below))

-- the lowest seven bits before the spelling of the others
IsSpelling-more : (bytes : List ℕ) (most n : ℕ) → IsSpelling bytes most (n / 128) →
    IsSpelling ((n % 128 + 128) ∷ bytes) (suc most) n
IsSpelling-more bytes most n s =
    let last : suc (length bytes) - 1 ≡ length bytes - 1 + 1 = omega (arith, s.some) in
    record {
      some = omega arith;
      within = omega (arith, s.within);
      more = subst (λ (size : ℕ). GoOn ((n % 128 + 128) ∷ bytes) size) (sym last)
          (GoOn-cons (n % 128 + 128) bytes (length bytes - 1) (omega arith) s.more);
      ends = subst (λ (place : ℕ). get_or ((n % 128 + 128) ∷ bytes) place 0 < 128) (sym last)
          (rw add-one s.ends);
      value = rw s.value (omega arith);
    }

-- the rest after seven bits
rest-fits : (more n : ℕ) → n < 2 ^ (7 * suc (suc more)) → n / 128 < 2 ^ (7 * suc more)
rest-fits more n fits =
    let power : 2 ^ (7 * suc (suc more)) ≡ 2 ^ (7 * suc more) * 128 =
    ap (λ k. 2 ^ k) (omega arith) ∙ pow-add 2 (7 * suc more) 7 in
    omega (arith, power, fits)

-- a number is spelled within as many bytes as its bits need
varint_within-spells : (more n : ℕ) → n < 2 ^ (7 * suc more) → IsSpelling (varint_within (suc more) n) (suc more) n
varint_within-spells zero n fits = rw (lt-ltb n 128 fits) (IsSpelling-one 1 n (omega arith) fits)
varint_within-spells (suc more) n fits = elim (cases_lt n 128) [
  | inl small ↦ rw (lt-ltb n 128 small) (IsSpelling-one (suc (suc more)) n (omega arith) small)
  | inr large ↦
      rw (le-ltb n 128 large)
      (IsSpelling-more (varint_within (suc more) (n / 128)) (suc more) n
      (varint_within-spells more (n / 128) (rest-fits more n fits)))
]

-- the shortest varint of a number spells it
pub shortest_varint-spells : (n : ℕ) → n < 2 ^ 64 → SpellsNumber (shortest_varint n) n
unfolding shortest_varint
shortest_varint-spells n fits =
    let s = varint_within-spells 9 n (omega (arith, fits)) in
    record {
      ended = position-at (varint_within 10 n) (length (varint_within 10 n) - 1) (omega (arith, s.some)) s.more
          (lt-ltb (get_or (varint_within 10 n) (length (varint_within 10 n) - 1) 0) 128 s.ends);
      within = s.within;
      value = s.value;
      fits = fits;
    }

-- no more bytes are written than the bits need
varint_within-shortest : (more size n : ℕ) → 0 < size → n < 2 ^ (7 * size) → length (varint_within (suc more) n) ≤ size
varint_within-shortest more zero n some fits = absurd (omega (arith, some))
varint_within-shortest more (suc zero) n some fits = rw (lt-ltb n 128 fits) (omega arith)
varint_within-shortest zero (suc (suc size)) n some fits = elim (cases_lt n 128) [
  | inl small ↦ rw (lt-ltb n 128 small) (omega arith)
  | inr large ↦ rw (le-ltb n 128 large) (omega arith)
]
varint_within-shortest (suc more) (suc (suc size)) n some fits = elim (cases_lt n 128) [
  | inl small ↦ rw (lt-ltb n 128 small) (omega arith)
  | inr large ↦
      let below = varint_within-shortest more (suc size) (n / 128) (omega arith) (rest-fits size n fits) in
      rw (le-ltb n 128 large) (omega (arith, below))
]

-- no spelling of a number has fewer bytes
pub shortest_varint-shortest : (n : ℕ) (bytes : List ℕ) → SpellsNumber bytes n →
    length (shortest_varint n) ≤ length bytes
unfolding shortest_varint
shortest_varint-shortest n bytes s =
    varint_within-shortest 9 (length bytes) n (SpellsNumber-some bytes n s) (rw s.value at (varint_value-small bytes))

-- the lowest seven bits, and then the others
pub varint_within-more : (left n : ℕ) → 0 < left → 128 ≤ n →
    varint_within left n ≡ (n % 128 + 128) ∷ varint_within (left - 1) (n / 128)
varint_within-more zero n some large = absurd (omega (arith, some))
varint_within-more (suc left) n some large = rw (le-ltb n 128 large, sub-one) refl

-- the last seven bits
pub varint_within-last : (left n : ℕ) → 0 < left → n < 128 → varint_within left n ≡ n ∷ []
varint_within-last zero n some small = absurd (omega (arith, some))
varint_within-last (suc left) n some small = rw (lt-ltb n 128 small) refl

-- a number below 128 is one byte
pub shortest_varint-small : (n : ℕ) → n < 128 → shortest_varint n ≡ n ∷ []
unfolding shortest_varint
shortest_varint-small n small = varint_within-last 10 n (omega arith) small

-- one more byte of a number that is written byte by byte
pub varint-step : (n size rest : ℕ) (bytes : List ℕ) → size ≤ 9 → size < length bytes → 128 ≤ rest →
    rest < 2 ^ (7 * (10 - size)) → shortest_varint n ≡ take size bytes ++ varint_within (10 - size) rest →
    (size + 1 ≤ 9) × (rest / 128 < 2 ^ (7 * (10 - (size + 1))))
    × (shortest_varint n
    ≡ take (size + 1) (set bytes size (rest % 128 + 128)) ++ varint_within (10 - (size + 1)) (rest / 128))
varint-step n size rest bytes short within large small value = elim (cases_lt size 9) [
  | inl below ↦
      let byte : ℕ = rest % 128 + 128 in
      let power : 2 ^ (7 * (10 - size)) ≡ 2 ^ (7 * (10 - (size + 1))) * 128 =
      ap (λ k. 2 ^ k) (omega (arith, below)) ∙ pow-add 2 (7 * (10 - (size + 1))) 7 in
      let next : varint_within (10 - size) rest ≡ (rest % 128 + 128) ∷ varint_within (10 - size - 1) (rest / 128) =
      varint_within-more (10 - size) rest (omega (arith, below)) large in
      let left : 10 - size - 1 ≡ 10 - (size + 1) = omega arith in (
        omega (arith, below),
        omega (arith, power, small),
        rw (
          take_more_set bytes size byte within,
          append_assoc (take size bytes) (byte ∷ []) (varint_within (10 - (size + 1)) (rest / 128)),
        )
            (value ∙ ap (λ more. take size bytes ++ more) (next ∙ ap (λ k. byte ∷ varint_within k (rest / 128)) left)),
      )
  | inr last ↦
      let nine : size ≡ 9 = omega (arith, short, last) in
      let least : rest < 128 = rw nine at small in
      absurd (omega (arith, least, large))
]

-- a payload that can be written is spelled
written_payload-spells : (payload : Payload) → IsPayload payload → SpellsPayload (written_payload payload) payload
written_payload-spells (Varint n) is = shortest_varint-spells n is
written_payload-spells (Fixed64 eight) is = (refl, is)
written_payload-spells (Bytes content) is =
    (shortest_varint (length content), refl, shortest_varint-spells (length content) is)
written_payload-spells (Fixed32 four) is = (refl, is)

-- a field that can be written is spelled
pub written_field-spells : (field : FieldValue) → IsField field → SpellsField (written_field field) field
written_field-spells field is =
    let tag = IsTag-field field is.0 in
    record {
      tag = shortest_varint (field_tag field);
      payload = written_payload field.value;
      joined = refl;
      numbered = is.0;
      tagged = shortest_varint-spells (field_tag field) (omega (arith, tag.fits));
      held = written_payload-spells field.value is.1;
    }

-- what is written one after the other is spelled one after the other
SpellsAll-flat_map : {T : Type 0} (Spelled : List ℕ → T → Type 0) (Good : T → Type 0) (write : T → List ℕ) →
    ((item : T) → Good item → Spelled (write item) item) → (items : List T) → All Good items →
    SpellsAll Spelled (flat_map write items) items
SpellsAll-flat_map Spelled Good write each [] all = refl
SpellsAll-flat_map Spelled Good write each (item ∷ items) all = (
  write item,
  flat_map write items,
  refl,
  each item (All-head Good item items all),
  SpellsAll-flat_map Spelled Good write each items (All-tail Good item items all),
)

-- fields that are written are read back
pub written_message-pieces : (fields : List FieldValue) → All IsField fields →
    good_front (written_message fields) ≡ record { items = fields; fault = None }
written_message-pieces fields all =
    ap (λ bytes. good_front bytes) (sym (append-nil (written_message fields)))
    ∙ pieces_of-spelled leading_field SpellsField RefusesField fields_read fields (written_message fields) [] None
    (SpellsAll-flat_map SpellsField IsField written_field written_field-spells fields all) refl

-- and as a message
pub written_message-fields : (fields : List FieldValue) → All IsField fields →
    message_fields (written_message fields) ≡ Some fields
written_message-fields fields all = ap (λ pieces. whole_pieces pieces) (written_message-pieces fields all)

-- packed numbers are read back
pub packed-pieces : (numbers : List ℕ) → All (λ n. n < 2 ^ 64) numbers →
    packed_pieces (packed numbers) ≡ record { items = numbers; fault = None }
packed-pieces numbers all =
    ap (λ bytes. packed_pieces bytes) (sym (append-nil (packed numbers)))
    ∙ pieces_of-spelled leading_number SpellsNumber RefusesNumber numbers_read numbers (packed numbers) [] None
    (SpellsAll-flat_map SpellsNumber (λ n. n < 2 ^ 64) shortest_varint shortest_varint-spells numbers all) refl
