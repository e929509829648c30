-- The payload at the beginning of bytes is the one that they spell, and it is refused as it should be.
use Rattle.std.proofs.Common.{◌≡◌, ◌∙◌, ◌<◌, ◌≤◌, ◌-◌, ◌+◌, ◌++◌, ◌∷◌, [], ℕ, zero, suc, List, Result, Ok, Err, length, take, drop, refl, ap, sym, subst, arith, zero-add, append_assoc, length-append, length-drop, inl, inr}
use Rattle.std.specs.Prelude.{nat_lt}
use Rattle.std.proofs.lemmas.Bool.{lt-ltb, le-ltb, ltb-true, ltb-false}
use Rattle.std.proofs.lemmas.List.{drop_at, take_at, take_all, length-take-le, take-append-drop}
use Rattle.osm_wire.specs.Messages.{Payload, Varint, Fixed64, Bytes, Fixed32, SpellsPayload, counted_payload, leading_payload, sized_payload, varint_payload, wire_type}
use Rattle.osm_wire.specs.Refusals.{RefusesPayload, no_varint, not_eight, no_length, cut_off, not_four}
use Rattle.osm_wire.specs.Varints.{SpellsNumber, leading_number}
use Rattle.osm_wire.specs.declared.error.WireError.{WireError}
use Rattle.osm_wire.specs.declared.error.WireError.TheVariants.{Short}
use Rattle.osm_wire.proofs.AnswerLemmas.{chosen, err_ok, same_error, same_value}
use Rattle.osm_wire.proofs.NumberLemmas.{leading_number-read, leading_number-refused, leading_number-refuses, leading_number-spelled}
use Rattle.osm_wire.proofs.TagLemmas.{IsWireType, by_type}

-- bytes up to a place and then some more
pub take-add : (m n : ℕ) (bytes : List ℕ) → take (m + n) bytes ≡ take m bytes ++ take n (drop m bytes)
take-add zero n bytes = rw zero-add refl
take-add (suc m) n [] =
    let more : suc m + n ≡ suc (m + n) = omega arith in
    let none : take n [] ≡ [] = take_all {A = ℕ} n [] (omega arith) in
    rw (more, none) refl
take-add (suc m) n (byte ∷ bytes) =
    let more : suc m + n ≡ suc (m + n) = omega arith in
    ap (λ k. take k (byte ∷ bytes)) more ∙ ap (λ list. byte ∷ list) (take-add m n bytes)

-- the payload that bytes spell is read, whatever follows
pub leading_payload-spelled : (bytes rest : List ℕ) (payload : Payload) → SpellsPayload bytes payload →
    leading_payload (wire_type payload) (bytes ++ rest) ≡ Ok (payload, length bytes)
leading_payload-spelled bytes rest (Varint n) s =
    ap (λ answer. varint_payload answer) (leading_number-spelled bytes rest n s)
leading_payload-spelled bytes rest (Fixed64 eight) s =
    let long : length (eight ++ rest) ≡ length eight + length rest = length-append eight rest in
    rw (s.0, le-ltb (length (eight ++ rest)) 8 (omega (arith, long, s.1)), take_at eight rest 8 s.1, s.1) refl
leading_payload-spelled bytes rest (Bytes content) s =
    let size : List ℕ = s.0 in
    let same : bytes ++ rest ≡ size ++ (content ++ rest) =
    ap (λ list. list ++ rest) s.1 ∙ append_assoc size content rest in
    let long : length (size ++ (content ++ rest)) ≡ length size + length (content ++ rest) =
    length-append size (content ++ rest) in
    let more : length (content ++ rest) ≡ length content + length rest = length-append content rest in
    let whole : length bytes ≡ length size + length content =
    ap (λ list. length list) s.1 ∙ length-append size content in
    rw (
      same,
      leading_number-spelled size (content ++ rest) (length content) s.2,
      le-ltb (length (size ++ (content ++ rest))) (length size + length content) (omega (arith, long, more)),
      drop_at size (content ++ rest) (length size) refl,
      take_at content rest (length content) refl,
      whole,
    )
    refl
leading_payload-spelled bytes rest (Fixed32 four) s =
    let long : length (four ++ rest) ≡ length four + length rest = length-append four rest in
    rw (s.0, le-ltb (length (four ++ rest)) 4 (omega (arith, long, s.1)), take_at four rest 4 s.1, s.1) refl

-- a payload of this wire type was read
abbrev IsPayloadRead : List ℕ → ℕ → Payload × ℕ → Type 0
IsPayloadRead bytes kind cut =
    (cut.1 ≤ length bytes) × (wire_type cut.0 ≡ kind) × SpellsPayload (take cut.1 bytes) cut.0

-- a number that is read as a payload
varint_payload-read : (bytes : List ℕ) (cut : Payload × ℕ) (answer : Result (ℕ × ℕ) WireError) →
    leading_number bytes ≡ answer →
    varint_payload answer ≡ Ok cut → IsPayloadRead bytes 0 cut
varint_payload-read bytes cut (Err error) found is = absurd (err_ok is)
varint_payload-read bytes cut (Ok (n, size)) found is =
    let read = leading_number-read bytes n size found in
    subst (λ (c : Payload × ℕ). IsPayloadRead bytes 0 c) (same_value is) (read.0, refl, read.1)

-- eight bytes that are read as a payload
eight-read : (bytes : List ℕ) (cut : Payload × ℕ) → sized_payload 8 Fixed64 bytes ≡ Ok cut → IsPayloadRead bytes 1 cut
eight-read bytes cut is =
    elim (chosen (nat_lt (length bytes) 8) (Err Short) (Ok (Fixed64 (take 8 bytes), 8)) (Ok cut) is) [
      | inl both ↦ absurd (err_ok both.1)
      | inr both ↦
          let within : 8 ≤ length bytes = ltb-false (length bytes) 8 both.0 in
          subst (λ (c : Payload × ℕ). IsPayloadRead bytes 1 c) (same_value both.1)
          (within, refl, (refl, length-take-le 8 bytes within))
    ]

-- four bytes that are read as a payload
four-read : (bytes : List ℕ) (cut : Payload × ℕ) → sized_payload 4 Fixed32 bytes ≡ Ok cut → IsPayloadRead bytes 5 cut
four-read bytes cut is =
    elim (chosen (nat_lt (length bytes) 4) (Err Short) (Ok (Fixed32 (take 4 bytes), 4)) (Ok cut) is) [
      | inl both ↦ absurd (err_ok both.1)
      | inr both ↦
          let within : 4 ≤ length bytes = ltb-false (length bytes) 4 both.0 in
          subst (λ (c : Payload × ℕ). IsPayloadRead bytes 5 c) (same_value both.1)
          (within, refl, (refl, length-take-le 4 bytes within))
    ]

-- bytes after their length that are read as a payload
counted_payload-read : (bytes : List ℕ) (cut : Payload × ℕ) (answer : Result (ℕ × ℕ) WireError) →
    leading_number bytes ≡ answer →
    counted_payload bytes answer ≡ Ok cut → IsPayloadRead bytes 2 cut
counted_payload-read bytes cut (Err error) found is = absurd (err_ok is)
counted_payload-read bytes cut (Ok (count, size)) found is =
    let read = leading_number-read bytes count size found in
    let payload : Payload × ℕ = (Bytes (take count (drop size bytes)), size + count) in
    elim (chosen (nat_lt (length bytes) (size + count)) (Err Short) (Ok payload) (Ok cut) is) [
      | inl both ↦ absurd (err_ok both.1)
      | inr both ↦
          let within : size + count ≤ length bytes = ltb-false (length bytes) (size + count) both.0 in
          let left : length (drop size bytes) ≡ length bytes - size = length-drop size bytes in
          let many : length (take count (drop size bytes)) ≡ count =
          length-take-le count (drop size bytes) (omega (arith, left, within)) in
          subst (λ (c : Payload × ℕ). IsPayloadRead bytes 2 c) (same_value both.1) (
            within,
            refl,
            (
              take size bytes,
              take-add size count bytes,
              subst (λ (n : ℕ). SpellsNumber (take size bytes) n) (sym many) read.1,
            ),
          )
    ]

-- a payload that is read was spelled
pub leading_payload-read : (bytes : List ℕ) (cut : Payload × ℕ) (kind : ℕ) → IsWireType kind →
    leading_payload kind bytes ≡ Ok cut →
    IsPayloadRead bytes kind cut
leading_payload-read bytes cut kind =
    by_type (λ k. leading_payload k bytes ≡ Ok cut → IsPayloadRead bytes k cut)
    (λ is. varint_payload-read bytes cut (leading_number bytes) refl is) (λ is. eight-read bytes cut is)
    (λ is. counted_payload-read bytes cut (leading_number bytes) refl is) (λ is. four-read bytes cut is) kind

-- what is refused as a payload is answered so
pub leading_payload-refused : (kind : ℕ) (bytes : List ℕ) (error : WireError) → RefusesPayload kind bytes error →
    leading_payload kind bytes ≡ Err error
leading_payload-refused kind bytes error (no_varint is) =
    ap (λ answer. varint_payload answer) (leading_number-refused bytes error is)
leading_payload-refused kind bytes error (not_eight few) = rw (lt-ltb (length bytes) 8 few) refl
leading_payload-refused kind bytes error (no_length is) =
    ap (λ answer. counted_payload bytes answer) (leading_number-refused bytes error is)
leading_payload-refused kind bytes error (cut_off {size} {count} content spelled few) =
    let long : length (size ++ content) ≡ length size + length content = length-append size content in
    ap (λ answer. counted_payload (size ++ content) answer) (leading_number-spelled size content count spelled)
    ∙ rw (lt-ltb (length (size ++ content)) (length size + count) (omega (arith, long, few))) refl
leading_payload-refused kind bytes error (not_four few) = rw (lt-ltb (length bytes) 4 few) refl

-- an error of a number as a payload
varint_payload-refuses : (bytes : List ℕ) (error : WireError) (answer : Result (ℕ × ℕ) WireError) →
    leading_number bytes ≡ answer →
    varint_payload answer ≡ Err error → RefusesPayload 0 bytes error
varint_payload-refuses bytes error (Err other) found is =
    no_varint (leading_number-refuses bytes error (found ∙ ap (λ e. Err e) (same_error is)))
varint_payload-refuses bytes error (Ok (n, size)) found is = absurd (err_ok (sym is))

-- an error of eight bytes
eight-refuses : (bytes : List ℕ) (error : WireError) → sized_payload 8 Fixed64 bytes ≡ Err error →
    RefusesPayload 1 bytes error
eight-refuses bytes error is =
    elim (chosen (nat_lt (length bytes) 8) (Err Short) (Ok (Fixed64 (take 8 bytes), 8)) (Err error) is) [
      | inl both ↦ subst (λ (e : WireError). RefusesPayload 1 bytes e) (same_error both.1)
          (not_eight (ltb-true (length bytes) 8 both.0))
      | inr both ↦ absurd (err_ok (sym both.1))
    ]

-- an error of four bytes
four-refuses : (bytes : List ℕ) (error : WireError) → sized_payload 4 Fixed32 bytes ≡ Err error →
    RefusesPayload 5 bytes error
four-refuses bytes error is =
    elim (chosen (nat_lt (length bytes) 4) (Err Short) (Ok (Fixed32 (take 4 bytes), 4)) (Err error) is) [
      | inl both ↦ subst (λ (e : WireError). RefusesPayload 5 bytes e) (same_error both.1)
          (not_four (ltb-true (length bytes) 4 both.0))
      | inr both ↦ absurd (err_ok (sym both.1))
    ]

-- an error of bytes after their length
counted_payload-refuses : (bytes : List ℕ) (error : WireError) (answer : Result (ℕ × ℕ) WireError) →
    leading_number bytes ≡ answer →
    counted_payload bytes answer ≡ Err error → RefusesPayload 2 bytes error
counted_payload-refuses bytes error (Err other) found is =
    no_length (leading_number-refuses bytes error (found ∙ ap (λ e. Err e) (same_error is)))
counted_payload-refuses bytes error (Ok (count, size)) found is =
    let read = leading_number-read bytes count size found in
    let payload : Payload × ℕ = (Bytes (take count (drop size bytes)), size + count) in
    elim (chosen (nat_lt (length bytes) (size + count)) (Err Short) (Ok payload) (Err error) is) [
      | inl both ↦
          let few : length bytes < size + count = ltb-true (length bytes) (size + count) both.0 in
          let left : length (drop size bytes) ≡ length bytes - size = length-drop size bytes in
          let refused : RefusesPayload 2 (take size bytes ++ drop size bytes) Short =
          cut_off {count = count} (drop size bytes) read.1 (omega (arith, few, left, read.0)) in
          subst (λ (e : WireError). RefusesPayload 2 bytes e) (same_error both.1)
          (subst (λ (list : List ℕ). RefusesPayload 2 list Short) (take-append-drop size bytes) refused)
      | inr both ↦ absurd (err_ok (sym both.1))
    ]

-- an error of a payload is refused
pub leading_payload-refuses : (bytes : List ℕ) (error : WireError) (kind : ℕ) → IsWireType kind →
    leading_payload kind bytes ≡ Err error →
    RefusesPayload kind bytes error
leading_payload-refuses bytes error kind =
    by_type (λ k. leading_payload k bytes ≡ Err error → RefusesPayload k bytes error)
    (λ is. varint_payload-refuses bytes error (leading_number bytes) refl is) (λ is. eight-refuses bytes error is)
    (λ is. counted_payload-refuses bytes error (leading_number bytes) refl is) (λ is. four-refuses bytes error is) kind
