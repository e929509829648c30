-- The tags that begin a field, and their wire types.
use Rattle.std.proofs.Common.{◌≡◌, ◌≢◌, ◌<◌, ◌≤◌, ◌%◌, ◌^◌, ℕ, zero, suc, Some, None, refl, sym, subst, arith, ◌⊎◌, inl, inr}
use Rattle.std.specs.Prelude.{◌==◌, ◌||◌, nat_lt, nat_le, if◌then◌else◌}
use Rattle.std.proofs.lemmas.Bool.{le-ltb, lt-leb, ltb-false, leb-false, ne_eqb, eqb-false, or_parts}
use Rattle.osm_wire.specs.Messages.{FieldValue, IsFieldNumber, Payload, Varint, Fixed64, Bytes, Fixed32, field_tag, tag_fault, wire_type}
use Rattle.osm_wire.specs.declared.error.WireError.TheVariants.{Group, BadWire}
use Rattle.osm_wire.proofs.AnswerLemmas.{chosen}

-- a wire type of a field
pub record IsWireType (kind : ℕ) : Type 0 where
  pub low : kind < 6
  pub no_start : kind ≢ 3
  pub no_end : kind ≢ 4

-- a wire type in numbers
IsWireType-from : (kind : ℕ) → kind < 6 → (kind < 3) ⊎ (4 < kind) → IsWireType kind
IsWireType-from kind low (inl below) = record {
  low = low;
  no_start = λ is. absurd (omega (arith, is, below));
  no_end = λ is. absurd (omega (arith, is, below));
}
IsWireType-from kind low (inr above) = record {
  low = low;
  no_start = λ is. absurd (omega (arith, is, above));
  no_end = λ is. absurd (omega (arith, is, above));
}

-- each payload has one
pub IsWireType-payload : (payload : Payload) → IsWireType (wire_type payload)
IsWireType-payload (Varint n) = IsWireType-from 0 (omega arith) (inl (omega arith))
IsWireType-payload (Fixed64 eight) = IsWireType-from 1 (omega arith) (inl (omega arith))
IsWireType-payload (Bytes content) = IsWireType-from 2 (omega arith) (inl (omega arith))
IsWireType-payload (Fixed32 four) = IsWireType-from 5 (omega arith) (inr (omega arith))

-- what holds of each wire type
pub by_type : (P : ℕ → Type 0) → P 0 → P 1 → P 2 → P 5 → (kind : ℕ) → IsWireType kind → P kind
by_type P p0 p1 p2 p5 zero is = p0
by_type P p0 p1 p2 p5 (suc zero) is = p1
by_type P p0 p1 p2 p5 (suc (suc zero)) is = p2
by_type P p0 p1 p2 p5 (suc (suc (suc zero))) is = absurd (is.no_start refl)
by_type P p0 p1 p2 p5 (suc (suc (suc (suc zero)))) is = absurd (is.no_end refl)
by_type P p0 p1 p2 p5 (suc (suc (suc (suc (suc zero))))) is = p5
by_type P p0 p1 p2 p5 (suc (suc (suc (suc (suc (suc kind)))))) is = absurd (omega (arith, is.low))

-- a tag that begins a field
pub record IsTag (tag : ℕ) : Type 0 where
  pub numbered : 8 ≤ tag
  pub fits : tag < 2 ^ 32
  pub typed : IsWireType (tag % 8)

-- it has no fault
pub tag_fault-none : (tag : ℕ) → IsTag tag → tag_fault tag ≡ None
tag_fault-none tag is =
    rw (
      le-ltb tag 8 is.numbered,
      lt-leb (2 ^ 32) tag is.fits,
      lt-leb 6 (tag % 8) is.typed.low,
      ne_eqb (tag % 8) 3 is.typed.no_start,
      ne_eqb (tag % 8) 4 is.typed.no_end,
    )
    refl

-- a tag without a fault begins a field
pub IsTag-from_none : (tag : ℕ) → tag_fault tag ≡ None → IsTag tag
IsTag-from_none tag none =
    elim (chosen (nat_lt tag 8 || nat_le (2 ^ 32) tag || nat_le 6 (tag % 8)) (Some BadWire)
    (if tag % 8 == 3 || tag % 8 == 4 then Some Group else None) None none) [
      | inl both ↦ cc
      | inr both ↦
          elim (chosen (tag % 8 == 3 || tag % 8 == 4) (Some Group) None None both.1) [
            | inl group ↦ cc
            | inr field ↦
                let parts = or_parts (nat_lt tag 8 || nat_le (2 ^ 32) tag) (nat_le 6 (tag % 8)) both.0 in
                let first = or_parts (nat_lt tag 8) (nat_le (2 ^ 32) tag) parts.0 in
                let types = or_parts (tag % 8 == 3) (tag % 8 == 4) field.0 in
                record {
                  numbered = ltb-false tag 8 first.0;
                  fits = leb-false (2 ^ 32) tag first.1;
                  typed = record {
                    low = leb-false 6 (tag % 8) parts.1;
                    no_start = eqb-false (tag % 8) 3 types.0;
                    no_end = eqb-false (tag % 8) 4 types.1;
                  };
                }
          ]
    ]

-- the tag of a field is one
pub IsTag-field : (field : FieldValue) → IsFieldNumber field.number → IsTag (field_tag field)
IsTag-field field is =
    let typed = IsWireType-payload field.value in
    let same : field_tag field % 8 ≡ wire_type field.value = omega (arith, typed.low) in
    record {
      numbered = omega (arith, is.0);
      fits = omega (arith, is.1, typed.low);
      typed = subst (λ (kind : ℕ). IsWireType kind) (sym same) typed;
    }
