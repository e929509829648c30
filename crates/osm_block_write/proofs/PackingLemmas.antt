-- Packed numbers, and messages field by field.
use Rattle.std.proofs.Common.{◌≡◌, ℕ, List, [], ◌∷◌, ◌++◌, ◌≤◌, length, take, map, true, refl, sym, ap, ◌∙◌, arith, append_assoc, append-nil}
use Rattle.std.specs.Prelude.{◌%◌, ◌+◌, ◌/◌, ◌==◌, nat_lt}
use Rattle.std.specs.List.{flat_map}
use Rattle.std.proofs.lemmas.Bool.{cond_both, eqb-true}
use Rattle.std.proofs.lemmas.List.Folds.{flat_map-map}
use Rattle.std.proofs.lemmas.List.{take_all}
use Rattle.osm_wire.specs.Written.{packed, shortest_varint, varint_within}
use Rattle.osm_block_write.specs.Columns.{packed_field}
use Rattle.osm_block_write.specs.Messages.{keys_vals}
use Rattle.osm_block_write.specs.Numbered.{NumberedTag}

-- a varint has a byte
shortest_varint-some : (n : ℕ) (more : List ℕ) → shortest_varint n ++ more ≡ [] → ⊥
unfolding shortest_varint
shortest_varint-some n more none =
    cond_both (nat_lt n 128) (n ∷ []) ((n % 128 + 128) ∷ varint_within 9 (n / 128)) (λ bytes. bytes ++ more ≡ [] → ⊥)
    (λ _ e. cc) (λ _ e. cc) none

-- numbers that are packed to nothing are none, and have no field
pub packed_field-none : (number : ℕ) (numbers : List ℕ) → packed numbers ≡ [] → packed_field number numbers ≡ []
packed_field-none number [] none = refl
packed_field-none number (n ∷ more) none = absurd (shortest_varint-some n (packed more) none)

-- numbers that a loop appended one by one are packed
pub packed-loop : {T : Type 0} (f : T → ℕ) (items : List T) (at : ℕ) (room : List ℕ) → length items ≤ at →
    room ≡ flat_map (λ x. shortest_varint (f x)) (take at items) → room ≡ packed (map f items)
packed-loop f items at room past is =
    is ∙ ap (flat_map (λ x. shortest_varint (f x))) (take_all at items past)
    ∙ sym (flat_map-map shortest_varint f items)

-- the numbers of tags, packed pair by pair, and a 0
pub keys_vals-packed : {T : Type 0} (f : T → NumberedTag) (tags : List T) (out : List ℕ) →
    (out ++ flat_map (λ t. shortest_varint (f t).key ++ shortest_varint (f t).value) tags) ++ shortest_varint 0
    ≡ out ++ packed (keys_vals (map f tags))
keys_vals-packed f [] out =
    ap (λ o. o ++ shortest_varint 0) (append-nil out) ∙ ap (λ last. out ++ last) (sym (append-nil (shortest_varint 0)))
keys_vals-packed f (tag ∷ tags) out =
    let key = shortest_varint (f tag).key in
    let value = shortest_varint (f tag).value in
    simp append_assoc (simp append_assoc at (keys_vals-packed f tags ((out ++ key) ++ value)))

-- a list without a length is empty
pub empty_from_length : (xs : List ℕ) → true ≡ (length xs == 0) → xs ≡ []
empty_from_length [] is = refl
empty_from_length (x ∷ xs) is = absurd (omega (arith, eqb-true (length (x ∷ xs)) 0 (sym is)))
