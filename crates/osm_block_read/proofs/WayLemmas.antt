-- The entry of a way is that of what its message says.
use Rattle.std.proofs.Common.{◌≡◌, ◌∷◌, [], ℕ, true, List, Option, Some, None, map, w64, refl}
use Rattle.osm_wire.specs.Entries.{◌>>=◌, all_bytes, at_most_one, message_fields, number_given, repeated, said_or}
use Rattle.osm_wire.specs.Integers.{int64, unzigzagged}
use Rattle.osm_wire.specs.Messages.{FieldValue}
use Rattle.osm_block_read.specs.Entries.{Along}
use Rattle.osm_block_read.specs.Numbers.{summed}
use Rattle.osm_block_read.specs.Plain.{entry_with, info, no_info, way_entry}
use Rattle.osm_block_read.specs.Told.{behind}
use Rattle.osm_block_read.specs.WayCodes.{entry_tagged, way_behind, way_of_codes, way_said, way_told}

-- what a way says is its entry
way-told-by : (id : Option (Option ℕ)) (refs keys values : Option (List ℕ)) (infos : Option (List (List ℕ))) →
    (id >>= (λ given. given) >>= (λ id. refs >>= (λ refs. keys >>= (λ keys. values >>= (λ values.
    (infos >>= at_most_one >>= said_or no_info info) >>= (λ known. Some (entry_tagged (int64 id)
    (Along (summed w64 (map unzigzagged refs))) true keys values known)))))))
    ≡ (way_of_codes id (behind [] refs) (behind [] keys) (behind [] values) (behind [] infos >>= at_most_one)
    >>= way_told)
way-told-by None refs keys values infos = refl
way-told-by (Some None) refs keys values infos = refl
way-told-by (Some (Some id)) None keys values infos = refl
way-told-by (Some (Some id)) (Some refs) None values infos = refl
way-told-by (Some (Some id)) (Some refs) (Some keys) None infos = refl
way-told-by (Some (Some id)) (Some refs) (Some keys) (Some values) None = refl
way-told-by (Some (Some id)) (Some refs) (Some keys) (Some values) (Some []) = refl
way-told-by (Some (Some id)) (Some refs) (Some keys) (Some values) (Some (x ∷ [])) = refl
way-told-by (Some (Some id)) (Some refs) (Some keys) (Some values) (Some (x ∷ y ∷ more)) = refl

told-by-fields : (fields : Option (List FieldValue)) →
    (fields >>= (λ fields. number_given None 1 fields >>= (λ given. given) >>= (λ id. repeated 8 fields >>= (λ refs.
    entry_with (int64 id) (Along (summed w64 (map unzigzagged refs))) true fields))))
    ≡ ((fields >>= way_behind None [] [] [] None) >>= way_told)
told-by-fields None = refl
told-by-fields (Some fields) =
    way-told-by (number_given None 1 fields) (repeated 8 fields) (repeated 2 fields) (repeated 3 fields)
    (all_bytes 4 fields)

pub way-by-parts : (message : List ℕ) → way_entry message ≡ (way_said message >>= way_told)
way-by-parts message = told-by-fields (message_fields message)
