-- What the item of a line keeps.
use Rattle.std.proofs.Common.{◌≡◌, ◌≢◌, ◌<◌, ◌*◌, ◌^◌, ◌∷◌, [], ℕ, zero, suc, ℤ, pos, Bool, true, false, List, length, Option, None, Some, Ok, Err, refl, arith, ◌∙◌, inl, inr}
use Rattle.std.specs.Prelude.{IfSome, IsTrue, if◌then◌else◌, ◌&&◌, nat_abs, nat_le, nat_lt, neg_ℤ, not}
use Rattle.std.specs.Option.{option_and_then, option_map, ok_or}
use Rattle.std.specs.Result.{result_unwrap_or}
use Rattle.std.specs.Str.Parse.{digits_value}
use Rattle.std.proofs.lemmas.Bool.{and_from, cond_both, ltb-false, ltb-true}
use Rattle.std.proofs.lemmas.Bool.Decides.{eqb_tells}
use Rattle.osm_entity.specs.Counts.{counted, small_count}
use Rattle.osm_entity.specs.Entities.{EntityValue, IsEntity, body_fits, degree, greatest_weight, weight_of}
use Rattle.osm_entity.specs.Items.{IsItem, ItemValue, has_place}
use Rattle.osm_entity.specs.declared.item.Act.{Act}
use Rattle.osm_entity.specs.declared.item.Act.TheVariants.{Create, Delete, Modify}
use Rattle.osm_entity.specs.declared.kind.Flow.{Flow}
use Rattle.osm_entity.specs.declared.kind.Flow.TheVariants.{Changes, Entities}
use Rattle.osm_entity.specs.declared.kind.Kind.{Kind}
use Rattle.osm_entity.specs.declared.kind.Kind.TheVariants.{Node as OfNode, Relation as OfRelation, Way as OfWay}
use Rattle.osm_entity.specs.declared.parts.Body.TheVariants.{Node}
use Rattle.osm_entity.specs.declared.verdict.Cause.TheVariants.{BadCoordinate, BadNumber, Deleted, NoPlace, TooHeavy}
use Rattle.osm_text.specs.Nano.{nano}
use Rattle.osm_text.specs.Numbers.{are_digits, fitting, has_minus, size_fits, signed, unsigned_part, whole}
use Rattle.osm_opl_line.specs.Contents.{changeset_in, count_in, degrees_in, tags_in, text_in, within}
use Rattle.osm_opl_line.specs.Fields.{Fields}
use Rattle.osm_opl_line.specs.Item.{act_of, body_of, body_with, entity_of, is_deleted, item_of, place_of, value_of, version_of}
use Rattle.osm_opl_line.specs.Line.{Bad, Good, is_changes, judged, lacks_degrees, lacks_place}
use Rattle.osm_opl_line.proofs.KeyLemmas.{tags-named}

-- a number that was kept as small is below 2^31, and so is the 0 in its place
small-below : (n : Option ℕ) → result_unwrap_or (ok_or (option_and_then small_count n) BadNumber) 0 < 2 ^ 31
small-below None = omega arith
small-below (Some n) =
    cond_both (nat_lt n (2 ^ 31)) (Some n) None (λ o. result_unwrap_or (ok_or o BadNumber) 0 < 2 ^ 31)
    (λ fits. ltb-true n (2 ^ 31) fits) (λ _. omega arith)

-- a version or uid is below 2^31
count-below : (field : Option (List ℕ)) → value_of 0 count_in field < 2 ^ 31
count-below None = omega arith
count-below (Some content) = small-below (option_map counted (whole content))

-- a negative number is read as 0
counted-negative : (n : ℕ) → counted (neg_ℤ (pos n)) ≡ 0
counted-negative zero = refl
counted-negative (suc n) = refl

-- a number that isn't negative and lies in 64 bits is below 2^63
counted-below : (minus : Bool) (n : ℕ) →
    result_unwrap_or (ok_or (option_map counted (fitting minus n)) BadNumber) 0 < 2 ^ 63
counted-below true n =
    cond_both (size_fits true n) (Some (signed true n)) None
    (λ o. result_unwrap_or (ok_or (option_map counted o) BadNumber) 0 < 2 ^ 63)
    (λ _. rw (counted-negative n) (omega arith)) (λ _. omega arith)
counted-below false n =
    cond_both (size_fits false n) (Some (signed false n)) None
    (λ o. result_unwrap_or (ok_or (option_map counted o) BadNumber) 0 < 2 ^ 63)
    (λ fits. ltb-true n (2 ^ 63) fits) (λ _. omega arith)

-- a changeset is below 2^63
changeset-below : (field : Option (List ℕ)) → value_of 0 changeset_in field < 2 ^ 63
changeset-below None = omega arith
changeset-below (Some content) =
    cond_both (are_digits (length content) (unsigned_part content))
    (fitting (has_minus content) (digits_value 10 (unsigned_part content))) None
    (λ o. result_unwrap_or (ok_or (option_map counted o) BadNumber) 0 < 2 ^ 63)
    (λ _. counted-below (has_minus content) (digits_value 10 (unsigned_part content))) (λ _. omega arith)

-- a number of nanodegrees lies within a number of degrees
abbrev IsWithin : ℕ → Option ℤ → Type 0
IsWithin most degrees = IfSome degrees (λ n. IsTrue (nat_le (nat_abs n) (most * degree)))

-- what was read within a size lies within it
within-IsWithin : (most : ℕ) (n : Option ℤ) → IsWithin most (result_unwrap_or (within most n) None)
within-IsWithin most None = tt
within-IsWithin most (Some n) =
    cond_both (nat_le (nat_abs n) (most * degree)) (Ok (Some n)) (Err BadCoordinate)
    (λ r. IsWithin most (result_unwrap_or r None)) (λ fits. fits) (λ _. tt)

-- the degrees of a field lie within their size
degrees-IsWithin : (most : ℕ) (field : Option (List ℕ)) → IsWithin most (value_of None (degrees_in most) field)
degrees-IsWithin most None = tt
degrees-IsWithin most (Some []) = tt
degrees-IsWithin most (Some (b ∷ bs)) = within-IsWithin most (nano (b ∷ bs))

-- a place of two such numbers is within range
place-fits : (lon lat : Option ℤ) → IsWithin 180 lon → IsWithin 90 lat → IsTrue (body_fits (Node (place_of lon lat)))
place-fits None lat east north = refl
place-fits (Some lon) None east north = refl
place-fits (Some lon) (Some lat) east north =
    and_from (nat_le (nat_abs lon) (180 * degree)) (nat_le (nat_abs lat) (90 * degree)) east north

-- the body of a line is within range
body-fits : (kind : Kind) (f : Fields) → IsTrue (body_fits (body_of kind f))
body-fits OfNode f =
    place-fits (value_of None (degrees_in 180) f.x) (value_of None (degrees_in 90) f.y) (degrees-IsWithin 180 f.x)
    (degrees-IsWithin 90 f.y)
body-fits OfWay f = refl
body-fits OfRelation f = refl

-- where a choice by tests is an item, the tests failed
tests-failed : (no_place deleted heavy : Bool) (item said : ItemValue) →
    (if no_place then Bad NoPlace else if deleted then Bad Deleted else if heavy then Bad TooHeavy else Good item)
    ≡ Good said → (no_place ≡ false) × (heavy ≡ false)
tests-failed true deleted heavy item said is = cc
tests-failed false true heavy item said is = cc
tests-failed false false true item said is = cc
tests-failed false false false item said is = (refl, refl)

-- fields that say an item lack no place and aren't too heavy
judged-good : (f : Fields) → judged f ≡ Good (item_of f) →
    (lacks_place f.kind f ≡ false) × (nat_lt greatest_weight (weight_of (entity_of f)) ≡ false)
judged-good f good =
    tests-failed (lacks_place f.kind f) (not (is_changes f.flow) && is_deleted f)
    (nat_lt greatest_weight (weight_of (entity_of f))) (item_of f) (item_of f) good

-- what is proper to a kind, by its place or list
pub body_with-fields : (kind : Kind) (f : Fields) →
    body_with kind (place_of (value_of None (degrees_in 180) f.x) (value_of None (degrees_in 90) f.y)) f.list
    ≡ body_of kind f
body_with-fields OfNode f = refl
body_with-fields OfWay f = refl
body_with-fields OfRelation f = refl

-- an entity has the values of fields, whatever its id and time
pub record IsEntityOf (f : Fields) (e : EntityValue) : Type 0 where
  pub version : e.version ≡ version_of f
  pub changeset : e.changeset ≡ value_of 0 changeset_in f.c
  pub uid : e.uid ≡ value_of 0 count_in f.i
  pub user : e.user ≡ value_of [] text_in f.u
  pub tags : e.tags ≡ value_of [] tags_in f.tags
  pub body : e.body ≡ body_of f.kind f

-- the entity of fields that say an item keeps what entities keep
pub entity-kept : (f : Fields) (e : EntityValue) → IsEntityOf f e → judged f ≡ Good (item_of f) → IsEntity e
entity-kept f e is good = record {
  version = rw is.version (count-below f.v);
  uid = rw is.uid (count-below f.i);
  changeset = rw is.changeset (changeset-below f.c);
  named = rw is.tags (tags-named f.tags);
  in_range = rw is.body (body-fits f.kind f);
  light =
      rw (is.user, is.tags, is.body) (ltb-false greatest_weight (weight_of (entity_of f)) (judged-good f good).1);
}

-- a place is there where none is lacking
place-there : (lon lat : Option ℤ) → lacks_degrees false lon lat ≡ false → IsTrue (has_place (Node (place_of lon lat)))
place-there None None there = cc
place-there None (Some lat) there = cc
place-there (Some lon) None there = cc
place-there (Some lon) (Some lat) there = refl

-- what isn't deleted isn't gone
not-gone : (flow : Flow) (deleted : Bool) (version : ℕ) → act_of flow deleted version ≢ Delete →
    is_changes flow && deleted ≡ false
not-gone Entities deleted version kept = refl
not-gone Changes true version kept = absurd (kept refl)
not-gone Changes false version kept = refl

-- a body lacks no place where it isn't gone
body-placed : (kind : Kind) (f : Fields) → lacks_place kind f ≡ false →
    act_of f.flow (is_deleted f) (version_of f) ≢ Delete → IsTrue (has_place (body_of kind f))
body-placed OfNode f there kept =
    place-there (value_of None (degrees_in 180) f.x) (value_of None (degrees_in 90) f.y)
    (rw (not-gone f.flow (is_deleted f) (version_of f) kept) at there)
body-placed OfWay f there kept = refl
body-placed OfRelation f there kept = refl

-- what is created has version 1
act-created : (flow : Flow) (deleted : Bool) (version : ℕ) → act_of flow deleted version ≡ Create → version ≡ 1
act-created Entities deleted version is = cc
act-created Changes true version is = cc
act-created Changes false version is = elim (eqb_tells version 1) [
  | inl same ↦ same.1
  | inr differs ↦ let other = rw differs.0 at is in cc
]

-- what is modified has another version
act-modified : (flow : Flow) (deleted : Bool) (version : ℕ) → act_of flow deleted version ≡ Modify → version ≢ 1
act-modified Entities deleted version is = cc
act-modified Changes true version is = cc
act-modified Changes false version is = elim (eqb_tells version 1) [
  | inl same ↦ let other = rw same.0 at is in cc
  | inr differs ↦ differs.1
]

-- the item of fields that say one keeps what items keep
pub item-kept : (f : Fields) (act : Act) (e : EntityValue) → act ≡ act_of f.flow (is_deleted f) (version_of f) →
    IsEntityOf f e → judged f ≡ Good (item_of f) → IsItem (record { act = act; entity = e })
item-kept f act e acts is good = record {
  placed = λ kept. rw is.body (body-placed f.kind f (judged-good f good).0 (rw acts at kept));
  created = λ done. is.version ∙ act-created f.flow (is_deleted f) (version_of f) (rw acts at done);
  modified = λ done. rw is.version (act-modified f.flow (is_deleted f) (version_of f) (rw acts at done));
}
