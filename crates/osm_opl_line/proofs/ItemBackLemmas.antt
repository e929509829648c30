-- The fields of an item say that item, and are good.
use Rattle.std.proofs.Common.{◌≡◌, ℕ, ℤ, ◌*◌, ◌≤◌, List, [], ◌∷◌, Option, Some, None, Bool, true, false, nat_abs, arith, sym, refl, ap, subst, ◌∙◌}
use Rattle.std.specs.Prelude.{◌&&◌, ◌≢◌, map, decimal, not, nat_le, ◌↔◌, IsTrue}
use Rattle.std.specs.Fmt.{signed_decimal}
use Rattle.std.specs.List.{join_with_byte}
use Rattle.std.proofs.lemmas.Bool.{and_parts, le-ltb, eq-eqb, ne_eqb, both_ways}
use Rattle.osm_entity.specs.Entities.{body_fits, degree, weight_of, greatest_weight}
use Rattle.osm_entity.specs.Items.{ItemValue, kind_of, has_place}
use Rattle.osm_entity.specs.declared.item.Act.{Act}
use Rattle.osm_entity.specs.declared.item.Act.TheVariants.{Keep, Create, Modify, Delete}
use Rattle.osm_entity.specs.declared.kind.Flow.{Flow}
use Rattle.osm_entity.specs.declared.kind.Flow.TheVariants.{Entities, Changes}
use Rattle.osm_entity.specs.declared.kind.Kind.{Kind}
use Rattle.osm_entity.specs.declared.parts.Body.{Body}
use Rattle.osm_entity.specs.declared.parts.Body.TheVariants.{Node, Way, Relation}
use Rattle.osm_entity.specs.declared.verdict.Cause.{Cause}
use Rattle.osm_text.specs.Escapes.{escaped}
use Rattle.osm_text.specs.Numbers.{whole}
use Rattle.osm_opl_line.specs.Contents.{kind_by}
use Rattle.osm_opl_line.specs.Fields.{Fields, fields_from, fault_among}
use Rattle.osm_opl_line.specs.Item.{version_of, is_deleted, act_of, entity_of, item_of}
use Rattle.osm_opl_line.specs.Line.{Good, judged, lacks_place, is_changes, after_fault, said_by, said_of}
use Rattle.osm_entity.specs.Writable.{IsWritable}
use Rattle.osm_opl_line.specs.Writing.{act_text, time_field, tag_text, kind_letter}
use Rattle.osm_opl_line.proofs.ContentsBackLemmas.{WholeBack, NanoBack, TimeBack, EscapedBack, is_delete, count_in-decimal, changeset_in-decimal, deleted_in-act_text, time_in-time_field, text_in-escaped}
use Rattle.osm_opl_line.proofs.FieldsBackLemmas.{fields_with, fields_from-parts, degrees-back, body_parts-no_fault, common-no_fault, body_of-fields}
use Rattle.osm_opl_line.proofs.LinePiecesLemmas.{body_parts, head_part, field_parts}
use Rattle.osm_opl_line.proofs.ListsBackLemmas.{tags-read_back, kind_by-kind_letter}

-- an act keeps exactly in an entity file
abbrev Kept : Flow → Act → Type 0
Kept flow act = (act ≡ Keep) ↔ (flow ≡ Entities)

-- whether an item is deleted, and its version, say its act
act_of-act : (flow : Flow) (act : Act) (version : ℕ) → Kept flow act → (act ≡ Create → version ≡ 1) →
    (act ≡ Modify → version ≢ 1) → act_of flow (is_delete act) version ≡ act
act_of-act Entities act version kept created modified = sym (kept.1 refl)
act_of-act Changes Keep version kept created modified =
    let same : Changes ≡ Entities = kept.0 refl in
    absurd (cc)
act_of-act Changes Create version kept created modified = rw (eq-eqb version 1 (created refl)) refl
act_of-act Changes Modify version kept created modified = rw (ne_eqb version 1 (modified refl)) refl
act_of-act Changes Delete version kept created modified = refl

-- nothing is deleted in an entity file
none-deleted : (flow : Flow) (act : Act) → Kept flow act → (not (is_changes flow) && is_delete act) ≡ false
none-deleted Entities act kept = subst (λ a. is_delete a ≡ false) (sym (kept.1 refl)) refl
none-deleted Changes act kept = refl

-- what lacks a place is deleted in a change file
gone-deleted : (flow : Flow) (act : Act) (body : Body) → Kept flow act → (act ≢ Delete → IsTrue (has_place body)) →
    has_place body ≡ false → (is_changes flow && is_delete act) ≡ true
gone-deleted Entities Delete body kept placed lacks =
    let same : Delete ≡ Keep = kept.1 refl in
    absurd (cc)
gone-deleted Changes Delete body kept placed lacks = refl
gone-deleted flow Keep body kept placed lacks =
    absurd (both_ways (has_place body) lacks (placed (λ (same : Keep ≡ Delete). cc)))
gone-deleted flow Create body kept placed lacks =
    absurd (both_ways (has_place body) lacks (placed (λ (same : Create ≡ Delete). cc)))
gone-deleted flow Modify body kept placed lacks =
    absurd (both_ways (has_place body) lacks (placed (λ (same : Modify ≡ Delete). cc)))

-- the fields of a body have its place, if it has one
lacks_place-fields : NanoBack → (flow : Flow) (id : ℤ) (v d c t i u tags : List ℕ) (body : Body) (gone : Bool) →
    body_fits body ≡ true → is_deleted (fields_with flow id v d c t i u tags body) ≡ gone →
    (has_place body ≡ false → (is_changes flow && gone) ≡ true) →
    lacks_place (kind_of body) (fields_with flow id v d c t i u tags body) ≡ false
lacks_place-fields nano_back flow id v d c t i u tags (Node (Some p)) gone fits deleted lacks =
    let parts = and_parts (nat_le (nat_abs p.lon) (180 * degree)) (nat_le (nat_abs p.lat) (90 * degree)) fits in
    rw (degrees-back nano_back 180 p.lon (omega arith) parts.0, degrees-back nano_back 90 p.lat (omega arith) parts.1)
    refl
lacks_place-fields nano_back flow id v d c t i u tags (Node None) gone fits deleted lacks =
    rw (deleted, lacks refl) refl
lacks_place-fields nano_back flow id v d c t i u tags (Way refs) gone fits deleted lacks = refl
lacks_place-fields nano_back flow id v d c t i u tags (Relation members) gone fits deleted lacks = refl

-- fields that say an item which is light, has its place and isn't deleted where nothing is, are good
judged-good : (f : Fields) (item : ItemValue) → item_of f ≡ item → lacks_place f.kind f ≡ false →
    (not (is_changes f.flow) && is_deleted f) ≡ false → weight_of item.entity ≤ greatest_weight → judged f ≡ Good item
judged-good f item same placed kept light =
    let weight : weight_of (entity_of f) ≤ greatest_weight =
    subst (λ e. weight_of e ≤ greatest_weight) (sym (ap (λ i. i.entity) same)) light in
    rw (placed, kept, le-ltb greatest_weight (weight_of (entity_of f)) weight) (ap (λ i. Good i) same)

-- the laws of written texts
pub record TextsBack : Type 0 where
  pub whole_back : WholeBack
  pub nano_back : NanoBack
  pub time_back : TimeBack
  pub escaped_back : EscapedBack

-- the fields of an item
abbrev item_fields : Flow → ItemValue → Fields
item_fields flow item =
    fields_with flow item.entity.id (decimal item.entity.version) (act_text item.act) (decimal item.entity.changeset)
    (time_field item.entity.time) (decimal item.entity.uid) (escaped item.entity.user)
    (join_with_byte 44 (map tag_text item.entity.tags)) item.entity.body

-- the entity of these fields is the item's
entity_of-fields : TextsBack → (flow : Flow) (item : ItemValue) → IsWritable flow item →
    entity_of (item_fields flow item) ≡ item.entity
entity_of-fields laws flow item writable =
    let e = item.entity in
    let is = writable.entity in
    rw (
      count_in-decimal laws.whole_back e.version is.version,
      time_in-time_field laws.time_back e.time writable.time,
      changeset_in-decimal laws.whole_back e.changeset is.changeset,
      count_in-decimal laws.whole_back e.uid is.uid,
      text_in-escaped laws.escaped_back e.user,
      (tags-read_back laws.escaped_back e.tags is.named writable.tags).back,
    )
    (ap (λ body. record e { body = body })
    (body_of-fields laws.whole_back laws.nano_back laws.escaped_back flow e.id (decimal e.version) (act_text item.act)
    (decimal e.changeset) (time_field e.time) (decimal e.uid) (escaped e.user)
    (join_with_byte 44 (map tag_text e.tags)) e.body is.in_range writable.body))

-- the fields of an item are good
item_fields-good : TextsBack → (flow : Flow) (item : ItemValue) → IsWritable flow item →
    judged (item_fields flow item) ≡ Good item
item_fields-good laws flow item writable =
    let e = item.entity in
    let deleted : is_deleted (item_fields flow item) ≡ is_delete item.act = rw (deleted_in-act_text item.act) refl in
    let entity = entity_of-fields laws flow item writable in
    let act : act_of flow (is_delete item.act) e.version ≡ item.act =
    act_of-act flow item.act e.version writable.kept writable.acted.created writable.acted.modified in
    let version = count_in-decimal laws.whole_back e.version writable.entity.version in
    let acted : act_of flow (is_deleted (item_fields flow item)) (version_of (item_fields flow item)) ≡ item.act =
    rw (deleted, version) act in
    let same : item_of (item_fields flow item) ≡ item =
    ap (λ a. record { act = a; entity = entity_of (item_fields flow item) }) acted
    ∙ ap (λ w. record { act = item.act; entity = w }) entity in
    let placed = lacks_place-fields laws.nano_back flow e.id (decimal e.version) (act_text item.act)
    (decimal e.changeset) (time_field e.time) (decimal e.uid) (escaped e.user)
    (join_with_byte 44 (map tag_text e.tags)) e.body (is_delete item.act) writable.entity.in_range deleted
    (gone-deleted flow item.act e.body writable.kept writable.acted.placed) in
    judged-good (item_fields flow item) item same placed
    (rw deleted (none-deleted flow item.act writable.kept)) writable.entity.light

-- the pieces of an item have no fault
item-no_fault : TextsBack → (flow : Flow) (item : ItemValue) → IsWritable flow item →
    fault_among (kind_of item.entity.body) [] (field_parts item) ≡ None
item-no_fault laws flow item writable =
    let e = item.entity in
    let is = writable.entity in
    common-no_fault (kind_of e.body) (decimal e.version) (act_text item.act) (decimal e.changeset) (time_field e.time)
    (decimal e.uid) (escaped e.user) (join_with_byte 44 (map tag_text e.tags)) (body_parts e.body) e.version
    e.changeset e.time e.uid (is_delete item.act) e.user e.tags
    (count_in-decimal laws.whole_back e.version is.version) (deleted_in-act_text item.act)
    (changeset_in-decimal laws.whole_back e.changeset is.changeset)
    (time_in-time_field laws.time_back e.time writable.time)
    (count_in-decimal laws.whole_back e.uid is.uid) (text_in-escaped laws.escaped_back e.user)
    (tags-read_back laws.escaped_back e.tags is.named writable.tags).back
    ∙ body_parts-no_fault laws.whole_back laws.nano_back laws.escaped_back e.body is.in_range writable.body

-- fields without a fault that are good say their item
after_fault-none : (fault : Option Cause) (f : Fields) (item : ItemValue) → fault ≡ None → judged f ≡ Good item →
    after_fault fault f ≡ Good item
after_fault-none fault f item none good = rw none good

-- the letter of a kind and the text of an id are read
said_of-head : (flow : Flow) (letter : ℕ) (text : List ℕ) (parts : List (List ℕ)) (kind : Kind) (id : ℤ) →
    kind_by letter ≡ Some kind → whole text ≡ Some id →
    said_of flow ((letter ∷ text) ∷ parts) ≡ said_by flow (Some kind) (Some id) parts
said_of-head flow letter text parts kind id is_kind is_id =
    subst (λ k. said_by flow (kind_by letter) (whole text) parts ≡ said_by flow k (Some id) parts) is_kind
    (ap (λ i. said_by flow (kind_by letter) i parts) is_id)

-- the pieces of an item say the item
pub said_of-item : TextsBack → (flow : Flow) (item : ItemValue) → IsWritable flow item →
    said_of flow (head_part item ∷ field_parts item) ≡ Good item
said_of-item laws flow item writable =
    let e = item.entity in
    let fields : fields_from flow (kind_of e.body) e.id (field_parts item) ≡ item_fields flow item =
    fields_from-parts flow e.id (decimal e.version) (act_text item.act) (decimal e.changeset) (time_field e.time)
    (decimal e.uid) (escaped e.user) (join_with_byte 44 (map tag_text e.tags)) e.body in
    let good : judged (fields_from flow (kind_of e.body) e.id (field_parts item)) ≡ Good item =
    subst (λ f. judged f ≡ Good item) (sym fields) (item_fields-good laws flow item writable) in
    said_of-head flow (kind_letter (kind_of e.body)) (signed_decimal e.id) (field_parts item) (kind_of e.body) e.id
    (kind_by-kind_letter (kind_of e.body)) (laws.whole_back e.id writable.id)
    ∙ after_fault-none (fault_among (kind_of e.body) [] (field_parts item))
    (fields_from flow (kind_of e.body) e.id (field_parts item)) item (item-no_fault laws flow item writable) good
