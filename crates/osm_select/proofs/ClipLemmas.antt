-- An item that is clipped is still an item: it is no heavier, and its place stays.
use Rattle.std.proofs.Common.{◌≡◌, ◌≤◌, Some, None, refl, sym, arith, subst}
use Rattle.std.specs.Prelude.{IsTrue, not}
use Rattle.std.proofs.lemmas.List.Filters.{length-filter_both, sum_by-filter_both}
use Rattle.osm_entity.specs.Entities.{EntityValue, IsEntity, body_fits, body_weight, member_weight}
use Rattle.osm_entity.specs.Items.{IsItem, ItemValue, has_place}
use Rattle.osm_entity.specs.declared.parts.Body.{Body}
use Rattle.osm_entity.specs.declared.parts.Body.TheVariants.{Node, Way, Relation}
use Rattle.osm_select.specs.Parts.{Sets, clipped_body, has_member, with_body}

clipped_lighter : (sets : Sets) (body : Body) → body_weight (clipped_body sets body) ≤ body_weight body
clipped_lighter sets (Node place) = omega arith
clipped_lighter sets (Way refs) =
    omega (arith, length-filter_both sets.nodes (λ id. not (sets.nodes id)) (λ id. refl) refs)
clipped_lighter sets (Relation members) = omega (
  arith,
  sum_by-filter_both (has_member sets)
      (λ member. not (has_member sets member)) (λ member. refl) member_weight members,
)

clipped_fits : (sets : Sets) (body : Body) → body_fits (clipped_body sets body) ≡ body_fits body
clipped_fits sets (Node (Some place)) = refl
clipped_fits sets (Node None) = refl
clipped_fits sets (Way refs) = refl
clipped_fits sets (Relation members) = refl

clipped_placed : (sets : Sets) (body : Body) → has_place (clipped_body sets body) ≡ has_place body
clipped_placed sets (Node (Some place)) = refl
clipped_placed sets (Node None) = refl
clipped_placed sets (Way refs) = refl
clipped_placed sets (Relation members) = refl

pub clipped_is_entity : (sets : Sets) (e : EntityValue) → IsEntity e →
    IsEntity (record e { body = clipped_body sets e.body })
clipped_is_entity sets e is = record {
  version = is.version;
  uid = is.uid;
  changeset = is.changeset;
  named = is.named;
  in_range = subst IsTrue (sym (clipped_fits sets e.body)) is.in_range;
  light = omega (arith, is.light, clipped_lighter sets e.body);
}

pub clipped_is_item : (sets : Sets) (i : ItemValue) → IsItem i →
    IsItem (with_body i (clipped_body sets i.entity.body))
clipped_is_item sets i is = record {
  placed = λ kept. subst IsTrue (sym (clipped_placed sets i.entity.body)) (is.placed kept);
  created = is.created;
  modified = is.modified;
}
