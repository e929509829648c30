use Rattle.std.proofs.Common.{subst, sym}
use Rattle.osm_entity.specs.Entities.{IsEntity}
use Rattle.osm_entity.specs.Seen.{entity_seen}
use Rattle.osm_entity.specs.declared.parts.Body.{Body}
use Rattle.osm_select.specs.Kept.{sets_of}
use Rattle.osm_select.proofs.ClipLemmas.{clipped_is_entity}
use Rattle.osm_select.proofs.keys.Keys.clip_entity.Goals as goal

pub invariant_of-entity : goal.invariant_of-entity
invariant_of-entity c = subst (λ (body : Body). IsEntity (record (entity_seen c.entity.inside) { body = body }))
    (sym c.clip_body.ensures)
    (clipped_is_entity (sets_of c.args.self.now) (entity_seen c.entity.inside) c.entity.invariant)
