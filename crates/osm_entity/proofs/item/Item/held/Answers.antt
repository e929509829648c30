use Rattle.std.proofs.Common.{◌≡◌, All, ap, ◌∙◌, rules, subst}
use Rattle.osm_entity.specs.Entities.{EntityValue, IsEntity}
use Rattle.osm_entity.specs.Items.{ItemValue}
use Rattle.osm_entity.specs.Seen.{entity_seen}
use Rattle.osm_entity.specs.Writable.{IsBodyText, IsTagText}
use Rattle.osm_entity.proofs.item.Item.held.Goals as goal

pub returns : goal.returns
returns c = λ flow says.
    let inside = c.deref-entity.ensures ∙ ap (λ (i : ItemValue). i.entity) c.self.view_is in
    let whole : entity_seen c.entity.inside ≡ c.args.self.now.entity = c.entity.view_is ∙ inside in
    record {
      entity = subst IsEntity inside c.kept-2.ensures;
      acted = c.kept.ensures;
      kept = says;
      id = search rules;
      time = search rules;
      user = search rules;
      tags = subst (λ (e : EntityValue). All IsTagText e.tags) whole (rw c.as_slice.ensures at c.hold_tags.ensures);
      body = subst (λ (e : EntityValue). IsBodyText e.body) whole c.hold_body.ensures;
    }
