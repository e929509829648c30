-- An entity as contracts see it: the record of its fields.
use Rattle.osm_entity.specs.Entities.{EntityValue}
use Rattle.osm_entity.specs.declared.entity.Entity.TheInside.{Inside}

-- the fields of an entity, as contracts see them
abbrev pub entity_seen : Inside → EntityValue
entity_seen e = record {
  id = e.id;
  version = e.version;
  time = e.time;
  changeset = e.changeset;
  uid = e.uid;
  user = e.user;
  tags = e.tags;
  body = e.body;
}
