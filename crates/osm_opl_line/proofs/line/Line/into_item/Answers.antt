use Rattle.std.proofs.Common.{◌≡◌, ◌∙◌, ℕ, ℤ}
use Rattle.osm_opl_line.specs.Cut.{fields_seen}
use Rattle.osm_opl_line.specs.Item.{body_of}
use Rattle.osm_opl_line.proofs.MakingLemmas.{IsEntityOf, body_with-fields, entity-kept, item-kept}
use Rattle.osm_opl_line.proofs.line.Line.into_item.Goals as goal

-- the body that is made is that of the fields
body : (c : goal.After-act_of-act) → c.in_ok-body.body ≡ body_of c.self.inside.kind (fields_seen c.self.inside)
body c =
    (rw (c.place_of-place.ensures, c.self.invariant.lon, c.self.invariant.lat) at c.in_ok-body.ensures)
    ∙ body_with-fields c.self.inside.kind (fields_seen c.self.inside)

-- the entity that is made has the values of the fields
made : (c : goal.After-act_of-act) (id : ℤ) (time : ℕ) → IsEntityOf (fields_seen c.self.inside) (record {
  id = id;
  version = c.self.inside.numbers.version;
  time = time;
  changeset = c.self.inside.numbers.changeset;
  uid = c.self.inside.numbers.uid;
  user = c.in_ok-user.user;
  tags = c.in_ok-tags.tags;
  body = c.in_ok-body.body;
})
made c id time = record {
  version = c.self.invariant.version;
  changeset = c.self.invariant.changeset;
  uid = c.self.invariant.uid;
  user = c.in_ok-user.ensures;
  tags = c.in_ok-tags.ensures;
  body = body c;
}

pub invariant_of-entity : goal.invariant_of-entity
invariant_of-entity c = entity-kept (fields_seen c.self.inside) _ (made c _ _) c.self.invariant.good

pub new-requires : goal.new-requires
new-requires c =
    item-kept (fields_seen c.self.inside) c.act_of-act.result _
    (rw (← c.self.invariant.version, ← c.self.invariant.deleted) c.act_of-act.ensures) (made c _ _)
    c.self.invariant.good
