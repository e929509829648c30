use Rattle.osm_entity.proofs.holding.hold_body.Goals as goal

pub returns-in-Way : goal.returns-in-Way
returns-in-Way c = rw c.in-Way.is (rw (← c.as_slice.ensures) c.hold_refs.ensures)

pub returns-in-Relation : goal.returns-in-Relation
returns-in-Relation c = rw c.in-Relation.is (rw (← c.as_slice-in-Relation.ensures) c.hold_members.ensures)
