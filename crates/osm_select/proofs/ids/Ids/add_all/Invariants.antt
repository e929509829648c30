use Rattle.std.proofs.Common.{◌≡◌, take}
use Rattle.osm_select.specs.IdSets.{among, either}
use Rattle.osm_select.proofs.ids.Ids.add_all.Given as goal

abbrev pub invariant-loop-id : goal.invariant-loop-id
invariant-loop-id l = among l.self ≡ either (among l.initial.self) (among (take l.id-index l.ids))
