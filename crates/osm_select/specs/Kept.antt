-- What the code's sets of ids say.
-- Here a set is a test; the code has lists of ids.
use Rattle.osm_select.specs.IdSets.{among}
use Rattle.osm_select.specs.Parts.{Sets}
use Rattle.osm_select.specs.declared.keys.Keys.{Keys}

-- the sets of ids that the code's keys are
abbrev pub sets_of : Keys → Sets
sets_of keys = record { nodes = among keys.nodes; ways = among keys.ways; relations = among keys.relations }
