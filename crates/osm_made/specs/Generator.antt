-- Nodes, ways and relations that are made out of numbers.
-- Here each is told by its number, and they are one list of three parts; the code makes one at a time.
use Rattle.std.specs.Prelude.{ℕ, ℤ, pos, ◌+◌, ◌-◌, ◌*◌, ◌/◌, ◌%◌, ◌^◌, ◌-ℤ◌, ◌==◌, if◌then◌else◌, List, [], ◌∷◌, ◌++◌, map, Some, codes}
use Rattle.std.specs.List.{range_with_len}
use Rattle.osm_entity.specs.Entities.{degree}
use Rattle.osm_entity.specs.Items.{ItemValue}
use Rattle.osm_entity.specs.declared.item.Act.TheVariants.{Keep}
use Rattle.osm_entity.specs.declared.kind.Kind.TheVariants.{Node as OfNode, Way as OfWay}
use Rattle.osm_entity.specs.declared.parts.Body.{Body}
use Rattle.osm_entity.specs.declared.parts.Body.TheVariants.{Node, Way, Relation}
use Rattle.osm_entity.specs.declared.parts.Tag.{Tag}

-- a hundredth of a number of entities are relations, cut
abbrev pub relations_among : ℕ → ℕ
relations_among count = count / 100

-- a tenth of them are ways, cut
abbrev pub ways_among : ℕ → ℕ
ways_among count = count / 10

-- the rest of them are nodes
abbrev pub nodes_among : ℕ → ℕ
nodes_among count = count - ways_among count - relations_among count

-- the number, below 2^32, of which part k of the nth entity of a kind is made
abbrev pub made_number : ℕ → ℕ → ℕ → ℕ
made_number seed n k = (seed + n * 2654435761 + k * 40503) % 2 ^ 32

-- degrees made of a number: from -most up to most, in steps of 100 nanodegrees
abbrev pub made_degrees : ℕ → ℕ → ℤ
made_degrees most number = pos (number % (most * 20000000 + 1) * 100) -ℤ pos (most * degree)

-- an id made of a number: one of the first `most`, from 1 on
abbrev pub made_id : ℕ → ℕ → ℤ
made_id most number = pos (1 + number % most)

-- 2010-01-01T00:00:00Z, the time of all that is made
abbrev pub made_time : ℕ
made_time = 1262304000

-- what is made has version 1 of changeset 1, by nobody
abbrev pub made_item : ℕ → List Tag → Body → ItemValue
made_item id tags body = record {
  act = Keep;
  entity = record {
    id = pos id;
    version = 1;
    time = made_time;
    changeset = 1;
    uid = 0;
    user = [];
    tags = tags;
    body = body;
  };
}

-- node n has a place of its numbers 0 and 1, and no tags
abbrev pub made_node : ℕ → ℕ → ItemValue
made_node seed n = made_item n [] (Node (Some (record {
  lon = made_degrees 180 (made_number seed n 0);
  lat = made_degrees 90 (made_number seed n 1);
})))

-- every second way is a residential highway
abbrev pub made_tags : ℕ → List Tag
made_tags n = if n % 2 == 0 then record { key = codes "highway"; value = codes "residential" } ∷ [] else []

-- way n has the nodes of its numbers 0 to 3 as refs
abbrev pub made_way : ℕ → ℕ → ℕ → ItemValue
made_way count seed n =
    made_item n (made_tags n) (Way (map (λ k. made_id (nodes_among count) (made_number seed n k)) (range_with_len 0 4)))

-- relation n has the way of its number 0, as a part, and the node of its number 1, and no tags
abbrev pub made_relation : ℕ → ℕ → ℕ → ItemValue
made_relation count seed n = made_item n [] (Relation (
    record { kind = OfWay; id = made_id (ways_among count) (made_number seed n 0); role = codes "part" }
    ∷ record { kind = OfNode; id = made_id (nodes_among count) (made_number seed n 1); role = [] }
    ∷ []))

-- the nodes, then the ways, then the relations, those of each kind by their numbers from 1 on
unfoldable pub made_list : ℕ → ℕ → List ItemValue
made_list count seed =
    map (made_node seed) (range_with_len 1 (nodes_among count))
    ++ map (made_way count seed) (range_with_len 1 (ways_among count))
    ++ map (made_relation count seed) (range_with_len 1 (relations_among count))
