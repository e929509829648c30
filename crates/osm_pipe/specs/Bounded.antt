-- The halves of a bounded pipe, as their callers see them.
-- Here a half is the pipe and the whole list that it sent or took; the code keeps neither.
use Rattle.std.specs.Prelude.{ℕ, List, [], ◌∷◌, ◌++◌, Option}
use Rattle.atomic_table.specs.Seated.{TableId}
use Rattle.atomic_table.specs.declared.badge.Badge.{Badge}
use Rattle.crossbeam_channel.specs.Claims.{Pass, view}
use Rattle.crossbeam_channel.specs.declared.flavors.array.Key.{Key}
use Rattle.osm_entity.specs.declared.stream.Message.{Message}
use Rattle.osm_pipe.specs.declared.rule.Hand.{Hand}

-- which bounded pipe it is: its table, the badge of its key, and how many messages it holds at most
pub record BoundedId : Type 0 where
  pub table : TableId
  pub key : Badge (Key Message)
  pub limit : Option ℕ

-- a half of a bounded pipe: which pipe, and what it sent or took
pub record BoundedValue : Type 0 where
  pub pipe : BoundedId
  pub list : List Message

-- a half of a bounded pipe, of its parts
abbrev pub bounded_half : BoundedId → List Message → BoundedValue
bounded_half pipe list = record { pipe = pipe; list = list }

-- a half of a bounded pipe, and one message more
abbrev pub bounded_more : BoundedValue → Message → BoundedValue
bounded_more h message = bounded_half h.pipe (h.list ++ message ∷ [])

-- what a pass knows
abbrev pub hand_of : Pass Message (Hand Message) → Hand Message
hand_of p = view p

-- the pipe that a pass is of
abbrev pub bounded_of : Pass Message (Hand Message) → BoundedId
bounded_of p = record { table = p.table_id; key = p.me.0.of; limit = (hand_of p).limit }
