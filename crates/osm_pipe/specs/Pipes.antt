-- Pipes, as their callers see them.
-- Here a half is the pipe and the whole list of messages that it sent or took; the code keeps neither.
use Rattle.std.specs.Prelude.{◌≡◌, ℕ, true, List, [], ◌∷◌, ◌++◌, Option, None}
use Rattle.osm_entity.specs.Ports.{has_end, EndsLast}
use Rattle.osm_entity.specs.Prefixes.{IsPrefix}
use Rattle.osm_entity.specs.declared.stream.Message.{Message}
use Rattle.osm_pipe.specs.Bounded.{BoundedId}
use Rattle.osm_pipe.specs.Spool.{SpoolId}
use Rattle.osm_pipe.specs.declared.way.GiverWay.{GiverWay}
use Rattle.osm_pipe.specs.declared.way.GiverWay.TheVariants as Gives
use Rattle.osm_pipe.specs.declared.way.TakerWay.{TakerWay}
use Rattle.osm_pipe.specs.declared.way.TakerWay.TheVariants as Takes

-- which pipe it is: a bounded pipe or a spool
pub data PipeId : Type 0 where
  OnBounded : BoundedId → PipeId
  OnSpool : SpoolId → PipeId

-- how many messages a pipe holds at most, where it is bounded
abbrev pub capacity_of : PipeId → Option ℕ
capacity_of (OnBounded pipe) = pipe.limit
capacity_of (OnSpool spool) = None

-- a half of a pipe: which pipe, and what it sent or took
pub record HalfValue : Type 0 where
  pub pipe : PipeId
  pub list : List Message

-- a half of a pipe, of its parts
abbrev pub half : PipeId → List Message → HalfValue
half pipe list = record { pipe = pipe; list = list }

-- a half of a pipe, and one message more
abbrev pub half_more : HalfValue → Message → HalfValue
half_more h message = half h.pipe (h.list ++ message ∷ [])

-- a giving half, whatever its kind
abbrev pub giver_half : GiverWay → HalfValue
giver_half (Gives.Bounded giver) = half (OnBounded giver.pipe) giver.list
giver_half (Gives.Spool giver) = half (OnSpool giver.pipe) giver.list

-- a taking half, whatever its kind
abbrev pub taker_half : TakerWay → HalfValue
taker_half (Takes.Bounded taker) = half (OnBounded taker.pipe) taker.list
taker_half (Takes.Spool taker) = half (OnSpool taker.pipe) taker.list

-- what was taken is a prefix of what was sent, all of it where its end was taken; what was sent ends with its end
pub record Meets (taken sent : List Message) : Type 0 where
  pub prefix : IsPrefix taken sent
  pub whole : has_end taken ≡ true → taken ≡ sent
  pub last : EndsLast sent
  pub closed : has_end sent ≡ true
