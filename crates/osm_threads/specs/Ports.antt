-- What is at the ports of a task: halves of pipes, and the messages that passed them.
-- Here a port has the whole list that passed it; the code has the half of a pipe, and no list.
use Rattle.std.specs.Prelude.{◌≡◌, ℕ, ◌<◌, List, [], get_or, map, if◌then◌else◌, Bool, true, false, Option, Some, None, IsSome, ⊤}
use Rattle.osm_entity.specs.Ports.{Ports, has_end}
use Rattle.osm_entity.specs.Prefixes.{IsPrefix}
use Rattle.osm_entity.specs.declared.stream.End.TheVariants.{Broken}
use Rattle.osm_entity.specs.declared.stream.Message.{Message}
use Rattle.osm_entity.specs.declared.stream.Message.TheVariants.{End as Last}
use Rattle.osm_pipe.specs.Pipes.{HalfValue, PipeId, half_more}

-- what is at a port: a half of a pipe, or none
abbrev pub PortHalf : Type 0
PortHalf = Option HalfValue

-- the pipe at a port
abbrev pub pipe_at : PortHalf → Option PipeId
pipe_at None = None
pipe_at (Some h) = Some h.pipe

-- the messages that passed a port
abbrev pub passed_at : PortHalf → List Message
passed_at None = []
passed_at (Some h) = h.list

-- whether the end of a port has passed; a port without a pipe has none to come
abbrev pub is_shut : PortHalf → Bool
is_shut None = true
is_shut (Some h) = has_end h.list

-- a port, and one message more
abbrev pub port_more : PortHalf → Message → PortHalf
port_more None message = None
port_more (Some h) message = Some (half_more h message)

-- a port that was given a broken end, unless it had its end
abbrev pub broken_off : PortHalf → PortHalf
broken_off port = if is_shut port then port else port_more port (Last Broken)

-- more passed a port of the same pipe
pub record HasMore (old new : PortHalf) : Type 0 where
  pub pipe : pipe_at new ≡ pipe_at old
  pub more : IsPrefix (passed_at old) (passed_at new)

-- what is at a port of a task, by the number of the port
abbrev pub in_row : List PortHalf → (port : ℕ) → PortHalf
in_row row port = get_or row port None

-- the messages that passed each port of a task
abbrev pub messages_at : List PortHalf → Ports
messages_at row port = passed_at (in_row row port)

-- the pipes at the ports of a task
abbrev pub pipes_at : List PortHalf → List (Option PipeId)
pipes_at row = map pipe_at row

-- each of the first ports has a pipe
abbrev pub HavePipes : (count : ℕ) → List PortHalf → Type 0
HavePipes count row = (port : ℕ) → port < count → IsSome (pipe_at (in_row row port))

-- an output port: its giver until the end was sent, and then what was sent
abbrev pub outlet_half : Option HalfValue → Option HalfValue → PortHalf
outlet_half (Some giver) sent = Some giver
outlet_half None sent = sent

-- the giver of an output port has sent no end, and what was sent has one
abbrev pub IsOutlet : Option HalfValue → Option HalfValue → Type 0
IsOutlet (Some giver) sent = has_end giver.list ≡ false
IsOutlet None (Some sent) = has_end sent.list ≡ true
IsOutlet None None = ⊤
