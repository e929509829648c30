-- The pipes of a command, or what is refused first: port by port, then a pipe that nobody reads, then a file.
-- Here a fault and what the inputs take stand apart; the code finds both in one walk over the ports.
use Rattle.std.specs.Prelude.{ℕ, ◌+◌, ◌==◌, List, [], ◌∷◌, ◌++◌, Bool, true, false, nat_le, if◌then◌else◌, Option, Some, None, Result, Ok, Err, count_by, slice_get, find}
use Rattle.std.specs.List.{list_any}
use Rattle.std.specs.Option.{option_or}
use Rattle.osm_entity.specs.declared.kind.Flow.{Flow}
use Rattle.osm_entity.specs.declared.kind.Flow.TheVariants.{Entities, Changes}
use Rattle.osm_tasks.specs.Tasks.{TaskValue}
use Rattle.osm_graph.specs.Files.{file_fault}
use Rattle.osm_graph.specs.Graphs.{GraphValue, most_pipes}
use Rattle.osm_graph.specs.Matching.{puts_named, takes_named, source_place}
use Rattle.osm_graph.specs.Ports.{PortValue, ports_of}
use Rattle.osm_graph.specs.declared.fault.GraphError.{GraphError}
use Rattle.osm_graph.specs.declared.fault.GraphError.TheVariants.{NoPipe, WrongType, PipeUnknown, PipeTaken, PipeTwice, TooManyPipes, UnusedPipes}
use Rattle.osm_graph.specs.declared.joining.Reader.{Reader}
use Rattle.osm_graph.specs.declared.pipe.Pipe.{Pipe}

-- two streams are of one type
abbrev pub is_same_flow : Flow → Flow → Bool
is_same_flow Entities Entities = true
is_same_flow Changes Changes = true
is_same_flow one other = false

-- a port, where there is one, has a stream of this type
abbrev pub has_flow : Flow → Option PortValue → Bool
has_flow flow None = false
has_flow flow (Some port) = is_same_flow port.flow flow

-- an earlier input takes the pipe of this name
abbrev pub is_taken : List PortValue → Option (List ℕ) → Bool
is_taken earlier None = false
is_taken earlier (Some name) = list_any (takes_named name) earlier

-- an earlier output puts a pipe of this name
abbrev pub is_put : List PortValue → Option (List ℕ) → Bool
is_put earlier None = false
is_put earlier (Some name) = list_any (puts_named name) earlier

-- the fault of an input whose pipe nobody put: without a name no pipe is open, with one it isn't known
abbrev pub no_source : PortValue → Option (List ℕ) → GraphError
no_source port None = NoPipe port.task port.port
no_source port (Some name) = PipeUnknown port.task port.port

-- what is wrong with an input after the earlier ports, by the place of the output whose pipe it takes
abbrev pub input_fault : List PortValue → PortValue → Option ℕ → Option GraphError
input_fault earlier port None = Some (no_source port port.name)
input_fault earlier port (Some place) =
    if is_taken earlier port.name then Some (PipeTaken port.task port.port)
    else if has_flow port.flow (slice_get earlier place) then None else Some (WrongType port.task port.port)

-- what is wrong with an output after the earlier ports: the pipe is one too many, or its name was put before
abbrev pub output_fault : List PortValue → PortValue → Option GraphError
output_fault earlier port =
    if nat_le most_pipes (count_by (λ p. p.gives) earlier) then Some (TooManyPipes port.task port.port)
    else if is_put earlier port.name then Some (PipeTwice port.task port.port) else None

-- what is wrong with a port after the earlier ports, by its side
abbrev pub port_fault : List PortValue → PortValue → Option GraphError
port_fault earlier port =
    if port.gives then output_fault earlier port
    else input_fault earlier port (source_place earlier port.name)

-- the first fault among ports, after the earlier ports
abbrev pub ports_fault : (earlier ports : List PortValue) → Option GraphError
ports_fault earlier [] = None
ports_fault earlier (port ∷ ports) =
    option_or (port_fault earlier port) (ports_fault (earlier ++ port ∷ []) ports)

-- an input as the reader of the pipe that is put at a place, where there is one
abbrev pub reader_from : PortValue → Option ℕ → List Reader
reader_from port None = []
reader_from port (Some place) =
    record { place = place; task = port.task; port = port.port; store = port.store } ∷ []

-- the reader that a port is: an output is none
abbrev pub reader_of : List PortValue → PortValue → List Reader
reader_of earlier port = if port.gives then [] else reader_from port (source_place earlier port.name)

-- the readers among ports, after the earlier ports
abbrev pub readers_of : (earlier ports : List PortValue) → List Reader
readers_of earlier [] = []
readers_of earlier (port ∷ ports) = reader_of earlier port ++ readers_of (earlier ++ port ∷ []) ports

-- the pipe from an output to its reader
abbrev pub pipe_between : PortValue → Reader → Pipe
pipe_between from reader = record {
  from = from.task;
  from_port = from.port;
  to = reader.task;
  to_port = reader.port;
  flow = from.flow;
  store = reader.store;
}

-- the pipe of this number and those after it; the first that nobody reads is refused
abbrev pub joined_pipe : (number : ℕ) → PortValue → Option Reader → Result (List Pipe) GraphError →
    Result (List Pipe) GraphError
joined_pipe number from None more = Err (UnusedPipes number)
joined_pipe number from (Some reader) (Err fault) = Err fault
joined_pipe number from (Some reader) (Ok pipes) = Ok (pipe_between from reader ∷ pipes)

-- the pipes of ports, of which the first stands at this place and the first pipe has this number; the lowest that
-- nobody reads is refused
abbrev pub pipes_from : List Reader → (place number : ℕ) → List PortValue → Result (List Pipe) GraphError
pipes_from readers place number [] = Ok []
pipes_from readers place number (port ∷ ports) =
    if port.gives
    then joined_pipe number port (find (λ r. r.place == place) readers)
    (pipes_from readers (place + 1) (number + 1) ports)
    else pipes_from readers (place + 1) number ports

-- these pipes, unless there is a fault
abbrev pub unless_fault : Option GraphError → Result (List Pipe) GraphError → Result (List Pipe) GraphError
unless_fault None pipes = pipes
unless_fault (Some fault) pipes = Err fault

-- the pipes between ports: the first fault counts, then the lowest pipe that nobody reads
abbrev pub joined_ports : List PortValue → Result (List Pipe) GraphError
joined_ports ports = unless_fault (ports_fault [] ports) (pipes_from (readers_of [] ports) 0 0 ports)

-- pipes, unless a later fault is found
abbrev pub then_fault : Result (List Pipe) GraphError → Option GraphError → Result (List Pipe) GraphError
then_fault (Err fault) last = Err fault
then_fault (Ok pipes) None = Ok pipes
then_fault (Ok pipes) (Some fault) = Err fault

-- the pipes of a command, or its first refusal: that of its ports, and then that of its files
abbrev pub command_pipes : List TaskValue → Result (List Pipe) GraphError
command_pipes tasks = then_fault (joined_ports (ports_of tasks)) (file_fault tasks)

-- a command with its pipes, where nothing is refused
abbrev pub with_pipes : List TaskValue → Result (List Pipe) GraphError → Result GraphValue GraphError
with_pipes tasks (Err fault) = Err fault
with_pipes tasks (Ok pipes) = Ok (record { tasks = tasks; pipes = pipes })

-- the graph of a command, or its first refusal
abbrev pub connected : List TaskValue → Result GraphValue GraphError
connected tasks = with_pipes tasks (command_pipes tasks)
