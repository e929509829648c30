-- What words ask for: a graph of tasks, or the fault with which they are refused.
-- Here each step takes the whole answer of the step before; the code goes on only where nothing is refused.
use Rattle.std.specs.Prelude.{ℕ, ◌≡◌, List, Result, Ok, Err}
use Rattle.osm_circle.specs.Circles.{IsBareCircle}
use Rattle.osm_circle.specs.declared.circle.Sense.{Sense}
use Rattle.osm_graph.specs.Graphs.{GraphValue}
use Rattle.osm_graph.specs.Joining.{connected}
use Rattle.osm_graph.specs.declared.fault.GraphError.{GraphError}
use Rattle.osm_report.specs.declared.fault.Fault.{Fault}
use Rattle.osm_report.specs.declared.fault.Fault.TheVariants.{Words, Task, Graph, Buffering, Memory}
use Rattle.osm_tasks.specs.Resolving.{resolved}
use Rattle.osm_tasks.specs.Tasks.{TaskValue}
use Rattle.osm_tasks.specs.declared.fault.TaskError.{TaskError}
use Rattle.osm_words.specs.Split.{split_words}
use Rattle.osm_words.specs.declared.list.TaskWords.{TaskWords}
use Rattle.osm_words.specs.declared.list.WordsError.{WordsError}

-- tasks that were joined, or the fault of why they weren't
abbrev pub joined_asked : Result GraphValue GraphError → Result GraphValue Fault
joined_asked (Err error) = Err (Graph error)
joined_asked (Ok graph) = Ok graph

-- tasks of the catalogue joined by their pipes, or the first fault
abbrev pub tasks_asked : Result (List TaskValue) TaskError → Result GraphValue Fault
tasks_asked (Err error) = Err (Task error)
tasks_asked (Ok tasks) = joined_asked (connected tasks)

-- a list of tasks looked up and joined, or the first fault
abbrev pub list_asked : Result (List TaskWords) WordsError → Result GraphValue Fault
list_asked (Err error) = Err (Words error)
list_asked (Ok list) = tasks_asked (resolved list)

-- the graph that words ask for, or the fault of the first refusal: of the words, then of a task, then of pipes and
-- files
abbrev pub graph_asked : List (List ℕ) → Result GraphValue Fault
graph_asked words = list_asked (split_words words)

-- no circle of a graph is bare
abbrev pub HasNoCircle : GraphValue → Type 0
HasNoCircle graph = (circle : List Sense) → IsBareCircle graph.pipes circle → ⊥

-- a fault with which words may be refused, by the graph that they ask for: the first refusal; a bare circle; or out of
-- memory
pub data IsRefusal (asked : Result GraphValue Fault) (fault : Fault) : Type 0 where
  WasRefused : asked ≡ Err fault → IsRefusal asked fault
  HasCircle : (graph : GraphValue) → (circle : List Sense) → asked ≡ Ok graph → IsBareCircle graph.pipes circle →
      fault ≡ Buffering circle → IsRefusal asked fault
  WasOutOfMemory : fault ≡ Memory → IsRefusal asked fault
