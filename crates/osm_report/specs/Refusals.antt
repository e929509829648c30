-- The fault of a run whose command is refused.
-- Here each refusal has its fault; the code asks first whether it is out of memory.
use Rattle.osm_graph.specs.declared.fault.GraphError.{GraphError}
use Rattle.osm_graph.specs.declared.fault.GraphError.TheVariants.{Memory as GraphMemory}
use Rattle.osm_tasks.specs.declared.fault.TaskError.{TaskError}
use Rattle.osm_tasks.specs.declared.fault.TaskError.TheVariants.{Memory as TaskMemory}
use Rattle.osm_words.specs.declared.list.WordsError.{WordsError}
use Rattle.osm_words.specs.declared.list.WordsError.TheVariants.{Memory as WordsMemory}
use Rattle.osm_report.specs.declared.fault.Fault.{Fault}
use Rattle.osm_report.specs.declared.fault.Fault.TheVariants.{Words, Task, Graph, Memory}

-- the fault of words that are no list of tasks; out of memory is one fault wherever it comes
abbrev pub fault_of_words : WordsError → Fault
fault_of_words WordsMemory = Memory
fault_of_words error = Words error

-- the fault of a task that isn't in the catalogue
abbrev pub fault_of_task : TaskError → Fault
fault_of_task TaskMemory = Memory
fault_of_task error = Task error

-- the fault of tasks that their pipes don't join
abbrev pub fault_of_graph : GraphError → Fault
fault_of_graph GraphMemory = Memory
fault_of_graph error = Graph error
