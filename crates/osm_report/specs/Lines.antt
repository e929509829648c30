-- The line of each fault, as it is said on standard error.
-- Here each fault has its line in one formula; the code appends piece after piece to a buffer.
use Rattle.std.specs.Prelude.{ℕ, List, [], ◌∷◌, ◌++◌, if◌then◌else◌, codes, decimal}
use Rattle.std.specs.List.{join_by}
use Rattle.osm_entity.specs.Ascii.{newline}
use Rattle.osm_words.specs.declared.list.WordsError.{WordsError}
use Rattle.osm_words.specs.declared.list.WordsError.TheVariants.{NoTasks, NotATask, EmptyName, TwiceOption, TwoUnnamed, TooManyTasks, Memory as WordsMemory}
use Rattle.osm_tasks.specs.declared.fault.TaskError.{TaskError}
use Rattle.osm_tasks.specs.declared.fault.TaskError.TheVariants.{UnknownTask, UnknownOption, Repeated, BadValue, Missing, BadBox, Memory as TaskMemory}
use Rattle.osm_circle.specs.declared.circle.Sense.{Sense}
use Rattle.osm_graph.specs.declared.fault.GraphError.{GraphError}
use Rattle.osm_graph.specs.declared.fault.GraphError.TheVariants.{NoPipe, WrongType, PipeUnknown, PipeTaken, PipeTwice, TooManyPipes, UnusedPipes, SameFile, Memory as GraphMemory}
use Rattle.osm_report.specs.Places.{at_number, at_task, at_part, at_spot}
use Rattle.osm_report.specs.Words.{cause_words, needed_words, call_words}
use Rattle.osm_report.specs.declared.fault.Fault.{Fault}
use Rattle.osm_report.specs.declared.fault.Fault.TheVariants.{Clean, Words, Task, Graph, Buffering, Input, TooLong, Device, Memory}

-- the words of a run that is out of memory
abbrev pub no_memory : List ℕ
no_memory = codes "no memory"

-- what is said of words that are no list of tasks
abbrev pub words_text : WordsError → List ℕ
words_text NoTasks = codes "no tasks"
words_text (NotATask word) = at_number (codes "word ") word (codes "not a task")
words_text (EmptyName word) = at_number (codes "word ") word (codes "empty option name")
words_text (TwiceOption word) = at_number (codes "word ") word (codes "option repeated")
words_text (TwoUnnamed word) = at_number (codes "word ") word (codes "second unnamed option")
words_text (TooManyTasks word) = at_number (codes "word ") word (codes "too many tasks")
words_text WordsMemory = no_memory

-- what is said of a task that isn't in the catalogue
abbrev pub task_text : TaskError → List ℕ
task_text (UnknownTask task word) = at_part task (codes " word ") word (codes "unknown task")
task_text (UnknownOption task word) = at_part task (codes " word ") word (codes "unknown option")
task_text (Repeated task word) = at_part task (codes " word ") word (codes "option repeated")
task_text (BadValue task word) = at_part task (codes " word ") word (codes "bad value")
task_text (Missing task option) = at_task task (needed_words option)
task_text (BadBox task) = at_task task (codes "empty box")
task_text TaskMemory = no_memory

-- what is said of a task whose file an earlier task has
abbrev pub same_file_text : ℕ → ℕ → List ℕ
same_file_text task earlier = codes "task " ++ decimal task ++ codes ": same file as task " ++ decimal earlier

-- what is said of tasks that their pipes don't join
abbrev pub graph_text : GraphError → List ℕ
graph_text (NoPipe task port) = at_part task (codes " input ") port (codes "no pipe")
graph_text (WrongType task port) = at_part task (codes " input ") port (codes "wrong type")
graph_text (PipeUnknown task port) = at_part task (codes " input ") port (codes "unknown pipe")
graph_text (PipeTaken task port) = at_part task (codes " input ") port (codes "pipe already read")
graph_text (PipeTwice task port) = at_part task (codes " output ") port (codes "pipe already written")
graph_text (TooManyPipes task port) = at_part task (codes " output ") port (codes "too many pipes")
graph_text (UnusedPipes pipe) = at_number (codes "pipe ") pipe (codes "never read")
graph_text (SameFile task earlier) = same_file_text task earlier
graph_text GraphMemory = no_memory

-- a pipe of a circle, and whether the circle goes along it
abbrev pub sense_text : Sense → List ℕ
sense_text sense = codes "pipe " ++ decimal sense.pipe ++ (if sense.along then codes " along" else codes " against")

-- what is said of a circle of pipes: each with a comma and a space before the next
abbrev pub circle_text : List Sense → List ℕ
circle_text senses = codes "buffering: " ++ join_by sense_text (codes ", ") senses

-- what is said of a fault; nothing where there is none
abbrev pub said_words : Fault → List ℕ
said_words Clean = []
said_words (Words error) = words_text error
said_words (Task error) = task_text error
said_words (Graph error) = graph_text error
said_words (Buffering senses) = circle_text senses
said_words (Input task cause spot) = at_spot task spot (cause_words cause)
said_words (TooLong task) = at_task task (codes "input too long")
said_words (Device task call) = at_task task (call_words call)
said_words Memory = no_memory

-- a line that says these words: `osm-tasks: ` before them, and a newline after them
abbrev pub line_saying : List ℕ → List ℕ
line_saying words = codes "osm-tasks: " ++ words ++ newline ∷ []

-- the line of a fault; nothing where there is none
abbrev pub fault_text : Fault → List ℕ
fault_text Clean = []
fault_text fault = line_saying (said_words fault)
