-- The words of a command as tasks of the catalogue, or the first that is refused.
-- Here a fault and the task stand apart; the code makes the task once no fault is left.
use Rattle.std.specs.Prelude.{ℕ, ◌+◌, List, [], ◌∷◌, length, Bool, ◌||◌, Option, Some, None, Result, Ok, Err}
use Rattle.std.specs.List.{find}
use Rattle.std.specs.Option.{option_or}
use Rattle.std.specs.Str.{bytes_eq}
use Rattle.osm_words.specs.declared.list.OptionWord.{OptionWord}
use Rattle.osm_words.specs.declared.list.TaskWords.{TaskWords}
use Rattle.osm_tasks.specs.Catalogue.{task_row, all_tasks}
use Rattle.osm_tasks.specs.Given.{input_prefix, output_prefix, pipe_names}
use Rattle.osm_tasks.specs.KindSaid.{kind_said}
use Rattle.osm_tasks.specs.Tasks.{TaskValue}
use Rattle.osm_tasks.specs.declared.fault.TaskError.{TaskError}
use Rattle.osm_tasks.specs.declared.fault.TaskError.TheVariants.{UnknownTask}
use Rattle.osm_tasks.specs.declared.naming.TaskName.{TaskName}
use Rattle.osm_tasks.specs.Refusals.{box_fault, options_refused, outputs_said}

-- a task is called by its name or its short name
abbrev pub is_task_called : List ℕ → TaskName → Bool
is_task_called name task = bytes_eq name (task_row task).name || bytes_eq name (task_row task).short

-- what is wrong with a task of these words: the words, or last an empty box
abbrev pub said_fault : ℕ → TaskName → List OptionWord → Option TaskError
said_fault n task words = option_or (options_refused n task words) (box_fault n (kind_said task words))

-- the task that words say
abbrev pub task_said : TaskName → List OptionWord → TaskValue
task_said task words = record {
  kind = kind_said task words;
  inputs = pipe_names input_prefix words (length (task_row task).inputs);
  outputs = pipe_names output_prefix words (outputs_said task words);
}

-- a task, or the fault where there is one
abbrev pub task_unless : Option TaskError → TaskValue → Result TaskValue TaskError
task_unless None task = Ok task
task_unless (Some fault) task = Err fault

-- the task of this number with its words, where the catalogue has one of its name
abbrev pub resolved_as : ℕ → TaskWords → Option TaskName → Result TaskValue TaskError
resolved_as n words None = Err (UnknownTask n words.word)
resolved_as n words (Some task) = task_unless (said_fault n task words.options) (task_said task words.options)

-- the task of this number, looked up by its name
abbrev pub resolved_task : ℕ → TaskWords → Result TaskValue TaskError
resolved_task n words = resolved_as n words (find (is_task_called words.name) all_tasks)

-- a task and those after it; the first fault counts
abbrev pub joined_tasks : Result TaskValue TaskError → Result (List TaskValue) TaskError →
    Result (List TaskValue) TaskError
joined_tasks (Err fault) more = Err fault
joined_tasks (Ok task) (Err fault) = Err fault
joined_tasks (Ok task) (Ok tasks) = Ok (task ∷ tasks)

-- the tasks of a list, of which the first has this number
abbrev pub resolved_from : ℕ → List TaskWords → Result (List TaskValue) TaskError
resolved_from n [] = Ok []
resolved_from n (words ∷ more) = joined_tasks (resolved_task n words) (resolved_from (n + 1) more)

-- the tasks of a command
abbrev pub resolved : List TaskWords → Result (List TaskValue) TaskError
resolved list = resolved_from 0 list
