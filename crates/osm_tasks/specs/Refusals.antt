-- What is wrong with the words of a task, in the order in which it counts.
-- Here the faults stand in a list of rules; the code stops at the first.
use Rattle.std.specs.Prelude.{ℕ, List, [], ◌∷◌, ◌++◌, length, Bool, true, false, ◌||◌, ◌&&◌, ◌==◌, not, nat_lt, if◌then◌else◌, Option, Some, None, is_some}
use Rattle.std.specs.List.{find, list_any}
use Rattle.std.specs.Option.{option_map, option_or}
use Rattle.osm_entity.specs.declared.kind.Flow.{Flow}
use Rattle.osm_words.specs.Words.{is_unnamed}
use Rattle.osm_words.specs.declared.list.OptionWord.{OptionWord}
use Rattle.osm_tasks.specs.Catalogue.{task_row}
use Rattle.osm_tasks.specs.Given.{gives, number_said, input_prefix, output_prefix, is_pipe, port_after}
use Rattle.osm_tasks.specs.Kinds.{is_box}
use Rattle.osm_tasks.specs.Options.{option_row}
use Rattle.osm_tasks.specs.Values.{allows}
use Rattle.osm_tasks.specs.declared.fault.TaskError.{TaskError}
use Rattle.osm_tasks.specs.declared.fault.TaskError.TheVariants.{UnknownOption, Repeated, BadValue, Missing, BadBox}
use Rattle.osm_tasks.specs.declared.kind.TaskKind.{TaskKind}
use Rattle.osm_tasks.specs.declared.kind.TaskKind.TheVariants.{BoundingBox}
use Rattle.osm_tasks.specs.declared.naming.OptionName.{OptionName}
use Rattle.osm_tasks.specs.declared.naming.OptionName.TheVariants.{OutputCount}
use Rattle.osm_tasks.specs.declared.naming.TaskName.{TaskName}
use Rattle.osm_tasks.specs.declared.naming.TaskName.TheVariants.{Tee, TeeChange, TagFilter}

-- the tasks whose words say how many outputs they have
abbrev pub is_tee : TaskName → Bool
is_tee Tee = true
is_tee TeeChange = true
is_tee task = false

-- a row's outputs, where no option says how many: one where the task gives a stream
abbrev pub outputs_in_row : Option Flow → ℕ
outputs_in_row None = 0
outputs_in_row (Some flow) = 1

-- the outputs of a task: a tee's are as many as its words say
abbrev pub outputs_said : TaskName → List OptionWord → ℕ
outputs_said task words =
    if is_tee task then number_said OutputCount words else outputs_in_row (task_row task).output

-- a port, where there is one, is below this number of ports
abbrev pub is_below : ℕ → Option ℕ → Bool
is_below count None = false
is_below count (Some port) = nat_lt port count

-- a word names a pipe at a port that is there
abbrev pub names_port : (inputs outputs : ℕ) → OptionWord → Bool
names_port inputs outputs word =
    is_below inputs (port_after input_prefix word) || is_below outputs (port_after output_prefix word)

-- what is wrong with a word that names a pipe: its port isn't there, or the name is empty
abbrev pub pipe_fault : (n inputs outputs : ℕ) → OptionWord → Option TaskError
pipe_fault n inputs outputs word =
    if not (names_port inputs outputs word) then Some (UnknownOption n word.word)
    else if length word.value == 0 then Some (BadValue n word.word) else None

-- whether a task takes any other name as the key of a test: a tag filter does
abbrev pub tells_tests : TaskName → Bool
tells_tests TagFilter = true
tells_tests task = false

-- what is wrong with a word by the option that it gives: it isn't known, but as a test; it came before; or its value
-- isn't allowed
abbrev pub given_fault : ℕ → TaskName → List OptionWord → OptionWord → Option OptionName → Option TaskError
given_fault n task earlier word None =
    if tells_tests task && not (is_unnamed word) then None else Some (UnknownOption n word.word)
given_fault n task earlier word (Some option) =
    if list_any (gives option) earlier then Some (Repeated n word.word)
    else if allows (option_row option).values word.value then None else Some (BadValue n word.word)

-- what is wrong with a word of a task with these numbers of inputs and outputs, after its earlier words
abbrev pub word_fault : (n : ℕ) → TaskName → (inputs outputs : ℕ) → List OptionWord → OptionWord → Option TaskError
word_fault n task inputs outputs earlier word =
    if is_pipe word then pipe_fault n inputs outputs word
    else given_fault n task earlier word (find (λ option. gives option word) (task_row task).options)

-- the first fault among words, after the earlier words of the task
abbrev pub words_fault : (n : ℕ) → TaskName → (inputs outputs : ℕ) → (earlier words : List OptionWord) →
    Option TaskError
words_fault n task inputs outputs earlier [] = None
words_fault n task inputs outputs earlier (word ∷ words) =
    option_or (word_fault n task inputs outputs earlier word)
    (words_fault n task inputs outputs (earlier ++ word ∷ []) words)

-- what is wrong with the word that gives how many outputs there are, if any does
abbrev pub outputs_fault : ℕ → Option OptionWord → Option TaskError
outputs_fault n None = None
outputs_fault n (Some word) =
    if allows (option_row OutputCount).values word.value then None else Some (BadValue n word.word)

-- a tee's number of outputs is looked at before all else
abbrev pub count_fault : ℕ → TaskName → List OptionWord → Option TaskError
count_fault n task words = if is_tee task then outputs_fault n (find (gives OutputCount) words) else None

-- an option is needed, and no word gives it
abbrev pub is_missing : List OptionWord → OptionName → Bool
is_missing words option = is_some (option_row option).needed && not (list_any (gives option) words)

-- the fault of an option that is missing, if any is
abbrev pub missing_by : ℕ → Option OptionName → Option TaskError
missing_by n None = None
missing_by n (Some option) = option_map (λ needed. Missing n needed) (option_row option).needed

-- the fault of the first option of a task that is missing
abbrev pub missing_fault : ℕ → TaskName → List OptionWord → Option TaskError
missing_fault n task words = missing_by n (find (is_missing words) (task_row task).options)

-- the fault of a box that is empty
abbrev pub box_fault : ℕ → TaskKind → Option TaskError
box_fault n (BoundingBox left right top bottom options) =
    if is_box left right top bottom then None else Some (BadBox n)
box_fault n kind = None

-- what is wrong with the words of a task: a tee's number first, then the first bad word, then an option that is missing
abbrev pub options_refused : ℕ → TaskName → List OptionWord → Option TaskError
options_refused n task words =
    option_or (count_fault n task words)
    (option_or (words_fault n task (length (task_row task).inputs) (outputs_said task words) [] words)
    (missing_fault n task words))
