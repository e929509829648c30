-- The words of a command line as a list of tasks, or the first word that is none.
-- Here each word that begins a task is looked at with all words after it; the code moves on from task to task.
use Rattle.std.specs.Prelude.{ℕ, ◌+◌, List, [], ◌∷◌, drop, ◌==◌, if◌then◌else◌, Option, Some, None, Result, Ok, Err}
use Rattle.std.specs.Option.{option_or}
use Rattle.osm_words.specs.Words.{begins_task, own_words, options_at, options_fault}
use Rattle.osm_words.specs.declared.list.TaskWords.{TaskWords}
use Rattle.osm_words.specs.declared.list.WordsError.{WordsError}
use Rattle.osm_words.specs.declared.list.WordsError.TheVariants.{NoTasks, NotATask, TooManyTasks}

-- the most tasks of a command
abbrev pub most_tasks : ℕ
most_tasks = 64

-- the task that the word of this number begins, with its options among the words that follow
abbrev pub task_at : ℕ → List ℕ → List (List ℕ) → TaskWords
task_at n word words = record { word = n; name = drop 2 word; options = options_at (n + 1) (own_words words) }

-- the tasks that words begin, of which the first has this number
abbrev pub tasks_at : ℕ → List (List ℕ) → List TaskWords
tasks_at n [] = []
tasks_at n (word ∷ words) =
    if begins_task word then task_at n word words ∷ tasks_at (n + 1) words else tasks_at (n + 1) words

-- what is wrong with a task after this many others: they are the most that there may be, or its options have a fault
abbrev pub task_fault : (count n : ℕ) → List (List ℕ) → Option WordsError
task_fault count n words =
    if count == most_tasks then Some (TooManyTasks n) else options_fault (n + 1) [] (own_words words)

-- the first fault among words, of which the first has this number, after this many tasks
abbrev pub tasks_fault : (count n : ℕ) → List (List ℕ) → Option WordsError
tasks_fault count n [] = None
tasks_fault count n (word ∷ words) =
    if begins_task word then option_or (task_fault count n words) (tasks_fault (count + 1) (n + 1) words)
    else tasks_fault count (n + 1) words

-- the tasks, or the fault where there is one
abbrev pub tasks_unless : Option WordsError → List TaskWords → Result (List TaskWords) WordsError
tasks_unless None tasks = Ok tasks
tasks_unless (Some fault) tasks = Err fault

-- the words of a command as tasks: there is a first word, which begins a task, and no word has a fault
abbrev pub split_words : List (List ℕ) → Result (List TaskWords) WordsError
split_words [] = Err NoTasks
split_words (word ∷ words) =
    if begins_task word then tasks_unless (tasks_fault 0 0 (word ∷ words)) (tasks_at 0 (word ∷ words))
    else Err (NotATask 0)
