-- One word more of a command line: what is left of its tasks, its options and their faults.
use Rattle.std.proofs.Common.{◌≡◌, ◌≢◌, ◌<◌, ◌+◌, ◌-◌, ℕ, suc, Bool, true, false, List, [], ◌∷◌, ◌++◌, length, take, drop, drop-cons, get_or, None, Some, Option, Ok, Err, Result, arith, refl, sym, ap, ◌∙◌, append_assoc, cond}
use Rattle.std.specs.Prelude.{not}
use Rattle.std.specs.List.{take_while}
use Rattle.std.specs.Option.{option_or}
use Rattle.std.proofs.lemmas.List.{take_rest, length-append}
use Rattle.std.proofs.lemmas.List.Sums.{take_while-cons}
use Rattle.osm_words.specs.declared.list.OptionWord.{OptionWord}
use Rattle.osm_words.specs.declared.list.TaskWords.{TaskWords}
use Rattle.osm_words.specs.declared.list.WordsError.{WordsError}
use Rattle.osm_words.specs.Words.{begins_task, own_words, option_at, options_at, option_fault, options_fault}
use Rattle.osm_words.specs.Split.{split_words, task_at, tasks_at, task_fault, tasks_fault, tasks_unless}

-- the words from a place on are the word there and the words after it
pub from_here : (words : List (List ℕ)) (at : ℕ) (word : List ℕ) → at < length words → word ≡ get_or words at word →
    drop at words ≡ word ∷ drop (at + 1) words
from_here words at word within is =
    let next : suc at ≡ at + 1 = omega arith in
    drop-cons words at word within ∙ ap (λ w. w ∷ drop (suc at) words) (sym is)
    ∙ ap (λ n. word ∷ drop n words) next

-- a word that begins a task ends the words of the task before
pub own-ends : (word : List ℕ) (words : List (List ℕ)) → begins_task word ≡ true → own_words (word ∷ words) ≡ []
own-ends word words begins = rw (take_while-cons, begins) refl

-- any other word is one of them
pub own-goes_on : (word : List ℕ) (words : List (List ℕ)) → begins_task word ≡ false →
    own_words (word ∷ words) ≡ word ∷ own_words words
own-goes_on word words begins = rw (take_while-cons, begins) refl

-- the options with one word more
pub options-step : (first at number : ℕ) (words : List (List ℕ)) (word : List ℕ)
    (options pushed whole : List OptionWord) (option : OptionWord) → drop at words ≡ word ∷ drop (at + 1) words → begins_task word ≡ false →
    number ≡ first + at → option ≡ option_at number word → pushed ≡ options ++ option ∷ [] →
    whole ≡ options ++ options_at (first + at) (own_words (drop at words)) →
    whole ≡ pushed ++ options_at (first + (at + 1)) (own_words (drop (at + 1) words))
options-step first at number words word options pushed whole option here other numbered says more before =
    let own : own_words (drop at words) ≡ word ∷ own_words (drop (at + 1) words) =
    ap own_words here ∙ own-goes_on word (drop (at + 1) words) other in
    let next : first + at + 1 ≡ first + (at + 1) = omega arith in
    let opened : whole ≡ options ++ (option_at (first + at) word ∷ options_at (first + at + 1)
    (own_words (drop (at + 1) words))) = before ∙ ap (λ ws. options ++ options_at (first + at) ws) own in
    let moved : whole ≡ options ++ (option_at (first + at) word ∷ options_at (first + (at + 1))
    (own_words (drop (at + 1) words))) = rw next at opened in
    let said : option ≡ option_at (first + at) word = says ∙ ap (λ n. option_at n word) numbered in
    rw (more, append_assoc, said) moved

-- the faults with one word more that has none
pub faults-step : (first at number : ℕ) (words : List (List ℕ)) (word : List ℕ) (options pushed : List OptionWord)
    (whole : Option WordsError) (option : OptionWord) → drop at words ≡ word ∷ drop (at + 1) words →
    begins_task word ≡ false → number ≡ first + at → option ≡ option_at number word →
    pushed ≡ options ++ option ∷ [] → None ≡ option_fault number options word →
    whole ≡ options_fault (first + at) options (own_words (drop at words)) →
    whole ≡ options_fault (first + (at + 1)) pushed (own_words (drop (at + 1) words))
faults-step first at number words word options pushed whole option here other numbered says more fine before =
    let own : own_words (drop at words) ≡ word ∷ own_words (drop (at + 1) words) =
    ap own_words here ∙ own-goes_on word (drop (at + 1) words) other in
    let next : first + at + 1 ≡ first + (at + 1) = omega arith in
    let passed : option_fault (first + at) options word ≡ None =
    ap (λ n. option_fault n options word) (sym numbered) ∙ sym fine in
    let opened : whole ≡ option_or (option_fault (first + at) options word) (options_fault (first + at + 1)
    (options ++ option_at (first + at) word ∷ []) (own_words (drop (at + 1) words))) =
    before ∙ ap (λ ws. options_fault (first + at) options ws) own in
    let moved : whole ≡ options_fault (first + at + 1) (options ++ option_at (first + at) word ∷ [])
    (own_words (drop (at + 1) words)) = rw passed at opened in
    let said : option ≡ option_at (first + at) word = says ∙ ap (λ n. option_at n word) numbered in
    rw (more, said, ← next) moved

-- a word with a fault settles it
pub faults-end : (first at number : ℕ) (words : List (List ℕ)) (word : List ℕ) (options : List OptionWord)
    (whole : Option WordsError) (fault : WordsError) → drop at words ≡ word ∷ drop (at + 1) words →
    begins_task word ≡ false → number ≡ first + at → Some fault ≡ option_fault number options word →
    whole ≡ options_fault (first + at) options (own_words (drop at words)) → whole ≡ Some fault
faults-end first at number words word options whole fault here other numbered bad before =
    let own : own_words (drop at words) ≡ word ∷ own_words (drop (at + 1) words) =
    ap own_words here ∙ own-goes_on word (drop (at + 1) words) other in
    let found : option_fault (first + at) options word ≡ Some fault =
    ap (λ n. option_fault n options word) (sym numbered) ∙ sym bad in
    let opened : whole ≡ option_or (option_fault (first + at) options word) (options_fault (first + at + 1)
    (options ++ option_at (first + at) word ∷ []) (own_words (drop (at + 1) words))) =
    before ∙ ap (λ ws. options_fault (first + at) options ws) own in
    let ended : whole ≡ Some fault = rw found at opened in
    ended

-- what is left of the tasks at a word that begins none
pub tasks-pass : (at : ℕ) (words : List (List ℕ)) (word : List ℕ) → drop at words ≡ word ∷ drop (at + 1) words →
    begins_task word ≡ false → tasks_at at (drop at words) ≡ tasks_at (at + 1) (drop (at + 1) words)
tasks-pass at words word here other = rw (here, other) refl

-- and of their faults
pub tasks_fault-pass : (count at : ℕ) (words : List (List ℕ)) (word : List ℕ) →
    drop at words ≡ word ∷ drop (at + 1) words → begins_task word ≡ false →
    tasks_fault count at (drop at words) ≡ tasks_fault count (at + 1) (drop (at + 1) words)
tasks_fault-pass count at words word here other = rw (here, other) refl

-- what is left of the tasks at a word that begins one
pub tasks-begin : (at : ℕ) (words : List (List ℕ)) (word : List ℕ) → drop at words ≡ word ∷ drop (at + 1) words →
    begins_task word ≡ true →
    tasks_at at (drop at words) ≡ task_at at word (drop (at + 1) words) ∷ tasks_at (at + 1) (drop (at + 1) words)
tasks-begin at words word here begins = rw (here, begins) refl

-- and of their faults
pub tasks_fault-begin : (count at : ℕ) (words : List (List ℕ)) (word : List ℕ) →
    drop at words ≡ word ∷ drop (at + 1) words → begins_task word ≡ true →
    tasks_fault count at (drop at words) ≡ option_or (task_fault count at (drop (at + 1) words))
    (tasks_fault (count + 1) (at + 1) (drop (at + 1) words))
tasks_fault-begin count at words word here begins = rw (here, begins) refl

-- the tasks with one more
pub tasks-step : (at : ℕ) (words : List (List ℕ)) (word : List ℕ) (tasks pushed whole : List TaskWords)
    (task : TaskWords) → drop at words ≡ word ∷ drop (at + 1) words → begins_task word ≡ true →
    task ≡ task_at at word (take (length words - (at + 1)) (drop (at + 1) words)) → pushed ≡ tasks ++ task ∷ [] →
    whole ≡ tasks ++ tasks_at at (drop at words) → whole ≡ pushed ++ tasks_at (at + 1) (drop (at + 1) words)
tasks-step at words word tasks pushed whole task here begins says more before =
    let said : task ≡ task_at at word (drop (at + 1) words) =
    says ∙ ap (λ ws. task_at at word ws) (take_rest words (at + 1)) in
    let opened : whole ≡ tasks ++ (task_at at word (drop (at + 1) words) ∷ tasks_at (at + 1) (drop (at + 1) words)) =
    before ∙ ap (λ ts. tasks ++ ts) (tasks-begin at words word here begins) in
    rw (more, append_assoc, said) opened

-- the faults with one task more that has none
pub tasks_fault-step : (at : ℕ) (words : List (List ℕ)) (word : List ℕ) (tasks pushed : List TaskWords)
    (whole : Option WordsError) (task : TaskWords) → drop at words ≡ word ∷ drop (at + 1) words →
    begins_task word ≡ true → pushed ≡ tasks ++ task ∷ [] →
    task_fault (length tasks) at (take (length words - (at + 1)) (drop (at + 1) words)) ≡ None →
    whole ≡ tasks_fault (length tasks) at (drop at words) →
    whole ≡ tasks_fault (length pushed) (at + 1) (drop (at + 1) words)
tasks_fault-step at words word tasks pushed whole task here begins more fine before =
    let passed : task_fault (length tasks) at (drop (at + 1) words) ≡ None =
    ap (λ ws. task_fault (length tasks) at ws) (sym (take_rest words (at + 1))) ∙ fine in
    let opened = before ∙ tasks_fault-begin (length tasks) at words word here begins in
    let moved : whole ≡ tasks_fault (length tasks + 1) (at + 1) (drop (at + 1) words) = rw passed at opened in
    let counted : length pushed ≡ length tasks + 1 = ap length more ∙ length-append tasks (task ∷ []) in
    rw counted moved

-- a task with a fault settles it
pub tasks_fault-end : (count at : ℕ) (words : List (List ℕ)) (word : List ℕ) (whole : Option WordsError)
    (fault : WordsError) → drop at words ≡ word ∷ drop (at + 1) words → begins_task word ≡ true →
    task_fault count at (take (length words - (at + 1)) (drop (at + 1) words)) ≡ Some fault →
    whole ≡ tasks_fault count at (drop at words) → whole ≡ Some fault
tasks_fault-end count at words word whole fault here begins bad before =
    let found : task_fault count at (drop (at + 1) words) ≡ Some fault =
    ap (λ ws. task_fault count at ws) (sym (take_rest words (at + 1))) ∙ bad in
    let opened = before ∙ tasks_fault-begin count at words word here begins in
    let ended : whole ≡ Some fault = rw found at opened in
    ended

-- words of which the first begins a task are its tasks, unless one has a fault
pub split-begins : (words : List (List ℕ)) (word : List ℕ) → 0 < length words → word ≡ get_or words 0 word →
    begins_task word ≡ true → split_words words ≡ tasks_unless (tasks_fault 0 0 words) (tasks_at 0 words)
split-begins [] word within is begins = absurd (omega arith)
split-begins (first ∷ words) word within is begins =
    let same : begins_task first ≡ true = ap begins_task (sym is) ∙ begins in
    rw same refl
