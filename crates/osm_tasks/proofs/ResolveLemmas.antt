-- One task more of a command: what is left to resolve.
use Rattle.std.proofs.Common.{◌≡◌, ◌<◌, ◌+◌, ℕ, List, ◌∷◌, [], ◌++◌, length, drop, get_or, Result, Ok, Err, refl, sym, ap, ◌∙◌, append_assoc}
use Rattle.osm_words.specs.declared.list.TaskWords.{TaskWords}
use Rattle.osm_tasks.specs.Resolving.{joined_tasks, resolved_task, resolved_from}
use Rattle.osm_tasks.specs.Tasks.{TaskValue}
use Rattle.osm_tasks.specs.declared.fault.TaskError.{TaskError}
use Rattle.osm_tasks.proofs.WordLemmas.{rest_here}

-- the tasks that are done and those after them; the first fault counts
abbrev pub after_done : List TaskValue → Result (List TaskValue) TaskError → Result (List TaskValue) TaskError
after_done done (Err fault) = Err fault
after_done done (Ok tasks) = Ok (done ++ tasks)

-- one task more is done
after_done-joined : (done : List TaskValue) (task : TaskValue) (more : Result (List TaskValue) TaskError) →
    after_done done (joined_tasks (Ok task) more) ≡ after_done (done ++ task ∷ []) more
after_done-joined done task (Err fault) = refl
after_done-joined done task (Ok tasks) = ap Ok (sym (append_assoc done (task ∷ []) tasks))

-- what is left with its first task apart
opened : (at number : ℕ) (list : List TaskWords) (words : TaskWords) → at < length list →
    words ≡ get_or list at words → number ≡ at →
    resolved_from at (drop at list) ≡ joined_tasks (resolved_task number words) (resolved_from (at + 1)
    (drop (at + 1) list))
opened at number list words within is same =
    ap (resolved_from at) (rest_here list at words within is)
    ∙ ap (λ n. joined_tasks (resolved_task n words) (resolved_from (at + 1) (drop (at + 1) list))) (sym same)

-- what is left after a task that is resolved
pub resolve-step : (at number : ℕ) (list : List TaskWords) (words : TaskWords) (done pushed : List TaskValue)
    (task : TaskValue) (whole : Result (List TaskValue) TaskError) → at < length list → words ≡ get_or list at words →
    number ≡ at → resolved_task number words ≡ Ok task → pushed ≡ done ++ task ∷ [] →
    whole ≡ after_done done (resolved_from at (drop at list)) →
    whole ≡ after_done pushed (resolved_from (at + 1) (drop (at + 1) list))
resolve-step at number list words done pushed task whole within is same said more before =
    before ∙ ap (after_done done) (opened at number list words within is same)
    ∙ ap (λ r. after_done done (joined_tasks r (resolved_from (at + 1) (drop (at + 1) list)))) said
    ∙ after_done-joined done task (resolved_from (at + 1) (drop (at + 1) list))
    ∙ ap (λ ts. after_done ts (resolved_from (at + 1) (drop (at + 1) list))) (sym more)

-- a task that is refused settles it
pub resolve-end : (at number : ℕ) (list : List TaskWords) (words : TaskWords) (done : List TaskValue)
    (fault : TaskError) (whole : Result (List TaskValue) TaskError) → at < length list →
    words ≡ get_or list at words → number ≡ at → resolved_task number words ≡ Err fault →
    whole ≡ after_done done (resolved_from at (drop at list)) → whole ≡ Err fault
resolve-end at number list words done fault whole within is same said before =
    before ∙ ap (after_done done) (opened at number list words within is same)
    ∙ ap (λ r. after_done done (joined_tasks r (resolved_from (at + 1) (drop (at + 1) list)))) said
