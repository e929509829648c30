-- Without a fault of files no task has the file of another, where one of the two writes it.
use Rattle.std.proofs.Common.{◌≡◌, ◌<◌, ◌≤◌, ◌+◌, ◌⊎◌, ℕ, zero, suc, Bool, false, List, ◌∷◌, [], ◌++◌, length, get_or, Option, None, Some, refl, sym, inl, inr, ◌∙◌, append_assoc, arith}
use Rattle.std.specs.Prelude.{position}
use Rattle.std.specs.List.{position_or_len}
use Rattle.std.specs.Option.{option_map}
use Rattle.std.proofs.lemmas.Bool.{cases_lt, lt-ltb}
use Rattle.std.proofs.lemmas.List.{get_or_append_left, length-append}
use Rattle.std.proofs.lemmas.List.Sums.{fails_before_first}
use Rattle.osm_tasks.specs.Tasks.{TaskValue}
use Rattle.osm_graph.specs.Files.{clashes, task_clash, file_fault_from, file_fault}
use Rattle.osm_graph.specs.Graphs.{no_task}
use Rattle.osm_graph.specs.declared.fault.GraphError.TheVariants.{SameFile}
use Rattle.osm_graph.proofs.ReaderLemmas.{neither, no_fault}

-- where no place passes, none does
position-None : (test : TaskValue → Bool) (xs : List TaskValue) (k : ℕ) (d : TaskValue) →
    position test xs ≡ None → k < length xs → test (get_or xs k d) ≡ false
position-None test xs k d none below = by_cases (cases_lt (position_or_len test xs) (length xs))
  where
    by_cases : (position_or_len test xs < length xs) ⊎ (length xs ≤ position_or_len test xs) →
        test (get_or xs k d) ≡ false
    by_cases (inl less) =
        absurd (let never : Some (position_or_len test xs) ≡ None = sym (rw (lt-ltb _ _ less) refl) ∙ none in cc)
    by_cases (inr all) = fails_before_first test xs k d (omega arith)

no-clash : (n : ℕ) (task : TaskValue) (earlier : List TaskValue) → task_clash n task earlier ≡ None →
    position (λ t. clashes t.kind task.kind) earlier ≡ None
no-clash n task earlier fine = by_cases (position (λ t. clashes t.kind task.kind) earlier) fine
  where
    by_cases : (at : Option ℕ) → option_map (λ at. SameFile n at) at ≡ None → at ≡ None
    by_cases None fine = refl
    by_cases (Some at) fine = absurd (no_fault (SameFile n at) fine)

-- a task has no file of those before it
apart-from : (n : ℕ) (earlier tasks : List TaskValue) → file_fault_from n earlier tasks ≡ None → (i j : ℕ) →
    i < length earlier + j → j < length tasks →
    clashes (get_or (earlier ++ tasks) i no_task).kind (get_or tasks j no_task).kind ≡ false
apart-from n earlier [] fine i j less below = absurd (omega arith)
apart-from n earlier (task ∷ tasks) fine i zero less below =
    let faults = neither (task_clash n task earlier) (file_fault_from (n + 1) (earlier ++ task ∷ []) tasks) fine in
    let here : i < length earlier = omega arith in
    rw (get_or_append_left earlier (task ∷ tasks) no_task i here)
    (position-None (λ t. clashes t.kind task.kind) earlier i no_task (no-clash n task earlier faults.0) here)
apart-from n earlier (task ∷ tasks) fine i (suc j) less below =
    let faults = neither (task_clash n task earlier) (file_fault_from (n + 1) (earlier ++ task ∷ []) tasks) fine in
    rw (sym (append_assoc earlier (task ∷ []) tasks))
    (apart-from (n + 1) (earlier ++ task ∷ []) tasks faults.1 i j
    (omega (arith, length-append earlier (task ∷ []))) (omega arith))

pub files-apart : (tasks : List TaskValue) → file_fault tasks ≡ None → (i j : ℕ) → i < j → j < length tasks →
    clashes (get_or tasks i no_task).kind (get_or tasks j no_task).kind ≡ false
files-apart tasks fine i j less below = apart-from 0 [] tasks fine i j (omega arith) below
