-- One port or one task more in each walk.
use Rattle.std.proofs.Common.{◌≡◌, ◌<◌, ◌+◌, ℕ, suc, true, false, List, ◌∷◌, [], ◌++◌, length, take, drop, drop-cons, get_or, Option, None, Some, Result, Ok, Err, refl, sym, ap, ◌∙◌, append_assoc, arith}
use Rattle.std.specs.Prelude.{◌==◌, find, position}
use Rattle.std.specs.Option.{option_map, option_or}
use Rattle.std.proofs.lemmas.List.{take_more, length_push}
use Rattle.osm_tasks.specs.Tasks.{TaskValue}
use Rattle.osm_tasks.specs.declared.kind.TaskKind.{TaskKind}
use Rattle.osm_graph.specs.Files.{clashes, task_clash, file_fault_from}
use Rattle.osm_graph.specs.Joining.{port_fault, ports_fault, reader_of, readers_of, pipe_between, joined_pipe, pipes_from}
use Rattle.osm_graph.specs.Ports.{PortValue, ports_of_task, ports_from}
use Rattle.osm_graph.specs.declared.fault.GraphError.{GraphError}
use Rattle.osm_graph.specs.declared.fault.GraphError.TheVariants.{SameFile, UnusedPipes}
use Rattle.osm_graph.specs.declared.joining.Reader.{Reader}
use Rattle.osm_graph.specs.declared.pipe.Pipe.{Pipe}

-- a list from a place on is the element there and those after it
rest_at : {X : Type 0} (xs : List X) (at : ℕ) (x : X) → at < length xs → x ≡ get_or xs at x →
    drop at xs ≡ x ∷ drop (at + 1) xs
rest_at xs at x within is =
    let next : suc at ≡ at + 1 = omega arith in
    drop-cons xs at x within ∙ ap (λ y. y ∷ drop (suc at) xs) (sym is) ∙ ap (λ n. x ∷ drop n xs) next

-- and up to the next place those before it and the element
prefix_at : {X : Type 0} (xs : List X) (at : ℕ) (x : X) → at < length xs → x ≡ get_or xs at x →
    take (at + 1) xs ≡ take at xs ++ x ∷ []
prefix_at xs at x within is = take_more xs at x within ∙ ap (λ y. take at xs ++ y ∷ []) (sym is)

-- the ports of one task more
pub ports-step : (tasks : List TaskValue) (at n : ℕ) (task : TaskValue) (whole done pushed : List PortValue) →
    at < length tasks → task ≡ get_or tasks at task → n ≡ at → pushed ≡ done ++ ports_of_task n task →
    whole ≡ done ++ ports_from at (drop at tasks) → whole ≡ pushed ++ ports_from (at + 1) (drop (at + 1) tasks)
ports-step tasks at n task whole done pushed within is same added before =
    before
    ∙ ap (λ rest. done ++ ports_from at rest) (rest_at tasks at task within is)
    ∙ sym (append_assoc done (ports_of_task at task) (ports_from (at + 1) (drop (at + 1) tasks)))
    ∙ ap (λ k. done ++ ports_of_task k task ++ ports_from (at + 1) (drop (at + 1) tasks)) (sym same)
    ∙ ap (λ prefix. prefix ++ ports_from (at + 1) (drop (at + 1) tasks)) (sym added)

-- what is left of the faults with its first port apart
faults_at : (ports : List PortValue) (at : ℕ) (port : PortValue) → at < length ports → port ≡ get_or ports at port →
    ports_fault (take at ports) (drop at ports)
    ≡ option_or (port_fault (take at ports) port) (ports_fault (take (at + 1) ports) (drop (at + 1) ports))
faults_at ports at port within is =
    ap (ports_fault (take at ports)) (rest_at ports at port within is)
    ∙ ap (λ prefix. option_or (port_fault (take at ports) port) (ports_fault prefix (drop (at + 1) ports)))
    (sym (prefix_at ports at port within is))

-- a port without a fault leaves the faults of the others
pub faults-step : (ports : List PortValue) (at : ℕ) (port : PortValue) (whole : Option GraphError) →
    at < length ports → port ≡ get_or ports at port → port_fault (take at ports) port ≡ None →
    whole ≡ ports_fault (take at ports) (drop at ports) →
    whole ≡ ports_fault (take (at + 1) ports) (drop (at + 1) ports)
faults-step ports at port whole within is fine before =
    before ∙ faults_at ports at port within is
    ∙ ap (λ fault. option_or fault (ports_fault (take (at + 1) ports) (drop (at + 1) ports))) fine

-- a port with a fault settles it
pub faults-end : (ports : List PortValue) (at : ℕ) (port : PortValue) (whole : Option GraphError)
    (fault : GraphError) → at < length ports → port ≡ get_or ports at port →
    port_fault (take at ports) port ≡ Some fault → whole ≡ ports_fault (take at ports) (drop at ports) →
    whole ≡ Some fault
faults-end ports at port whole fault within is bad before =
    before ∙ faults_at ports at port within is
    ∙ ap (λ fault. option_or fault (ports_fault (take (at + 1) ports) (drop (at + 1) ports))) bad

-- the readers so far, with those that a port is
pub readers-step : (ports : List PortValue) (at : ℕ) (port : PortValue) (whole done more pushed : List Reader) →
    at < length ports → port ≡ get_or ports at port → reader_of (take at ports) port ≡ more → pushed ≡ done ++ more →
    whole ≡ done ++ readers_of (take at ports) (drop at ports) →
    whole ≡ pushed ++ readers_of (take (at + 1) ports) (drop (at + 1) ports)
readers-step ports at port whole done more pushed within is reads added before =
    before
    ∙ ap (λ rest. done ++ readers_of (take at ports) rest) (rest_at ports at port within is)
    ∙ ap (λ prefix. done ++ (reader_of (take at ports) port ++ readers_of prefix (drop (at + 1) ports)))
    (sym (prefix_at ports at port within is))
    ∙ ap (λ here. done ++ (here ++ readers_of (take (at + 1) ports) (drop (at + 1) ports))) reads
    ∙ sym (append_assoc done more (readers_of (take (at + 1) ports) (drop (at + 1) ports)))
    ∙ ap (λ prefix. prefix ++ readers_of (take (at + 1) ports) (drop (at + 1) ports)) (sym added)

-- the pipes that are joined and those after them
abbrev pub after_pipes : List Pipe → Result (List Pipe) GraphError → Result (List Pipe) GraphError
after_pipes done (Err fault) = Err fault
after_pipes done (Ok pipes) = Ok (done ++ pipes)

after_pipes-joined : (done : List Pipe) (number : ℕ) (port : PortValue) (reader : Reader)
    (more : Result (List Pipe) GraphError) →
    after_pipes done (joined_pipe number port (Some reader) more)
    ≡ after_pipes (done ++ pipe_between port reader ∷ []) more
after_pipes-joined done number port reader (Err fault) = refl
after_pipes-joined done number port reader (Ok pipes) =
    ap Ok (sym (append_assoc done (pipe_between port reader ∷ []) pipes))

-- what is left to join, with its first output apart
pipes_at : (readers : List Reader) (ports : List PortValue) (at number : ℕ) (port : PortValue) → at < length ports →
    port ≡ get_or ports at port → port.gives ≡ true →
    pipes_from readers at number (drop at ports)
    ≡ joined_pipe number port (find (λ r. r.place == at) readers)
    (pipes_from readers (at + 1) (number + 1) (drop (at + 1) ports))
pipes_at readers ports at number port within is gives =
    ap (pipes_from readers at number) (rest_at ports at port within is) ∙ rw gives refl

-- one pipe more is joined
pub pipes-step : (readers : List Reader) (ports : List PortValue) (at : ℕ) (port : PortValue) (reader : Reader)
    (whole : Result (List Pipe) GraphError) (done pushed : List Pipe) → at < length ports →
    port ≡ get_or ports at port → port.gives ≡ true → find (λ r. r.place == at) readers ≡ Some reader →
    pushed ≡ done ++ pipe_between port reader ∷ [] →
    whole ≡ after_pipes done (pipes_from readers at (length done) (drop at ports)) →
    whole ≡ after_pipes pushed (pipes_from readers (at + 1) (length pushed) (drop (at + 1) ports))
pipes-step readers ports at port reader whole done pushed within is gives found added before =
    let count : length pushed ≡ length done + 1 = ap length added ∙ length_push done (pipe_between port reader) in
    before
    ∙ ap (after_pipes done) (pipes_at readers ports at (length done) port within is gives)
    ∙ ap (λ r. after_pipes done (joined_pipe (length done) port r
    (pipes_from readers (at + 1) (length done + 1) (drop (at + 1) ports)))) found
    ∙ after_pipes-joined done (length done) port reader
    (pipes_from readers (at + 1) (length done + 1) (drop (at + 1) ports))
    ∙ ap (λ pipes. after_pipes pipes (pipes_from readers (at + 1) (length done + 1) (drop (at + 1) ports))) (sym added)
    ∙ ap (λ n. after_pipes pushed (pipes_from readers (at + 1) n (drop (at + 1) ports))) (sym count)

-- an input joins no pipe
pub pipes-skip : (readers : List Reader) (ports : List PortValue) (at : ℕ) (port : PortValue)
    (whole : Result (List Pipe) GraphError) (done same : List Pipe) → same ≡ done → at < length ports →
    port ≡ get_or ports at port → port.gives ≡ false →
    whole ≡ after_pipes done (pipes_from readers at (length done) (drop at ports)) →
    whole ≡ after_pipes same (pipes_from readers (at + 1) (length same) (drop (at + 1) ports))
pipes-skip readers ports at port whole done same stays within is takes before =
    before
    ∙ ap (λ rest. after_pipes done (pipes_from readers at (length done) rest)) (rest_at ports at port within is)
    ∙ ap (after_pipes done) (rw takes refl)
    ∙ ap (λ pipes. after_pipes pipes (pipes_from readers (at + 1) (length pipes) (drop (at + 1) ports))) (sym stays)

-- an output that nobody reads settles it
pub pipes-end : (readers : List Reader) (ports : List PortValue) (at : ℕ) (port : PortValue)
    (whole : Result (List Pipe) GraphError) (done : List Pipe) → at < length ports → port ≡ get_or ports at port →
    port.gives ≡ true → find (λ r. r.place == at) readers ≡ None →
    whole ≡ after_pipes done (pipes_from readers at (length done) (drop at ports)) →
    whole ≡ Err (UnusedPipes (length done))
pipes-end readers ports at port whole done within is gives none before =
    before
    ∙ ap (after_pipes done) (pipes_at readers ports at (length done) port within is gives)
    ∙ ap (λ r. after_pipes done (joined_pipe (length done) port r
    (pipes_from readers (at + 1) (length done + 1) (drop (at + 1) ports)))) none

-- what is left of the faults of files, with the first task apart
files_at : (tasks : List TaskValue) (at : ℕ) (task : TaskValue) → at < length tasks → task ≡ get_or tasks at task →
    file_fault_from at (take at tasks) (drop at tasks)
    ≡ option_or (task_clash at task (take at tasks))
    (file_fault_from (at + 1) (take (at + 1) tasks) (drop (at + 1) tasks))
files_at tasks at task within is =
    ap (file_fault_from at (take at tasks)) (rest_at tasks at task within is)
    ∙ ap (λ prefix. option_or (task_clash at task (take at tasks))
    (file_fault_from (at + 1) prefix (drop (at + 1) tasks)))
    (sym (prefix_at tasks at task within is))

-- a task has the file of an earlier one
pub clash-found : (tasks cut : List TaskValue) (at earlier n m : ℕ) (kind : TaskKind) (task : TaskValue) →
    cut ≡ take at tasks → kind ≡ task.kind → position (λ t. clashes t.kind kind) cut ≡ Some earlier → n ≡ at →
    m ≡ earlier → task_clash at task (take at tasks) ≡ Some (SameFile n m)
clash-found tasks cut at earlier n m kind task is same found number other =
    let there : position (λ t. clashes t.kind task.kind) (take at tasks) ≡ Some earlier =
    ap (position (λ t. clashes t.kind task.kind)) (sym is)
    ∙ ap (λ k. position (λ t. clashes t.kind k) cut) (sym same) ∙ found in
    ap (option_map (λ e. SameFile at e)) there ∙ ap (λ e. Some (SameFile at e)) (sym other)
    ∙ ap (λ a. Some (SameFile a m)) (sym number)

-- a task has the file of no earlier one
pub clash-none : (tasks cut : List TaskValue) (at : ℕ) (kind : TaskKind) (task : TaskValue) → cut ≡ take at tasks →
    kind ≡ task.kind → position (λ t. clashes t.kind kind) cut ≡ None → task_clash at task (take at tasks) ≡ None
clash-none tasks cut at kind task is same none =
    let there : position (λ t. clashes t.kind task.kind) (take at tasks) ≡ None =
    ap (position (λ t. clashes t.kind task.kind)) (sym is)
    ∙ ap (λ k. position (λ t. clashes t.kind k) cut) (sym same) ∙ none in
    ap (option_map (λ e. SameFile at e)) there

pub files-step : (tasks : List TaskValue) (at : ℕ) (task : TaskValue) (whole : Option GraphError) →
    at < length tasks → task ≡ get_or tasks at task → task_clash at task (take at tasks) ≡ None →
    whole ≡ file_fault_from at (take at tasks) (drop at tasks) →
    whole ≡ file_fault_from (at + 1) (take (at + 1) tasks) (drop (at + 1) tasks)
files-step tasks at task whole within is fine before =
    before ∙ files_at tasks at task within is
    ∙ ap (λ fault. option_or fault (file_fault_from (at + 1) (take (at + 1) tasks) (drop (at + 1) tasks))) fine

pub files-end : (tasks : List TaskValue) (at : ℕ) (task : TaskValue) (whole : Option GraphError)
    (fault : GraphError) → at < length tasks → task ≡ get_or tasks at task →
    task_clash at task (take at tasks) ≡ Some fault → whole ≡ file_fault_from at (take at tasks) (drop at tasks) →
    whole ≡ Some fault
files-end tasks at task whole fault within is bad before =
    before ∙ files_at tasks at task within is
    ∙ ap (λ fault. option_or fault (file_fault_from (at + 1) (take (at + 1) tasks) (drop (at + 1) tasks))) bad
