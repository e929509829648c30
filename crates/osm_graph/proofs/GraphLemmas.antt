-- What every graph keeps follows for the pipes of a command.
use Rattle.std.proofs.Common.{◌≡◌, ◌<◌, ◌≤◌, ◌+◌, ◌⊎◌, ℕ, Bool, true, false, List, [], length, get_or, Option, None, Some, Ok, Err, refl, sym, ap, subst, inl, inr, ◌∙◌, arith}
use Rattle.std.specs.Prelude.{slice_get, ◌==◌, ◌&&◌, All, IsSome}
use Rattle.std.proofs.lemmas.Bool.{cases_eq, eq-eqb, ne_eqb, and_from, and_left, and_right}
use Rattle.osm_tasks.specs.Tasks.{TaskValue, IsTask}
use Rattle.osm_graph.specs.Files.{file_fault}
use Rattle.osm_graph.specs.Graphs.{no_task, count_inputs, count_outputs, most_pipes, holds_messages, IsGraph}
use Rattle.osm_graph.specs.Joining.{pipe_between, ports_fault, readers_of, pipes_from, unless_fault, joined_ports}
use Rattle.osm_graph.specs.Pipes.{no_pipe, pipe_of, pipe_into, pipe_out, IsWholeGraph}
use Rattle.osm_graph.specs.Ports.{PortValue, ports_of, flow_at}
use Rattle.osm_graph.specs.declared.fault.GraphError.{GraphError}
use Rattle.osm_graph.specs.declared.joining.Reader.{Reader}
use Rattle.osm_graph.specs.declared.pipe.Pipe.{Pipe}
use Rattle.osm_graph.proofs.FileLemmas.{files-apart}
use Rattle.osm_graph.proofs.ListLemmas.{Every, EachTwo, Among, Every-from_All, Every-then, Every-among, Every-get_or, EachTwo-get_or, position-here, position-some}
use Rattle.osm_graph.proofs.PipeLemmas.{OtherOutput, OtherEnd, HasPipeFrom, HasPipeTo, pipes-Every, pipes-other_output, pipes-other_end, outputs-have, readers-have, length-pipes}
use Rattle.osm_graph.proofs.PortLemmas.{IsPortOf, HasPort, names_at, ports-in_order, ports-known, ports-have}
use Rattle.osm_graph.proofs.StoreLemmas.{CanHold, few-outputs, ports-hold}
use Rattle.osm_graph.proofs.TaskLemmas.{few-tasks}
use Rattle.osm_graph.proofs.ReaderLemmas.{HasOutput, HasReader, reader_at, readers-Every, readers-other_place, readers-other_input, readers-have_outputs, inputs-read, slice_get-Every}

-- the pipes of a command that has them: no port has a fault, and each output is read
pub record AreJoined (tasks : List TaskValue) (pipes : List Pipe) : Type 0 where
  pub fine : ports_fault [] (ports_of tasks) ≡ None
  pub read : pipes_from (readers_of [] (ports_of tasks)) 0 0 (ports_of tasks) ≡ Ok pipes

-- a reader is an input of one of the tasks
record IsInputOf (tasks : List TaskValue) (r : Reader) : Type 0 where
  pub task : r.task < length tasks
  pub port : r.port < count_inputs tasks r.task

-- what a pipe leads from and to
record IsBetween (tasks : List TaskValue) (pipe : Pipe) : Type 0 where
  pub forward : pipe.from < pipe.to
  pub known : pipe.to < length tasks
  pub from_port : pipe.from_port < count_outputs tasks pipe.from
  pub to_port : pipe.to_port < count_inputs tasks pipe.to
  pub given : pipe.flow ≡ flow_at (get_or tasks pipe.from no_task).kind true pipe.from_port
  pub taken : pipe.flow ≡ flow_at (get_or tasks pipe.to no_task).kind false pipe.to_port

input-of : (tasks : List TaskValue) (p : PortValue) → IsPortOf 0 tasks p → (o : ℕ) → p.gives ≡ false →
    IsInputOf tasks (reader_at p o)
input-of tasks p is o takes =
    let same : p.task ≡ is.at = is.task ∙ omega arith in
    record {
      task = omega (arith, same, is.known);
      port = rw same
          (let there : p.port < length (names_at (get_or tasks is.at no_task) false) = rw (sym takes) is.port in there);
    }

readers-known : (tasks : List TaskValue) → ports_fault [] (ports_of tasks) ≡ None →
    Every (IsInputOf tasks) (readers_of [] (ports_of tasks))
readers-known tasks fine =
    readers-Every (IsInputOf tasks) [] (ports_of tasks) fine
    (Every-then (IsPortOf 0 tasks) (λ p. (o : ℕ) → p.gives ≡ false → IsInputOf tasks (reader_at p o)) (input-of tasks)
    (ports_of tasks) (ports-known 0 tasks))

between : (tasks : List TaskValue) (pipes : List Pipe) → AreJoined tasks pipes → Every (IsBetween tasks) pipes
between tasks pipes are =
    pipes-Every (IsBetween tasks) readers 0 0 ports pipes are.read each
  where
    ports : List PortValue
    ports = ports_of tasks

    readers : List Reader
    readers = readers_of [] (ports_of tasks)

    each : (k : ℕ) (p : PortValue) (r : Reader) → slice_get (ports_of tasks) k ≡ Some p → p.gives ≡ true →
        r.place ≡ 0 + k → Among (readers_of [] (ports_of tasks)) r → IsBetween tasks (pipe_between p r)
    each k p r at gives place among =
        let output : HasOutput (ports_of tasks) r =
        Every-among (HasOutput (ports_of tasks)) (readers_of [] (ports_of tasks)) r
        (readers-have_outputs [] (ports_of tasks) are.fine (ports-in_order 0 tasks)) among in
        let input : IsInputOf tasks r =
        Every-among (IsInputOf tasks) (readers_of [] (ports_of tasks)) r (readers-known tasks are.fine) among in
        let is : IsPortOf 0 tasks p =
        slice_get-Every (IsPortOf 0 tasks) (ports_of tasks) k p at (ports-known 0 tasks) in
        let other : IsPortOf 0 tasks output.input =
        Every-among (IsPortOf 0 tasks) (ports_of tasks) output.input (ports-known 0 tasks) output.among in
        let place_is : r.place ≡ k = place ∙ omega arith in
        let same : output.port ≡ p =
        (let e : Some output.port ≡ Some p = sym output.at ∙ ap (slice_get (ports_of tasks)) place_is ∙ at in
        grind arith) in
        let task : p.task ≡ is.at = is.task ∙ omega arith in
        let other_task : r.task ≡ other.at = sym output.input_task ∙ other.task ∙ omega arith in
        record {
          forward = rw (sym same) output.before;
          known = input.task;
          from_port = rw task
              (let there : p.port < length (names_at (get_or tasks is.at no_task) true) = rw (sym gives) is.port in
              there);
          to_port = input.port;
          given = is.flow ∙ ap (λ side. flow_at (get_or tasks is.at no_task).kind side p.port) gives
              ∙ ap (λ t. flow_at (get_or tasks t no_task).kind true p.port) (sym task);
          taken = ap (λ q. q.flow) (sym same) ∙ output.flow ∙ other.flow
              ∙ ap (λ side. flow_at (get_or tasks other.at no_task).kind side output.input.port) output.takes
              ∙ ap (λ t. flow_at (get_or tasks t no_task).kind false output.input.port) (sym other_task)
              ∙ ap (λ n. flow_at (get_or tasks r.task no_task).kind false n) output.input_port;
        }

-- the test of an end of a pipe fails at another
differ-test : (a b m n : ℕ) → (a ≡ m → b ≡ n → ⊥) → ((a == m) && (b == n)) ≡ false
differ-test a b m n never = by_cases (cases_eq a m) (cases_eq b n)
  where
    by_cases : (a ≡ m) ⊎ (a ≡ m → ⊥) → (b ≡ n) ⊎ (b ≡ n → ⊥) → ((a == m) && (b == n)) ≡ false
    by_cases (inl holds) (inl too) = absurd (never holds too)
    by_cases (inl holds) (inr differ) = and_right (a == m) (b == n) (ne_eqb b n differ)
    by_cases (inr differ) other = and_left (a == m) (b == n) (ne_eqb a m differ)

same-test : (a b m n : ℕ) → a ≡ m → b ≡ n → ((a == m) && (b == n)) ≡ true
same-test a b m n holds too = and_from (a == m) (b == n) (eq-eqb a m holds) (eq-eqb b n too)

-- the pipe at its output is the only one there
out-alone : (pipes : List Pipe) (p : ℕ) → EachTwo OtherOutput pipes → p < length pipes →
    pipe_out pipes (pipe_of pipes p).from (pipe_of pipes p).from_port ≡ Some p
out-alone pipes p differ below =
    let here : Pipe = pipe_of pipes p in
    position-here (λ pipe. (pipe.from == here.from) && (pipe.from_port == here.from_port)) pipes p no_pipe below
    (same-test here.from here.from_port here.from here.from_port refl refl)
    (λ k less. differ-test (get_or pipes k no_pipe).from (get_or pipes k no_pipe).from_port here.from here.from_port
    (EachTwo-get_or OtherOutput pipes k p no_pipe less below differ))

into-alone : (pipes : List Pipe) (p : ℕ) → EachTwo OtherEnd pipes → p < length pipes →
    pipe_into pipes (pipe_of pipes p).to (pipe_of pipes p).to_port ≡ Some p
into-alone pipes p differ below =
    let here : Pipe = pipe_of pipes p in
    position-here (λ pipe. (pipe.to == here.to) && (pipe.to_port == here.to_port)) pipes p no_pipe below
    (same-test here.to here.to_port here.to here.to_port refl refl)
    (λ k less. differ-test (get_or pipes k no_pipe).to (get_or pipes k no_pipe).to_port here.to here.to_port
    (EachTwo-get_or OtherEnd pipes k p no_pipe less below differ))

has-into : (tasks : List TaskValue) (pipes : List Pipe) → AreJoined tasks pipes → (t port : ℕ) → t < length tasks →
    port < count_inputs tasks t → IsSome (pipe_into pipes t port)
has-into tasks pipes are t port known below =
    let there : HasPort (ports_of tasks) (0 + t) false port = ports-have 0 tasks t false port known below in
    let has : HasReader (readers_of [] (ports_of tasks)) there.p =
    inputs-read [] (ports_of tasks) there.p are.fine there.among there.gives in
    let output : HasOutput (ports_of tasks) has.reader =
    Every-among (HasOutput (ports_of tasks)) (readers_of [] (ports_of tasks)) has.reader
    (readers-have_outputs [] (ports_of tasks) are.fine (ports-in_order 0 tasks)) has.among in
    let pipe : HasPipeTo has.reader.task has.reader.port pipes =
    readers-have (readers_of [] (ports_of tasks)) 0 0 (ports_of tasks) pipes has.reader.place output.port has.reader
    are.read (readers-other_place [] (ports_of tasks) are.fine) output.at output.gives (omega arith) has.among in
    let task : pipe.pipe.to ≡ t = pipe.task ∙ has.task ∙ there.task ∙ omega arith in
    let number : pipe.pipe.to_port ≡ port = pipe.port ∙ has.port ∙ there.number in
    position-some (λ pipe. (pipe.to == t) && (pipe.to_port == port)) pipes pipe.pipe pipe.among
    (same-test pipe.pipe.to pipe.pipe.to_port t port task number)

has-out : (tasks : List TaskValue) (pipes : List Pipe) → AreJoined tasks pipes → (t port : ℕ) → t < length tasks →
    port < count_outputs tasks t → IsSome (pipe_out pipes t port)
has-out tasks pipes are t port known below =
    let there : HasPort (ports_of tasks) (0 + t) true port = ports-have 0 tasks t true port known below in
    let pipe : HasPipeFrom there.p.task there.p.port pipes =
    outputs-have (readers_of [] (ports_of tasks)) 0 0 (ports_of tasks) pipes there.p are.read there.among
    there.gives in
    let task : pipe.pipe.from ≡ t = pipe.task ∙ there.task ∙ omega arith in
    let number : pipe.pipe.from_port ≡ port = pipe.port ∙ there.number in
    position-some (λ pipe. (pipe.from == t) && (pipe.from_port == port)) pipes pipe.pipe pipe.among
    (same-test pipe.pipe.from pipe.pipe.from_port t port task number)

-- the pipes of a command join each port once, both ways
pub joined-whole : (tasks : List TaskValue) (pipes : List Pipe) → AreJoined tasks pipes →
    IsWholeGraph (length tasks) (count_inputs tasks) (count_outputs tasks) pipes
joined-whole tasks pipes are =
    let all : Every (IsBetween tasks) pipes = between tasks pipes are in
    let ends : EachTwo OtherEnd pipes =
    pipes-other_end (readers_of [] (ports_of tasks)) 0 0 (ports_of tasks) pipes are.read
    (readers-other_input [] (ports_of tasks) are.fine (ports-in_order 0 tasks)) in
    let outputs : EachTwo OtherOutput pipes =
    pipes-other_output (readers_of [] (ports_of tasks)) 0 0 (ports_of tasks) pipes are.read
    (ports-in_order 0 tasks) in
    record {
      forward = λ p below. (Every-get_or (IsBetween tasks) pipes p no_pipe below all).forward;
      known = λ p below. (Every-get_or (IsBetween tasks) pipes p no_pipe below all).known;
      from_port = λ p below. (Every-get_or (IsBetween tasks) pipes p no_pipe below all).from_port;
      to_port = λ p below. (Every-get_or (IsBetween tasks) pipes p no_pipe below all).to_port;
      alone_out = λ p below. out-alone pipes p outputs below;
      alone_into = λ p below. into-alone pipes p ends below;
      into = has-into tasks pipes are;
      out = has-out tasks pipes are;
    }

pipes-hold : (tasks : List TaskValue) (pipes : List Pipe) → AreJoined tasks pipes → Every IsTask tasks →
    Every (λ pipe. holds_messages pipe.store ≡ true) pipes
pipes-hold tasks pipes are kept =
    let readers : Every (λ r. holds_messages r.store ≡ true) (readers_of [] (ports_of tasks)) =
    readers-Every (λ r. holds_messages r.store ≡ true) [] (ports_of tasks) are.fine
    (Every-then CanHold (λ p. (o : ℕ) → p.gives ≡ false → holds_messages p.store ≡ true) (λ p can o takes. can)
    (ports_of tasks) (ports-hold 0 tasks kept)) in
    pipes-Every (λ pipe. holds_messages pipe.store ≡ true) (readers_of [] (ports_of tasks)) 0 0 (ports_of tasks) pipes
    are.read
    (λ k p r at gives place among.
    Every-among (λ r. holds_messages r.store ≡ true) (readers_of [] (ports_of tasks)) r readers among)

-- the pipes of a command whose tasks are tasks, and whose files are apart, make a graph
pub joined-IsGraph : (tasks : List TaskValue) (pipes : List Pipe) → AreJoined tasks pipes → file_fault tasks ≡ None →
    Every IsTask tasks → IsGraph (record { tasks = tasks; pipes = pipes })
joined-IsGraph tasks pipes are files kept =
    let whole : IsWholeGraph (length tasks) (count_inputs tasks) (count_outputs tasks) pipes =
    joined-whole tasks pipes are in
    let all : Every (IsBetween tasks) pipes = between tasks pipes are in
    let few : length pipes ≤ most_pipes =
    omega (
      arith,
      length-pipes (readers_of [] (ports_of tasks)) 0 0 (ports_of tasks) pipes are.read,
      few-outputs [] (ports_of tasks) are.fine (omega arith),
    ) in
    record {
      whole = whole;
      few_pipes = few;
      few_tasks = omega (arith, few, few-tasks tasks pipes whole kept);
      stored = λ p below. Every-get_or (λ pipe. holds_messages pipe.store ≡ true) pipes p no_pipe below
          (pipes-hold tasks pipes are kept);
      given = λ p below. (Every-get_or (IsBetween tasks) pipes p no_pipe below all).given;
      taken = λ p below. (Every-get_or (IsBetween tasks) pipes p no_pipe below all).taken;
      apart = files-apart tasks files;
    }

-- pipes that are joined come without a fault of a port
joined-apart : (tasks : List TaskValue) (pipes : List Pipe) → joined_ports (ports_of tasks) ≡ Ok pipes →
    AreJoined tasks pipes
joined-apart tasks pipes ok = by_fault (ports_fault [] (ports_of tasks)) refl ok
  where
    by_fault : (fault : Option GraphError) → ports_fault [] (ports_of tasks) ≡ fault →
        unless_fault fault (pipes_from (readers_of [] (ports_of tasks)) 0 0 (ports_of tasks)) ≡ Ok pipes →
        AreJoined tasks pipes
    by_fault None fine ok = record { fine = fine; read = ok }
    by_fault (Some fault) bad ok = absurd (let never : Err fault ≡ Ok pipes = ok in cc)

-- what is joined is a graph
pub made-IsGraph : (tasks seen seen_too : List TaskValue) (pipes : List Pipe) → seen ≡ tasks → seen_too ≡ tasks →
    joined_ports (ports_of seen) ≡ Ok pipes → All IsTask seen → file_fault seen_too ≡ None →
    IsGraph (record { tasks = tasks; pipes = pipes })
made-IsGraph tasks seen seen_too pipes is is_too ok kept fine =
    joined-IsGraph tasks pipes (joined-apart tasks pipes (ap (λ ts. joined_ports (ports_of ts)) (sym is) ∙ ok))
    (ap file_fault (sym is_too) ∙ fine)
    (Every-from_All IsTask tasks (subst (All IsTask) is kept))
