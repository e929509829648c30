-- The ports of a command come in order, each once, and each port of each task is among them.
use Rattle.std.proofs.Common.{◌≡◌, ◌<◌, ◌≤◌, ◌+◌, ℕ, zero, suc, Bool, true, false, List, ◌∷◌, [], ◌++◌, length, get_or, Option, refl, inl, inr, ◌∙◌, arith}
use Rattle.osm_tasks.specs.Tasks.{TaskValue}
use Rattle.osm_tasks.specs.declared.kind.TaskKind.{TaskKind}
use Rattle.osm_graph.specs.Graphs.{no_task}
use Rattle.osm_graph.specs.Ports.{PortValue, flow_at, side_ports, ports_of_task, ports_from}
use Rattle.osm_graph.proofs.ListLemmas.{Every, EachTwo, Among, Every-append, Every-then, EachTwo-append, Among-left, Among-right}

-- the place of a side of a task among all sides: inputs before outputs
abbrev pub side_of : ℕ → Bool → ℕ
side_of task true = task + task + 1
side_of task false = task + task

-- a port comes before another: on an earlier side, or with a lower number on the same
pub record ComesBefore (a b : PortValue) : Type 0 where
  pub side : side_of a.task a.gives ≤ side_of b.task b.gives
  pub number : side_of a.task a.gives ≡ side_of b.task b.gives → a.port < b.port

-- the names of one side of a task
abbrev pub names_at : TaskValue → Bool → List (Option (List ℕ))
names_at task true = task.outputs
names_at task false = task.inputs

-- what ports of one side have: the task, the side, the kind, and numbers from the first on
pub record IsNumbered (kind : TaskKind) (t : ℕ) (side : Bool) (least most : ℕ) (p : PortValue) : Type 0 where
  pub task : p.task ≡ t
  pub gives : p.gives ≡ side
  pub flow : p.flow ≡ flow_at kind p.gives p.port
  pub low : least ≤ p.port
  pub high : p.port < most

side-numbered : (task : ℕ) (kind : TaskKind) (gives : Bool) (port : ℕ) (names : List (Option (List ℕ))) →
    Every (IsNumbered kind task gives port (port + length names)) (side_ports task kind gives port names)
side-numbered task kind gives port [] = tt
side-numbered task kind gives port (name ∷ names) = (
  record { task = refl; gives = refl; flow = refl; low = omega arith; high = omega arith },
  Every-then (IsNumbered kind task gives (port + 1) (port + 1 + length names))
      (IsNumbered kind task gives port (port + suc (length names)))
      (λ p has. record {
        task = has.task;
        gives = has.gives;
        flow = has.flow;
        low = omega (arith, has.low);
        high = omega (arith, has.high);
      })
      (side_ports task kind gives (port + 1) names) (side-numbered task kind gives (port + 1) names),
)

side-in_order : (task : ℕ) (kind : TaskKind) (gives : Bool) (port : ℕ) (names : List (Option (List ℕ))) →
    EachTwo ComesBefore (side_ports task kind gives port names)
side-in_order task kind gives port [] = tt
side-in_order task kind gives port (name ∷ names) = (
  Every-then (IsNumbered kind task gives (port + 1) (port + 1 + length names)) _
      (λ p has. record {
        side = rw (has.task, has.gives) (omega arith);
        number = λ same. omega (arith, has.low);
      })
      (side_ports task kind gives (port + 1) names) (side-numbered task kind gives (port + 1) names),
  side-in_order task kind gives (port + 1) names,
)

-- a port is of the task of this number, or of a later one
record IsFrom (n : ℕ) (p : PortValue) : Type 0 where
  pub side : n + n ≤ side_of p.task p.gives

numbered-from : (kind : TaskKind) (n : ℕ) (gives : Bool) (low high : ℕ) (p : PortValue) →
    IsNumbered kind n gives low high p → IsFrom n p
numbered-from kind n true low high p has = record { side = rw (has.task, has.gives) (omega arith) }
numbered-from kind n false low high p has = record { side = rw (has.task, has.gives) (omega arith) }

ports-from : (n : ℕ) (tasks : List TaskValue) → Every (IsFrom n) (ports_from n tasks)
ports-from n [] = tt
ports-from n (task ∷ tasks) =
    Every-append (IsFrom n) (ports_of_task n task) (ports_from (n + 1) tasks)
    (Every-append (IsFrom n) (side_ports n task.kind false 0 task.inputs) (side_ports n task.kind true 0 task.outputs)
    (Every-then (IsNumbered task.kind n false 0 (0 + length task.inputs)) (IsFrom n) (numbered-from task.kind n false 0 _)
    (side_ports n task.kind false 0 task.inputs) (side-numbered n task.kind false 0 task.inputs))
    (Every-then (IsNumbered task.kind n true 0 (0 + length task.outputs)) (IsFrom n) (numbered-from task.kind n true 0 _)
    (side_ports n task.kind true 0 task.outputs) (side-numbered n task.kind true 0 task.outputs)))
    (Every-then (IsFrom (n + 1)) (IsFrom n) (λ p has. record { side = omega (arith, has.side) })
    (ports_from (n + 1) tasks) (ports-from (n + 1) tasks))

-- a port of a side before a list of ports that all stand on later sides
before_later : (a : PortValue) (side : ℕ) (ports : List PortValue) → side_of a.task a.gives < side →
    Every (λ p. side ≤ side_of p.task p.gives) ports → Every (ComesBefore a) ports
before_later a side ports less later =
    Every-then (λ p. side ≤ side_of p.task p.gives) (ComesBefore a)
    (λ p has. record { side = omega arith; number = λ same. absurd (omega arith) }) ports later

-- so do all ports of lower sides
all_before : (side : ℕ) (earlier later : List PortValue) → Every (λ p. side_of p.task p.gives < side) earlier →
    Every (λ p. side ≤ side_of p.task p.gives) later → Every (λ a. Every (ComesBefore a) later) earlier
all_before side earlier later low high =
    Every-then (λ p. side_of p.task p.gives < side) (λ a. Every (ComesBefore a) later)
    (λ a less. before_later a side later less high) earlier low

side_low : (kind : TaskKind) (n : ℕ) (gives : Bool) (side low high : ℕ) (p : PortValue) → side_of n gives < side →
    IsNumbered kind n gives low high p → side_of p.task p.gives < side
side_low kind n gives side low high p less has = rw (has.task, has.gives) less

side_high : (kind : TaskKind) (n : ℕ) (gives : Bool) (low high : ℕ) (p : PortValue) →
    IsNumbered kind n gives low high p → side_of n gives ≤ side_of p.task p.gives
side_high kind n gives low high p has = rw (has.task, has.gives) (omega arith)

-- the ports of a task come in order
task-in_order : (n : ℕ) (task : TaskValue) → EachTwo ComesBefore (ports_of_task n task)
task-in_order n task =
    let inputs : List PortValue = side_ports n task.kind false 0 task.inputs in
    let outputs : List PortValue = side_ports n task.kind true 0 task.outputs in
    EachTwo-append ComesBefore inputs outputs (side-in_order n task.kind false 0 task.inputs)
    (side-in_order n task.kind true 0 task.outputs)
    (all_before (n + n + 1) inputs outputs
    (Every-then (IsNumbered task.kind n false 0 (0 + length task.inputs)) (λ p. side_of p.task p.gives < n + n + 1)
    (λ p has. side_low task.kind n false (n + n + 1) 0 _ p (omega arith) has) inputs
    (side-numbered n task.kind false 0 task.inputs))
    (Every-then (IsNumbered task.kind n true 0 (0 + length task.outputs)) (λ p. n + n + 1 ≤ side_of p.task p.gives)
    (λ p has. side_high task.kind n true 0 _ p has) outputs (side-numbered n task.kind true 0 task.outputs)))

task-below : (n : ℕ) (task : TaskValue) →
    Every (λ p. side_of p.task p.gives < n + 1 + (n + 1)) (ports_of_task n task)
task-below n task =
    let below : PortValue → Type 0 = λ p. side_of p.task p.gives < n + 1 + (n + 1) in
    Every-append below (side_ports n task.kind false 0 task.inputs) (side_ports n task.kind true 0 task.outputs)
    (Every-then (IsNumbered task.kind n false 0 (0 + length task.inputs)) below
    (λ p has. side_low task.kind n false (n + 1 + (n + 1)) 0 _ p (omega arith) has)
    (side_ports n task.kind false 0 task.inputs) (side-numbered n task.kind false 0 task.inputs))
    (Every-then (IsNumbered task.kind n true 0 (0 + length task.outputs)) below
    (λ p has. side_low task.kind n true (n + 1 + (n + 1)) 0 _ p (omega arith) has)
    (side_ports n task.kind true 0 task.outputs) (side-numbered n task.kind true 0 task.outputs))

-- the ports of tasks come in order
pub ports-in_order : (n : ℕ) (tasks : List TaskValue) → EachTwo ComesBefore (ports_from n tasks)
ports-in_order n [] = tt
ports-in_order n (task ∷ tasks) =
    EachTwo-append ComesBefore (ports_of_task n task) (ports_from (n + 1) tasks) (task-in_order n task)
    (ports-in_order (n + 1) tasks)
    (all_before (n + 1 + (n + 1)) (ports_of_task n task) (ports_from (n + 1) tasks) (task-below n task)
    (Every-then (IsFrom (n + 1)) (λ p. n + 1 + (n + 1) ≤ side_of p.task p.gives) (λ p has. has.side)
    (ports_from (n + 1) tasks) (ports-from (n + 1) tasks)))

-- a port is one of tasks, of which the first has this number
pub record IsPortOf (n : ℕ) (tasks : List TaskValue) (p : PortValue) : Type 0 where
  pub at : ℕ
  pub task : p.task ≡ n + at
  pub known : at < length tasks
  pub port : p.port < length (names_at (get_or tasks at no_task) p.gives)
  pub flow : p.flow ≡ flow_at (get_or tasks at no_task).kind p.gives p.port

numbered-first : (n : ℕ) (task : TaskValue) (tasks : List TaskValue) (gives : Bool) (p : PortValue) →
    IsNumbered task.kind n gives 0 (0 + length (names_at task gives)) p → IsPortOf n (task ∷ tasks) p
numbered-first n task tasks gives p has = record {
  at = 0;
  task = has.task ∙ omega arith;
  known = omega arith;
  port = rw has.gives (omega (arith, has.high));
  flow = has.flow;
}

-- each port of tasks is one of them
pub ports-known : (n : ℕ) (tasks : List TaskValue) → Every (IsPortOf n tasks) (ports_from n tasks)
ports-known n [] = tt
ports-known n (task ∷ tasks) =
    let known : PortValue → Type 0 = IsPortOf n (task ∷ tasks) in
    Every-append known (ports_of_task n task) (ports_from (n + 1) tasks)
    (Every-append known (side_ports n task.kind false 0 task.inputs) (side_ports n task.kind true 0 task.outputs)
    (Every-then (IsNumbered task.kind n false 0 (0 + length task.inputs)) known (numbered-first n task tasks false)
    (side_ports n task.kind false 0 task.inputs) (side-numbered n task.kind false 0 task.inputs))
    (Every-then (IsNumbered task.kind n true 0 (0 + length task.outputs)) known (numbered-first n task tasks true)
    (side_ports n task.kind true 0 task.outputs) (side-numbered n task.kind true 0 task.outputs)))
    (Every-then (IsPortOf (n + 1) tasks) known
    (λ p has. record {
      at = suc has.at;
      task = has.task ∙ omega arith;
      known = omega (arith, has.known);
      port = has.port;
      flow = has.flow;
    })
    (ports_from (n + 1) tasks) (ports-known (n + 1) tasks))

-- a port with this task, side and number is in a list
pub record HasPort (ports : List PortValue) (t : ℕ) (side : Bool) (n : ℕ) : Type 0 where
  pub p : PortValue
  pub among : Among ports p
  pub task : p.task ≡ t
  pub gives : p.gives ≡ side
  pub number : p.port ≡ n

side-has : (task : ℕ) (kind : TaskKind) (gives : Bool) (port k : ℕ) (names : List (Option (List ℕ))) →
    k < length names → HasPort (side_ports task kind gives port names) task gives (port + k)
side-has task kind gives port k [] below = absurd (omega arith)
side-has task kind gives port zero (name ∷ names) below =
    record { p = _; among = inl refl; task = refl; gives = refl; number = omega arith }
side-has task kind gives port (suc k) (name ∷ names) below =
    let more : HasPort (side_ports task kind gives (port + 1) names) task gives (port + 1 + k) =
    side-has task kind gives (port + 1) k names (omega arith) in
    record {
      p = more.p;
      among = inr more.among;
      task = more.task;
      gives = more.gives;
      number = more.number ∙ omega arith;
    }

has-left : (xs ys : List PortValue) (task : ℕ) (gives : Bool) (number : ℕ) → HasPort xs task gives number →
    HasPort (xs ++ ys) task gives number
has-left xs ys task gives number has = record {
  p = has.p;
  among = Among-left xs ys has.p has.among;
  task = has.task;
  gives = has.gives;
  number = has.number;
}

has-right : (xs ys : List PortValue) (task : ℕ) (gives : Bool) (number : ℕ) → HasPort ys task gives number →
    HasPort (xs ++ ys) task gives number
has-right xs ys task gives number has = record {
  p = has.p;
  among = Among-right xs ys has.p has.among;
  task = has.task;
  gives = has.gives;
  number = has.number;
}

task-has : (n : ℕ) (task : TaskValue) (gives : Bool) (k : ℕ) → k < length (names_at task gives) →
    HasPort (ports_of_task n task) n gives k
task-has n task true k below =
    has-right (side_ports n task.kind false 0 task.inputs) (side_ports n task.kind true 0 task.outputs) n true k
    (let there : HasPort (side_ports n task.kind true 0 task.outputs) n true (0 + k) =
    side-has n task.kind true 0 k task.outputs below in
    record {
      p = there.p;
      among = there.among;
      task = there.task;
      gives = there.gives;
      number = there.number ∙ omega arith;
    })
task-has n task false k below =
    has-left (side_ports n task.kind false 0 task.inputs) (side_ports n task.kind true 0 task.outputs) n false k
    (let there : HasPort (side_ports n task.kind false 0 task.inputs) n false (0 + k) =
    side-has n task.kind false 0 k task.inputs below in
    record {
      p = there.p;
      among = there.among;
      task = there.task;
      gives = there.gives;
      number = there.number ∙ omega arith;
    })

-- each port of each task is among the ports
pub ports-have : (n : ℕ) (tasks : List TaskValue) (t : ℕ) (gives : Bool) (k : ℕ) → t < length tasks →
    k < length (names_at (get_or tasks t no_task) gives) → HasPort (ports_from n tasks) (n + t) gives k
ports-have n [] t gives k known below = absurd (omega arith)
ports-have n (task ∷ tasks) zero gives k known below =
    has-left (ports_of_task n task) (ports_from (n + 1) tasks) (n + 0) gives k
    (let here : HasPort (ports_of_task n task) n gives k = task-has n task gives k below in
    record { p = here.p; among = here.among; task = here.task ∙ omega arith; gives = here.gives; number = here.number })
ports-have n (task ∷ tasks) (suc t) gives k known below =
    has-right (ports_of_task n task) (ports_from (n + 1) tasks) (n + suc t) gives k
    (let there : HasPort (ports_from (n + 1) tasks) (n + 1 + t) gives k =
    ports-have (n + 1) tasks t gives k (omega arith) below in
    record {
      p = there.p;
      among = there.among;
      task = there.task ∙ omega arith;
      gives = there.gives;
      number = there.number;
    })
