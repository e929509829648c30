-- The pipes of a command are at most 128, and each can hold a message.
use Rattle.std.proofs.Common.{◌≡◌, ◌<◌, ◌≤◌, ◌+◌, ◌⊎◌, ℕ, Bool, true, false, cond, List, ◌∷◌, [], ◌++◌, Option, None, Some, refl, sym, inl, inr, ◌∙◌, append_assoc, append-nil, arith}
use Rattle.std.specs.Prelude.{count_by, nat_le, if◌then◌else◌}
use Rattle.std.proofs.lemmas.Bool.{cases_Bool, leb-false}
use Rattle.std.proofs.lemmas.List.Sums.{sum_by-append}
use Rattle.osm_tasks.specs.Kinds.{is_ranged}
use Rattle.osm_tasks.specs.Tasks.{TaskValue, IsTask}
use Rattle.osm_tasks.specs.declared.kind.TaskKind.{TaskKind}
use Rattle.osm_tasks.specs.declared.kind.TaskKind.TheVariants.{Buffer, Spool}
use Rattle.osm_graph.specs.Graphs.{most_pipes, holds_messages}
use Rattle.osm_graph.specs.Joining.{is_put, output_fault, port_fault, ports_fault}
use Rattle.osm_graph.specs.Ports.{PortValue, store_before, side_ports, ports_of_task, ports_from}
use Rattle.osm_graph.specs.declared.fault.GraphError.TheVariants.{TooManyPipes, PipeTwice}
use Rattle.osm_graph.proofs.ListLemmas.{Every, Every-append}
use Rattle.osm_graph.proofs.ReaderLemmas.{neither, no_fault, gives-fault}

-- how many ports are outputs
abbrev pub outputs_among : List PortValue → ℕ
outputs_among ports = count_by (λ p. p.gives) ports

outputs-append : (xs ys : List PortValue) → outputs_among (xs ++ ys) ≡ outputs_among xs + outputs_among ys
outputs-append xs ys = sum_by-append (λ p. cond p.gives 1 0) xs ys

room-left : (earlier : List PortValue) (port : PortValue) → output_fault earlier port ≡ None →
    outputs_among earlier < most_pipes
room-left earlier port fine = by_cases (nat_le most_pipes (outputs_among earlier)) refl fine
  where
    by_cases : (b : Bool) → nat_le most_pipes (outputs_among earlier) ≡ b →
        (if b then Some (TooManyPipes port.task port.port)
        else if is_put earlier port.name then Some (PipeTwice port.task port.port) else None) ≡ None →
        outputs_among earlier < most_pipes
    by_cases true full fine = absurd (no_fault (TooManyPipes port.task port.port) fine)
    by_cases false room fine = leb-false _ _ room

-- ports without a fault put at most 128 pipes
pub few-outputs : (earlier ports : List PortValue) → ports_fault earlier ports ≡ None →
    outputs_among earlier ≤ most_pipes → outputs_among (earlier ++ ports) ≤ most_pipes
few-outputs earlier [] fine few = rw (append-nil earlier) few
few-outputs earlier (port ∷ ports) fine few =
    let faults = neither (port_fault earlier port) (ports_fault (earlier ++ port ∷ []) ports) fine in
    rw (sym (append_assoc earlier (port ∷ []) ports))
    (few-outputs (earlier ++ port ∷ []) ports faults.1 (by_side (cases_Bool port.gives) faults.0))
  where
    by_side : (port.gives ≡ true) ⊎ (port.gives ≡ false) → port_fault earlier port ≡ None →
        outputs_among (earlier ++ port ∷ []) ≤ most_pipes
    by_side (inl gives) fine =
        let room : outputs_among earlier < most_pipes =
        room-left earlier port (sym (gives-fault earlier port gives) ∙ fine) in
        let one : outputs_among (port ∷ []) ≡ 1 = rw gives refl in
        omega (arith, outputs-append earlier (port ∷ []), one)
    by_side (inr takes) fine =
        let none : outputs_among (port ∷ []) ≡ 0 = rw takes refl in
        omega (arith, outputs-append earlier (port ∷ []), none)

-- a port's store can hold a message
abbrev pub CanHold : PortValue → Type 0
CanHold p = holds_messages p.store ≡ true

store-holds : (kind : TaskKind) → is_ranged kind ≡ true → holds_messages (store_before kind) ≡ true
store-holds (Buffer flow capacity) ranged = ranged
store-holds (Spool flow) ranged = refl
store-holds kind ranged = refl

side-holds : (task : ℕ) (kind : TaskKind) (gives : Bool) (port : ℕ) (names : List (Option (List ℕ))) →
    is_ranged kind ≡ true → Every CanHold (side_ports task kind gives port names)
side-holds task kind gives port [] ranged = tt
side-holds task kind gives port (name ∷ names) ranged =
    (store-holds kind ranged, side-holds task kind gives (port + 1) names ranged)

pub ports-hold : (n : ℕ) (tasks : List TaskValue) → Every IsTask tasks → Every CanHold (ports_from n tasks)
ports-hold n [] are = tt
ports-hold n (task ∷ tasks) are =
    Every-append CanHold (ports_of_task n task) (ports_from (n + 1) tasks)
    (Every-append CanHold (side_ports n task.kind false 0 task.inputs) (side_ports n task.kind true 0 task.outputs)
    (side-holds n task.kind false 0 task.inputs are.0.ranged)
    (side-holds n task.kind true 0 task.outputs are.0.ranged))
    (ports-hold (n + 1) tasks are.1)
