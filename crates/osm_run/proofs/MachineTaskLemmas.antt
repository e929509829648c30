-- The machines of a graph's tasks are what a network runs: each port has its pipe, and each pipe can hold a message.
use Rattle.std.proofs.Common.{◌≡◌, ℕ, ◌<◌, ◌≤◌, List, length, ap, ◌∙◌, arith}
use Rattle.std.specs.Prelude.{get_or, nat_le, IsTrue}
use Rattle.std.proofs.lemmas.Bool.{and_parts, leb-true}
use Rattle.osm_entity.specs.Tasks.{TaskMeaning}
use Rattle.osm_graph.specs.Graphs.{GraphValue, IsGraph, count_inputs, count_outputs, holds_messages}
use Rattle.osm_graph.specs.Pipes.{pipe_of}
use Rattle.osm_graph.specs.declared.pipe.Store.{Store}
use Rattle.osm_graph.specs.declared.pipe.Store.TheVariants.{Bounded, Spool}
use Rattle.osm_machine.specs.MachineKinds.{machines}
use Rattle.osm_machine.specs.declared.kind.MachineKind.{MachineKind}
use Rattle.osm_net.specs.Nets.{CanHold, HasRoom}
use Rattle.osm_net.specs.Runs.{AreNewMachines}
use Rattle.osm_run.specs.Commands.{Areas, AreTasksKept}
use Rattle.osm_run.specs.Went.{AreMachinesOf, DeviceSeen}
use Rattle.osm_run.proofs.GraphMeaningLemmas.{inputs_are, outputs_are, source_known}

-- the machines of a graph's tasks are what a network runs
pub machines_are_tasks : {S K : Type 0} (g : GraphValue) (areas : Areas) (devices : List DeviceSeen)
    (ms : List (MachineKind S K)) → IsGraph g → AreTasksKept g.tasks → AreMachinesOf g.tasks areas devices ms →
    AreNewMachines machines g.pipes ms
machines_are_tasks {S} {K} g areas devices ms graph kept made d =
    let whole = graph.whole in
    let inputs : (t : ℕ) → t < length g.tasks → (machines.task (get_or ms t d)).inputs ≡ count_inputs g.tasks t =
    λ t known. ap (λ (task : TaskMeaning). task.inputs) (made.each t d known).task_is
    ∙ inputs_are g.tasks areas kept t known in
    let outputs : (t : ℕ) → t < length g.tasks → (machines.task (get_or ms t d)).outputs ≡ count_outputs g.tasks t =
    λ t known. ap (λ (task : TaskMeaning). task.outputs) (made.each t d known).task_is
    ∙ outputs_are g.tasks areas kept t known in
    let below : (t : ℕ) → t < length ms → t < length g.tasks = λ t known. omega (arith, known, made.count) in
    record {
      graph = record {
        forward = whole.forward;
        known = λ p known. omega (arith, whole.known p known, made.count);
        from_port = λ p known. omega (
          arith,
          whole.from_port p known,
          outputs (pipe_of g.pipes p).from
              (source_known g graph p known),
        );
        to_port = λ p known. omega (arith, whole.to_port p known, inputs (pipe_of g.pipes p).to (whole.known p known));
        alone_out = whole.alone_out;
        alone_into = whole.alone_into;
        into = λ t port known within.
            whole.into t port (below t known) (omega (arith, within, inputs t (below t known)));
        out = λ t port known within.
            whole.out t port (below t known) (omega (arith, within, outputs t (below t known)));
      };
      new = λ t known. (made.each t d (below t known)).new;
    }

room : (store : Store) → IsTrue (holds_messages store) → HasRoom store 0
room (Bounded capacity) is =
    let least : 1 ≤ capacity = leb-true 1 capacity (and_parts (nat_le 1 capacity) (nat_le capacity 65536) is).0 in
    omega (arith, least)
room Spool is = tt

-- each pipe of a graph can hold a message
pub pipes_can_hold : (g : GraphValue) → IsGraph g → CanHold g.pipes
pipes_can_hold g graph p known = room (pipe_of g.pipes p).store (graph.stored p known)
