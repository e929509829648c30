-- The streams that the tasks of a graph give are what the graph means, by what came of its sources.
use Rattle.std.proofs.Common.{◌≡◌, ℕ, ◌<◌, List, length, Bool, Option, Some, None, refl, sym, subst, ◌∙◌, arith}
use Rattle.std.specs.Prelude.{get_or, IsSome}
use Rattle.osm_entity.specs.Streams.{Stream}
use Rattle.osm_graph.specs.Graphs.{GraphValue, IsGraph, count_inputs, count_outputs, no_task}
use Rattle.osm_graph.specs.Pipes.{pipe_of, pipe_into}
use Rattle.osm_net.specs.Meaning.{IsMeaning, Rules, at_pipe, no_stream, rules_of, streams_into}
use Rattle.osm_net.proofs.MeaningLemmas.{into_is, streams_by_mean}
use Rattle.osm_net.proofs.RunLemmas.{from_known}
use Rattle.osm_tasks.specs.Tasks.{TaskValue}
use Rattle.osm_run.specs.Commands.{Areas, AreTasksKept, courses_of, streams_of, task_meant}
use Rattle.osm_run.proofs.KindLemmas.{inputs_meant, outputs_meant}

some_of : (o : Option ℕ) → IsSome o → (p : ℕ) × (o ≡ Some p)
some_of None is = cc
some_of (Some p) is = (p, refl)

module _ (g : GraphValue) (graph : IsGraph g) where
  pub source_known : (p : ℕ) → p < length g.pipes → (pipe_of g.pipes p).from < length g.tasks
  source_known = from_known (length g.tasks) (count_inputs g.tasks) (count_outputs g.tasks) g.pipes graph.whole

  -- the streams of a graph are its meaning
  pub streams_are_meant : (areas : Areas) (bytes : ℕ → List ℕ) (clean : ℕ → Bool) →
      IsMeaning g.pipes (rules_of (courses_of g.tasks areas bytes clean)) (streams_of g areas bytes clean)
  streams_are_meant areas bytes clean = streams_by_mean (length g.tasks) g.pipes
      (rules_of (courses_of g.tasks areas bytes clean))
      graph.whole.forward source_known

  -- a meaning by some rules is one by rules that are the same for the tasks of the graph
  pub meant_alike : (rule other : Rules) →
      ((t : ℕ) (f : ℕ → Stream) (port : ℕ) → t < length g.tasks → rule t f port ≡ other t f port) →
      (streams : ℕ → Stream) → IsMeaning g.pipes rule streams → IsMeaning g.pipes other streams
  meant_alike rule other same streams meaning = record {
    by_rule = λ p known. meaning.by_rule p known
        ∙ same (pipe_of g.pipes p).from (streams_into g.pipes streams (pipe_of g.pipes p).from)
        (pipe_of g.pipes p).from_port (source_known p known);
  }

  -- at an input of a task of a graph is the stream of a pipe from an earlier task
  pub input_at : (areas : Areas) (kept : AreTasksKept g.tasks) (streams : ℕ → Stream) (P : Stream → Type 0) (t : ℕ) →
      t < length g.tasks →
      ((q : ℕ) → q < length g.pipes → (pipe_of g.pipes q).from < t → P (streams q)) →
      (port : ℕ) → port < (task_meant g.tasks areas t).inputs → P (streams_into g.pipes streams t port)
  input_at areas kept streams P t known each port within =
      let inputs : (task_meant g.tasks areas t).inputs ≡ count_inputs g.tasks t =
      inputs_meant (get_or g.tasks t no_task).kind (areas t) ∙ sym (kept t no_task known).inputs in
      let there = some_of (pipe_into g.pipes t port)
      (graph.whole.into t port known (omega (arith, within, inputs))) in
      let at = into_is g.pipes t port there.0 there.1 in
      let ahead = graph.whole.forward there.0 at.known in
      subst (λ o. P (at_pipe no_stream streams o)) (sym there.1)
      (each there.0 at.known (omega (arith, ahead, at.task_is)))

-- how many inputs and outputs tasks have that are kept
pub inputs_are : (tasks : List TaskValue) (areas : Areas) → AreTasksKept tasks → (t : ℕ) → t < length tasks →
    (task_meant tasks areas t).inputs ≡ count_inputs tasks t
inputs_are tasks areas kept t known = inputs_meant (get_or tasks t no_task).kind (areas t) ∙ sym (kept t no_task known).inputs

pub outputs_are : (tasks : List TaskValue) (areas : Areas) → AreTasksKept tasks → (t : ℕ) → t < length tasks →
    (task_meant tasks areas t).outputs ≡ count_outputs tasks t
outputs_are tasks areas kept t known = outputs_meant (get_or tasks t no_task).kind (areas t) ∙ sym (kept t no_task known).outputs
