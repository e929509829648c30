-- Machines that stand for a history did what is before the meaning of their graph, and at their end all of it.
use Rattle.std.proofs.Common.{◌≡◌, ℕ, zero, suc, ◌<◌, ◌≤◌, ◌+◌, List, [], ◌∷◌, length, take, true, false, Option, Some, None, refl, sym, ap, subst, ◌∙◌, arith}
use Rattle.std.proofs.Math.Path.{fun_ext}
use Rattle.std.proofs.Math.Seq.{take-length}
use Rattle.osm_entity.specs.Machines.{Meanings, AreLawful, HasEnded, MayWant, WroteAll, WrotePrefix}
use Rattle.osm_entity.specs.Ports.{AreBefore, EndsLast, fixed, has_end, stream_of, streams}
use Rattle.osm_entity.specs.Prefixes.{IsPrefix}
use Rattle.osm_entity.specs.Streams.{Stream, IsBefore}
use Rattle.osm_entity.specs.Tasks.{verdict_as}
use Rattle.osm_entity.specs.declared.stream.Message.{Message}
use Rattle.osm_entity.specs.declared.stream.Message.TheVariants.{Item as One, End as Last}
use Rattle.osm_entity.proofs.PortLemmas.{fixed_all, prefix_before}
use Rattle.osm_entity.proofs.PrefixLemmas.{prefix_onward, prefix_take}
use Rattle.osm_entity.proofs.StreamLemmas.{before_itself, before_onward}
use Rattle.osm_graph.specs.Pipes.{IsWholeGraph, pipe_of, pipe_into}
use Rattle.osm_graph.specs.declared.pipe.Pipe.{Pipe}
use Rattle.osm_net.specs.Histories.{History, messages_taken, took_by, gave_by, streams_taken}
use Rattle.osm_net.specs.Meaning.{no_stream, at_pipe, streams_into, rules_of, stream_put, bytes_written}
use Rattle.osm_net.specs.Nets.{AllEnded, AreBehind, AreStanding, IsGraphOf}
use Rattle.osm_net.specs.Runs.{course_of, IsMeant, IsRunOf, IsRunSoFar, IsWholeRun}
use Rattle.osm_net.proofs.MeaningLemmas.{into_is, inputs_alike, one_meaning}

stream_at : (lists : ℕ → List Message) (o : Option ℕ) →
    stream_of (at_pipe [] lists o) ≡ at_pipe no_stream (λ p. stream_of (lists p)) o
stream_at lists None = refl
stream_at lists (Some p) = refl

-- a pipe of a graph leaves a task that is there
pub from_known : (tasks : ℕ) (inputs outputs : ℕ → ℕ) (pipes : List Pipe) → IsWholeGraph tasks inputs outputs pipes →
    (p : ℕ) → p < length pipes → (pipe_of pipes p).from < tasks
from_known tasks inputs outputs pipes graph p known =
    let ahead = graph.forward p known in let there = graph.known p known in omega arith

module _ {M : Type 0} (of : Meanings M) (laws : AreLawful of) (tasks : ℕ) (pipes : List Pipe) (machine : ℕ → M)
    (graph : IsGraphOf of tasks machine pipes) (h : History M) where
  -- what was sent over a pipe is what its task gave at its output
  sent_at : (p : ℕ) → p < length pipes → h.sent p ≡ gave_by pipes h (pipe_of pipes p).from (pipe_of pipes p).from_port
  sent_at p known = sym (ap (at_pipe [] h.sent) (graph.alone_out p known))

  leaves : (p : ℕ) → p < length pipes → (pipe_of pipes p).from < tasks
  leaves = from_known tasks (λ t. (of.task (machine t)).inputs) (λ t. (of.task (machine t)).outputs) pipes graph

  -- machines that stand are behind
  pub standing_behind : AreStanding of tasks pipes machine h → AreBehind of tasks pipes machine h
  standing_behind standing = record {
    order = standing.order;
    behind = λ t known. laws.behind (machine t) (took_by pipes h t) (gave_by pipes h t) (h.given t) (standing.stand t
        known);
  }

  before_at : (streams : ℕ → Stream) (o : Option ℕ) →
      ((p : ℕ) → o ≡ Some p → IsBefore (stream_of (h.sent p)) (streams p)) →
      IsBefore (stream_of (at_pipe [] (messages_taken h) o)) (at_pipe no_stream streams o)
  before_at streams None before = before_itself no_stream
  before_at streams (Some p) before =
      before_onward (stream_of (messages_taken h p)) (stream_of (h.sent p)) (streams p)
      (prefix_before (messages_taken h p) (h.sent p) (prefix_take (h.taken p) (h.sent p))) (before p refl)

  -- what a task took is before what it means to take, where that holds of what was sent to it
  inputs_before : (streams : ℕ → Stream) (task : ℕ) →
      ((p : ℕ) → p < length pipes → (pipe_of pipes p).to ≡ task → IsBefore (stream_of (h.sent p)) (streams p)) →
      AreBefore (streams_taken pipes h task) (streams_into pipes streams task)
  inputs_before streams task before port = before_at streams (pipe_into pipes task port)
      (λ p is. let at = into_is pipes task port p is in before p at.known at.task_is)

  below_before : AreBehind of tasks pipes machine h → (streams : ℕ → Stream) → IsMeant of pipes machine h streams →
      (n p : ℕ) → p < length pipes → (pipe_of pipes p).from < n → IsBefore (stream_of (h.sent p)) (streams p)
  below_before are streams meaning zero p known below = absurd (omega arith)
  below_before are streams meaning (suc n) p known below =
      let task : ℕ = (pipe_of pipes p).from in
      let port : ℕ = (pipe_of pipes p).from_port in
      let meant : Stream = rules_of (course_of of machine h) task (streams_taken pipes h task) port in
      let gave : IsBefore (stream_of (h.sent p)) meant =
      subst (λ ms. IsBefore (stream_of ms) meant) (sym (sent_at p known))
      ((are.behind task (leaves p known)).gave port (graph.from_port p known)) in
      let kept : IsBefore meant (stream_put pipes (rules_of (course_of of machine h)) streams p) =
      (laws.onward (machine task)).gives (h.given task).bytes (h.given task).came (streams_taken pipes h task)
      (streams_into pipes streams task)
      (inputs_before streams task (λ q there joins. below_before are streams meaning n q there
      (let ahead = graph.forward q there in omega arith))) port in
      before_onward (stream_of (h.sent p)) meant (streams p) gave
      (subst (λ s. IsBefore meant s) (sym (meaning.by_rule p known)) kept)

  -- what machines that are behind sent, took and wrote is before what is meant
  pub behind_before : AreBehind of tasks pipes machine h → (streams : ℕ → Stream) → IsMeant of pipes machine h streams →
      IsRunSoFar of tasks pipes machine h streams
  behind_before are streams meaning =
      let sent : (p : ℕ) → p < length pipes → IsBefore (stream_of (h.sent p)) (streams p) =
      λ p known. below_before are streams meaning ((pipe_of pipes p).from + 1) p known (omega arith) in
      let inputs : (task : ℕ) → AreBefore (streams_taken pipes h task) (streams_into pipes streams task) =
      λ task. inputs_before streams task (λ p known to. sent p known) in
      record {
        passed = record { sent = sent; inputs = inputs };
        wrote = λ t known. wrote_onward (of.wrote (machine t)) ((of.task (machine t)).text (streams_taken pipes h t))
            (bytes_written pipes (of.task (machine t)) streams t) (are.behind t known).wrote
            ((laws.onward (machine t)).text (streams_taken pipes h t) (streams_into pipes streams t) (inputs t));
      }
    where
      wrote_onward : (taken : Option (List ℕ)) (text more : List ℕ) → WrotePrefix taken text → IsPrefix text more →
          WrotePrefix taken more
      wrote_onward None text more took prefix = tt
      wrote_onward (Some bytes) text more took prefix = prefix_onward bytes text more took prefix

-- where its end was taken, all of a list was taken
pub all_by_end : (k : ℕ) (ms : List Message) → EndsLast ms → has_end (take k ms) ≡ true → k ≤ length ms → k ≡ length ms
all_by_end zero ms last closed within = cc
all_by_end (suc k) [] last closed within = cc
all_by_end (suc k) (One item ∷ more) last closed within = ap suc (all_by_end k more last closed (omega arith))
all_by_end (suc k) (Last end ∷ more) last closed within = let none = ap length last in omega arith

pub end_kept : (k : ℕ) (ms : List Message) → has_end (take k ms) ≡ true → has_end ms ≡ true
end_kept zero ms closed = cc
end_kept (suc k) [] closed = closed
end_kept (suc k) (One item ∷ more) closed = end_kept k more closed
end_kept (suc k) (Last end ∷ more) closed = refl

module _ {M : Type 0} (of : Meanings M) (laws : AreLawful of) (tasks : ℕ) (pipes : List Pipe) (machine : ℕ → M)
    (graph : IsGraphOf of tasks machine pipes) (h : History M) (standing : AreStanding of tasks pipes machine h)
    (all : AllEnded of tasks machine) where
  at_end : (t : ℕ) → t < tasks → HasEnded of (machine t) (took_by pipes h t) (gave_by pipes h t) (h.given t)
  at_end t known = subst (MayWant of (machine t) (took_by pipes h t) (gave_by pipes h t) (h.given t)) (all t known)
      (laws.wants (machine t) (took_by pipes h t) (gave_by pipes h t) (h.given t) (standing.stand t known))

  closed : (p : ℕ) → p < length pipes → has_end (messages_taken h p) ≡ true
  closed p known = subst (λ ms. has_end ms ≡ true) (ap (at_pipe [] (messages_taken h)) (graph.alone_into p known))
      ((at_end (pipe_of pipes p).to (graph.known p known)).took_ends (pipe_of pipes p).to_port (graph.to_port p known))

  -- all that was sent was taken
  pub ended_taken : (p : ℕ) → p < length pipes → h.taken p ≡ length (h.sent p)
  ended_taken p known =
      all_by_end (h.taken p) (h.sent p) (standing.order.ends p known) (closed p known) (standing.order.within p known)

  took_all : (p : ℕ) → p < length pipes → messages_taken h p ≡ h.sent p
  took_all p known = ap (λ k. take k (h.sent p)) (ended_taken p known) ∙ take-length (h.sent p)

  taken_as_sent : (task : ℕ) → streams_taken pipes h task ≡ streams_into pipes (λ p. stream_of (h.sent p)) task
  taken_as_sent task = fun_ext (λ port. stream_at (messages_taken h) (pipe_into pipes task port))
      ∙ inputs_alike pipes (λ p. stream_of (messages_taken h p)) (λ p. stream_of (h.sent p)) task
      (λ p known to. ap stream_of (took_all p known))

  -- what was sent over the pipes is a meaning of the graph
  sent_means : IsMeant of pipes machine h (λ p. stream_of (h.sent p))
  sent_means = record {
    by_rule = λ p known.
        let from : ℕ = (pipe_of pipes p).from in
        ap stream_of (sent_at of laws tasks pipes machine graph h p known)
        ∙ (at_end from (leaves of laws tasks pipes machine graph h p known)).whole (pipe_of pipes p).from_port
        (graph.from_port p known)
        ∙ ap (λ f. rules_of (course_of of machine h) from f (pipe_of pipes p).from_port) (taken_as_sent from);
  }

  -- where all machines have ended all is as it is meant
  pub ended_whole : (streams : ℕ → Stream) → IsMeant of pipes machine h streams →
      IsWholeRun of tasks pipes machine h streams
  ended_whole streams meaning =
      let same : (p : ℕ) → p < length pipes → stream_of (h.sent p) ≡ streams p =
      one_meaning pipes (rules_of (course_of of machine h)) (λ p. stream_of (h.sent p)) streams graph.forward sent_means
      meaning in
      let sent : (p : ℕ) → p < length pipes → h.sent p ≡ fixed true (streams p) =
      λ p known. fixed_all (h.sent p) (standing.order.ends p known) (end_kept (h.taken p) (h.sent p) (closed p known))
      ∙ ap (fixed true) (same p known) in
      let inputs : (task : ℕ) → streams_taken pipes h task ≡ streams_into pipes streams task =
      λ task. taken_as_sent task
      ∙ inputs_alike pipes (λ p. stream_of (h.sent p)) streams task (λ p known to. same p known) in
      record {
        passed = record { sent = sent; taken = λ p known. took_all p known ∙ sent p known; inputs = inputs };
        wrote = λ t known fine. subst (λ f. WroteAll (of.wrote (machine t)) ((of.task (machine t)).text f)) (inputs t)
            ((at_end t known).wrote fine);
        judged = λ t known fine. (at_end t known).judged fine
            ∙ ap (λ f. verdict_as (of.task (machine t)).limit (length (h.given t).bytes)
            ((of.task (machine t)).finish (h.given t).bytes (h.given t).came f)) (inputs t);
      }

  -- a run that all machines ended
  pub ended_run : IsRunOf of tasks pipes machine false h
  ended_run = record {
    so_far = behind_before of laws tasks pipes machine graph h (standing_behind of laws tasks pipes machine graph h
        standing);
    devices = λ t known. (laws.behind (machine t) (took_by pipes h t) (gave_by pipes h t) (h.given t)
        (standing.stand t known)).devices;
    stand = λ fine. standing;
    ended = λ fine. all;
    all_taken = λ fine. ended_taken;
    whole = λ fine. ended_whole;
  }

-- a run that was out of memory: its machines are behind
pub stopped_run : {M : Type 0} (of : Meanings M) (laws : AreLawful of) (tasks : ℕ) (pipes : List Pipe) (machine : ℕ → M)
    (graph : IsGraphOf of tasks machine pipes) (h : History M) → AreBehind of tasks pipes machine h →
    IsRunOf of tasks pipes machine true h
stopped_run of laws tasks pipes machine graph h are = record {
  so_far = behind_before of laws tasks pipes machine graph h are;
  devices = λ t known. (are.behind t known).devices;
  stand = λ fine. cc;
  ended = λ fine. cc;
  all_taken = λ fine. cc;
  whole = λ fine. cc;
}
