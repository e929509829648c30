-- One step of a task, at the values of the calls that make it.
use Rattle.std.proofs.Common.{Bool, true, false, ◌≡◌, ℕ, ◌<◌, List, [], ◌∷◌, ◌++◌, length, get_or, slice_set, Some, sym, ap, subst, ◌∙◌}
use Rattle.std.specs.Prelude.{OnErr, Result, Ok, Err}
use Rattle.osm_entity.specs.Calls.{Gives, Pulls, StopsInGive, StopsInPull, StopsInTake, Takes}
use Rattle.osm_entity.specs.Machines.{AreLawful, IsSameTask, Meanings, StandsFor}
use Rattle.osm_entity.specs.declared.stream.Message.{Message}
use Rattle.osm_entity.specs.declared.stream.Want.TheVariants.{Give, Pull}
use Rattle.osm_graph.specs.Pipes.{pipe_of, pipe_into, pipe_out}
use Rattle.osm_graph.specs.declared.pipe.Pipe.{Pipe}
use Rattle.osm_net.specs.Networks.{HasMoved, HasStopped, IsNet, machine_of, no_queue, queued_in}
use Rattle.osm_net.specs.Queues.{QueueValue, is_filled}
use Rattle.osm_net.proofs.MeaningLemmas.{into_is, out_is}
use Rattle.osm_net.proofs.NetLemmas.{moved_net, same_tasks, stopped_net}
use Rattle.osm_net.proofs.StepLemmas.{element_is, gave_moves, lost_behind, net_kept, net_kept_alone, net_with, pulled_moves, pulled_stops, room_is, stays_stopped, took_moves, took_stops}

pub on_err : {A E : Type 0} {X : Type 0} (r : Result A E) → X → OnErr r X
on_err (Ok a) x = tt
on_err (Err e) x = x

module _ {M : Type 0} (of : Meanings M) (laws : AreLawful of) (reads : M → Bool)
    (readers : (m : M) → of.wanted m ≡ Pull → reads m ≡ true) (pipes : List Pipe) (machines : List M)
    (queues : List QueueValue) (net : IsNet of (net_with pipes machines queues)) (task : ℕ)
    (known : task < length machines) (x now : M) (value : x ≡ get_or machines task x) (same : IsSameTask of x now)
    (p port : ℕ) (at : pipe_into pipes task port ≡ Some p) (q queue : QueueValue) (q_value : q ≡ get_or queues p q)
  where
    into_there : p < length pipes
    into_there = (into_is pipes task port p at).known

    queue_old : get_or queues p no_queue ≡ q
    queue_old = element_is queues p q no_queue (subst (λ n. p < n) (sym net.count) into_there) q_value

    machine_old : (d : M) → machine_of machines d task ≡ x
    machine_old d = element_is machines task x d known value

    pub call_moves : (m : Message) → q.messages ≡ m ∷ queue.messages → Takes of port m x now →
        HasMoved of reads task (net_with pipes machines queues)
        (net_with pipes (slice_set machines task now) (slice_set queues p queue))
    call_moves m first takes =
        moved_net of reads readers pipes task machines queues (slice_set machines task now) (slice_set queues p queue) x
        (same_tasks of machines task x now known value same)
        (took_moves of laws pipes machines queues net task known now p port at m queue
        (ap (λ (a : QueueValue). a.messages) queue_old ∙ first)
        (λ d. subst (λ a. Takes of port m a now) (sym (machine_old d)) takes))

    pub call_stops : (m : Message) → q.messages ≡ m ∷ queue.messages → StopsInTake of port m x now →
        HasStopped of reads (net_with pipes machines queues)
        (net_with pipes (slice_set machines task now) (slice_set queues p queue))
    call_stops m first stops =
        stopped_net of reads readers pipes machines queues (slice_set machines task now) (slice_set queues p queue)
        (took_stops of laws pipes machines queues net task known now p port at m queue
        (ap (λ (a : QueueValue). a.messages) queue_old ∙ first)
        (λ d. subst (λ a. StopsInTake of port m a now) (sym (machine_old d)) stops))

    pub call_kept : queue.store ≡ q.store →
        IsNet of (net_with pipes (slice_set machines task now) (slice_set queues p queue))
    call_kept store = net_kept of laws pipes machines queues net task known now p queue into_there
        (λ d. subst (λ a. IsSameTask of a now) (sym (machine_old d)) same)
        (store ∙ ap (λ (a : QueueValue). a.store) (sym queue_old))

module _ {M : Type 0} (of : Meanings M) (laws : AreLawful of) (reads : M → Bool)
    (readers : (m : M) → of.wanted m ≡ Pull → reads m ≡ true) (pipes : List Pipe) (machines : List M)
    (queues : List QueueValue) (net : IsNet of (net_with pipes machines queues)) (task : ℕ)
    (known : task < length machines) (x now : M) (value : x ≡ get_or machines task x) (same : IsSameTask of x now) where
  machine_was : (d : M) → machine_of machines d task ≡ x
  machine_was d = element_is machines task x d known value

  pub pull_moves : of.wanted x ≡ Pull → Pulls of x now →
      HasMoved of reads task (net_with pipes machines queues) (net_with pipes (slice_set machines task now) queues)
  pull_moves wants pulls = moved_net of reads readers pipes task machines queues (slice_set machines task now) queues x
      (same_tasks of machines task x now known value same)
      (pulled_moves of laws pipes machines queues net task known now x machine_was wants pulls)

  pub pull_stops : of.wanted x ≡ Pull → StopsInPull of x now →
      HasStopped of reads (net_with pipes machines queues) (net_with pipes (slice_set machines task now) queues)
  pull_stops wants stops = stopped_net of reads readers pipes machines queues (slice_set machines task now) queues
      (pulled_stops of laws pipes machines queues net task known now x machine_was wants stops)

  pub alone_kept : IsNet of (net_with pipes (slice_set machines task now) queues)
  alone_kept = net_kept_alone of laws pipes machines queues net task known now
      (λ d. subst (λ a. IsSameTask of a now) (sym (machine_was d)) same)

  pub give_stops : StopsInGive of x now →
      HasStopped of reads (net_with pipes machines queues) (net_with pipes (slice_set machines task now) queues)
  give_stops stops = stopped_net of reads readers pipes machines queues (slice_set machines task now) queues
      (stays_stopped of laws pipes machines queues net task known now
      (λ d a b given stood. (stops a b given (subst (λ n. StandsFor of n a b given) (machine_was d) stood)).behind))

  pub give_lost : (port : ℕ) (m : Message) (left : List QueueValue) → Gives of port m x now →
      HasStopped of reads (net_with pipes machines queues) (net_with pipes (slice_set machines task now) left)
  give_lost port m left gives = stopped_net of reads readers pipes machines queues (slice_set machines task now) left
      (stays_stopped of laws pipes machines queues net task known now
      (λ d a b given stood. lost_behind of laws x now port m gives a b given
      (subst (λ n. StandsFor of n a b given) (machine_was d) stood)))

  module _ (p port : ℕ) (at : pipe_out pipes task port ≡ Some p) (q queue : QueueValue)
      (q_value : q ≡ get_or queues p q) where
    out_known : p < length pipes
    out_known = (out_is pipes task port p at).known

    queue_was : get_or queues p no_queue ≡ q
    queue_was = element_is queues p q no_queue (subst (λ n. p < n) (sym net.count) out_known) q_value

    pub give_moves : (m : Message) → of.wanted x ≡ Give port → is_filled q.store (length q.messages) ≡ false →
        queue.messages ≡ q.messages ++ m ∷ [] → Gives of port m x now →
        HasMoved of reads task (net_with pipes machines queues)
        (net_with pipes (slice_set machines task now) (slice_set queues p queue))
    give_moves m wants room after gives =
        moved_net of reads readers pipes task machines queues (slice_set machines task now) (slice_set queues p queue) x
        (same_tasks of machines task x now known value same)
        (gave_moves of laws pipes machines queues net task known now p port at m queue
        (after ∙ ap (λ (a : QueueValue). a.messages ++ m ∷ []) (sym queue_was))
        (room_is (pipe_of pipes p).store (length (queued_in queues p))
        (ap (λ s. is_filled s (length (queued_in queues p))) (sym (net.stores p out_known))
        ∙ ap (λ (a : QueueValue). is_filled a.store (length a.messages)) queue_was ∙ room))
        (λ d. ap of.wanted (machine_was d) ∙ wants)
        (λ d. subst (λ a. Gives of port m a now) (sym (machine_was d)) gives))

    pub give_kept : queue.store ≡ q.store →
        IsNet of (net_with pipes (slice_set machines task now) (slice_set queues p queue))
    give_kept store = net_kept of laws pipes machines queues net task known now p queue out_known
        (λ d. subst (λ a. IsSameTask of a now) (sym (machine_was d)) same)
        (store ∙ ap (λ (a : QueueValue). a.store) (sym queue_was))

-- a queue that was read and is then changed has room as it was read
pub room_read : (pipes : List Pipe) (queues : List QueueValue) (task p port : ℕ) (q r : QueueValue) →
    length queues ≡ length pipes → pipe_out pipes task port ≡ Some p → q ≡ get_or queues p q → r ≡ get_or queues p r →
    is_filled r.store (length r.messages) ≡ false → is_filled q.store (length q.messages) ≡ false
room_read pipes queues task p port q r count at q_value r_value room =
    let below : p < length queues = subst (λ n. p < n) (sym count) (out_is pipes task port p at).known in
    ap (λ (a : QueueValue). is_filled a.store (length a.messages)) (q_value ∙ element_is queues p r q below r_value) ∙
    room
