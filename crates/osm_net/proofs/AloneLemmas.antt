-- A network as it is made, and what a run of it on one thread promises.
use Rattle.std.proofs.Common.{Bool, true, false, ◌≡◌, ℕ, ◌<◌, ◌≤◌, ◌+◌, ◌*◌, ◌-◌, inl, inr, List, [], ◌∷◌, length, get_or, map, refl, sym, ap, subst, ◌∙◌, arith, cond}
use Rattle.std.specs.Prelude.{◌==◌}
use Rattle.std.proofs.lemmas.List.{get_or-map, get_or_default}
use Rattle.osm_entity.specs.Machines.{AreLawful, Given, Meanings, StandsFor, nothing_given, with_piece}
use Rattle.osm_entity.specs.Streams.{Stream}
use Rattle.osm_graph.specs.Pipes.{no_pipe, pipe_of}
use Rattle.osm_graph.specs.declared.pipe.Pipe.{Pipe}
use Rattle.osm_net.specs.Histories.{History, MayFollowAll, Move, Took, Gave, Pulled, gave_by, most_pulls, new_history, took_by, with_move, with_moves}
use Rattle.osm_net.specs.Meaning.{messages_in}
use Rattle.osm_net.specs.Nets.{AllEnded, AreBehind, AreStanding, FitsStore, HasNoBareCircle, IsGraphOf, IsOrderly, NetStands}
use Rattle.osm_net.specs.Networks.{AreSameTasks, IsNet, IsSameNet, IsStuck, NetEnded, NetValue, StandsForHistory, StandsForSome, StoppedCounted, WentOnCounted, empty_queue, machine_of, no_queue, queued_in}
use Rattle.osm_net.specs.Queues.{QueueValue}
use Rattle.osm_net.specs.Runs.{AreCountedRun, AreNewMachines, AreRun, IsBeforeMeant, IsRunOf}
use Rattle.osm_net.proofs.CountLemmas.{pulls_bound, steps_ended, steps_so_far}
use Rattle.osm_net.proofs.MoveLemmas.{new_stands}
use Rattle.osm_net.proofs.ProgressLemmas.{goes_on}
use Rattle.osm_net.proofs.RunLemmas.{ended_run, standing_behind, stopped_run}
use Rattle.osm_net.proofs.StepLemmas.{net_with}

-- ---- a network as it is made

queue_at : (pipes : List Pipe) (p : ℕ) → p < length pipes →
    get_or (map empty_queue pipes) p no_queue ≡ empty_queue (pipe_of pipes p)
queue_at pipes p known = get_or-map empty_queue pipes p no_pipe no_queue known

module _ {M : Type 0} (of : Meanings M) (pipes : List Pipe) (machines : List M)
    (are : AreNewMachines of pipes machines) where
  pub made_stands : (d : M) →
      StandsForHistory of (net_with pipes machines (map empty_queue pipes)) (new_history (machine_of machines d))
  made_stands d e =
      let new : NetStands of (length machines) pipes (machine_of machines e) (λ p. [])
      (new_history (machine_of machines e)) =
      new_stands of (length machines) pipes (machine_of machines e) (are e) in
      record {
        machines = record {
          order = record { within = new.machines.order.within; ends = new.machines.order.ends };
          stand = λ t known. subst (λ m. StandsFor of (machine_of machines e t)
              (took_by pipes (new_history (machine_of machines d)) t)
              (gave_by pipes (new_history (machine_of machines d)) t) (nothing_given m))
              (get_or_default machines t e d known) (new.machines.stand t known);
        };
        queued = λ p known. ap (λ (q : QueueValue). q.messages) (queue_at pipes p known);
        fits = λ p known. subst (λ (q : QueueValue). FitsStore (pipe_of pipes p).store (length q.messages))
            (sym (queue_at pipes p known)) (new.fits p known);
      }

  -- the same of copies of the pipes and of the queues
  pub copies_stand : (copies : List Pipe) (queues : List QueueValue) → copies ≡ pipes →
      queues ≡ map empty_queue pipes → (d : M) →
      StandsForHistory of (net_with copies machines queues) (new_history (machine_of machines d))
  copies_stand copies queues same empty d =
      subst (λ ps. StandsForHistory of (net_with ps machines queues) (new_history (machine_of machines d))) (sym same)
      (subst (λ qs. StandsForHistory of (net_with pipes machines qs) (new_history (machine_of machines d))) (sym empty)
      (made_stands d))

-- ---- a network in which no task can move

pub all_stuck : {M : Type 0} (of : Meanings M) (laws : AreLawful of) (n : NetValue M) → IsNet of n →
    HasNoBareCircle n.pipes → StandsForSome of n → ((t : ℕ) → t < length n.machines → IsStuck of n t) → NetEnded of n
all_stuck of laws n net none some stuck d = elim (goes_on of laws (length n.machines) n.pipes (machine_of n.machines d)
    (queued_in n.queues) (some d).0 (net.graph d) net.can_hold ((some d).1 d) none) [
      | inl ended ↦ ended
      | inr can ↦ absurd (stuck can.task can.known d can.moves)
    ]

-- ---- a run

piece_made : {M : Type 0} (b : Bool) (limit : ℕ) (piece : List ℕ) (came : Bool) (given : Given M) →
    (cond b (with_piece limit piece came given) given).made ≡ given.made
piece_made true limit piece came given = refl
piece_made false limit piece came given = refl

-- moves leave the machine as it was made
made_kept : {M : Type 0} (h : History M) (moves : List Move) (t : ℕ) →
    ((with_moves h moves).given t).made ≡ (h.given t).made
made_kept h [] t = refl
made_kept h (Took pipe ∷ moves) t = made_kept (with_move h (Took pipe)) moves t
made_kept h (Gave pipe message ∷ moves) t = made_kept (with_move h (Gave pipe message)) moves t
made_kept h (Pulled task limit piece came ∷ moves) t =
    made_kept (with_move h (Pulled task limit piece came)) moves t
    ∙ piece_made (t == task) limit piece came (h.given t)

module _ {M : Type 0} (of : Meanings M) (laws : AreLawful of) (reads : M → Bool) (pipes : List Pipe)
    (before after : List M) (same : AreSameTasks of before after)
    (graph : (d : M) → IsGraphOf of (length before) (machine_of after d) pipes) (moves : List Move)
    (follow : (d : M) → MayFollowAll (length before) (length pipes) (λ t. reads (get_or before t d))
    (new_history (machine_of before d)) moves) where
  abbrev pub history : M → History M
  history d = with_moves (new_history (machine_of before d)) moves

  abbrev run_by : (memory : Bool) → ((d : M) → IsRunOf of (length before) pipes (machine_of after d) memory
      (history d)) →
      AreRun of pipes before after memory
  run_by memory run = record {
    count = same.count;
    same = same.same;
    history = history;
    made = λ t d known. made_kept (new_history (machine_of before d)) moves t;
    run = run;
  }

  -- no more moves than are meant, and the pulls
  most_moves : (steps : ℕ) → steps ≤ length moves → ((d : M) → IsOrderly pipes (history d)) → (d : M)
      (streams : ℕ → Stream) →
      IsBeforeMeant pipes streams (history d) →
      steps ≤ 2 * messages_in pipes streams + most_pulls (length before) (λ t. reads (get_or before t d)) (history d)
  most_moves steps few order d streams meant =
      let all = steps_so_far (length before) pipes (machine_of before d) (λ t. reads (get_or before t d)) moves streams
      (follow d) (order d) meant in
      let pulls = pulls_bound (length before) (length pipes) (λ t. reads (get_or before t d))
      (new_history (machine_of before d)) moves (follow d) in
      omega (arith, few, all, pulls)

  pub ended_counted : (steps : ℕ) → steps ≡ length moves →
      ((d : M) → AreStanding of (length before) pipes (machine_of after d) (history d)) →
      ((d : M) → AllEnded of (length before) (machine_of after d)) → AreCountedRun of reads pipes before after false
      steps
  ended_counted steps count stand ended =
      let run : (d : M) → IsRunOf of (length before) pipes (machine_of after d) false (history d) =
      λ d. ended_run of laws (length before) pipes (machine_of after d) (graph d) (history d) (stand d) (ended d) in
      record {
        run = run_by false run;
        most = λ d streams meaning. most_moves steps (omega (arith, count)) (λ e. (stand e).order) d streams
            ((run d).so_far streams meaning).passed;
        least = λ fine d streams meaning.
            let all = steps_ended of laws (length before) pipes (machine_of before d) (machine_of after d)
            (λ t. reads (get_or before t d)) moves streams (graph d) (follow d) (stand d) (ended d) meaning in
            omega (arith, all, count);
      }

  pub stopped_counted : (steps : ℕ) → steps ≤ length moves →
      ((d : M) → AreBehind of (length before) pipes (machine_of after d) (history d)) →
      AreCountedRun of reads pipes before after true steps
  stopped_counted steps few are =
      let run : (d : M) → IsRunOf of (length before) pipes (machine_of after d) true (history d) =
      λ d. stopped_run of laws (length before) pipes (machine_of after d) (graph d) (history d) (are d) in
      record {
        run = run_by true run;
        most = λ d streams meaning. most_moves steps few (λ e. (are e).order) d streams
            ((run d).so_far streams meaning).passed;
        least = λ fine. cc;
      }

-- machines that no network could be made of
pub unmade_counted : {M : Type 0} (of : Meanings M) (laws : AreLawful of) (reads : M → Bool) (pipes : List Pipe)
    (machines : List M) → AreNewMachines of pipes machines → (steps : ℕ) → steps ≡ 0 →
    AreCountedRun of reads pipes machines machines true steps
unmade_counted of laws reads pipes machines are steps none = stopped_counted of laws reads pipes machines machines
    (record { count = refl; same = λ t d known. refl }) (λ d. (are d).graph) [] (λ d. tt) steps (omega (arith, none))
    (λ d. standing_behind of laws (length machines) pipes (machine_of machines d) (are d).graph
    (new_history (machine_of machines d))
    (new_stands of (length machines) pipes (machine_of machines d) (are d)).machines)

module _ {M N : Type 0} (of : Meanings M) (laws : AreLawful of) (names : M → N) (reads : M → Bool) (a b : NetValue M)
    (same : IsSameNet of names a b) (net : IsNet of b)
    (stands : (d : M) → StandsForHistory of a (new_history (machine_of a.machines d))) (k m : ℕ) where
  graph_before : (d : M) → IsGraphOf of (length a.machines) (machine_of b.machines d) a.pipes
  graph_before d = subst (λ n. IsGraphOf of n (machine_of b.machines d) a.pipes) same.tasks.count
      (subst (IsGraphOf of (length b.machines) (machine_of b.machines d)) same.pipes (net.graph d))

  pub ended_net : WentOnCounted of reads a b k m → NetEnded of b →
      AreCountedRun of reads a.pipes a.machines b.machines false (m - k)
  ended_net went ended = ended_counted of laws reads a.pipes a.machines b.machines same.tasks graph_before went.moves
      (λ d. went.went.follow (new_history (machine_of a.machines d)) (stands d) d) (m - k)
      (omega (arith, went.count))
      (λ d. subst (λ n. AreStanding of n a.pipes (machine_of b.machines d)
      (with_moves (new_history (machine_of a.machines d)) went.moves)) same.tasks.count
      (subst (λ pipes. AreStanding of (length b.machines) pipes (machine_of b.machines d)
      (with_moves (new_history (machine_of a.machines d)) went.moves)) same.pipes
      (went.went.stands (new_history (machine_of a.machines d)) (stands d) d).machines))
      (λ d. subst (λ n. AllEnded of n (machine_of b.machines d)) same.tasks.count (ended d))

  pub stopped_net : StoppedCounted of reads a b k m → AreCountedRun of reads a.pipes a.machines b.machines true (m - k)
  stopped_net run = stopped_counted of laws reads a.pipes a.machines b.machines same.tasks graph_before
      run.stopped.moves (λ d. run.stopped.follow (new_history (machine_of a.machines d)) (stands d) d) (m - k)
      (omega (arith, run.least, run.most))
      (λ d. run.stopped.behind (new_history (machine_of a.machines d)) (stands d) d)

-- a run of the network of other lists that are those
pub run_of : {M : Type 0} (of : Meanings M) (reads : M → Bool) (a : NetValue M) (pipes : List Pipe)
    (machines after left : List M) (memory : Bool) (steps : ℕ) → a.pipes ≡ pipes → a.machines ≡ machines →
    left ≡ after → AreCountedRun of reads a.pipes a.machines after memory steps →
    AreCountedRun of reads pipes machines left memory steps
run_of of reads a pipes machines after left memory steps pipes_are machines_are left_is run =
    subst (λ p. AreCountedRun of reads p machines left memory steps) pipes_are
    (subst (λ ms. AreCountedRun of reads a.pipes ms left memory steps) machines_are
    (subst (λ ms. AreCountedRun of reads a.pipes a.machines ms memory steps) (sym left_is) run))

pub stands_before : {M : Type 0} (of : Meanings M) (a : NetValue M) (machines : List M) → a.machines ≡ machines →
    ((d : M) → StandsForHistory of a (new_history (machine_of machines d))) →
    (d : M) → StandsForHistory of a (new_history (machine_of a.machines d))
stands_before of a machines are stands d =
    subst (λ ms. StandsForHistory of a (new_history (machine_of ms d))) (sym are) (stands d)
