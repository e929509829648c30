-- One step of a task, as lists of machines and queues before and after.
use Rattle.std.proofs.Common.{cond, Bool, true, false, ◌≡◌, ℕ, ◌<◌, ◌≤◌, inl, inr, List, [], ◌∷◌, ◌++◌, length, get_or, slice_set, drop, Some, refl, sym, ap, subst, ◌∙◌, arith}
use Rattle.std.specs.Prelude.{◌≢◌, ◌==◌, nat_le}
use Rattle.std.proofs.Math.Path.{fun_ext}
use Rattle.std.proofs.lemmas.Bool.{cases_eq, cases_lt, le-leb}
use Rattle.std.proofs.lemmas.List.{get_or-set_other, get_or-set_same, get_or_default, length-set, set-get_or}
use Rattle.osm_entity.specs.Calls.{Gives, Pulls, StopsInPull, StopsInTake, Takes}
use Rattle.osm_entity.specs.Machines.{AreLawful, Given, IsBehind, IsSameTask, MayPull, MayWant, Meanings, StandsFor, with_piece}
use Rattle.osm_entity.specs.Ports.{Ports, added}
use Rattle.osm_entity.specs.Prefixes.{IsPrefix}
use Rattle.osm_entity.proofs.MachineLemmas.{behind_less}
use Rattle.osm_entity.proofs.PrefixLemmas.{prefix_append, prefix_itself}
use Rattle.osm_entity.specs.Tasks.{TaskMeaning}
use Rattle.osm_entity.specs.declared.stream.Message.{Message}
use Rattle.osm_entity.specs.declared.stream.Want.TheVariants.{Give, Pull}
use Rattle.osm_graph.specs.Graphs.{most_joined_tasks}
use Rattle.osm_graph.specs.Pipes.{IsWholeGraph, pipe_of, pipe_into, pipe_out}
use Rattle.osm_graph.specs.declared.pipe.Pipe.{Pipe}
use Rattle.osm_graph.specs.declared.pipe.Store.{Store}
use Rattle.osm_graph.specs.declared.pipe.Store.TheVariants.{Bounded, Spool}
use Rattle.osm_net.specs.Histories.{History, MayFollow, MayFollowAll, Move, Took, Gave, Pulled, gave_by, took_by, with_move, with_moves}
use Rattle.osm_net.specs.Measure.{net_weight}
use Rattle.osm_net.specs.Nets.{AreBehind, HasRoom, IsGraphOf, NetStands, Others}
use Rattle.osm_net.specs.Networks.{IsMoveBy, IsNet, NetValue, StandsForHistory, machine_of, no_queue, queued_in}
use Rattle.osm_net.specs.Queues.{QueueValue, is_filled}
use Rattle.osm_net.proofs.MeaningLemmas.{IsThere, into_is, out_is}
use Rattle.osm_net.proofs.MeasureLemmas.{gave_falls, pulled_falls, took_falls}
use Rattle.osm_net.proofs.MoveLemmas.{AllHold, gave_keeps, pulled_holds, took_holds, took_keeps, took_order}

-- the tasks that pull are among those that read
abbrev pub ReadersAre : {M : Type 0} → Meanings M → List M → (ℕ → Bool) → Type 0
ReadersAre of machines reads =
    (t : ℕ) (d : _) → t < length machines → of.wanted (machine_of machines d t) ≡ Pull → reads t ≡ true

-- the network of these lists
abbrev pub net_with : {M : Type 0} → List Pipe → List M → List QueueValue → NetValue M
net_with pipes machines queues = record { pipes = pipes; machines = machines; queues = queues }

-- one move from some lists to others
pub record IsMoveOf {M : Type 0} (of : Meanings M) (pipes : List Pipe) (task : ℕ) (machines : List M)
    (queues : List QueueValue) (new_machines : List M) (new_queues : List QueueValue) : Type 0 where
  pub move : Move
  pub own : IsMoveBy pipes task move
  pub stands : (h : History M) → StandsForHistory of (net_with pipes machines queues) h →
      StandsForHistory of (net_with pipes new_machines new_queues) (with_move h move)
  pub follows : (h : History M) (reads : ℕ → Bool) → StandsForHistory of (net_with pipes machines queues) h →
      ReadersAre of machines reads → MayFollow (length machines) (length pipes) reads h move
  pub falls : (outputs : ℕ) (d : M) →
      ((t : ℕ) → t < length machines → (of.task (machine_of machines d t)).outputs ≤ outputs) →
      net_weight outputs (length machines) pipes (λ t. of.left (machine_of new_machines d t)) (queued_in new_queues)
      < net_weight outputs (length machines) pipes (λ t. of.left (machine_of machines d t)) (queued_in queues)

-- a stop out of memory, of these lists
pub record IsStopOf {M : Type 0} (of : Meanings M) (pipes : List Pipe) (machines : List M) (queues : List QueueValue)
    (new_machines : List M) : Type 0 where
  pub moves : List Move
  pub behind : (h : History M) → StandsForHistory of (net_with pipes machines queues) h → (d : M) →
      AreBehind of (length machines) pipes (machine_of new_machines d) (with_moves h moves)
  pub follow : (h : History M) (reads : ℕ → Bool) → StandsForHistory of (net_with pipes machines queues) h →
      ReadersAre of machines reads → MayFollowAll (length machines) (length pipes) reads h moves

module _ {M : Type 0} (of : Meanings M) (laws : AreLawful of) (pipes : List Pipe) (machines : List M)
    (queues : List QueueValue) (net : IsNet of (net_with pipes machines queues)) (task : ℕ)
    (known : task < length machines) (now : M)
  where
    -- the machine that moved stands in its place, and the others as before
    moved_here : (d : M) → machine_of (slice_set machines task now) d task ≡ now
    moved_here d = get_or-set_same machines task now d known

    moved_there : (d : M) → Others task (machine_of machines d) (machine_of (slice_set machines task now) d)
    moved_there d k not = get_or-set_other machines task k now d not

    queue_here : (p : ℕ) (queue : QueueValue) → p < length pipes →
        get_or (slice_set queues p queue) p no_queue ≡ queue
    queue_here p queue there = get_or-set_same queues p queue no_queue (subst (λ n. p < n) (sym net.count) there)

    queue_there : (p : ℕ) (queue : QueueValue) → Others p (queued_in queues) (queued_in (slice_set queues p queue))
    queue_there p queue k not = ap (λ (q : QueueValue). q.messages) (get_or-set_other queues p k queue no_queue not)

    task_kept : (d : M) → IsSameTask of (machine_of machines d task) now → (t : ℕ) →
        of.task (machine_of (slice_set machines task now) d t) ≡ of.task (machine_of machines d t)
    task_kept d same t = elim (cases_eq t task) [
      | inl is ↦ ap (λ k. of.task (machine_of (slice_set machines task now) d k)) is ∙ ap of.task (moved_here d) ∙ same
          ∙ ap (λ k. of.task (machine_of machines d k)) (sym is)
      | inr not ↦ ap of.task (moved_there d t not)
    ]

    graph_kept : (d : M) → IsSameTask of (machine_of machines d task) now →
        IsGraphOf of (length (slice_set machines task now)) (machine_of (slice_set machines task now) d) pipes
    graph_kept d same =
        subst (λ (f : ℕ → TaskMeaning). IsWholeGraph (length (slice_set machines task now)) (λ t. (f t).inputs)
        (λ t. (f t).outputs) pipes)
        (sym (fun_ext (task_kept d same)))
        (subst (λ n. IsGraphOf of n (machine_of machines d) pipes) (sym (length-set machines task now)) (net.graph d))

    -- one machine changed, and one queue: it is a network still
    pub net_kept : (p : ℕ) (queue : QueueValue) → p < length pipes →
        ((d : M) → IsSameTask of (machine_of machines d task) now) → queue.store ≡ (get_or queues p no_queue).store →
        IsNet of (net_with pipes (slice_set machines task now) (slice_set queues p queue))
    net_kept p queue there same store = record {
      graph = λ d. graph_kept d (same d);
      can_hold = net.can_hold;
      few_pipes = net.few_pipes;
      few_tasks = subst (λ n. n ≤ most_joined_tasks) (sym (length-set machines task now)) net.few_tasks;
      count = length-set queues p queue ∙ net.count;
      stores = λ k here. elim (cases_eq k p) [
        | inl is ↦ subst (λ j. (get_or (slice_set queues p queue) j no_queue).store ≡ (pipe_of pipes j).store) (sym is)
            (ap (λ (q : QueueValue). q.store) (queue_here p queue there) ∙ store ∙ net.stores p there)
        | inr not ↦ ap (λ (q : QueueValue). q.store) (get_or-set_other queues p k queue no_queue not) ∙ net.stores k
            here
      ];
    }

    -- the machine that moved changed alone: it is a network still
    pub net_kept_alone : ((d : M) → IsSameTask of (machine_of machines d task) now) →
        IsNet of (net_with pipes (slice_set machines task now) queues)
    net_kept_alone same = record {
      graph = λ d. graph_kept d (same d);
      can_hold = net.can_hold;
      few_pipes = net.few_pipes;
      few_tasks = subst (λ n. n ≤ most_joined_tasks) (sym (length-set machines task now)) net.few_tasks;
      count = net.count;
      stores = net.stores;
    }

    -- what holds of the machines but the one that changed
    behind_there : (d : M) (t : ℕ) → t ≢ task → (x y : Ports) (given : Given M) →
        StandsFor of (machine_of machines d t) x y given →
        IsBehind of (machine_of (slice_set machines task now) d t) x y given
    behind_there d t not x y given stood = subst (λ n. IsBehind of n x y given) (sym (moved_there d t not))
        (laws.behind (machine_of machines d t) x y given stood)

    -- a task stopped with nothing moved: it is behind what it stood for
    pub stays_stopped : ((d : M) (x y : Ports) (given : Given M) → StandsFor of (machine_of machines d task) x y given →
        IsBehind of now x y given) → IsStopOf of pipes machines queues (slice_set machines task now)
    stays_stopped stops = record {
      moves = [];
      behind = λ h stand d. record {
        order = (stand d).machines.order;
        behind = λ t there. elim (cases_eq t task) [
          | inl is ↦ subst (λ k. IsBehind of (machine_of (slice_set machines task now) d k) (took_by pipes h k)
              (gave_by pipes h k) (h.given k))
              (sym is) (subst (λ n. IsBehind of n (took_by pipes h task) (gave_by pipes h task) (h.given task))
              (sym (moved_here d))
              (stops d (took_by pipes h task) (gave_by pipes h task) (h.given task)
              ((stand d).machines.stand task known)))
          | inr not ↦ behind_there d t not (took_by pipes h t) (gave_by pipes h t) (h.given t)
              ((stand d).machines.stand t there)
        ];
      };
      follow = λ h reads stand readers. tt;
    }

    -- a task that wants a pull may pull
    may_pull : (x : M) → ((d : M) → machine_of machines d task ≡ x) → of.wanted x ≡ Pull → (h : History M)
        (reads : ℕ → Bool) → AllHold (λ t. StandsFor of (machine_of machines x t)) (length machines) pipes h →
        ReadersAre of machines reads →
        (task < length machines) × ((reads task ≡ true) × ((h.given task).over ≡ false))
    may_pull x old wants h reads stand readers =
        let want : of.wanted (machine_of machines x task) ≡ Pull = ap of.wanted (old x) ∙ wants in
        let may : MayPull of (machine_of machines x task) (took_by pipes h task) (gave_by pipes h task) (h.given task) =
        subst (MayWant of (machine_of machines x task) (took_by pipes h task) (gave_by pipes h task) (h.given task))
        want
        (laws.wants (machine_of machines x task) (took_by pipes h task) (gave_by pipes h task) (h.given task)
        (stand task known)) in
        (known, (readers task x known want, may.goes_on))

    -- a task pulled
    pub pulled_moves : (x : M) → ((d : M) → machine_of machines d task ≡ x) → of.wanted x ≡ Pull → Pulls of x now →
        IsMoveOf of pipes task machines queues (slice_set machines task now) queues
    pulled_moves x old wants pulls = record {
      move = Pulled task (of.task x).limit pulls.piece pulls.came;
      own = refl;
      stands = λ h stand d.
          subst (λ n. NetStands of n pipes (machine_of (slice_set machines task now) d) (queued_in queues)
          (with_move h (Pulled task (of.task x).limit pulls.piece pulls.came))) (sym (length-set machines task now))
          (record {
            machines = record {
              order = record { within = (stand d).machines.order.within; ends = (stand d).machines.order.ends };
              stand = pulled_holds (λ t. StandsFor of (machine_of machines d t))
                  (λ t. StandsFor of (machine_of (slice_set machines task now) d t)) (length machines) pipes h task
                  (of.task x).limit pulls.piece pulls.came
                  (λ a b given stood. subst (λ n. StandsFor of n a b
                  (with_piece (of.task x).limit pulls.piece pulls.came given))
                  (sym (moved_here d)) (pulls.stands a b given (subst (λ n. StandsFor of n a b given) (old d) stood)))
                  (λ t there not a b given stood. subst (λ n. StandsFor of n a b given) (sym (moved_there d t not))
                  stood)
                  (stand d).machines.stand;
            };
            queued = (stand d).queued;
            fits = (stand d).fits;
          });
      follows = λ h reads stand readers. may_pull x old wants h reads (stand x).machines.stand readers;
      falls = λ outputs d few. pulled_falls of outputs (length machines) pipes (machine_of machines d)
          (machine_of (slice_set machines task now) d) (queued_in queues) task known (moved_there d)
          (subst (λ a. Pulls of a (machine_of (slice_set machines task now) d task)) (sym (old d))
          (subst (Pulls of x) (sym (moved_here d)) pulls));
    }

    -- a task was out of memory in a pull
    pub pulled_stops : (x : M) → ((d : M) → machine_of machines d task ≡ x) → of.wanted x ≡ Pull →
        StopsInPull of x now →
        IsStopOf of pipes machines queues (slice_set machines task now)
    pulled_stops x old wants stops = record {
      moves = Pulled task (of.task x).limit stops.piece stops.came ∷ [];
      behind = λ h stand d. record {
        order = record { within = (stand d).machines.order.within; ends = (stand d).machines.order.ends };
        behind = pulled_holds (λ t. StandsFor of (machine_of machines d t))
            (λ t. IsBehind of (machine_of (slice_set machines task now) d t)) (length machines) pipes h task
            (of.task x).limit stops.piece stops.came
            (λ a b given stood. subst (λ n. IsBehind of n a b
            (with_piece (of.task x).limit stops.piece stops.came given))
            (sym (moved_here d)) (stops.stopped a b given (subst (λ n. StandsFor of n a b given) (old d) stood)).behind)
            (λ t there not. behind_there d t not) (stand d).machines.stand;
      };
      follow = λ h reads stand readers. (may_pull x old wants h reads (stand x).machines.stand readers, tt);
    }

    -- a task took the next message of the pipe into its input
    module _ (p port : ℕ) (at : pipe_into pipes task port ≡ Some p) (m : Message) (queue : QueueValue)
        (first : queued_in queues p ≡ m ∷ queue.messages) where
      there : IsThere p (length pipes) task port (pipe_of pipes p).to (pipe_of pipes p).to_port
      there = into_is pipes task port p at

      first_is : queued_in queues p ≡ m ∷ queued_in (slice_set queues p queue) p
      first_is = first ∙ ap (λ (q : QueueValue). m ∷ q.messages) (sym (queue_here p queue there.known))

      takes_there : (d : M) → Takes of port m (machine_of machines d task) now →
          Takes of (pipe_of pipes p).to_port m (machine_of machines d (pipe_of pipes p).to)
          (machine_of (slice_set machines task now) d (pipe_of pipes p).to)
      takes_there d takes =
          subst (λ q. Takes of q m (machine_of machines d (pipe_of pipes p).to)
          (machine_of (slice_set machines task now) d (pipe_of pipes p).to)) (sym there.port_is)
          (subst (λ t. Takes of port m (machine_of machines d t) (machine_of (slice_set machines task now) d t))
          (sym there.task_is) (subst (Takes of port m (machine_of machines d task)) (sym (moved_here d)) takes))

      others_there : (d : M) → Others (pipe_of pipes p).to (machine_of machines d)
          (machine_of (slice_set machines task now) d)
      others_there d = subst (λ t. Others t (machine_of machines d) (machine_of (slice_set machines task now) d))
          (sym there.task_is) (moved_there d)

      pub took_moves : ((d : M) → Takes of port m (machine_of machines d task) now) →
          IsMoveOf of pipes task machines queues (slice_set machines task now) (slice_set queues p queue)
      took_moves takes = record {
        move = Took p;
        own = there.task_is;
        stands = λ h stand d.
            subst (λ n. NetStands of n pipes (machine_of (slice_set machines task now) d)
            (queued_in (slice_set queues p queue))
            (with_move h (Took p))) (sym (length-set machines task now))
            (took_keeps of (length machines) pipes (machine_of machines d) (machine_of (slice_set machines task now) d)
            (queued_in queues) (queued_in (slice_set queues p queue)) h p m (net.graph d) there.known
            (queue_there p queue)
            first_is (others_there d) (takes_there d (takes d)) (stand d));
        follows = λ h reads stand readers. there.known;
        falls = λ outputs d few. took_falls of outputs (length machines) pipes (machine_of machines d)
            (machine_of (slice_set machines task now) d) (queued_in queues) (queued_in (slice_set queues p queue)) p m
            (net.graph d) few there.known (queue_there p queue) first_is (others_there d) (takes_there d (takes d));
      }

      pub took_stops : ((d : M) → StopsInTake of port m (machine_of machines d task) now) →
          IsStopOf of pipes machines queues (slice_set machines task now)
      took_stops stops = record {
        moves = Took p ∷ [];
        behind = λ h stand d. behind h d (stand d);
        follow = λ h reads stand readers. (there.known, tt);
      }
        where
          behind : (h : History M) (d : M) → NetStands of (length machines) pipes (machine_of machines d)
              (queued_in queues) h →
              AreBehind of (length machines) pipes (machine_of (slice_set machines task now) d) (with_move h (Took p))
          behind h d stand =
              let held : drop (h.taken p) (h.sent p) ≡ m ∷ queue.messages = sym (stand.queued p there.known) ∙ first in
              let to : ℕ = (pipe_of pipes p).to in
              record {
                order = took_order pipes h p m queue.messages held stand.machines.order;
                behind = took_holds (λ t. StandsFor of (machine_of machines d t))
                    (λ t. IsBehind of (machine_of (slice_set machines task now) d t)) (length machines)
                    (λ t. (of.task (machine_of machines d t)).inputs)
                    (λ t. (of.task (machine_of machines d t)).outputs) pipes
                    h p m queue.messages (net.graph d) there.known held
                    (λ x y given stood.
                    subst (λ q. IsBehind of (machine_of (slice_set machines task now) d to) (added x q m) y given)
                    (sym there.port_is)
                    (subst (λ n. IsBehind of n (added x port m) y given)
                    (sym (ap (machine_of (slice_set machines task now) d) there.task_is ∙ moved_here d))
                    (stops d x y given (subst (λ t. StandsFor of (machine_of machines d t) x y given) there.task_is
                    stood)).behind))
                    (λ t here not x y given stood. subst (λ n. IsBehind of n x y given) (sym (others_there d t not))
                    (laws.behind (machine_of machines d t) x y given stood))
                    stand.machines.stand;
              }

module _ {M : Type 0} (of : Meanings M) (laws : AreLawful of) (pipes : List Pipe) (machines : List M)
    (queues : List QueueValue) (net : IsNet of (net_with pipes machines queues)) (task : ℕ)
    (known : task < length machines) (now : M)
  where
    -- a task gave a message into the pipe out of its output
    module _ (p port : ℕ) (at : pipe_out pipes task port ≡ Some p) (m : Message) (queue : QueueValue)
        (after : queue.messages ≡ queued_in queues p ++ m ∷ [])
        (room : HasRoom (pipe_of pipes p).store (length (queued_in queues p))) where
      out_there : IsThere p (length pipes) task port (pipe_of pipes p).from (pipe_of pipes p).from_port
      out_there = out_is pipes task port p at

      after_is : queued_in (slice_set queues p queue) p ≡ queued_in queues p ++ m ∷ []
      after_is = ap (λ (q : QueueValue). q.messages)
          (queue_here of laws pipes machines queues net task known now p queue out_there.known) ∙ after

      gives_there : (d : M) → Gives of port m (machine_of machines d task) now →
          Gives of (pipe_of pipes p).from_port m (machine_of machines d (pipe_of pipes p).from)
          (machine_of (slice_set machines task now) d (pipe_of pipes p).from)
      gives_there d gives =
          subst (λ q. Gives of q m (machine_of machines d (pipe_of pipes p).from)
          (machine_of (slice_set machines task now) d (pipe_of pipes p).from)) (sym out_there.port_is)
          (subst (λ t. Gives of port m (machine_of machines d t) (machine_of (slice_set machines task now) d t))
          (sym out_there.task_is) (subst (Gives of port m (machine_of machines d task))
          (sym (moved_here of laws pipes machines queues net task known now d)) gives))

      others_out : (d : M) → Others (pipe_of pipes p).from (machine_of machines d)
          (machine_of (slice_set machines task now) d)
      others_out d = subst (λ t. Others t (machine_of machines d) (machine_of (slice_set machines task now) d))
          (sym out_there.task_is) (moved_there of laws pipes machines queues net task known now d)

      pub gave_moves : ((d : M) → of.wanted (machine_of machines d task) ≡ Give port) →
          ((d : M) → Gives of port m (machine_of machines d task) now) →
          IsMoveOf of pipes task machines queues (slice_set machines task now) (slice_set queues p queue)
      gave_moves wants gives = record {
        move = Gave p m;
        own = out_there.task_is;
        stands = λ h stand d.
            subst (λ n. NetStands of n pipes (machine_of (slice_set machines task now) d)
            (queued_in (slice_set queues p queue))
            (with_move h (Gave p m))) (sym (length-set machines task now))
            (gave_keeps of (length machines) pipes (machine_of machines d) (machine_of (slice_set machines task now) d)
            (queued_in queues) (queued_in (slice_set queues p queue)) h p m laws (net.graph d) out_there.known
            (queue_there of laws pipes machines queues net task known now p queue) after_is room (others_out d)
            (ap (λ t. of.wanted (machine_of machines d t)) out_there.task_is ∙ wants d ∙ ap Give
            (sym out_there.port_is))
            (gives_there d (gives d)) (stand d));
        follows = λ h reads stand readers. out_there.known;
        falls = λ outputs d few. gave_falls of outputs (length machines) pipes (machine_of machines d)
            (machine_of (slice_set machines task now) d) (queued_in queues) (queued_in (slice_set queues p queue)) p m
            (net.graph d) out_there.known (queue_there of laws pipes machines queues net task known now p queue)
            after_is (others_out d) (gives_there d (gives d));
      }

-- a machine that gave a message that its pipe didn't get is behind without it
pub lost_behind : {M : Type 0} (of : Meanings M) (laws : AreLawful of) (old now : M) (port : ℕ) (m : Message) →
    Gives of port m old now → (x y : Ports) (given : Given M) → StandsFor of old x y given → IsBehind of now x y given
lost_behind of laws old now port m gives x y given stood =
    behind_less of now x (added y port m) y given (λ q. added_prefix (q == port) (y q) m)
    (laws.behind now x (added y port m) given (gives.stands x y given stood))
  where
    added_prefix : (b : Bool) (ms : List Message) (m : Message) → IsPrefix ms (cond b (ms ++ m ∷ []) ms)
    added_prefix true ms m = prefix_append ms (m ∷ [])
    added_prefix false ms m = prefix_itself ms

-- ---- room

true_false : (b : Bool) → b ≡ true → b ≡ false → ⊥
true_false true is not = cc
true_false false is not = cc

pub room_is : (store : Store) (n : ℕ) → is_filled store n ≡ false → HasRoom store n
room_is (Bounded capacity) n is = elim (cases_lt n capacity) [
  | inl less ↦ less
  | inr not ↦ let full : nat_le capacity n ≡ true = le-leb capacity n (omega (arith, not)) in absurd
      (true_false (nat_le capacity n) full is)
]
room_is Spool n is = tt

-- ---- lists

-- an element that is at its place
pub element_is : {A : Type 0} (xs : List A) (place : ℕ) (x d : A) → place < length xs → x ≡ get_or xs place x →
    get_or xs place d ≡ x
element_is xs place x d below is = get_or_default xs place d x below ∙ sym is

-- a queue with the messages and the store of another is that one
queue_is : (a b : QueueValue) → a.messages ≡ b.messages → a.store ≡ b.store → a ≡ b
queue_is a b messages store = λ i. record { messages = messages i; store = store i }

-- a queue of which nothing was taken, put back in its place
pub put_back : (queues : List QueueValue) (p : ℕ) (q queue : QueueValue) → q ≡ get_or queues p q →
    (q.messages ≡ []) × (queue.messages ≡ []) → queue.store ≡ q.store → slice_set queues p queue ≡ queues
put_back queues p q queue is none store =
    ap (slice_set queues p) (queue_is queue q (none.1 ∙ sym none.0) store ∙ is) ∙ set-get_or queues p q
