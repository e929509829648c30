-- From lists to networks: what a step of one machine and one queue is to the whole network.
use Rattle.std.proofs.Common.{Bool, true, ◌≡◌, ℕ, ◌<◌, ◌≤◌, ◌+◌, ◌*◌, ◌-◌, inl, inr, List, length, get_or, slice_set, refl, sym, ap, subst, ◌∙◌}
use Rattle.std.proofs.lemmas.Bool.{cases_eq}
use Rattle.std.proofs.lemmas.List.{get_or-map, get_or-set_other, get_or-set_same, get_or_default, length-set}
use Rattle.osm_entity.specs.Machines.{IsSameTask, Meanings}
use Rattle.osm_entity.specs.declared.stream.Message.{Message}
use Rattle.osm_entity.specs.declared.stream.Want.TheVariants.{Pull}
use Rattle.osm_graph.specs.Pipes.{pipe_of}
use Rattle.osm_graph.specs.declared.pipe.Pipe.{Pipe}
use Rattle.osm_net.specs.Meaning.{sum_below}
use Rattle.osm_net.specs.Measure.{net_weight, step_weight}
use Rattle.osm_net.specs.Networks.{AreSameTasks, HasMoved, HasStopped, IsSameNet, left_in_net, machine_of, number_at_task, outputs_of_all, queued_in, reads_in}
use Rattle.osm_net.specs.Queues.{QueueValue}
use Rattle.osm_net.proofs.StepLemmas.{IsMoveOf, IsStopOf, ReadersAre, element_is, net_with}
use Rattle.osm_net.proofs.SumLemmas.{sum_same, sum_term}

-- ---- numbers of machines

number_at : {M : Type 0} (number : M → ℕ) (machines : List M) (t : ℕ) (d : M) → t < length machines →
    number_at_task number machines t ≡ number (machine_of machines d t)
number_at number machines t d known = get_or-map number machines t d 0 known

outputs_each : {M : Type 0} (of : Meanings M) (machines : List M) (t : ℕ) (d : M) → t < length machines →
    (of.task (machine_of machines d t)).outputs ≤ outputs_of_all of machines
outputs_each of machines t d known =
    subst (λ n. n ≤ outputs_of_all of machines) (number_at (λ m. (of.task m).outputs) machines t d known)
    (sum_term (number_at_task (λ m. (of.task m).outputs) machines) t (length machines) known)

outputs_same : {M : Type 0} (of : Meanings M) (old new : List M) (d : M) → AreSameTasks of old new →
    outputs_of_all of new ≡ outputs_of_all of old
outputs_same of old new d are =
    ap (sum_below (number_at_task (λ m. (of.task m).outputs) new)) are.count
    ∙ sum_same (number_at_task (λ m. (of.task m).outputs) new) (number_at_task (λ m. (of.task m).outputs) old)
    (length old)
    (λ t known. number_at (λ m. (of.task m).outputs) new t d (subst (λ n. t < n) (sym are.count) known)
    ∙ ap (λ task. task.outputs) (are.same t d known) ∙ sym (number_at (λ m. (of.task m).outputs) old t d known))

weight_alike : (b tasks : ℕ) (pipes : List Pipe) (f g : ℕ → ℕ) (queue : ℕ → List Message) →
    ((t : ℕ) → t < tasks → f t ≡ g t) → net_weight b tasks pipes f queue ≡ net_weight b tasks pipes g queue
weight_alike b tasks pipes f g queue same =
    let queued : ℕ = sum_below
    (λ p. length (queue p) * ((b + 1) * step_weight b (tasks - (pipe_of pipes p).to))) (length pipes) in
    ap (λ n. n + queued) (sum_same (λ t. f t * step_weight b (tasks - t)) (λ t. g t * step_weight b (tasks - t)) tasks
    (λ t known. ap (λ n. n * step_weight b (tasks - t)) (same t known)))

-- ---- a step of lists is one of the network

readers_in : {M : Type 0} (of : Meanings M) (reads : M → Bool) → ((m : M) → of.wanted m ≡ Pull → reads m ≡ true) →
    (machines : List M) (e : M) → ReadersAre of machines (reads_in reads machines e)
readers_in of reads readers machines e = λ t d known wants. readers (machine_of machines e t)
    (ap of.wanted (get_or_default machines t e d known) ∙ wants)

pub moved_net : {M : Type 0} (of : Meanings M) (reads : M → Bool) → ((m : M) → of.wanted m ≡ Pull → reads m ≡ true) →
    (pipes : List Pipe) (task : ℕ) (machines : List M) (queues : List QueueValue) (new_machines : List M)
    (new_queues : List QueueValue) (d : M) → AreSameTasks of machines new_machines →
    IsMoveOf of pipes task machines queues new_machines new_queues →
    HasMoved of reads task (net_with pipes machines queues) (net_with pipes new_machines new_queues)
moved_net of reads readers pipes task machines queues new_machines new_queues d are is = record {
  move = is.move;
  own = is.own;
  went = record {
    stands = is.stands;
    follow = λ h stand e. (is.follows h (reads_in reads machines e) stand (readers_in of reads readers machines e), tt);
  };
  falls =
      let b : ℕ = outputs_of_all of machines in
      let old : left_in_net of (net_with pipes machines queues)
      ≡ net_weight b (length machines) pipes (λ t. of.left (machine_of machines d t)) (queued_in queues) =
      weight_alike b (length machines) pipes (number_at_task of.left machines) (λ t. of.left (machine_of machines d t))
      (queued_in queues) (λ t known. number_at of.left machines t d known) in
      let new : left_in_net of (net_with pipes new_machines new_queues)
      ≡ net_weight b (length machines) pipes (λ t. of.left (machine_of new_machines d t)) (queued_in new_queues) =
      weight_alike (outputs_of_all of new_machines) (length new_machines) pipes (number_at_task of.left new_machines)
      (λ t. of.left (machine_of new_machines d t)) (queued_in new_queues)
      (λ t known. number_at of.left new_machines t d known)
      ∙ ap (λ n. net_weight n (length new_machines) pipes (λ t. of.left (machine_of new_machines d t))
      (queued_in new_queues)) (outputs_same of machines new_machines d are)
      ∙ ap (λ n. net_weight b n pipes (λ t. of.left (machine_of new_machines d t)) (queued_in new_queues)) are.count in
      subst (λ n. n < left_in_net of (net_with pipes machines queues)) (sym new)
      (subst (λ n. net_weight b (length machines) pipes (λ t. of.left (machine_of new_machines d t))
      (queued_in new_queues) < n) (sym old) (is.falls b d (λ t known. outputs_each of machines t d known)));
}

pub stopped_net : {M : Type 0} (of : Meanings M) (reads : M → Bool) → ((m : M) → of.wanted m ≡ Pull → reads m ≡ true) →
    (pipes : List Pipe) (machines : List M) (queues : List QueueValue) (new_machines : List M)
    (new_queues : List QueueValue) → IsStopOf of pipes machines queues new_machines →
    HasStopped of reads (net_with pipes machines queues) (net_with pipes new_machines new_queues)
stopped_net of reads readers pipes machines queues new_machines new_queues is = record {
  moves = is.moves;
  behind = is.behind;
  follow = λ h stand e. is.follow h (reads_in reads machines e) stand (readers_in of reads readers machines e);
}

-- ---- what one machine keeps, all keep where it alone changed

kept_at : {M A : Type 0} (f : M → A) (machines : List M) (task : ℕ) (x now : M) → task < length machines →
    x ≡ get_or machines task x → f now ≡ f x → (t : ℕ) (d : M) →
    f (machine_of (slice_set machines task now) d t) ≡ f (machine_of machines d t)
kept_at f machines task x now known value same t d = elim (cases_eq t task) [
  | inl is ↦ ap (λ k. f (machine_of (slice_set machines task now) d k)) is
      ∙ ap f (get_or-set_same machines task now d known) ∙ same
      ∙ ap f (sym (element_is machines task x d known value)) ∙ ap (λ k. f (machine_of machines d k)) (sym is)
  | inr not ↦ ap f (get_or-set_other machines task t now d not)
]

pub same_tasks : {M : Type 0} (of : Meanings M) (machines : List M) (task : ℕ) (x now : M) → task < length machines →
    x ≡ get_or machines task x → IsSameTask of x now → AreSameTasks of machines (slice_set machines task now)
same_tasks of machines task x now known value same = record {
  count = length-set machines task now;
  same = λ t d there. kept_at of.task machines task x now known value same t d;
}

pub same_net : {M N : Type 0} (of : Meanings M) (names : M → N) (pipes : List Pipe) (machines : List M)
    (queues new_queues : List QueueValue) (task : ℕ) (x now : M) → task < length machines →
    x ≡ get_or machines task x → IsSameTask of x now → names now ≡ names x →
    IsSameNet of names (net_with pipes machines queues) (net_with pipes (slice_set machines task now) new_queues)
same_net of names pipes machines queues new_queues task x now known value same named = record {
  pipes = refl;
  tasks = same_tasks of machines task x now known value same;
  named = λ t d there. kept_at names machines task x now known value named t d;
}
