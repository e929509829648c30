-- Machines that don't move: a run that was out of memory before it began, and one of no task.
use Rattle.std.proofs.Common.{◌≡◌, ℕ, zero, suc, ◌<◌, ◌==◌, List, [], ◌∷◌, length, get_or, true, false, refl, sym, ap, subst, arith}
use Rattle.osm_entity.specs.Machines.{AreLawful, Meanings}
use Rattle.osm_graph.specs.declared.pipe.Pipe.{Pipe}
use Rattle.osm_net.specs.Histories.{new_history}
use Rattle.osm_net.specs.Nets.{AreStanding}
use Rattle.osm_net.specs.Runs.{AreNewMachines, AreRun}
use Rattle.osm_net.proofs.MoveLemmas.{new_stands}
use Rattle.osm_net.proofs.RunLemmas.{ended_run, standing_behind, stopped_run}
use Rattle.osm_threads.specs.Meetings.{AreApart}
use Rattle.osm_threads.specs.declared.starts.Start.{Start}
use Rattle.osm_threads.proofs.ReadyLemmas.{apart_by}

-- the first of some machines
pub first_of : {M : Type 0} (starts : List (Start M)) → 0 < length starts → M
first_of [] some = absurd (omega (arith, some))
first_of (start ∷ starts) some = start.job.machine

-- a number that isn't 0
pub some_by : (n : ℕ) → n == 0 ≡ false → 0 < n
some_by zero is = absurd cc
some_by (suc n) is = omega arith

first_machine : {M : Type 0} (machines : List M) → 0 < length machines → M
first_machine [] some = absurd (omega (arith, some))
first_machine (m ∷ machines) some = m

-- the pipes of new machines are apart
pub apart_new : {M : Type 0} (of : Meanings M) (pipes : List Pipe) (machines : List M) (count : ℕ) →
    AreNewMachines of pipes machines → count ≡ length machines → 0 < length machines → AreApart pipes count
apart_new of pipes machines count new is some =
    let d = first_machine machines some in
    subst (AreApart pipes) (sym is)
    (apart_by (length machines) (λ t. (of.task (get_or machines t d)).inputs)
    (λ t. (of.task (get_or machines t d)).outputs) pipes (new d).graph)

module _ {M : Type 0} (of : Meanings M) (laws : AreLawful of) (pipes : List Pipe) (machines : List M)
    (new : AreNewMachines of pipes machines) where
  standing : (d : M) → AreStanding of (length machines) pipes (λ t. get_or machines t d)
      (new_history (λ t. get_or machines t d))
  standing d = (new_stands of (length machines) pipes (λ t. get_or machines t d) (new d)).machines

  -- new machines that don't move, out of memory
  pub new_run : AreRun of pipes machines machines true
  new_run = record {
    count = refl;
    same = λ t d known. refl;
    history = λ d. new_history (λ t. get_or machines t d);
    made = λ t d known. refl;
    run = λ d. stopped_run of laws (length machines) pipes (λ t. get_or machines t d) (new d).graph
        (new_history (λ t. get_or machines t d))
        (standing_behind of laws (length machines) pipes (λ t. get_or machines t d) (new d).graph
        (new_history (λ t. get_or machines t d)) (standing d));
  }

  -- no machine: all have ended
  pub none_run : machines ≡ [] → AreRun of pipes machines machines false
  none_run none = record {
    count = refl;
    same = λ t d known. refl;
    history = λ d. new_history (λ t. get_or machines t d);
    made = λ t d known. refl;
    run = λ d. ended_run of laws (length machines) pipes (λ t. get_or machines t d) (new d).graph
        (new_history (λ t. get_or machines t d)) (standing d)
        (λ t known. absurd (let long = ap length none in omega (arith, known, long)));
  }
