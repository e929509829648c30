-- From what is back and has met to what a run promises.
use Rattle.std.proofs.Common.{◌≡◌, ℕ, ◌<◌, List, [], ◌∷◌, ◌++◌, length, get_or, take, Bool, true, false, not, Option, Some, None, refl, sym, ap, subst, ◌∙◌, arith}
use Rattle.std.specs.List.{AllZip}
use Rattle.std.proofs.Math.Path.{fun_ext}
use Rattle.std.proofs.lemmas.List.{length-append, length-map}
use Rattle.osm_entity.specs.Machines.{AreLawful, Given, IsBehind, Meanings, StandsFor}
use Rattle.osm_entity.specs.Ports.{Ports}
use Rattle.osm_entity.specs.Prefixes.{IsPrefix}
use Rattle.osm_entity.specs.Tasks.{TaskMeaning}
use Rattle.osm_entity.specs.declared.stream.Message.{Message}
use Rattle.osm_graph.specs.Pipes.{IsWholeGraph, pipe_into, pipe_of, pipe_out}
use Rattle.osm_graph.specs.declared.pipe.Pipe.{Pipe}
use Rattle.osm_net.specs.Histories.{gave_by, messages_taken, took_by}
use Rattle.osm_net.specs.Meaning.{at_pipe}
use Rattle.osm_net.specs.Nets.{AreBehind, AreStanding, IsGraphOf, IsOrderly}
use Rattle.osm_net.specs.Runs.{AreNewMachines, AreRun, IsRunOf}
use Rattle.osm_net.proofs.MeaningLemmas.{into_is, out_is}
use Rattle.osm_net.proofs.RunLemmas.{ended_run, from_known, stopped_run}
use Rattle.osm_pipe.specs.Pipes.{HalfValue, PipeId}
use Rattle.osm_threads.specs.Meetings.{AreApart, MayAllMeet}
use Rattle.osm_threads.specs.Ports.{PortHalf, is_shut, messages_at, passed_at, pipe_at}
use Rattle.osm_threads.specs.Rows.{AreJoined, HaveMet, giving_end, half_at, inlets_of, outlets_of, taking_end}
use Rattle.osm_threads.specs.Running.{are_whole, history_told, machines_back, machines_started, ports_back, ports_started}
use Rattle.osm_threads.specs.Starts.{IsBackOf}
use Rattle.osm_threads.specs.declared.ports.TaskPorts.{TaskPorts}
use Rattle.osm_threads.specs.declared.starts.Back.{Back}
use Rattle.osm_threads.specs.declared.starts.Start.{Start}
use Rattle.osm_threads.proofs.ReadyLemmas.{apart_by}
use Rattle.osm_threads.proofs.BackLemmas.{count_back, given_back, inlets_back, is_at, outlets_back, same_back}

-- ---- the history that the halves tell

prefix_taken : (front whole : List Message) → IsPrefix front whole → take (length front) whole ≡ front
prefix_taken front whole prefix = ap (take (length front)) prefix.joined ∙ take_front front prefix.rest where
  take_front : (front rest : List Message) → take (length front) (front ++ rest) ≡ front
  take_front [] rest = refl
  take_front (m ∷ more) rest = ap (λ ms. m ∷ ms) (take_front more rest)

module _ {M : Type 0} (of : Meanings M) (tasks : ℕ) (pipes : List Pipe) (machine : ℕ → M)
    (ins outs : List (List PortHalf)) (given : ℕ → Given M) (joined : AreJoined pipes ins outs)
    (met : HaveMet pipes (length pipes) ins outs) where
  took_at : (task port : ℕ) (o : Option ℕ) → pipe_into pipes task port ≡ o →
      at_pipe [] (messages_taken (history_told pipes ins outs given)) o ≡ passed_at (half_at ins task port)
  took_at task port None is = sym (ap passed_at (joined.no_inlet task port is))
  took_at task port (Some p) is =
      let at = into_is pipes task port p is in
      prefix_taken (passed_at (taking_end ins pipes p)) (passed_at (giving_end outs pipes p)) (met p at.known).prefix
      ∙ ap (λ t. passed_at (half_at ins t (pipe_of pipes p).to_port)) at.task_is
      ∙ ap (λ q. passed_at (half_at ins task q)) at.port_is

  gave_at : (task port : ℕ) (o : Option ℕ) → pipe_out pipes task port ≡ o →
      at_pipe [] (λ p. passed_at (giving_end outs pipes p)) o ≡ passed_at (half_at outs task port)
  gave_at task port None is = sym (ap passed_at (joined.no_outlet task port is))
  gave_at task port (Some p) is =
      let at = out_is pipes task port p is in
      ap (λ t. passed_at (half_at outs t (pipe_of pipes p).from_port)) at.task_is
      ∙ ap (λ q. passed_at (half_at outs task q)) at.port_is

  -- what the history says that a task took is what passed its inputs
  took_here : (t : ℕ) → took_by pipes (history_told pipes ins outs given) t ≡ messages_at (get_or ins t [])
  took_here t = fun_ext (λ port. took_at t port (pipe_into pipes t port) refl)

  gave_here : (t : ℕ) → gave_by pipes (history_told pipes ins outs given) t ≡ messages_at (get_or outs t [])
  gave_here t = fun_ext (λ port. gave_at t port (pipe_out pipes t port) refl)

  order_told : IsOrderly pipes (history_told pipes ins outs given)
  order_told = record {
    within = λ p known.
        let front : List Message = passed_at (taking_end ins pipes p) in
        let prefix = (met p known).prefix in
        let long = ap length prefix.joined ∙ length-append front prefix.rest in omega (arith, long);
    ends = λ p known. (met p known).last;
  }

  pub behind_told : ((t : ℕ) → t < tasks →
      IsBehind of (machine t) (messages_at (get_or ins t [])) (messages_at (get_or outs t [])) (given t)) →
      AreBehind of tasks pipes machine (history_told pipes ins outs given)
  behind_told are = record {
    order = order_told;
    behind = λ t known.
        subst (λ (x : Ports). IsBehind of (machine t) x (gave_by pipes (history_told pipes ins outs given) t) (given t))
        (sym (took_here t))
        (subst (λ (y : Ports). IsBehind of (machine t) (messages_at (get_or ins t [])) y (given t)) (sym (gave_here t))
        (are t known));
  }

  pub standing_told : ((t : ℕ) → t < tasks →
      StandsFor of (machine t) (messages_at (get_or ins t [])) (messages_at (get_or outs t [])) (given t)) →
      AreStanding of tasks pipes machine (history_told pipes ins outs given)
  standing_told are = record {
    order = order_told;
    stand = λ t known.
        subst (λ (x : Ports). StandsFor of (machine t) x (gave_by pipes (history_told pipes ins outs given) t) (given t))
        (sym (took_here t))
        (subst (λ (y : Ports). StandsFor of (machine t) (messages_at (get_or ins t [])) y (given t)) (sym (gave_here t))
        (are t known));
  }

-- ---- the run

none_by_pipe : (port other : PortHalf) → pipe_at port ≡ pipe_at other → other ≡ None → port ≡ None
none_by_pipe None other same none = refl
none_by_pipe (Some h) None same none = cc
none_by_pipe (Some h) (Some k) same none = cc

half_by_pipe : (port : PortHalf) (pipe : PipeId) → pipe_at port ≡ Some pipe →
    (h : HalfValue) × (port ≡ Some h) × (h.pipe ≡ pipe)
half_by_pipe None pipe is = cc
half_by_pipe (Some h) pipe is = (h, refl, cc)

-- a graph of other numbers of ports that agree at its tasks
regraph : (tasks : ℕ) (i o i' o' : ℕ → ℕ) (pipes : List Pipe) → ((t : ℕ) → t < tasks → i' t ≡ i t) →
    ((t : ℕ) → t < tasks → o' t ≡ o t) → IsWholeGraph tasks i o pipes → IsWholeGraph tasks i' o' pipes
regraph tasks i o i' o' pipes ins outs graph = record {
  forward = graph.forward;
  known = graph.known;
  from_port = λ p known.
      let less = graph.from_port p known in
      let same = outs (pipe_of pipes p).from (from_known tasks i o pipes graph p known) in omega (arith, less, same);
  to_port = λ p known.
      let less = graph.to_port p known in
      let same = ins (pipe_of pipes p).to (graph.known p known) in omega (arith, less, same);
  alone_out = graph.alone_out;
  alone_into = graph.alone_into;
  into = λ t port known less. let same = ins t known in graph.into t port known (omega (arith, less, same));
  out = λ t port known less. let same = outs t known in graph.out t port known (omega (arith, less, same));
}

module _ {M N : Type 0} (of : Meanings M) (laws : AreLawful of) (names : M → N) (pipes : List Pipe)
    (starts : List (Start M)) (backs : List (Back M)) (pairs : AllZip (IsBackOf of names true) starts backs)
    (new : AreNewMachines of pipes (machines_started starts))
    (joined : AreJoined pipes (inlets_of (ports_started starts)) (outlets_of (ports_started starts))) where
  -- the machines that are back are of the same graph
  graph_back : (d : M) → IsGraphOf of (length (machines_started starts)) (λ t. get_or (machines_back backs) t d) pipes
  graph_back d = regraph (length (machines_started starts))
      (λ t. (of.task (get_or (machines_started starts) t d)).inputs)
      (λ t. (of.task (get_or (machines_started starts) t d)).outputs)
      (λ t. (of.task (get_or (machines_back backs) t d)).inputs)
      (λ t. (of.task (get_or (machines_back backs) t d)).outputs) pipes
      (λ t known. ap (λ (m : TaskMeaning). m.inputs) (same_back of names true starts backs t d pairs))
      (λ t known. ap (λ (m : TaskMeaning). m.outputs) (same_back of names true starts backs t d pairs))
      (new d).graph

  -- the ports that are back are joined as they were
  joined_back : AreJoined pipes (inlets_of (ports_back backs)) (outlets_of (ports_back backs))
  joined_back = record {
    joined = λ p known. let one = joined.joined p known in record {
      pipe = one.pipe;
      gives = outlets_back of names true starts backs (pipe_of pipes p).from (pipe_of pipes p).from_port pairs
          ∙ one.gives;
      takes = inlets_back of names true starts backs (pipe_of pipes p).to (pipe_of pipes p).to_port pairs ∙ one.takes;
    };
    no_inlet = λ task port none. none_by_pipe (half_at (inlets_of (ports_back backs)) task port)
        (half_at (inlets_of (ports_started starts)) task port) (inlets_back of names true starts backs task port pairs)
        (joined.no_inlet task port none);
    no_outlet = λ task port none. none_by_pipe (half_at (outlets_of (ports_back backs)) task port)
        (half_at (outlets_of (ports_started starts)) task port) (outlets_back of names true starts backs task port pairs)
        (joined.no_outlet task port none);
  }

  -- the two halves of each pipe may meet
  pub may_meet : M → MayAllMeet pipes (inlets_of (ports_back backs)) (outlets_of (ports_back backs))
  may_meet d p known =
      let ins : List (List PortHalf) = inlets_of (ports_back backs) in
      let outs : List (List PortHalf) = outlets_of (ports_back backs) in
      let one = joined_back.joined p known in
      let graph = graph_back d in
      let sent : (h : HalfValue) × (giving_end outs pipes p ≡ Some h) × (h.pipe ≡ one.pipe) =
      half_by_pipe (giving_end outs pipes p) one.pipe one.gives in
      let taken : (h : HalfValue) × (taking_end ins pipes p ≡ Some h) × (h.pipe ≡ one.pipe) =
      half_by_pipe (taking_end ins pipes p) one.pipe one.takes in
      let from : (pipe_of pipes p).from < length (machines_started starts) =
      let ahead = graph.forward p known in let there = graph.known p known in omega (arith, ahead, there) in
      record {
        sent = sent.0;
        taken = taken.0;
        gives = sent.1;
        takes = taken.1;
        one = sent.2 ∙ sym taken.2;
        closed = sym (ap is_shut sent.1)
            ∙ (is_at of names d starts backs pairs (pipe_of pipes p).from from).closed (pipe_of pipes p).from_port
            (graph.from_port p known);
      }

  run_by : (d : M) (whole : Bool) → are_whole backs ≡ whole →
      HaveMet pipes (length pipes) (inlets_of (ports_back backs)) (outlets_of (ports_back backs)) →
      IsRunOf of (length (machines_started starts)) pipes (λ t. get_or (machines_back backs) t d) (not whole)
      (history_told pipes (inlets_of (ports_back backs)) (outlets_of (ports_back backs))
      (given_back of names d starts backs pairs))
  run_by d false is met =
      let ins : List (List PortHalf) = inlets_of (ports_back backs) in
      let outs : List (List PortHalf) = outlets_of (ports_back backs) in
      let given : ℕ → Given M = given_back of names d starts backs pairs in
      let machine : ℕ → M = λ t. get_or (machines_back backs) t d in
      let tasks : ℕ = length (machines_started starts) in
      stopped_run of laws tasks pipes machine (graph_back d) (history_told pipes ins outs given)
      (behind_told of tasks pipes machine ins outs given joined_back met
      (λ t known. (is_at of names d starts backs pairs t known).behind))
  run_by d true is met =
      let ins : List (List PortHalf) = inlets_of (ports_back backs) in
      let outs : List (List PortHalf) = outlets_of (ports_back backs) in
      let given : ℕ → Given M = given_back of names d starts backs pairs in
      let machine : ℕ → M = λ t. get_or (machines_back backs) t d in
      let tasks : ℕ = length (machines_started starts) in
      ended_run of laws tasks pipes machine (graph_back d) (history_told pipes ins outs given)
      (standing_told of tasks pipes machine ins outs given joined_back met
      (λ t known. (is_at of names d starts backs pairs t known).stands is))
      (λ t known. (is_at of names d starts backs pairs t known).ended is)

  -- all are back and all have met: a run
  pub met_run : HaveMet pipes (length pipes) (inlets_of (ports_back backs)) (outlets_of (ports_back backs)) →
      AreRun of pipes (machines_started starts) (machines_back backs) (not (are_whole backs))
  met_run met = record {
    count = count_back of names true starts backs pairs;
    same = λ t d known. same_back of names true starts backs t d pairs;
    history = λ d. history_told pipes (inlets_of (ports_back backs)) (outlets_of (ports_back backs))
        (given_back of names d starts backs pairs);
    made = λ t d known. (is_at of names d starts backs pairs t known).made_is;
    run = λ d. run_by d (are_whole backs) refl met;
  }

  ports_count : length (ports_back backs) ≡ length (machines_started starts)
  ports_count = length-map backs (λ (b : Back M). b.ports) ∙ sym (length-map backs (λ (b : Back M). b.machine))
      ∙ count_back of names true starts backs pairs

  -- the same for the ports and the machines by themselves
  pub apart_back : (d : M) (tasks : List TaskPorts) (count : ℕ) → count ≡ length tasks → tasks ≡ ports_back backs →
      AreApart pipes count
  apart_back d tasks count is are = subst (AreApart pipes) (sym (is ∙ ap length are ∙ ports_count))
      (apart_by (length (machines_started starts)) (λ t. (of.task (get_or (machines_back backs) t d)).inputs)
      (λ t. (of.task (get_or (machines_back backs) t d)).outputs) pipes (graph_back d))

  pub may_meet_of : (d : M) (tasks : List TaskPorts) → tasks ≡ ports_back backs →
      MayAllMeet pipes (inlets_of tasks) (outlets_of tasks)
  may_meet_of d tasks are = subst (λ (ts : List TaskPorts). MayAllMeet pipes (inlets_of ts) (outlets_of ts)) (sym are)
      (may_meet d)

  pub settled : (tasks : List TaskPorts) (machines : List M) (memory : Bool) → tasks ≡ ports_back backs →
      machines ≡ machines_back backs → memory ≡ not (are_whole backs) →
      HaveMet pipes (length pipes) (inlets_of tasks) (outlets_of tasks) →
      AreRun of pipes (machines_started starts) machines memory
  settled tasks machines memory are back wanted met =
      subst (λ ms. AreRun of pipes (machines_started starts) ms memory) (sym back)
      (subst (AreRun of pipes (machines_started starts) (machines_back backs)) (sym wanted)
      (met_run (subst (λ (ts : List TaskPorts). HaveMet pipes (length pipes) (inlets_of ts) (outlets_of ts)) are met)))
