-- Starts whose pipes were all made are ready, and joined as their graph says.
use Rattle.std.proofs.Common.{◌≡◌, ℕ, ◌<◌, List, [], length, get_or, Option, Some, None, refl, sym, ap, subst, ◌∙◌, arith}
use Rattle.std.specs.Prelude.{All, IsSome}
use Rattle.std.proofs.Math.Path.{fun_ext}
use Rattle.std.proofs.lemmas.List.{get_or-map, length-map}
use Rattle.osm_entity.specs.Machines.{IsNew, Meanings}
use Rattle.osm_entity.specs.Ports.{no_messages}
use Rattle.osm_graph.specs.Pipes.{IsWholeGraph, pipe_into, pipe_of, pipe_out}
use Rattle.osm_graph.specs.declared.pipe.Pipe.{Pipe}
use Rattle.osm_net.specs.Runs.{AreNewMachines}
use Rattle.osm_net.proofs.MeaningLemmas.{into_is, out_is}
use Rattle.osm_net.proofs.RunLemmas.{from_known}
use Rattle.osm_threads.specs.Meetings.{AreApart}
use Rattle.osm_threads.specs.Ports.{HavePipes, PortHalf, messages_at, passed_at, pipe_at}
use Rattle.osm_threads.specs.Rows.{AreJoined, AreMade, half_at, inlets_of, outlets_of}
use Rattle.osm_threads.specs.Running.{machines_started, ports_started}
use Rattle.osm_threads.specs.Starts.{HasNewGate, IsReadyStart}
use Rattle.osm_threads.specs.declared.ports.TaskPorts.{TaskPorts}
use Rattle.osm_threads.specs.declared.starts.Start.{Start}

-- the pipes of a graph are apart
pub apart_by : (tasks : ℕ) (inputs outputs : ℕ → ℕ) (pipes : List Pipe) → IsWholeGraph tasks inputs outputs pipes →
    AreApart pipes tasks
apart_by tasks inputs outputs pipes graph = record {
  from = from_known tasks inputs outputs pipes graph;
  to = graph.known;
  out = graph.alone_out;
  into = graph.alone_into;
}

pub some_there : {A : Type 0} (o : Option A) → IsSome o → (x : A) × (o ≡ Some x)
some_there None there = cc
some_there (Some x) there = (x, refl)

module _ (pipes : List Pipe) (tasks : ℕ) (apart : AreApart pipes tasks) (ins outs : List (List PortHalf))
    (made : AreMade pipes (length pipes) ins outs) where
  -- pipes that were all made are joined as the graph says
  pub joined_by : AreJoined pipes ins outs
  joined_by = record {
    joined = λ p known. let new = made.made p known in record {
      pipe = new.pipe;
      gives = ap pipe_at new.gives;
      takes = ap pipe_at new.takes;
    };
    no_inlet = λ task port none. made.no_inlet task port (λ p known here there.
        let found : pipe_into pipes task port ≡ Some p = ap (λ t. pipe_into pipes t port) here
        ∙ ap (pipe_into pipes (pipe_of pipes p).to) there ∙ apart.into p known in cc);
    no_outlet = λ task port none. made.no_outlet task port (λ p known here there.
        let found : pipe_out pipes task port ≡ Some p = ap (λ t. pipe_out pipes t port) here
        ∙ ap (pipe_out pipes (pipe_of pipes p).from) there ∙ apart.out p known in cc);
  }

  inlet_bare : (task port : ℕ) (o : Option ℕ) → pipe_into pipes task port ≡ o → passed_at (half_at ins task port) ≡ []
  inlet_bare task port None is = ap passed_at (joined_by.no_inlet task port is)
  inlet_bare task port (Some p) is =
      let at = into_is pipes task port p is in
      ap (λ t. passed_at (half_at ins t port)) (sym at.task_is)
      ∙ ap (λ q. passed_at (half_at ins (pipe_of pipes p).to q)) (sym at.port_is)
      ∙ ap passed_at (made.made p at.known).takes

  outlet_bare : (task port : ℕ) (o : Option ℕ) → pipe_out pipes task port ≡ o → passed_at (half_at outs task port) ≡ []
  outlet_bare task port None is = ap passed_at (joined_by.no_outlet task port is)
  outlet_bare task port (Some p) is =
      let at = out_is pipes task port p is in
      ap (λ t. passed_at (half_at outs t port)) (sym at.task_is)
      ∙ ap (λ q. passed_at (half_at outs (pipe_of pipes p).from q)) (sym at.port_is)
      ∙ ap passed_at (made.made p at.known).gives

  -- nothing has passed
  pub nothing_in : (task : ℕ) → messages_at (get_or ins task []) ≡ no_messages
  nothing_in task = fun_ext (λ port. inlet_bare task port (pipe_into pipes task port) refl)

  pub nothing_out : (task : ℕ) → messages_at (get_or outs task []) ≡ no_messages
  nothing_out task = fun_ext (λ port. outlet_bare task port (pipe_out pipes task port) refl)

  -- each port that has a pipe in the graph has one
  pub inlets_wired : (task count : ℕ) → ((port : ℕ) → port < count → IsSome (pipe_into pipes task port)) →
      HavePipes count (get_or ins task [])
  inlets_wired task count has port known =
      let there = some_there (pipe_into pipes task port) (has port known) in
      let at = into_is pipes task port there.0 there.1 in
      subst (λ (h : PortHalf). IsSome (pipe_at h))
      (ap (λ t. half_at ins t (pipe_of pipes there.0).to_port) at.task_is ∙ ap (half_at ins task) at.port_is)
      (subst (λ (h : PortHalf). IsSome (pipe_at h)) (sym (made.made there.0 at.known).takes) refl)

  pub outlets_wired : (task count : ℕ) → ((port : ℕ) → port < count → IsSome (pipe_out pipes task port)) →
      HavePipes count (get_or outs task [])
  outlets_wired task count has port known =
      let there = some_there (pipe_out pipes task port) (has port known) in
      let at = out_is pipes task port there.0 there.1 in
      subst (λ (h : PortHalf). IsSome (pipe_at h))
      (ap (λ t. half_at outs t (pipe_of pipes there.0).from_port) at.task_is ∙ ap (half_at outs task) at.port_is)
      (subst (λ (h : PortHalf). IsSome (pipe_at h)) (sym (made.made there.0 at.known).gives) refl)

module _ {M : Type 0} (of : Meanings M) (pipes : List Pipe) (starts : List (Start M)) where
  inlets_row : (k : ℕ) (d : Start M) → k < length starts →
      get_or (inlets_of (ports_started starts)) k [] ≡ (get_or starts k d).job.ports.inlets.items
  inlets_row k d known =
      get_or-map (λ (p : TaskPorts). p.inlets.items) (ports_started starts) k d.job.ports []
      (let long = length-map starts (λ (s : Start M). s.job.ports) in omega (arith, long, known))
      ∙ ap (λ (p : TaskPorts). p.inlets.items) (get_or-map (λ (s : Start M). s.job.ports) starts k d d.job.ports known)

  outlets_row : (k : ℕ) (d : Start M) → k < length starts →
      get_or (outlets_of (ports_started starts)) k [] ≡ (get_or starts k d).job.ports.outlets.items
  outlets_row k d known =
      get_or-map (λ (p : TaskPorts). p.outlets.items) (ports_started starts) k d.job.ports []
      (let long = length-map starts (λ (s : Start M). s.job.ports) in omega (arith, long, known))
      ∙ ap (λ (p : TaskPorts). p.outlets.items) (get_or-map (λ (s : Start M). s.job.ports) starts k d d.job.ports known)

  -- new machines over pipes that were all made, behind new gates, are ready to start
  pub all_ready : (tasks : ℕ) → AreApart pipes tasks → AreNewMachines of pipes (machines_started starts) →
      AreMade pipes (length pipes) (inlets_of (ports_started starts)) (outlets_of (ports_started starts)) →
      All HasNewGate starts → All (IsReadyStart of) starts
  all_ready tasks apart new made gates k d known =
      let ins : List (List PortHalf) = inlets_of (ports_started starts) in
      let outs : List (List PortHalf) = outlets_of (ports_started starts) in
      let start : Start M = get_or starts k d in
      let is : get_or (machines_started starts) k d.job.machine ≡ start.job.machine =
      get_or-map (λ (s : Start M). s.job.machine) starts k d d.job.machine known in
      let there : k < length (machines_started starts) =
      let long = length-map starts (λ (s : Start M). s.job.machine) in omega (arith, long, known) in
      let are = new d.job.machine in
      record {
        job = record {
          new = subst (IsNew of) is (are.new k there);
          wired = record {
            inputs = subst (λ row. HavePipes (of.task start.job.machine).inputs row) (inlets_row k d known)
                (inlets_wired pipes tasks apart ins outs made k (of.task start.job.machine).inputs
                (subst (λ m. (port : ℕ) → port < (of.task m).inputs → IsSome (pipe_into pipes k port)) is
                (λ port. are.graph.into k port there)));
            outputs = subst (λ row. HavePipes (of.task start.job.machine).outputs row) (outlets_row k d known)
                (outlets_wired pipes tasks apart ins outs made k (of.task start.job.machine).outputs
                (subst (λ m. (port : ℕ) → port < (of.task m).outputs → IsSome (pipe_out pipes k port)) is
                (λ port. are.graph.out k port there)));
          };
          nothing_taken = ap messages_at (sym (inlets_row k d known)) ∙ nothing_in pipes tasks apart ins outs made k;
          nothing_given = ap messages_at (sym (outlets_row k d known)) ∙ nothing_out pipes tasks apart ins outs made k;
          gate = (gates k d known).taker;
        };
        gate = gates k d known;
      }

  -- the same by the machines and ports of which the starts were made
  pub lined_ready : (machines : List M) (tasks : List TaskPorts) → machines_started starts ≡ machines →
      ports_started starts ≡ tasks → AreApart pipes (length machines) → AreNewMachines of pipes machines →
      AreMade pipes (length pipes) (inlets_of tasks) (outlets_of tasks) → All HasNewGate starts →
      All (IsReadyStart of) starts
  lined_ready machines tasks are over apart new made gates =
      all_ready (length machines) apart (subst (AreNewMachines of pipes) (sym are) new)
      (subst (λ (ts : List TaskPorts). AreMade pipes (length pipes) (inlets_of ts) (outlets_of ts)) (sym over) made) gates

  pub lined_joined : (count : ℕ) (tasks : List TaskPorts) → ports_started starts ≡ tasks → AreApart pipes count →
      AreMade pipes (length pipes) (inlets_of tasks) (outlets_of tasks) →
      AreJoined pipes (inlets_of (ports_started starts)) (outlets_of (ports_started starts))
  lined_joined count tasks over apart made =
      joined_by pipes count apart (inlets_of (ports_started starts)) (outlets_of (ports_started starts))
      (subst (λ (ts : List TaskPorts). AreMade pipes (length pipes) (inlets_of ts) (outlets_of ts)) (sym over) made)

  pub lined_count : (machines : List M) → machines_started starts ≡ machines → length starts ≡ length machines
  lined_count machines are = sym (length-map starts (λ (s : Start M). s.job.machine)) ∙ ap length are
