-- The tables of a network have the pipe at each port that its tasks want.
use Rattle.std.proofs.Common.{◌≡◌, ℕ, zero, suc, ◌<◌, ◌+◌, inl, inr, List, [], ◌∷◌, ◌++◌, length, get_or, Option, Some, None, refl, sym, ap, subst, ◌∙◌, arith, length-append}
use Rattle.std.specs.Prelude.{IsSome, slice_get}
use Rattle.std.proofs.lemmas.Bool.{cases_lt}
use Rattle.std.proofs.lemmas.Option.{slice_get_past}
use Rattle.osm_entity.specs.Machines.{AreLawful, MayGive, MayTake, MayWant, Meanings}
use Rattle.osm_entity.specs.declared.stream.Want.TheVariants.{Give, Take}
use Rattle.osm_graph.specs.Pipes.{pipe_into, pipe_out}
use Rattle.osm_graph.specs.declared.pipe.Pipe.{Pipe}
use Rattle.osm_net.specs.Histories.{gave_by, took_by}
use Rattle.osm_net.specs.Networks.{IsNet, NetValue, StandsForSome, machine_of}
use Rattle.osm_net.specs.PortTables.{AgreesWith, AreTables, AreTaskPipes, TaskPipesValue, no_task_pipes}
use Rattle.osm_net.proofs.StepLemmas.{element_is}

-- ---- a table that has all of its ports

none_some : (o : Option ℕ) → o ≡ None → IsSome o → ⊥
none_some None is some = cc
none_some (Some p) is some = cc

table_has : (find : ℕ → Option ℕ) (table : List ℕ) (ports port : ℕ) → AgreesWith find table →
    ((q : ℕ) → q < ports → IsSome (find q)) → port < ports → slice_get table port ≡ find port
table_has find table ports port agrees all known = elim (cases_lt (length table) port) [
  | inl past ↦ absurd (none_some (find (length table)) (sym (agrees (length table) (omega arith))
      ∙ slice_get_past table (length table) (omega arith)) (all (length table) (omega (arith, past, known))))
  | inr within ↦ agrees port within
]

module _ {M : Type 0} (of : Meanings M) (laws : AreLawful of) (n : NetValue M) (net : IsNet of n)
    (some : StandsForSome of n) (task : ℕ) (known : task < length n.machines) (x : M)
    (value : x ≡ get_or n.machines task x) (port : ℕ) (tables : TaskPipesValue)
    (are : AreTaskPipes n.pipes task tables) where
  it_is : machine_of n.machines x task ≡ x
  it_is = sym value

  may_take : of.wanted x ≡ Take port → port < (of.task (machine_of n.machines x task)).inputs
  may_take wants =
      let may : MayTake of (machine_of n.machines x task) (took_by n.pipes (some x).0 task)
      (gave_by n.pipes (some x).0 task)
      ((some x).0.given task) port =
      subst (MayWant of (machine_of n.machines x task) (took_by n.pipes (some x).0 task)
      (gave_by n.pipes (some x).0 task)
      ((some x).0.given task)) (ap of.wanted it_is ∙ wants)
      (laws.wants (machine_of n.machines x task) (took_by n.pipes (some x).0 task) (gave_by n.pipes (some x).0 task)
      ((some x).0.given task) (((some x).1 x).machines.stand task known)) in
      may.its_own

  may_give : of.wanted x ≡ Give port → port < (of.task (machine_of n.machines x task)).outputs
  may_give wants =
      let may : MayGive of (machine_of n.machines x task) (took_by n.pipes (some x).0 task)
      (gave_by n.pipes (some x).0 task)
      port =
      subst (MayWant of (machine_of n.machines x task) (took_by n.pipes (some x).0 task)
      (gave_by n.pipes (some x).0 task)
      ((some x).0.given task)) (ap of.wanted it_is ∙ wants)
      (laws.wants (machine_of n.machines x task) (took_by n.pipes (some x).0 task) (gave_by n.pipes (some x).0 task)
      ((some x).0.given task) (((some x).1 x).machines.stand task known)) in
      may.its_own

  pub input_is : of.wanted x ≡ Take port → slice_get tables.inputs port ≡ pipe_into n.pipes task port
  input_is wants = table_has (pipe_into n.pipes task) tables.inputs (of.task (machine_of n.machines x task)).inputs port
      are.into (λ q there. (net.graph x).into task q known there) (may_take wants)

  pub output_is : of.wanted x ≡ Give port → slice_get tables.outputs port ≡ pipe_out n.pipes task port
  output_is wants = table_has (pipe_out n.pipes task) tables.outputs (of.task (machine_of n.machines x task)).outputs
      port
      are.out (λ q there. (net.graph x).out task q known there) (may_give wants)

  pub input_there : of.wanted x ≡ Take port → slice_get tables.inputs port ≡ None → ⊥
  input_there wants none = none_some (pipe_into n.pipes task port) (sym (input_is wants) ∙ none)
      ((net.graph x).into task port known (may_take wants))

  pub output_there : of.wanted x ≡ Give port → slice_get tables.outputs port ≡ None → ⊥
  output_there wants none = none_some (pipe_out n.pipes task port) (sym (output_is wants) ∙ none)
      ((net.graph x).out task port known (may_give wants))

-- ---- tables that are made

-- a table with the next port
pub table_more : (find : ℕ → Option ℕ) (table : List ℕ) (p : ℕ) →
    ((port : ℕ) → port < length table → slice_get table port ≡ find port) → find (length table) ≡ Some p →
    (port : ℕ) → port < length table + 1 → slice_get (table ++ p ∷ []) port ≡ find port
table_more find [] p so_far is zero known = sym is
table_more find [] p so_far is (suc port) known = absurd (omega (arith, known))
table_more find (x ∷ table) p so_far is zero known = so_far zero (omega arith)
table_more find (x ∷ table) p so_far is (suc port) known =
    table_more (λ q. find (suc q)) table p (λ q there. so_far (suc q) (omega (arith, there))) is port
    (omega (arith, known))

-- a table up to the first port without a pipe
pub table_whole : (find : ℕ → Option ℕ) (table : List ℕ) →
    ((port : ℕ) → port < length table → slice_get table port ≡ find port) → find (length table) ≡ None →
    AgreesWith find table
table_whole find table so_far is port within = elim (cases_lt port (length table)) [
  | inl known ↦ so_far port known
  | inr past ↦
      let at : port ≡ length table = omega (arith, within, past) in
      slice_get_past table port past ∙ sym (ap find at ∙ is)
]

-- tables with those of the next task
pub tables_more : (pipes : List Pipe) (tasks : ℕ) (tables : List TaskPipesValue) (more : TaskPipesValue) →
    AreTables pipes tasks tables → AreTaskPipes pipes tasks more → AreTables pipes (tasks + 1) (tables ++ more ∷ [])
tables_more pipes tasks tables more are is = record {
  count = omega (arith, are.count, length-append tables (more ∷ []));
  each = λ t known. elim (cases_lt t tasks) [
    | inl less ↦ subst (AreTaskPipes pipes t) (sym (get_or-front tables more t (omega (arith, less, are.count))))
        (are.each t less)
    | inr past ↦
        let at : t ≡ tasks = omega (arith, known, past) in
        subst (λ k. AreTaskPipes pipes k (get_or (tables ++ more ∷ []) k no_task_pipes)) (sym at)
        (subst (λ k. AreTaskPipes pipes tasks (get_or (tables ++ more ∷ []) k no_task_pipes)) are.count
        (subst (AreTaskPipes pipes tasks) (sym (get_or-last tables more)) is))
  ];
}
  where
    get_or-front : (xs : List TaskPipesValue) (y : TaskPipesValue) (t : ℕ) → t < length xs →
        get_or (xs ++ y ∷ []) t no_task_pipes ≡ get_or xs t no_task_pipes
    get_or-front [] y t less = absurd (omega (arith, less))
    get_or-front (x ∷ xs) y zero less = refl
    get_or-front (x ∷ xs) y (suc t) less = get_or-front xs y t (omega (arith, less))

    get_or-last : (xs : List TaskPipesValue) (y : TaskPipesValue) →
        get_or (xs ++ y ∷ []) (length xs) no_task_pipes ≡ y
    get_or-last [] y = refl
    get_or-last (x ∷ xs) y = get_or-last xs y

-- the tables of a task, read from its place
pub tables_at : (pipes : List Pipe) (tasks : ℕ) (tables : List TaskPipesValue) (t : ℕ) (at : TaskPipesValue) →
    AreTables pipes tasks tables → t < tasks → at ≡ get_or tables t at → AreTaskPipes pipes t at
tables_at pipes tasks tables t at are known is = subst (AreTaskPipes pipes t)
    (element_is tables t at no_task_pipes (subst (λ n. t < n) (sym are.count) known) is) (are.each t known)
