-- A machine that is made of a kind of task is new, means what the kind says, and has its devices.
use Rattle.std.proofs.Common.{◌≡◌, [], Bool, true, false, Option, Some, None, refl, sym, ap, subst, ◌∙◌}
use Rattle.std.specs.Option.{option_map}
use Rattle.osm_area.specs.declared.area.Area.{Area}
use Rattle.osm_entity.specs.Machines.{IsNew, Meanings}
use Rattle.osm_entity.specs.OneInput.{meanings_of}
use Rattle.osm_entity.specs.Tasks.{TaskMeaning}
use Rattle.osm_entity.specs.declared.options.AreaOptions.{AreaOptions}
use Rattle.osm_select.specs.Kinds.{area_finish}
use Rattle.osm_select.specs.Selected.{area_holds, area_selected}
use Rattle.osm_select.specs.Selecting.{selecting}
use Rattle.osm_select.specs.declared.task.Course.{Course}
use Rattle.osm_tasks.specs.Kinds.{writes_file}
use Rattle.osm_tasks.specs.declared.kind.TaskKind.{TaskKind}
use Rattle.osm_machine.specs.Devices.{SourceSeen}
use Rattle.osm_machine.specs.MachineDevices.{sink_of, source_of}
use Rattle.osm_machine.specs.MachineKinds.{machines}
use Rattle.osm_machine.specs.Sinks.{SinkSeen}
use Rattle.osm_machine.specs.TaskMeanings.{IsGivenWhere, IsMachine, IsMachineOf, area_task, kind_meaning, reads_file}
use Rattle.osm_machine.specs.declared.kind.MachineKind.{MachineKind}
use Rattle.osm_machine.proofs.SumLemmas.{IsPart, part_is_new}

-- where there is no file no device is given
none_given : {T V : Type 0} (P : T → Type 0) (given : Bool) (device : Option T) (seen : T → V) → given ≡ false →
    IsGivenWhere given device P → None ≡ option_map seen device
none_given P true device seen none is = absurd cc
none_given P false None seen none is = refl
none_given P false (Some device) seen none is = absurd is

module _ {S K I O : Type 0} (kind known : TaskKind) (is : kind ≡ known) (area : Option Area) (source : Option I) (source_seen : I → SourceSeen)
    (sink : Option O) (sink_seen : O → SinkSeen) (Q : I → Type 0) (R : O → Type 0) where
  -- a part without devices
  pub made_without : {P : Type 0} (of : Meanings P) (all : P → MachineKind S K) → IsPart of machines all → (p : P)
      (task : TaskMeaning) →
      reads_file known ≡ false → writes_file known ≡ false → IsGivenWhere (reads_file kind) source Q →
      IsGivenWhere (writes_file kind) sink R →
      source_of (all p) ≡ None → sink_of (all p) ≡ None → IsNew of p → of.task p ≡ task → kind_meaning known area ≡ task →
      IsMachineOf kind area (option_map source_seen source) (option_map sink_seen sink) (all p)
  made_without of all part p task reads writes source_given sink_given source_none sink_none new is_task meant = record {
    new = part_is_new of machines all part p new;
    task_is = part.task p ∙ is_task ∙ sym (ap (λ k. kind_meaning k area) is ∙ meant);
    source_is = source_none ∙ none_given Q (reads_file known) source source_seen reads
        (subst (λ k. IsGivenWhere (reads_file k) source Q) is source_given);
    sink_is = sink_none ∙ none_given R (writes_file known) sink sink_seen writes
        (subst (λ k. IsGivenWhere (writes_file k) sink R) is sink_given);
  }

module _ {S K I O : Type 0} (kind known : TaskKind) (is : kind ≡ known) (area : Option Area) (source : Option I) (source_seen : I → SourceSeen)
    (sink : Option O) (sink_seen : O → SinkSeen) (Q : I → Type 0) where
  -- a machine that writes
  pub made_writer : (m : MachineKind S K) (task : TaskMeaning) → reads_file known ≡ false →
      IsGivenWhere (reads_file kind) source Q → kind_meaning known area ≡ task → IsMachine task None (option_map sink_seen sink) m →
      IsMachineOf kind area (option_map source_seen source) (option_map sink_seen sink) m
  made_writer m task reads source_given meant made = record {
    new = made.new;
    task_is = made.task_is ∙ sym (ap (λ k. kind_meaning k area) is ∙ meant);
    source_is = made.source_is ∙ none_given Q (reads_file known) source source_seen reads
        (subst (λ k. IsGivenWhere (reads_file k) source Q) is source_given);
    sink_is = made.sink_is;
  }

-- a machine of an area task is of that task, by its rule
pub area_machine : (area : Area) (options : AreaOptions) (course : Course) →
    selecting.rule course ≡ area_selected area options → selecting.holds course ≡ area_holds options →
    (meanings_of selecting).task course ≡ area_task area options
area_machine area options course rule holds = λ i. record {
  inputs = 1;
  outputs = 1;
  limit = 0;
  gives = λ bytes came f port. rule i (f 0);
  text = λ f. [];
  finish = λ bytes came f. area_finish (f 0);
  turn = λ x port. true;
  holds = holds i;
}
