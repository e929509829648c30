-- What each kind of task means, and what its machine is made of.
-- Here a kind is its row of the catalogue with its options; the code makes a machine of each.
use Prim.Native.Nat.{suc-le-suc, zero-le}
use Rattle.std.specs.Prelude.{◌≡◌, ℕ, ◌^◌, min, max, List, [], Bool, true, false, Option, Some, None, ⊤}
use Rattle.std.proofs.Math.Nat.{le-max_left, max-le, min-le_left}
use Rattle.osm_area.specs.declared.area.Area.{Area}
use Rattle.osm_area.specs.declared.area.Area.TheVariants.{Box, Rings}
use Rattle.osm_entity.specs.Machines.{IsNew}
use Rattle.osm_entity.specs.Meaning.{Finish, finish_after}
use Rattle.osm_entity.specs.Streams.{Stream}
use Rattle.osm_entity.specs.Tasks.{TaskMeaning}
use Rattle.osm_entity.specs.declared.kind.Flow.TheVariants.{Entities, Changes}
use Rattle.osm_entity.specs.declared.kind.Kind.TheVariants.{Node, Way}
use Rattle.osm_entity.specs.declared.options.AreaOptions.{AreaOptions}
use Rattle.osm_entity.specs.declared.stream.Message.{Message}
use Rattle.osm_block_write.specs.declared.options.PbfOptions.{PbfOptions}
use Rattle.osm_change.specs.Changes.{laid_over}
use Rattle.osm_change.specs.Simplified.{stream_simplified}
use Rattle.osm_filter.specs.Filters.{filtered}
use Rattle.osm_merge.specs.Append.{appended, appending, finish_appended}
use Rattle.osm_merge.specs.Choices.{chosen_by}
use Rattle.osm_merge.specs.Heads.{merge_turn}
use Rattle.osm_merge.specs.Rules.{Choice, finish_merged, merged}
use Rattle.osm_select.specs.Kinds.{area_finish}
use Rattle.osm_select.specs.Selected.{area_holds, area_selected}
use Rattle.osm_sort.specs.Sorted.{stream_sorted}
use Rattle.osm_tasks.specs.declared.kind.TaskKind.{TaskKind}
use Rattle.osm_tasks.specs.declared.kind.TaskKind.TheVariants.{ReadPbf, ReadOpl, ReadOplChange, ReadEmpty, ReadMade, WritePbf, WriteOpl, WriteOplChange, WriteNull, WriteSummary, Merge, MergeChange, AppendChange, ApplyChange, SimplifyChange, Tee, Buffer, Spool, BoundingBox, BoundingPolygon, TagFilter, UsedNode, UsedWay, Sort, SortChange}
use Rattle.osm_used.specs.Used.{used_only}
use Rattle.osm_machine.specs.Copying.{copying_task}
use Rattle.osm_machine.specs.Devices.{SourceSeen}
use Rattle.osm_machine.specs.Emptying.{dropping_task, empty_task}
use Rattle.osm_machine.specs.MachineDevices.{sink_of, source_of}
use Rattle.osm_machine.specs.MachineKinds.{machines}
use Rattle.osm_machine.specs.Making.{made_task}
use Rattle.osm_machine.specs.ReadingFormats.{OplFile, PbfFile, reader_task}
use Rattle.osm_machine.specs.Sinks.{SinkSeen}
use Rattle.osm_machine.specs.Written.{OplForm, PbfForm, SummaryForm, writer_task}
use Rattle.osm_machine.specs.declared.kind.MachineKind.{MachineKind}

-- the bytes of a source that are read, 2^40; what comes past them is too much
abbrev pub reading_limit : ℕ
reading_limit = 2 ^ 40

-- the task of one input and one output that gives its rule; it may hold all until its input has ended
abbrev pub rule_task : Bool → (Stream → Stream) → TaskMeaning
rule_task holds rule = record {
  inputs = 1;
  outputs = 1;
  limit = 0;
  gives = λ bytes came f port. rule (f 0);
  text = λ f. [];
  finish = λ bytes came f. finish_after (f 0).end;
  turn = λ x port. true;
  holds = holds;
}

-- the task of two inputs and one output that gives its rule, ends so, and takes in turn
abbrev pub two_task : (Stream → Stream → Stream) → (Stream → Stream → Finish) →
    (List Message → List Message → ℕ → Bool) → TaskMeaning
two_task rule finish turn = record {
  inputs = 2;
  outputs = 1;
  limit = 0;
  gives = λ bytes came f port. rule (f 0) (f 1);
  text = λ f. [];
  finish = λ bytes came f. finish (f 0) (f 1);
  turn = λ x port. turn (x 0) (x 1) port;
  holds = false;
}

-- the task that merges its inputs, and chooses so where both have a key
abbrev pub merge_task : Choice → TaskMeaning
merge_task choose = two_task (merged choose) finish_merged merge_turn

-- the number of a range that is nearest to a number
abbrev pub nearest : (least most n : ℕ) → ℕ
nearest least most n = max least (min most n)

-- the options of a PBF file that are these, each number the nearest one of its range
abbrev pub options_of : ℕ → Bool → Bool → ℕ → PbfOptions
options_of batchlimit usedense omitmetadata granularity = record {
  batchlimit = nearest 1 32000 batchlimit;
  usedense = usedense;
  omitmetadata = omitmetadata;
  granularity = nearest 1 1000000 granularity;
  some = le-max_left 1 (min 32000 batchlimit);
  few = max-le (suc-le-suc zero-le) (min-le_left 32000 batchlimit);
  fine = le-max_left 1 (min 1000000 granularity);
  coarse = max-le (suc-le-suc zero-le) (min-le_left 1000000 granularity);
}

-- the task that keeps what an area chooses by these options
abbrev pub area_task : Area → AreaOptions → TaskMeaning
area_task area options = record {
  inputs = 1;
  outputs = 1;
  limit = 0;
  gives = λ bytes came f port. area_selected area options (f 0);
  text = λ f. [];
  finish = λ bytes came f. area_finish (f 0);
  turn = λ x port. true;
  holds = area_holds options;
}

-- the area that is given, or one that holds no place
abbrev pub area_or_none : Option Area → Area
area_or_none None = Rings []
area_or_none (Some area) = area

-- what a kind of task means, with the area of its file where it has one of an area
abbrev pub kind_meaning : TaskKind → Option Area → TaskMeaning
kind_meaning (ReadPbf file) area = reader_task PbfFile reading_limit
kind_meaning (ReadOpl file) area = reader_task (OplFile Entities) reading_limit
kind_meaning (ReadOplChange file) area = reader_task (OplFile Changes) reading_limit
kind_meaning ReadEmpty area = empty_task
kind_meaning (ReadMade count seed) area = made_task count seed
kind_meaning (WritePbf file batchlimit usedense omitmetadata granularity) area =
    writer_task (PbfForm (options_of batchlimit usedense omitmetadata granularity))
kind_meaning (WriteOpl file) area = writer_task OplForm
kind_meaning (WriteOplChange file) area = writer_task OplForm
kind_meaning WriteNull area = dropping_task
kind_meaning (WriteSummary file) area = writer_task SummaryForm
kind_meaning (Merge resolution) area = merge_task (chosen_by resolution)
kind_meaning (MergeChange resolution) area = merge_task (chosen_by resolution)
kind_meaning AppendChange area = two_task appended finish_appended appending.turn
kind_meaning ApplyChange area = merge_task laid_over
kind_meaning SimplifyChange area = rule_task true stream_simplified
kind_meaning (Tee flow outputs) area = copying_task outputs
kind_meaning (Buffer flow capacity) area = copying_task 1
kind_meaning (Spool flow) area = copying_task 1
kind_meaning (TagFilter accept kind tests) area =
    rule_task false (filtered (record { accept = accept; kind = kind; tests = tests }))
kind_meaning UsedNode area = rule_task true (used_only Node)
kind_meaning UsedWay area = rule_task true (used_only Way)
kind_meaning Sort area = rule_task true stream_sorted
kind_meaning SortChange area = rule_task true stream_sorted
kind_meaning (BoundingBox left right top bottom options) area = area_task (Box left right top bottom) options
kind_meaning (BoundingPolygon file options) area = area_task (area_or_none area) options

-- a kind that has its area from a file, which is read before it runs
abbrev pub reads_area : TaskKind → Bool
reads_area (BoundingPolygon file options) = true
reads_area kind = false

-- a kind that reads its file while it runs
abbrev pub reads_file : TaskKind → Bool
reads_file (ReadPbf file) = true
reads_file (ReadOpl file) = true
reads_file (ReadOplChange file) = true
reads_file kind = false

-- a device, or an area, is given exactly where there is a file for it, and is as it has to be
abbrev pub IsGivenWhere : {T : Type 0} → Bool → Option T → (T → Type 0) → Type 0
IsGivenWhere true None P = ⊥
IsGivenWhere true (Some device) P = P device
IsGivenWhere false None P = ⊤
IsGivenWhere false (Some device) P = ⊥

-- a machine is new, of this task, and has these devices
pub record IsMachine {S K : Type 0} (task : TaskMeaning) (source : Option SourceSeen) (sink : Option SinkSeen)
    (m : MachineKind S K) : Type 0 where
  pub new : IsNew machines m
  pub task_is : machines.task m ≡ task
  pub source_is : source_of m ≡ source
  pub sink_is : sink_of m ≡ sink

-- a machine of a kind of task is new, its task is what the kind means with this area, and it has these devices
abbrev pub IsMachineOf : {S K : Type 0} → TaskKind → Option Area → Option SourceSeen → Option SinkSeen →
    MachineKind S K → Type 0
IsMachineOf kind area source sink m = IsMachine (kind_meaning kind area) source sink m
