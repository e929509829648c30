-- What kinds of tasks mean: they read a file, write one, or see only their inputs.
use Rattle.std.proofs.Common.{◌≡◌, ℕ, List, [], ◌∷◌, length, take, Bool, true, false, refl, sym, ap, subst}
use Rattle.std.specs.Prelude.{Option}
use Rattle.std.proofs.lemmas.List.{length-replicate}
use Rattle.osm_area.specs.declared.area.Area.{Area}
use Rattle.osm_area.specs.declared.area.Area.TheVariants.{Box}
use Rattle.osm_entity.specs.Meaning.{finish_read}
use Rattle.osm_entity.specs.Readings.{stream_read}
use Rattle.osm_entity.specs.Streams.{Stream}
use Rattle.osm_entity.specs.Tasks.{TaskMeaning}
use Rattle.osm_entity.specs.declared.kind.Flow.TheVariants.{Entities, Changes}
use Rattle.osm_entity.specs.declared.kind.Kind.TheVariants.{Node, Way}
use Rattle.osm_change.specs.Changes.{laid_over}
use Rattle.osm_change.specs.Simplified.{stream_simplified}
use Rattle.osm_filter.specs.Filters.{filtered}
use Rattle.osm_merge.specs.Choices.{chosen_by}
use Rattle.osm_sort.specs.Sorted.{stream_sorted}
use Rattle.osm_tasks.specs.Kinds.{inputs_of, outputs_of}
use Rattle.osm_tasks.specs.declared.kind.TaskKind.{TaskKind}
use Rattle.osm_tasks.specs.declared.kind.TaskKind.TheVariants.{ReadPbf, ReadOpl, ReadOplChange, ReadEmpty, ReadMade, WritePbf, WriteOpl, WriteOplChange, WriteNull, WriteSummary, Merge, MergeChange, AppendChange, ApplyChange, SimplifyChange, Tee, Buffer, Spool, BoundingBox, BoundingPolygon, TagFilter, UsedNode, UsedWay, Sort, SortChange}
use Rattle.osm_used.specs.Used.{used_only}
use Rattle.osm_machine.specs.ReadingFormats.{Format, OplFile, PbfFile, format_reading, limited_reading, reader_task}
use Rattle.osm_machine.specs.TaskMeanings.{area_or_none, kind_meaning, options_of}
use Rattle.osm_machine.specs.Written.{FileForm, OplForm, PbfForm, SummaryForm, writer_task}
use Rattle.osm_run.specs.Commands.{kind_files}
use Rattle.osm_run.specs.Course.{source_limit}
use Rattle.osm_run.specs.Plan.{Sink, Source}
use Rattle.osm_run.proofs.FormatLemmas.{take_twice}
use Rattle.osm_run.proofs.SeesLemmas.{SeesInputs, append_sees, area_sees, copying_sees, dropping_sees, empty_sees, made_sees, merge_sees, rule_sees}

-- ---- kinds

-- a kind reads a file, writes one, or sees only its inputs; what it reads or writes is all that it has open
pub data SortOfKind (kind : TaskKind) (area : Option Area) : Type 0 where
  Reads : (format : Format) → (name : List ℕ) → kind_files kind ≡ Source name ∷ [] →
      kind_meaning kind area ≡ reader_task format source_limit → SortOfKind kind area
  Writes : (form : FileForm) → (name : List ℕ) → kind_files kind ≡ Sink name ∷ [] →
      kind_meaning kind area ≡ writer_task form → SortOfKind kind area
  Sees : kind_files kind ≡ [] → SeesInputs (kind_meaning kind area) → SortOfKind kind area

-- ---- tasks that see only their inputs
-- ---- every kind

pub sort_of_kind : (kind : TaskKind) (area : Option Area) → SortOfKind kind area
sort_of_kind (ReadPbf file) area = Reads PbfFile file refl refl
sort_of_kind (ReadOpl file) area = Reads (OplFile Entities) file refl refl
sort_of_kind (ReadOplChange file) area = Reads (OplFile Changes) file refl refl
sort_of_kind ReadEmpty area = Sees refl empty_sees
sort_of_kind (ReadMade count seed) area = Sees refl (made_sees count seed)
sort_of_kind (WritePbf file batchlimit usedense omitmetadata granularity) area =
    Writes (PbfForm (options_of batchlimit usedense omitmetadata granularity)) file refl refl
sort_of_kind (WriteOpl file) area = Writes OplForm file refl refl
sort_of_kind (WriteOplChange file) area = Writes OplForm file refl refl
sort_of_kind WriteNull area = Sees refl dropping_sees
sort_of_kind (WriteSummary file) area = Writes SummaryForm file refl refl
sort_of_kind (Merge resolution) area = Sees refl (merge_sees (chosen_by resolution))
sort_of_kind (MergeChange resolution) area = Sees refl (merge_sees (chosen_by resolution))
sort_of_kind AppendChange area = Sees refl append_sees
sort_of_kind ApplyChange area = Sees refl (merge_sees laid_over)
sort_of_kind SimplifyChange area = Sees refl (rule_sees true stream_simplified (λ s. refl))
sort_of_kind (Tee flow outputs) area = Sees refl (copying_sees outputs)
sort_of_kind (Buffer flow capacity) area = Sees refl (copying_sees 1)
sort_of_kind (Spool flow) area = Sees refl (copying_sees 1)
sort_of_kind (BoundingBox left right top bottom options) area =
    Sees refl (area_sees (Box left right top bottom) options)
sort_of_kind (BoundingPolygon file options) area = Sees refl (area_sees (area_or_none area) options)
sort_of_kind (TagFilter accept kind tests) area =
    Sees refl (rule_sees false (filtered (record { accept = accept; kind = kind; tests = tests })) (λ s. refl))
sort_of_kind UsedNode area = Sees refl (rule_sees true (used_only Node) (λ s. refl))
sort_of_kind UsedWay area = Sees refl (rule_sees true (used_only Way) (λ s. refl))
sort_of_kind Sort area = Sees refl (rule_sees true stream_sorted (λ s. refl))
sort_of_kind SortChange area = Sees refl (rule_sees true stream_sorted (λ s. refl))

-- a task makes the same of bytes and of more of them
unfoldable pub SameOf : (bytes more : List ℕ) → (came end : Bool) → (ℕ → Stream) → TaskMeaning → Type 0
SameOf bytes more came end f task =
    ((port : ℕ) → task.gives more end f port ≡ task.gives bytes came f port)
    × (task.finish more end f ≡ task.finish bytes came f)

pub reader_same : (format : Format) (limit : ℕ) (bytes more : List ℕ) (came end : Bool) (f : ℕ → Stream) →
    limited_reading format limit more end ≡ limited_reading format limit bytes came →
    SameOf bytes more came end f (reader_task format limit)
unfolding SameOf
reader_same format limit bytes more came end f same =
    (λ port. ap stream_read same, ap (λ r. finish_read r.ending) same)

-- a kind makes the same of bytes and of those of them that it reads
cut_by : (kind : TaskKind) (area : Option Area) (bytes : List ℕ) (came : Bool) (f : ℕ → Stream) → SortOfKind kind area →
    SameOf bytes (take source_limit bytes) came came f (kind_meaning kind area)
unfolding SameOf
cut_by kind area bytes came f (Reads format name files meant) =
    subst (SameOf bytes (take source_limit bytes) came came f) (sym meant)
    (reader_same format source_limit bytes (take source_limit bytes) came came f
    (ap (λ b. format_reading format b came) (take_twice source_limit bytes)))
cut_by kind area bytes came f (Writes form name files meant) =
    subst (SameOf bytes (take source_limit bytes) came came f) (sym meant) (λ port. refl, refl)
cut_by kind area bytes came f (Sees idle sees) = (
  λ port. sees.gives (take source_limit bytes) bytes came came f port,
  sees.finish (take source_limit bytes) bytes came came f,
)

pub same_cut : (kind : TaskKind) (area : Option Area) (bytes : List ℕ) (came : Bool) (f : ℕ → Stream) →
    SameOf bytes (take source_limit bytes) came came f (kind_meaning kind area)
same_cut kind area bytes came f = cut_by kind area bytes came f (sort_of_kind kind area)

-- ---- ports

pub inputs_meant : (kind : TaskKind) (area : Option Area) → (kind_meaning kind area).inputs ≡ length (inputs_of kind)
inputs_meant (ReadPbf file) area = refl
inputs_meant (ReadOpl file) area = refl
inputs_meant (ReadOplChange file) area = refl
inputs_meant ReadEmpty area = refl
inputs_meant (ReadMade count seed) area = refl
inputs_meant (WritePbf file batchlimit usedense omitmetadata granularity) area = refl
inputs_meant (WriteOpl file) area = refl
inputs_meant (WriteOplChange file) area = refl
inputs_meant WriteNull area = refl
inputs_meant (WriteSummary file) area = refl
inputs_meant (Merge resolution) area = refl
inputs_meant (MergeChange resolution) area = refl
inputs_meant AppendChange area = refl
inputs_meant ApplyChange area = refl
inputs_meant SimplifyChange area = refl
inputs_meant (Tee Entities outputs) area = refl
inputs_meant (Tee Changes outputs) area = refl
inputs_meant (Buffer Entities capacity) area = refl
inputs_meant (Buffer Changes capacity) area = refl
inputs_meant (Spool Entities) area = refl
inputs_meant (Spool Changes) area = refl
inputs_meant (BoundingBox left right top bottom options) area = refl
inputs_meant (BoundingPolygon file options) area = refl
inputs_meant (TagFilter accept kind tests) area = refl
inputs_meant UsedNode area = refl
inputs_meant UsedWay area = refl
inputs_meant Sort area = refl
inputs_meant SortChange area = refl

pub outputs_meant : (kind : TaskKind) (area : Option Area) → (kind_meaning kind area).outputs ≡ length (outputs_of kind)
outputs_meant (ReadPbf file) area = refl
outputs_meant (ReadOpl file) area = refl
outputs_meant (ReadOplChange file) area = refl
outputs_meant ReadEmpty area = refl
outputs_meant (ReadMade count seed) area = refl
outputs_meant (WritePbf file batchlimit usedense omitmetadata granularity) area = refl
outputs_meant (WriteOpl file) area = refl
outputs_meant (WriteOplChange file) area = refl
outputs_meant WriteNull area = refl
outputs_meant (WriteSummary file) area = refl
outputs_meant (Merge resolution) area = refl
outputs_meant (MergeChange resolution) area = refl
outputs_meant AppendChange area = refl
outputs_meant ApplyChange area = refl
outputs_meant SimplifyChange area = refl
outputs_meant (Tee Entities outputs) area = sym (length-replicate outputs Entities)
outputs_meant (Tee Changes outputs) area = sym (length-replicate outputs Changes)
outputs_meant (Buffer Entities capacity) area = refl
outputs_meant (Buffer Changes capacity) area = refl
outputs_meant (Spool Entities) area = refl
outputs_meant (Spool Changes) area = refl
outputs_meant (BoundingBox left right top bottom options) area = refl
outputs_meant (BoundingPolygon file options) area = refl
outputs_meant (TagFilter accept kind tests) area = refl
outputs_meant UsedNode area = refl
outputs_meant UsedWay area = refl
outputs_meant Sort area = refl
outputs_meant SortChange area = refl
