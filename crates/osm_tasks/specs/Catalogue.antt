-- The catalogue of tasks: a row for each, with its names, the streams that it takes and gives, and its options.
-- Here each task is one row; the code looks up each column by itself.
use Rattle.std.specs.Prelude.{ℕ, List, [], ◌∷◌, Option, Some, None, codes}
use Rattle.osm_entity.specs.declared.kind.Flow.{Flow}
use Rattle.osm_entity.specs.declared.kind.Flow.TheVariants.{Entities, Changes}
use Rattle.osm_tasks.specs.declared.naming.TaskName.{TaskName}
use Rattle.osm_tasks.specs.declared.naming.TaskName.TheVariants.{ReadPbf, ReadOpl, ReadOplChange, ReadEmpty, ReadMade, WritePbf, WriteOpl, WriteOplChange, WriteNull, WriteSummary, Merge, MergeChange, AppendChange, ApplyChange, SimplifyChange, Tee, TeeChange, Buffer, BufferChange, Spool, SpoolChange, BoundingBox, BoundingPolygon, TagFilter, UsedNode, UsedWay, Sort, SortChange}
use Rattle.osm_tasks.specs.declared.naming.OptionName.{OptionName}
use Rattle.osm_tasks.specs.declared.naming.OptionName.TheVariants.{File, Count, Seed, Batchlimit, Usedense, Omitmetadata, Compress, Granularity, ConflictResolutionMethod, OutputCount, BufferCapacity, Left, Right, Top, Bottom, CompleteWays, CascadingRelations, ClipIncompleteEntities, Mode, IdTrackerType, SortType}

-- a row of the catalogue: a task's name, its short name or its name again, what it takes, what it gives, its options
pub record TaskRow : Type 0 where
  pub name : List ℕ
  pub short : List ℕ
  pub inputs : List Flow
  pub output : Option Flow
  pub options : List OptionName

-- the row of a task whose short name differs
abbrev pub row_with_short : List ℕ → List ℕ → List Flow → Option Flow → List OptionName → TaskRow
row_with_short name short inputs output options =
    record { name = name; short = short; inputs = inputs; output = output; options = options }

-- the row of a task without a short name: its name stands for it
abbrev pub row_without_short : List ℕ → List Flow → Option Flow → List OptionName → TaskRow
row_without_short name inputs output options = row_with_short name name inputs output options

-- one entity stream
abbrev pub one_entities : List Flow
one_entities = Entities ∷ []

-- one change stream
abbrev pub one_changes : List Flow
one_changes = Changes ∷ []

-- two entity streams
abbrev pub two_entities : List Flow
two_entities = Entities ∷ Entities ∷ []

-- two change streams
abbrev pub two_changes : List Flow
two_changes = Changes ∷ Changes ∷ []

-- the options of the two area tasks, beside what the area is
abbrev pub area_options : List OptionName
area_options = CompleteWays ∷ CascadingRelations ∷ ClipIncompleteEntities ∷ []

-- the options of write-pbf
abbrev pub pbf_options : List OptionName
pbf_options = File ∷ Batchlimit ∷ Usedense ∷ Omitmetadata ∷ Compress ∷ Granularity ∷ []

-- the row of a task
abbrev pub task_row : TaskName → TaskRow
task_row ReadPbf = row_with_short (codes "read-pbf") (codes "rb") [] (Some Entities) (File ∷ [])
task_row ReadOpl = row_without_short (codes "read-opl") [] (Some Entities) (File ∷ [])
task_row ReadOplChange = row_without_short (codes "read-opl-change") [] (Some Changes) (File ∷ [])
task_row ReadEmpty = row_with_short (codes "read-empty") (codes "rem") [] (Some Entities) []
task_row ReadMade = row_without_short (codes "read-made") [] (Some Entities) (Count ∷ Seed ∷ [])
task_row WritePbf = row_with_short (codes "write-pbf") (codes "wb") one_entities None pbf_options
task_row WriteOpl = row_without_short (codes "write-opl") one_entities None (File ∷ [])
task_row WriteOplChange = row_without_short (codes "write-opl-change") one_changes None (File ∷ [])
task_row WriteNull = row_with_short (codes "write-null") (codes "wn") one_entities None []
task_row WriteSummary = row_without_short (codes "write-summary") one_entities None (File ∷ [])
task_row Merge =
    row_with_short (codes "merge") (codes "m") two_entities (Some Entities) (ConflictResolutionMethod ∷ [])
task_row MergeChange =
    row_with_short (codes "merge-change") (codes "mc") two_changes (Some Changes) (ConflictResolutionMethod ∷ [])
task_row AppendChange = row_with_short (codes "append-change") (codes "apc") two_changes (Some Changes) []
task_row ApplyChange = row_with_short (codes "apply-change") (codes "ac") (Entities ∷ Changes ∷ []) (Some Entities) []
task_row SimplifyChange = row_with_short (codes "simplify-change") (codes "simc") one_changes (Some Changes) []
task_row Tee = row_with_short (codes "tee") (codes "t") one_entities (Some Entities) (OutputCount ∷ [])
task_row TeeChange = row_with_short (codes "tee-change") (codes "tc") one_changes (Some Changes) (OutputCount ∷ [])
task_row Buffer = row_with_short (codes "buffer") (codes "b") one_entities (Some Entities) (BufferCapacity ∷ [])
task_row BufferChange =
    row_with_short (codes "buffer-change") (codes "bc") one_changes (Some Changes) (BufferCapacity ∷ [])
task_row Spool = row_without_short (codes "spool") one_entities (Some Entities) []
task_row SpoolChange = row_without_short (codes "spool-change") one_changes (Some Changes) []
task_row BoundingBox =
    row_with_short (codes "bounding-box") (codes "bb") one_entities (Some Entities)
    (Left ∷ Right ∷ Top ∷ Bottom ∷ area_options)
task_row BoundingPolygon =
    row_with_short (codes "bounding-polygon") (codes "bp") one_entities (Some Entities) (File ∷ area_options)
task_row TagFilter = row_with_short (codes "tag-filter") (codes "tf") one_entities (Some Entities) (Mode ∷ [])
task_row UsedNode = row_with_short (codes "used-node") (codes "un") one_entities (Some Entities) (IdTrackerType ∷ [])
task_row UsedWay = row_with_short (codes "used-way") (codes "uw") one_entities (Some Entities) (IdTrackerType ∷ [])
task_row Sort = row_with_short (codes "sort") (codes "s") one_entities (Some Entities) (SortType ∷ [])
task_row SortChange = row_with_short (codes "sort-change") (codes "sc") one_changes (Some Changes) []

-- all tasks, in the order of the catalogue
abbrev pub all_tasks : List TaskName
all_tasks =
    ReadPbf ∷ ReadOpl ∷ ReadOplChange ∷ ReadEmpty ∷ ReadMade ∷ WritePbf ∷ WriteOpl ∷ WriteOplChange ∷ WriteNull
    ∷ WriteSummary ∷ Merge ∷ MergeChange ∷ AppendChange ∷ ApplyChange ∷ SimplifyChange ∷ Tee ∷ TeeChange ∷ Buffer
    ∷ BufferChange ∷ Spool ∷ SpoolChange ∷ BoundingBox ∷ BoundingPolygon ∷ TagFilter ∷ UsedNode ∷ UsedWay ∷ Sort
    ∷ SortChange ∷ []
