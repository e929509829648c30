-- What the kind of a task says: its row, the streams at its ports, and the ranges of its numbers.
-- Here ports are lists of streams; the code counts them.
use Rattle.std.specs.Prelude.{ℕ, ℤ, ◌*◌, nat_abs, List, [], replicate, Bool, true, false, ◌&&◌, nat_le, int_le, Option, Some, None}
use Rattle.osm_entity.specs.Entities.{degree}
use Rattle.osm_entity.specs.declared.kind.Flow.{Flow}
use Rattle.osm_entity.specs.declared.kind.Flow.TheVariants.{Entities, Changes}
use Rattle.osm_tasks.specs.Catalogue.{task_row}
use Rattle.osm_tasks.specs.declared.kind.TaskKind.{TaskKind}
use Rattle.osm_tasks.specs.declared.kind.TaskKind.TheVariants.{ReadPbf, ReadOpl, ReadOplChange, ReadEmpty, ReadMade, WritePbf, WriteOpl, WriteOplChange, WriteNull, WriteSummary, Merge, MergeChange, AppendChange, ApplyChange, SimplifyChange, Tee, Buffer, Spool, BoundingBox, BoundingPolygon, TagFilter, UsedNode, UsedWay, Sort, SortChange}
use Rattle.osm_tasks.specs.declared.naming.TaskName.{TaskName}
use Rattle.osm_tasks.specs.declared.naming.TaskName.TheVariants.{ReadPbf as readPbf, ReadOpl as readOpl, ReadOplChange as readOplChange, ReadEmpty as readEmpty, ReadMade as readMade, WritePbf as writePbf, WriteOpl as writeOpl, WriteOplChange as writeOplChange, WriteNull as writeNull, WriteSummary as writeSummary, Merge as merge, MergeChange as mergeChange, AppendChange as appendChange, ApplyChange as applyChange, SimplifyChange as simplifyChange, Tee as tee, TeeChange as teeChange, Buffer as buffer, BufferChange as bufferChange, Spool as spool, SpoolChange as spoolChange, BoundingBox as boundingBox, BoundingPolygon as boundingPolygon, TagFilter as tagFilter, UsedNode as usedNode, UsedWay as usedWay, Sort as sort, SortChange as sortChange}

-- the one task for entities, the other for changes
abbrev pub task_by_flow : Flow → (entities changes : TaskName) → TaskName
task_by_flow Entities entities changes = entities
task_by_flow Changes entities changes = changes

-- the task of the catalogue that a kind is of
abbrev pub task_of : TaskKind → TaskName
task_of (ReadPbf file) = readPbf
task_of (ReadOpl file) = readOpl
task_of (ReadOplChange file) = readOplChange
task_of ReadEmpty = readEmpty
task_of (ReadMade count seed) = readMade
task_of (WritePbf file batchlimit usedense omitmetadata granularity) = writePbf
task_of (WriteOpl file) = writeOpl
task_of (WriteOplChange file) = writeOplChange
task_of WriteNull = writeNull
task_of (WriteSummary file) = writeSummary
task_of (Merge resolution) = merge
task_of (MergeChange resolution) = mergeChange
task_of AppendChange = appendChange
task_of ApplyChange = applyChange
task_of SimplifyChange = simplifyChange
task_of (Tee flow outputs) = task_by_flow flow tee teeChange
task_of (Buffer flow capacity) = task_by_flow flow buffer bufferChange
task_of (Spool flow) = task_by_flow flow spool spoolChange
task_of (BoundingBox left right top bottom options) = boundingBox
task_of (BoundingPolygon file options) = boundingPolygon
task_of (TagFilter accept kind tests) = tagFilter
task_of UsedNode = usedNode
task_of UsedWay = usedWay
task_of Sort = sort
task_of SortChange = sortChange

-- the streams that a kind takes, one for each input
abbrev pub inputs_of : TaskKind → List Flow
inputs_of kind = (task_row (task_of kind)).inputs

-- how often a kind gives its stream: a tee as often as it has outputs, any other once
abbrev pub times_given : TaskKind → ℕ
times_given (Tee flow outputs) = outputs
times_given kind = 1

-- this many copies of a stream that is given, or none
abbrev pub copies : ℕ → Option Flow → List Flow
copies n None = []
copies n (Some flow) = replicate n flow

-- the streams that a kind gives, one for each output
abbrev pub outputs_of : TaskKind → List Flow
outputs_of kind = copies (times_given kind) (task_row (task_of kind)).output

-- a number from the least to the most, both included
abbrev pub is_within : ℕ → ℕ → ℕ → Bool
is_within least most n = nat_le least n && nat_le n most

-- degrees that an option can say: up to 1,000 in size
abbrev pub are_degrees : ℤ → Bool
are_degrees z = nat_le (nat_abs z) (1000 * degree)

-- a box that isn't empty: its left isn't above its right, nor its bottom above its top
abbrev pub is_box : (left right top bottom : ℤ) → Bool
is_box left right top bottom = int_le left right && int_le bottom top

-- each number of a kind but a seed is in the range that its row has for it, and its box isn't empty
abbrev pub is_ranged : TaskKind → Bool
is_ranged (ReadMade count seed) = is_within 0 10000000 count
is_ranged (WritePbf file batchlimit usedense omitmetadata granularity) =
    is_within 1 32000 batchlimit && is_within 1 1000000 granularity
is_ranged (Tee flow outputs) = is_within 1 16 outputs
is_ranged (Buffer flow capacity) = is_within 1 65536 capacity
is_ranged (BoundingBox left right top bottom options) =
    are_degrees left && are_degrees right && are_degrees top && are_degrees bottom && is_box left right top bottom
is_ranged kind = true

-- the file of a kind, where it has one
abbrev pub file_of : TaskKind → Option (List ℕ)
file_of (ReadPbf file) = Some file
file_of (ReadOpl file) = Some file
file_of (ReadOplChange file) = Some file
file_of (WritePbf file batchlimit usedense omitmetadata granularity) = Some file
file_of (WriteOpl file) = Some file
file_of (WriteOplChange file) = Some file
file_of (WriteSummary file) = Some file
file_of (BoundingPolygon file options) = Some file
file_of kind = None

-- a kind that writes its file
abbrev pub writes_file : TaskKind → Bool
writes_file (WritePbf file batchlimit usedense omitmetadata granularity) = true
writes_file (WriteOpl file) = true
writes_file (WriteOplChange file) = true
writes_file (WriteSummary file) = true
writes_file kind = false
