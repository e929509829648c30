-- The kind that the words of a task say: what each of its options is given, or its default.
-- Here each option is looked up among all words; the code does so too, once the words are known to be good.
use Rattle.std.specs.Prelude.{List}
use Rattle.osm_entity.specs.declared.kind.Flow.TheVariants.{Entities, Changes}
use Rattle.osm_entity.specs.declared.options.AreaOptions.{AreaOptions}
use Rattle.osm_words.specs.declared.list.OptionWord.{OptionWord}
use Rattle.osm_tasks.specs.Given.{text_said, number_said, truth_said, degrees_given, resolution_said, mode_said, tests_said}
use Rattle.osm_tasks.specs.declared.kind.TaskKind.{TaskKind}
use Rattle.osm_tasks.specs.declared.kind.TaskKind.TheVariants.{ReadPbf, ReadOpl, ReadOplChange, ReadEmpty, ReadMade, WritePbf, WriteOpl, WriteOplChange, WriteNull, WriteSummary, Merge, MergeChange, AppendChange, ApplyChange, SimplifyChange, Tee, Buffer, Spool, BoundingBox, BoundingPolygon, TagFilter, UsedNode, UsedWay, Sort, SortChange}
use Rattle.osm_tasks.specs.declared.naming.OptionName.TheVariants.{File, Count, Seed, Batchlimit, Usedense, Omitmetadata, Granularity, OutputCount, BufferCapacity, Left, Right, Top, Bottom, CompleteWays, CascadingRelations, ClipIncompleteEntities}
use Rattle.osm_tasks.specs.declared.naming.TaskName.{TaskName}
use Rattle.osm_tasks.specs.declared.naming.TaskName.TheVariants.{ReadPbf as readPbf, ReadOpl as readOpl, ReadOplChange as readOplChange, ReadEmpty as readEmpty, ReadMade as readMade, WritePbf as writePbf, WriteOpl as writeOpl, WriteOplChange as writeOplChange, WriteNull as writeNull, WriteSummary as writeSummary, Merge as merge, MergeChange as mergeChange, AppendChange as appendChange, ApplyChange as applyChange, SimplifyChange as simplifyChange, Tee as tee, TeeChange as teeChange, Buffer as buffer, BufferChange as bufferChange, Spool as spool, SpoolChange as spoolChange, BoundingBox as boundingBox, BoundingPolygon as boundingPolygon, TagFilter as tagFilter, UsedNode as usedNode, UsedWay as usedWay, Sort as sort, SortChange as sortChange}

-- the options of an area task
abbrev pub area_said : List OptionWord → AreaOptions
area_said words = record {
  complete_ways = truth_said CompleteWays words;
  cascading_relations = truth_said CascadingRelations words;
  clip = truth_said ClipIncompleteEntities words;
}

-- the kind of a task with these words
abbrev pub kind_said : TaskName → List OptionWord → TaskKind
kind_said readPbf words = ReadPbf (text_said File words)
kind_said readOpl words = ReadOpl (text_said File words)
kind_said readOplChange words = ReadOplChange (text_said File words)
kind_said readEmpty words = ReadEmpty
kind_said readMade words = ReadMade (number_said Count words) (number_said Seed words)
kind_said writePbf words =
    WritePbf (text_said File words) (number_said Batchlimit words) (truth_said Usedense words)
    (truth_said Omitmetadata words) (number_said Granularity words)
kind_said writeOpl words = WriteOpl (text_said File words)
kind_said writeOplChange words = WriteOplChange (text_said File words)
kind_said writeNull words = WriteNull
kind_said writeSummary words = WriteSummary (text_said File words)
kind_said merge words = Merge (resolution_said words)
kind_said mergeChange words = MergeChange (resolution_said words)
kind_said appendChange words = AppendChange
kind_said applyChange words = ApplyChange
kind_said simplifyChange words = SimplifyChange
kind_said tee words = Tee Entities (number_said OutputCount words)
kind_said teeChange words = Tee Changes (number_said OutputCount words)
kind_said buffer words = Buffer Entities (number_said BufferCapacity words)
kind_said bufferChange words = Buffer Changes (number_said BufferCapacity words)
kind_said spool words = Spool Entities
kind_said spoolChange words = Spool Changes
kind_said boundingBox words =
    BoundingBox (degrees_given Left words) (degrees_given Right words) (degrees_given Top words)
    (degrees_given Bottom words) (area_said words)
kind_said boundingPolygon words = BoundingPolygon (text_said File words) (area_said words)
kind_said tagFilter words = TagFilter (mode_said words).accept (mode_said words).kind (tests_said words)
kind_said usedNode words = UsedNode
kind_said usedWay words = UsedWay
kind_said sort words = Sort
kind_said sortChange words = SortChange
