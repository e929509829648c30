-- The files of a kind of task: a polygon file, which is read before the tasks run, or those of the running task.
use Rattle.std.proofs.Common.{◌≡◌, ℕ, List, [], ◌∷◌, true, false, refl, sym, ap, ◌∙◌}
use Rattle.std.specs.Prelude.{if◌then◌else◌, None}
use Rattle.osm_machine.specs.TaskMeanings.{reads_area}
use Rattle.osm_poly.specs.Poly.{poly}
use Rattle.osm_tasks.specs.declared.kind.TaskKind.{TaskKind}
use Rattle.osm_tasks.specs.declared.kind.TaskKind.TheVariants.{ReadPbf, ReadOpl, ReadOplChange, ReadEmpty, ReadMade, WritePbf, WriteOpl, WriteOplChange, WriteNull, WriteSummary, Merge, MergeChange, AppendChange, ApplyChange, SimplifyChange, Tee, Buffer, Spool, BoundingBox, BoundingPolygon, TagFilter, UsedNode, UsedWay, Sort, SortChange}
use Rattle.osm_run.specs.Commands.{all_kind_files, area_in, kind_files}
use Rattle.osm_run.specs.Plan.{File, Polygon}

-- a kind has a polygon file and no other, or none
pub data FilesOfKind (kind : TaskKind) : Type 0 where
  OnlyPolygon : (name : List ℕ) → reads_area kind ≡ true → all_kind_files kind ≡ Polygon name ∷ [] →
      kind_files kind ≡ [] → FilesOfKind kind
  NoPolygon : reads_area kind ≡ false → all_kind_files kind ≡ kind_files kind → FilesOfKind kind

pub files_of_kind : (kind : TaskKind) → FilesOfKind kind
files_of_kind (ReadPbf file) = NoPolygon refl refl
files_of_kind (ReadOpl file) = NoPolygon refl refl
files_of_kind (ReadOplChange file) = NoPolygon refl refl
files_of_kind ReadEmpty = NoPolygon refl refl
files_of_kind (ReadMade count seed) = NoPolygon refl refl
files_of_kind (WritePbf file batchlimit usedense omitmetadata granularity) = NoPolygon refl refl
files_of_kind (WriteOpl file) = NoPolygon refl refl
files_of_kind (WriteOplChange file) = NoPolygon refl refl
files_of_kind WriteNull = NoPolygon refl refl
files_of_kind (WriteSummary file) = NoPolygon refl refl
files_of_kind (Merge resolution) = NoPolygon refl refl
files_of_kind (MergeChange resolution) = NoPolygon refl refl
files_of_kind AppendChange = NoPolygon refl refl
files_of_kind ApplyChange = NoPolygon refl refl
files_of_kind SimplifyChange = NoPolygon refl refl
files_of_kind (Tee flow outputs) = NoPolygon refl refl
files_of_kind (Buffer flow capacity) = NoPolygon refl refl
files_of_kind (Spool flow) = NoPolygon refl refl
files_of_kind (BoundingBox left right top bottom options) = NoPolygon refl refl
files_of_kind (BoundingPolygon file options) = OnlyPolygon file refl refl refl
files_of_kind (TagFilter accept kind tests) = NoPolygon refl refl
files_of_kind UsedNode = NoPolygon refl refl
files_of_kind UsedWay = NoPolygon refl refl
files_of_kind Sort = NoPolygon refl refl
files_of_kind SortChange = NoPolygon refl refl

-- the one file that a kind has open while it runs is its only one
open_by : (kind : TaskKind) (file : File) → FilesOfKind kind → kind_files kind ≡ file ∷ [] →
    all_kind_files kind ≡ file ∷ []
open_by kind file (OnlyPolygon name reads all none) is = absurd (let no : [] ≡ file ∷ [] = sym none ∙ is in cc)
open_by kind file (NoPolygon reads all) is = all ∙ is

pub open_file : (kind : TaskKind) (file : File) → kind_files kind ≡ file ∷ [] → all_kind_files kind ≡ file ∷ []
open_file kind file is = open_by kind file (files_of_kind kind) is

-- the area that a kind has of a file is that of the file's bytes
area_by : (kind : TaskKind) (bytes more : List ℕ) → FilesOfKind kind →
    ((name : List ℕ) → all_kind_files kind ≡ Polygon name ∷ [] → more ≡ bytes) →
    (if reads_area kind then area_in (poly more) else None) ≡ (if reads_area kind then area_in (poly bytes) else None)
area_by kind bytes more (OnlyPolygon name reads all none) same =
    ap (λ b. if reads_area kind then area_in (poly b) else None) (same name all)
area_by kind bytes more (NoPolygon reads all) same =
    ap (λ b. if b then area_in (poly more) else None) reads
    ∙ sym (ap (λ b. if b then area_in (poly bytes) else None) reads)

pub area_alike : (kind : TaskKind) (bytes more : List ℕ) →
    ((name : List ℕ) → all_kind_files kind ≡ Polygon name ∷ [] → more ≡ bytes) →
    (if reads_area kind then area_in (poly more) else None) ≡ (if reads_area kind then area_in (poly bytes) else None)
area_alike kind bytes more same = area_by kind bytes more (files_of_kind kind) same
