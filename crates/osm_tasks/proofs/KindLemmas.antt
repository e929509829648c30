-- What the words of a task say keeps the ranges of its row.
use Rattle.std.proofs.Common.{◌≡◌, ℕ, ℤ, pos, negsuc, zero, suc, Bool, true, false, List, ◌∷◌, [], length, Option, None, Some, IfSome, refl, sym, ◌∙◌, arith}
use Rattle.std.specs.Prelude.{if◌then◌else◌, unwrap_or}
use Rattle.std.specs.Option.{option_and_then}
use Rattle.std.proofs.lemmas.Bool.{and_from}
use Rattle.std.proofs.lemmas.List.{length-append, length-replicate}
use Rattle.osm_entity.specs.Counts.{counted}
use Rattle.osm_entity.specs.declared.kind.Flow.TheVariants.{Entities, Changes}
use Rattle.osm_text.specs.Nano.{nano}
use Rattle.osm_text.specs.Numbers.{has_minus, whole}
use Rattle.osm_words.specs.declared.list.OptionWord.{OptionWord}
use Rattle.osm_tasks.specs.Catalogue.{task_row}
use Rattle.osm_tasks.specs.Given.{number_by, degrees_by, number_said, degrees_given, value_given, pipe_name, pipe_names, input_prefix, output_prefix}
use Rattle.osm_tasks.specs.KindSaid.{kind_said}
use Rattle.osm_tasks.specs.Kinds.{is_within, are_degrees, is_box, is_ranged, inputs_of, outputs_of}
use Rattle.osm_tasks.specs.Refusals.{box_fault, outputs_said}
use Rattle.osm_tasks.specs.Resolving.{task_said}
use Rattle.osm_tasks.specs.Tasks.{IsTask}
use Rattle.osm_tasks.specs.Values.{kept_within, number_in, kept_degrees, nanodegrees_in}
use Rattle.osm_tasks.specs.declared.fault.TaskError.{TaskError}
use Rattle.osm_tasks.specs.declared.fault.TaskError.TheVariants.{BadBox}
use Rattle.osm_tasks.specs.declared.kind.TaskKind.{TaskKind}
use Rattle.osm_tasks.specs.declared.naming.TaskName.{TaskName}
use Rattle.osm_tasks.specs.declared.naming.TaskName.TheVariants.{ReadPbf, ReadOpl, ReadOplChange, ReadEmpty, ReadMade, WritePbf, WriteOpl, WriteOplChange, WriteNull, WriteSummary, Merge, MergeChange, AppendChange, ApplyChange, SimplifyChange, Tee, TeeChange, Buffer, BufferChange, Spool, SpoolChange, BoundingBox, BoundingPolygon, TagFilter, UsedNode, UsedWay, Sort, SortChange}
use Rattle.osm_tasks.specs.declared.naming.OptionName.TheVariants.{Count, Batchlimit, Granularity, OutputCount, BufferCapacity, Left, Right, Top, Bottom}
use Rattle.osm_tasks.specs.declared.naming.Values.TheVariants.{Number, Degrees}

-- what is kept by a test passes it
kept_by : {T : Type 0} (test : T → Bool) (x : T) (b : Bool) → test x ≡ b →
    IfSome (if b then Some x else None) (λ y. test y ≡ true)
kept_by test x true is = is
kept_by test x false is = tt

-- what a number is read as lies in its range
then_kept : (least most : ℕ) (z : Option ℤ) → IfSome (option_and_then (kept_within least most) z)
    (λ n. is_within least most n ≡ true)
then_kept least most None = tt
then_kept least most (Some z) = kept_by (is_within least most) (counted z) (is_within least most (counted z)) refl

unsigned_kept : (minus : Bool) (least most : ℕ) (z : Option ℤ) →
    IfSome (if minus then None else option_and_then (kept_within least most) z) (λ n. is_within least most n ≡ true)
unsigned_kept true least most z = tt
unsigned_kept false least most z = then_kept least most z

-- a value in its range, or the default, which is in it
or_default : {T : Type 0} (test : T → Bool) (given : Option T) (default : T) → IfSome given (λ x. test x ≡ true) →
    test default ≡ true → test (unwrap_or given default) ≡ true
or_default test None default kept fits = fits
or_default test (Some x) default kept fits = kept

-- a number option lies in its range
pub number_by-within : (least most default : ℕ) (given : Option (List ℕ)) → is_within least most default ≡ true →
    is_within least most (number_by (Number least most default) given) ≡ true
number_by-within least most default None fits = fits
number_by-within least most default (Some text) fits =
    or_default (is_within least most) (number_in least most text) default
    (unsigned_kept (has_minus text) least most (whole text)) fits

-- what degrees are read as lies in their range
degrees_kept : (z : Option ℤ) → IfSome (option_and_then kept_degrees z) (λ n. are_degrees n ≡ true)
degrees_kept None = tt
degrees_kept (Some z) = kept_by are_degrees z (are_degrees z) refl

-- an option in degrees lies in their range
pub degrees_by-within : (default : ℤ) (given : Option (List ℕ)) → are_degrees default ≡ true →
    are_degrees (degrees_by (Degrees default) given) ≡ true
degrees_by-within default None fits = fits
degrees_by-within default (Some text) fits =
    or_default are_degrees (nanodegrees_in text) default (degrees_kept (nano text)) fits

-- a box without a fault isn't empty
box_fine : (fault : TaskError) (b : Bool) → (if b then None else Some fault) ≡ None → b ≡ true
box_fine fault true is = refl
box_fine fault false is = absurd (let no : Some fault ≡ None = is in cc)

-- each number that words say lies in the range of its row
pub kind_said-ranged : (n : ℕ) (task : TaskName) (words : List OptionWord) →
    box_fault n (kind_said task words) ≡ None → is_ranged (kind_said task words) ≡ true
kind_said-ranged n ReadPbf words fine = refl
kind_said-ranged n ReadOpl words fine = refl
kind_said-ranged n ReadOplChange words fine = refl
kind_said-ranged n ReadEmpty words fine = refl
kind_said-ranged n ReadMade words fine = number_by-within 0 10000000 0 (value_given Count words) refl
kind_said-ranged n WritePbf words fine =
    and_from _ _ (number_by-within 1 32000 8000 (value_given Batchlimit words) refl)
    (number_by-within 1 1000000 100 (value_given Granularity words) refl)
kind_said-ranged n WriteOpl words fine = refl
kind_said-ranged n WriteOplChange words fine = refl
kind_said-ranged n WriteNull words fine = refl
kind_said-ranged n WriteSummary words fine = refl
kind_said-ranged n Merge words fine = refl
kind_said-ranged n MergeChange words fine = refl
kind_said-ranged n AppendChange words fine = refl
kind_said-ranged n ApplyChange words fine = refl
kind_said-ranged n SimplifyChange words fine = refl
kind_said-ranged n Tee words fine = number_by-within 1 16 2 (value_given OutputCount words) refl
kind_said-ranged n TeeChange words fine = number_by-within 1 16 2 (value_given OutputCount words) refl
kind_said-ranged n Buffer words fine = number_by-within 1 65536 100 (value_given BufferCapacity words) refl
kind_said-ranged n BufferChange words fine = number_by-within 1 65536 100 (value_given BufferCapacity words) refl
kind_said-ranged n Spool words fine = refl
kind_said-ranged n SpoolChange words fine = refl
kind_said-ranged n BoundingBox words fine =
    and_from _ _ (and_from _ _ (and_from _ _ (and_from _ _
    (degrees_by-within (negsuc 179999999999) (value_given Left words) refl)
    (degrees_by-within (pos 180000000000) (value_given Right words) refl))
    (degrees_by-within (pos 90000000000) (value_given Top words) refl))
    (degrees_by-within (negsuc 89999999999) (value_given Bottom words) refl))
    (box_fine (BadBox n) (is_box (degrees_given Left words) (degrees_given Right words) (degrees_given Top words)
    (degrees_given Bottom words)) fine)
kind_said-ranged n BoundingPolygon words fine = refl
kind_said-ranged n TagFilter words fine = refl
kind_said-ranged n UsedNode words fine = refl
kind_said-ranged n UsedWay words fine = refl
kind_said-ranged n Sort words fine = refl
kind_said-ranged n SortChange words fine = refl

-- there are as many names as ports
pub length-pipe_names : (prefix : List ℕ) (words : List OptionWord) (n : ℕ) → length (pipe_names prefix words n) ≡ n
length-pipe_names prefix words zero = refl
length-pipe_names prefix words (suc n) =
    length-append (pipe_names prefix words n) (pipe_name prefix words n ∷ [])
    ∙ omega (arith, length-pipe_names prefix words n)

-- the inputs of a kind are those of its row
pub inputs-said : (task : TaskName) (words : List OptionWord) →
    length (inputs_of (kind_said task words)) ≡ length (task_row task).inputs
inputs-said ReadPbf words = refl
inputs-said ReadOpl words = refl
inputs-said ReadOplChange words = refl
inputs-said ReadEmpty words = refl
inputs-said ReadMade words = refl
inputs-said WritePbf words = refl
inputs-said WriteOpl words = refl
inputs-said WriteOplChange words = refl
inputs-said WriteNull words = refl
inputs-said WriteSummary words = refl
inputs-said Merge words = refl
inputs-said MergeChange words = refl
inputs-said AppendChange words = refl
inputs-said ApplyChange words = refl
inputs-said SimplifyChange words = refl
inputs-said Tee words = refl
inputs-said TeeChange words = refl
inputs-said Buffer words = refl
inputs-said BufferChange words = refl
inputs-said Spool words = refl
inputs-said SpoolChange words = refl
inputs-said BoundingBox words = refl
inputs-said BoundingPolygon words = refl
inputs-said TagFilter words = refl
inputs-said UsedNode words = refl
inputs-said UsedWay words = refl
inputs-said Sort words = refl
inputs-said SortChange words = refl

-- the outputs of a kind are as many as its words say
pub outputs-said : (task : TaskName) (words : List OptionWord) →
    length (outputs_of (kind_said task words)) ≡ outputs_said task words
outputs-said ReadPbf words = refl
outputs-said ReadOpl words = refl
outputs-said ReadOplChange words = refl
outputs-said ReadEmpty words = refl
outputs-said ReadMade words = refl
outputs-said WritePbf words = refl
outputs-said WriteOpl words = refl
outputs-said WriteOplChange words = refl
outputs-said WriteNull words = refl
outputs-said WriteSummary words = refl
outputs-said Merge words = refl
outputs-said MergeChange words = refl
outputs-said AppendChange words = refl
outputs-said ApplyChange words = refl
outputs-said SimplifyChange words = refl
outputs-said Tee words = length-replicate (number_said OutputCount words) Entities
outputs-said TeeChange words = length-replicate (number_said OutputCount words) Changes
outputs-said Buffer words = refl
outputs-said BufferChange words = refl
outputs-said Spool words = refl
outputs-said SpoolChange words = refl
outputs-said BoundingBox words = refl
outputs-said BoundingPolygon words = refl
outputs-said TagFilter words = refl
outputs-said UsedNode words = refl
outputs-said UsedWay words = refl
outputs-said Sort words = refl
outputs-said SortChange words = refl

-- a task whose words have no fault keeps what every task keeps
pub task_said-IsTask : (n : ℕ) (task : TaskName) (words : List OptionWord) →
    box_fault n (kind_said task words) ≡ None → IsTask (task_said task words)
task_said-IsTask n task words fine = record {
  ranged = kind_said-ranged n task words fine;
  inputs = length-pipe_names input_prefix words (length (task_row task).inputs) ∙ sym (inputs-said task words);
  outputs = length-pipe_names output_prefix words (outputs_said task words) ∙ sym (outputs-said task words);
}

-- so does each task that equals what its words say
pub IsTask-said : (n : ℕ) (task : TaskName) (words : List OptionWord) (kind : TaskKind)
    (inputs outputs : List (Option (List ℕ))) → kind ≡ kind_said task words →
    inputs ≡ pipe_names input_prefix words (length (task_row task).inputs) →
    outputs ≡ pipe_names output_prefix words (outputs_said task words) → box_fault n kind ≡ None →
    IsTask (record { kind = kind; inputs = inputs; outputs = outputs })
IsTask-said n task words kind inputs outputs is takes gives fine =
    rw (is, takes, gives) (task_said-IsTask n task words (rw is at fine))
