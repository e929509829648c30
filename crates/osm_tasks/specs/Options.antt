-- The catalogue of options: a row for each, with its name, whether a word without a name gives it, who needs it, and
-- its values.
-- Here each option is one row; the code looks up each column by itself.
use Rattle.std.specs.Prelude.{ℕ, pos, negsuc, List, [], Bool, true, false, Option, Some, None, codes}
use Rattle.osm_tasks.specs.declared.fault.Needed.{Needed}
use Rattle.osm_tasks.specs.declared.fault.Needed.TheVariants.{File as NeedsFile, Mode as NeedsMode, Count as NeedsCount}
use Rattle.osm_tasks.specs.declared.naming.OptionName.{OptionName}
use Rattle.osm_tasks.specs.declared.naming.OptionName.TheVariants.{File, Count, Seed, Batchlimit, Usedense, Omitmetadata, Compress, Granularity, ConflictResolutionMethod, OutputCount, BufferCapacity, Left, Right, Top, Bottom, CompleteWays, CascadingRelations, ClipIncompleteEntities, Mode, IdTrackerType, SortType}
use Rattle.osm_tasks.specs.declared.naming.Values.{Values}
use Rattle.osm_tasks.specs.declared.naming.Values.TheVariants.{AnyText, Number, Truth, Degrees, Resolving, Filtering, Tracking, Uncompressed, ByTypeThenId}

-- a row of the options: the name, whether a word without a name gives it, who can't do without it, and its values
pub record OptionRow : Type 0 where
  pub name : List ℕ
  pub unnamed : Bool
  pub needed : Option Needed
  pub values : Values

-- an option that words give with or without its name
abbrev pub main_option : List ℕ → Option Needed → Values → OptionRow
main_option name needed values = record { name = name; unnamed = true; needed = needed; values = values }

-- an option that words give by its name alone, and that no task needs
abbrev pub named_option : List ℕ → Values → OptionRow
named_option name values = record { name = name; unnamed = false; needed = None; values = values }

-- the row of an option; the mode has no name
abbrev pub option_row : OptionName → OptionRow
option_row File = main_option (codes "file") (Some NeedsFile) AnyText
option_row Count = main_option (codes "count") (Some NeedsCount) (Number 0 10000000 0)
option_row Seed = named_option (codes "seed") (Number 0 4294967295 0)
option_row Batchlimit = named_option (codes "batchlimit") (Number 1 32000 8000)
option_row Usedense = named_option (codes "usedense") (Truth true)
option_row Omitmetadata = named_option (codes "omitmetadata") (Truth false)
option_row Compress = named_option (codes "compress") Uncompressed
option_row Granularity = named_option (codes "granularity") (Number 1 1000000 100)
option_row ConflictResolutionMethod = named_option (codes "conflictResolutionMethod") Resolving
option_row OutputCount = main_option (codes "outputCount") None (Number 1 16 2)
option_row BufferCapacity = main_option (codes "bufferCapacity") None (Number 1 65536 100)
option_row Left = named_option (codes "left") (Degrees (negsuc 179999999999))
option_row Right = named_option (codes "right") (Degrees (pos 180000000000))
option_row Top = named_option (codes "top") (Degrees (pos 90000000000))
option_row Bottom = named_option (codes "bottom") (Degrees (negsuc 89999999999))
option_row CompleteWays = named_option (codes "completeWays") (Truth false)
option_row CascadingRelations = named_option (codes "cascadingRelations") (Truth false)
option_row ClipIncompleteEntities = named_option (codes "clipIncompleteEntities") (Truth false)
option_row Mode = main_option [] (Some NeedsMode) Filtering
option_row IdTrackerType = named_option (codes "idTrackerType") Tracking
option_row SortType = named_option (codes "type") ByTypeThenId
