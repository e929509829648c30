-- Values of options: what each text says, and which texts an option allows.
-- Here a text is looked at whole; the code reads numbers digit by digit.
use Rattle.std.specs.Prelude.{ℕ, ℤ, List, length, Bool, true, false, ◌||◌, ◌&&◌, ◌==◌, nat_lt, if◌then◌else◌, Option, Some, None, is_some, codes, slice_index}
use Rattle.std.specs.Option.{option_and_then}
use Rattle.std.specs.Str.{bytes_eq, str_eq_ignore_ascii_case}
use Rattle.osm_entity.specs.Ascii.{digit_zero}
use Rattle.osm_entity.specs.Counts.{counted}
use Rattle.osm_entity.specs.declared.kind.Kind.TheVariants.{Node, Way, Relation}
use Rattle.osm_entity.specs.declared.options.Resolution.{Resolution}
use Rattle.osm_entity.specs.declared.options.Resolution.TheVariants.{Version, Timestamp, LastSource}
use Rattle.osm_text.specs.Nano.{nano}
use Rattle.osm_text.specs.Numbers.{has_minus, whole}
use Rattle.osm_tasks.specs.Kinds.{is_within, are_degrees}
use Rattle.osm_tasks.specs.declared.naming.Values.{Values}
use Rattle.osm_tasks.specs.declared.naming.Values.TheVariants.{AnyText, Number, Truth, Degrees, Resolving, Filtering, Tracking, Uncompressed, ByTypeThenId}
use Rattle.osm_tasks.specs.declared.reading.Mode.{Mode}

-- what a number counts, itself or 0 below 0, where that is in a range
abbrev pub kept_within : (least most : ℕ) → ℤ → Option ℕ
kept_within least most z = if is_within least most (counted z) then Some (counted z) else None

-- the number that digits write, leading zeros allowed, where it is in a range; a number with a sign is none
abbrev pub number_in : (least most : ℕ) → List ℕ → Option ℕ
number_in least most text = if has_minus text then None else option_and_then (kept_within least most) (whole text)

-- one of two words, in any case of its letters
abbrev pub is_either : List ℕ → List ℕ → List ℕ → Bool
is_either one other text = str_eq_ignore_ascii_case text one || str_eq_ignore_ascii_case text other

-- yes or true, no or false
abbrev pub truth_in : List ℕ → Option Bool
truth_in text =
    if is_either (codes "yes") (codes "true") text then Some true
    else if is_either (codes "no") (codes "false") text then Some false else None

-- nanodegrees, where they are up to 1,000 degrees in size
abbrev pub kept_degrees : ℤ → Option ℤ
kept_degrees z = if are_degrees z then Some z else None

-- the nanodegrees that a text says in degrees, up to 1,000 in size
abbrev pub nanodegrees_in : List ℕ → Option ℤ
nanodegrees_in text = option_and_then kept_degrees (nano text)

-- how a merge resolves, by its word
abbrev pub resolution_in : List ℕ → Option Resolution
resolution_in text =
    if bytes_eq text (codes "version") then Some Version
    else if bytes_eq text (codes "timestamp") then Some Timestamp
    else if bytes_eq text (codes "lastSource") then Some LastSource else None

-- what a tag filter does, by its word: it accepts or rejects nodes, ways or relations
abbrev pub mode_in : List ℕ → Option Mode
mode_in text =
    if bytes_eq text (codes "accept-nodes") then Some (record { accept = true; kind = Node })
    else if bytes_eq text (codes "accept-ways") then Some (record { accept = true; kind = Way })
    else if bytes_eq text (codes "accept-relations") then Some (record { accept = true; kind = Relation })
    else if bytes_eq text (codes "reject-nodes") then Some (record { accept = false; kind = Node })
    else if bytes_eq text (codes "reject-ways") then Some (record { accept = false; kind = Way })
    else if bytes_eq text (codes "reject-relations") then Some (record { accept = false; kind = Relation }) else None

-- a word for how ids are tracked
abbrev pub is_tracker : List ℕ → Bool
is_tracker text =
    bytes_eq text (codes "IdList") || bytes_eq text (codes "BitSet") || bytes_eq text (codes "Dynamic")

-- the texts that an option allows
abbrev pub allows : Values → List ℕ → Bool
allows AnyText text = true
allows (Number least most default) text = is_some (number_in least most text)
allows (Truth default) text = is_some (truth_in text)
allows (Degrees default) text = is_some (nanodegrees_in text)
allows Resolving text = is_some (resolution_in text)
allows Filtering text = is_some (mode_in text)
allows Tracking text = is_tracker text
allows Uncompressed text = bytes_eq text (codes "none")
allows ByTypeThenId text = bytes_eq text (codes "TypeThenId")

-- a text that begins with a zero and goes on
abbrev pub has_leading_zero : List ℕ → Bool
has_leading_zero text = (slice_index text 0 == digit_zero) && nat_lt 1 (length text)

-- the number of a port: digits without leading zeros, up to 4,294,967,295
abbrev pub port_in : List ℕ → Option ℕ
port_in text = if has_leading_zero text then None else number_in 0 4294967295 text
