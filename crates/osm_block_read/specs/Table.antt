-- Where the entries of a field lie, as the code finds them one after the other.
-- Here what is left of a message is a list of bytes at the end of others; the code has a slice.
use Rattle.std.specs.Prelude.{ℕ, ◌≡◌, ◌<◌, ◌++◌, ◌∷◌, List, length, Option, Some, None}
use Rattle.std.specs.Option.{option_map}
use Rattle.osm_wire.specs.Entries.{all_bytes}
use Rattle.osm_wire.specs.Messages.{good_front}
use Rattle.osm_block_read.specs.Spans.{IsSpanIn, part_in}
use Rattle.osm_block_read.specs.declared.span.Span.{Span}

-- bytes that are left at the end of others, and hold fields to their end
pub record IsWellRest (bytes rest : List ℕ) : Type 0 where
  pub before : List ℕ
  pub joined : bytes ≡ before ++ rest
  pub fine : (good_front rest).fault ≡ None

-- the entries of a field in the bytes that are left; None where one isn't bytes
abbrev pub entries_left : ℕ → List ℕ → Option (List (List ℕ))
entries_left number rest = all_bytes number (good_front rest).items

-- an entry lies at a span, before the entries in what is left then
pub record IsNextSpan (bytes : List ℕ) (number : ℕ) (span : Span) (old new : List ℕ) : Type 0 where
  pub within : IsSpanIn (length bytes) span
  pub entries : entries_left number old ≡ option_map (λ more. part_in bytes span ∷ more) (entries_left number new)
  pub fewer : length new < length old

-- a value, where there is one within
abbrev pub flat_option : {T : Type 0} → Option (Option T) → Option T
flat_option None = None
flat_option (Some inner) = inner

-- the one entry lies at a span; or there is none, or more than one, or one that isn't bytes
abbrev pub IsSingleSpan : List ℕ → Option (Option (List ℕ)) → Option Span → Type 0
IsSingleSpan bytes said (Some span) = IsSpanIn (length bytes) span × (said ≡ Some (Some (part_in bytes span)))
IsSingleSpan bytes said None = flat_option said ≡ None
