-- How machines stand with their source: what it gave since they were made.
-- Here a source is told at two moments; the code lends it to each pull.
use Rattle.std.specs.Prelude.{◌≡◌, ℕ, List, Bool, true, Option}
use Rattle.std.specs.Io.KnownBytes.{IsAtEnd}
use Rattle.osm_host.specs.Pulls.{SourceGave, SourceValue, source_value}

-- a source as contracts see it: its name, and how it stands with it
pub record SourceSeen : Type 0 where
  pub name : List ℕ
  pub value : SourceValue

-- this source as contracts see it, by the four meanings of its type
abbrev pub source_seen : {S : Type 0} → (S → List ℕ) → (S → Option (List ℕ)) → (S → ℕ) → (S → ℕ) → S → SourceSeen
source_seen name rest given faults source = record {
  name = name source;
  value = source_value rest given faults source;
}

-- since its machine was made a source gave these bytes; where their end came nothing is left, and no pull failed
pub record SourceStands (made now : SourceSeen) (bytes : List ℕ) (came : Bool) : Type 0 where
  pub gave : SourceGave made.value now.value bytes
  pub ended : came ≡ true → IsAtEnd now.value.rest
  pub calm : came ≡ true → now.value.faults ≡ made.value.faults
