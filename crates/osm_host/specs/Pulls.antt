-- What one pull of a reader's source did, in any format.
-- Here the bytes that came are a list of their own; the code lets the source write them into its buffer.
use Rattle.std.specs.Prelude.{◌≡◌, ℕ, ◌-◌, ◌≤◌, ◌<◌, List, [], ◌++◌, length, Bool, false, Option}
use Rattle.std.specs.Io.KnownBytes.{prepend_known, IsAtEnd}
use Rattle.osm_entity.specs.Items.{ItemValue}
use Rattle.osm_host.specs.Counts.{raised}
use Rattle.osm_host.specs.Feeds.{FaultsOfPull, reached_end}
use Rattle.osm_host.specs.declared.feed.Feed.{Feed}
use Rattle.osm_host.specs.declared.feed.Feed.TheVariants.{Open, Ended, Failed, TooLong}

-- how many bytes a reader asks of its source in one pull
abbrev pub piece_size : ℕ
piece_size = 65536

-- a source at one moment: what is left of it, how many bytes it gave, and how many of its pulls failed
pub record SourceValue : Type 0 where
  pub rest : Option (List ℕ)
  pub given : ℕ
  pub faults : ℕ

-- this source at this moment, by the three meanings of its type
abbrev pub source_value : {S : Type 0} → (S → Option (List ℕ)) → (S → ℕ) → (S → ℕ) → S → SourceValue
source_value rest given faults source = record {
  rest = rest source;
  given = given source;
  faults = faults source;
}

-- since an earlier moment a source gave these bytes: they were the next of what was left, and it counted them
pub record SourceGave (before now : SourceValue) (bytes : List ℕ) : Type 0 where
  pub told : before.rest ≡ prepend_known bytes now.rest
  pub counted : now.given ≡ raised before.given (length bytes)

-- what a reader of any format keeps of its source: its limit, how many bytes came, and how it stands with it
pub record FeedValue : Type 0 where
  pub limit : ℕ
  pub given : ℕ
  pub feed : Feed

-- the bytes of a pull by how it stands with the source after it: some within the room, none, or more than that
abbrev pub FitsPull : Feed → ℕ → List ℕ → Type 0
FitsPull Open room bytes = (0 < length bytes) × (length bytes ≤ room)
FitsPull Ended room bytes = bytes ≡ []
FitsPull Failed room bytes = bytes ≡ []
FitsPull TooLong room bytes = room < length bytes

-- a pull gave these bytes, and the source's reader counted them too; none came where the pull failed
pub record PullGave (before now : SourceValue) (old new : FeedValue) (bytes : List ℕ) : Type 0 where
  pub source : SourceGave before now bytes
  pub counted : new.given ≡ raised old.given (length bytes)
  pub fits : FitsPull new.feed (old.limit - old.given) bytes
  pub small : length bytes ≤ piece_size
  pub ended : new.feed ≡ Ended → IsAtEnd now.rest
  pub faults : FaultsOfPull new.feed before.faults now.faults

-- one pull of a reader: what it stood for, it stands for with the bytes that came, and with the end where that came
pub record PulledOnce {R : Type 0} (fed : R → FeedValue) (stands_for : R → List ℕ → Bool → List ItemValue → Type 0)
    (before now : SourceValue) (old new : R) : Type 0 where
  pub bytes : List ℕ
  pub gave : PullGave before now (fed old) (fed new) bytes
  pub stands : (so_far : List ℕ) (items : List ItemValue) → stands_for old so_far false items →
      stands_for new (so_far ++ bytes) (reached_end (fed new).feed) items
