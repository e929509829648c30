-- The devices of machines: the source of a reader, and the sink of a writer.
-- Here a machine of any kind is asked for them; the code has them in the parts of two kinds.
use Rattle.std.specs.Prelude.{◌≡◌, ◌≢◌, ℕ, ◌+◌, ◌≤◌, List, length, Bool, true, false, Option, Some, None, IsSome, ⊤}
use Rattle.std.specs.Option.{option_map}
use Rattle.osm_entity.specs.Machines.{Given}
use Rattle.osm_entity.specs.declared.verdict.Verdict.{Verdict}
use Rattle.osm_entity.specs.declared.verdict.Verdict.TheVariants.{Running, Read as BadRead, Write as BadWrite}
use Rattle.osm_host.specs.Counts.{Rises, raised}
use Rattle.osm_host.specs.Feeds.{reached_end}
use Rattle.osm_host.specs.Pulls.{piece_size}
use Rattle.osm_host.specs.declared.feed.Feed.{Feed}
use Rattle.osm_host.specs.declared.feed.Feed.TheVariants.{Open, Ended, Failed, TooLong}
use Rattle.osm_machine.specs.Devices.{SourceSeen, SourceStands}
use Rattle.osm_machine.specs.MachineKinds.{machines}
use Rattle.osm_machine.specs.ReadingFiles.{file_fed}
use Rattle.osm_machine.specs.Sinks.{SinkSeen}
use Rattle.osm_machine.specs.declared.kind.MachineKind.{MachineKind}
use Rattle.osm_machine.specs.declared.kind.MachineKind.TheVariants.{Read, Write}
use Rattle.osm_machine.specs.declared.puts.Puts.{Puts}
use Rattle.osm_machine.specs.declared.puts.Puts.TheVariants.{Good, Refused, Stopped}

-- the source of a machine that reads
abbrev pub source_of : {S K : Type 0} → MachineKind S K → Option SourceSeen
source_of (Read m) = Some m.source
source_of m = None

-- the sink of a machine that writes
abbrev pub sink_of : {S K : Type 0} → MachineKind S K → Option SinkSeen
sink_of (Write m) = Some m.sink
sink_of m = None

-- how many bytes a machine counted of its source
abbrev pub bytes_counted : {S K : Type 0} → MachineKind S K → ℕ
bytes_counted (Read m) = (file_fed m.reader).given
bytes_counted m = 0

-- whether the end of its source came
abbrev pub has_come : {S K : Type 0} → MachineKind S K → Bool
has_come (Read m) = reached_end (file_fed m.reader).feed
has_come m = false

-- whether a source gives no more since its pull failed
abbrev pub is_failed : Feed → Bool
is_failed Open = false
is_failed Ended = false
is_failed Failed = true
is_failed TooLong = false

-- whether the last put of a writer failed
abbrev pub is_refused : Puts → Bool
is_refused Good = false
is_refused Refused = true
is_refused Stopped = false

-- whether a machine has a source
abbrev pub has_source : {S K : Type 0} → MachineKind S K → Bool
has_source (Read m) = true
has_source m = false

-- whether a pull of a machine's source failed; it was the last one
abbrev pub has_pull_failed : {S K : Type 0} → MachineKind S K → Bool
has_pull_failed (Read m) = is_failed (file_fed m.reader).feed
has_pull_failed m = false

-- whether a put into a machine's sink failed; it was the last one
abbrev pub was_put_refused : {S K : Type 0} → MachineKind S K → Bool
was_put_refused (Write m) = is_refused m.puts
was_put_refused m = false

-- the names of a machine's devices
pub record DeviceNames : Type 0 where
  pub source : Option (List ℕ)
  pub sink : Option (List ℕ)

-- the names of the devices that a machine has
abbrev pub device_names : {S K : Type 0} → MachineKind S K → DeviceNames
device_names m = record {
  source = option_map (λ (s : SourceSeen). s.name) (source_of m);
  sink = option_map (λ (k : SinkSeen). k.name) (sink_of m);
}

-- a count of faults rose where a call failed, and else stayed
abbrev pub RoseWhere : Bool → (before now : ℕ) → Type 0
RoseWhere true before now = Rises before now
RoseWhere false before now = now ≡ before

-- what a reader's source tells since its machine was made, in every state of it, and what the machine says of it
pub record IsSourceTold (made now : SourceSeen) (limit counted : ℕ) (clean failed : Bool) (verdict : Verdict)
    (bytes : List ℕ) (came : Bool) : Type 0 where
  pub stands : SourceStands made now bytes came
  pub counted_is : counted ≡ raised 0 (length bytes)
  pub few : length bytes ≤ limit + piece_size
  pub clean_is : came ≡ clean
  pub faults : RoseWhere failed made.value.faults now.value.faults
  pub blamed : verdict ≡ BadRead → failed ≡ true

-- what a writer's sink tells since its machine was made, in every state of it: what it took, where it told that before,
-- and how many puts failed; a machine that has ended blames its sink exactly where one did
pub record IsSinkTold (made now : SinkSeen) (refused : Bool) (verdict : Verdict) : Type 0 where
  pub told : IsSome made.taken → IsSome now.taken
  pub faults : RoseWhere refused made.faults now.faults
  pub blamed : verdict ≡ BadWrite → refused ≡ true
  pub blames : refused ≡ true → verdict ≢ Running → verdict ≡ BadWrite

-- a device is there at both moments and tells this, or at none
abbrev pub BothTell : {T : Type 0} → (T → T → Type 0) → Option T → Option T → Type 0
BothTell tells (Some made) (Some now) = tells made now
BothTell tells (Some made) None = ⊥
BothTell tells None (Some now) = ⊥
BothTell tells None None = ⊤

-- what the devices of a machine tell since it was made
pub record AreDevicesTold {S K : Type 0} (m : MachineKind S K) (given : Given (MachineKind S K)) : Type 0 where
  pub source : BothTell (λ made now. IsSourceTold made now (machines.task m).limit (bytes_counted m) (has_come m)
      (has_pull_failed m) (machines.verdict m) given.bytes given.came) (source_of given.made) (source_of m)
  pub sink : BothTell (λ made now. IsSinkTold made now (was_put_refused m) (machines.verdict m)) (sink_of given.made)
      (sink_of m)
