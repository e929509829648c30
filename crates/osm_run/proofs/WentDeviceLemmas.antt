-- What the devices of machines tell after a run.
use Rattle.std.proofs.Common.{◌≡◌, ◌≢◌, ℕ, [], ◌∷◌, Bool, true, false, refl, sym, ap, subst, ◌∙◌}
use Rattle.std.specs.Prelude.{Option, Some, None}
use Rattle.std.specs.Option.{option_map}
use Rattle.osm_entity.specs.Machines.{Given, WroteAll, WrotePrefix}
use Rattle.osm_entity.specs.Meaning.{Meaning}
use Rattle.osm_entity.specs.declared.verdict.Verdict.TheVariants.{Write as WriteVerdict}
use Rattle.osm_host.specs.Pulls.{SourceGave}
use Rattle.osm_host.specs.declared.outside.Op.TheVariants.{Pull, Put}
use Rattle.osm_machine.specs.Devices.{SourceSeen}
use Rattle.osm_machine.specs.MachineDevices.{AreDevicesTold, BothTell, DeviceNames, IsSinkTold, IsSourceTold, RoseWhere, bytes_counted, device_names, has_come, has_pull_failed, sink_of, source_of, was_put_refused}
use Rattle.osm_machine.specs.MachineKinds.{machines}
use Rattle.osm_machine.specs.Sinks.{SinkSeen}
use Rattle.osm_machine.specs.declared.kind.MachineKind.{MachineKind}
use Rattle.osm_machine.specs.declared.kind.MachineKind.TheVariants.{Read, Make, Nothing, Write, Drops, Copies, Filters, UsesNodes, UsesWays, Sorts, Merges, Appends, Applies, Simplifies, Selects}
use Rattle.osm_run.specs.Course.{Course}
use Rattle.osm_run.specs.OnHost.{CountsBy}
use Rattle.osm_run.specs.Went.{DeviceSeen, NoDevice, SeenSource, SeenSink, DeviceTells, SinkTells, SourceTells, device_of, machine_end, sink_in, source_in}

pub some_same : {T : Type 0} (a b : T) → Some a ≡ Some b → a ≡ b
some_same a b is = cc

-- ---- which device a machine has

pub device_source : {S K : Type 0} (m : MachineKind S K) (s : SourceSeen) → source_of m ≡ Some s →
    device_of m ≡ SeenSource s
device_source (Read m) s is = ap SeenSource (some_same m.source s is)
device_source (Make m) s is = cc
device_source (Nothing m) s is = cc
device_source (Write m) s is = cc
device_source (Drops m) s is = cc
device_source (Copies m) s is = cc
device_source (Filters m) s is = cc
device_source (UsesNodes m) s is = cc
device_source (UsesWays m) s is = cc
device_source (Sorts m) s is = cc
device_source (Merges m) s is = cc
device_source (Appends m) s is = cc
device_source (Applies m) s is = cc
device_source (Simplifies m) s is = cc
device_source (Selects m) s is = cc

-- a machine of this sink, and what it wrote
pub device_sink : {S K : Type 0} (m : MachineKind S K) (k : SinkSeen) → sink_of m ≡ Some k →
    (device_of m ≡ SeenSink k) × (machines.wrote m ≡ k.taken)
device_sink (Read m) k is = cc
device_sink (Make m) k is = cc
device_sink (Nothing m) k is = cc
device_sink (Write m) k is =
    (ap SeenSink (some_same m.sink k is), ap (λ (sink : SinkSeen). sink.taken) (some_same m.sink k is))
device_sink (Drops m) k is = cc
device_sink (Copies m) k is = cc
device_sink (Filters m) k is = cc
device_sink (UsesNodes m) k is = cc
device_sink (UsesWays m) k is = cc
device_sink (Sorts m) k is = cc
device_sink (Merges m) k is = cc
device_sink (Appends m) k is = cc
device_sink (Applies m) k is = cc
device_sink (Simplifies m) k is = cc
device_sink (Selects m) k is = cc

pub device_none : {S K : Type 0} (m : MachineKind S K) → source_of m ≡ None → sink_of m ≡ None → device_of m ≡ NoDevice
device_none (Read m) source sink = cc
device_none (Make m) source sink = refl
device_none (Nothing m) source sink = refl
device_none (Write m) source sink = cc
device_none (Drops m) source sink = refl
device_none (Copies m) source sink = refl
device_none (Filters m) source sink = refl
device_none (UsesNodes m) source sink = refl
device_none (UsesWays m) source sink = refl
device_none (Sorts m) source sink = refl
device_none (Merges m) source sink = refl
device_none (Appends m) source sink = refl
device_none (Applies m) source sink = refl
device_none (Simplifies m) source sink = refl
device_none (Selects m) source sink = refl

-- the entry of a machine that reads
pub end_of_reader : {S K : Type 0} (t : ℕ) (m : MachineKind S K) (s : SourceSeen) → source_of m ≡ Some s →
    machine_end (t, m) ≡ record { task = t; given = bytes_counted m; clean = has_come m } ∷ []
end_of_reader t (Read m) s is = refl
end_of_reader t (Make m) s is = cc
end_of_reader t (Nothing m) s is = cc
end_of_reader t (Write m) s is = cc
end_of_reader t (Drops m) s is = cc
end_of_reader t (Copies m) s is = cc
end_of_reader t (Filters m) s is = cc
end_of_reader t (UsesNodes m) s is = cc
end_of_reader t (UsesWays m) s is = cc
end_of_reader t (Sorts m) s is = cc
end_of_reader t (Merges m) s is = cc
end_of_reader t (Appends m) s is = cc
end_of_reader t (Applies m) s is = cc
end_of_reader t (Simplifies m) s is = cc
end_of_reader t (Selects m) s is = cc

pub end_of_none : {S K : Type 0} (t : ℕ) (m : MachineKind S K) → source_of m ≡ None → machine_end (t, m) ≡ []
end_of_none t (Read m) is = cc
end_of_none t (Make m) is = refl
end_of_none t (Nothing m) is = refl
end_of_none t (Write m) is = refl
end_of_none t (Drops m) is = refl
end_of_none t (Copies m) is = refl
end_of_none t (Filters m) is = refl
end_of_none t (UsesNodes m) is = refl
end_of_none t (UsesWays m) is = refl
end_of_none t (Sorts m) is = refl
end_of_none t (Merges m) is = refl
end_of_none t (Appends m) is = refl
end_of_none t (Applies m) is = refl
end_of_none t (Simplifies m) is = refl
end_of_none t (Selects m) is = refl

-- ---- devices at both moments

-- a device that was there is still there, and tells this
pub both_some : {T : Type 0} (tells : T → T → Type 0) (old now : Option T) (s : T) → BothTell tells old now →
    old ≡ Some s → (k : T) × (now ≡ Some k) × tells s k
both_some tells (Some a) (Some b) s both is = (b, refl, subst (λ x. tells x b) (some_same a s is) both)
both_some tells (Some a) None s both is = absurd both
both_some tells None (Some b) s both is = absurd both
both_some tells None None s both is = absurd (let no : None ≡ Some s = is in cc)

-- a device that was not there is not there
pub both_none : {T : Type 0} (tells : T → T → Type 0) (old now : Option T) → BothTell tells old now → old ≡ None →
    now ≡ None
both_none tells (Some a) now both is = cc
both_none tells None (Some b) both is = absurd both
both_none tells None None both is = refl

-- the name of a source, and of a sink, where the names of devices stay
same_source : {S K : Type 0} (made now : MachineKind S K) (s k : SourceSeen) → device_names now ≡ device_names made →
    source_of made ≡ Some s → source_of now ≡ Some k → k.name ≡ s.name
same_source made now s k names before after =
    some_same k.name s.name
    (sym (ap (option_map (λ (source : SourceSeen). source.name)) after)
    ∙ ap (λ (n : DeviceNames). n.source) names ∙ ap (option_map (λ (source : SourceSeen). source.name)) before)

same_sink : {S K : Type 0} (made now : MachineKind S K) (s k : SinkSeen) → device_names now ≡ device_names made →
    sink_of made ≡ Some s → sink_of now ≡ Some k → k.name ≡ s.name
same_sink made now s k names before after =
    some_same k.name s.name
    (sym (ap (option_map (λ (sink : SinkSeen). sink.name)) after)
    ∙ ap (λ (n : DeviceNames). n.sink) names ∙ ap (option_map (λ (sink : SinkSeen). sink.name)) before)

counts_by : (failed : Bool) (before now : ℕ) → RoseWhere failed before now → CountsBy failed before now
counts_by true before now rises = rises
counts_by false before now same = same

-- ---- what a device tells of a course

-- a course is that of a machine's task: what came of its source, and which calls failed
pub record IsCourseAt {S K : Type 0} (c : Course) (t : ℕ) (now : MachineKind S K) (given : Given (MachineKind S K)) :
    Type 0 where
  pub given_is : c.given t ≡ given.bytes
  pub clean_is : c.clean t ≡ given.came
  pub pulls : c.failed Pull t ≡ has_pull_failed now
  pub puts : c.failed Put t ≡ was_put_refused now

-- a machine was made with a device, and left it like this
pub record HasWent {S K : Type 0} (dev : DeviceSeen) (made now : MachineKind S K) (given : Given (MachineKind S K)) :
    Type 0 where
  pub made_is : given.made ≡ made
  pub source : source_of made ≡ source_in dev
  pub sink : sink_of made ≡ sink_in dev
  pub told : AreDevicesTold now given
  pub names : device_names now ≡ device_names made

module _ {S K : Type 0} (made now : MachineKind S K) (given : Given (MachineKind S K)) where
  -- what a machine tells of its source, and of its sink
  abbrev SourceTold : SourceSeen → SourceSeen → Type 0
  SourceTold old new = IsSourceTold old new (machines.task now).limit (bytes_counted now) (has_come now)
      (has_pull_failed now) (machines.verdict now) given.bytes given.came

  abbrev SinkTold : SinkSeen → SinkSeen → Type 0
  SinkTold old new = IsSinkTold old new (was_put_refused now) (machines.verdict now)

  -- a reader's source after the run
  pub source_now : (s : SourceSeen) → HasWent (SeenSource s) made now given →
      (k : SourceSeen) × (source_of now ≡ Some k) × SourceTold s k
  source_now s went = both_some SourceTold (source_of given.made) (source_of now) s went.told.source
      (ap (λ m. source_of m) went.made_is ∙ went.source)

  pub sink_now : (s : SinkSeen) → HasWent (SeenSink s) made now given →
      (k : SinkSeen) × (sink_of now ≡ Some k) × SinkTold s k
  sink_now s went = both_some SinkTold (sink_of given.made) (sink_of now) s went.told.sink
      (ap (λ m. sink_of m) went.made_is ∙ went.sink)

  pub no_source_now : (dev : DeviceSeen) → HasWent dev made now given → source_in dev ≡ None → source_of now ≡ None
  no_source_now dev went none = both_none SourceTold (source_of given.made) (source_of now) went.told.source
      (ap (λ m. source_of m) went.made_is ∙ went.source ∙ none)

  pub no_sink_now : (dev : DeviceSeen) → HasWent dev made now given → sink_in dev ≡ None → sink_of now ≡ None
  no_sink_now dev went none = both_none SinkTold (sink_of given.made) (sink_of now) went.told.sink
      (ap (λ m. sink_of m) went.made_is ∙ went.sink ∙ none)

  module _ (c : Course) (m : Meaning) (memory : Bool) (t : ℕ) (at : IsCourseAt c t now given)
      (prefix : WrotePrefix (machines.wrote now) (m.bytes t))
      (all : memory ≡ false → machines.verdict now ≢ WriteVerdict → WroteAll (machines.wrote now) (m.bytes t)) where
    source_tells : (s : SourceSeen) → HasWent (SeenSource s) made now given →
        DeviceTells c m memory t (SeenSource s) (device_of now)
    source_tells s went =
        let there = source_now s went in
        let k : SourceSeen = there.0 in
        let told : SourceTold s k = there.2 in
        let tells : SourceTells c t s k = record {
          name = same_source made now s k went.names went.source there.1;
          gave = subst (λ bytes. SourceGave s.value k.value bytes) (sym at.given_is) told.stands.gave;
          ended = λ clean. told.stands.ended (sym at.clean_is ∙ clean);
          pulls = subst (λ failed. CountsBy failed s.value.faults k.value.faults) (sym at.pulls)
              (counts_by (has_pull_failed now) s.value.faults k.value.faults told.faults);
        } in
        subst (DeviceTells c m memory t (SeenSource s)) (sym (device_source now k there.1)) tells

    sink_tells : (s : SinkSeen) → HasWent (SeenSink s) made now given →
        DeviceTells c m memory t (SeenSink s) (device_of now)
    sink_tells s went =
        let there = sink_now s went in
        let k : SinkSeen = there.0 in
        let told : SinkTold s k = there.2 in
        let is = device_sink now k there.1 in
        let tells : SinkTells c m memory t s k = record {
          name = same_sink made now s k went.names went.sink there.1;
          puts = subst (λ failed. CountsBy failed s.faults k.faults) (sym at.puts)
              (counts_by (was_put_refused now) s.faults k.faults told.faults);
          told = told.told;
          took = subst (λ taken. WrotePrefix taken (m.bytes t)) is.1 prefix;
          all = λ there unfailed. subst (λ taken. WroteAll taken (m.bytes t)) is.1
              (all there (λ blames. absurd (let no : true ≡ false =
              sym (told.blamed blames) ∙ sym at.puts ∙ unfailed in cc)));
        } in
        subst (DeviceTells c m memory t (SeenSink s)) (sym is.0) tells

    -- the device of a task tells of the course
    pub task_tells : (dev : DeviceSeen) → HasWent dev made now given → DeviceTells c m memory t dev (device_of now)
    task_tells NoDevice went =
        subst (DeviceTells c m memory t NoDevice)
        (sym (device_none now (no_source_now NoDevice went refl) (no_sink_now NoDevice went refl))) tt
    task_tells (SeenSource s) went = source_tells s went
    task_tells (SeenSink s) went = sink_tells s went
