-- What the devices of a machine tell since it was made.
use Rattle.std.proofs.Common.{◌≡◌, ◌≢◌, ℕ, true, Option, Some, None, refl, sym, subst, ap}
use Rattle.osm_entity.specs.Machines.{Given}
use Rattle.osm_entity.specs.declared.stream.End.{End}
use Rattle.osm_entity.specs.declared.stream.End.TheVariants.{Done, Broken}
use Rattle.osm_entity.specs.declared.verdict.Verdict.TheVariants.{Running, Write as BadWrite}
use Rattle.osm_host.specs.Feeds.{FaultsOfPull}
use Rattle.osm_host.specs.declared.feed.Feed.{Feed}
use Rattle.osm_host.specs.declared.feed.Feed.TheVariants.{Open, Ended, Failed, TooLong}
use Rattle.osm_machine.specs.MachineDevices.{AreDevicesTold, RoseWhere, is_failed, is_refused}
use Rattle.osm_machine.specs.MachineKinds.{machines}
use Rattle.osm_machine.specs.ReadingFiles.{file_fed}
use Rattle.osm_machine.specs.Sinks.{FaultsOfPuts}
use Rattle.osm_machine.specs.Writing.{writing_verdict}
use Rattle.osm_machine.specs.declared.kind.MachineKind.{MachineKind}
use Rattle.osm_machine.specs.declared.kind.MachineKind.TheVariants.{Read, Make, Nothing, Write, Drops, Copies, Filters, UsesNodes, UsesWays, Sorts, Merges, Appends, Applies, Simplifies, Selects}
use Rattle.osm_machine.specs.declared.puts.Puts.{Puts}
use Rattle.osm_machine.specs.declared.puts.Puts.TheVariants.{Good, Refused, Stopped}

-- the count of a source's faults rose where it is told that a pull failed
source_rose : (feed : Feed) (before now : ℕ) → FaultsOfPull feed before now → RoseWhere (is_failed feed) before now
source_rose Open before now faults = faults
source_rose Ended before now faults = faults
source_rose Failed before now faults = faults
source_rose TooLong before now faults = faults

-- the count of a sink's faults rose where it is told that a put failed
sink_rose : (puts : Puts) (before now : ℕ) → FaultsOfPuts puts before now → RoseWhere (is_refused puts) before now
sink_rose Good before now faults = faults
sink_rose Refused before now faults = faults
sink_rose Stopped before now faults = faults

-- a machine blames its sink only where a put failed, and always once it has ended
sink_blamed : (puts : Puts) (end : Option End) → writing_verdict puts end ≡ BadWrite → is_refused puts ≡ true
sink_blamed Good None is = cc
sink_blamed Good (Some Done) is = cc
sink_blamed Good (Some Broken) is = cc
sink_blamed Refused end is = refl
sink_blamed Stopped end is = cc

sink_blames : (puts : Puts) (end : Option End) → is_refused puts ≡ true → writing_verdict puts end ≢ Running →
    writing_verdict puts end ≡ BadWrite
sink_blames Good end refused ended = cc
sink_blames Refused None refused ended = absurd (ended refl)
sink_blames Refused (Some end) refused ended = refl
sink_blames Stopped end refused ended = cc

pub devices_told : {S K : Type 0} (m : MachineKind S K) (given : Given (MachineKind S K)) → machines.devices m given →
    AreDevicesTold m given
devices_told (Read m) given told = subst (AreDevicesTold (Read m)) (sym told.made) (record {
  source = record {
    stands = told.devices.source;
    counted_is = told.devices.counted;
    few = told.devices.few;
    clean_is = told.devices.clean;
    faults = source_rose (file_fed m.reader).feed told.own.made.source.value.faults m.source.value.faults
        told.devices.faults;
    blamed = λ is. ap is_failed (told.devices.blamed is);
  };
  sink = tt;
})
devices_told (Make m) given told = subst (AreDevicesTold (Make m)) (sym told.made) (record { source = tt; sink = tt })
devices_told (Nothing m) given told = subst (AreDevicesTold (Nothing m)) (sym told.made) (record { source = tt; sink = tt })
devices_told (Write m) given told = subst (AreDevicesTold (Write m)) (sym told.made) (record {
  source = tt;
  sink = record {
    told = told.devices.told;
    faults = sink_rose m.puts told.own.made.sink.faults m.sink.faults told.devices.faults;
    blamed = sink_blamed m.puts m.end;
    blames = sink_blames m.puts m.end;
  };
})
devices_told (Drops m) given told = subst (AreDevicesTold (Drops m)) (sym told.made) (record { source = tt; sink = tt })
devices_told (Copies m) given told = subst (AreDevicesTold (Copies m)) (sym told.made) (record { source = tt; sink = tt })
devices_told (Filters m) given told = subst (AreDevicesTold (Filters m)) (sym told.made) (record { source = tt; sink = tt })
devices_told (UsesNodes m) given told = subst (AreDevicesTold (UsesNodes m)) (sym told.made) (record { source = tt; sink = tt })
devices_told (UsesWays m) given told = subst (AreDevicesTold (UsesWays m)) (sym told.made) (record { source = tt; sink = tt })
devices_told (Sorts m) given told = subst (AreDevicesTold (Sorts m)) (sym told.made) (record { source = tt; sink = tt })
devices_told (Merges m) given told = subst (AreDevicesTold (Merges m)) (sym told.made) (record { source = tt; sink = tt })
devices_told (Appends m) given told = subst (AreDevicesTold (Appends m)) (sym told.made) (record { source = tt; sink = tt })
devices_told (Applies m) given told = subst (AreDevicesTold (Applies m)) (sym told.made) (record { source = tt; sink = tt })
devices_told (Simplifies m) given told = subst (AreDevicesTold (Simplifies m)) (sym told.made) (record { source = tt; sink = tt })
devices_told (Selects m) given told = subst (AreDevicesTold (Selects m)) (sym told.made) (record { source = tt; sink = tt })
