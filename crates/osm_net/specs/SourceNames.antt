-- The machines of all kinds of tasks as machines of a network: named by their devices.
-- Here that such a machine reads is that it has the name of a source; the code asks its kind.
use Rattle.std.specs.Prelude.{◌≡◌, Bool, true, is_some, refl}
use Rattle.osm_entity.specs.Machines.{AreLawful}
use Rattle.osm_entity.specs.declared.stream.Want.TheVariants.{Pull}
use Rattle.osm_machine.specs.MachineDevices.{DeviceNames, device_names, has_source}
use Rattle.osm_machine.specs.MachineKinds.{machines}
use Rattle.osm_machine.specs.declared.kind.MachineKind.{MachineKind}
use Rattle.osm_machine.specs.declared.kind.MachineKind.TheVariants.{Read}
use Rattle.osm_machine.proofs.MachineParts.{machines_are_lawful}
use Rattle.osm_machine.proofs.PullLemmas.{pulling_has_source}

-- what names a machine says that it has a source
abbrev pub names_source : DeviceNames → Bool
names_source names = is_some names.source

-- the machines of all kinds are lawful
pub kinds_are_lawful : {S K : Type 0} → AreLawful (machines {S = S} {K = K})
kinds_are_lawful = machines_are_lawful

-- a machine that has a source has its name
source_is_named : {S K : Type 0} (m : MachineKind S K) → has_source m ≡ true → names_source (device_names m) ≡ true
source_is_named (Read m) has = refl
source_is_named _ has = has

-- a machine that wants a pull has the name of a source
pub pullers_name_sources : {S K : Type 0} (m : MachineKind S K) → machines.wanted m ≡ Pull →
    names_source (device_names m) ≡ true
pullers_name_sources m wants = source_is_named m (pulling_has_source m wants)
