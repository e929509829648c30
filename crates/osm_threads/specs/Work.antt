-- A machine at work over the ports of its task, until it has ended or was out of memory.
-- Here the machine stands for all that passed the ports; the code moves one message at a time.
use Rattle.std.specs.Prelude.{◌≡◌, ℕ, ◌<◌, length, Bool, true}
use Rattle.osm_entity.specs.Machines.{Given, IsBehind, Meanings, StandsFor}
use Rattle.osm_entity.specs.declared.stream.Want.TheVariants.{Ended}
use Rattle.osm_threads.specs.Ports.{HasMore, HavePipes, broken_off, in_row, is_shut, messages_at, pipes_at}
use Rattle.osm_threads.specs.declared.ports.TaskPorts.{TaskPorts}

-- the same pipes are at the ports as before
pub record HaveSamePipes (old new : TaskPorts) : Type 0 where
  pub inlets : pipes_at new.inlets.items ≡ pipes_at old.inlets.items
  pub outlets : pipes_at new.outlets.items ≡ pipes_at old.outlets.items

-- each output was given a broken end unless it had its end, and each input was taken to its end
pub record HaveBrokenOff (old new : TaskPorts) : Type 0 where
  pub outlets : (port : ℕ) → in_row new.outlets.items port ≡ broken_off (in_row old.outlets.items port)
  pub inlets : (port : ℕ) → HasMore (in_row old.inlets.items port) (in_row new.inlets.items port)
  pub ends : (port : ℕ) → port < length new.inlets.items → is_shut (in_row new.inlets.items port) ≡ true

-- a machine has a pipe at each of its ports
pub record IsWired {M : Type 0} (of : Meanings M) (m : M) (ports : TaskPorts) : Type 0 where
  pub inputs : HavePipes (of.task m).inputs ports.inlets.items
  pub outputs : HavePipes (of.task m).outputs ports.outlets.items

-- a machine stands for what passed its ports, and for what came of its source since it was made
abbrev pub StandsAtPorts : {M : Type 0} → Meanings M → M → TaskPorts → Given M → Type 0
StandsAtPorts of m ports given = StandsFor of m (messages_at ports.inlets.items) (messages_at ports.outlets.items) given

-- a machine is behind what passed its ports, and what came of its source since it was made
abbrev pub IsBehindPorts : {M : Type 0} → Meanings M → M → TaskPorts → Given M → Type 0
IsBehindPorts of m ports given = IsBehind of m (messages_at ports.inlets.items) (messages_at ports.outlets.items) given

-- a machine is at work: it has its pipes, and stands for what passed them
pub record IsAtWork {M : Type 0} (of : Meanings M) (made m : M) (ports : TaskPorts) : Type 0 where
  pub wired : IsWired of m ports
  pub given : Given M
  pub made_is : given.made ≡ made
  pub stands : StandsAtPorts of m ports given

-- a machine left off, out of memory: it is behind what passed its ports
pub record HasLeftOff {M : Type 0} (of : Meanings M) (made m : M) (ports : TaskPorts) : Type 0 where
  pub given : Given M
  pub made_is : given.made ≡ made
  pub behind : IsBehindPorts of m ports given

-- a machine has worked: it is behind what passed its ports, it has ended and stands for that unless it left off, and
-- each output has its end
pub record HasWorked {M : Type 0} (of : Meanings M) (made m : M) (ports : TaskPorts) (whole : Bool) : Type 0 where
  pub given : Given M
  pub made_is : given.made ≡ made
  pub behind : IsBehindPorts of m ports given
  pub ended : whole ≡ true → of.wanted m ≡ Ended
  pub stands : whole ≡ true → StandsAtPorts of m ports given
  pub closed : (port : ℕ) → port < (of.task m).outputs → is_shut (in_row ports.outlets.items port) ≡ true
