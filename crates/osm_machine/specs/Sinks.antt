-- How machines stand with their sink: what it took, and whether one of its puts failed.
-- Here a sink is told at two moments; the code lends it to each put.
use Rattle.std.specs.Prelude.{◌≡◌, ℕ, List, [], Option, IfSome, Ok, Err}
use Rattle.std.specs.declared.result.Result.{Result}
use Rattle.osm_host.specs.Counts.{Rises}
use Rattle.osm_host.specs.declared.outside.HostError.{HostError}
use Rattle.osm_host.specs.declared.outside.HostError.TheVariants.{Failed, Memory}
use Rattle.osm_machine.specs.declared.puts.Puts.{Puts}
use Rattle.osm_machine.specs.declared.puts.Puts.TheVariants.{Good, Refused, Stopped}

-- a sink as contracts see it: its name, what it took where that is told, and how many of its puts failed
pub record SinkSeen : Type 0 where
  pub name : List ℕ
  pub taken : Option (List ℕ)
  pub faults : ℕ

-- this sink as contracts see it, by the three meanings of its type
abbrev pub sink_seen : {K : Type 0} → (K → List ℕ) → (K → Option (List ℕ)) → (K → ℕ) → K → SinkSeen
sink_seen name taken faults sink = record { name = name sink; taken = taken sink; faults = faults sink }

-- a sink took nothing yet, where it tells what it took
abbrev pub TookNothing : Option (List ℕ) → Type 0
TookNothing taken = IfSome taken (λ bytes. bytes ≡ [])

-- how it stands with the puts of a writer after one more
abbrev pub puts_after : {T : Type 0} → Result T HostError → Puts
puts_after (Ok x) = Good
puts_after (Err Failed) = Refused
puts_after (Err Memory) = Stopped

-- the count of a sink's faults rose where one of its puts failed, and else stays
abbrev pub FaultsOfPuts : Puts → ℕ → ℕ → Type 0
FaultsOfPuts Good before now = now ≡ before
FaultsOfPuts Refused before now = Rises before now
FaultsOfPuts Stopped before now = now ≡ before
