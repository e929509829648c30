-- The polygon files of the tasks before were read.
use Rattle.std.proofs.Common.{◌≡◌, ℕ, ◌<◌, length}
use Rattle.std.specs.Prelude.{⊤}
use Rattle.osm_host.specs.Moments.{moment}
use Rattle.osm_machine.specs.TaskMeanings.{IsGivenWhere, reads_area}
use Rattle.osm_run.specs.Commands.{area_at, kind_at}
use Rattle.osm_run.proofs.AreasLemmas.{ReadTo}
use Rattle.osm_run.proofs.areas.read_areas.Given as goal

abbrev pub invariant-loop-at : goal.invariant-loop-at
invariant-loop-at g l = record {
  count : length l.areas.items ≡ l.at;
  each : (t : ℕ) → t < l.at → IsGivenWhere (reads_area (kind_at l.tasks t)) (area_at l.areas.items t) (λ a. ⊤);
  read : ReadTo l.tasks l.at l.areas.items
      (moment g.H.Host.files g.H.Host.said g.H.Host.mute g.H.Host.count g.H.Host.gave g.H.Host.known l.initial.host)
      (moment g.H.Host.files g.H.Host.said g.H.Host.mute g.H.Host.count g.H.Host.gave g.H.Host.known l.host);
  said : g.H.Host.said l.host ≡ g.H.Host.said l.initial.host;
  mute : g.H.Host.mute l.host ≡ g.H.Host.mute l.initial.host;
}
