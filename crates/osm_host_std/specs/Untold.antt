-- What a host over real files means: counts and names. What its files hold and what it said is not told.
-- Here each meaning is a value; the code keeps a row for each name.
use Rattle.std.specs.Prelude.{None}
use Rattle.osm_host.specs.Moments.{Moment}
use Rattle.osm_host.specs.Tallies.{faults_in, given_in, names_in}
use Rattle.osm_host_std.specs.declared.host.StdHost.{StdHost}

-- the six meanings of a host over real files
abbrev pub untold_moment : {R : Type 0} → StdHost R → Moment
untold_moment host = record {
  files = None;
  said = None;
  mute = host.mute;
  count = faults_in host.tallies;
  gave = given_in host.tallies;
  known = names_in host.tallies;
}
