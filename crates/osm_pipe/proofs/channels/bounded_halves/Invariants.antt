use Rattle.std.proofs.Common.{Some}
use Rattle.crossbeam_channel.specs.Ends.{sends_on, ruled_capacity}
use Rattle.osm_pipe.proofs.channels.bounded_halves.Given as goal

abbrev pub ghosts-part : goal.ghosts-part
ghosts-part a = record { limit = Some (ruled_capacity (sends_on a.to.now)) }
