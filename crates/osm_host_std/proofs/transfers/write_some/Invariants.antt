use Rattle.std.specs.Io.KnownBytes.{Keeps}
use Rattle.osm_host_std.proofs.transfers.write_some.Given as goal

abbrev pub invariant-loop-turn : goal.invariant-loop-turn
invariant-loop-turn g l = Keeps (g.F.Write.contents l.initial.file) (g.F.Write.contents l.file)
