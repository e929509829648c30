use Rattle.std.proofs.Common.{◌≡◌, length}
use Rattle.std.specs.Io.KnownBytes.{Keeps}
use Rattle.osm_host_std.proofs.transfers.read_some.Given as goal

abbrev pub invariant-loop-turn : goal.invariant-loop-turn
invariant-loop-turn g l =
    (length l.buf ≡ length l.initial.buf) × Keeps (g.F.Read.remaining l.initial.file) (g.F.Read.remaining l.file)
