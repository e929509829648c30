use Rattle.std.proofs.Common.{◌≡◌, ℕ, false, get_or, length}
use Rattle.std.specs.Prelude.{◌&&◌, not, nat_lt}
use Rattle.osm_graph.specs.Pipes.{pipe_of}
use Rattle.osm_circle.specs.Circles.{is_spool}
use Rattle.osm_circle.proofs.live.Live.of.Given as goal

-- the senses of the pipes so far are marked, but for those along a spool
abbrev pub invariant-loop-pipe : goal.invariant-loop-pipe
invariant-loop-pipe l =
    (length l.along ≡ 128) ×
    (length l.against ≡ 128) ×
    ((k : ℕ) → get_or l.along k false ≡ (nat_lt k l.pipe && not (is_spool (pipe_of l.graph.pipes k).store))) ×
    ((k : ℕ) → get_or l.against k false ≡ nat_lt k l.pipe)
