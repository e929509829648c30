use Rattle.std.proofs.Common.{take}
use Rattle.std.specs.Prelude.{All, FitsSigned}
use Rattle.std.specs.Int.{w64}
use Rattle.osm_entity.proofs.holding.hold_refs.Given as goal

abbrev pub invariant-loop-id : goal.invariant-loop-id
invariant-loop-id l = All (λ id. FitsSigned w64 id) (take l.id-index l.refs)
