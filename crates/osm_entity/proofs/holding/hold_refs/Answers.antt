use Rattle.std.proofs.Common.{All, arith, rules, subst}
use Rattle.std.proofs.lemmas.List.{take_all}
use Rattle.std.proofs.lemmas.List.Elements.{All-more}
use Rattle.std.specs.Prelude.{ℤ, pos, FitsSigned}
use Rattle.std.specs.Int.{w64}
use Rattle.osm_entity.proofs.holding.hold_refs.Goals as goal

pub loop-id-preserved : goal.loop-id-preserved
loop-id-preserved c =
    All-more (λ id. FitsSigned w64 id) c.args.refs.now c.loop-id.id-index (pos 0) (omega arith)
    c.loop-id.invariant (search rules)

pub returns : goal.returns
returns c =
    subst (All (λ (id : ℤ). FitsSigned w64 id)) (take_all c.loop-id.id-index c.args.refs.now (omega arith))
    c.loop-id.invariant
