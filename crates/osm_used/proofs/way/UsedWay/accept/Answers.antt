use Rattle.std.proofs.Common.{OnErr, subst}
use Rattle.osm_entity.specs.Calls.{StopsInTake}
use Rattle.osm_entity.specs.OneInput.{meanings_of}
use Rattle.osm_used.specs.Using.{UsedValue, keeping_used}
use Rattle.osm_used.proofs.way.UsedWay.accept.Goals as goal

pub returns-clause-stops : goal.returns-clause-stops
returns-clause-stops c = subst (λ (old : UsedValue). OnErr c.accept.result
    (StopsInTake (meanings_of keeping_used) c.args.port c.args.message old c.accept.new.self))
    c.self.view_is c.accept.ensures.stops
