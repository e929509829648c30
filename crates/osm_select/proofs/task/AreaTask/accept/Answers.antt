use Rattle.std.proofs.Common.{OnErr, OnOk, subst}
use Rattle.osm_entity.specs.Calls.{StopsInTake, Takes}
use Rattle.osm_entity.specs.OneInput.{meanings_of}
use Rattle.osm_select.specs.Selecting.{selecting}
use Rattle.osm_select.specs.declared.task.Course.{Course}
use Rattle.osm_select.proofs.task.AreaTask.accept.Goals as goal

pub returns-clause-takes : goal.returns-clause-takes
returns-clause-takes c = subst (λ (old : Course). OnOk c.accept.result
    (Takes (meanings_of selecting) c.args.port c.args.message old c.accept.new.self))
    c.self.view_is c.accept.ensures.takes

pub returns-clause-stops : goal.returns-clause-stops
returns-clause-stops c = subst (λ (old : Course). OnErr c.accept.result
    (StopsInTake (meanings_of selecting) c.args.port c.args.message old c.accept.new.self))
    c.self.view_is c.accept.ensures.stops
