use Rattle.std.proofs.Common.{sym, subst}
use Rattle.osm_entity.specs.Calls.{Takes}
use Rattle.osm_merge.specs.Append.{appending}
use Rattle.osm_merge.specs.TwoInputs.{meanings_of_two}
use Rattle.osm_merge.proofs.AppendCalls.{none_first}
use Rattle.osm_merge.proofs.append.Append.accept.Goals as goal

pub returns-in-None-clause-takes : goal.returns-in-None-clause-takes
returns-in-None-clause-takes c =
    subst (λ port. Takes (meanings_of_two appending) port c.args.message c.args.self.now c.take_first.new.self)
    (sym (none_first c.args.self.now c.args.port c.requires c.in-None.is)) c.take_first.ensures
