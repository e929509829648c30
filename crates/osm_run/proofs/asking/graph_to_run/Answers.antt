use Rattle.std.proofs.Common.{sym, subst}
use Rattle.std.specs.Prelude.{Ok}
use Rattle.osm_run.specs.Asked.{IsRefusal}
use Rattle.osm_run.proofs.asking.graph_to_run.Goals as goal

pub returns-in-Some-clause-refused : goal.returns-in-Some-clause-refused
returns-in-Some-clause-refused c =
    subst (λ asked. IsRefusal asked c.of.result.fault) (sym c.in-Ok.ensures.ok)
    (subst (IsRefusal (Ok c.in-Ok.graph)) (sym c.of.ensures.fault) c.in-Some.ensures.refused)
