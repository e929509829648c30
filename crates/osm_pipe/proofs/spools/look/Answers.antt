use Rattle.std.proofs.Common.{ap}
use Rattle.osm_pipe.specs.Spool.{ends_hand}
use Rattle.osm_pipe.specs.declared.rule.Hand.{Hand}
use Rattle.osm_pipe.specs.declared.store.Last.{Last}
use Rattle.osm_pipe.proofs.RuleLemmas.{takes}
use Rattle.osm_pipe.proofs.spools.look.Goals as goal

pub pop_as-requires-clause-rule : goal.pop_as-requires-clause-rule
pop_as-requires-clause-rule g c =
    let pass = c.args.ends.now in
    (takes pass.id (ends_hand pass) (ap (λ (v : Hand Last). v.takes) c.requires.takes), λ items views h at. tt)
