use Rattle.std.proofs.Common.{◌≡◌, subst, sym}
use Rattle.osm_entity.specs.declared.stream.Want.TheVariants.{Take}
use Rattle.osm_machine.specs.Copying.{copying}
use Rattle.osm_machine.proofs.CopyingLemmas.{copying_takes}
use Rattle.osm_machine.proofs.copying.Copying.accept.Goals as goal

pub returns-clause-takes : goal.returns-clause-takes
returns-clause-takes c = rw (← c.self.view_is) (copying_takes _ c.args.message c.args.port _ c.end_in-self-inside.ensures
    (subst (λ v. copying.wanted v ≡ Take c.args.port) (sym c.self.view_is) c.requires))
