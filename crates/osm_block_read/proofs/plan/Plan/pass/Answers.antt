use Rattle.std.proofs.Common.{◌∙◌, ap, drop}
use Rattle.osm_block_read.proofs.PlanLemmas.{fine-passed, items-passed}
use Rattle.osm_block_read.proofs.plan.Plan.pass.Goals as goal

pub invariant_of-self : goal.invariant_of-self
invariant_of-self c = record {
  rows = c.self.invariant.rows;
  fine = fine-passed c.self.inside.texts.items c.self.inside.content c.self.inside.at c.self.invariant.fine;
}

pub returns-then-self-len : goal.returns-then-self-len
returns-then-self-len c =
    items-passed c.self.inside.texts.items c.self.inside.content c.self.inside.at ∙ ap (drop 1) c.self.view_is
