use Rattle.std.proofs.Common.{rules, ◌≡◌, ap, sym, ◌∙◌}
use Rattle.osm_pbf.proofs.ClosingLemmas.{other_kind}
use Rattle.osm_pbf.proofs.writing.PbfWriter.add.Goals as goal

pub returns-then-ne-clause-refused : goal.returns-then-ne-clause-refused
returns-then-ne-clause-refused c = λ refused run h some.
    other_kind c.args.self.now.maker c.args.self.now.options.batchlimit run c.args.item.now.entity h some
    (λ same.
    let is : c.key.result.kind ≡ c.self.inside.kind = ap (λ k. k.kind) c.key.ensures ∙ same
    ∙ ap (λ w. w.maker.kind) (sym c.self.view_is)
    ∙ c.self.invariant.kind in
    search rules)
