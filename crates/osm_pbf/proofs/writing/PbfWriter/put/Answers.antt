use Rattle.std.proofs.Common.{rules, ◌≡◌, ◌≤◌, [], ◌∷◌, Ok, false, true, subst, ◌∙◌}
use Rattle.osm_entity.specs.Entities.{greatest_weight, weight_of}
use Rattle.osm_entity.specs.declared.stream.End.TheVariants.{Broken}
use Rattle.osm_block_write.proofs.ResultLemmas.{on_err}
use Rattle.osm_pbf.specs.WrittenFile.{runs_of_items}
use Rattle.osm_pbf.proofs.ClosingLemmas.{closed-prefix, closed-wrote, closing-prefix}
use Rattle.osm_pbf.proofs.WritingLemmas.{took-onward, wrote-taken}
use Rattle.osm_pbf.proofs.writing.PbfWriter.put.Goals as goal

pub returns-in_err-add-clause-some : goal.returns-in_err-add-clause-some
returns-in_err-add-clause-some g c =
    on_err c.from_residual.result
    (λ first items wrote. took-onward c.args.self.now.options first (g.K.Sink.taken c.args.sink.now) items
    (c.args.item.now ∷ []) Broken wrote.took)

pub returns-in_err-close-clause-some : goal.returns-in_err-close-clause-some
returns-in_err-close-clause-some g c =
    let light : weight_of c.args.item.now.entity ≤ greatest_weight =
    subst (λ i. weight_of i.entity ≤ greatest_weight) c.item.view_is
    (subst (λ e. weight_of e ≤ greatest_weight) c.deref.ensures c.kept.ensures.light) in
    let refused : c.add.result ≡ Ok false = search rules in
    on_err c.from_residual-in_err-close.result
    (closing-prefix c.args.self.now c.add.new.self c.args.item.now (g.K.Sink.taken c.args.sink.now)
    (g.K.Sink.taken c.close.new.sink) (c.add.ensures.same refused) light (c.add.ensures.refused refused)
    c.in_err-close.ensures.err)

pub returns-in_err-open-clause-some : goal.returns-in_err-open-clause-some
returns-in_err-open-clause-some g c =
    let light : weight_of c.args.item.now.entity ≤ greatest_weight =
    subst (λ i. weight_of i.entity ≤ greatest_weight) c.item.view_is
    (subst (λ e. weight_of e ≤ greatest_weight) c.deref.ensures c.kept.ensures.light) in
    let refused : c.add.result ≡ Ok false = search rules in
    on_err c.from_residual-in_err-open.result
    (closed-prefix c.args.self.now c.add.new.self c.args.item.now (g.K.Sink.taken c.args.sink.now)
    (g.K.Sink.taken c.close.new.sink) (c.add.ensures.same refused) light (c.add.ensures.refused refused)
    c.in_ok-close.ensures.ok)

pub returns-in_ok-open-clause-wrote : goal.returns-in_ok-open-clause-wrote
returns-in_ok-open-clause-wrote g c =
    let light : weight_of c.args.item.now.entity ≤ greatest_weight =
    subst (λ i. weight_of i.entity ≤ greatest_weight) c.item.view_is
    (subst (λ e. weight_of e ≤ greatest_weight) c.deref.ensures c.kept.ensures.light) in
    let refused : c.add.result ≡ Ok false = search rules in
    closed-wrote c.args.self.now c.add.new.self c.open.new.self c.args.item.now (g.K.Sink.taken c.args.sink.now)
    (g.K.Sink.taken c.close.new.sink) (c.add.ensures.same refused)
    (c.in_ok-open.ensures.options ∙ c.close.ensures.options ∙ c.add.ensures.options) light
    (c.add.ensures.refused refused) c.in_ok-close.ensures.ok c.in_ok-open.ensures.holds

pub returns-else-not-branch-clause-wrote : goal.returns-else-not-branch-clause-wrote
returns-else-not-branch-clause-wrote g c =
    let taken : c.add.result ≡ Ok true = search rules in
    λ first items wrote.
    let run = (runs_of_items c.args.self.now.options items).opened in
    wrote-taken c.args.self.now c.add.new.self first (g.K.Sink.taken c.args.sink.now) items c.args.item.now
    c.add.ensures.options (c.add.ensures.taken taken run wrote.holds) (c.add.ensures.holds taken run wrote.holds) wrote
