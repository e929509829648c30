use Rattle.std.proofs.Common.{[], ◌∷◌, ◌++◌, subst, sym}
use Rattle.osm_entity.specs.Growth.{broken_after}
use Rattle.osm_entity.specs.declared.stream.End.TheVariants.{Broken}
use Rattle.osm_pbf.specs.WrittenFile.{TookPrefix}
use Rattle.osm_pbf.proofs.WritingLemmas.{prefix-onward}
use Rattle.osm_machine.specs.Writers.{PbfWrote}
use Rattle.osm_machine.proofs.ResultLemmas.{OnErr-always, OnErr-weaker, OnOk-weaker}
use Rattle.osm_machine.proofs.pbf_file.PbfFile.put.Goals as goal

pub returns-in_err-begin-clause-some : goal.returns-in_err-begin-clause-some
returns-in_err-begin-clause-some g c = OnErr-always c.from_residual.result
    (λ first items wrote. prefix-onward c.args.self.now.writer.options first (g.K.Sink.taken c.begin.new.sink) items
    (c.args.item.now ∷ []) Broken (c.in_err-begin.ensures.some first items wrote))

pub returns-clause-wrote : goal.returns-clause-wrote
returns-clause-wrote g c = OnOk-weaker c.put.result
    (λ wrote first items stood.
    subst (λ b. PbfWrote b c.put.new.self first (g.K.Sink.taken c.put.new.sink) (items ++ c.args.item.now ∷ []))
    (sym c.in_ok-begin.ensures.begun) (wrote first items (c.in_ok-begin.ensures.wrote first items stood)))
    c.put.ensures.wrote

pub returns-clause-some : goal.returns-clause-some
returns-clause-some g c = OnErr-weaker c.put.result
    (λ some first items stood.
    subst (λ o. TookPrefix o first (g.K.Sink.taken c.put.new.sink) (broken_after (items ++ c.args.item.now ∷ [])))
    c.begin.ensures.options (some first items (c.in_ok-begin.ensures.wrote first items stood))) c.put.ensures.some
