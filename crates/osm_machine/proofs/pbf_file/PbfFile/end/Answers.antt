use Rattle.std.proofs.Common.{[], append-nil, subst}
use Rattle.osm_pbf.specs.WrittenFile.{TookFile, TookPrefix}
use Rattle.osm_pbf.proofs.WritingLemmas.{prefix-onward}
use Rattle.osm_machine.proofs.ResultLemmas.{OnErr-always, OnErr-weaker, OnOk-weaker}
use Rattle.osm_machine.proofs.pbf_file.PbfFile.end.Goals as goal

pub returns-in_err-begin-clause-some : goal.returns-in_err-begin-clause-some
returns-in_err-begin-clause-some g c = OnErr-always c.from_residual.result
    (λ first items wrote.
    subst (λ all. TookPrefix c.args.self.now.writer.options first (g.K.Sink.taken c.begin.new.sink)
    (record { items = all; end = c.args.end })) (append-nil items)
    (prefix-onward c.args.self.now.writer.options first (g.K.Sink.taken c.begin.new.sink) items [] c.args.end
    (c.in_err-begin.ensures.some first items wrote)))

pub returns-clause-file : goal.returns-clause-file
returns-clause-file g c = OnOk-weaker c.end.result
    (λ file first items stood.
    subst (λ o. TookFile o first (g.K.Sink.taken c.end.new.sink) (record { items = items; end = c.args.end }))
    c.begin.ensures.options (file first items (c.in_ok-begin.ensures.wrote first items stood))) c.end.ensures.file

pub returns-clause-some : goal.returns-clause-some
returns-clause-some g c = OnErr-weaker c.end.result
    (λ some first items stood.
    subst (λ o. TookPrefix o first (g.K.Sink.taken c.end.new.sink) (record { items = items; end = c.args.end }))
    c.begin.ensures.options (some first items (c.in_ok-begin.ensures.wrote first items stood))) c.end.ensures.some
