use Rattle.std.proofs.Common.{◌<◌, length, ap, subst, sym, ◌∙◌}
use Rattle.osm_blob.specs.Messages.{raw_limit}
use Rattle.osm_blob.specs.Written.{written_frame}
use Rattle.osm_blob.specs.declared.messages.What.TheVariants.{Header}
use Rattle.osm_pbf.specs.WrittenFile.{header_frame}
use Rattle.osm_pbf.proofs.ClosingLemmas.{begun, header-short}
use Rattle.osm_pbf.proofs.writing.PbfWriter.begin.Goals as goal

pub frame-requires-clause-short : goal.frame-requires-clause-short
frame-requires-clause-short g c =
    subst (λ b. length b < raw_limit) (sym (c.as_slice.ensures ∙ c.in_ok-block.ensures))
    (header-short c.self.inside.options)

pub returns-clause-wrote : goal.returns-clause-wrote
returns-clause-wrote g c =
    begun c.put.result c.args.self.now c.as_slice-2.result.now (g.K.Sink.taken c.args.sink.now)
    (g.K.Sink.taken c.put.new.self)
    (c.as_slice-2.ensures ∙ c.in_ok-header.ensures
    ∙ ap (written_frame Header) (c.as_slice.ensures ∙ c.in_ok-block.ensures)
    ∙ ap (λ w. header_frame w.options) c.self.view_is)
    c.put.ensures.takes
