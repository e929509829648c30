use Rattle.std.proofs.Common.{rules, ◌≡◌, ◌<◌, length, true, ap, subst, sym, ◌∙◌}
use Rattle.std.specs.Prelude.{nat_lt}
use Rattle.osm_blob.specs.Messages.{raw_limit}
use Rattle.osm_block_write.specs.Making.{Holds}
use Rattle.osm_block_write.specs.Runs.{open_run}
use Rattle.osm_pbf.specs.WrittenFile.{run_frames}
use Rattle.osm_pbf.specs.WriterSeen.{writer_seen}
use Rattle.osm_pbf.proofs.ClosingLemmas.{closed-some, put_err, put_ok, writer-short}
use Rattle.osm_pbf.proofs.writing.PbfWriter.close.Goals as goal

pub frame-requires-clause-short : goal.frame-requires-clause-short
frame-requires-clause-short g c =
    subst (λ b. length b < raw_limit) (sym c.as_slice.ensures)
    (writer-short (writer_seen c.self.inside) c.in_ok-block.block c.self.invariant.writer c.in_ok-block.ensures.block)

pub returns-clause-ok : goal.returns-clause-ok
returns-clause-ok g c = λ run h.
    let some : true ≡ nat_lt 0 c.self.inside.maker.count = search rules in
    let own = subst (λ w. Holds w.maker run) (sym c.self.view_is) h in
    put_ok c.put.result (run_frames c.args.self.now.options (open_run run)) c.as_slice-2.result.now
    (g.K.Sink.taken c.args.sink.now) (g.K.Sink.taken c.put.new.self)
    (ap (λ w. run_frames w.options (open_run run)) (sym c.self.view_is)
    ∙ ap (λ o. run_frames o (open_run run)) (sym c.self.invariant.writer.alike)
    ∙ closed-some c.self.inside.maker run c.as_slice.result.now c.as_slice-2.result.now own some
    (c.as_slice.ensures ∙ c.in_ok-block.ensures.block run own) (c.as_slice-2.ensures ∙ c.in_ok-frame.ensures))
    c.put.ensures.takes

pub returns-clause-err : goal.returns-clause-err
returns-clause-err g c = λ run h.
    let some : true ≡ nat_lt 0 c.self.inside.maker.count = search rules in
    let own = subst (λ w. Holds w.maker run) (sym c.self.view_is) h in
    put_err c.put.result (run_frames c.args.self.now.options (open_run run)) c.as_slice-2.result.now
    (g.K.Sink.taken c.args.sink.now) (g.K.Sink.taken c.put.new.self)
    (ap (λ w. run_frames w.options (open_run run)) (sym c.self.view_is)
    ∙ ap (λ o. run_frames o (open_run run)) (sym c.self.invariant.writer.alike)
    ∙ closed-some c.self.inside.maker run c.as_slice.result.now c.as_slice-2.result.now own some
    (c.as_slice.ensures ∙ c.in_ok-block.ensures.block run own) (c.as_slice-2.ensures ∙ c.in_ok-frame.ensures))
    c.put.ensures.takes
