use Rattle.std.proofs.lemmas.Result.{on_err_weaker}
use Rattle.osm_host_std.proofs.WrittenLemmas.{prefix_of_next}
use Rattle.osm_host_std.proofs.gatherer.Gatherer.take.Goals as goal

pub returns-then-bytes-capacity-2-clause-err : goal.returns-then-bytes-capacity-2-clause-err
returns-then-bytes-capacity-2-clause-err g c =
    on_err_weaker c.write.result
    (prefix_of_next (g.F.Write.contents c.args.self.now.output.file)
    (g.F.Write.contents c.write_out.new.self.output.file) (g.F.Write.contents c.write.new.self.file)
    c.args.self.now.gathered.items c.args.bytes.now c.in_ok-write_out.ensures.ok)
    c.write.ensures.err
