use Rattle.std.proofs.Common.{rules, ◌≡◌, ◌≤◌, ◌++◌, length, subst, sym}
use Rattle.osm_wire.specs.Written.{shortest_varint}
use Rattle.osm_blob.proofs.WrittenLemmas.{blob_start-short}
use Rattle.osm_blob.proofs.writing.start_of_blob.Goals as goal

pub returns-clause-short : goal.returns-clause-short
returns-clause-short c =
    let bytes : c.put_varint-2.new.out ≡ shortest_varint 10 ++ shortest_varint c.args.count = search rules in
    subst (λ b. length b ≤ 20) (sym bytes) (blob_start-short c.args.count c.ranges.count.fits)
