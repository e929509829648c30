use Rattle.std.proofs.Common.{rules, ◌≡◌, ◌≤◌, length, subst, sym}
use Rattle.osm_blob.specs.Written.{written_blob_header}
use Rattle.osm_blob.proofs.WrittenLemmas.{written_blob_header-short}
use Rattle.osm_blob.proofs.writing.blob_header.Goals as goal

pub returns-clause-short : goal.returns-clause-short
returns-clause-short c =
    let bytes : c.put_number.new.out ≡ written_blob_header c.args.what c.args.size = search rules in
    subst (λ b. length b ≤ 49) (sym bytes) (written_blob_header-short c.args.what c.args.size c.ranges.size.fits)
