use Rattle.std.proofs.Common.{◌≡◌, Some, arith}
use Rattle.std.proofs.lemmas.Result.{on_ok_weaker}
use Rattle.osm_wire.specs.Entries.{message_fields}
use Rattle.osm_block_read.proofs.ContentLemmas.{group-read}
use Rattle.osm_block_read.proofs.content.Content.read_group.Goals as goal

pub returns-clause-ok : goal.returns-clause-ok
returns-clause-ok c =
    let fields : message_fields c.args.message.now ≡ Some c.in_ok-fields.fields = grind arith in
    on_ok_weaker c.read_entries-3.result
    (λ relations.
    group-read c.args.message.now c.in_ok-fields.fields c.args.self.now c.read_entries.new.self c.read_dense.new.self
    c.read_entries-2.new.self c.read_entries-3.new.self fields c.in_ok-read_entries.ensures.ok
    c.in_ok-read_dense.ensures.ok
    c.in_ok-read_entries-2.ensures.ok relations)
    c.read_entries-3.ensures.ok
