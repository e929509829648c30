use Rattle.std.proofs.Common.{◌≡◌, ◌<◌, ◌++◌, ◌∷◌, [], length, refl, sym, arith, rules}
use Rattle.std.proofs.lemmas.List.{append-nil}
use Rattle.osm_block_read.specs.Rows.{entries_of}
use Rattle.osm_block_read.proofs.DenseLemmas.{node-added}
use Rattle.osm_block_read.proofs.row.Rows.add_nodes.Goals as goal

pub loop-at-init : goal.loop-at-init
loop-at-init c = record {
  within = c.requires.rows;
  entries = sym (append-nil (entries_of c.args.self.now));
  lists = refl;
  sums = c.new-sums.ensures c.args.codes.now;
}

pub loop-at-preserved : goal.loop-at-preserved
loop-at-preserved c =
    let row = c.dense_row.result in
    let within : c.loop-at.at < length c.args.spans.now = omega (arith, c.loop-at-test.true) in
    let got : c.push.new.self.items ≡ c.loop-at.self.rows.items ++ row ∷ [] = search rules in
    let more =
    node-added c.args.self.now c.loop-at.self (record c.loop-at.self { rows = c.push.new.self }) c.args.codes.now
    c.args.spans.now
    c.loop-at.at c.add.new.self c.info_at-info.result c.span_at.result row c.requires.even c.requires.count
    c.requires.spans within
    c.loop-at.invariant.within c.loop-at.invariant.entries c.loop-at.invariant.lists c.add.ensures
    c.info_at-info.ensures
    c.span_at.ensures c.dense_row.ensures got refl in
    record { within = more.0; entries = more.1; lists = c.loop-at.invariant.lists; sums = c.add.ensures }
