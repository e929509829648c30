use Rattle.std.proofs.Common.{◌≡◌, ◌+◌, ◌++◌, ◌∷◌, [], length, map, pos, of_z, w64, ap, arith, rules, subst, sym}
use Rattle.std.proofs.lemmas.Int.{ints}
use Rattle.std.proofs.lemmas.List.{length-map}
use Rattle.osm_wire.specs.Integers.{int32}
use Rattle.osm_block_read.proofs.TagLemmas.{IsNodeOpen, node-end, node-goes_on, open-end, open-more, open-past, open-short}
use Rattle.osm_block_read.proofs.row.Lists.add_node_tags.Goals as goal

pub returns-then-key-eq0-clause-added : goal.returns-then-key-eq0-clause-added
returns-then-key-eq0-clause-added c =
    let indexes = map int32 c.args.codes.now in
    let long : length indexes ≡ length c.args.codes.now = length-map c.args.codes.now int32 in
    let ends : c.index_at-key.result ≡ pos 0 = first_of (omega (arith, ints), search rules) in
    open-end c.args.self.now.tags.items c.loop-at.self.tags.items indexes c.args.from c.loop-at.at c.index_at-key.result
    c.loop-at.invariant.open_node (omega (arith, long, c.loop-at-test.true)) c.index_at-key.ensures
    (node-end c.index_at-key.result ends)

pub returns-then-at-codes-clause-added : goal.returns-then-at-codes-clause-added
returns-then-at-codes-clause-added c =
    let indexes = map int32 c.args.codes.now in
    let long : length indexes ≡ length c.args.codes.now = length-map c.args.codes.now int32 in
    open-short c.args.self.now.tags.items c.loop-at.self.tags.items indexes c.args.from c.loop-at.at
    c.index_at-key.result
    c.loop-at.invariant.open_node (omega (arith, long, c.if-at-codes.true)) c.index_at-key.ensures
    (node-goes_on c.index_at-key.result (λ is. c.if-key-eq0.false (ap (of_z w64) is)))

pub loop-at-preserved : goal.loop-at-preserved
loop-at-preserved c =
    let indexes = map int32 c.args.codes.now in
    let long : length indexes ≡ length c.args.codes.now = length-map c.args.codes.now int32 in
    let got : c.push.new.self.items
    ≡ c.loop-at.self.tags.items ++ record { key = c.index_at-key.result; value = c.index_at-value.result } ∷ [] =
    search rules in
    let more =
    open-more c.args.self.now.tags.items c.loop-at.self.tags.items indexes c.args.from c.loop-at.at
    c.index_at-key.result
    c.index_at-value.result c.loop-at.invariant.open_node (omega
    (arith, long, c.loop-at-test.true, c.if-at-codes.false))
    c.index_at-key.ensures c.index_at-value.ensures (node-goes_on c.index_at-key.result
    (λ is. c.if-key-eq0.false (ap (of_z w64) is))) in
    record {
      open_node = subst (λ items. IsNodeOpen c.args.self.now.tags.items items indexes c.args.from (c.loop-at.at + 2))
          (sym got) more;
      refs = c.loop-at.invariant.refs;
      members = c.loop-at.invariant.members;
    }

pub returns-clause-added : goal.returns-clause-added
returns-clause-added c =
    let indexes = map int32 c.args.codes.now in
    let long : length indexes ≡ length c.args.codes.now = length-map c.args.codes.now int32 in
    open-past c.args.self.now.tags.items c.loop-at.self.tags.items indexes c.args.from c.loop-at.at
    c.loop-at.invariant.open_node
    (omega (arith, long, c.requires)) (omega (arith, long, c.loop-at-test.false))
