use Rattle.std.proofs.Common.{◌≡◌, ◌<◌, ◌≤◌, ◌++◌, ◌∷◌, [], length, arith, rules}
use Rattle.osm_block_read.proofs.ListLemmas.{ids-end, ids-more}
use Rattle.osm_block_read.proofs.row.Lists.add_refs.Goals as goal

pub loop-at-preserved : goal.loop-at-preserved
loop-at-preserved c =
    let within : c.loop-at.at < length c.args.codes.now = omega (arith, c.loop-at-test.true) in
    let got : c.push.new.self.items ≡ c.loop-at.self.refs.items ++ c.next_sum-last.result ∷ [] = search rules in
    record {
      added = ids-more _ _ _ _ _ _ c.args.codes.now c.loop-at.at _ within got c.next_sum-last.ensures
          c.loop-at.invariant.added
          (search rules) (search rules);
      tags = c.loop-at.invariant.tags;
      members = c.loop-at.invariant.members;
    }

pub returns-clause-added : goal.returns-clause-added
returns-clause-added c =
    let past : length c.args.codes.now ≤ c.loop-at.at = omega (arith, c.loop-at-test.false) in
    record {
      joined = ids-end _ _ c.args.codes.now c.loop-at.at _ past c.loop-at.invariant.added;
      start = omega (arith, c.len-start.ensures, c.args.self.now.refs.ok.0);
      end = omega (arith, c.len-end.ensures, c.loop-at.self.refs.ok.0);
    }
