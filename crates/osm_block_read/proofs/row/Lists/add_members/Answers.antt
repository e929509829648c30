use Rattle.std.proofs.Common.{◌≡◌, ◌<◌, ◌≤◌, ◌++◌, ◌∷◌, [], length, min, arith, rules}
use Rattle.osm_block_read.proofs.ListLemmas.{members-end, members-more}
use Rattle.osm_block_read.proofs.row.Lists.add_members.Goals as goal

pub loop-at-preserved : goal.loop-at-preserved
loop-at-preserved c =
    let kinds = c.args.kinds.now in
    let ids = c.args.ids.now in
    let roles = c.args.roles.now in
    let at = c.loop-at.at in
    let in_kinds : at < length kinds = omega (arith, c.loop-at-test.true) in
    let in_ids : at < length ids = omega (arith, c.loop-at-test.true) in
    let in_roles : at < length roles = omega (arith, c.loop-at-test.true) in
    let got : c.push.new.self.items ≡ c.loop-at.self.members.items ++ c.member_at.result ∷ [] = search rules in
    record {
      added = members-more _ _ _ _ _ _ kinds ids roles at _ _ in_kinds in_ids in_roles got c.member_at.ensures
          c.next_sum-id.ensures
          c.loop-at.invariant.added (search rules) (search rules);
      tags = c.loop-at.invariant.tags;
      refs = c.loop-at.invariant.refs;
    }

pub returns-clause-added : goal.returns-clause-added
returns-clause-added c =
    let past : min (min (length c.args.kinds.now) (length c.args.ids.now)) (length c.args.roles.now) ≤ c.loop-at.at =
    omega (arith, c.loop-at-test.false) in
    record {
      joined = members-end _ _ c.args.kinds.now c.args.ids.now c.args.roles.now c.loop-at.at _ past
          c.loop-at.invariant.added;
      start = omega (arith, c.len-start.ensures, c.args.self.now.members.ok.0);
      end = omega (arith, c.len-end.ensures, c.loop-at.self.members.ok.0);
    }
