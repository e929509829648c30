use Rattle.std.proofs.Common.{None}
use Rattle.osm_merge.specs.Rules.{merged}
use Rattle.osm_merge.proofs.RisingLemmas.{unique}
use Rattle.osm_merge.proofs.RuleLemmas.{from_rising, rule_at, rule_rises, to_rising}
use Rattle.osm_merge.proofs.laws.merges_are_told_by_keys.Goals as goal

pub returns-clause-rises : goal.returns-clause-rises
returns-clause-rises c choose good s t = to_rising None (merged choose s t).items (rule_rises choose good s t)

pub returns-clause-at : goal.returns-clause-at
returns-clause-at c choose good s t key = rule_at choose good s t key

pub returns-clause-one : goal.returns-clause-one
returns-clause-one c xs ys left right same =
    unique None None xs ys (from_rising None xs left) (from_rising None ys right) same
