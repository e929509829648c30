-- What machines of apply-change mean.
-- Here an apply is its two heads, which lay changes over a base.
use Rattle.osm_change.specs.Changes.{laid_over}
use Rattle.osm_change.specs.declared.apply.Apply.{Apply}
use Rattle.osm_merge.specs.Heads.{heads_of}
use Rattle.osm_merge.specs.TwoInputs.{TwoInputs, two_within}

-- machines of apply-change: two heads that lay changes over a base
abbrev pub applying : TwoInputs Apply
applying = two_within (λ a. a.heads) (heads_of (λ c. laid_over))
