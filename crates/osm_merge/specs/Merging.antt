-- What machines of merge and merge-change mean.
-- Here a merge is its two heads and the choice of its resolution.
use Rattle.osm_merge.specs.Choices.{chosen_by}
use Rattle.osm_merge.specs.Heads.{heads_of}
use Rattle.osm_merge.specs.TwoInputs.{TwoInputs, two_within}
use Rattle.osm_merge.specs.declared.merge.Merge.{Merge}

-- machines of merge and merge-change: two heads that choose by a resolution
abbrev pub merging : TwoInputs Merge
merging = two_within (λ m. m.heads) (heads_of chosen_by)
