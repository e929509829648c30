use Rattle.std.proofs.Common.{◌≡◌, ◌≤◌, ◌+◌, ◌*◌, length}
use Rattle.std.specs.Prelude.{◌==◌}
use Rattle.std.specs.List.{slice_split, sum_by}
use Rattle.osm_opl_line.specs.Contents.{all_in, parts_of}
use Rattle.osm_opl_line.specs.Cut.{weighed}
use Rattle.osm_opl_line.proofs.WeighingLemmas.{after_weight, all_weighed}
use Rattle.osm_opl_line.proofs.weighing.weigh_list.Given as goal

abbrev pub invariant-loop-part : goal.invariant-loop-part
invariant-loop-part g l = record {
  sum : weighed (sum_by g.T.Part.weight) (all_in g.T.Part.says (parts_of l.content))
      ≡ after_weight l.total (all_weighed g.T.Part.weight g.T.Part.says (slice_split (λ b. b == 44) l.rest));
  small : l.total + 33 * length l.rest ≤ 33 * length l.content;
}

abbrev pub decreases-loop-part : goal.decreases-loop-part
decreases-loop-part g l = length l.rest
