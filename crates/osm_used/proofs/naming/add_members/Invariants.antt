use Rattle.std.proofs.Common.{◌≡◌, ℤ, take}
use Rattle.std.specs.Prelude.{◌||◌}
use Rattle.std.specs.List.{list_any}
use Rattle.osm_used.specs.Used.{has_id, is_member}
use Rattle.osm_used.proofs.naming.add_members.Given as goal

abbrev pub invariant-loop-member : goal.invariant-loop-member
invariant-loop-member l = (q : ℤ) → has_id l.named q
    ≡ (has_id l.initial.named q || list_any (is_member l.kind q) (take l.member-index l.members))
