use Rattle.std.proofs.Common.{◌≡◌, take}
use Rattle.std.specs.List.{list_any}
use Rattle.osm_select.specs.Links.{is_relation_of, linked, with_links}
use Rattle.osm_select.proofs.sets.link_members.Given as goal

abbrev pub invariant-loop-member : goal.invariant-loop-member
invariant-loop-member l = linked l.links
    ≡ with_links l.by (λ n. list_any (is_relation_of n) (take l.member-index l.members)) (linked l.initial.links)
