use Rattle.std.proofs.Common.{◌≡◌, ◌∙◌, List, ap, refl, rules, take, of_z, to_z, w64}
use Rattle.std.specs.List.{list_any}
use Rattle.std.proofs.lemmas.Int.{to_z-of_z}
use Rattle.std.proofs.lemmas.List.{take_all}
use Rattle.osm_entity.specs.declared.parts.Member.{Member}
use Rattle.osm_select.specs.Links.{is_relation_kind, is_relation_of, linked, with_links}
use Rattle.osm_select.proofs.SetLemmas.{links_more}
use Rattle.osm_select.proofs.sets.link_members.Goals as goal

pub loop-member-preserved : goal.loop-member-preserved
loop-member-preserved c =
    let member = c.member-item.result in
    links_more (is_relation_kind member.kind) (to_z w64 (of_z w64 c.args.by)) (linked c.args.links.now)
    (linked c.loop-member.links) (linked c.link_member.new.links) c.args.members.now c.loop-member.member-index member
    member.id _ c.loop-member-test.true c.member-item.is refl refl refl c.loop-member.invariant
    c.in_ok-link_member.ensures

pub returns : goal.returns
returns c =
    let by : to_z w64 (of_z w64 c.args.by) ≡ c.args.by = search (rules, to_z-of_z) in
    c.loop-member.invariant
    ∙ ap (λ by. with_links by (λ n. list_any (is_relation_of n) (take c.loop-member.member-index c.args.members.now))
    (linked c.args.links.now)) by
    ∙ ap (λ (members : List Member). with_links c.args.by (λ n. list_any (is_relation_of n) members)
    (linked c.args.links.now)) (take_all c.loop-member.member-index c.args.members.now c.loop-member-test.false)
