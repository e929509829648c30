use Rattle.std.proofs.Common.{◌≡◌, ◌∙◌, ◌++◌, ◌∷◌, [], ap, rules, to_z, of_z, w64}
use Rattle.std.proofs.lemmas.Int.{to_z-of_z}
use Rattle.std.proofs.lemmas.Result.{on_ok_weaker}
use Rattle.osm_select.specs.IdSets.{among}
use Rattle.osm_select.specs.Links.{linked, with_list, without_id}
use Rattle.osm_select.proofs.LinkLemmas.{link_added}
use Rattle.osm_select.proofs.links.Links.add.Goals as goal

pub returns : goal.returns
returns c =
    let named : to_z w64 (of_z w64 c.args.named) ≡ c.args.named = search (rules, to_z-of_z) in
    let by : to_z w64 (of_z w64 c.args.by) ≡ c.args.by = search (rules, to_z-of_z) in
    on_ok_weaker c.put.result
    (λ put. link_added c.args.named c.args.by c.or_none-ids.result (linked c.args.self.now) (linked c.take.new.self)
    (linked c.put.new.self)
    (c.or_none-ids.ensures ∙ c.take.ensures.ids ∙ ap (linked c.args.self.now) named)
    (c.take.ensures.rest ∙ ap (λ n. without_id n (linked c.args.self.now)) named)
    (put ∙ ap (λ n. with_list n (among c.push.new.self) (linked c.take.new.self)) named
    ∙ ap (λ ids. with_list c.args.named (among ids) (linked c.take.new.self))
    (c.in_ok-push.ensures.ok ∙ ap (λ b. c.or_none-ids.result ++ b ∷ []) by)))
    c.put.ensures
