use Rattle.std.proofs.Common.{◌≡◌, ◌∙◌, ℤ, List, ap, of_z, rules, to_z, w64}
use Rattle.std.proofs.lemmas.Int.{to_z-of_z}
use Rattle.std.proofs.lemmas.Result.{on_ok_weaker}
use Rattle.osm_select.specs.IdSets.{among, with_id}
use Rattle.osm_select.proofs.RisingLemmas.{other_put}
use Rattle.osm_select.proofs.ids.Ids.add.Goals as goal

pub returns : goal.returns
returns c =
    let same : to_z w64 (of_z w64 c.args.id) ≡ c.args.id = search (rules, to_z-of_z) in
    on_ok_weaker c.add_other.result (λ put. other_put c.self.inside.rising.items c.self.inside.others.keys
    c.add_other.new.others.keys c.args.id
    (put ∙ ap (λ id. with_id id (among c.self.inside.others.keys)) same)
    ∙ ap (λ (ids : List ℤ). with_id c.args.id (among ids)) c.self.view_is) c.add_other.ensures
