use Rattle.std.proofs.Common.{◌≡◌, ◌∙◌, ap, of_z, rules, to_z, w64}
use Rattle.std.proofs.lemmas.Int.{to_z-of_z}
use Rattle.osm_select.specs.IdSets.{among}
use Rattle.osm_select.proofs.RisingLemmas.{among-searched}
use Rattle.osm_select.proofs.ids.is_among.Goals as goal

pub returns : goal.returns
returns c =
    let same : to_z w64 (of_z w64 c.args.id) ≡ c.args.id = search (rules, to_z-of_z) in
    c.is_ok.ensures.value
    ∙ among-searched c.args.rising.now (to_z w64 (of_z w64 c.args.id)) c.binary_search.result c.requires
    c.binary_search.ensures.bound c.binary_search.ensures.position
    ∙ ap (among c.args.rising.now) same
