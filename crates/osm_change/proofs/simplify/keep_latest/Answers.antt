use Rattle.std.proofs.Common.{◌∙◌, sym, ap}
use Rattle.std.specs.Option.{option_copied}
use Rattle.std.proofs.lemmas.Result.{on_ok_weaker}
use Rattle.osm_change.proofs.PlaceLemmas.{has_more, has_still, place_told, put_behind, replaced}
use Rattle.osm_change.proofs.simplify.keep_latest.Goals as goal

pub replace-requires : goal.replace-requires
replace-requires c = (replaced c.args.item c.args.kept.now c.in-Some.place.now
    (place_told c.args.places.now c.args.kept.now c.args.item c.key-key.result _ c.requires c.key-key.ensures
    (sym (ap option_copied c.in-Some.is) ∙ c.get.ensures.value))).0

pub returns-in-Some-clause-ok : goal.returns-in-Some-clause-ok
returns-in-Some-clause-ok c = c.replace.ensures ∙ (replaced c.args.item c.args.kept.now c.in-Some.place.now
    (place_told c.args.places.now c.args.kept.now c.args.item c.key-key.result _ c.requires c.key-key.ensures
    (sym (ap option_copied c.in-Some.is) ∙ c.get.ensures.value))).1

pub returns-in-Some-clause-places : goal.returns-in-Some-clause-places
returns-in-Some-clause-places c =
    let found = place_told c.args.places.now c.args.kept.now c.args.item c.key-key.result _ c.requires
    c.key-key.ensures (sym (ap option_copied c.in-Some.is) ∙ c.get.ensures.value) in
    has_still c.args.places.now c.args.kept.now c.replace.new.self c.args.item c.in-Some.place.now c.requires found
    (c.replace.ensures ∙ (replaced c.args.item c.args.kept.now c.in-Some.place.now found).1)

pub returns-in-Ok-clause-ok : goal.returns-in-Ok-clause-ok
returns-in-Ok-clause-ok c = on_ok_weaker c.push.result
    (λ pushed. pushed ∙ put_behind c.args.item c.args.kept.now
    (place_told c.args.places.now c.args.kept.now c.args.item c.key-key.result _ c.requires c.key-key.ensures
    (sym (ap option_copied c.in_default.is) ∙ c.get.ensures.value)))
    c.push.ensures.ok

pub returns-in-Ok-clause-places : goal.returns-in-Ok-clause-places
returns-in-Ok-clause-places c = on_ok_weaker c.push.result
    (has_more c.args.places.now c.insert.new.self c.args.kept.now c.push.new.self c.args.item c.key-key.result
    c.len.result c.requires c.key-key.ensures c.len.ensures
    (place_told c.args.places.now c.args.kept.now c.args.item c.key-key.result _ c.requires c.key-key.ensures
    (sym (ap option_copied c.in_default.is) ∙ c.get.ensures.value))
    c.in-Ok.ensures.updates.0)
    c.push.ensures.ok
