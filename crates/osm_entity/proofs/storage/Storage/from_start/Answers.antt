use Rattle.std.proofs.Common.{◌∙◌, ap, take}
use Rattle.std.proofs.lemmas.List.{take-take}
use Rattle.osm_entity.specs.Storage.{text_room}
use Rattle.osm_entity.proofs.storage.Storage.from_start.Goals as goal

pub returns-in-Some-clause-value : goal.returns-in-Some-clause-value
returns-in-Some-clause-value c =
    c.first_of.ensures.value ∙ ap (take c.args.len) c.in-Some.ensures.cases.same
    ∙ take-take c.args.len text_room c.args.bytes.now c.if-len-gt-ROOM.false
