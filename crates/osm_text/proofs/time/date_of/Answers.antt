use Rattle.std.proofs.Common.{◌∙◌}
use Rattle.osm_text.proofs.LibraryLemmas.{date-after, kept-day}
use Rattle.osm_text.proofs.time.date_of.Goals as goal

pub returns : goal.returns
returns c =
    let number = c.in-Ok.ensures.value ∙ kept-day c.from.result c.args.day c.from.ensures c.requires in
    let is = date-after c.in-Ok.date c.args.day number in
    record { year = is.0; month = is.1; day = is.2 }
