use Rattle.std.proofs.Common.{arith}
use Rattle.osm_text.specs.Times.{day_number}
use Rattle.osm_text.proofs.DateLemmas.{next-numbered, numbered-date}
use Rattle.osm_text.proofs.time_laws.days_follow.Goals as goal

pub returns : goal.returns
returns c = λ d exists.
    let next = next-numbered d (day_number d.year d.month d.day) (numbered-date d.year d.month d.day exists) in
    omega (arith, next.value)
