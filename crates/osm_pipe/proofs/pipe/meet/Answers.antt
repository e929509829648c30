use Rattle.std.proofs.Common.{rules, ◌≡◌, true, subst}
use Rattle.osm_entity.specs.Ports.{has_end, EndsLast}
use Rattle.osm_entity.specs.Prefixes.{IsPrefix}
use Rattle.osm_pipe.specs.Pipes.{HalfValue}
use Rattle.osm_pipe.proofs.PipeLemmas.{halves_meet, prefix_of}
use Rattle.osm_pipe.proofs.pipe.meet.Goals as goal

pub returns-in-Bounded-way-clause-meets : goal.returns-in-Bounded-way-clause-meets
returns-in-Bounded-way-clause-meets g c =
    let taken = c.args.taken.list in
    let sent = c.args.sent.list in
    let shut = subst (λ (h : HalfValue). (has_end h.list ≡ true) × EndsLast h.list) c.sent.view_is c.sent.invariant in
    let prefix : IsPrefix taken sent =
    prefix_of _ _ taken sent c.bounded_meets.ensures.prefix (search rules) (search rules) in
    halves_meet taken sent prefix shut.0 shut.1

pub returns-in-Spool-way-2-clause-meets : goal.returns-in-Spool-way-2-clause-meets
returns-in-Spool-way-2-clause-meets g c =
    let taken = c.args.taken.list in
    let sent = c.args.sent.list in
    let shut = subst (λ (h : HalfValue). (has_end h.list ≡ true) × EndsLast h.list) c.sent.view_is c.sent.invariant in
    let prefix : IsPrefix taken sent =
    prefix_of _ _ taken sent c.spool_meets.ensures (search rules) (search rules) in
    halves_meet taken sent prefix shut.0 shut.1
