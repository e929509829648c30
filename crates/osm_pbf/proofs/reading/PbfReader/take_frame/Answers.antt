use Rattle.std.proofs.Common.{◌∙◌, ap, subst}
use Rattle.osm_blob.specs.Blobs.{RefusedFrame, TookFrame}
use Rattle.osm_pbf.specs.ReaderSeen.{pbf_reader_seen}
use Rattle.osm_pbf.specs.Steps.{pbf_passed, pbf_refused}
use Rattle.osm_pbf.proofs.PassingLemmas.{reader_passed, steps_frame, steps_refused, with_blobs}
use Rattle.osm_pbf.proofs.reading.PbfReader.take_frame.Goals as goal

pub invariant_of-self : goal.invariant_of-self
invariant_of-self c =
    reader_passed (pbf_reader_seen c.self.inside) c.next.new.self c.in-Ok-Some.frame c.self.invariant
    (rw c.in-Ok-Some.field-0-is at c.in-Ok-Some.ensures.answers)

pub returns-in-Ok-Some : goal.returns-in-Ok-Some
returns-in-Ok-Some c =
    let frame = c.in-Ok-Some.frame in
    let blobs = c.next.new.self in
    steps_frame c.args.self.now c.pass.new.self blobs frame c.requires
    (subst (λ r. TookFrame r.blobs blobs frame) c.self.view_is
    (rw c.in-Ok-Some.field-0-is at c.in-Ok-Some.ensures.answers))
    (c.pass.ensures ∙ ap (λ r. pbf_passed frame (with_blobs blobs r)) c.self.view_is)

pub returns-in-Err-Bad : goal.returns-in-Err-Bad
returns-in-Err-Bad c =
    let blobs = c.next.new.self in
    let cause = c.in-Err-Bad.cause in
    steps_refused c.args.self.now c.refuse.new.self blobs cause c.requires
    (subst (λ r. RefusedFrame r.blobs blobs cause) c.self.view_is
    (rw c.in-Err-Bad.field-0-is at c.in-Err-Bad.ensures.answers))
    (c.refuse.ensures ∙ ap (λ r. pbf_refused cause (with_blobs blobs r)) c.self.view_is)
