use Rattle.std.proofs.Common.{refl, sym}
use Rattle.osm_blob.specs.declared.reading.Frame.{Frame}
use Rattle.osm_blob.proofs.BlobsLemmas.{bad_stands, none_stands, some_stands}
use Rattle.osm_blob.proofs.LeadingLemmas.{leading_frame-size}
use Rattle.osm_blob.proofs.reading.BlobReader.next.Goals as goal

pub pass-requires-clause-some : goal.pass-requires-clause-some
pass-requires-clause-some c =
    (leading_frame-size c.args.self.now.unread c.in-Whole.what c.in-Whole.raw.now c.in-Whole.size
    (sym c.in-Whole.ensures.leading)).0

pub pass-requires-clause-fits : goal.pass-requires-clause-fits
pass-requires-clause-fits c =
    (leading_frame-size c.args.self.now.unread c.in-Whole.what c.in-Whole.raw.now c.in-Whole.size
    (sym c.in-Whole.ensures.leading)).1

pub returns-in-Short-clause-stands : goal.returns-in-Short-clause-stands
returns-in-Short-clause-stands c =
    none_stands c.args.self.now c.blame.new.self (sym c.in-Short.ensures.leading) c.blame.ensures

pub returns-in-Faulty-clause-stands : goal.returns-in-Faulty-clause-stands
returns-in-Faulty-clause-stands c =
    bad_stands c.args.self.now c.blame-in-Faulty.new.self c.in-Faulty.cause c.in-Faulty.blamed
    (sym c.in-Faulty.ensures.leading) c.blame-in-Faulty.ensures

pub returns-in_ok-raw-in-Whole-clause-stands : goal.returns-in_ok-raw-in-Whole-clause-stands
returns-in_ok-raw-in-Whole-clause-stands c =
    let frame : Frame = record {
      number = c.at-number.result.0;
      byte = c.at-number.result.1;
      what = c.in-Whole.what;
      raw = c.in_ok-raw-in-Whole.raw;
    } in
    some_stands c.args.self.now c.pass.new.self c.in-Whole.what c.in-Whole.raw.now c.in-Whole.size frame
    (sym c.in-Whole.ensures.leading) (rw (c.at-number.ensures, c.in_ok-raw-in-Whole.ensures) refl) c.pass.ensures
