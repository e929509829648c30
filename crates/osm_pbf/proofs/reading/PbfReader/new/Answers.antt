use Rattle.std.proofs.Common.{refl}
use Rattle.osm_blob.proofs.LeadingLemmas.{leading_frame-nil}
use Rattle.osm_pbf.proofs.StandingLemmas.{new_stands}
use Rattle.osm_pbf.proofs.reading.PbfReader.new.Goals as goal

pub returns-clause-stands : goal.returns-clause-stands
returns-clause-stands c =
    new_stands _ refl refl refl c.none.ensures c.in_ok-new.ensures.new c.in_ok-new-2.ensures refl

pub returns-clause-wants : goal.returns-clause-wants
returns-clause-wants c = record {
  can = record { running = refl; feeds = refl };
  holds = record {
    said = c.none.ensures;
    piece = c.in_ok-new-2.ensures;
    leading = rw c.in_ok-new.ensures.new leading_frame-nil;
  };
}
