use Rattle.std.proofs.Common.{◌≡◌, [], length}
use Rattle.osm_entity.specs.declared.verdict.Verdict.TheVariants.{Running}
use Rattle.osm_opl.specs.Reader.{SameSource}
use Rattle.osm_opl.specs.Standing.{GaveItems}
use Rattle.osm_opl.specs.Unread.{unread_bytes}
use Rattle.osm_opl.proofs.reading.OplReader.next.Given as goal

abbrev pub invariant-loop-self : goal.invariant-loop-self
invariant-loop-self l = record {
  same : SameSource l.initial.self l.self;
  gave : GaveItems l.initial.self l.self [];
  ran : l.self.verdict ≡ Running → l.initial.self.verdict ≡ Running;
}

abbrev pub decreases-loop-self : goal.decreases-loop-self
decreases-loop-self l = length (unread_bytes l.self.unread)
