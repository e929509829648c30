use Rattle.std.proofs.Common.{◌≡◌, ℕ, List, ◌+◌, ◌-◌, ◌∙◌, ◌++◌, length, sym, ap, subst, min, Ok, arith}
use Rattle.std.proofs.lemmas.List.{length-append}
use Rattle.osm_host.specs.Counts.{last_count}
use Rattle.osm_host.specs.Feeds.{feed_after}
use Rattle.osm_host.specs.Pulls.{PulledOnce, source_value}
use Rattle.osm_host.specs.declared.feed.Feed.{Feed}
use Rattle.osm_pbf.specs.Pulled.{FilledPiece}
use Rattle.osm_pbf.specs.Reader.{IsPbfReader, PbfReaderValue, pbf_fed}
use Rattle.osm_pbf.specs.ReaderSeen.{pbf_reader_seen}
use Rattle.osm_pbf.specs.Standing.{StandsForPbf}
use Rattle.osm_pbf.specs.Steps.{pbf_handed}
use Rattle.osm_pbf.proofs.PullingLemmas.{holds_after, holds_short, kept_handed, pulled}
use Rattle.osm_pbf.proofs.reading.PbfReader.pull.Goals as goal

-- a reader with what a pull changed
abbrev moved : ℕ → Feed → List ℕ → PbfReaderValue → PbfReaderValue
moved given feed piece r = record r { given = given; feed = feed; piece = piece }

pub returns-in-Ok-clause-pulled : goal.returns-in-Ok-clause-pulled
returns-in-Ok-clause-pulled g c =
    let old = c.args.self.now in
    let new = moved c.saturating_add-self-inside.result c.after-self-inside.result c.pull.new.self in
    let mid : pbf_reader_seen c.self.inside ≡ pbf_handed old = c.self.view_is ∙ c.in_ok-hand_over.ensures.ok in
    subst
    (λ r. PulledOnce pbf_fed StandsForPbf
    (source_value g.S.Source.rest g.S.Source.given g.S.Source.faults c.args.source.now)
    (source_value g.S.Source.rest g.S.Source.given g.S.Source.faults c.pull.new.source) old (new r)) (sym mid)
    (pulled g.S.Source.rest g.S.Source.given g.S.Source.faults c.args.source.now c.pull.new.source old c.pull.new.self
    c.in-Ok.count c.saturating_add-self-inside.result c.after-self-inside.result c.requires
    (kept_handed old (subst IsPbfReader mid c.self.invariant)) c.in-Ok.ensures.small
    (subst
    (λ r. FilledPiece g.S.Source.rest c.args.source.now c.pull.new.source (r.limit - r.given) c.in-Ok.count
    c.pull.new.self) mid c.in-Ok.ensures.filled) c.in-Ok.ensures.given
    (λ none. c.in-Ok.ensures.end (ap Ok none)) c.in-Ok.ensures.faults
    (c.saturating_add-self-inside.ensures ∙ ap (λ r. min (r.given + c.in-Ok.count) last_count) mid)
    (c.after-self-inside.ensures ∙ ap (λ r. feed_after c.in-Ok.count (r.limit - r.given)) mid))

pub returns-in-Ok-clause-short : goal.returns-in-Ok-clause-short
returns-in-Ok-clause-short g c =
    let old = c.args.self.now in
    let mid : pbf_reader_seen c.self.inside ≡ pbf_handed old = c.self.view_is ∙ c.in_ok-hand_over.ensures.ok in
    let unread = c.self.inside.blobs.unread in
    λ wants.
    holds_short old (length (unread ++ c.pull.new.self))
    (omega (
      arith,
      holds_after g.S.Source.rest c.args.source.now c.pull.new.source (c.self.inside.limit - c.self.inside.given)
          c.in-Ok.count unread c.pull.new.self c.in-Ok.ensures.small c.in-Ok.ensures.filled,
      ap (λ r. length r.blobs.unread) mid,
    )) wants

pub returns-in-Err-clause-short : goal.returns-in-Err-clause-short
returns-in-Err-clause-short g c =
    let old = c.args.self.now in
    let mid : pbf_reader_seen c.self.inside ≡ pbf_handed old = c.self.view_is ∙ c.in_ok-hand_over.ensures.ok in
    let unread = c.self.inside.blobs.unread in
    λ wants.
    holds_short old (length (unread ++ c.pull.new.self))
    (omega (
      arith,
      length-append unread c.pull.new.self,
      ap length c.in-Err.ensures.err,
      ap (λ r. length r.blobs.unread) mid,
    )) wants
