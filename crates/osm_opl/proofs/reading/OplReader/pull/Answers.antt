use Rattle.std.proofs.Common.{ℕ, ◌+◌, ◌-◌, ◌∙◌, sym, ap, subst, min, Ok}
use Rattle.osm_host.specs.Counts.{last_count}
use Rattle.osm_host.specs.Feeds.{feed_after}
use Rattle.osm_host.specs.Pulls.{PulledOnce, source_value}
use Rattle.osm_host.specs.declared.feed.Feed.{Feed}
use Rattle.osm_opl.specs.Found.{Filled}
use Rattle.osm_opl.specs.Reader.{IsReader, ReaderValue, fed}
use Rattle.osm_opl.specs.Standing.{Stands}
use Rattle.osm_opl.specs.Unread.{UnreadValue}
use Rattle.osm_opl.proofs.PullingLemmas.{pulled}
use Rattle.osm_opl.proofs.reading.OplReader.pull.Goals as goal

-- a reader with what a pull changed
abbrev moved : ℕ → Feed → UnreadValue → ReaderValue → ReaderValue
moved given feed unread r = record r { given = given; feed = feed; unread = unread }

pub returns-in-Ok-clause-pulled : goal.returns-in-Ok-clause-pulled
returns-in-Ok-clause-pulled g c =
    let new = moved c.saturating_add-self-inside.result c.after-self-inside.result c.pull.new.self in
    subst
    (λ r. PulledOnce fed Stands
    (source_value g.S.Source.rest g.S.Source.given g.S.Source.faults c.args.source.now)
    (source_value g.S.Source.rest g.S.Source.given g.S.Source.faults c.pull.new.source) c.args.self.now (new r))
    (sym c.self.view_is)
    (pulled g.S.Source.rest g.S.Source.given g.S.Source.faults c.args.source.now c.pull.new.source c.args.self.now
    c.pull.new.self c.in-Ok.count c.saturating_add-self-inside.result c.after-self-inside.result c.requires
    (subst IsReader c.self.view_is c.self.invariant) c.in-Ok.ensures.small
    (subst
    (λ r. Filled g.S.Source.rest c.args.source.now c.pull.new.source (r.limit - r.given) c.in-Ok.count r.unread
    c.pull.new.self) c.self.view_is c.in-Ok.ensures.filled) c.in-Ok.ensures.given
    (λ none. c.in-Ok.ensures.end (ap Ok none)) c.in-Ok.ensures.faults
    (c.saturating_add-self-inside.ensures ∙ ap (λ r. min (r.given + c.in-Ok.count) last_count) c.self.view_is)
    (c.after-self-inside.ensures ∙ ap (λ r. feed_after c.in-Ok.count (r.limit - r.given)) c.self.view_is))
