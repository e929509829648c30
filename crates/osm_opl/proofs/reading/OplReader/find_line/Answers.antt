use Rattle.std.proofs.Common.{◌∙◌, ap, subst}
use Rattle.osm_opl.specs.Found.{HasLine, IsHeld}
use Rattle.osm_opl.specs.Reader.{ReaderValue}
use Rattle.osm_opl.specs.ReaderSeen.{reader_seen}
use Rattle.osm_opl.specs.Unread.{UnreadValue}
use Rattle.osm_opl.proofs.ReadingLemmas.{finds_last, finds_line, finds_long}
use Rattle.osm_opl.proofs.reading.OplReader.find_line.Goals as goal

-- a reader with other unread bytes
abbrev moved : UnreadValue → ReaderValue → ReaderValue
moved unread r = record r { unread = unread }

pub returns-in-Line-clause-found : goal.returns-in-Line-clause-found
returns-in-Line-clause-found c =
    let unread = c.find_line.new.self in
    let has = rw c.in-Line.is at c.in_ok-count.ensures.found in
    finds_line c.args.self.now (moved unread (reader_seen c.self.inside)) c.in-Line.count c.in-Line.past
    (ap (moved unread) c.self.view_is)
    (subst (λ r. HasLine r.unread unread c.in-Line.count c.in-Line.past) c.self.view_is has)

pub returns-in-TooLong-clause-found : goal.returns-in-TooLong-clause-found
returns-in-TooLong-clause-found c =
    let unread = c.find_line.new.self in
    let long = rw c.in-TooLong.is at c.in_ok-count.ensures.found in
    finds_long c.args.self.now (moved unread (reader_seen c.self.inside)) c.in-TooLong.past
    (ap (moved unread) c.self.view_is) (long.0 ∙ ap (λ r. r.unread) c.self.view_is) long.1

pub returns-then-has_last-clause-found : goal.returns-then-has_last-clause-found
returns-then-has_last-clause-found c =
    let unread = c.find_line.new.self in
    let held = rw c.in-Unfinished.is at c.in_ok-count.ensures.found in
    finds_last c.args.self.now (moved unread (reader_seen c.self.inside)) (ap (moved unread) c.self.view_is)
    (c.has_last.ensures.ended c.if-has_last.true) (subst (λ r. IsHeld r.unread unread) c.self.view_is held)
    (c.has_last.ensures.some c.if-has_last.true)
