-- What stays while a reader gives items: its source is as it was, and it never has more to read.
use Rattle.std.proofs.Common.{◌≡◌, ◌≤◌, ◌++◌, length, refl, sym, ap, ◌∙◌, subst, arith, append-nil}
use Rattle.osm_opl_line.specs.Line.{LineValue, Skipped, Good, Bad}
use Rattle.osm_host.specs.Feeds.{verdict_after}
use Rattle.osm_opl.specs.Reader.{ReaderValue, SameSource}
use Rattle.osm_opl.specs.Passing.{HasNoLine, TakesLine, passed}
use Rattle.osm_opl.specs.Unread.{UnreadValue, unread_bytes}

-- what stays, stays on
pub same_more : (a b c : ReaderValue) → SameSource a b → SameSource b c → SameSource a c
same_more a b c one two = record {
  flow = two.flow ∙ one.flow;
  limit = two.limit ∙ one.limit;
  given = two.given ∙ one.given;
  feed = two.feed ∙ one.feed;
  left = omega (arith, one.left, two.left);
}

-- a reader that passed the line which came off has its source as it was
same_passed : (old : ReaderValue) (unread : UnreadValue) (value : LineValue) →
    length (unread_bytes unread) ≤ length (unread_bytes old.unread) →
    SameSource old (passed value (record old { unread = unread }))
same_passed old unread Skipped less = record { flow = refl; limit = refl; given = refl; feed = refl; left = less }
same_passed old unread (Good item) less = record { flow = refl; limit = refl; given = refl; feed = refl; left = less }
same_passed old unread (Bad cause) less = record { flow = refl; limit = refl; given = refl; feed = refl; left = less }

-- the same, by what is known of it
pub same_line : (first old mid new : ReaderValue) (value : LineValue) → SameSource first old →
    TakesLine old mid value → new ≡ passed value mid → SameSource first new
same_line first old mid new value same takes is =
    same_more first old new same
    (subst (SameSource old) (sym (is ∙ ap (passed value) takes.same))
    (same_passed old mid.unread value (omega (arith, takes.shorter))))

-- a reader without a line left holds all that is unread
pub held_all : (old mid : ReaderValue) → HasNoLine old mid → unread_bytes mid.unread ≡ unread_bytes old.unread
held_all old mid last =
    ap (λ piece. mid.unread.held ++ piece) last.piece ∙ append-nil mid.unread.held ∙ last.held

-- a reader that got the verdict of its source
abbrev settled : ReaderValue → ReaderValue
settled r = record r { verdict = verdict_after r.feed }

-- a reader without a line left, and with its verdict, by what it was
pub settled_is : (old mid new : ReaderValue) → HasNoLine old mid →
    new ≡ record mid { verdict = verdict_after mid.feed } →
    new ≡ record old { unread = mid.unread; verdict = verdict_after old.feed }
settled_is old mid new last is = is ∙ ap settled last.same
