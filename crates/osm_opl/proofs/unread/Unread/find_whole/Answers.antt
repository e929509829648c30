use Rattle.std.proofs.Common.{ap, refl, subst, arith, length}
use Rattle.osm_opl.specs.Unread.{IsUnread}
use Rattle.osm_opl.proofs.UnreadLemmas.{has_joined, long_line}
use Rattle.osm_opl.proofs.unread.Unread.find_whole.Goals as goal

pub returns-then-len-count-gt-LONGEST_LINE-clause-found : goal.returns-then-len-count-gt-LONGEST_LINE-clause-found
returns-then-len-count-gt-LONGEST_LINE-clause-found c = (
  refl,
  long_line c.args.self.now c.args.count (subst IsUnread c.self.view_is c.self.invariant.value) c.requires
      (omega (arith, c.if-len-count-gt-LONGEST_LINE.true, c.len.ensures, ap (λ v. length v.held) c.self.view_is)),
)

pub returns-clause-found : goal.returns-clause-found
returns-clause-found c =
    has_joined c.args.self.now c.hold.new.self c.args.count (subst IsUnread c.self.view_is c.self.invariant.value)
    c.requires c.in_ok-hold.ensures.ok
