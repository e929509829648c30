use Rattle.std.proofs.Common.{◌≡◌, ◌-◌, ap, arith, drop, length, refl, rules, subst}
use Rattle.std.specs.Prelude.{vec_len}
use Rattle.std.proofs.lemmas.List.{length-drop, length-take-le}
use Rattle.osm_opl.specs.Unread.{IsUnread}
use Rattle.osm_opl.proofs.UnreadLemmas.{long_rest}
use Rattle.osm_opl.proofs.unread.Unread.find_unfinished.Goals as goal

pub returns-then-len-count-gt-LONGEST_LINE-clause-found : goal.returns-then-len-count-gt-LONGEST_LINE-clause-found
returns-then-len-count-gt-LONGEST_LINE-clause-found c =
    let u = c.self.inside in
    let count = u.stop - u.start in
    let size : vec_len u.buffer ≡ length u.buffer.items = search rules in (
      refl,
      long_rest c.args.self.now count (subst IsUnread c.self.view_is c.self.invariant.value) c.requires
          (omega (
            arith,
            size,
            c.self.invariant.stop,
            ap (λ v. length v.piece) c.self.view_is,
            length-take-le count (drop u.start u.buffer.items) (omega (
              arith,
              size,
              c.self.invariant.stop,
              length-drop u.start u.buffer.items,
            )),
          ))
          (omega (arith, c.if-len-count-gt-LONGEST_LINE.true, c.len.ensures, ap (λ v. length v.held) c.self.view_is)),
    )
