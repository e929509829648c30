use Rattle.std.proofs.Common.{◌≤◌, ◌+◌, ◌-◌, ◌++◌, sym, ap, ◌∙◌, subst, arith, take, drop, length}
use Rattle.std.proofs.lemmas.List.{length-take}
use Rattle.osm_opl.specs.Unread.{IsUnread}
use Rattle.osm_opl.proofs.UnreadLemmas.{same_unread, part-passed, part-taken, held_more}
use Rattle.osm_opl.proofs.unread.Unread.hold.Goals as goal

-- the part of the buffer is long enough
fits : (c : goal.After-self-1) → c.args.count ≤ c.self.inside.stop - c.self.inside.start
fits c =
    let u = c.self.inside in
    omega (
      arith,
      c.requires.fits,
      ap (λ v. length v.piece) c.self.view_is,
      length-take (u.stop - u.start) (drop u.start u.buffer.items),
    )

pub returns-clause-ok : goal.returns-clause-ok
returns-clause-ok c =
    let u = c.self.inside in
    same_unread _ _
    (c.in_ok-append.ensures.ok
    ∙ ap (λ first. u.held ++ first)
    (ap (λ xs. take (u.start + c.args.count - u.start) (drop u.start xs)) c.deref.ensures.value
    ∙ part-taken u.buffer.items u.start u.stop c.args.count (fits c))
    ∙ ap (λ v. v.held ++ take c.args.count v.piece) c.self.view_is)
    (part-passed u.buffer.items u.start u.stop c.args.count (fits c)
    ∙ ap (λ v. drop c.args.count v.piece) c.self.view_is)

pub invariant_of-self-2 : goal.invariant_of-self-2
invariant_of-self-2 c = record {
  start = omega (arith, fits c, c.self.invariant.start);
  stop = c.self.invariant.stop;
  buffer = c.self.invariant.buffer;
  value = subst IsUnread (sym (returns-clause-ok c))
      (held_more c.args.self.now c.args.count (subst IsUnread c.self.view_is c.self.invariant.value)
      c.requires.unended c.requires.short);
}
