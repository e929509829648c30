use Rattle.std.proofs.Common.{ap, ◌∙◌, ◌-◌, arith, drop, length}
use Rattle.std.proofs.lemmas.List.{length-take}
use Rattle.osm_opl.proofs.UnreadLemmas.{same_unread, part-passed}
use Rattle.osm_opl.proofs.unread.Unread.pass_over.Goals as goal

pub returns : goal.returns
returns c =
    let u = c.self.inside in
    same_unread _ _ c.truncate.ensures
    (part-passed u.buffer.items u.start u.stop c.args.count
    (omega (
      arith,
      c.requires,
      ap (λ v. length v.piece) c.self.view_is,
      length-take (u.stop - u.start) (drop u.start u.buffer.items),
    ))
    ∙ ap (λ v. drop c.args.count v.piece) c.self.view_is)
