use Rattle.std.proofs.Common.{◌≡◌, ◌+◌, ◌-◌, ◌≤◌, ◌∙◌, ap, arith, drop, length, min, rules, sym, take}
use Rattle.std.specs.Prelude.{vec_len}
use Rattle.std.proofs.lemmas.List.{length-drop}
use Rattle.osm_opl.proofs.UnreadLemmas.{filled_behind}
use Rattle.osm_opl.proofs.unread.Unread.pull.Goals as goal

pub returns-in-Ok-clause-filled : goal.returns-in-Ok-clause-filled
returns-in-Ok-clause-filled g c =
    let u = c.self.inside in
    let count = u.stop - u.start in
    let buffer = c.pull_behind.new.buffer.items in
    let size : vec_len c.pull_behind.new.buffer ≡ length buffer = search rules in
    let fits : c.in-Ok.more ≤ length (drop count buffer) =
    omega (
      arith,
      size,
      c.in-Ok.ensures.small,
      c.in_ok-make_room.ensures.room,
      c.pull_behind.ensures.len,
      length-drop count buffer,
    ) in
    let stop : count + c.at_most.result - 0 ≡ count + min c.args.room c.in-Ok.more = omega (arith, c.at_most.ensures) in
    filled_behind g.S.Source.rest c.args.source.now c.pull_behind.new.source c.args.room c.in-Ok.more count buffer
    c.args.self.now _ c.in-Ok.ensures.gives fits (ap (λ v. v.held) c.self.view_is)
    (sym (ap (λ v. v.piece) c.self.view_is) ∙ sym c.in_ok-make_room.ensures.moved ∙ sym c.in-Ok.ensures.same)
    (ap (λ n. take n buffer) stop)
