use Rattle.std.proofs.Common.{ap, sym, ◌∙◌}
use Rattle.osm_opl_line.specs.LineParts.{author_text, head_text, lists_text}
use Rattle.osm_opl_line.proofs.WritingLemmas.{append-begins, append-line}
use Rattle.osm_opl_line.proofs.writing.append_line.Goals as goal

pub returns-clause-ok : goal.returns-clause-ok
returns-clause-ok c =
    append-line c.push.result c.args.item.now c.deref-entity.result.now c.args.out.now c.append_head.new.out
    c.append_author.new.out c.append_lists.new.out c.push.new.self
    (sym (c.deref-entity.ensures ∙ ap (λ i. i.entity) c.item.view_is))
    c.in_ok-append_head.ensures.ok c.in_ok-append_author.ensures.ok c.in_ok-append_lists.ensures.ok
    c.push.ensures.ok

pub returns-clause-err : goal.returns-clause-err
returns-clause-err c =
    append-begins c.push.result c.args.out.now c.append_head.new.out c.append_author.new.out c.append_lists.new.out
    c.push.new.self (head_text c.args.item.now) (author_text c.deref-entity.result.now)
    (lists_text c.deref-entity.result.now)
    c.in_ok-append_head.ensures.ok c.in_ok-append_author.ensures.ok c.in_ok-append_lists.ensures.ok
    c.push.ensures.err
