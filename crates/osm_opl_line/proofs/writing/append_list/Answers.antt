use Rattle.std.proofs.lemmas.List.{take_rest}
use Rattle.osm_opl_line.proofs.WritingLemmas.{append-list}
use Rattle.osm_opl_line.proofs.writing.append_list.Goals as goal

pub returns-in_ok-append_to-in-len1-up-clause-ok : goal.returns-in_ok-append_to-in-len1-up-clause-ok
returns-in_ok-append_to-in-len1-up-clause-ok g c =
    append-list c.append_more.result g.T.Part.text c.first-item.result c.args.parts.now c.args.out.now
    c.append_to.new.out c.append_more.new.out c.in-len1-up.len_at_least c.first-item.is
    c.in_ok-append_to-in-len1-up.ensures.ok (rw take_rest at c.append_more.ensures.ok)
