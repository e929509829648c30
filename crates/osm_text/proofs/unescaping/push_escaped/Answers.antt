use Rattle.osm_text.proofs.UnescapeLemmas.{unescaped-char}
use Rattle.osm_text.proofs.unescaping.push_escaped.Goals as goal

pub returns-clause-value : goal.returns-clause-value
returns-clause-value c =
    unescaped-char c.args.out.now c.args.after.now c.in-Some.c c.in-Some.rest.now c.push_char.new.out
    c.in-Some.ensures.some c.in_ok-push_char.ensures.ok

pub returns-clause-utf8 : goal.returns-clause-utf8
returns-clause-utf8 c = (c.in_ok-push_char.ensures.utf8, c.in-Some.ensures.utf8 c.requires)
