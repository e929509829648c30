use Rattle.osm_text.proofs.UnescapeLemmas.{char-from_number, char-from_digits}
use Rattle.osm_text.proofs.unescaping.char_of.Goals as goal

pub returns-in-Some : goal.returns-in-Some
returns-in-Some c = char-from_digits c.args.bytes.now c.in-Some.number c.from_u32.result c.in-Some.ensures
    (char-from_number c.in-Some.number c.from_u32.result c.from_u32.ensures.cases c.from_u32.ensures.value)
