use Rattle.std.proofs.Common.{◌≡◌, ◌+◌, Ok, false, length, refl, subst, take}
use Rattle.std.specs.Prelude.{◌==◌}
use Rattle.std.proofs.lemmas.List.Elements.{All-drop, All-take}
use Rattle.osm_opl_line.specs.Contents.{HasNoEscape, text_in}
use Rattle.osm_opl_line.proofs.StartLemmas.{take-key, take-value}
use Rattle.osm_opl_line.proofs.parts.TagPart.make_plain.Goals as goal

pub make_plain_text-requires-clause-plain : goal.make_plain_text-requires-clause-plain
make_plain_text-requires-clause-plain c =
    let plain : HasNoEscape c.in-Some.key.now =
    subst HasNoEscape c.in-Some.ensures.key
    (All-take (λ b. (b == 37) ≡ false) (length c.in-Some.key.now) (take c.args.len c.args.bytes.now) c.requires.plain) in
    rw (take-key c.args.bytes.now c.in-Some.key.now c.in-Some.value.now c.args.len c.requires.within
    c.in-Some.ensures.shorter c.in-Some.ensures.key) plain

pub make_plain_text-requires-2-clause-utf8 : goal.make_plain_text-requires-2-clause-utf8
make_plain_text-requires-2-clause-utf8 c =
    rw (take-value c.args.bytes.now c.in-Some.key.now c.in-Some.value.now c.args.len c.requires.within
    c.in-Some.ensures.shorter c.in-Some.ensures.value)
    (c.in-Some.ensures.utf8 c.requires.utf8).1

pub make_plain_text-requires-2-clause-plain : goal.make_plain_text-requires-2-clause-plain
make_plain_text-requires-2-clause-plain c =
    let plain : HasNoEscape c.in-Some.value.now =
    subst HasNoEscape c.in-Some.ensures.value
    (All-drop (λ b. (b == 37) ≡ false) (length c.in-Some.key.now + 1) (take c.args.len c.args.bytes.now)
    c.requires.plain) in
    rw (take-value c.args.bytes.now c.in-Some.key.now c.in-Some.value.now c.args.len c.requires.within
    c.in-Some.ensures.shorter c.in-Some.ensures.value) plain

pub returns-clause-value : goal.returns-clause-value
returns-clause-value c =
    let key : text_in c.in-Some.key.now ≡ Ok c.in_ok-key.key =
    rw (take-key c.args.bytes.now c.in-Some.key.now c.in-Some.value.now c.args.len c.requires.within
    c.in-Some.ensures.shorter c.in-Some.ensures.key) at c.in_ok-key.ensures.value in
    let value : text_in c.in-Some.value.now ≡ Ok c.in_ok-value.value =
    rw (take-value c.args.bytes.now c.in-Some.key.now c.in-Some.value.now c.args.len c.requires.within
    c.in-Some.ensures.shorter c.in-Some.ensures.value) at c.in_ok-value.ensures.value in
    rw (c.in-Some.ensures.some, key, value) refl
