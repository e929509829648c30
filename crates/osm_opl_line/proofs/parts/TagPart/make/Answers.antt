use Rattle.std.proofs.Common.{◌≡◌, Ok, Err, ap, refl}
use Rattle.osm_opl_line.specs.Contents.{text_in}
use Rattle.osm_opl_line.proofs.StartLemmas.{bad-handed_on, take-key, take-value}
use Rattle.osm_opl_line.proofs.parts.TagPart.make.Goals as goal

pub make_text-requires-2-clause-utf8 : goal.make_text-requires-2-clause-utf8
make_text-requires-2-clause-utf8 c =
    rw (take-value c.args.bytes.now c.in-Some.key.now c.in-Some.value.now c.args.len c.requires.within
    c.in-Some.ensures.shorter c.in-Some.ensures.value)
    (c.in-Some.ensures.utf8 c.requires.utf8).1

pub returns-in_err-value-clause-refused : goal.returns-in_err-value-clause-refused
returns-in_err-value-clause-refused c cause is =
    let bad = bad-handed_on c.from_residual-in_err-value.result c.in_err-value.field-0.0 cause
    c.from_residual-in_err-value.ensures.1 is in
    let key : text_in c.in-Some.key.now ≡ Ok c.in_ok-key.key =
    rw (take-key c.args.bytes.now c.in-Some.key.now c.in-Some.value.now c.args.len c.requires.within
    c.in-Some.ensures.shorter c.in-Some.ensures.key) at c.in_ok-key.ensures.value in
    let value : text_in c.in-Some.value.now ≡ Err cause =
    rw (take-value c.args.bytes.now c.in-Some.key.now c.in-Some.value.now c.args.len c.requires.within
    c.in-Some.ensures.shorter c.in-Some.ensures.value) at (c.in_err-value.ensures.refused cause (ap Err bad)) in
    rw (c.in-Some.ensures.some, key, value) refl

pub returns-clause-value : goal.returns-clause-value
returns-clause-value c =
    let key : text_in c.in-Some.key.now ≡ Ok c.in_ok-key.key =
    rw (take-key c.args.bytes.now c.in-Some.key.now c.in-Some.value.now c.args.len c.requires.within
    c.in-Some.ensures.shorter c.in-Some.ensures.key) at c.in_ok-key.ensures.value in
    let value : text_in c.in-Some.value.now ≡ Ok c.in_ok-value.value =
    rw (take-value c.args.bytes.now c.in-Some.key.now c.in-Some.value.now c.args.len c.requires.within
    c.in-Some.ensures.shorter c.in-Some.ensures.value) at c.in_ok-value.ensures.value in
    rw (c.in-Some.ensures.some, key, value) refl
