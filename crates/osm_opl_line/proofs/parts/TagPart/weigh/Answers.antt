use Rattle.std.proofs.Common.{◌≡◌, ◌+◌, ℕ, List, length, Result, Ok, Err, ap, arith}
use Rattle.osm_entity.specs.Entities.{tag_weight}
use Rattle.osm_entity.specs.declared.verdict.Cause.{Cause}
use Rattle.osm_opl_line.specs.Contents.{tag_of, text_in}
use Rattle.osm_opl_line.specs.Cut.{weighed}
use Rattle.osm_opl_line.proofs.WeighingLemmas.{cause-handed_on}
use Rattle.osm_opl_line.proofs.parts.TagPart.weigh.Goals as goal

-- the cause of a bad key is that of its tag
tag_of-bad_key : (key value : Result (List ℕ) Cause) (cause : Cause) → Err cause ≡ weighed length key →
    Err cause ≡ weighed tag_weight (tag_of key value)
tag_of-bad_key (Ok text) value cause is = cc
tag_of-bad_key (Err other) value cause is = is

-- the cause of a bad value is that of its tag, where the key is good
tag_of-bad_value : (key value : Result (List ℕ) Cause) (n : ℕ) (cause : Cause) → Ok n ≡ weighed length key →
    Err cause ≡ weighed length value → Err cause ≡ weighed tag_weight (tag_of key value)
tag_of-bad_value (Err other) value n cause key_is is = cc
tag_of-bad_value (Ok text) (Ok more) n cause key_is is = cc
tag_of-bad_value (Ok text) (Err other) n cause key_is is = is

-- a good tag weighs 32 more than its key and value
tag_of-good : (key value : Result (List ℕ) Cause) (n m : ℕ) → Ok n ≡ weighed length key →
    Ok m ≡ weighed length value → Ok (32 + n + m) ≡ weighed tag_weight (tag_of key value)
tag_of-good (Err other) value n m key_is is = cc
tag_of-good (Ok text) (Err other) n m key_is is = cc
tag_of-good (Ok text) (Ok more) n m key_is is =
    let first : n ≡ length text = cc in
    let second : m ≡ length more = cc in
    ap Ok (omega arith)

pub returns-in_err-key-clause-value : goal.returns-in_err-key-clause-value
returns-in_err-key-clause-value c =
    let key = text_in c.in-Some.key.now in
    let value = text_in c.in-Some.value.now in
    cause-handed_on c.from_residual.result _ c.in_err-key.field-0.0 c.from_residual.ensures.1
    (rw c.in-Some.ensures.some (tag_of-bad_key key value c.in_err-key.field-0.0 c.in_err-key.ensures.value))

pub returns-in_err-value-clause-value : goal.returns-in_err-value-clause-value
returns-in_err-value-clause-value c =
    let key = text_in c.in-Some.key.now in
    let value = text_in c.in-Some.value.now in
    cause-handed_on c.from_residual-in_err-value.result _ c.in_err-value.field-0.0
    c.from_residual-in_err-value.ensures.1
    (rw c.in-Some.ensures.some
    (tag_of-bad_value key value c.in_ok-key.key c.in_err-value.field-0.0 c.in_ok-key.ensures.value
    c.in_err-value.ensures.value))

pub returns-clause-value : goal.returns-clause-value
returns-clause-value c =
    let key = text_in c.in-Some.key.now in
    let value = text_in c.in-Some.value.now in
    rw c.in-Some.ensures.some
    (tag_of-good key value c.in_ok-key.key c.in_ok-value.value c.in_ok-key.ensures.value c.in_ok-value.ensures.value)
