use Rattle.std.proofs.Common.{◌∙◌, arith, refl, sym, true≢false}
use Rattle.osm_text.proofs.FormLemmas.{form-clock, form-date, form-length}
use Rattle.osm_text.proofs.LibraryLemmas.{kept-pair, kept-year, seconds-existing, seconds-missing}
use Rattle.osm_text.proofs.time.seconds_in.Goals as goal

pub two_digits-requires-clause-digits : goal.two_digits-requires-clause-digits
two_digits-requires-clause-digits c = form-date c.args.bytes.now c.requires 2 (omega arith)

pub two_digits-requires-2-clause-within : goal.two_digits-requires-2-clause-within
two_digits-requires-2-clause-within c = omega (arith, form-length c.args.bytes.now c.requires)

pub two_digits-requires-2-clause-digits : goal.two_digits-requires-2-clause-digits
two_digits-requires-2-clause-digits c = form-date c.args.bytes.now c.requires 3 (omega arith)

pub two_digits-requires-3-clause-within : goal.two_digits-requires-3-clause-within
two_digits-requires-3-clause-within c = omega (arith, form-length c.args.bytes.now c.requires)

pub two_digits-requires-3-clause-digits : goal.two_digits-requires-3-clause-digits
two_digits-requires-3-clause-digits c = form-clock c.args.bytes.now c.requires 0 (omega arith)

pub two_digits-requires-4-clause-within : goal.two_digits-requires-4-clause-within
two_digits-requires-4-clause-within c = omega (arith, form-length c.args.bytes.now c.requires)

pub two_digits-requires-4-clause-digits : goal.two_digits-requires-4-clause-digits
two_digits-requires-4-clause-digits c = form-clock c.args.bytes.now c.requires 1 (omega arith)

pub two_digits-requires-5-clause-within : goal.two_digits-requires-5-clause-within
two_digits-requires-5-clause-within c = omega (arith, form-length c.args.bytes.now c.requires)

pub two_digits-requires-5-clause-digits : goal.two_digits-requires-5-clause-digits
two_digits-requires-5-clause-digits c = form-clock c.args.bytes.now c.requires 2 (omega arith)

pub returns-in-Ok : goal.returns-in-Ok
returns-in-Ok c =
    let year = kept-year c.year_of.result _ c.year_of.ensures.value c.year_of.ensures.size in
    let month = kept-pair c.two_digits.result _ c.two_digits.ensures.value c.two_digits.ensures.size in
    let day = kept-pair c.two_digits-2.result _ c.two_digits-2.ensures.value c.two_digits-2.ensures.size in
    let hour = kept-pair c.two_digits-3.result _ c.two_digits-3.ensures.value c.two_digits-3.ensures.size in
    let minute = kept-pair c.two_digits-4.result _ c.two_digits-4.ensures.value c.two_digits-4.ensures.size in
    let second = kept-pair c.two_digits-5.result _ c.two_digits-5.ensures.value c.two_digits-5.ensures.size in
    let is = rw (year, month, day, hour, minute, second) at c.in-Ok.ensures.succeeds in
    let has = rw (year, month, day, hour, minute, second) at c.in-Ok.ensures.value in
    c.seconds_of.ensures ∙ seconds-existing c.in-Ok.moment _ _ _ _ _ _ (is.0 refl) has

pub returns-in-Err : goal.returns-in-Err
returns-in-Err c =
    let year = kept-year c.year_of.result _ c.year_of.ensures.value c.year_of.ensures.size in
    let month = kept-pair c.two_digits.result _ c.two_digits.ensures.value c.two_digits.ensures.size in
    let day = kept-pair c.two_digits-2.result _ c.two_digits-2.ensures.value c.two_digits-2.ensures.size in
    let hour = kept-pair c.two_digits-3.result _ c.two_digits-3.ensures.value c.two_digits-3.ensures.size in
    let minute = kept-pair c.two_digits-4.result _ c.two_digits-4.ensures.value c.two_digits-4.ensures.size in
    let second = kept-pair c.two_digits-5.result _ c.two_digits-5.ensures.value c.two_digits-5.ensures.size in
    let lacks = rw (year, month, day, hour, minute, second) at c.in-Err.ensures.succeeds in
    seconds-missing _ _ _ _ _ _ c.year_of.ensures.size (λ is. true≢false (sym (lacks.1 is)))
