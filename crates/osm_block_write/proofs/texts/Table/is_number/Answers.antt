use Rattle.std.proofs.Common.{◌≡◌, Some, length, refl, sym, ap, ◌∙◌}
use Rattle.std.specs.Cmp.Lexicographic.{bytes_decides}
use Rattle.std.specs.List.{slice_get}
use Rattle.std.proofs.lemmas.Bool.{ltb-true}
use Rattle.std.proofs.lemmas.Option.{slice_get_read}
use Rattle.osm_block_write.proofs.TextsLemmas.{number-at, table-at}
use Rattle.osm_block_write.proofs.texts.Table.is_number.Goals as goal

pub returns-in-Some-clause-number : goal.returns-in-Some-clause-number
returns-in-Some-clause-number c = λ is.
    let at : slice_get c.self.inside.texts.keys c.args.number ≡ Some c.in-Some.held.now =
    ap (λ l. slice_get l c.args.number) (sym c.as_slice.ensures.keys)
    ∙ slice_get_read c.as_slice.result.now (length c.as_slice.result.now) c.args.number c.in-Some.held.now refl
    (ltb-true c.args.number (length c.as_slice.result.now) (sym c.in-Some.ensures.lookup.0)) c.in-Some.ensures.lookup.1 in
    number-at (λ v. v.items) c.self.inside.texts.keys c.args.self.now c.args.text.now c.args.number c.in-Some.held.now
    c.self.view_is c.as_slice.ensures.unique at
    (sym c.as_slice-in-Some.ensures.value
    ∙ (bytes_decides c.as_slice-in-Some.result.now c.args.text.now).0 (sym c.eq.ensures ∙ is))

pub returns-in-Some-clause-known : goal.returns-in-Some-clause-known
returns-in-Some-clause-known c = λ is.
    let at : slice_get c.self.inside.texts.keys c.args.number ≡ Some c.in-Some.held.now =
    ap (λ l. slice_get l c.args.number) (sym c.as_slice.ensures.keys)
    ∙ slice_get_read c.as_slice.result.now (length c.as_slice.result.now) c.args.number c.in-Some.held.now refl
    (ltb-true c.args.number (length c.as_slice.result.now) (sym c.in-Some.ensures.lookup.0)) c.in-Some.ensures.lookup.1 in
    table-at (λ v. v.items) c.self.inside.texts.keys c.args.self.now c.args.text.now c.args.number c.in-Some.held.now
    c.self.view_is at
    (sym c.as_slice-in-Some.ensures.value
    ∙ (bytes_decides c.as_slice-in-Some.result.now c.args.text.now).0 (sym c.eq.ensures ∙ is))
