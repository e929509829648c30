use Rattle.std.proofs.Common.{◌≡◌, ◌∙◌, ◌*◌, ℤ, List, [], Some, length, sym, rules}
use Rattle.std.specs.Result.{result_err}
use Rattle.osm_opl_line.specs.Contents.{refs_in}
use Rattle.osm_opl_line.proofs.DraftLemmas.{result_err-weighed, IsWeighed-from_ok, made-value}
use Rattle.osm_opl_line.proofs.WeighingLemmas.{weighed-refs}
use Rattle.osm_opl_line.proofs.draft.Draft.take_refs.Goals as goal

pub returns-in_err-refs-clause-refused : goal.returns-in_err-refs-clause-refused
returns-in_err-refs-clause-refused c =
    let fault : result_err (refs_in c.args.content.now) ≡ Some c.in_err-refs.field-0.0 =
    result_err-weighed (λ (refs : List ℤ). 32 * length refs) (refs_in c.args.content.now) c.in_err-refs.field-0.0
    (c.in_err-refs.ensures.refused ∙ sym (weighed-refs (refs_in c.args.content.now))) in
    search rules

pub returns-clause-refused : goal.returns-clause-refused
returns-clause-refused c =
    let is = IsWeighed-from_ok (λ (refs : List ℤ). 32 * length refs) (refs_in c.args.content.now)
    c.in_ok-refs.refs.weight (c.in_ok-refs.ensures.weight ∙ sym (weighed-refs (refs_in c.args.content.now))) in
    search rules

pub returns-clause-ok : goal.returns-clause-ok
returns-clause-ok c =
    let is = IsWeighed-from_ok (λ (refs : List ℤ). 32 * length refs) (refs_in c.args.content.now)
    c.in_ok-refs.refs.weight (c.in_ok-refs.ensures.weight ∙ sym (weighed-refs (refs_in c.args.content.now))) in
    let made = made-value c.in_ok-refs.refs.made (refs_in c.args.content.now) [] c.in_ok-refs.ensures.made in
    search rules
