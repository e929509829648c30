use Rattle.std.proofs.Common.{◌≡◌, [], Some, length, rules}
use Rattle.std.specs.Result.{result_err}
use Rattle.osm_opl_line.specs.Contents.{text_in}
use Rattle.osm_opl_line.proofs.DraftLemmas.{result_err-weighed, IsWeighed-from_ok, made-value}
use Rattle.osm_opl_line.proofs.draft.Draft.take_user.Goals as goal

pub returns-in_err-user-clause-refused : goal.returns-in_err-user-clause-refused
returns-in_err-user-clause-refused c =
    let fault : result_err (text_in c.args.content.now) ≡ Some c.in_err-user.field-0.0 =
    result_err-weighed length (text_in c.args.content.now) c.in_err-user.field-0.0 c.in_err-user.ensures.refused in
    search rules

pub returns-clause-ok : goal.returns-clause-ok
returns-clause-ok c =
    let is = IsWeighed-from_ok length (text_in c.args.content.now) c.in_ok-user.user.weight
    c.in_ok-user.ensures.weight in
    let made = made-value c.in_ok-user.user.made (text_in c.args.content.now) [] c.in_ok-user.ensures.made in
    search rules
