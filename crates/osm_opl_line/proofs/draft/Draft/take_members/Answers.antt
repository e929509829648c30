use Rattle.std.proofs.Common.{◌≡◌, [], Some, sum_by, rules}
use Rattle.std.specs.Result.{result_err}
use Rattle.osm_entity.specs.Entities.{member_weight}
use Rattle.osm_opl_line.specs.Contents.{members_in}
use Rattle.osm_opl_line.proofs.DraftLemmas.{result_err-weighed, IsWeighed-from_ok, made-value}
use Rattle.osm_opl_line.proofs.draft.Draft.take_members.Goals as goal

pub returns-in_err-members-clause-refused : goal.returns-in_err-members-clause-refused
returns-in_err-members-clause-refused c =
    let fault : result_err (members_in c.args.content.now) ≡ Some c.in_err-members.field-0.0 =
    result_err-weighed (sum_by member_weight) (members_in c.args.content.now) c.in_err-members.field-0.0
    c.in_err-members.ensures.refused in
    search rules

pub returns-clause-refused : goal.returns-clause-refused
returns-clause-refused c =
    let is = IsWeighed-from_ok (sum_by member_weight) (members_in c.args.content.now) c.in_ok-members.members.weight
    c.in_ok-members.ensures.weight in
    search rules

pub returns-clause-ok : goal.returns-clause-ok
returns-clause-ok c =
    let is = IsWeighed-from_ok (sum_by member_weight) (members_in c.args.content.now) c.in_ok-members.members.weight
    c.in_ok-members.ensures.weight in
    let made = made-value c.in_ok-members.members.made (members_in c.args.content.now) [] c.in_ok-members.ensures.made in
    search rules
