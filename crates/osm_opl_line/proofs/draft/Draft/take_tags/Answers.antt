use Rattle.std.proofs.Common.{◌≡◌, [], Some, sum_by, rules}
use Rattle.std.specs.Result.{result_err}
use Rattle.osm_entity.specs.Entities.{tag_weight}
use Rattle.osm_opl_line.specs.Contents.{tags_in}
use Rattle.osm_opl_line.proofs.DraftLemmas.{result_err-weighed, IsWeighed-from_ok, made-value}
use Rattle.osm_opl_line.proofs.draft.Draft.take_tags.Goals as goal

pub returns-in_err-tags-clause-refused : goal.returns-in_err-tags-clause-refused
returns-in_err-tags-clause-refused c =
    let fault : result_err (tags_in c.args.content.now) ≡ Some c.in_err-tags.field-0.0 =
    result_err-weighed (sum_by tag_weight) (tags_in c.args.content.now) c.in_err-tags.field-0.0
    c.in_err-tags.ensures.refused in
    search rules

pub returns-clause-refused : goal.returns-clause-refused
returns-clause-refused c =
    let is = IsWeighed-from_ok (sum_by tag_weight) (tags_in c.args.content.now) c.in_ok-tags.tags.weight
    c.in_ok-tags.ensures.weight in
    search rules

pub returns-clause-ok : goal.returns-clause-ok
returns-clause-ok c =
    let is = IsWeighed-from_ok (sum_by tag_weight) (tags_in c.args.content.now) c.in_ok-tags.tags.weight
    c.in_ok-tags.ensures.weight in
    let made = made-value c.in_ok-tags.tags.made (tags_in c.args.content.now) [] c.in_ok-tags.ensures.made in
    search rules
