use Rattle.std.proofs.Common.{◌≡◌, ℤ, List, ℕ, length, Option, None, Some, Result, Ok, Err}
use Rattle.osm_entity.specs.Entities.{member_weight}
use Rattle.osm_entity.specs.declared.kind.Kind.{Kind}
use Rattle.osm_entity.specs.declared.verdict.Cause.{Cause}
use Rattle.osm_text.specs.Numbers.{whole}
use Rattle.osm_opl_line.specs.Contents.{member_of, text_in}
use Rattle.osm_opl_line.specs.Cut.{weighed}
use Rattle.osm_opl_line.proofs.WeighingLemmas.{cause-handed_on}
use Rattle.osm_opl_line.proofs.parts.MemberPart.weigh.Goals as goal

-- the cause of a bad role is that of its member, where the kind and the number are good
member_of-bad_role : (kind : Kind) (id : Option ℤ) (role : Result (List ℕ) Cause) (n : ℤ) (cause : Cause) →
    Some n ≡ id → Err cause ≡ weighed length role → Err cause ≡ weighed member_weight (member_of (Some kind) id role)
member_of-bad_role kind None role n cause id_is is = cc
member_of-bad_role kind (Some m) (Ok text) n cause id_is is = cc
member_of-bad_role kind (Some m) (Err other) n cause id_is is = is

pub returns-in_err-weigh_text-in-Ok-clause-value : goal.returns-in_err-weigh_text-in-Ok-clause-value
returns-in_err-weigh_text-in-Ok-clause-value c =
    cause-handed_on c.from_residual.result _ c.in_err-weigh_text-in-Ok.field-0.0 c.from_residual.ensures.1
    (rw c.in-Some.ensures.some
    (member_of-bad_role c.in-Some.field-0-0 (whole c.in-Some.id.now) (text_in c.in-Some.role.now) c.in-Ok.field-0
    c.in_err-weigh_text-in-Ok.field-0.0 c.in-Ok.ensures c.in_err-weigh_text-in-Ok.ensures.value))
