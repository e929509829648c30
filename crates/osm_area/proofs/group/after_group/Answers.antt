use Rattle.std.proofs.Common.{◌∙◌, length, sym, arith}
use Rattle.std.proofs.lemmas.List.{drop_all, take_rest}
use Rattle.osm_area.proofs.group.after_group.Goals as goal

pub returns-then-path-gt-GROUP : goal.returns-then-path-gt-GROUP
returns-then-path-gt-GROUP c = take_rest c.args.path.now 1024

pub returns : goal.returns
returns c =
    take_rest c.args.path.now (length c.args.path.now) ∙
    drop_all (length c.args.path.now) c.args.path.now (omega arith) ∙
    sym (drop_all 1024 c.args.path.now c.if-path-gt-GROUP.false)
