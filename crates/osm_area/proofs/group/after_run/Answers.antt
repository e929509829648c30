use Rattle.std.proofs.Common.{◌∙◌, length, sym, arith}
use Rattle.std.proofs.lemmas.List.{drop_all, take_rest}
use Rattle.osm_area.proofs.group.after_run.Goals as goal

pub returns-then-path-gt-RUN : goal.returns-then-path-gt-RUN
returns-then-path-gt-RUN c = take_rest c.args.path.now 32

pub returns : goal.returns
returns c =
    take_rest c.args.path.now (length c.args.path.now) ∙
    drop_all (length c.args.path.now) c.args.path.now (omega arith) ∙
    sym (drop_all 32 c.args.path.now c.if-path-gt-RUN.false)
