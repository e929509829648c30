use Rattle.std.proofs.Common.{◌∙◌, Some, ap, sym, unwrap_or}
use Rattle.std.specs.Option.{option_map}
use Rattle.osm_block_read.proofs.FieldLemmas.{scalar-given}
use Rattle.osm_block_read.proofs.message.Message.scalar.Goals as goal

pub returns-in_err-last : goal.returns-in_err-last
returns-in_err-last c =
    rw c.from_residual.ensures
    (sym
    (scalar-given c.args.absent c.args.number c.args.self.now
    ∙ ap (option_map (λ given. unwrap_or given c.args.absent)) (sym c.last.ensures ∙ c.in_err-last.was)))

pub returns : goal.returns
returns c =
    sym
    (scalar-given c.args.absent c.args.number c.args.self.now
    ∙ ap (option_map (λ given. unwrap_or given c.args.absent)) (sym c.last.ensures ∙ c.in_ok-last.was)
    ∙ ap Some (sym c.unwrap_or.ensures))
