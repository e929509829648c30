use Rattle.std.proofs.Common.{length, sym, ap, ◌∙◌}
use Rattle.osm_tasks.specs.Given.{input_prefix, output_prefix, pipe_names}
use Rattle.osm_tasks.proofs.KindLemmas.{IsTask-said}
use Rattle.osm_tasks.proofs.resolving.resolve_as.Goals as goal

pub invariant_of-result : goal.invariant_of-result
invariant_of-result c =
    IsTask-said c.args.task c.args.name c.args.words.now c.in_ok-kind.kind c.in_ok-inputs.inputs
    c.in_ok-outputs.outputs c.in_ok-kind.ensures
    (c.in_ok-inputs.ensures ∙ ap (λ flows. pipe_names input_prefix c.args.words.now (length flows)) c.inputs.ensures)
    (c.in_ok-outputs.ensures ∙ ap (λ n. pipe_names output_prefix c.args.words.now n) c.outputs.ensures)
    (sym c.in_default-box_fault.ensures)
