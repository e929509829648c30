use Rattle.std.proofs.Common.{ap, sym, ◌∙◌, Err, [], ◌∷◌, ◌++◌}
use Rattle.osm_graph.specs.Joining.{pipes_from}
use Rattle.osm_graph.specs.declared.fault.GraphError.TheVariants.{UnusedPipes}
use Rattle.osm_graph.proofs.StepLemmas.{pipes-end, pipes-skip, pipes-step}
use Rattle.osm_graph.proofs.joining.pipes_of.Goals as goal
use Rattle.osm_graph.proofs.joining.pipes_of.Goals.{then-port+in-Some+in_ok-push-in-Some, else-port}

pub returns-in-None-clause-refused : goal.returns-in-None-clause-refused
returns-in-None-clause-refused c =
    λ differ. pipes-end c.args.readers.now c.args.ports.now c.loop-place.place c.index-ports-place.result
    (pipes_from c.args.readers.now 0 0 c.args.ports.now) c.loop-place.pipes c.loop-place-test.true
    c.index-ports-place.is (ap (λ p. p.gives) (sym c.port.view_is) ∙ c.if-port.true)
    (sym c.reader_at.ensures ∙ c.in-None.is) c.loop-place.invariant
    ∙ ap (λ n. Err (UnusedPipes n)) (sym (c.in_ok-pipe-in-None.ensures.ok ∙ c.len.ensures))

pub loop-place-preserved : goal.loop-place-preserved
loop-place-preserved c = elim c.if-port.branch [
  | then-port+in-Some+in_ok-push-in-Some w ↦
      pipes-step c.args.readers.now c.args.ports.now c.loop-place.place c.index-ports-place.result w.in-Some.reader
      (pipes_from c.args.readers.now 0 0 c.args.ports.now) c.loop-place.pipes c.if-port.pipes c.loop-place-test.true
      c.index-ports-place.is (ap (λ p. p.gives) (sym c.port.view_is) ∙ w.if-port.true)
      (sym w.reader_at.ensures ∙ w.in-Some.is)
      (w.pipes-is ∙ w.in_ok-push-in-Some.ensures.ok ∙ ap (λ p. c.loop-place.pipes ++ p ∷ []) w.pipe_between.ensures)
      c.loop-place.invariant
  | else-port w ↦
      pipes-skip c.args.readers.now c.args.ports.now c.loop-place.place c.index-ports-place.result
      (pipes_from c.args.readers.now 0 0 c.args.ports.now) c.loop-place.pipes c.if-port.pipes w.pipes-is
      c.loop-place-test.true c.index-ports-place.is (ap (λ p. p.gives) (sym c.port.view_is) ∙ w.if-port.false)
      c.loop-place.invariant
]
