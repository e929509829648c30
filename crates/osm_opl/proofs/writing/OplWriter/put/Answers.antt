use Rattle.std.proofs.Common.{[], ◌∷◌, ◌++◌, ◌∙◌, ap}
use Rattle.osm_opl_line.specs.Writing.{line_text}
use Rattle.osm_opl.proofs.StandingLemmas.{OnErr-always}
use Rattle.osm_opl.proofs.WrittenLemmas.{took_all, took_part, took_some}
use Rattle.osm_opl.proofs.writing.OplWriter.put.Goals as goal

pub returns-in_err-write_line-clause-some : goal.returns-in_err-write_line-clause-some
returns-in_err-write_line-clause-some g c =
    OnErr-always c.from_residual.result
    (λ first items took. took_some first (g.K.Sink.taken c.args.sink.now) items (c.args.item.now ∷ []) took)

pub returns-clause-all : goal.returns-clause-all
returns-clause-all g c =
    took_all c.put.result c.as_slice.result.now c.args.item.now (g.K.Sink.taken c.args.sink.now)
    (g.K.Sink.taken c.put.new.self)
    (c.as_slice.ensures ∙ c.in_ok-write_line.ensures.ok
    ∙ ap (λ line. line ++ line_text c.args.item.now) c.truncate.ensures) c.put.ensures.takes

pub returns-clause-some : goal.returns-clause-some
returns-clause-some g c =
    took_part c.put.result c.as_slice.result.now c.args.item.now (g.K.Sink.taken c.args.sink.now)
    (g.K.Sink.taken c.put.new.self)
    (c.as_slice.ensures ∙ c.in_ok-write_line.ensures.ok
    ∙ ap (λ line. line ++ line_text c.args.item.now) c.truncate.ensures) c.put.ensures.takes
