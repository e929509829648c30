use Rattle.std.proofs.Common.{◌∙◌, sym}
use Rattle.osm_opl_line.proofs.PlainPartLemmas.{plain-part, split-none, split-part}
use Rattle.osm_opl_line.proofs.parting.cut_part.Goals as goal

pub returns-in_err-at-clause-none : goal.returns-in_err-at-clause-none
returns-in_err-at-clause-none c =
    rw c.from_residual.ensures (split-none c.args.bytes.now (sym c.in_err-at.was ∙ c.position_of_either.ensures))

pub returns-then-bytes-at-eq44-clause-some : goal.returns-then-bytes-at-eq44-clause-some
returns-then-bytes-at-eq44-clause-some c =
    split-part c.args.bytes.now c.in_ok-at.at c.in_ok-at.ensures c.if-bytes-at-eq44.true

pub returns-then-bytes-at-eq44-clause-plain : goal.returns-then-bytes-at-eq44-clause-plain
returns-then-bytes-at-eq44-clause-plain c = λ _. plain-part c.args.bytes.now c.in_ok-at.at c.in_ok-at.ensures
