use Rattle.std.proofs.Common.{◌∙◌, sym}
use Rattle.osm_block_read.specs.Rows.{entries_of}
use Rattle.osm_block_read.specs.Seen.{entry_seen}
use Rattle.osm_block_read.proofs.PlanLemmas.{entries_fault-found, entries_fault-more}
use Rattle.osm_block_read.proofs.plan.find_fault.Goals as goal

pub returns-in-Some : goal.returns-in-Some
returns-in-Some c =
    sym
    (entries_fault-found c.args.setting.now (entries_of c.args.rows.now) c.loop-at.at
    (entry_seen c.entry.result) c.in-Some.cause
    c.entry.ensures (sym c.fault.ensures ∙ c.in-Some.is))
    ∙ c.loop-at.invariant

pub loop-at-preserved : goal.loop-at-preserved
loop-at-preserved c =
    sym
    (entries_fault-more c.args.setting.now (entries_of c.args.rows.now) c.loop-at.at
    (entry_seen c.entry.result) c.entry.ensures
    (sym c.fault.ensures ∙ c.in_default.is))
    ∙ c.loop-at.invariant
