use Rattle.osm_host.proofs.Entered.{entered}
use Rattle.osm_host.proofs.tallies.Tallies.enter.Goals as goal

pub returns-clause-keeps : goal.returns-clause-keeps
returns-clause-keeps c =
    (entered c.args.name.now c.self.inside.rows.items c.args.self.now c.push_row.new.rows.items c.push_row.result
    c.self.view_is c.push_row.ensures.ok c.push_row.ensures.err).keeps

pub returns-clause-only : goal.returns-clause-only
returns-clause-only c =
    (entered c.args.name.now c.self.inside.rows.items c.args.self.now c.push_row.new.rows.items c.push_row.result
    c.self.view_is c.push_row.ensures.ok c.push_row.ensures.err).only

pub returns-clause-own : goal.returns-clause-own
returns-clause-own c =
    (entered c.args.name.now c.self.inside.rows.items c.args.self.now c.push_row.new.rows.items c.push_row.result
    c.self.view_is c.push_row.ensures.ok c.push_row.ensures.err).own

pub returns-clause-counts : goal.returns-clause-counts
returns-clause-counts c =
    (entered c.args.name.now c.self.inside.rows.items c.args.self.now c.push_row.new.rows.items c.push_row.result
    c.self.view_is c.push_row.ensures.ok c.push_row.ensures.err).counts

pub returns-clause-gave : goal.returns-clause-gave
returns-clause-gave c =
    (entered c.args.name.now c.self.inside.rows.items c.args.self.now c.push_row.new.rows.items c.push_row.result
    c.self.view_is c.push_row.ensures.ok c.push_row.ensures.err).gave
