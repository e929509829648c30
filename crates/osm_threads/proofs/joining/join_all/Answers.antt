use Rattle.std.proofs.Common.{arith, vec_len, ◌∙◌}
use Rattle.osm_threads.specs.Rows.{inlets_of, outlets_of}
use Rattle.osm_threads.proofs.PipeLemmas.{made_next}
use Rattle.osm_threads.proofs.joining.join_all.Goals as goal

pub loop-pipe-preserved : goal.loop-pipe-preserved
loop-pipe-preserved g c =
    let i = c.loop-pipe.invariant in
    let new = c.in_ok-giver in
    let gave = c.join_giver in
    let took = c.join_taker in
    record {
      made = made_next c.args.pipes.now (vec_len c.args.tasks.now) c.loop-pipe.pipe-index _
          (inlets_of c.loop-pipe.tasks.items) (outlets_of c.loop-pipe.tasks.items) (inlets_of gave.new.tasks.items)
          (outlets_of gave.new.tasks.items) (inlets_of took.new.tasks.items) (outlets_of took.new.tasks.items) new.giver
          new.taker c.requires.apart i.made (let less = c.loop-pipe-test.true in omega (arith, less)) new.ensures.new.0 new.ensures.new.1
          gave.ensures.inlets took.ensures.outlets c.in_ok-join_giver.ensures.outlets
          c.in_ok-join_taker.ensures.inlets;
      count = took.ensures.count ∙ gave.ensures.count ∙ i.count;
    }
