use Rattle.std.proofs.Common.{arith, vec_len, ◌∙◌}
use Rattle.osm_threads.specs.Rows.{inlets_of, outlets_of}
use Rattle.osm_threads.proofs.PipeLemmas.{met_next}
use Rattle.osm_threads.proofs.meeting.meet_all.Goals as goal

pub loop-pipe-preserved : goal.loop-pipe-preserved
loop-pipe-preserved g c =
    let i = c.loop-pipe.invariant in
    let sent = c.sent_of-sent in
    let taken = c.taken_of-taken in
    record {
      so = met_next c.args.pipes.now (vec_len c.args.tasks) c.loop-pipe.pipe-index _ (inlets_of c.args.tasks.items)
          (outlets_of c.args.tasks.items) (inlets_of c.loop-pipe.tasks.items) (outlets_of c.loop-pipe.tasks.items)
          (inlets_of sent.new.tasks.items) (outlets_of sent.new.tasks.items) (inlets_of taken.new.tasks.items)
          (outlets_of taken.new.tasks.items) sent.result taken.result c.requires.apart i.so (let less = c.loop-pipe-test.true in omega (arith, less))
          sent.ensures.inlets taken.ensures.outlets sent.ensures.sent taken.ensures.taken sent.ensures.rest
          taken.ensures.rest c.meet.ensures.meets;
      count = taken.ensures.count ∙ sent.ensures.count ∙ i.count;
    }
