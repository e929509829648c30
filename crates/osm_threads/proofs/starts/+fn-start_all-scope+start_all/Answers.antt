use Rattle.std.proofs.Common.{arith, false}
use Rattle.osm_threads.specs.Homes.{gate_word}
use Rattle.osm_threads.proofs.StartLemmas.{words_home, zip_more}
use Rattle.osm_threads.proofs.starts.+fn-start_all-scope+start_all.Goals as goal

pub scope-come_home-requires : goal.scope-come_home-requires
scope-come_home-requires g t c =
    let run = c.start_all-run in
    let start = c.captures.start in
    record {
      home = c.known_home-home.ensures;
      room = let count = run.ensures.count in let room = run.ensures.room in omega (arith, count, room, c.requires.8);
      words = rw c.of-others.ensures (rw c.of-known.ensures (words_home (gate_word run.result.all) run.result.words.items
          c.push_reserved.new.self.items c.captures.gates.items start.gate start.job.gate.pipe run.ensures.words
          c.push_reserved.ensures.items c.requires.2.gate.giver));
    }

pub scope-returns-in-Ok : goal.scope-returns-in-Ok
scope-returns-in-Ok g t c =
    let run = c.start_all-run in
    let come = c.come_home in
    let start = c.captures.start in (
      rw come.ensures.all (zip_more g.M.TaskMachine.of g.M.TaskMachine.names run.result.all c.captures.starts.items start
          run.result.backs.items come.new.run.backs.items run.ensures.backs (rw c.of-known.ensures at come.ensures.backs)),
      (let more = come.ensures.count in let count = run.ensures.count in omega (arith, more, count)),
      rw come.ensures.all (rw c.of-others.ensures at come.ensures.words),
      (let same = come.ensures.room in let room = run.ensures.room in omega (arith, same, room)),
    )

pub scope-come_home-requires-in-Err : goal.scope-come_home-requires-in-Err
scope-come_home-requires-in-Err g t c =
    let words = c.tell_all-words in
    let backs = c.stay-backs in
    let start = c.captures.start in
    record {
      home = c.known_home-home-in-Err.ensures;
      room = let count = backs.ensures.count in let room = backs.ensures.room in
          omega (arith, count, room, c.requires.8);
      words = rw c.of-others.ensures (rw c.of-known.ensures (words_home (gate_word false) words.result.items
          c.push_reserved.new.self.items c.captures.gates.items start.gate start.job.gate.pipe words.ensures.told
          c.push_reserved.ensures.items c.requires.2.gate.giver));
    }

pub scope-returns-in-Err : goal.scope-returns-in-Err
scope-returns-in-Err g t c =
    let backs = c.stay-backs in
    let come = c.come_home-in-Err in
    let start = c.captures.start in (
      rw come.ensures.all (zip_more g.M.TaskMachine.of g.M.TaskMachine.names false c.captures.starts.items start
          backs.result.items come.new.run.backs.items backs.ensures.stayed
          (rw c.of-known.ensures at come.ensures.backs)),
      (let more = come.ensures.count in let count = backs.ensures.count in omega (arith, more, count)),
      rw come.ensures.all (rw c.of-others.ensures at come.ensures.words),
      (let same = come.ensures.room in let room = backs.ensures.room in omega (arith, same, room)),
    )
