-- A run of all tasks on threads: what is started, and what is back.
-- Here the history of the run is read off the halves of the pipes; the code keeps no history.
use Rattle.std.specs.Prelude.{◌≡◌, ℕ, ◌≤◌, List, [], ◌∷◌, length, map, All, Bool, true, ◌&&◌, vec_capacity, vec_len}
use Rattle.osm_entity.specs.Machines.{Given}
use Rattle.osm_graph.specs.declared.pipe.Pipe.{Pipe}
use Rattle.osm_net.specs.Histories.{History}
use Rattle.osm_threads.specs.Ports.{PortHalf, passed_at}
use Rattle.osm_threads.specs.Rows.{AreMade, giving_end, inlets_of, outlets_of, taking_end}
use Rattle.osm_threads.specs.Starts.{IsNewGate}
use Rattle.osm_threads.specs.declared.ports.TaskPorts.{TaskPorts}
use Rattle.osm_threads.specs.declared.running.Parts.{Parts}
use Rattle.osm_threads.specs.declared.starts.Back.{Back}
use Rattle.osm_threads.specs.declared.starts.Start.{Start}

-- what a run of this many tasks takes memory for is there: all pipes, new gates, and room
pub record AreParts {M : Type 0} (pipes : List Pipe) (count : ℕ) (parts : Parts M) : Type 0 where
  pub tasks : vec_len parts.tasks ≡ count
  pub made : AreMade pipes (length pipes) (inlets_of parts.tasks.items) (outlets_of parts.tasks.items)
  pub gates : (vec_len parts.gates ≡ count) × All IsNewGate parts.gates.items
  pub starts : (parts.starts.items ≡ []) × (count ≤ vec_capacity parts.starts)
  pub givers : (parts.givers.items ≡ []) × (count ≤ vec_capacity parts.givers)
  pub words : (parts.words.items ≡ []) × (count ≤ vec_capacity parts.words)
  pub backs : (parts.backs.items ≡ []) × (count ≤ vec_capacity parts.backs)

-- the history that the halves of the pipes tell
abbrev pub history_told : {M : Type 0} → List Pipe → (inlets outlets : List (List PortHalf)) → (ℕ → Given M) → History M
history_told pipes inlets outlets given = record {
  sent = λ p. passed_at (giving_end outlets pipes p);
  taken = λ p. length (passed_at (taking_end inlets pipes p));
  given = given;
}

module _ {M : Type 0} where
  -- the machines of some starts
  abbrev pub machines_started : List (Start M) → List M
  machines_started starts = map (λ start. start.job.machine) starts

  -- the ports of some starts
  abbrev pub ports_started : List (Start M) → List TaskPorts
  ports_started starts = map (λ start. start.job.ports) starts

  -- the machines that are back
  abbrev pub machines_back : List (Back M) → List M
  machines_back backs = map (λ back. back.machine) backs

  -- the ports that are back
  abbrev pub ports_back : List (Back M) → List TaskPorts
  ports_back backs = map (λ back. back.ports) backs

  -- whether all that are back have ended
  abbrev pub are_whole : List (Back M) → Bool
  are_whole [] = true
  are_whole (back ∷ backs) = back.whole && are_whole backs
