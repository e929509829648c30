-- How contracts see what the frame in hand says yet.
-- Here it is a list of items or a cause; the code has a block, its plan, and how far it came with it.
use Rattle.std.specs.Prelude.{ℕ, List, [], Ok, Err}
use Rattle.std.specs.declared.result.Result.{Result}
use Rattle.osm_entity.specs.Items.{ItemValue}
use Rattle.osm_entity.specs.declared.verdict.Cause.{Cause}
use Rattle.osm_block_read.specs.Block.{block_said}
use Rattle.osm_pbf.specs.declared.frame_left.FrameLeft.TheInside.{Inside}
use Rattle.osm_pbf.specs.declared.frame_left.Stage.{Stage}
use Rattle.osm_pbf.specs.declared.frame_left.Stage.TheVariants.{Passed, Refused, Unchecked, Checked}

-- what a frame says yet: nothing once it was passed, its cause where it is bad, all that its block says before it was
-- checked, and then what its plan has to give
abbrev pub said_at : Stage → List ℕ → List ItemValue → Result (List ItemValue) Cause
said_at Passed raw plan = Ok []
said_at (Refused cause) raw plan = Err cause
said_at Unchecked raw plan = block_said raw
said_at Checked raw plan = Ok plan

-- the frame in hand is seen as what it says yet
abbrev pub frame_left_seen : Inside → Result (List ItemValue) Cause
frame_left_seen f = said_at f.stage f.raw f.plan
