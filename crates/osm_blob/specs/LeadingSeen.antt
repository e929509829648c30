-- How contracts see what bytes begin with.
use Rattle.osm_blob.specs.Leading.{LeadingFrame, Short, Whole, Faulty}
use Rattle.osm_blob.specs.declared.framing.FirstFrame.{FirstFrame}
use Rattle.osm_blob.specs.declared.framing.FirstFrame.TheVariants.{Short as IsShort, Whole as IsWhole, Faulty as IsFaulty}

-- what bytes begin with, with the bytes of its raw content
abbrev pub first_frame_seen : FirstFrame → LeadingFrame
first_frame_seen IsShort = Short
first_frame_seen (IsWhole what raw size) = Whole what raw.now size
first_frame_seen (IsFaulty cause blamed) = Faulty cause blamed
