-- How it stands with the source of a reader, in any format.
-- Here it is told by what may come yet, and by counts; the code has what the last pull answered.
use Rattle.std.specs.Prelude.{◌≡◌, ℕ, ◌≤◌, ◌<◌, List, [], Bool, true, false, ◌==◌, nat_lt, if◌then◌else◌}
use Rattle.osm_entity.specs.declared.verdict.Verdict.{Verdict}
use Rattle.osm_entity.specs.declared.verdict.Verdict.TheVariants.{Running, Clean, Read, TooLong as PastLimit}
use Rattle.osm_host.specs.Counts.{Rises}
use Rattle.osm_host.specs.declared.feed.Feed.{Feed}
use Rattle.osm_host.specs.declared.feed.Feed.TheVariants.{Open, Ended, Failed, TooLong}

-- whether the end of the source came
abbrev pub reached_end : Feed → Bool
reached_end Open = false
reached_end Ended = true
reached_end Failed = false
reached_end TooLong = false

-- the verdict of a reader with nothing left to read, none of which was wrong
abbrev pub verdict_after : Feed → Verdict
verdict_after Open = Running
verdict_after Ended = Clean
verdict_after Failed = Read
verdict_after TooLong = PastLimit

-- how it stands with a source that gave a count of bytes, where there was room for `room`
abbrev pub feed_after : ℕ → ℕ → Feed
feed_after count room = if count == 0 then Ended else if nat_lt room count then TooLong else Open

-- what may come yet of a source: any bytes, or nothing after its end, its failure or too much
abbrev pub MayCome : Feed → List ℕ → Bool → Type 0
MayCome Open more clean = Unit {0}
MayCome Ended more clean = (more ≡ []) × (clean ≡ true)
MayCome Failed more clean = (more ≡ []) × (clean ≡ false)
MayCome TooLong more clean = (more ≡ []) × (clean ≡ false)

-- a source gave more than the limit exactly where its reader says so
abbrev pub FitsFeed : Feed → ℕ → ℕ → Type 0
FitsFeed Open limit count = count ≤ limit
FitsFeed Ended limit count = count ≤ limit
FitsFeed Failed limit count = count ≤ limit
FitsFeed TooLong limit count = limit < count

-- the count of a source's faults rose where its pull failed, and else stays
abbrev pub FaultsOfPull : Feed → ℕ → ℕ → Type 0
FaultsOfPull Open before now = now ≡ before
FaultsOfPull Ended before now = now ≡ before
FaultsOfPull Failed before now = Rises before now
FaultsOfPull TooLong before now = now ≡ before
