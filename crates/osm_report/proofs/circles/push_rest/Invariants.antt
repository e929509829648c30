use Rattle.std.proofs.Common.{◌≡◌, ◌+◌, ◌*◌, ◌≤◌, ◌++◌, length, take, codes}
use Rattle.std.specs.List.{flat_map}
use Rattle.osm_report.specs.Lines.{sense_text}
use Rattle.osm_report.proofs.circles.push_rest.Given as goal

-- the senses so far are appended, in at most 35 bytes each
abbrev pub invariant-loop-sense : goal.invariant-loop-sense
invariant-loop-sense l =
    (l.draft ≡ l.initial.draft ++ flat_map (λ sense. codes ", " ++ sense_text sense) (take l.sense-index l.senses))
    × (length l.draft ≤ length l.initial.draft + 35 * l.sense-index)
