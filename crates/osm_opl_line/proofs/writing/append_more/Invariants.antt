use Rattle.std.proofs.Common.{◌≡◌, ◌++◌, ◌∷◌, take}
use Rattle.std.specs.List.{flat_map}
use Rattle.osm_opl_line.proofs.writing.append_more.Given as goal

abbrev pub invariant-loop-part : goal.invariant-loop-part
invariant-loop-part g l =
    l.out ≡ l.fn.out ++ flat_map (λ part. 44 ∷ g.T.Part.text part) (take l.part-index l.parts)
