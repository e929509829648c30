use Rattle.std.proofs.Common.{◌≡◌, List, ◌∷◌, [], ◌++◌, ap, ◌∙◌, append_assoc, arith}
use Rattle.osm_text.proofs.SplitLemmas.{IsUtf8-parts}
use Rattle.osm_tasks.proofs.making.parts_of.Goals as goal

-- the parts with one more
parts-step : {X : Type 0} (whole parts pushed cut more : List X) (part pushed_part : X) → cut ≡ part ∷ more →
    pushed_part ≡ part → pushed ≡ parts ++ pushed_part ∷ [] → whole ≡ parts ++ cut → whole ≡ pushed ++ more
parts-step whole parts pushed cut more part pushed_part is same added before =
    rw (added, append_assoc, same) (before ∙ ap (λ xs. parts ++ xs) is)

pub from_utf8-requires : goal.from_utf8-requires
from_utf8-requires c =
    (IsUtf8-parts 44 c.loop-part.rest.now c.in-Some.part.now c.in-Some.more.now (omega arith) c.in-Some.ensures.some
    c.loop-part.invariant.utf8).0

pub loop-part-preserved : goal.loop-part-preserved
loop-part-preserved c = record {
  parts = parts-step _ c.loop-part.parts c.push.new.self _ _ c.in-Some.part.now c.in_ok-part.part
      c.in-Some.ensures.some c.in_ok-part.ensures c.in_ok-push.ensures.ok c.loop-part.invariant.parts;
  utf8 = (IsUtf8-parts 44 c.loop-part.rest.now c.in-Some.part.now c.in-Some.more.now (omega arith)
      c.in-Some.ensures.some c.loop-part.invariant.utf8).1;
}
