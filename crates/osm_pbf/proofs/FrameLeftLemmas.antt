-- What the frame in hand answers, when an item is asked for.
use Rattle.std.proofs.Common.{◌≡◌, List, [], ◌∷◌, drop, ap, ◌∙◌}
use Rattle.std.specs.Prelude.{IfNone, IfSome, Option, None, Some, Ok, Err, slice_get}
use Rattle.std.specs.Result.{IsErrAnd}
use Rattle.std.specs.declared.result.Result.{Result}
use Rattle.osm_entity.specs.Items.{ItemValue}
use Rattle.osm_entity.specs.declared.verdict.Cause.{Cause}
use Rattle.osm_block_read.specs.declared.error.BlockError.{BlockError}
use Rattle.osm_block_read.specs.declared.error.BlockError.TheVariants.{Bad, Memory}
use Rattle.osm_pbf.specs.Steps.{AnswersItem}

-- the first of some items, and the rest
pub first_and_rest : (items : List ItemValue) (item : ItemValue) → slice_get items 0 ≡ Some item →
    items ≡ item ∷ drop 1 items
first_and_rest [] item is = cc
first_and_rest (first ∷ items) item is =
    let same : first ≡ item = cc in ap (λ head. head ∷ items) same

-- the answer of a frame whose block was checked
pub answers_planned : (old new : Result (List ItemValue) Cause) (before later : List ItemValue)
    (found : Option ItemValue) → old ≡ Ok before → new ≡ Ok later →
    IfSome found (λ item. before ≡ item ∷ later) → IfNone found (before ≡ []) → IfNone found (later ≡ before) →
    AnswersItem old new (Ok found)
answers_planned old new before later None was is some none ended = (was ∙ ap Ok none, is ∙ ap Ok ended ∙ ap Ok none)
answers_planned old new before later (Some item) was is some none ended = (later, was ∙ ap Ok some, is)

-- the answer of a frame that found no memory
pub answers_memory : (old new : Result (List ItemValue) Cause) (result : Result (Option ItemValue) BlockError) →
    IsErrAnd result (λ e. e ≡ Memory) → new ≡ old → AnswersItem old new result
answers_memory old new (Ok found) memory same = absurd memory
answers_memory old new (Err (Bad cause)) memory same = cc
answers_memory old new (Err Memory) memory same = same
