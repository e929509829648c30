use Rattle.std.proofs.Common.{◌≡◌, ℕ, [], ◌∷◌, ◌+◌, arith, refl}
use Rattle.osm_machine.proofs.ReadingStepLemmas.{asked_by, given_few, given_more}
use Rattle.osm_machine.specs.declared.ready.Ready.TheVariants.{Next, Stopped}
use Rattle.osm_machine.proofs.reading.look_ahead.Goals as goal

pub overflow_add-made : goal.overflow_add-made
overflow_add-made c =
    let few = given_few c.next.new.self (c.args.made.now + 1)
    (given_more c.args.reader.now c.next.new.self c.args.made.now (c.in-Ok-Some.item ∷ []) c.requires
    (rw c.in-Ok-Some.field-0-is at c.in-Ok-Some.ensures.some) c.in-Ok-Some.ensures.same.limit) in
    omega (arith, few.0, few.1)

pub returns-in-Ok-Some-clause-asked : goal.returns-in-Ok-Some-clause-asked
returns-in-Ok-Some-clause-asked c =
    asked_by c.args.reader.now c.next.new.self c.args.made.now (c.args.made.now + 1) (Next c.in-Ok-Some.item)
    (c.in-Ok-Some.item ∷ []) refl (rw c.in-Ok-Some.field-0-is at c.in-Ok-Some.ensures.some) c.in-Ok-Some.ensures.same
    c.in-Ok-Some.ensures.source c.requires refl

-- nothing more is the same count
no_more : (n : ℕ) → n ≡ n + 0
no_more n = omega arith

pub returns-in-Ok-None-clause-asked : goal.returns-in-Ok-None-clause-asked
returns-in-Ok-None-clause-asked c =
    asked_by c.args.reader.now c.next.new.self c.args.made.now c.args.made.now c.ready_after.result []
    c.ready_after.ensures.none (rw c.in-Ok-None.field-0-is at c.in-Ok-None.ensures.none) c.in-Ok-None.ensures.same
    c.in-Ok-None.ensures.source c.requires (no_more c.args.made.now)

pub returns-in-Err-clause-asked : goal.returns-in-Err-clause-asked
returns-in-Err-clause-asked c =
    asked_by c.args.reader.now c.next.new.self c.args.made.now c.args.made.now Stopped [] refl c.in-Err.ensures.err
    c.in-Err.ensures.same c.in-Err.ensures.source c.requires (no_more c.args.made.now)
