use Rattle.std.proofs.Common.{◌≡◌, ◌∙◌, ℕ, Bool, true, false, refl, ap}
use Rattle.std.specs.Prelude.{◌==◌, ◌||◌}
use Rattle.std.specs.List.{position}
use Rattle.osm_text.proofs.scanning.position_of.Goals as goal

-- one byte twice is that byte
same : (a : Bool) → (a || a) ≡ a
same true = refl
same false = refl

pub returns : goal.returns
returns c =
    c.position_of_either.ensures
    ∙ ap (λ (test : ℕ → Bool). position test c.args.bytes.now) (λ i b. same (b == c.args.byte) i)
