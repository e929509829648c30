-- What follows from an answer: which way a choice went, and what an answer holds.
use Rattle.std.proofs.Common.{◌≡◌, Bool, true, false, Ok, Err, refl, inl, inr, ◌⊎◌}
use Rattle.std.specs.Prelude.{Result, if◌then◌else◌}
use Rattle.osm_wire.specs.declared.error.WireError.{WireError}

-- which way a choice went
pub chosen : {X : Type 0} (b : Bool) (x y z : X) → (if b then x else y) ≡ z →
    ((b ≡ true) × (x ≡ z)) ⊎ ((b ≡ false) × (y ≡ z))
chosen true x y z is = inl (refl, is)
chosen false x y z is = inr (refl, is)

-- no error is a value
pub err_ok : {X : Type 0} {e : WireError} {x : X} → Err e ≡ Ok x → ⊥
err_ok is = cc

-- two equal values in answers are equal
pub same_value : {X : Type 0} {x y : X} → ◌≡◌ {A = Result X WireError} (Ok x) (Ok y) → x ≡ y
same_value is = cc

-- two equal refusals have one error
pub same_error : {X : Type 0} {e f : WireError} → ◌≡◌ {A = Result X WireError} (Err e) (Err f) → e ≡ f
same_error is = cc
