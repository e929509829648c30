-- Facts on results.
use Rattle.std.proofs.Common.{◌≡◌, false, Result, Ok, Err}
use Rattle.std.specs.Prelude.{OnErr, OnOk, is_err}

-- a fact holds on an error
pub on_err : {T E Q : Type 0} (r : Result T E) → Q → OnErr r Q
on_err (Ok value) fact = tt
on_err (Err error) fact = fact

-- where a result is no error, what holds on success holds
pub from_no_err : {T E P : Type 0} (r : Result T E) → false ≡ is_err r → OnOk r P → P
from_no_err (Ok value) is fact = fact
from_no_err (Err error) is fact = absurd cc
