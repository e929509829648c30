-- Lemmas on results of calls.
use Rattle.std.specs.Prelude.{OnErr, OnOk, Ok, Err}
use Rattle.std.specs.declared.result.Result.{Result}

-- what follows from a fact of an error
pub OnErr-weaker : {T E : Type 0} {P Q : Type 0} (r : Result T E) → (P → Q) → OnErr r P → OnErr r Q
OnErr-weaker (Ok x) weaker p = tt
OnErr-weaker (Err e) weaker p = weaker p

-- what follows from a fact of an answer
pub OnOk-weaker : {T E : Type 0} {P Q : Type 0} (r : Result T E) → (P → Q) → OnOk r P → OnOk r Q
OnOk-weaker (Ok x) weaker p = weaker p
OnOk-weaker (Err e) weaker p = tt

-- a fact holds also of an error, or an answer
pub OnErr-always : {T E : Type 0} {P : Type 0} (r : Result T E) → P → OnErr r P
OnErr-always (Ok x) p = tt
OnErr-always (Err e) p = p

pub OnOk-always : {T E : Type 0} {P : Type 0} (r : Result T E) → P → OnOk r P
OnOk-always (Ok x) p = p
OnOk-always (Err e) p = tt
