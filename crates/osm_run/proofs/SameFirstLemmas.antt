-- Lists of faults that begin alike, whatever follows them.
use Rattle.std.proofs.Common.{◌≡◌, List, [], ◌∷◌, ◌++◌, refl, sym, ap, ◌∙◌, append_assoc}
use Rattle.std.specs.Prelude.{flat_map}
use Rattle.std.specs.List.{AllByRecursion}
use Rattle.std.proofs.lemmas.List.{append-nil}
use Rattle.osm_report.specs.declared.fault.Fault.{Fault}
use Rattle.osm_run.specs.Course.{first_fault}

-- lists of faults whose first is one, whatever comes after them
pub SameFirst : List Fault → List Fault → Type 0
SameFirst xs ys = (more rest : List Fault) → first_fault more ≡ first_fault rest →
    first_fault (xs ++ more) ≡ first_fault (ys ++ rest)

pub same_first : (xs ys : List Fault) → SameFirst xs ys → first_fault xs ≡ first_fault ys
unfolding SameFirst
same_first xs ys is = ap first_fault (sym (append-nil xs)) ∙ is [] [] refl ∙ ap first_fault (append-nil ys)

pub same_before : (xs ys more : List Fault) → SameFirst xs ys → first_fault (xs ++ more) ≡ first_fault (ys ++ more)
unfolding SameFirst
same_before xs ys more is = is more more refl

pub same_none : SameFirst [] []
unfolding SameFirst
same_none more rest is = is

pub same_one : (fault : Fault) (xs ys : List Fault) → SameFirst (fault ∷ xs) (fault ∷ ys)
unfolding SameFirst
same_one fault xs ys more rest is = refl

pub same_both : (xs ys vs ws : List Fault) → SameFirst xs ys → SameFirst vs ws → SameFirst (xs ++ vs) (ys ++ ws)
unfolding SameFirst
same_both xs ys vs ws p q more rest is =
    ap first_fault (append_assoc xs vs more) ∙ p (vs ++ more) (ws ++ rest) (q more rest is)
    ∙ sym (ap first_fault (append_assoc ys ws rest))

pub same_all : {X : Type 0} (f g : X → List Fault) (xs : List X) → AllByRecursion (λ x. SameFirst (f x) (g x)) xs →
    SameFirst (flat_map f xs) (flat_map g xs)
same_all f g [] all = same_none
same_all f g (x ∷ xs) all = same_both (f x) (g x) (flat_map f xs) (flat_map g xs) all.0 (same_all f g xs all.1)
