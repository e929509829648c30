-- What a search by halves says of sorted ids.
use Rattle.std.proofs.Common.{◌≡◌, ℕ, ℤ, List, length, false, Result, Ok, Err, inl, inr, sym, ap, arith}
use Rattle.std.specs.Prelude.{is_ok, IsSorted, All}
use Rattle.std.specs.List.Sorted.{IsBinarySearchResult, IsPartitionPoint, IsSearchInRange}
use Rattle.std.specs.Ordering.{int_cmp, int_eq, is_eq}
use Rattle.std.specs.declared.cmp.Ordering.TheVariants.{Less, Greater}
use Rattle.std.proofs.lemmas.Bool.{cases_lt}
use Rattle.std.proofs.lemmas.Cmp.{int_cmp_total}
use Rattle.std.proofs.lemmas.List.Folds.{list_any_at, list_any_none}
use Rattle.std.proofs.lemmas.List.Sorted.{searchable_from_sorted}
use Rattle.osm_used.specs.Used.{has_id}

-- before the place are lesser ids, and from it on greater ones
differs : (xs : List ℤ) (id : ℤ) (i : ℕ) →
    IsPartitionPoint (λ y. int_cmp y id ≡ Less) (λ y. int_cmp y id ≡ Greater) xs i →
    All (λ y. int_eq y id ≡ false) xs
differs xs id i parts k d known = elim (cases_lt k i) [
  | inl lesser ↦ ap is_eq (parts.0 k d (omega arith) lesser)
  | inr greater ↦ ap is_eq (parts.1 k d greater known)
]

-- a search by halves among sorted ids finds an id exactly where it is among them
pub has_id-searched : (xs : List ℤ) (id : ℤ) (r : Result ℕ ℕ) → IsSorted int_cmp xs → IsSearchInRange r (length xs) →
    IsBinarySearchResult (λ y. int_cmp y id) xs r → is_ok r ≡ has_id xs id
has_id-searched xs id (Ok i) sorted known found =
    sym (list_any_at (λ y. int_eq y id) xs i id known (ap is_eq (found id)))
has_id-searched xs id (Err i) sorted known found = sym (list_any_none (λ y. int_eq y id) xs
    (differs xs id i (found (searchable_from_sorted int_cmp_total (λ y. y) xs id sorted))))
