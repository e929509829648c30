-- Ids that rise, searched by halves, and others beside them.
use Rattle.std.proofs.Common.{◌≡◌, ◌∙◌, ℕ, ℤ, List, [], ◌∷◌, ◌++◌, length, get_or, ◌-◌, Bool, true, false, cond, Some, None, Result, Ok, Err, inl, inr, refl, sym, ap, arith, subst, ◌≤◌, ◌<ℤ◌}
use Rattle.std.specs.Prelude.{◌||◌, All, IsSorted, int_le, int_lt, is_ok}
use Rattle.std.specs.List.{list_any, slice_get}
use Rattle.std.specs.List.Sorted.{IsBinarySearchResult, IsPartitionPoint, IsSearchInRange}
use Rattle.std.specs.Cmp.{int_cmp_is}
use Rattle.std.specs.Ordering.{int_cmp, int_eq, is_eq, is_lt, ordering_index}
use Rattle.std.specs.declared.cmp.Ordering.{Ordering}
use Rattle.std.specs.declared.cmp.Ordering.TheVariants.{Less, Equal, Greater}
use Rattle.std.proofs.Math.Path.{fun_ext}
use Rattle.std.proofs.lemmas.Bool.{cases_lt}
use Rattle.std.proofs.lemmas.Cmp.{int_cmp_total}
use Rattle.std.proofs.lemmas.List.Folds.{list_any-append, list_any_at, list_any_none}
use Rattle.std.proofs.lemmas.List.Kept.{IsSortedBy-push}
use Rattle.std.proofs.lemmas.List.Sorted.{searchable_from_sorted}
use Rattle.std.proofs.lemmas.Option.{get_or_from_slice_get, slice_get-get_or}
use Rattle.osm_select.specs.IdSets.{among, with_id}
use Rattle.osm_select.proofs.LinkLemmas.{among-push, flip_id}

-- before the place of a search are lesser ids, and from it on greater ones
others_differ : (xs : List ℤ) (id : ℤ) (i : ℕ) →
    IsPartitionPoint (λ y. int_cmp y id ≡ Less) (λ y. int_cmp y id ≡ Greater) xs i →
    All (λ y. int_eq y id ≡ false) xs
others_differ xs id i parts k d known = elim (cases_lt k i) [
  | inl lesser ↦ ap is_eq (parts.0 k d (omega arith) lesser)
  | inr greater ↦ ap is_eq (parts.1 k d greater known)
]

searched : (xs : List ℤ) (id : ℤ) (r : Result ℕ ℕ) → IsSorted int_cmp xs → IsSearchInRange r (length xs) →
    IsBinarySearchResult (λ y. int_cmp y id) xs r → is_ok r ≡ list_any (λ y. int_eq y id) xs
searched xs id (Ok i) sorted known found =
    sym (list_any_at (λ y. int_eq y id) xs i id known (ap is_eq (found id)))
searched xs id (Err i) sorted known found = sym (list_any_none (λ y. int_eq y id) xs
    (others_differ xs id i (found (searchable_from_sorted int_cmp_total (λ y. y) xs id sorted))))

-- a search by halves among sorted ids finds an id exactly where it is among them
pub among-searched : (xs : List ℤ) (id : ℤ) (r : Result ℕ ℕ) → IsSorted int_cmp xs → IsSearchInRange r (length xs) →
    IsBinarySearchResult (λ y. int_cmp y id) xs r → is_ok r ≡ among xs id
among-searched xs id r sorted known found = searched xs id r sorted known found
    ∙ ap (λ (test : ℤ → Bool). list_any test xs) (fun_ext (λ y. flip_id y id))

-- an id is among some ids and others where it is among either
pub among-both : (xs ys : List ℤ) (id : ℤ) → among (xs ++ ys) id ≡ (among xs id || among ys id)
among-both xs ys id = list_any-append (int_eq id) xs ys

put_first : (a e c : Bool) → ((a || e) || c) ≡ (e || (a || c))
put_first true true c = refl
put_first true false c = refl
put_first false true c = refl
put_first false false c = refl

put_second : (a e c : Bool) → (a || (e || c)) ≡ (e || (a || c))
put_second true true c = refl
put_second true false c = refl
put_second false true c = refl
put_second false false c = refl

-- an id more among those that rise
pub rising_put : (xs ys : List ℤ) (id : ℤ) → among ((xs ++ id ∷ []) ++ ys) ≡ with_id id (among (xs ++ ys))
rising_put xs ys id = fun_ext (λ q. among-both (xs ++ id ∷ []) ys q ∙ ap (λ b. b || among ys q) (among-push xs id q)
    ∙ put_first (among xs q) (int_eq id q) (among ys q) ∙ ap (λ b. int_eq id q || b) (sym (among-both xs ys q)))

-- an id more among the others
pub other_put : (xs ys more : List ℤ) (id : ℤ) → among more ≡ with_id id (among ys) →
    among (xs ++ more) ≡ with_id id (among (xs ++ ys))
other_put xs ys more id put = fun_ext (λ q. among-both xs more q
    ∙ ap (λ (test : ℤ → Bool). among xs q || test q) put
    ∙ put_second (among xs q) (int_eq id q) (among ys q) ∙ ap (λ b. int_eq id q || b) (sym (among-both xs ys q)))

lt_by : (b c : Bool) → b ≡ false → is_lt (cond b Less (cond c Greater Equal)) ≡ false
lt_by true c is = absurd cc
lt_by false true is = refl
lt_by false false is = refl

not_lt : (a b : ℤ) → int_le a b ≡ true → int_lt b a ≡ false
not_lt a b is = grind (arith, is)

not_less : (a b : ℤ) → int_le a b ≡ true → is_lt (int_cmp b a) ≡ false
not_less a b is = lt_by (int_lt b a) (int_lt a b) (not_lt a b is)

-- an id that is not less than the last one stands in order behind it
pub goes_on_some : (xs : List ℤ) (last id : ℤ) → IsSorted int_cmp xs → slice_get xs (length xs - 1) ≡ Some last →
    int_le last id ≡ true → IsSorted int_cmp (xs ++ id ∷ [])
goes_on_some xs last id sorted at le = IsSortedBy-push (λ x y. is_lt (int_cmp x y)) xs id sorted
    (λ d some. ap (λ y. is_lt (int_cmp id y)) (get_or_from_slice_get xs (length xs - 1) last d at)
    ∙ not_less last id le)

-- and an id behind none
pub goes_on_none : (xs : List ℤ) (id : ℤ) → IsSorted int_cmp xs → slice_get xs (length xs - 1) ≡ None →
    IsSorted int_cmp (xs ++ id ∷ [])
goes_on_none xs id sorted at = IsSortedBy-push (λ x y. is_lt (int_cmp x y)) xs id sorted
    (λ d some. absurd (let has : slice_get xs (length xs - 1) ≡ Some (get_or xs (length xs - 1) d) =
    slice_get-get_or xs (length xs - 1) d (omega (arith, some)) in cc))

lower : (o : Ordering) → ordering_index o ≤ 0 → is_eq o ≡ false
lower Less low = refl
lower Equal low = absurd (omega (arith, low))
lower Greater low = absurd (omega (arith, low))

less_by : (a b : ℤ) → int_lt a b ≡ true → a <ℤ b
less_by a b is = grind (arith, is)

-- an id that is greater than the last of ids that rise is not among them
pub past_last : (xs : List ℤ) (last id : ℤ) → IsSorted int_cmp xs → slice_get xs (length xs - 1) ≡ Some last →
    int_lt last id ≡ true → among xs id ≡ false
past_last xs last id sorted at less =
    sym (ap (λ (test : ℤ → Bool). list_any test xs) (fun_ext (λ y. flip_id y id)))
    ∙ list_any_none (λ y. int_eq y id) xs (λ k d known. lower (int_cmp (get_or xs k d) id)
    (subst (λ o. ordering_index (int_cmp (get_or xs k d) id) ≤ ordering_index o)
    (ap (λ y. int_cmp y id) (get_or_from_slice_get xs (length xs - 1) last d at) ∙ sym (int_cmp_is last id Less (less_by last id less)))
    (searchable_from_sorted int_cmp_total (λ y. y) xs id sorted k (length xs - 1) d (omega (arith, known))
    (omega (arith, known)))))
