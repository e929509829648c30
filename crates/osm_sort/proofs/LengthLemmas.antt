-- What is sorted by key is as long as it was.
use Rattle.std.proofs.Common.{◌≡◌, ◌+◌, ◌≤◌, List, [], ◌∷◌, length, Bool, true, false, refl, arith, cond}
use Rattle.std.specs.Prelude.{fold}
use Rattle.osm_entity.specs.Items.{ItemValue, key_of}
use Rattle.osm_entity.specs.Keys.{is_key_before}
use Rattle.osm_entity.specs.Sorting.{put_by_key}
use Rattle.osm_entity.specs.declared.stream.End.{End}
use Rattle.osm_entity.specs.declared.stream.End.TheVariants.{Done, Broken}
use Rattle.osm_sort.specs.Sorted.{items_sorted}

length-put : (xs : List ItemValue) (item : ItemValue) → length (put_by_key xs item) ≡ length xs + 1
length-put [] item = refl
length-put (x ∷ xs) item = by_test (is_key_before (key_of item) (key_of x)) (length-put xs item) where
  by_test : (test : Bool) → length (put_by_key xs item) ≡ length xs + 1 →
      length (cond test (item ∷ x ∷ xs) (x ∷ put_by_key xs item)) ≡ length (x ∷ xs) + 1
  by_test true later = omega arith
  by_test false later = omega (arith, later)

length-fold : (done items : List ItemValue) → length (fold put_by_key done items) ≡ length done + length items
length-fold done [] = omega arith
length-fold done (x ∷ items) = omega (arith, length-fold (put_by_key done x) items, length-put done x)

-- a sort gives no more items than it took
pub length-sorted : (items : List ItemValue) (end : End) → length (items_sorted items end) ≤ length items
length-sorted items Done = omega (arith, length-fold [] items)
length-sorted items Broken = omega arith
