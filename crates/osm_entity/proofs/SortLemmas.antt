-- Lemmas on sorted items: they rise, keep the order of their ties, and are the only such list.
use Rattle.std.proofs.Common.{◌≡◌, zero, suc, ◌+◌, List, [], ◌∷◌, ◌++◌, Bool, true, false, refl, sym, ap, subst, ◌⊎◌, inl, inr, ◌∙◌, arith, append_assoc, cond}
use Rattle.std.proofs.Math.Path.{fun_ext}
use Rattle.std.proofs.lemmas.List.{append-nil}
use Rattle.std.proofs.lemmas.List.Elements.{filter-append}
use Rattle.std.specs.Cmp.{IsStrictWeakOrder}
use Rattle.std.specs.List.Sorted.{IsSortedBy, IsSortedByKey, IsStableBy, IsStableByKey, ties}
use Rattle.std.specs.Ordering.{is_lt}
use Rattle.std.specs.Prelude.{⊤, filter, fold, if◌then◌else◌, not, ◌&&◌, slice_index_or}
use Rattle.std.specs.declared.cmp.Ordering.{Ordering}
use Rattle.std.specs.declared.cmp.Ordering.TheVariants.{Less, Equal, Greater}
use Rattle.osm_entity.specs.Items.{ItemValue, key_of}
use Rattle.osm_entity.specs.Keys.{is_key_before, key_order}
use Rattle.osm_entity.specs.contracts.kind.KeyOrd.TheImpl as compared
use Rattle.osm_entity.specs.declared.kind.Key.{Key}
use Rattle.osm_entity.specs.Sorting.{put_by_key, sorted_by_key}
use Rattle.osm_entity.proofs.KeyLemmas.{cmp_is, not_before_back, before_third, keys_told}

both : (p q : Bool) → p ≡ false → q ≡ false → not p && not q ≡ true
both p q left right = rw (left, right) refl

left_of : (p q : Bool) → not p && not q ≡ true → p ≡ false
left_of false q is = refl
left_of true q is = cc

right_of : (p q : Bool) → not p && not q ≡ true → q ≡ false
right_of false false is = refl
right_of false true is = cc
right_of true q is = cc

heads : {X : Type 0} {x y : X} {xs ys : List X} → x ∷ xs ≡ y ∷ ys → x ≡ y
heads is = cc

tails : {X : Type 0} {x y : X} {xs ys : List X} → x ∷ xs ≡ y ∷ ys → xs ≡ ys
tails is = cc

no_less_than_itself : (p : Bool) → (p ≡ true → p ≡ false) → p ≡ false
no_less_than_itself true one_way = one_way refl
no_less_than_itself false one_way = refl

module _ {X : Type 0} (lt : X → X → Bool) (o : IsStrictWeakOrder lt) where
  -- none of these is less than x
  abbrev NoneLess : X → List X → Type 0
  NoneLess x [] = ⊤
  NoneLess x (y ∷ ys) = (lt y x ≡ false) × NoneLess x ys

  -- none is less than one before it
  abbrev pub Rises : List X → Type 0
  Rises [] = ⊤
  Rises (x ∷ xs) = NoneLess x xs × Rises xs

  itself : (x : X) → lt x x ≡ false
  itself x = no_less_than_itself (lt x x) (o.one_way x x)

  tied : (x : X) → ties lt x x ≡ true
  tied x = both (lt x x) (lt x x) (itself x) (itself x)

  lower : (x w : X) (ys : List X) → lt x w ≡ false → NoneLess x ys → NoneLess w ys
  lower x w [] is none = tt
  lower x w (y ∷ ys) is none = (o.chain y x w none.0 is, lower x w ys is none.1)

  rest_sorted : (x : X) (xs : List X) → IsSortedBy lt (x ∷ xs) → IsSortedBy lt xs
  rest_sorted x xs sorted k d low high =
      let next : suc k + 1 ≡ suc (k + 1) = omega arith in
      subst (λ n. lt (slice_index_or (x ∷ xs) n d) (slice_index_or xs k d) ≡ false) next
      (sorted (suc k) d (omega arith) (omega arith))

  -- what is sorted rises
  pub sorted_rises : (xs : List X) → IsSortedBy lt xs → Rises xs
  sorted_rises [] sorted = tt
  sorted_rises (x ∷ []) sorted = (tt, tt)
  sorted_rises (x ∷ y ∷ more) sorted =
      let rest = sorted_rises (y ∷ more) (rest_sorted x (y ∷ more) sorted) in
      let next : lt y x ≡ false = sorted 0 x (omega arith) (omega arith) in
      ((next, lower y x more next rest.0), rest)

  -- what rises is sorted
  pub rising_sorted : (xs : List X) → Rises xs → IsSortedBy lt xs
  rising_sorted [] rises k d low high = absurd (omega arith)
  rising_sorted (x ∷ []) rises k d low high = absurd (omega arith)
  rising_sorted (x ∷ y ∷ more) rises zero d low high = rises.0.0
  rising_sorted (x ∷ y ∷ more) rises (suc k) d low high =
      let next : suc (k + 1) ≡ suc k + 1 = omega arith in
      subst (λ n. lt (slice_index_or (x ∷ y ∷ more) n d) (slice_index_or (y ∷ more) k d) ≡ false) next
      (rising_sorted (y ∷ more) rises.1 k d (omega arith) (omega arith))

  -- the first that passes is no less than what none is less than
  first_passing : (p : X → Bool) (y : X) (ys : List X) (x : X) (us : List X) → NoneLess y ys →
      filter p ys ≡ x ∷ us → lt x y ≡ false
  first_passing p y [] x us none is = cc
  first_passing p y (z ∷ zs) x us none is = by_test (p z) is (first_passing p y zs x us none.1) where
    by_test : (test : Bool) → cond test (z ∷ filter p zs) (filter p zs) ≡ x ∷ us →
        (filter p zs ≡ x ∷ us → lt x y ≡ false) → lt x y ≡ false
    by_test true is later = subst (λ v. lt v y ≡ false) (heads is) none.0
    by_test false is later = later is

  kept : (p : X → Bool) (x : X) (xs : List X) → p x ≡ true → filter p (x ∷ xs) ≡ x ∷ filter p xs
  kept p x xs is = ap (λ test. cond test (x ∷ filter p xs) (filter p xs)) is

  rest_same : (p : X → Bool) (x y : X) (xs ys : List X) → x ≡ y → filter p (x ∷ xs) ≡ filter p (y ∷ ys) →
      filter p xs ≡ filter p ys
  rest_same p x y xs ys same is =
      by_test (p x) (is ∙ ap (λ v. filter p (v ∷ ys)) (sym same)) where
        by_test : (test : Bool) →
            cond test (x ∷ filter p xs) (filter p xs) ≡ cond test (x ∷ filter p ys) (filter p ys) →
            filter p xs ≡ filter p ys
        by_test true is = tails is
        by_test false is = is

  -- lists that rise and have their ties in one order are one
  pub one_sorted : (xs ys : List X) → Rises xs → Rises ys → IsStableBy lt xs ys → xs ≡ ys
  one_sorted [] [] rises_x rises_y stable = refl
  one_sorted [] (y ∷ ys) rises_x rises_y stable =
      let is : [] ≡ y ∷ filter (ties lt y) ys = sym (stable y) ∙ kept (ties lt y) y ys (tied y) in cc
  one_sorted (x ∷ xs) [] rises_x rises_y stable =
      let is : [] ≡ x ∷ filter (ties lt x) xs = stable x ∙ kept (ties lt x) x xs (tied x) in cc
  one_sorted (x ∷ xs) (y ∷ ys) rises_x rises_y stable =
      let at_x : filter (ties lt x) (y ∷ ys) ≡ x ∷ filter (ties lt x) xs = stable x ∙ kept (ties lt x) x xs (tied x) in
      let at_y : filter (ties lt y) (x ∷ xs) ≡ y ∷ filter (ties lt y) ys =
      sym (stable y) ∙ kept (ties lt y) y ys (tied y) in
      let left : lt x y ≡ false =
      first_passing (ties lt x) y (y ∷ ys) x (filter (ties lt x) xs) (itself y, rises_y.0) at_x in
      let right : lt y x ≡ false =
      first_passing (ties lt y) x (x ∷ xs) y (filter (ties lt y) ys) (itself x, rises_x.0) at_y in
      let same : x ≡ y =
      heads (sym at_x ∙ kept (ties lt x) y ys (both (lt x y) (lt y x) left right)) in
      let rest : xs ≡ ys = one_sorted xs ys rises_x.1 rises_y.1
      (λ w. sym (rest_same (ties lt w) x y xs ys same (sym (stable w)))) in
      ap (λ v. v ∷ xs) same ∙ ap (λ vs. y ∷ vs) rest

  -- nothing ties with what stands before all of it
  none_tied : (w x z : X) (zs : List X) → ties lt w x ≡ true → lt x z ≡ true → NoneLess z zs →
      filter (ties lt w) zs ≡ []
  none_tied w x z [] tie less none = refl
  none_tied w x z (u ∷ us) tie less none =
      ap (λ test. cond test (u ∷ filter (ties lt w) us) (filter (ties lt w) us)) (no_tie (ties lt w u) refl)
      ∙ none_tied w x z us tie less none.1 where
        no_tie : (test : Bool) → ties lt w u ≡ test → test ≡ false
        no_tie false is = refl
        no_tie true is =
            let u_w : lt u w ≡ false = right_of (lt w u) (lt u w) is in
            let w_x : lt w x ≡ false = left_of (lt w x) (lt x w) tie in
            let x_w : lt x w ≡ false = right_of (lt w x) (lt x w) tie in
            let w_u : lt w u ≡ false = left_of (lt w u) (lt u w) is in
            let x_z : lt x z ≡ false = o.chain x w z x_w (o.chain w u z w_u none.0) in
            cc

-- whether an item's key stands before another's
abbrev pub comes_before : ItemValue → ItemValue → Bool
comes_before x y = is_key_before (key_of x) (key_of y)

less_by : (p q : Bool) → is_lt (if p then Less else if q then Greater else Equal) ≡ p
less_by true q = refl
less_by false true = refl
less_by false false = refl

less_is : (let less : ItemValue → ItemValue → Bool = λ x y. is_lt (key_order (key_of x) (key_of y)) in less)
    ≡ comes_before
less_is = fun_ext (λ x. fun_ext (λ y.
    less_by (is_key_before (key_of x) (key_of y)) (is_key_before (key_of y) (key_of x))))

not_before_third : (a b c : Key) → is_key_before a b ≡ false → is_key_before b c ≡ false → is_key_before a c ≡ false
not_before_third a b c left right = by_test (is_key_before a c) refl where
  by_order : is_key_before a c ≡ true →
      (is_key_before a b ≡ true) ⊎ ((a ≡ b) ⊎ (is_key_before b a ≡ true)) → true ≡ false
  by_order is (inl first) = sym first ∙ left
  by_order is (inr (inl same)) = sym is ∙ ap (λ k. is_key_before k c) same ∙ right
  by_order is (inr (inr second)) = sym (before_third b a c second is) ∙ right

  by_test : (test : Bool) → is_key_before a c ≡ test → test ≡ false
  by_test true is = by_order is (keys_told a b)
  by_test false is = refl

weak : IsStrictWeakOrder comes_before
weak = record {
  one_way = λ x y is. not_before_back (key_of x) (key_of y) is;
  chain = λ x y z left right. not_before_third (key_of x) (key_of y) (key_of z) left right;
}

put_none_less : (y x : ItemValue) (xs : List ItemValue) → comes_before x y ≡ false → NoneLess comes_before weak y xs →
    NoneLess comes_before weak y (put_by_key xs x)
put_none_less y x [] is none = (is, tt)
put_none_less y x (z ∷ zs) is none = by_test (comes_before x z) (put_none_less y x zs is none.1) where
  by_test : (test : Bool) → NoneLess comes_before weak y (put_by_key zs x) →
      NoneLess comes_before weak y (cond test (x ∷ z ∷ zs) (z ∷ put_by_key zs x))
  by_test true later = (is, none)
  by_test false later = (none.0, later)

-- what rises still does with one item put in
put_rises : (x : ItemValue) (xs : List ItemValue) → Rises comes_before weak xs →
    Rises comes_before weak (put_by_key xs x)
put_rises x [] rises = (tt, tt)
put_rises x (z ∷ zs) rises = by_test (comes_before x z) refl (put_rises x zs rises.1) where
  by_test : (test : Bool) → comes_before x z ≡ test → Rises comes_before weak (put_by_key zs x) →
      Rises comes_before weak (cond test (x ∷ z ∷ zs) (z ∷ put_by_key zs x))
  by_test true is later =
      let back : comes_before z x ≡ false = weak.one_way x z is in
      ((back, lower comes_before weak z x zs back rises.0), rises)
  by_test false is later = (put_none_less z x zs is rises.0, later)

-- an item put in stands behind those that tie with it
put_stable : (w x : ItemValue) (xs : List ItemValue) → Rises comes_before weak xs →
    filter (ties comes_before w) (put_by_key xs x) ≡ filter (ties comes_before w) (xs ++ x ∷ [])
put_stable w x [] rises = refl
put_stable w x (z ∷ zs) rises = by_test (comes_before x z) refl (put_stable w x zs rises.1) where
  p : ItemValue → Bool
  p = ties comes_before w

  before_all : (test : Bool) → p x ≡ test → comes_before x z ≡ true →
      cond test (x ∷ filter p (z ∷ zs)) (filter p (z ∷ zs)) ≡ filter p (z ∷ zs) ++ cond test (x ∷ []) []
  before_all true tie is =
      let none : filter p (z ∷ zs) ≡ [] =
      none_tied comes_before weak w x z (z ∷ zs) tie is (itself comes_before weak z, rises.0) in
      ap (λ vs. x ∷ vs) none ∙ ap (λ vs. vs ++ x ∷ []) (sym none)
  before_all false tie is = sym (append-nil (filter p (z ∷ zs)))

  by_test : (test : Bool) → comes_before x z ≡ test → filter p (put_by_key zs x) ≡ filter p (zs ++ x ∷ []) →
      filter p (cond test (x ∷ z ∷ zs) (z ∷ put_by_key zs x)) ≡ filter p ((z ∷ zs) ++ x ∷ [])
  by_test true is later = before_all (p x) refl is ∙ sym (filter-append p (z ∷ zs) (x ∷ []))
  by_test false is later = ap (λ vs. cond (p z) (z ∷ vs) vs) later

fold_rises : (done items : List ItemValue) → Rises comes_before weak done →
    Rises comes_before weak (fold put_by_key done items)
fold_rises done [] rises = rises
fold_rises done (x ∷ items) rises = fold_rises (put_by_key done x) items (put_rises x done rises)

fold_stable : (w : ItemValue) (done items : List ItemValue) → Rises comes_before weak done →
    filter (ties comes_before w) (fold put_by_key done items) ≡ filter (ties comes_before w) (done ++ items)
fold_stable w done [] rises = ap (filter (ties comes_before w)) (sym (append-nil done))
fold_stable w done (x ∷ items) rises =
    fold_stable w (put_by_key done x) items (put_rises x done rises)
    ∙ filter-append (ties comes_before w) (put_by_key done x) items
    ∙ ap (λ vs. vs ++ filter (ties comes_before w) items) (put_stable w x done rises)
    ∙ sym (filter-append (ties comes_before w) (done ++ x ∷ []) items)
    ∙ ap (filter (ties comes_before w)) (append_assoc done (x ∷ []) items)

-- sorted items rise by key
pub sorted_items_rise : (items : List ItemValue) → IsSortedByKey key_of key_order (sorted_by_key items)
sorted_items_rise items = subst (λ less. IsSortedBy less (sorted_by_key items)) (sym less_is)
    (rising_sorted comes_before weak (sorted_by_key items) (fold_rises [] items tt))

-- items of one key stand in their old order when they are sorted
pub sorted_items_are_stable : (items : List ItemValue) → IsStableByKey key_of key_order items (sorted_by_key items)
sorted_items_are_stable items = subst (λ less. IsStableBy less items (sorted_by_key items)) (sym less_is)
    (λ w. fold_stable w [] items tt)

-- and these are the only such items
pub one_sorted_by_key : (items sorted : List ItemValue) → IsSortedByKey key_of key_order sorted →
    IsStableByKey key_of key_order items sorted → sorted ≡ sorted_by_key items
one_sorted_by_key items sorted rising stable =
    let rises : IsSortedBy comes_before sorted = subst (λ less. IsSortedBy less sorted) less_is rising in
    let same : IsStableBy comes_before items sorted = subst (λ less. IsStableBy less items sorted) less_is stable in
    one_sorted comes_before weak sorted (sorted_by_key items) (sorted_rises comes_before weak sorted rises)
    (fold_rises [] items tt) (λ w. fold_stable w [] items tt ∙ sym (same w))

compared_by : (let by : Key → Key → Ordering = compared.ghosts.cmp in by) ≡ key_order
compared_by = fun_ext (λ a. fun_ext (λ b. cmp_is a b))

-- the same of a list that was sorted as keys are compared
pub one_sorted_by_cmp : (items sorted : List ItemValue) → IsSortedByKey key_of compared.ghosts.cmp sorted →
    IsStableByKey key_of compared.ghosts.cmp items sorted → sorted ≡ sorted_by_key items
one_sorted_by_cmp items sorted rising stable = one_sorted_by_key items sorted
    (subst (λ by. IsSortedByKey key_of by sorted) compared_by rising)
    (subst (λ by. IsStableByKey key_of by items sorted) compared_by stable)
