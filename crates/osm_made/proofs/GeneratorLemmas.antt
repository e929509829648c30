-- The items that are made, one after the other: which comes next, and how many there are.
use Rattle.std.proofs.Common.{◌≡◌, ◌<◌, ◌≤◌, ◌+◌, ◌-◌, ◌∷◌, ◌++◌, ◌∙◌, ap, [], sym, length, List, ℕ, arith, length-append}
use Rattle.std.specs.Prelude.{drop, map}
use Rattle.std.specs.List.{range_with_len}
use Rattle.std.proofs.Math.Seq.{drop-append-add}
use Rattle.std.proofs.lemmas.List.{drop-append-le, drop_more, length-drop, nil_from_length}
use Rattle.std.proofs.lemmas.List.FromFn.{get_or-map-range_with_len, length-map-range_with_len}
use Rattle.osm_made.specs.Generator.{made_list, made_node, made_relation, made_way, nodes_among, relations_among, ways_among}
use Rattle.osm_made.specs.Maker.{MadeValue, count_to_come, items_to_come}

-- behind the first elements of a list this one comes next
pub record ComesNext {X : Type 0} (at : ℕ) (xs : List X) (x : X) : Type 0 where
  pub is : drop at xs ≡ x ∷ drop (at + 1) xs
  pub within : at < length xs

-- what is made by the numbers from 1 on comes in their order
next-map : {X : Type 0} (f : ℕ → X) (n at : ℕ) → at < n → ComesNext at (map f (range_with_len 1 n)) (f (at + 1))
next-map f n at low =
    let whole : length (map f (range_with_len 1 n)) ≡ n = length-map-range_with_len f 1 n in
    let inside : at < length (map f (range_with_len 1 n)) = omega arith in
    record {
      is = drop_more (map f (range_with_len 1 n)) at (f (at + 1)) inside
          ∙ ap (λ x. x ∷ drop (at + 1) (map f (range_with_len 1 n)))
          (get_or-map-range_with_len f 1 n at (at + 1) (f (at + 1)) low (omega arith));
      within = inside;
    }

-- what comes next in a list comes next in that list and another
next-left : {X : Type 0} (at : ℕ) (xs ys : List X) (x : X) → ComesNext at xs x → ComesNext at (xs ++ ys) x
next-left at xs ys x next = record {
  is = drop-append-le at xs ys (omega (arith, next.within))
      ∙ ap (λ zs. zs ++ ys) next.is
      ∙ ap (λ zs. x ∷ zs) (sym (drop-append-le (at + 1) xs ys (omega (arith, next.within))));
  within = omega (arith, next.within, length-append xs ys);
}

-- what comes next in a list comes next behind another list too
next-right : {X : Type 0} (at n : ℕ) (xs ys : List X) (x : X) → length xs ≡ n → n ≤ at → ComesNext (at - n) ys x
    → ComesNext at (xs ++ ys) x
next-right at n xs ys x whole past next =
    let here : length xs + (at - n) ≡ at = omega arith in
    let behind : length xs + (at - n + 1) ≡ at + 1 = omega arith in
    record {
      is = ap (λ k. drop k (xs ++ ys)) (sym here) ∙ drop-append-add xs ys (at - n) ∙ next.is
          ∙ ap (λ zs. x ∷ zs) (sym (drop-append-add xs ys (at - n + 1)) ∙ ap (λ k. drop k (xs ++ ys)) behind);
      within = omega (arith, next.within, length-append xs ys);
    }

-- while nodes are left a node comes next
pub next_node : (count seed at : ℕ) → at < nodes_among count →
    drop at (made_list count seed) ≡ made_node seed (at + 1) ∷ drop (at + 1) (made_list count seed)
unfolding made_list
next_node count seed at low =
    (next-left at _ _ _ (next-left at _ _ _ (next-map (made_node seed) (nodes_among count) at low))).is

-- behind the nodes, while ways are left, a way comes next
pub next_way : (count seed at : ℕ) → nodes_among count ≤ at → at - nodes_among count < ways_among count →
    drop at (made_list count seed)
    ≡ made_way count seed (at - nodes_among count + 1) ∷ drop (at + 1) (made_list count seed)
unfolding made_list
next_way count seed at past low =
    (next-left at _ _ _
    (next-right at (nodes_among count) _ _ _ (length-map-range_with_len _ 1 _) past
    (next-map (made_way count seed) (ways_among count) (at - nodes_among count) low))).is

-- as many nodes and ways as there are
length-before_relations : (count seed : ℕ) →
    length (map (made_node seed) (range_with_len 1 (nodes_among count))
    ++ map (made_way count seed) (range_with_len 1 (ways_among count)))
    ≡ nodes_among count + ways_among count
length-before_relations count seed =
    let nodes = map (made_node seed) (range_with_len 1 (nodes_among count)) in
    let ways = map (made_way count seed) (range_with_len 1 (ways_among count)) in
    let node_count : length nodes ≡ nodes_among count =
    length-map-range_with_len (made_node seed) 1 (nodes_among count) in
    let way_count : length ways ≡ ways_among count =
    length-map-range_with_len (made_way count seed) 1 (ways_among count) in
    omega (arith, length-append nodes ways)

-- behind the nodes and ways relations come
pub next_relation : (count seed at : ℕ) → nodes_among count ≤ at → ways_among count ≤ at - nodes_among count →
    at < count →
    drop at (made_list count seed)
    ≡ made_relation count seed (at - nodes_among count - ways_among count + 1) ∷ drop (at + 1) (made_list count seed)
unfolding made_list
next_relation count seed at past_nodes past_ways low =
    let here : at - nodes_among count - ways_among count ≡ at - (nodes_among count + ways_among count) = omega arith in
    rw here
    (next-right at (nodes_among count + ways_among count) _ _ _ (length-before_relations count seed) (omega arith)
    (next-map (made_relation count seed) (relations_among count) (at - (nodes_among count + ways_among count))
    (omega arith))).is

-- there are as many items as were asked for
pub length-made_list : (count seed : ℕ) → length (made_list count seed) ≡ count
unfolding made_list
length-made_list count seed =
    let before = map (made_node seed) (range_with_len 1 (nodes_among count))
    ++ map (made_way count seed) (range_with_len 1 (ways_among count)) in
    let relations = map (made_relation count seed) (range_with_len 1 (relations_among count)) in
    let before_count : length before ≡ nodes_among count + ways_among count = length-before_relations count seed in
    let relation_count : length relations ≡ relations_among count =
    length-map-range_with_len (made_relation count seed) 1 (relations_among count) in
    omega (arith, length-append before relations)

-- as many are to come as weren't given yet
pub length-items_to_come : (m : MadeValue) → length (items_to_come m) ≡ count_to_come m
length-items_to_come m =
    length-drop m.given (made_list m.count m.seed) ∙ ap (λ n. n - m.given) (length-made_list m.count m.seed)

-- none is to come where all were given
pub none_to_come : (m : MadeValue) → m.given ≡ m.count → items_to_come m ≡ []
none_to_come m all = nil_from_length (items_to_come m) (length-items_to_come m ∙ omega arith)
