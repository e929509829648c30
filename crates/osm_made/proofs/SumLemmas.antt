-- What a summary tells of what is made: sums over its three parts.
use Rattle.std.proofs.Common.{◌≡◌, ◌+◌, ◌*◌, ◌/◌, ◌%◌, ◌++◌, ◌∙◌, refl, ℕ, zero, suc, length, arith}
use Rattle.std.specs.Prelude.{◌==◌, if◌then◌else◌, map, sum_by}
use Rattle.std.specs.List.{range_with_len}
use Rattle.std.proofs.lemmas.List.Sums.{sum_by-append, sum_by-cons}
use Rattle.std.proofs.lemmas.Bool.Decides.{nat_tests}
use Rattle.osm_entity.specs.Entities.{tag_weight, weight_of}
use Rattle.osm_entity.specs.Items.{ItemValue}
use Rattle.osm_entity.specs.declared.kind.Kind.TheVariants.{Node as OfNode, Way as OfWay, Relation as OfRelation}
use Rattle.osm_made.specs.Generator.{made_list, made_node, made_relation, made_tags, made_way, nodes_among, relations_among, ways_among}
use Rattle.osm_made.specs.Summaries.{Summed, capped, is_item_of, member_count, ref_count, summed_over}

-- 1 for an even number, else 0
abbrev even : ℕ → ℕ
even n = if n % 2 == 0 then 1 else 0

-- how many of n numbers, from a on, are even
abbrev evens : ℕ → ℕ → ℕ
evens a zero = 0
evens a (suc n) = even a + evens (a + 1) n

-- among n numbers from a on half are even, rounded by where they begin
evens-half : (a n : ℕ) → evens a n + (a + 1) / 2 ≡ (a + n + 1) / 2
evens-half a zero = omega arith
evens-half a (suc n) = grind (arith, nat_tests, evens-half (a + 1) n)

-- one number more
step : (first rest each even_each n here later : ℕ) →
    first ≡ each + even_each * here → rest ≡ n * each + even_each * later →
    first + rest ≡ suc n * each + even_each * (here + later)
step first rest each even_each n here later e f = grind (arith, e, f)

-- what each number adds, and each even one besides, n numbers from a on add together
sum_by-numbers : {X : Type 0} (g : X → ℕ) (f : ℕ → X) (each even_each a n : ℕ) →
    ((j : ℕ) → g (f j) ≡ each + even_each * even j) →
    sum_by g (map f (range_with_len a n)) ≡ n * each + even_each * evens a n
sum_by-numbers g f each even_each a zero adds = omega arith
sum_by-numbers g f each even_each a (suc n) adds =
    let first : g (f a) ≡ each + even_each * even a = adds a in
    let rest : sum_by g (map f (range_with_len (a + 1) n)) ≡ n * each + even_each * evens (a + 1) n =
    sum_by-numbers g f each even_each (a + 1) n adds in
    sum_by-cons g (f a) (map f (range_with_len (a + 1) n)) ∙ step (g (f a)) _ each even_each n (even a) _ first rest

-- a sum over what is made: what each node, way and relation adds, and each second way besides
sum_by-made_list : (g : ItemValue → ℕ) (count seed node way second relation : ℕ)
    → ((j : ℕ) → g (made_node seed j) ≡ node)
    → ((j : ℕ) → g (made_way count seed j) ≡ way + second * even j)
    → ((j : ℕ) → g (made_relation count seed j) ≡ relation)
    → sum_by g (made_list count seed)
    ≡ nodes_among count * node + (ways_among count * way + second * (ways_among count / 2))
    + relations_among count * relation
unfolding made_list
sum_by-made_list g count seed node way second relation nodes ways relations =
    let node_list = map (made_node seed) (range_with_len 1 (nodes_among count)) in
    let way_list = map (made_way count seed) (range_with_len 1 (ways_among count)) in
    let relation_list = map (made_relation count seed) (range_with_len 1 (relations_among count)) in
    let half : evens 1 (ways_among count) ≡ ways_among count / 2 = omega (arith, evens-half 1 (ways_among count)) in
    rw (
      sum_by-append g (node_list ++ way_list) relation_list,
      sum_by-append g node_list way_list,
      sum_by-numbers g (made_node seed) node 0 1 (nodes_among count) (λ j. omega (arith, nodes j)),
      sum_by-numbers g (made_way count seed) way second 1 (ways_among count) ways,
      sum_by-numbers g (made_relation count seed) relation 0 1 (relations_among count)
          (λ j. omega (arith, relations j)),
      half,
    ) (omega arith)

-- a way has a tag where its number is even
length-made_tags : (j : ℕ) → length (made_tags j) ≡ even j
length-made_tags j = grind (arith, nat_tests)

-- that tag weighs 50
weight-made_tags : (j : ℕ) → sum_by tag_weight (made_tags j) ≡ 50 * even j
weight-made_tags j = grind (arith, nat_tests)

-- the summary of seven numbers
abbrev summary_with : (nodes ways relations tags refs members weight : ℕ) → Summed
summary_with nodes ways relations tags refs members weight = record {
  nodes = capped nodes;
  ways = capped ways;
  relations = capped relations;
  tags = capped tags;
  refs = capped refs;
  members = capped members;
  weight = capped weight;
}

-- summaries of the same numbers are the same
same-summary_with : {a b c d e f g h i j k l m n : ℕ} → a ≡ h → b ≡ i → c ≡ j → d ≡ k → e ≡ l → f ≡ m → g ≡ n →
    summary_with a b c d e f g ≡ summary_with h i j k l m n
same-summary_with o p q r s t u = cc

-- what a summary of all that is made tells
pub summed_over-made_list : (count seed : ℕ) → summed_over (made_list count seed) ≡ record {
  nodes = capped (nodes_among count);
  ways = capped (ways_among count);
  relations = capped (relations_among count);
  tags = capped (ways_among count / 2);
  refs = capped (4 * ways_among count);
  members = capped (2 * relations_among count);
  weight = capped (128 * count + 50 * (ways_among count / 2) + 128 * ways_among count + 68 * relations_among count);
}
summed_over-made_list count seed =
    same-summary_with
    (sum_by-made_list (λ item. if is_item_of OfNode item then 1 else 0) count seed 1 0 0 0
    (λ j. refl) (λ j. omega arith) (λ j. refl) ∙ omega arith)
    (sum_by-made_list (λ item. if is_item_of OfWay item then 1 else 0) count seed 0 1 0 0
    (λ j. refl) (λ j. omega arith) (λ j. refl) ∙ omega arith)
    (sum_by-made_list (λ item. if is_item_of OfRelation item then 1 else 0) count seed 0 0 0 1
    (λ j. refl) (λ j. omega arith) (λ j. refl) ∙ omega arith)
    (sum_by-made_list (λ item. length item.entity.tags) count seed 0 0 1 0
    (λ j. refl) (λ j. omega (arith, length-made_tags j)) (λ j. refl) ∙ omega arith)
    (sum_by-made_list (λ item. ref_count item.entity.body) count seed 0 4 0 0
    (λ j. refl) (λ j. omega arith) (λ j. refl) ∙ omega arith)
    (sum_by-made_list (λ item. member_count item.entity.body) count seed 0 0 0 2
    (λ j. refl) (λ j. omega arith) (λ j. refl) ∙ omega arith)
    (sum_by-made_list (λ item. weight_of item.entity) count seed 128 256 50 196
    (λ j. refl) (λ j. omega (arith, weight-made_tags j)) (λ j. refl) ∙ omega arith)
