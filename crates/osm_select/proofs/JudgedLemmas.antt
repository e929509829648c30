-- Each item is judged by all items up to it, and clipped by all that is kept.
use Rattle.std.proofs.Common.{◌≡◌, ℕ, suc, List, [], ◌∷◌, ◌++◌, Bool, true, false, cond, ◌&&◌, ◌||◌, refl, sym, ap, ◌∙◌, append_assoc, arith}
use Rattle.std.specs.Prelude.{ℤ, fold, filter, nat_le}
use Rattle.std.specs.Ordering.{int_eq}
use Rattle.std.specs.List.{list_any}
use Rattle.std.proofs.Math.Path.{fun_ext}
use Rattle.std.proofs.Math.Bool.{or_comm}
use Rattle.std.proofs.lemmas.Grind.{fold-append}
use Rattle.std.proofs.lemmas.List.Folds.{list_any-append}
use Rattle.osm_area.specs.declared.area.Area.{Area}
use Rattle.osm_entity.specs.Items.{ItemValue, kind_of}
use Rattle.osm_entity.specs.Keys.{kind_rank}
use Rattle.osm_entity.specs.declared.parts.Body.{Body}
use Rattle.osm_entity.specs.declared.parts.Body.TheVariants.{Node, Relation, Way}
use Rattle.osm_select.specs.Judged.{ClipsByOutput, JudgesEach, items_kept, keeps_body}
use Rattle.osm_select.specs.Kinds.{IsLongestPrefix, are_kinds_ordered, item_rank, kinds_prefix}
use Rattle.osm_select.specs.Parts.{Sets, around, clipped, has_part, ids_where, keys_of, lies_inside, nodes_inside, touches, touching_ways, with_body}
use Rattle.osm_select.specs.Passed.{is_kept, items_passed, kept_after, nothing_kept}
use Rattle.osm_select.proofs.CarriedLemmas.{carried, carries, first_in, no_node, node_after, nodes_carried, none_more, way_after, ways_carried}
use Rattle.osm_select.proofs.LinkLemmas.{itself, or-false}
use Rattle.osm_select.proofs.PassedLemmas.{passed-more}

-- an id of one item more that passes a test
where_more : (test : ItemValue → Bool) (prefix : List ItemValue) (x : ItemValue) (q : ℤ) →
    ids_where test (prefix ++ x ∷ []) q ≡ (ids_where test prefix q || (int_eq x.entity.id q && test x))
where_more test prefix x q = list_any-append (λ (item : ItemValue). int_eq item.entity.id q && test item) prefix
    (x ∷ []) ∙ ap (λ b. ids_where test prefix q || b) (or-false (int_eq x.entity.id q && test x))

-- an item that fails a test adds no id
same_where : (test : ItemValue → Bool) (prefix : List ItemValue) (x : ItemValue) → test x ≡ false →
    ids_where test (prefix ++ x ∷ []) ≡ ids_where test prefix
same_where test prefix x fails =
    fun_ext (λ q. where_more test prefix x q ∙ ap (λ b. ids_where test prefix q || (int_eq x.entity.id q && b)) fails
    ∙ sym (none_more (ids_where test prefix q) (int_eq x.entity.id q)))

-- a way adds no node
way_same : (area : Area) (prefix : List ItemValue) (x : ItemValue) (refs : List ℤ) →
    nodes_inside area (prefix ++ with_body x (Way refs) ∷ []) ≡ nodes_inside area prefix
way_same area prefix x refs = same_where (λ (item : ItemValue). lies_inside area item.entity.body) prefix
    (with_body x (Way refs)) refl

-- a relation adds no node and no way
relation_same : (area : Area) (prefix : List ItemValue) (x : ItemValue) (relations : ℤ → Bool) →
    lies_inside area x.entity.body ≡ false → ((nodes : ℤ → Bool) → touches nodes x.entity.body ≡ false) →
    around area prefix relations ≡ around area (prefix ++ x ∷ []) relations
relation_same area prefix x relations not_node not_way =
    let nodes : nodes_inside area (prefix ++ x ∷ []) ≡ nodes_inside area prefix =
    same_where (λ (item : ItemValue). lies_inside area item.entity.body) prefix x not_node in
    let ways : touching_ways area (prefix ++ x ∷ []) ≡ touching_ways area prefix =
    ap (λ (nodes : ℤ → Bool). ids_where (λ (item : ItemValue). touches nodes item.entity.body) (prefix ++ x ∷ []))
    nodes ∙ same_where (λ (item : ItemValue). touches (nodes_inside area prefix) item.entity.body) prefix x
    (not_way (nodes_inside area prefix)) in
    sym (λ k. record { nodes = nodes k; ways = ways k; relations = relations })

-- an item is kept by the ids that are carried as by all items up to it
judged : (area : Area) (prefix : List ItemValue) (kept : Sets) (relations : ℤ → Bool) →
    kept ≡ around area prefix relations → (x : ItemValue) (body : Body) → is_kept area kept (with_body x body)
    ≡ keeps_body area (prefix ++ with_body x body ∷ []) relations x.entity.id body
judged area prefix kept relations is x (Node place) =
    ap (λ b. b || kept.nodes x.entity.id) (or-false (lies_inside area (Node place)))
    ∙ ap (λ (s : Sets). lies_inside area (Node place) || s.nodes x.entity.id) is
    ∙ or_comm (lies_inside area (Node place)) (nodes_inside area prefix x.entity.id)
    ∙ ap (λ e. nodes_inside area prefix x.entity.id || (e && lies_inside area (Node place)))
    (sym (itself x.entity.id))
    ∙ sym (where_more (λ (item : ItemValue). lies_inside area item.entity.body) prefix
    (with_body x (Node place)) x.entity.id)
judged area prefix kept relations is x (Way refs) =
    ap (λ (s : Sets). list_any s.nodes refs || s.ways x.entity.id) is
    ∙ or_comm (list_any (nodes_inside area prefix) refs) (touching_ways area prefix x.entity.id)
    ∙ ap (λ e. touching_ways area prefix x.entity.id || (e && list_any (nodes_inside area prefix) refs))
    (sym (itself x.entity.id))
    ∙ sym (where_more (λ (item : ItemValue). touches (nodes_inside area prefix) item.entity.body) prefix
    (with_body x (Way refs)) x.entity.id)
    ∙ ap (λ (nodes : ℤ → Bool). ids_where (λ (item : ItemValue). touches nodes item.entity.body)
    (prefix ++ with_body x (Way refs) ∷ []) x.entity.id) (sym (way_same area prefix x refs))
judged area prefix kept relations is x (Relation members) =
    or-false (has_part kept (Relation members)) ∙ ap (λ (s : Sets). has_part s (Relation members))
    (is ∙ relation_same area prefix (with_body x (Relation members)) relations refl (λ nodes. refl))

-- a prefix of a list in order is in order
prefix_in : (floor : ℕ) (prefix more : List ItemValue) → are_kinds_ordered floor (prefix ++ more) ≡ true →
    are_kinds_ordered floor prefix ≡ true
prefix_in floor [] more is = refl
prefix_in floor (x ∷ prefix) more is = by (nat_le floor (item_rank x)) is (prefix_in (item_rank x) prefix more) where
  by : (b : Bool) → (b && are_kinds_ordered (item_rank x) (prefix ++ more)) ≡ true →
      (are_kinds_ordered (item_rank x) (prefix ++ more) ≡ true → are_kinds_ordered (item_rank x) prefix ≡ true) →
      (b && are_kinds_ordered (item_rank x) prefix) ≡ true
  by true is rest = rest is
  by false is rest = is

-- and so is what comes behind an item of it
after_in : (floor : ℕ) (prefix : List ItemValue) (x : ItemValue) (more : List ItemValue) →
    are_kinds_ordered floor (prefix ++ x ∷ more) ≡ true → are_kinds_ordered (item_rank x) more ≡ true
after_in floor [] x more is = (first_in floor x more is).1
after_in floor (y ∷ prefix) x more is = after_in (item_rank y) prefix x more
    (first_in floor y (prefix ++ x ∷ more) is).1

-- each item is judged by the items up to and with it
pub judges_each : (area : Area) → JudgesEach area
judges_each area prefix item is =
    passed-more area false nothing_kept prefix item
    ∙ ap (λ b. items_kept area prefix ++ cond b (item ∷ []) [])
    (judged area prefix (fold (kept_after area) nothing_kept prefix) (keys_of (items_kept area prefix)).relations
    (carries area prefix (prefix_in 0 prefix (item ∷ []) is)) item item.entity.body)

-- behind the nodes none is kept
nodes_later : (area : Area) (kept : Sets) (floor : ℕ) (more : List ItemValue) → are_kinds_ordered (suc floor) more
    ≡ true → (fold (kept_after area) kept more).nodes ≡ kept.nodes
nodes_later area kept floor more is =
    fun_ext (λ q. nodes_carried area kept more q ∙ ap (λ b. kept.nodes q || b) (no_node area floor more q is)
    ∙ or-false (kept.nodes q))

-- behind the ways no way touches
no_way : (floor : ℕ) (nodes : ℤ → Bool) (xs : List ItemValue) (id : ℤ) → are_kinds_ordered (suc (suc floor)) xs
    ≡ true → ids_where (λ (x : ItemValue). touches nodes x.entity.body) xs id ≡ false
no_way floor nodes [] id is = refl
no_way floor nodes (x ∷ xs) id is = by x.entity.body refl (first_in (suc (suc floor)) x xs is)
    (no_way 0 nodes xs id) where
      low : (n : ℕ) → nat_le (suc (suc floor)) n ≡ true → n ≡ 0 → ⊥
      low n is zero = grind (arith, is, zero)

      lower : (n : ℕ) → nat_le (suc (suc floor)) n ≡ true → n ≡ 1 → ⊥
      lower n is one = grind (arith, is, one)

      past : (e : Bool) → ids_where (λ (x : ItemValue). touches nodes x.entity.body) xs id ≡ false →
          ((e && false) || ids_where (λ (x : ItemValue). touches nodes x.entity.body) xs id) ≡ false
      past true none = none
      past false none = none

      by : (body : Body) → x.entity.body ≡ body → (nat_le (suc (suc floor)) (item_rank x) ≡ true)
          × (are_kinds_ordered (item_rank x) xs ≡ true) →
          (are_kinds_ordered 2 xs ≡ true → ids_where (λ (x : ItemValue). touches nodes x.entity.body) xs id ≡ false) →
          ((int_eq x.entity.id id && touches nodes x.entity.body) || ids_where
          (λ (x : ItemValue). touches nodes x.entity.body) xs id) ≡ false
      by (Node inside) same at rest = absurd (low (item_rank x) at.0 (ap (λ body. kind_rank (kind_of body)) same))
      by (Way refs) same at rest = absurd (lower (item_rank x) at.0 (ap (λ body. kind_rank (kind_of body)) same))
      by (Relation members) same at rest =
          ap (λ body. (int_eq x.entity.id id && touches nodes body) || ids_where
          (λ (x : ItemValue). touches nodes x.entity.body) xs id) same
          ∙ past (int_eq x.entity.id id)
          (rest (ap (λ body. are_kinds_ordered (kind_rank (kind_of body)) xs) (sym same) ∙ at.1))

-- behind the ways none is kept
ways_later : (area : Area) (kept : Sets) (more : List ItemValue) → are_kinds_ordered 2 more ≡ true →
    (fold (kept_after area) kept more).ways ≡ kept.ways
ways_later area kept more is =
    fun_ext (λ q. ways_carried area 2 kept (fold (kept_after area) kept more).nodes more q is refl
    ∙ ap (λ b. kept.ways q || b) (no_way 0 (fold (kept_after area) kept more).nodes more q is)
    ∙ or-false (kept.ways q))

-- an item is clipped by the ids kept so far as by all that is kept
clips_as : (area : Area) (kept : Sets) (x : ItemValue) (body : Body) (more : List ItemValue) →
    are_kinds_ordered (kind_rank (kind_of body)) more ≡ true →
    clipped true kept (with_body x body) ≡
    clipped true (record {
      nodes = (fold (kept_after area) (kept_after area kept (with_body x body)) more).nodes;
      ways =
          (fold (kept_after area) (kept_after area kept (with_body x body)) more).ways;
      relations = kept.relations;
    })
    (with_body x body)
clips_as area kept x (Node inside) more is = refl
clips_as area kept x (Way refs) more is =
    let y : ItemValue = with_body x (Way refs) in
    let nodes : (fold (kept_after area) (kept_after area kept y) more).nodes ≡ kept.nodes =
    nodes_later area (kept_after area kept y) 0 more is
    ∙ fun_ext (λ q. node_after area kept x q (Way refs) ∙ sym (none_more (kept.nodes q) (int_eq x.entity.id q)))
    in
    ap (λ (nodes : ℤ → Bool). let y : ItemValue = with_body x (Way (filter nodes refs)) in y) (sym nodes)
clips_as area kept x (Relation members) more is =
    let y : ItemValue = with_body x (Relation members) in
    let nodes : (fold (kept_after area) (kept_after area kept y) more).nodes ≡ kept.nodes =
    nodes_later area (kept_after area kept y) 1 more is
    ∙ fun_ext (λ q. node_after area kept x q (Relation members)
    ∙ sym (none_more (kept.nodes q) (int_eq x.entity.id q))) in
    let ways : (fold (kept_after area) (kept_after area kept y) more).ways ≡ kept.ways =
    ways_later area (kept_after area kept y) more is
    ∙ fun_ext (λ q. way_after area kept kept.nodes x q (Relation members) (λ refs way. refl)
    ∙ sym (none_more (kept.ways q) (int_eq x.entity.id q))) in
    let sets : kept ≡ (let s : Sets =
    record {
      nodes = (fold (kept_after area) (kept_after area kept y) more).nodes;
      ways =
          (fold (kept_after area) (kept_after area kept y) more).ways;
      relations = kept.relations;
    } in s) =
    sym (λ k. record { nodes = nodes k; ways = ways k; relations = kept.relations }) in
    ap (λ (s : Sets). clipped true s y) sets

-- each item is clipped by all that is kept
pub clips_by_output : (area : Area) → ClipsByOutput area
clips_by_output area prefix item more is =
    let kept = fold (kept_after area) nothing_kept prefix in
    let one : are_kinds_ordered 0 (prefix ++ item ∷ []) ≡ true = prefix_in 0 (prefix ++ item ∷ []) more
    (ap (are_kinds_ordered 0) (append_assoc prefix (item ∷ []) more) ∙ is) in
    let later : fold (kept_after area) nothing_kept (prefix ++ item ∷ more) ≡ fold (kept_after area)
    (kept_after area kept item) more = fold-append (kept_after area) nothing_kept prefix (item ∷ more) in
    let whole : keys_of (items_kept area (prefix ++ item ∷ more)) ≡ fold (kept_after area)
    (kept_after area kept item) more = carried area (prefix ++ item ∷ more) ∙ later in
    passed-more area true nothing_kept prefix item
    ∙ ap (λ b. items_passed area true nothing_kept prefix ++ cond b (clipped true kept item ∷ []) [])
    (judged area prefix kept (keys_of (items_kept area prefix)).relations
    (carries area prefix (prefix_in 0 prefix (item ∷ []) one)) item item.entity.body)
    ∙ ap (λ x. items_passed area true nothing_kept prefix ++ cond
    (keeps_body area (prefix ++ item ∷ []) (keys_of (items_kept area prefix)).relations item.entity.id
    item.entity.body) (x ∷ []) []) (clips_as area kept item item.entity.body more (after_in 0 prefix item more is)
    ∙ ap (λ (s : Sets). clipped true (record { nodes = s.nodes; ways = s.ways; relations = kept.relations }) item)
    (sym whole)
    ∙ ap (λ (s : Sets). clipped true
    (record {
      nodes = (keys_of (items_kept area (prefix ++ item ∷ more))).nodes;
      ways =
          (keys_of (items_kept area (prefix ++ item ∷ more))).ways;
      relations = s.relations;
    }) item)
    (sym (carried area prefix)))

-- the prefix is in order, and with the item behind it no more
longest : (floor : ℕ) (items : List ItemValue) → (rest : List ItemValue) × (items ≡ kinds_prefix floor items ++ rest)
    × (are_kinds_ordered floor (kinds_prefix floor items) ≡ true) ×
    ((next : ItemValue) (more : List ItemValue) → rest ≡ next ∷ more →
    are_kinds_ordered floor (kinds_prefix floor items ++ next ∷ []) ≡ false)
longest floor [] = ([], refl, refl, λ next more is. absurd cc)
longest floor (x ∷ items) = by (nat_le floor (item_rank x)) refl (longest (item_rank x) items) where
  by : (b : Bool) → nat_le floor (item_rank x) ≡ b →
      (rest : List ItemValue) × (items ≡ kinds_prefix (item_rank x) items ++ rest)
      × (are_kinds_ordered (item_rank x) (kinds_prefix (item_rank x) items) ≡ true) ×
      ((next : ItemValue) (more : List ItemValue) → rest ≡ next ∷ more →
      are_kinds_ordered (item_rank x) (kinds_prefix (item_rank x) items ++ next ∷ []) ≡ false) →
      (rest : List ItemValue)
      × (x ∷ items ≡ cond (nat_le floor (item_rank x)) (x ∷ kinds_prefix (item_rank x) items) [] ++ rest)
      × (are_kinds_ordered floor (cond (nat_le floor (item_rank x)) (x ∷ kinds_prefix (item_rank x) items) []) ≡ true)
      × ((next : ItemValue) (more : List ItemValue) → rest ≡ next ∷ more →
      are_kinds_ordered floor
      (cond (nat_le floor (item_rank x)) (x ∷ kinds_prefix (item_rank x) items) [] ++ next ∷ []) ≡ false)
  by true fits more = rw fits
      (more.0, ap (λ items. x ∷ items) more.1, rw fits more.2, λ next later is. rw fits (more.3 next later is))
  by false back more = rw back (
    x ∷ items,
    refl,
    refl,
    λ next later is. let same : x ≡ next = cc in
        ap (λ (y : ItemValue). nat_le floor (item_rank y) && true) (sym same) ∙ ap (λ b. b && true) back,
  )

pub longest_prefix : (items : List ItemValue) → IsLongestPrefix items (kinds_prefix 0 items)
longest_prefix items = let all = longest 0 items in
    record { rest = all.0; joined = all.1; ordered = all.2; stops = all.3 }
