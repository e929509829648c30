-- The ids that are carried along are those of what was kept, and of the items before.
use Rattle.std.proofs.Common.{◌≡◌, ℕ, suc, arith, List, [], ◌∷◌, ◌++◌, Bool, true, false, cond, ◌&&◌, ◌||◌, refl, sym, ap, ◌∙◌, append_assoc}
use Rattle.std.specs.Prelude.{ℤ, fold, nat_le}
use Rattle.std.specs.Ordering.{int_eq}
use Rattle.std.specs.List.{list_any}
use Rattle.std.proofs.Math.Path.{fun_ext}
use Rattle.std.proofs.lemmas.List.{append-nil}
use Rattle.osm_area.specs.Areas.{holds}
use Rattle.osm_area.specs.declared.area.Area.{Area}
use Rattle.osm_entity.specs.Items.{ItemValue, kind_of}
use Rattle.osm_entity.specs.Keys.{kind_rank}
use Rattle.osm_entity.specs.declared.parts.Body.{Body}
use Rattle.osm_entity.specs.declared.parts.Body.TheVariants.{Node, Relation, Way}
use Rattle.osm_select.specs.Judged.{items_kept}
use Rattle.osm_select.specs.Kinds.{are_kinds_ordered, item_rank}
use Rattle.osm_select.specs.Parts.{Sets, around, ids_where, keys_of, lies_inside, nodes_inside, touches, touching_ways, with_body}
use Rattle.osm_select.specs.Passed.{is_kept, items_passed, kept_after, nothing_kept, with_key_of}
use Rattle.osm_select.proofs.LinkLemmas.{and_left, and_right, or-false, same_id}
use Rattle.osm_select.proofs.SetLemmas.{keys_of-push}

-- the ids that are carried are those of what was kept
carried_more : (area : Area) (kept : Sets) (out xs : List ItemValue) → keys_of out ≡ kept →
    keys_of (out ++ items_passed area false kept xs) ≡ fold (kept_after area) kept xs
carried_more area kept out [] is = ap keys_of (append-nil out) ∙ is
carried_more area kept out (x ∷ xs) is = by (is_kept area kept x) refl (carried_more area kept out xs is)
    (carried_more area (with_key_of (kind_of x.entity.body) x.entity.id kept) (out ++ x ∷ []) xs
    (keys_of-push out x ∙ ap (with_key_of (kind_of x.entity.body) x.entity.id) is)) where
      by : (b : Bool) → is_kept area kept x ≡ b → keys_of (out ++ items_passed area false kept xs)
          ≡ fold (kept_after area) kept xs →
          keys_of ((out ++ x ∷ []) ++ items_passed area false (with_key_of (kind_of x.entity.body) x.entity.id kept)
          xs)
          ≡ fold (kept_after area) (with_key_of (kind_of x.entity.body) x.entity.id kept) xs →
          keys_of (out ++ (cond (is_kept area kept x) (x ∷ []) [] ++ items_passed area false
          (cond (is_kept area kept x) (with_key_of (kind_of x.entity.body) x.entity.id kept) kept) xs))
          ≡ fold (kept_after area)
          (cond (is_kept area kept x) (with_key_of (kind_of x.entity.body) x.entity.id kept) kept) xs
      by true holds left_out put =
          rw holds (ap keys_of
          (sym (append_assoc out (x ∷ [])
          (items_passed area false (with_key_of (kind_of x.entity.body) x.entity.id kept) xs))) ∙ put)
      by false fails left_out put = rw fails left_out

-- and so from the first item on
pub carried : (area : Area) (xs : List ItemValue) → keys_of (items_kept area xs)
    ≡ fold (kept_after area) nothing_kept xs
carried area xs = carried_more area nothing_kept [] xs refl

or_assoc : (a b c : Bool) → ((a || b) || c) ≡ (a || (b || c))
or_assoc true b c = refl
or_assoc false b c = refl

-- an id is put into a set by a test, or where it was there
put_by : (set : ℤ → Bool) (i id : ℤ) (t had e at : Bool) → set i ≡ had → int_eq i id ≡ e → set id ≡ at →
    cond (t || had) (e || at) at ≡ (at || (e && t))
put_by set i id true had true true is same there = refl
put_by set i id true had true false is same there = refl
put_by set i id true had false true is same there = refl
put_by set i id true had false false is same there = refl
put_by set i id false false true true is same there = refl
put_by set i id false false true false is same there = refl
put_by set i id false false false true is same there = refl
put_by set i id false false false false is same there = refl
put_by set i id false true true true is same there = refl
put_by set i id false true true false is same there =
    absurd (let has : set id ≡ true = ap set (sym (same_id i id same)) ∙ is in cc)
put_by set i id false true false true is same there = refl
put_by set i id false true false false is same there = refl

nodes_of : (b : Bool) (s t : Sets) (id : ℤ) → (cond b s t).nodes id ≡ cond b (s.nodes id) (t.nodes id)
nodes_of true s t id = refl
nodes_of false s t id = refl

ways_of : (b : Bool) (s t : Sets) (id : ℤ) → (cond b s t).ways id ≡ cond b (s.ways id) (t.ways id)
ways_of true s t id = refl
ways_of false s t id = refl

same_cond : {X : Type 0} (b : Bool) (x : X) → cond b x x ≡ x
same_cond true x = refl
same_cond false x = refl

-- a test that fails adds nothing
pub none_more : (b e : Bool) → b ≡ (b || (e && false))
none_more true e = refl
none_more false true = refl
none_more false false = refl

-- the nodes that are carried, one item more
pub node_after : (area : Area) (kept : Sets) (x : ItemValue) (id : ℤ) (body : Body) →
    (kept_after area kept (with_body x body)).nodes id
    ≡ (kept.nodes id || (int_eq x.entity.id id && lies_inside area body))
node_after area kept x id (Node place) =
    nodes_of ((lies_inside area (Node place) || false) || kept.nodes x.entity.id)
    (with_key_of (kind_of (Node place)) x.entity.id kept) kept id
    ∙ ap (λ b. cond (b || kept.nodes x.entity.id) (int_eq x.entity.id id || kept.nodes id) (kept.nodes id))
    (or-false (lies_inside area (Node place)))
    ∙ put_by kept.nodes x.entity.id id (lies_inside area (Node place)) (kept.nodes x.entity.id)
    (int_eq x.entity.id id) (kept.nodes id) refl refl refl
node_after area kept x id (Way refs) =
    nodes_of (is_kept area kept (with_body x (Way refs))) (with_key_of (kind_of (Way refs)) x.entity.id kept) kept id
    ∙ same_cond (is_kept area kept (with_body x (Way refs))) (kept.nodes id)
    ∙ none_more (kept.nodes id) (int_eq x.entity.id id)
node_after area kept x id (Relation members) =
    nodes_of (is_kept area kept (with_body x (Relation members)))
    (with_key_of (kind_of (Relation members)) x.entity.id kept) kept id
    ∙ same_cond (is_kept area kept (with_body x (Relation members))) (kept.nodes id)
    ∙ none_more (kept.nodes id) (int_eq x.entity.id id)

-- the nodes that are carried are those inside
pub nodes_carried : (area : Area) (kept : Sets) (xs : List ItemValue) (id : ℤ) →
    (fold (kept_after area) kept xs).nodes id ≡ (kept.nodes id || nodes_inside area xs id)
nodes_carried area kept [] id = sym (or-false (kept.nodes id))
nodes_carried area kept (x ∷ xs) id =
    nodes_carried area (kept_after area kept x) xs id
    ∙ ap (λ b. b || nodes_inside area xs id) (node_after area kept x id x.entity.body)
    ∙ or_assoc (kept.nodes id) (int_eq x.entity.id id && lies_inside area x.entity.body) (nodes_inside area xs id)

-- the ways that are carried, one item more
pub way_after : (area : Area) (kept : Sets) (nodes : ℤ → Bool) (x : ItemValue) (id : ℤ) (body : Body) →
    ((refs : List ℤ) → body ≡ Way refs → kept.nodes ≡ nodes) → (kept_after area kept (with_body x body)).ways id
    ≡ (kept.ways id || (int_eq x.entity.id id && touches nodes body))
way_after area kept nodes x id (Node inside) same =
    ways_of (is_kept area kept (with_body x (Node inside))) (with_key_of (kind_of (Node inside)) x.entity.id kept)
    kept id ∙ same_cond (is_kept area kept (with_body x (Node inside))) (kept.ways id)
    ∙ none_more (kept.ways id) (int_eq x.entity.id id)
way_after area kept nodes x id (Way refs) same =
    ways_of (list_any kept.nodes refs || kept.ways x.entity.id) (with_key_of (kind_of (Way refs)) x.entity.id kept)
    kept id
    ∙ put_by kept.ways x.entity.id id (list_any kept.nodes refs) (kept.ways x.entity.id) (int_eq x.entity.id id)
    (kept.ways id) refl refl refl
    ∙ ap (λ (nodes : ℤ → Bool). kept.ways id || (int_eq x.entity.id id && list_any nodes refs)) (same refs refl)
way_after area kept nodes x id (Relation members) same =
    ways_of (is_kept area kept (with_body x (Relation members)))
    (with_key_of (kind_of (Relation members)) x.entity.id kept) kept id
    ∙ same_cond (is_kept area kept (with_body x (Relation members))) (kept.ways id)
    ∙ none_more (kept.ways id) (int_eq x.entity.id id)

-- a list in order has its first item in order, and the others behind it
pub first_in : (floor : ℕ) (x : ItemValue) (xs : List ItemValue) → are_kinds_ordered floor (x ∷ xs) ≡ true →
    (nat_le floor (item_rank x) ≡ true) × (are_kinds_ordered (item_rank x) xs ≡ true)
first_in floor x xs is = (and_left (nat_le floor (item_rank x)) _ is, and_right (nat_le floor (item_rank x)) _ is)

-- behind the nodes no node comes
pub no_node : (area : Area) (floor : ℕ) (xs : List ItemValue) (id : ℤ) → are_kinds_ordered (suc floor) xs ≡ true →
    nodes_inside area xs id ≡ false
no_node area floor [] id is = refl
no_node area floor (x ∷ xs) id is = by x.entity.body refl (first_in (suc floor) x xs is)
    (λ n. no_node area n xs id) where
      by : (body : Body) → x.entity.body ≡ body → (nat_le (suc floor) (item_rank x) ≡ true)
          × (are_kinds_ordered (item_rank x) xs ≡ true) →
          ((n : ℕ) → are_kinds_ordered (suc n) xs ≡ true → nodes_inside area xs id ≡ false) →
          ((int_eq x.entity.id id && lies_inside area x.entity.body) || nodes_inside area xs id) ≡ false
      by (Node inside) same at rest =
          absurd (low floor (ap (λ body. nat_le (suc floor) (kind_rank (kind_of body))) (sym same) ∙ at.0)) where
            low : (floor : ℕ) → nat_le (suc floor) 0 ≡ true → ⊥
            low floor is = grind (arith, is)
      by (Way refs) same at rest =
          ap (λ body. (int_eq x.entity.id id && lies_inside area body) || nodes_inside area xs id) same
          ∙ past (int_eq x.entity.id id)
          (rest 0 (ap (λ body. are_kinds_ordered (kind_rank (kind_of body)) xs) (sym same) ∙ at.1)) where
            past : (e : Bool) → nodes_inside area xs id ≡ false → ((e && false) || nodes_inside area xs id) ≡ false
            past true none = none
            past false none = none
      by (Relation members) same at rest =
          ap (λ body. (int_eq x.entity.id id && lies_inside area body) || nodes_inside area xs id) same
          ∙ past (int_eq x.entity.id id)
          (rest 1 (ap (λ body. are_kinds_ordered (kind_rank (kind_of body)) xs) (sym same) ∙ at.1)) where
            past : (e : Bool) → nodes_inside area xs id ≡ false → ((e && false) || nodes_inside area xs id) ≡ false
            past true none = none
            past false none = none

-- the ways that are carried are those that touch
pub ways_carried : (area : Area) (floor : ℕ) (kept : Sets) (nodes : ℤ → Bool) (xs : List ItemValue) (id : ℤ) →
    are_kinds_ordered floor xs ≡ true → nodes ≡ (fold (kept_after area) kept xs).nodes →
    (fold (kept_after area) kept xs).ways id
    ≡ (kept.ways id || ids_where (λ (x : ItemValue). touches nodes x.entity.body) xs id)
ways_carried area floor kept nodes [] id is same = sym (or-false (kept.ways id))
ways_carried area floor kept nodes (x ∷ xs) id is same =
    ways_carried area (item_rank x) (kept_after area kept x) nodes xs id (first_in floor x xs is).1 same
    ∙ ap (λ b. b || ids_where (λ (x : ItemValue). touches nodes x.entity.body) xs id)
    (way_after area kept nodes x id x.entity.body settled)
    ∙ or_assoc (kept.ways id) (int_eq x.entity.id id && touches nodes x.entity.body)
    (ids_where (λ (x : ItemValue). touches nodes x.entity.body) xs id) where
      settled : (refs : List ℤ) → x.entity.body ≡ Way refs → kept.nodes ≡ nodes
      settled refs way = fun_ext (λ q. sym (ap (λ (f : ℤ → Bool). f q) same ∙ nodes_carried area kept (x ∷ xs) q
          ∙ ap (λ body. kept.nodes q || ((int_eq x.entity.id q && lies_inside area body) || nodes_inside area xs q))
          way
          ∙ ap (λ b. kept.nodes q || ((int_eq x.entity.id q && false) || b))
          (no_node area 0 xs q (ap (λ body. are_kinds_ordered (kind_rank (kind_of body)) xs) (sym way)
          ∙ (first_in floor x xs is).1))
          ∙ ap (λ b. kept.nodes q || b) (or-false (int_eq x.entity.id q && false))
          ∙ sym (none_more (kept.nodes q) (int_eq x.entity.id q))))

-- over a list in order the ids that are carried are those inside and around, and the relations kept
pub carries : (area : Area) (xs : List ItemValue) → are_kinds_ordered 0 xs ≡ true →
    fold (kept_after area) nothing_kept xs ≡ around area xs (keys_of (items_kept area xs)).relations
carries area xs is =
    let nodes : (fold (kept_after area) nothing_kept xs).nodes ≡ nodes_inside area xs =
    fun_ext (nodes_carried area nothing_kept xs) in
    let ways : (fold (kept_after area) nothing_kept xs).ways ≡ touching_ways area xs =
    fun_ext (λ id. ways_carried area 0 nothing_kept (nodes_inside area xs) xs id is (sym nodes)) in
    let relations : (fold (kept_after area) nothing_kept xs).relations ≡ (keys_of (items_kept area xs)).relations =
    ap (λ (s : Sets). s.relations) (sym (carried area xs)) in
    λ i. record { nodes = nodes i; ways = ways i; relations = relations i }
