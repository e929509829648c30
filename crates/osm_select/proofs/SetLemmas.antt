-- The ids of one item more, for loops over the items that are held.
use Rattle.std.proofs.Common.{◌≡◌, ℕ, ◌+◌, ◌<◌, List, [], ◌∷◌, ◌++◌, length, take, get_or, Bool, true, false, cond, ◌&&◌, ◌||◌, refl, sym, ap, ◌∙◌}
use Rattle.std.specs.Prelude.{ℤ}
use Rattle.std.specs.Ordering.{int_eq}
use Rattle.std.specs.List.{list_any}
use Rattle.std.proofs.Math.Path.{fun_ext}
use Rattle.std.proofs.lemmas.List.{take_more}
use Rattle.std.proofs.lemmas.List.Folds.{list_any-append}
use Rattle.osm_area.specs.declared.area.Area.{Area}
use Rattle.osm_entity.specs.Items.{ItemValue, kind_of}
use Rattle.osm_entity.specs.declared.kind.Kind.{Kind}
use Rattle.osm_entity.specs.declared.kind.Kind.TheVariants.{Node as OfNode, Relation as OfRelation, Way as OfWay}
use Rattle.osm_entity.specs.declared.parts.Body.{Body}
use Rattle.osm_entity.specs.declared.parts.Body.TheVariants.{Node, Relation, Way}
use Rattle.osm_entity.specs.declared.parts.Member.{Member}
use Rattle.osm_select.specs.Held.{completes, drawn, has_ref, held_sets, least_relations}
use Rattle.osm_select.specs.IdSets.{either, no_ids, with_id}
use Rattle.osm_select.specs.Links.{is_relation_kind, is_relation_of, links_in, names_relation, with_link, with_links}
use Rattle.osm_select.specs.Parts.{Sets, around, ids_of_kind, ids_where, is_body_of, keys_of, nodes_inside, touches, touching_ways}
use Rattle.osm_select.specs.Passed.{with_key_of}
use Rattle.osm_select.proofs.LinkLemmas.{or-false}

-- one element more of a list passes a test, or one before it did
pub any_more : {X : Type 0} (p : X → Bool) (xs : List X) (i : ℕ) (x : X) → i < length xs → x ≡ get_or xs i x →
    list_any p (take (i + 1) xs) ≡ (list_any p (take i xs) || p x)
any_more p xs i x within is =
    ap (list_any p) (take_more xs i x within ∙ ap (λ y. take i xs ++ y ∷ []) (sym is))
    ∙ list_any-append p (take i xs) (x ∷ []) ∙ ap (λ b. list_any p (take i xs) || b) (or-false (p x))

id_by : (t e had : Bool) (id : ℤ) (ids : ℤ → Bool) → ids id ≡ had → (had || (e && t)) ≡ cond t (e || had) had
id_by true true true id ids is = refl
id_by true true false id ids is = refl
id_by true false true id ids is = refl
id_by true false false id ids is = refl
id_by false true true id ids is = refl
id_by false true false id ids is = refl
id_by false false true id ids is = refl
id_by false false false id ids is = refl

cond_at : (t : Bool) (f g : ℤ → Bool) (id : ℤ) → (cond t f g) id ≡ cond t (f id) (g id)
cond_at true f g id = refl
cond_at false f g id = refl

-- one item more passes a test
pub ids_where_more : (test : ItemValue → Bool) (b : Bool) (before now : ℤ → Bool) (xs : List ItemValue) (i : ℕ)
    (x : ItemValue) (id : ℤ) → i < length xs → x ≡ get_or xs i x → id ≡ x.entity.id → b ≡ test x →
    before ≡ ids_where test (take i xs) → now ≡ cond b (with_id id before) before →
    now ≡ ids_where test (take (i + 1) xs)
ids_where_more test b before now xs i x id within is same tested so_far put =
    fun_ext (λ q. ap (λ (f : ℤ → Bool). f q) (put ∙ ap (λ b. cond b (with_id id before) before) tested
    ∙ ap (λ id. cond (test x) (with_id id before) before) same)
    ∙ cond_at (test x) (with_id x.entity.id before) before q
    ∙ sym (id_by (test x) (int_eq x.entity.id q) (before q) q before refl)
    ∙ ap (λ (f : ℤ → Bool). f q || (int_eq x.entity.id q && test x)) so_far
    ∙ sym (any_more (λ (item : ItemValue). int_eq item.entity.id q && test item) xs i x within is))

member_by : (t k e old had : Bool) → cond t (k && e || (old || e && had)) (old || e && had)
    ≡ (old || e && (had || t && k))
member_by true true true true true = refl
member_by true true true true false = refl
member_by true true true false true = refl
member_by true true true false false = refl
member_by true true false true had = refl
member_by true true false false had = refl
member_by true false true true true = refl
member_by true false true true false = refl
member_by true false true false true = refl
member_by true false true false false = refl
member_by true false false true had = refl
member_by true false false false had = refl
member_by false k true true true = refl
member_by false k true true false = refl
member_by false k true false true = refl
member_by false k true false false = refl
member_by false k false true had = refl
member_by false k false false had = refl

link_at : (t : Bool) (f g : ℤ → ℤ → Bool) (n b : ℤ) → (cond t f g) n b ≡ cond t (f n b) (g n b)
link_at true f g n b = refl
link_at false f g n b = refl

-- one member more is linked
pub links_more : (t : Bool) (by_id : ℤ) (old before now : ℤ → ℤ → Bool) (xs : List Member) (i : ℕ) (m : Member)
    (named by : ℤ) → i < length xs → m ≡ get_or xs i m → named ≡ m.id → by ≡ by_id → t ≡ is_relation_kind m.kind →
    before ≡ with_links by_id (λ n. list_any (is_relation_of n) (take i xs)) old →
    now ≡ cond t (with_link named by before) before →
    now ≡ with_links by_id (λ n. list_any (is_relation_of n) (take (i + 1) xs)) old
links_more t by_id old before now xs i m named by within is one two tested so_far put =
    fun_ext (λ n. fun_ext (λ b.
    ap (λ (f : ℤ → ℤ → Bool). f n b) (put ∙ ap (λ t. cond t (with_link named by before) before) tested
    ∙ ap (λ named. cond (is_relation_kind m.kind) (with_link named by before) before) one
    ∙ ap (λ by. cond (is_relation_kind m.kind) (with_link m.id by before) before) two)
    ∙ link_at (is_relation_kind m.kind) (with_link m.id by_id before) before n b
    ∙ ap (λ (f : ℤ → ℤ → Bool). cond (is_relation_kind m.kind) (int_eq m.id n && int_eq by_id b || f n b) (f n b))
    so_far
    ∙ member_by (is_relation_kind m.kind) (int_eq m.id n) (int_eq by_id b) (old n b)
    (list_any (is_relation_of n) (take i xs))
    ∙ ap (λ had. old n b || int_eq by_id b && had)
    (sym (any_more (λ (member : Member). is_relation_kind member.kind && int_eq member.id n) xs i m within is))))

-- one item more is linked
pub links_in_more : (before now : ℤ → ℤ → Bool) (xs : List ItemValue) (i : ℕ) (x : ItemValue) (by : ℤ) →
    i < length xs → x ≡ get_or xs i x → by ≡ x.entity.id → before ≡ links_in (take i xs) →
    now ≡ with_links by (λ n. names_relation n x.entity.body) before →
    now ≡ links_in (take (i + 1) xs)
links_in_more before now xs i x by within is same so_far put =
    fun_ext (λ n. fun_ext (λ b.
    ap (λ (f : ℤ → ℤ → Bool). f n b)
    (put ∙ ap (λ by. with_links by (λ n. names_relation n x.entity.body) before) same)
    ∙ ap (λ (f : ℤ → ℤ → Bool). f n b || int_eq x.entity.id b && names_relation n x.entity.body) so_far
    ∙ sym (any_more (λ (item : ItemValue). int_eq item.entity.id b && names_relation n item.entity.body) xs i x
    within is)))

-- one item more completes a way
pub refers_more : (ways first before now : ℤ → Bool) (has : Bool) (xs : List ItemValue) (i : ℕ) (x : ItemValue) →
    i < length xs → x ≡ get_or xs i x → has ≡ ways x.entity.id →
    before ≡ either first (λ id. list_any (completes ways id) (take i xs)) →
    now ≡ either before (λ id. has && has_ref id x.entity.body) →
    now ≡ either first (λ id. list_any (completes ways id) (take (i + 1) xs))
refers_more ways first before now has xs i x within is tested so_far put =
    fun_ext (λ q. ap (λ (f : ℤ → Bool). f q)
    (put ∙ ap (λ has. either before (λ id. has && has_ref id x.entity.body)) tested)
    ∙ ap (λ (f : ℤ → Bool). f q || ways x.entity.id && has_ref q x.entity.body) so_far
    ∙ or_assoc (first q) (list_any (completes ways q) (take i xs)) (ways x.entity.id && has_ref q x.entity.body)
    ∙ ap (λ b. first q || b) (sym (any_more (completes ways q) xs i x within is))) where
      or_assoc : (a b c : Bool) → ((a || b) || c) ≡ (a || (b || c))
      or_assoc true b c = refl
      or_assoc false b c = refl

-- a kind is another
abbrev is_kind : Kind → Kind → Bool
is_kind OfNode OfNode = true
is_kind OfWay OfWay = true
is_kind OfRelation OfRelation = true
is_kind a b = false

-- a body is of its kind alone
of_by : (k : Kind) (body : Body) → is_body_of k body ≡ is_kind k (kind_of body)
of_by OfNode (Node inside) = refl
of_by OfNode (Way refs) = refl
of_by OfNode (Relation members) = refl
of_by OfWay (Node inside) = refl
of_by OfWay (Way refs) = refl
of_by OfWay (Relation members) = refl
of_by OfRelation (Node inside) = refl
of_by OfRelation (Way refs) = refl
of_by OfRelation (Relation members) = refl

key_by : (had e : Bool) → (had || e && false) ≡ had
key_by true e = refl
key_by false true = refl
key_by false false = refl

key_in : (had e : Bool) → (had || e && true) ≡ (e || had)
key_in true true = refl
key_in true false = refl
key_in false true = refl
key_in false false = refl

-- an id of a kind of one item more
keys_at : (xs : List ItemValue) (x : ItemValue) (k : Kind) (q : ℤ) → ids_of_kind (keys_of (xs ++ x ∷ [])) k q
    ≡ (ids_of_kind (keys_of xs) k q || (int_eq x.entity.id q && is_kind k (kind_of x.entity.body)))
keys_at xs x OfNode q =
    list_any-append (λ (item : ItemValue). int_eq item.entity.id q && is_body_of OfNode item.entity.body) xs (x ∷ [])
    ∙ ap (λ b. ids_where (λ (item : ItemValue). is_body_of OfNode item.entity.body) xs q || b)
    (or-false (int_eq x.entity.id q && is_body_of OfNode x.entity.body)
    ∙ ap (λ b. int_eq x.entity.id q && b) (of_by OfNode x.entity.body))
keys_at xs x OfWay q =
    list_any-append (λ (item : ItemValue). int_eq item.entity.id q && is_body_of OfWay item.entity.body) xs (x ∷ [])
    ∙ ap (λ b. ids_where (λ (item : ItemValue). is_body_of OfWay item.entity.body) xs q || b)
    (or-false (int_eq x.entity.id q && is_body_of OfWay x.entity.body)
    ∙ ap (λ b. int_eq x.entity.id q && b) (of_by OfWay x.entity.body))
keys_at xs x OfRelation q =
    list_any-append (λ (item : ItemValue). int_eq item.entity.id q && is_body_of OfRelation item.entity.body) xs
    (x ∷ []) ∙ ap (λ b. ids_where (λ (item : ItemValue). is_body_of OfRelation item.entity.body) xs q || b)
    (or-false (int_eq x.entity.id q && is_body_of OfRelation x.entity.body)
    ∙ ap (λ b. int_eq x.entity.id q && b) (of_by OfRelation x.entity.body))

-- an id of a kind of one key more
key_at : (kind k : Kind) (id q : ℤ) (sets : Sets) → (ids_of_kind sets k q || (int_eq id q && is_kind k kind))
    ≡ ids_of_kind (with_key_of kind id sets) k q
key_at OfNode OfNode id q sets = key_in (sets.nodes q) (int_eq id q)
key_at OfNode OfWay id q sets = key_by (sets.ways q) (int_eq id q)
key_at OfNode OfRelation id q sets = key_by (sets.relations q) (int_eq id q)
key_at OfWay OfNode id q sets = key_by (sets.nodes q) (int_eq id q)
key_at OfWay OfWay id q sets = key_in (sets.ways q) (int_eq id q)
key_at OfWay OfRelation id q sets = key_by (sets.relations q) (int_eq id q)
key_at OfRelation OfNode id q sets = key_by (sets.nodes q) (int_eq id q)
key_at OfRelation OfWay id q sets = key_by (sets.ways q) (int_eq id q)
key_at OfRelation OfRelation id q sets = key_in (sets.relations q) (int_eq id q)

-- sets with the same ids of each kind are one
pub same_sets : (a b : Sets) → ((k : Kind) (q : ℤ) → ids_of_kind a k q ≡ ids_of_kind b k q) → a ≡ b
same_sets a b same =
    let nodes : a.nodes ≡ b.nodes = fun_ext (same OfNode) in
    let ways : a.ways ≡ b.ways = fun_ext (same OfWay) in
    let relations : a.relations ≡ b.relations = fun_ext (same OfRelation) in
    λ i. record { nodes = nodes i; ways = ways i; relations = relations i }

-- the ids of one item more
pub keys_of-push : (xs : List ItemValue) (x : ItemValue) → keys_of (xs ++ x ∷ [])
    ≡ with_key_of (kind_of x.entity.body) x.entity.id (keys_of xs)
keys_of-push xs x = same_sets (keys_of (xs ++ x ∷ [])) (with_key_of (kind_of x.entity.body) x.entity.id (keys_of xs))
    (λ k q. keys_at xs x k q ∙ key_at (kind_of x.entity.body) k x.entity.id q (keys_of xs))

-- one item more has its id added
pub keys_of_more : (before now : Sets) (xs : List ItemValue) (i : ℕ) (x : ItemValue) (kind : Kind) (id : ℤ) →
    i < length xs → x ≡ get_or xs i x → kind ≡ kind_of x.entity.body → id ≡ x.entity.id →
    before ≡ keys_of (take i xs) → now ≡ with_key_of kind id before →
    now ≡ keys_of (take (i + 1) xs)
keys_of_more before now xs i x kind id within is same_kind same so_far put =
    put ∙ ap (λ kind. with_key_of kind id before) same_kind
    ∙ ap (λ id. with_key_of (kind_of x.entity.body) id before) same
    ∙ ap (with_key_of (kind_of x.entity.body) x.entity.id) so_far ∙ sym (keys_of-push (take i xs) x)
    ∙ ap keys_of (sym (take_more xs i x within ∙ ap (λ y. take i xs ++ y ∷ []) (sym is)))

-- the nodes inside and the ways that touch them, with no relation
pub around_none : (area : Area) (items : List ItemValue) (nodes ways none : ℤ → Bool) →
    nodes ≡ nodes_inside area items → ways ≡ ids_where (λ (item : ItemValue). touches nodes item.entity.body) items →
    none ≡ no_ids →
    (let s : Sets = record { nodes = nodes; ways = ways; relations = none } in s) ≡ around area items no_ids
around_none area items nodes ways none inside touching empty =
    let by : ways ≡ touching_ways area items = touching
    ∙ ap (λ (nodes : ℤ → Bool). ids_where (λ (item : ItemValue). touches nodes item.entity.body) items) inside in
    λ i. record { nodes = inside i; ways = by i; relations = empty i }

-- with the nodes of ways that are completed the sets are those of the rule
pub held_are : (area : Area) (complete : Bool) (items : List ItemValue) (drawn : Sets) (nodes : ℤ → Bool) →
    drawn ≡ around area items (least_relations area items) →
    nodes ≡ either drawn.nodes (λ id. complete && list_any (completes drawn.ways id) items) →
    (let s : Sets = record { nodes = nodes; ways = drawn.ways; relations = drawn.relations } in s)
    ≡ held_sets area complete items
held_are area complete items drawn nodes is more =
    let all : nodes ≡ either (nodes_inside area items)
    (λ id. complete && list_any (completes (touching_ways area items) id) items) =
    more ∙ ap (λ (sets : Sets). either sets.nodes (λ id. complete && list_any (completes sets.ways id) items)) is in
    let ways : drawn.ways ≡ touching_ways area items = ap (λ (sets : Sets). sets.ways) is in
    let relations : drawn.relations ≡ least_relations area items = ap (λ (sets : Sets). sets.relations) is in
    λ i. record { nodes = all i; ways = ways i; relations = relations i }
