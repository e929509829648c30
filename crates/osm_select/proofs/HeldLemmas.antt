-- Loops over the items that are held, one place more.
use Rattle.std.proofs.Common.{◌≡◌, ℕ, ◌+◌, ◌≤◌, List, [], ◌∷◌, ◌++◌, length, take, get_or, Bool, true, false, cond, None, Option, Some, refl, sym, ap, ◌∙◌, subst}
use Rattle.std.specs.Prelude.{ℤ, filter, map}
use Rattle.std.specs.List.{list_any, slice_get}
use Rattle.std.proofs.lemmas.List.{append-nil, take_all, take_more}
use Rattle.std.proofs.lemmas.List.Elements.{filter-append}
use Rattle.std.proofs.lemmas.Option.{get_or_from_slice_get, slice_get_within}
use Rattle.osm_area.specs.declared.area.Area.{Area}
use Rattle.osm_entity.specs.Growth.{Grows}
use Rattle.osm_entity.specs.Items.{ItemValue, kind_of}
use Rattle.osm_entity.specs.Streams.{Stream}
use Rattle.osm_entity.specs.declared.kind.Kind.{Kind}
use Rattle.osm_entity.specs.declared.stream.End.{End}
use Rattle.osm_entity.specs.declared.stream.End.TheVariants.{Broken}
use Rattle.osm_select.specs.Held.{completes, items_chosen, items_held, stream_held}
use Rattle.osm_select.specs.IdSets.{either, with_id}
use Rattle.osm_select.specs.Kinds.{are_kinds_ordered, kinds_prefix}
use Rattle.osm_select.specs.Links.{links_in, names_relation, with_links}
use Rattle.osm_select.specs.Order.{end_by, is_order_by}
use Rattle.osm_select.specs.Parts.{Sets, clipped, has_item, ids_where, keys_of}
use Rattle.osm_select.specs.Passed.{with_key_of}
use Rattle.osm_select.proofs.PassedLemmas.{kinds_prefix-whole}
use Rattle.osm_select.proofs.SetLemmas.{ids_where_more, keys_of-push, links_in_more, refers_more}

-- the element at a place, as the one that is read there
at_place : {X : Type 0} (xs : List X) (i : ℕ) (x : X) → slice_get xs i ≡ Some x → x ≡ get_or xs i x
at_place xs i x is = sym (get_or_from_slice_get xs i x x is)

-- the list up to the next place has one element more
pub take_place : {X : Type 0} (xs : List X) (i : ℕ) (x : X) → slice_get xs i ≡ Some x →
    take (i + 1) xs ≡ take i xs ++ x ∷ []
take_place xs i x is =
    take_more xs i x (slice_get_within xs i x is) ∙ ap (λ y. take i xs ++ y ∷ []) (sym (at_place xs i x is))

-- the list up to its length is all of it
pub take_whole : {X : Type 0} (xs : List X) (i n : ℕ) → n ≡ length xs → n ≤ i → take i xs ≡ xs
take_whole xs i n is past = take_all i xs (subst (λ m. m ≤ i) is past)

pub where_held : (test : ItemValue → Bool) (before now : ℤ → Bool) (xs : List ItemValue) (i : ℕ) (x : ItemValue) →
    slice_get xs i ≡ Some x → before ≡ ids_where test (take i xs) →
    now ≡ cond (test x) (with_id x.entity.id before) before → now ≡ ids_where test (take (i + 1) xs)
where_held test before now xs i x is so_far put = ids_where_more test (test x) before now xs i x x.entity.id
    (slice_get_within xs i x is) (at_place xs i x is) refl refl so_far put

pub links_held : (before now : ℤ → ℤ → Bool) (xs : List ItemValue) (i : ℕ) (x : ItemValue) →
    slice_get xs i ≡ Some x → before ≡ links_in (take i xs) →
    now ≡ with_links x.entity.id (λ n. names_relation n x.entity.body) before → now ≡ links_in (take (i + 1) xs)
links_held before now xs i x is so_far put = links_in_more before now xs i x x.entity.id
    (slice_get_within xs i x is) (at_place xs i x is) refl so_far put

pub completes_held : (ways first before now : ℤ → Bool) (xs : List ItemValue) (i : ℕ) (x : ItemValue) →
    slice_get xs i ≡ Some x → before ≡ either first (λ id. list_any (completes ways id) (take i xs)) →
    now ≡ either before (λ id. completes ways id x) →
    now ≡ either first (λ id. list_any (completes ways id) (take (i + 1) xs))
completes_held ways first before now xs i x is so_far put = refers_more ways first before now
    (ways x.entity.id) xs i x
    (slice_get_within xs i x is) (at_place xs i x is) refl so_far put

filter_one : (test : ItemValue → Bool) (x : ItemValue) (xs : List ItemValue) (before : Sets) (b : Bool) → test x ≡ b →
    before ≡ keys_of xs →
    cond b (with_key_of (kind_of x.entity.body) x.entity.id before) before ≡ keys_of (xs ++ filter test (x ∷ []))
filter_one test x xs before true is so_far = ap (with_key_of (kind_of x.entity.body) x.entity.id) so_far
    ∙ sym (keys_of-push xs x) ∙ ap (λ c. keys_of (xs ++ cond c (x ∷ []) [])) (sym is)
filter_one test x xs before false is so_far = so_far ∙ ap keys_of (sym (append-nil xs))
    ∙ ap (λ c. keys_of (xs ++ cond c (x ∷ []) [])) (sym is)

pub keys_held : (test : ItemValue → Bool) (before now : Sets) (xs : List ItemValue) (i : ℕ) (x : ItemValue) →
    slice_get xs i ≡ Some x → before ≡ keys_of (filter test (take i xs)) →
    now ≡ cond (test x) (with_key_of (kind_of x.entity.body) x.entity.id before) before →
    now ≡ keys_of (filter test (take (i + 1) xs))
keys_held test before now xs i x is so_far put = put
    ∙ filter_one test x (filter test (take i xs)) before (test x) refl so_far
    ∙ ap keys_of (sym (ap (filter test) (take_place xs i x is) ∙ filter-append test (take i xs) (x ∷ [])))

clip_same : (clip : Bool) (output : Sets) (xs : List ItemValue) → (clip ≡ true → output ≡ keys_of xs) →
    map (clipped clip output) xs ≡ map (clipped clip (keys_of xs)) xs
clip_same true output xs same = ap (λ (sets : Sets). map (clipped true sets) xs) (same refl)
clip_same false output xs same = refl

-- the items in the sets of the rule, clipped by their ids, are those that it chooses
pub chosen_are : (clip : Bool) (items : List ItemValue) (kept output rule : Sets) → kept ≡ rule →
    (clip ≡ true → output ≡ keys_of (filter (has_item kept) items)) →
    map (clipped clip output) (filter (has_item kept) items) ≡ items_chosen clip rule items
chosen_are clip items kept output rule is clips = clip_same clip output (filter (has_item kept) items) clips
    ∙ ap (λ (sets : Sets). items_chosen clip sets items) is

-- ---- the rule

both_broken : (b : Bool) → cond b Broken Broken ≡ Broken
both_broken true = refl
both_broken false = refl

held-broken : (area : Area) (complete clip : Bool) (xs : List ItemValue) →
    (stream_held area complete clip (record { items = xs; end = Broken })).items ≡ []
unfolding stream_held
held-broken area complete clip xs =
    ap (items_held area complete clip (kinds_prefix 0 xs)) (both_broken (are_kinds_ordered 0 xs))

held-open : (area : Area) (complete clip : Bool) (xs : List ItemValue) →
    (stream_held area complete clip (record { items = xs; end = Broken })).end ≡ Broken
unfolding stream_held
held-open area complete clip xs = both_broken (are_kinds_ordered 0 xs)

-- nothing is fixed before the end
pub held_grows : (area : Area) (complete clip : Bool) → Grows (stream_held area complete clip)
held_grows area complete clip = record {
  more = λ xs x. [];
  item = λ xs x. held-broken area complete clip (xs ++ x ∷ []) ∙ sym (held-broken area complete clip xs)
      ∙ sym (append-nil (stream_held area complete clip (record { items = xs; end = Broken })).items);
  last = λ xs end. (stream_held area complete clip (record { items = xs; end = end })).items;
  ended = λ xs end. ap (λ items. items ++ (stream_held area complete clip (record { items = xs; end = end })).items)
      (sym (held-broken area complete clip xs));
  broken = held-open area complete clip;
}

-- the stream of the rule, by what is known of the order
pub held_known : (area : Area) (complete clip : Bool) (fault : Option ℕ) (last : Kind) (count : ℕ)
    (items held : List ItemValue) (end : End) → is_order_by fault last count items → (fault ≡ None → held ≡ items) →
    stream_held area complete clip (record { items = items; end = end })
    ≡ record { items = items_held area complete clip held (end_by fault end); end = end_by fault end }
unfolding stream_held
held_known area complete clip None last count items held end order all =
    let ends : cond (are_kinds_ordered 0 items) end Broken ≡ end = ap (λ b. cond b end Broken) order.ordered in
    let same : kinds_prefix 0 items ≡ held = kinds_prefix-whole 0 items order.ordered ∙ sym (all refl) in
    λ i. record { items = items_held area complete clip (same i) (ends i); end = ends i }
held_known area complete clip (Some number) last count items held end order all =
    ap (λ (e : End). let s : Stream =
    record { items = items_held area complete clip (kinds_prefix 0 items) e; end = e } in s)
    (ap (λ b. cond b end Broken) order.unordered)
