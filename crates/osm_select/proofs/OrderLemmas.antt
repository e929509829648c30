-- The prefix in which no kind goes back, and what is known of it, one item more.
use Rattle.std.proofs.Common.{◌≡◌, ℕ, ◌+◌, List, [], ◌∷◌, ◌++◌, length, Bool, true, false, Option, Some, None, refl, sym, ap, ◌∙◌, arith, cond}
use Rattle.std.specs.Prelude.{◌≢◌, ◌&&◌, min, nat_le, nat_lt, is_some}
use Rattle.std.proofs.lemmas.List.{length-append}
use Rattle.osm_entity.specs.Items.{ItemValue, kind_of}
use Rattle.osm_entity.specs.Keys.{kind_rank}
use Rattle.osm_entity.specs.Meaning.{Cut}
use Rattle.osm_entity.specs.Streams.{Stream}
use Rattle.osm_entity.specs.Tasks.{verdict_as}
use Rattle.osm_entity.specs.declared.kind.Kind.{Kind}
use Rattle.osm_entity.specs.declared.stream.End.{End}
use Rattle.osm_entity.specs.declared.stream.End.TheVariants.{Done, Broken}
use Rattle.osm_entity.specs.declared.verdict.Verdict.TheVariants.{Running}
use Rattle.osm_select.specs.Kinds.{are_kinds_ordered, area_finish, item_rank, last_number, last_rank, number_after}
use Rattle.osm_select.specs.Order.{Admits, KindsOrdered, KindsUnordered, end_by, finish_by, is_order_by}
use Rattle.osm_select.proofs.PassedLemmas.{are_kinds_ordered-more, last_rank-more, kinds_prefix-cut, kinds_prefix-back}

-- behind an item that went back no list is in order
pub cut_more : (xs : List ItemValue) (item : ItemValue) → are_kinds_ordered 0 xs ≡ false →
    are_kinds_ordered 0 (xs ++ item ∷ []) ≡ false
cut_more xs item is = are_kinds_ordered-more 0 xs item ∙ ap (λ b. b && nat_le (last_rank 0 xs) (item_rank item)) is

-- a fault stays the first one
order_stays : (number : ℕ) (xs : List ItemValue) (item : ItemValue) → KindsUnordered number xs →
    KindsUnordered number (xs ++ item ∷ [])
order_stays number xs item order = record {
  unordered = cut_more xs item order.unordered;
  numbered = order.numbered
      ∙ ap (λ items. number_after (length items)) (sym (kinds_prefix-cut 0 xs (item ∷ []) order.unordered));
}

le_from_lt : (a b : ℕ) → nat_lt a b ≡ true → nat_le b a ≡ false
le_from_lt a b is = grind (arith, is)

le_unless_lt : (a b : ℕ) → nat_lt a b ≡ false → nat_le b a ≡ true
le_unless_lt a b is = grind (arith, is)

-- a count that stands still counts one more
one_more : (n m : ℕ) → min (min n m + 1) m ≡ min (n + 1) m
one_more n m = grind arith

-- an item that goes back is the first fault
order_breaks : (last : Kind) (count number : ℕ) (xs : List ItemValue) (item : ItemValue) →
    number ≡ number_after count → nat_lt (item_rank item) (kind_rank last) ≡ true → KindsOrdered last count xs →
    KindsUnordered number (xs ++ item ∷ [])
order_breaks last count number xs item numbers back order =
    let no : nat_le (last_rank 0 xs) (item_rank item) ≡ false =
    ap (λ n. nat_le n (item_rank item)) (sym order.rank) ∙ le_from_lt (item_rank item) (kind_rank last) back in
    record {
      unordered = are_kinds_ordered-more 0 xs item
          ∙ ap (λ b. b && nat_le (last_rank 0 xs) (item_rank item)) order.ordered ∙ no;
      numbered = numbers ∙ ap number_after order.counted ∙ one_more (length xs) last_number
          ∙ ap (λ items. number_after (length items)) (sym (kinds_prefix-back 0 xs item order.ordered no));
    }

-- an item that doesn't is the last in order
order_goes_on : (last kind : Kind) (count number : ℕ) (xs : List ItemValue) (item : ItemValue) →
    kind ≡ kind_of item.entity.body → number ≡ number_after count → nat_lt (kind_rank kind) (kind_rank last) ≡ false →
    KindsOrdered last count xs → KindsOrdered kind number (xs ++ item ∷ [])
order_goes_on last kind count number xs item same numbers on order =
    let goes : nat_le (last_rank 0 xs) (item_rank item) ≡ true =
    ap (λ n. nat_le n (item_rank item)) (sym order.rank) ∙ ap (λ k. nat_le (kind_rank last) (kind_rank k)) (sym same)
    ∙ le_unless_lt (kind_rank kind) (kind_rank last) on in
    record {
      ordered = are_kinds_ordered-more 0 xs item
          ∙ ap (λ b. b && nat_le (last_rank 0 xs) (item_rank item)) order.ordered ∙ goes;
      rank = ap kind_rank same ∙ sym (last_rank-more 0 xs item);
      counted = numbers ∙ ap number_after order.counted ∙ one_more (length xs) last_number
          ∙ ap (λ n. min n last_number) (sym (length-append xs (item ∷ [])));
    }

-- where there is no fault all items are in order
pub faultless_orders : (fault : Option ℕ) (last : Kind) (count : ℕ) (xs : List ItemValue) → fault ≡ None →
    is_order_by fault last count xs → are_kinds_ordered 0 xs ≡ true
faultless_orders None last count xs none order = order.ordered
faultless_orders (Some number) last count xs none order = absurd cc

-- where one item more is in order there was no fault
pub ordered_is_faultless : (fault : Option ℕ) (last : Kind) (count : ℕ) (xs : List ItemValue) (item : ItemValue) →
    is_order_by fault last count xs → are_kinds_ordered 0 (xs ++ item ∷ []) ≡ true → fault ≡ None
ordered_is_faultless None last count xs item order is = refl
ordered_is_faultless (Some number) last count xs item order is =
    absurd (let no : are_kinds_ordered 0 (xs ++ item ∷ []) ≡ false = cut_more xs item order.unordered in cc)

-- ---- the call

pub admits_none : (kind last : Kind) (count : ℕ) (fault : Option ℕ) → is_some fault ≡ true →
    Admits kind (record { last = last; count = count; fault = fault })
    (record { last = last; count = count; fault = fault }) false
admits_none kind last count None is = absurd cc
admits_none kind last count (Some number) is = λ items item same order.
    (order_stays number items item order, sym (cut_more items item order.unordered))

pub admits_back : (kind last : Kind) (count number : ℕ) (fault : Option ℕ) → is_some fault ≡ false →
    number ≡ number_after count → nat_lt (kind_rank kind) (kind_rank last) ≡ true →
    Admits kind (record { last = last; count = count; fault = fault })
    (record { last = last; count = count; fault = Some number }) false
admits_back kind last count number None is numbers back = λ items item same order.
    let now = order_breaks last count number items item numbers
    (ap (λ k. nat_lt (kind_rank k) (kind_rank last)) (sym same) ∙ back) order in
    (now, sym now.unordered)
admits_back kind last count number (Some n) is numbers back = absurd cc

pub admits_one : (kind last : Kind) (count number : ℕ) (fault : Option ℕ) → is_some fault ≡ false →
    number ≡ number_after count → nat_lt (kind_rank kind) (kind_rank last) ≡ false →
    Admits kind (record { last = last; count = count; fault = fault })
    (record { last = kind; count = number; fault = fault }) true
admits_one kind last count number None is numbers on = λ items item same order.
    let now = order_goes_on last kind count number items item same numbers on order in
    (now, sym now.ordered)
admits_one kind last count number (Some n) is numbers on = absurd cc

-- ---- how a task ends

-- what is known of the order tells how the task ends
pub finish_known : (fault : Option ℕ) (last : Kind) (count : ℕ) (items : List ItemValue) (end : End) →
    is_order_by fault last count items → finish_by fault end ≡ area_finish (record { items = items; end = end })
finish_known None last count items end order = rw order.ordered refl
finish_known (Some number) last count items end order = rw (order.unordered, order.numbered) refl

-- and which end is given
pub end_known : (fault : Option ℕ) (last : Kind) (count : ℕ) (items : List ItemValue) (end : End) →
    is_order_by fault last count items → cond (are_kinds_ordered 0 items) end Broken ≡ end_by fault end
end_known None last count items end order = ap (λ b. cond b end Broken) order.ordered
end_known (Some number) last count items end order = ap (λ b. cond b end Broken) order.unordered

-- a task that has ended doesn't run
pub not_running : (fault : Option ℕ) (end : End) → verdict_as 0 0 (finish_by fault end) ≢ Running
not_running None Done = λ is. cc
not_running None Broken = λ is. cc
not_running (Some number) end = λ is. cc

not_cut : (b : Bool) (end : End) (s : Stream) → are_kinds_ordered 0 s.items ≡ b → s.end ≡ end → area_finish s ≢ Cut
not_cut true Done s is met = rw (is, met) (λ no. cc)
not_cut true Broken s is met = rw (is, met) (λ no. cc)
not_cut false end s is met = rw is (λ no. cc)

-- an area task is cut off from no source
pub never_cut : (s : Stream) → area_finish s ≢ Cut
never_cut s = not_cut (are_kinds_ordered 0 s.items) s.end s refl refl
