-- What is passed on of one item more.
use Rattle.std.proofs.Common.{◌≡◌, ℕ, List, [], ◌∷◌, ◌++◌, Bool, true, false, cond, ◌&&◌, refl, sym, ap, ◌∙◌, append_assoc, arith}
use Rattle.std.specs.Prelude.{fold, nat_le}
use Rattle.std.proofs.lemmas.List.{append-nil}
use Rattle.osm_area.specs.declared.area.Area.{Area}
use Rattle.osm_entity.specs.Growth.{Grows}
use Rattle.osm_entity.specs.Items.{ItemValue}
use Rattle.osm_entity.specs.Streams.{Stream}
use Rattle.osm_entity.specs.declared.stream.End.{End}
use Rattle.osm_entity.specs.declared.stream.End.TheVariants.{Broken}
use Rattle.osm_select.specs.Kinds.{are_kinds_ordered, item_rank, kinds_prefix, last_rank}
use Rattle.osm_select.specs.Parts.{Sets}
use Rattle.osm_select.specs.Passed.{item_given, items_passed, kept_after, nothing_kept, stream_passed}

-- one item more is in order where all before it are and it does not go back
pub are_kinds_ordered-more : (floor : ℕ) (xs : List ItemValue) (x : ItemValue) →
    are_kinds_ordered floor (xs ++ x ∷ []) ≡ (are_kinds_ordered floor xs && nat_le (last_rank floor xs) (item_rank x))
are_kinds_ordered-more floor [] x = grind arith
are_kinds_ordered-more floor (y ∷ xs) x = elim (nat_le floor (item_rank y)) as
    (λ b. (b && are_kinds_ordered (item_rank y) (xs ++ x ∷ []))
    ≡ ((b && are_kinds_ordered (item_rank y) xs) && nat_le (last_rank (item_rank y) xs) (item_rank x))) [
      | true ↦ are_kinds_ordered-more (item_rank y) xs x
      | false ↦ refl
    ]

-- the last rank is that of one item more
pub last_rank-more : (floor : ℕ) (xs : List ItemValue) (x : ItemValue) → last_rank floor (xs ++ x ∷ []) ≡ item_rank x
last_rank-more floor [] x = refl
last_rank-more floor (y ∷ xs) x = last_rank-more (item_rank y) xs x

-- a list in order is its own longest prefix
pub kinds_prefix-whole : (floor : ℕ) (xs : List ItemValue) → are_kinds_ordered floor xs ≡ true →
    kinds_prefix floor xs ≡ xs
kinds_prefix-whole floor [] is = refl
kinds_prefix-whole floor (y ∷ xs) is = by (nat_le floor (item_rank y)) (kinds_prefix-whole (item_rank y) xs) is where
  by : (b : Bool) → (are_kinds_ordered (item_rank y) xs ≡ true → kinds_prefix (item_rank y) xs ≡ xs) →
      (b && are_kinds_ordered (item_rank y) xs) ≡ true →
      cond b (y ∷ kinds_prefix (item_rank y) xs) [] ≡ y ∷ xs
  by true rest is = ap (λ items. y ∷ items) (rest is)
  by false rest is = absurd cc

-- a prefix that was cut stays
pub kinds_prefix-cut : (floor : ℕ) (xs more : List ItemValue) → are_kinds_ordered floor xs ≡ false →
    kinds_prefix floor (xs ++ more) ≡ kinds_prefix floor xs
kinds_prefix-cut floor [] more is = absurd cc
kinds_prefix-cut floor (y ∷ xs) more is = by (nat_le floor (item_rank y))
    (kinds_prefix-cut (item_rank y) xs more) is where
      by : (b : Bool) → (are_kinds_ordered (item_rank y) xs ≡ false → kinds_prefix (item_rank y) (xs ++ more)
          ≡ kinds_prefix (item_rank y) xs) →
          (b && are_kinds_ordered (item_rank y) xs) ≡ false → cond b (y ∷ kinds_prefix (item_rank y) (xs ++ more)) []
          ≡ cond b (y ∷ kinds_prefix (item_rank y) xs) []
      by true rest is = ap (λ items. y ∷ items) (rest is)
      by false rest is = refl

-- an item that goes back is not in the prefix
pub kinds_prefix-back : (floor : ℕ) (xs : List ItemValue) (x : ItemValue) → are_kinds_ordered floor xs ≡ true →
    nat_le (last_rank floor xs) (item_rank x) ≡ false → kinds_prefix floor (xs ++ x ∷ []) ≡ xs
kinds_prefix-back floor [] x whole back = ap (λ b. cond b (x ∷ []) []) back
kinds_prefix-back floor (y ∷ xs) x whole back = by (nat_le floor (item_rank y))
    (λ is. kinds_prefix-back (item_rank y) xs x is back) whole where
      by : (b : Bool) → (are_kinds_ordered (item_rank y) xs ≡ true → kinds_prefix (item_rank y) (xs ++ x ∷ []) ≡ xs) →
          (b && are_kinds_ordered (item_rank y) xs) ≡ true →
          cond b (y ∷ kinds_prefix (item_rank y) (xs ++ x ∷ [])) [] ≡ y ∷ xs
      by true rest is = ap (λ items. y ∷ items) (rest is)
      by false rest is = absurd cc

-- what is given of one item more comes behind
pub passed-more : (area : Area) (clip : Bool) (kept : Sets) (xs : List ItemValue) (x : ItemValue) →
    items_passed area clip kept (xs ++ x ∷ []) ≡ items_passed area clip kept xs ++ item_given area clip
    (fold (kept_after area) kept xs) x
passed-more area clip kept [] x = append-nil (item_given area clip kept x)
passed-more area clip kept (y ∷ xs) x =
    ap (λ items. item_given area clip kept y ++ items) (passed-more area clip (kept_after area kept y) xs x)
    ∙ sym (append_assoc (item_given area clip kept y) (items_passed area clip (kept_after area kept y) xs)
    (item_given area clip (fold (kept_after area) (kept_after area kept y) xs) x))

-- what comes behind for one item more: nothing where a kind went back
abbrev pub passed_behind : (area : Area) → Bool → List ItemValue → ItemValue → List ItemValue
passed_behind area clip xs x = cond (are_kinds_ordered 0 (xs ++ x ∷ []))
    (item_given area clip (fold (kept_after area) nothing_kept xs) x) []

both_whole : (b c : Bool) → (b && c) ≡ true → b ≡ true
both_whole true c is = refl
both_whole false c is = is

-- what the rule gives of the prefix, one item more
prefix_behind : (area : Area) (clip : Bool) (xs : List ItemValue) (x : ItemValue) (whole more : Bool) →
    are_kinds_ordered 0 xs ≡ whole → are_kinds_ordered 0 (xs ++ x ∷ []) ≡ more →
    items_passed area clip nothing_kept (kinds_prefix 0 (xs ++ x ∷ [])) ≡ items_passed area clip nothing_kept
    (kinds_prefix 0 xs) ++ cond more (item_given area clip (fold (kept_after area) nothing_kept xs) x) []
prefix_behind area clip xs x true true whole more =
    rw (kinds_prefix-whole 0 xs whole, kinds_prefix-whole 0 (xs ++ x ∷ []) more)
    (passed-more area clip nothing_kept xs x)
prefix_behind area clip xs x true false whole more =
    let back : nat_le (last_rank 0 xs) (item_rank x) ≡ false =
    sym (ap (λ b. b && nat_le (last_rank 0 xs) (item_rank x)) whole) ∙ sym (are_kinds_ordered-more 0 xs x)
    ∙ more in
    rw (kinds_prefix-whole 0 xs whole, kinds_prefix-back 0 xs x whole back)
    (sym (append-nil (items_passed area clip nothing_kept xs)))
prefix_behind area clip xs x false true whole more =
    absurd (let is : are_kinds_ordered 0 xs ≡ true = both_whole (are_kinds_ordered 0 xs)
    (nat_le (last_rank 0 xs) (item_rank x)) (sym (are_kinds_ordered-more 0 xs x) ∙ more) in cc)
prefix_behind area clip xs x false false whole more = rw (kinds_prefix-cut 0 xs (x ∷ []) whole)
    (sym (append-nil (items_passed area clip nothing_kept (kinds_prefix 0 xs))))

-- what the rule gives of one item more
pub stream_passed-item : (area : Area) (clip : Bool) (xs : List ItemValue) (x : ItemValue) →
    (stream_passed area clip (record { items = xs ++ x ∷ []; end = Broken })).items
    ≡ (stream_passed area clip (record { items = xs; end = Broken })).items ++ passed_behind area clip xs x
unfolding stream_passed
stream_passed-item area clip xs x = prefix_behind area clip xs x (are_kinds_ordered 0 xs)
    (are_kinds_ordered 0 (xs ++ x ∷ [])) refl refl

-- an end fixes no item
pub stream_passed-end : (area : Area) (clip : Bool) (xs : List ItemValue) (e : End) →
    (stream_passed area clip (record { items = xs; end = e })).items
    ≡ (stream_passed area clip (record { items = xs; end = Broken })).items
unfolding stream_passed
stream_passed-end area clip xs e = refl

-- of a broken stream the rule gives a broken one
pub stream_passed-broken : (area : Area) (clip : Bool) (xs : List ItemValue) →
    (stream_passed area clip (record { items = xs; end = Broken })).end ≡ Broken
unfolding stream_passed
stream_passed-broken area clip xs = elim (are_kinds_ordered 0 xs) as
    (λ b. cond b Broken Broken ≡ Broken) [ true ↦ refl | false ↦ refl ]

-- how the stream of the rule ends
pub stream_passed-ends : (area : Area) (clip : Bool) (s : Stream) → (stream_passed area clip s).end
    ≡ cond (are_kinds_ordered 0 s.items) s.end Broken
unfolding stream_passed
stream_passed-ends area clip s = refl

-- one item more is given or not, and the end fixes no item
unfoldable pub passed_grows : (area : Area) (clip : Bool) → Grows (stream_passed area clip)
passed_grows area clip = record {
  more = passed_behind area clip;
  item = stream_passed-item area clip;
  last = λ xs end. [];
  ended = λ xs end. stream_passed-end area clip xs end
      ∙ sym (append-nil (stream_passed area clip (record { items = xs; end = Broken })).items);
  broken = stream_passed-broken area clip;
}
