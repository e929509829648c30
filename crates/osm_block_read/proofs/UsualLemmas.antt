-- What usual texts and tags tell: no index is missing, no key is empty, and what they weigh is bounded.
use Rattle.std.proofs.Common.{◌≡◌, ◌<◌, ◌≤◌, ◌*◌, ◌∷◌, [], ℕ, zero, suc, ℤ, pos, negsuc, Bool, true, false, not, List, length, map, refl, subst, arith, leb-true, ltb-true, le-ltb}
use Rattle.std.specs.Prelude.{◌&&◌, ◌==◌, nat_le, nat_lt, slice_index_or, sum_by}
use Rattle.std.specs.List.{list_all, list_any}
use Rattle.std.proofs.lemmas.Bool.{false≢true}
use Rattle.std.proofs.lemmas.List.{length-map}
use Rattle.std.proofs.lemmas.List.Elements.{All-map}
use Rattle.std.proofs.lemmas.List.Sums.{sum_by-le}
use Rattle.osm_entity.specs.Counts.{counted}
use Rattle.osm_entity.specs.Entities.{body_weight, greatest_weight, member_weight, tag_weight, weight_of}
use Rattle.osm_block_read.specs.Entries.{At, Along, Having, Entry, EntryBody, SettingValue, entry_body, entry_entity, entry_member, entry_tag, text_at}
use Rattle.osm_block_read.specs.Faults.{has_empty_key, is_index_below, is_tag_index}
use Rattle.osm_block_read.specs.Usual.{are_usual, are_usual_tags, are_usual_texts, is_later_index, is_short_text, is_small_body, is_usual_tag, is_usual_text}
use Rattle.osm_block_read.specs.declared.entry.EntryMember.{EntryMember}
use Rattle.osm_block_read.specs.declared.entry.EntryTag.{EntryTag}
use Rattle.osm_block_read.proofs.PieceLemmas.{and_left, and_right}

and_both : (a b : Bool) → a ≡ true → b ≡ true → a && b ≡ true
and_both a b is_a is_b = rw (is_a, is_b) refl

-- a text that is said to be short
short-text : (text : List ℕ) → is_short_text text ≡ true → length text ≤ 1024
short-text text is = leb-true (length text) 1024 is

short-each : (texts : List (List ℕ)) (i : ℕ) → list_all is_usual_text texts ≡ true →
    length (slice_index_or texts i []) ≤ 1024
short-each [] i usual = omega arith
short-each (text ∷ texts) zero usual =
    short-text text (and_left (is_short_text text) (not (length text == 0))
    (and_left (is_usual_text text) (list_all is_usual_text texts) usual))
short-each (text ∷ texts) (suc i) usual =
    short-each texts i (and_right (is_usual_text text) (list_all is_usual_text texts) usual)

-- each of usual texts is short, and so is none
short-in : (texts : List (List ℕ)) (i : ℕ) → are_usual_texts texts ≡ true → length (slice_index_or texts i []) ≤ 1024
short-in [] i usual = omega arith
short-in (first ∷ more) zero usual =
    short-text first (and_left (is_short_text first) (list_all is_usual_text more) usual)
short-in (first ∷ more) (suc i) usual =
    short-each more i (and_right (is_short_text first) (list_all is_usual_text more) usual)

short-at : (texts : List (List ℕ)) (index : ℤ) → are_usual_texts texts ≡ true → length (text_at texts index) ≤ 1024
short-at texts index usual = short-in texts (counted index) usual

-- what isn't true is false
not_true : (b : Bool) → not b ≡ true → b ≡ false
not_true true is = absurd (false≢true is)
not_true false is = refl

some-each : (texts : List (List ℕ)) (i : ℕ) → list_all is_usual_text texts ≡ true → i < length texts →
    (length (slice_index_or texts i []) == 0) ≡ false
some-each [] i usual within = absurd (omega (arith, within))
some-each (text ∷ texts) zero usual within =
    not_true (length text == 0) (and_right (is_short_text text) (not (length text == 0))
    (and_left (is_usual_text text) (list_all is_usual_text texts) usual))
some-each (text ∷ texts) (suc i) usual within =
    some-each texts i (and_right (is_usual_text text) (list_all is_usual_text texts) usual) (omega (arith, within))

-- a text past the first isn't empty
some-in : (texts : List (List ℕ)) (n : ℕ) → are_usual_texts texts ≡ true → 0 < n → n < length texts →
    (length (slice_index_or texts n []) == 0) ≡ false
some-in [] n usual some within = absurd (omega (arith, within))
some-in (first ∷ more) zero usual some within = absurd (omega (arith, some))
some-in (first ∷ more) (suc n) usual some within =
    some-each more n (and_right (is_short_text first) (list_all is_usual_text more) usual) (omega (arith, within))

key-some : (texts : List (List ℕ)) (key : ℤ) → are_usual_texts texts ≡ true →
    is_later_index (length texts) key ≡ true → (length (text_at texts key) == 0) ≡ false
key-some texts (pos n) usual later =
    some-in texts n usual (ltb-true 0 n (and_left (nat_lt 0 n) (nat_lt n (length texts)) later))
    (ltb-true n (length texts) (and_right (nat_lt 0 n) (nat_lt n (length texts)) later))
key-some texts (negsuc n) usual later = absurd (false≢true later)

later-below : (count : ℕ) (key : ℤ) → is_later_index count key ≡ true → is_index_below count key ≡ true
later-below count (pos n) later = and_right (nat_lt 0 n) (nat_lt n count) later
later-below count (negsuc n) later = later

-- the indexes of usual tags are those of texts
tags-within : (texts : List (List ℕ)) (tags : List EntryTag) → list_all (is_usual_tag (length texts)) tags ≡ true →
    list_all (is_tag_index texts) tags ≡ true
tags-within texts [] usual = refl
tags-within texts (tag ∷ tags) usual =
    let one =
    and_left (is_usual_tag (length texts) tag) (list_all (is_usual_tag (length texts)) tags) usual in
    and_both (is_tag_index texts tag) (list_all (is_tag_index texts) tags)
    (and_both (is_index_below (length texts) tag.key) (is_index_below (length texts) tag.value)
    (later-below (length texts) tag.key
    (and_left (is_later_index (length texts) tag.key) (is_index_below (length texts) tag.value) one))
    (and_right (is_later_index (length texts) tag.key) (is_index_below (length texts) tag.value) one))
    (tags-within texts tags
    (and_right (is_usual_tag (length texts) tag) (list_all (is_usual_tag (length texts)) tags) usual))

-- their keys aren't empty
tags-some : (texts : List (List ℕ)) (tags : List EntryTag) → are_usual_texts texts ≡ true →
    list_all (is_usual_tag (length texts)) tags ≡ true → list_any (has_empty_key texts) tags ≡ false
tags-some texts [] known usual = refl
tags-some texts (tag ∷ tags) known usual =
    rw (
      key-some texts tag.key known (and_left (is_later_index (length texts) tag.key)
          (is_index_below (length texts) tag.value) (and_left (is_usual_tag (length texts) tag)
          (list_all (is_usual_tag (length texts)) tags) usual)),
      tags-some texts tags known (and_right (is_usual_tag (length texts) tag)
          (list_all (is_usual_tag (length texts)) tags) usual),
    )
    refl

tags-each : (texts : List (List ℕ)) (tags : List EntryTag) → are_usual texts tags ≡ true →
    list_all (is_usual_tag (length texts)) tags ≡ true
tags-each texts tags usual =
    and_right (nat_le (length tags) 500) (list_all (is_usual_tag (length texts)) tags)
    (and_right (are_usual_texts texts) (are_usual_tags (length texts) tags) usual)

pub usual-indexes : (texts : List (List ℕ)) (tags : List EntryTag) → are_usual texts tags ≡ true →
    list_all (is_tag_index texts) tags ≡ true
usual-indexes texts tags usual = tags-within texts tags (tags-each texts tags usual)

pub usual-keys : (texts : List (List ℕ)) (tags : List EntryTag) → are_usual texts tags ≡ true →
    list_any (has_empty_key texts) tags ≡ false
usual-keys texts tags usual =
    tags-some texts tags (and_left (are_usual_texts texts) (are_usual_tags (length texts) tags) usual)
    (tags-each texts tags usual)

-- a tag of usual texts weighs at most 2,080
tag-light : (s : SettingValue) (t : EntryTag) → are_usual_texts s.texts ≡ true → tag_weight (entry_tag s t) ≤ 2080
tag-light s t usual = omega (arith, short-at s.texts t.key usual, short-at s.texts t.value usual)

tags-light : (s : SettingValue) (tags : List EntryTag) → are_usual_texts s.texts ≡ true →
    sum_by tag_weight (map (entry_tag s) tags) ≤ length tags * 2080
tags-light s tags usual =
    subst (λ n. sum_by tag_weight (map (entry_tag s) tags) ≤ n * 2080) (length-map tags (entry_tag s))
    (sum_by-le tag_weight 2080 (map (entry_tag s) tags)
    (All-map (λ t. tag_weight t ≤ 2080) (entry_tag s) tags
    (λ i d within. tag-light s (slice_index_or tags i d) usual)))

-- a member whose role is a usual text weighs at most 1,056
member-light : (s : SettingValue) (m : EntryMember) → are_usual_texts s.texts ≡ true →
    member_weight (entry_member s m) ≤ 1056
member-light s m usual = omega (arith, short-at s.texts m.role usual)

members-light : (s : SettingValue) (members : List EntryMember) → are_usual_texts s.texts ≡ true →
    sum_by member_weight (map (entry_member s) members) ≤ length members * 1056
members-light s members usual =
    subst (λ n. sum_by member_weight (map (entry_member s) members) ≤ n * 1056) (length-map members (entry_member s))
    (sum_by-le member_weight 1056 (map (entry_member s) members)
    (All-map (λ m. member_weight m ≤ 1056) (entry_member s) members
    (λ i d within. member-light s (slice_index_or members i d) usual)))

-- a small body weighs at most as much as 1,000 such members
body-light : (s : SettingValue) (body : EntryBody) → are_usual_texts s.texts ≡ true → is_small_body body ≡ true →
    body_weight (entry_body s body) ≤ 1056000
body-light s (At lat lon) usual small = omega arith
body-light s (Along refs) usual small = omega (arith, leb-true (length refs) 2000 small)
body-light s (Having members) usual small =
    omega (arith, members-light s members usual, leb-true (length members) 1000 small)

-- an entity of usual texts and tags, and a small body, isn't heavy
entry-light : (s : SettingValue) (e : Entry) → are_usual s.texts e.tags ≡ true → is_small_body e.body ≡ true →
    weight_of (entry_entity s e) ≤ greatest_weight
entry-light s e usual small =
    let known : are_usual_texts s.texts ≡ true =
    and_left (are_usual_texts s.texts) (are_usual_tags (length s.texts) e.tags) usual in
    let few : length e.tags ≤ 500 =
    leb-true (length e.tags) 500 (and_left (nat_le (length e.tags) 500)
    (list_all (is_usual_tag (length s.texts)) e.tags)
    (and_right (are_usual_texts s.texts) (are_usual_tags (length s.texts) e.tags) usual)) in
    omega (
      arith,
      few,
      tags-light s e.tags known,
      short-at s.texts e.info.user known,
      body-light s e.body known small,
    )

pub usual-light : (s : SettingValue) (e : Entry) → are_usual s.texts e.tags ≡ true → is_small_body e.body ≡ true →
    nat_lt greatest_weight (weight_of (entry_entity s e)) ≡ false
usual-light s e usual small =
    le-ltb greatest_weight (weight_of (entry_entity s e)) (entry-light s e usual small)

-- a tag among those that are all so is so
pub tag-at : (texts : List (List ℕ)) (tags : List EntryTag) (i : ℕ) (d : EntryTag) →
    list_all (is_tag_index texts) tags ≡ true → i < length tags →
    is_tag_index texts (slice_index_or tags i d) ≡ true
tag-at texts [] i d all within = absurd (omega (arith, within))
tag-at texts (tag ∷ tags) zero d all within =
    and_left (is_tag_index texts tag) (list_all (is_tag_index texts) tags) all
tag-at texts (tag ∷ tags) (suc i) d all within =
    tag-at texts tags i d (and_right (is_tag_index texts tag) (list_all (is_tag_index texts) tags) all)
    (omega (arith, within))
