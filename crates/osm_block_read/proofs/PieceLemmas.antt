-- What the check of a block gives the item of an entity.
use Rattle.std.proofs.Common.{◌≡◌, ◌≢◌, ◌∙◌, ◌<◌, ◌≤◌, ◌^◌, ◌+◌, ◌∷◌, [], ℕ, ℤ, Bool, true, false, not, List, Option, Some, None, length, map, drop, get_or, ltb-false, refl, sym, ap}
use Rattle.std.specs.Prelude.{◌&&◌, ◌||◌, ◌==◌, All, if◌then◌else◌, nat_lt}
use Rattle.std.specs.List.{list_all, list_any}
use Rattle.std.specs.Str.{is_utf8}
use Rattle.std.proofs.lemmas.Bool.{false≢true}
use Rattle.std.proofs.lemmas.List.{drop_more}
use Rattle.std.proofs.lemmas.List.Elements.{All-cons, All-map, All-nil}
use Rattle.osm_entity.specs.Counts.{counted}
use Rattle.osm_entity.specs.Entities.{IsEntity, body_fits, greatest_weight, weight_of}
use Rattle.osm_entity.specs.declared.parts.Body.{Body}
use Rattle.osm_entity.specs.declared.parts.Tag.{Tag}
use Rattle.osm_entity.specs.declared.verdict.Cause.{Cause}
use Rattle.osm_entity.specs.declared.verdict.Cause.TheVariants.{BadLengths, BadIndex, BadField, BadCoordinate, BadTime, Deleted, TooHeavy}
use Rattle.osm_block_read.specs.Entries.{Entry, SettingValue, entry_body, entry_entity, entry_tag, seconds_at, text_at}
use Rattle.osm_block_read.specs.Faults.{entry_fault, has_body_indexes, has_empty_key, has_indexes, is_tag_index, is_user_index, last_second}
use Rattle.osm_block_read.specs.Spans.{part_in}
use Rattle.osm_block_read.specs.declared.entry.EntryTag.{EntryTag}
use Rattle.osm_block_read.specs.declared.span.Span.{Span}

-- where both are true, each is
pub and_left : (a b : Bool) → a && b ≡ true → a ≡ true
and_left true b both = refl
and_left false b both = both

pub and_right : (a b : Bool) → a && b ≡ true → b ≡ true
and_right true b both = both
and_right false true both = refl
and_right false false both = both

-- whether the parts from a place on are UTF-8, by the first of them
pub texts-more : (raw : List ℕ) (spans : List Span) (at : ℕ) (span : Span) → at < length spans →
    span ≡ get_or spans at span →
    list_all is_utf8 (map (part_in raw) (drop at spans))
    ≡ is_utf8 (part_in raw span) && list_all is_utf8 (map (part_in raw) (drop (at + 1) spans))
texts-more raw spans at span within is =
    ap (λ list. list_all is_utf8 (map (part_in raw) list))
    (drop_more spans at span within ∙ ap (λ first. first ∷ drop (at + 1) spans) (sym is))

-- the first of seven tests that holds has its cause
abbrev chain : Bool → Bool → Bool → Bool → Bool → Bool → Bool → Option Cause
chain a b c d e f g =
    if a then Some BadLengths
    else if b then Some BadIndex
    else if c then Some BadField
    else if d then Some BadCoordinate
    else if e then Some BadTime
    else if f then Some Deleted
    else if g then Some TooHeavy
    else None

-- a cause is there
some_none : (cause : Cause) → ◌≡◌ {A = Option Cause} (Some cause) None → ⊥
some_none cause is = cc

-- where there is no cause no test holds
chain-none : (a b c d e f g : Bool) → chain a b c d e f g ≡ None →
    (b ≡ false) × (c ≡ false) × (d ≡ false) × (e ≡ false) × (g ≡ false)
chain-none true b c d e f g is = absurd (some_none BadLengths is)
chain-none false true c d e f g is = absurd (some_none BadIndex is)
chain-none false false true d e f g is = absurd (some_none BadField is)
chain-none false false false true e f g is = absurd (some_none BadCoordinate is)
chain-none false false false false true f g is = absurd (some_none BadTime is)
chain-none false false false false false true g is = absurd (some_none Deleted is)
chain-none false false false false false false true is = absurd (some_none TooHeavy is)
chain-none false false false false false false false is = (refl, refl, refl, refl, refl)

-- what isn't not true is true
pub not_false : (b : Bool) → not b ≡ false → b ≡ true
not_false true is = refl
not_false false is = absurd (false≢true (sym is))

-- what holds of an entry with which nothing is wrong
pub record IsFine (s : SettingValue) (e : Entry) : Type 0 where
  pub indexes : has_indexes s.texts e ≡ true
  pub keys : list_any (has_empty_key s.texts) e.tags ≡ false
  pub fits : body_fits (entry_body s e.body) ≡ true
  pub time : seconds_at s.date_granularity e.info.timestamp ≤ last_second
  pub light : weight_of (entry_entity s e) ≤ greatest_weight

pub fine-parts : (s : SettingValue) (e : Entry) → entry_fault s e ≡ None → IsFine s e
unfolding entry_fault
fine-parts s e fine =
    let parts =
    chain-none (not e.even) (not (has_indexes s.texts e)) (list_any (has_empty_key s.texts) e.tags)
    (not (body_fits (entry_body s e.body))) (nat_lt last_second (seconds_at s.date_granularity e.info.timestamp))
    (not e.info.visible) (nat_lt greatest_weight (weight_of (entry_entity s e))) fine in
    record {
      indexes = not_false (has_indexes s.texts e) parts.0;
      keys = parts.1;
      fits = not_false (body_fits (entry_body s e.body)) parts.2;
      time = ltb-false last_second (seconds_at s.date_granularity e.info.timestamp) parts.3;
      light = ltb-false greatest_weight (weight_of (entry_entity s e)) parts.4;
    }

-- the indexes of its tags are those of texts
pub fine-tags : (s : SettingValue) (e : Entry) → entry_fault s e ≡ None →
    list_all (is_tag_index s.texts) e.tags ≡ true
fine-tags s e fine =
    and_left (list_all (is_tag_index s.texts) e.tags) (is_user_index s.texts e.info.user)
    (and_left (list_all (is_tag_index s.texts) e.tags && is_user_index s.texts e.info.user)
    (has_body_indexes s.texts e.body) (fine-parts s e fine).indexes)

-- where none of two is true, neither is
or_left : (a b : Bool) → a || b ≡ false → a ≡ false
or_left true b is = is
or_left false b is = refl

or_right : (a b : Bool) → a || b ≡ false → b ≡ false
or_right true b is = absurd (false≢true (sym is))
or_right false b is = is

-- a text whose length isn't 0 isn't empty
some-text : (text : List ℕ) → (length text == 0) ≡ false → text ≢ []
some-text text some is = false≢true (sym some ∙ ap (λ list. length list == 0) is)

-- where no key is empty, each tag has one
keys-named : (texts : List (List ℕ)) (tags : List EntryTag) → list_any (has_empty_key texts) tags ≡ false →
    All (λ t. text_at texts t.key ≢ []) tags
keys-named texts [] none = All-nil (λ t. text_at texts t.key ≢ [])
keys-named texts (tag ∷ tags) none =
    All-cons (λ t. text_at texts t.key ≢ []) tag tags
    (some-text (text_at texts tag.key) (or_left (has_empty_key texts tag) (list_any (has_empty_key texts) tags) none))
    (keys-named texts tags (or_right (has_empty_key texts tag) (list_any (has_empty_key texts) tags) none))

-- the entity of an entry with which nothing is wrong keeps what entities keep
pub entity-kept : (s : SettingValue) (e : Entry) → IsFine s e → counted e.info.version < 2 ^ 31 →
    counted e.info.changeset < 2 ^ 63 →
    counted e.info.uid < 2 ^ 31 → IsEntity (entry_entity s e)
entity-kept s e fine version changeset uid = record {
  version = version;
  uid = uid;
  changeset = changeset;
  named = All-map (λ t. t.key ≢ []) (entry_tag s) e.tags (keys-named s.texts e.tags fine.keys);
  in_range = fine.fits;
  light = fine.light;
}

-- an entity that has what an entry has keeps it too
pub entity-made : (s : SettingValue) (e : Entry) (id : ℤ) (version time changeset uid : ℕ) (user : List ℕ)
    (tags : List Tag) (body : Body) →
    IsEntity (entry_entity s e) → id ≡ e.id → version ≡ counted e.info.version →
    time ≡ seconds_at s.date_granularity e.info.timestamp → changeset ≡ counted e.info.changeset →
    uid ≡ counted e.info.uid →
    user ≡ text_at s.texts e.info.user → tags ≡ map (entry_tag s) e.tags → body ≡ entry_body s e.body →
    IsEntity (record {
      id = id;
      version = version;
      time = time;
      changeset = changeset;
      uid = uid;
      user = user;
      tags = tags;
      body = body;
    })
entity-made s e id version time changeset uid user tags body kept is_id is_version is_time is_changeset is_uid is_user
    is_tags is_body =
    rw (is_id, is_version, is_time, is_changeset, is_uid, is_user, is_tags, is_body) kept
