-- The entries that are read back of written entities are good, and are the items that come back.
use Rattle.std.proofs.Common.{◌≡◌, ◌∙◌, ◌<◌, ◌≤◌, ◌*◌, ◌/◌, ◌^◌, ◌∷◌, [], ℕ, ℤ, pos, negsuc, List, Some, None, Bool, true, false, length, map, refl, sym, ap, subst, arith, inl, inr, suc, zero}
use Rattle.std.specs.Prelude.{FitsSigned, IsTrue, ◌*ℤ◌, ◌≢◌, ◌&&◌, int_div, nat_abs, nat_lt, nat_le, neg_ℤ, not, Ok, if◌then◌else◌}
use Rattle.std.specs.Int.{w64}
use Rattle.std.specs.List.{AllByRecursion as Each, list_all, list_any}
use Rattle.std.proofs.Math.Nat.{div-le_self, mul-div-le}
use Rattle.std.proofs.lemmas.Bool.{and_from, and_parts, cases_Bool, cond_both, le-leb, le-ltb, leb-true, lt-ltb, ne_eqb, or_from}
use Rattle.std.proofs.lemmas.Int.{fits_signed_from_abs, ints, unsigned_abs-mul}
use Rattle.std.proofs.lemmas.List.{nil_from_length}
use Rattle.std.proofs.lemmas.List.Elements.{recursion_from_All}
use Rattle.osm_entity.specs.Entities.{EntityValue, body_fits, body_weight, greatest_weight, place_fits, weight_of}
use Rattle.osm_entity.specs.Keys.{kind_rank}
use Rattle.osm_entity.specs.Writable.{IsWritable}
use Rattle.osm_entity.specs.declared.item.Act.TheVariants.{Keep}
use Rattle.osm_entity.specs.declared.kind.Flow.TheVariants.{Entities}
use Rattle.osm_entity.specs.declared.verdict.Cause.TheVariants.{BadCoordinate, BadField, BadIndex, BadTime, Deleted, TooHeavy}
use Rattle.osm_entity.specs.declared.kind.Kind.{Kind}
use Rattle.osm_entity.specs.declared.kind.Kind.TheVariants.{Node as OfNode, Way as OfWay, Relation as OfRelation}
use Rattle.osm_entity.specs.declared.parts.Body.{Body}
use Rattle.osm_entity.specs.declared.parts.Body.TheVariants.{Node, Way, Relation}
use Rattle.osm_entity.specs.declared.parts.Member.{Member}
use Rattle.osm_entity.specs.declared.parts.Place.{Place}
use Rattle.osm_entity.specs.declared.parts.Tag.{Tag}
use Rattle.osm_block_read.specs.Entries.{SettingValue, degrees_at, entry_body, entry_entity, entry_item, entry_member, entry_tag, kind_of_number, seconds_at}
use Rattle.osm_block_read.specs.Faults.{entries_fault, entries_said, entry_fault, has_body_indexes, has_empty_key, has_indexes, is_member_index, is_tag_index, is_user_index, last_second}
use Rattle.osm_block_write.specs.declared.options.PbfOptions.{PbfOptions}
use Rattle.osm_block_write.specs.Messages.{in_units}
use Rattle.osm_block_write.specs.Tables.{role_texts, string_table, text_number}
use Rattle.osm_pbf.specs.ReadBack.{body_back, cut_degrees, entity_back, item_back, user_back}
use Rattle.osm_pbf.proofs.PlainBackLemmas.{body_coded, entry_coded, member_coded, tag_coded}
use Rattle.osm_pbf.proofs.TextsBackLemmas.{AreNamed, IsNamed, named-at, named-below}

-- the size of a number and of its negative
abs-negative : (n : ℕ) → nat_abs (neg_ℤ (pos n)) ≡ n
abs-negative zero = refl
abs-negative (suc n) = refl

-- a quotient is no greater than its number
abs-divided : (z : ℤ) (g : ℕ) → nat_abs (int_div z (pos g)) ≡ nat_abs z / g
abs-divided (pos n) g = refl
abs-divided (negsuc n) g = abs-negative (suc n / g)

-- nor is the quotient times the divisor
abs-cut : (z : ℤ) (g : ℕ) → nat_abs (pos g *ℤ int_div z (pos g)) ≤ nat_abs z
abs-cut z g =
    let product : nat_abs (pos g *ℤ int_div z (pos g)) ≡ g * (nat_abs z / g) =
    unsigned_abs-mul (pos g) (int_div z (pos g)) ∙ ap (λ n. g * n) (abs-divided z g) in
    subst (λ n. n ≤ nat_abs z) (sym product) (mul-div-le (nat_abs z) g)

-- a number of nanodegrees that is small enough fits, in units of the granularity
pub units-fit : (options : PbfOptions) (z : ℤ) → nat_abs z < 2 ^ 63 → FitsSigned w64 (in_units options z)
units-fit options z small =
    fits_signed_from_abs w64 (in_units options z)
    (omega (arith, small, abs-divided z options.granularity, div-le_self (nat_abs z) options.granularity))

-- the two bounds of a place
pub place-bounds : (p : Place) → place_fits p ≡ true →
    (nat_abs p.lon ≤ 180 * 10 ^ 9) × (nat_abs p.lat ≤ 90 * 10 ^ 9)
place-bounds p fits =
    let both = and_parts (nat_le (nat_abs p.lon) (180 * 10 ^ 9)) (nat_le (nat_abs p.lat) (90 * 10 ^ 9)) fits in
    (leb-true (nat_abs p.lon) (180 * 10 ^ 9) both.0, leb-true (nat_abs p.lat) (90 * 10 ^ 9) both.1)

-- a body that comes back is within its bounds
back-fits : (options : PbfOptions) (body : Body) → IsTrue (body_fits body) → body_fits (body_back options body) ≡ true
back-fits options (Node None) fits = refl
back-fits options (Node (Some p)) fits =
    let bounds = place-bounds p fits in
    let lon : ℤ = cut_degrees options p.lon in
    let lat : ℤ = cut_degrees options p.lat in
    and_from (nat_le (nat_abs lon) (180 * 10 ^ 9)) (nat_le (nat_abs lat) (90 * 10 ^ 9))
    (le-leb (nat_abs lon) (180 * 10 ^ 9) (omega (arith, bounds.0, abs-cut p.lon options.granularity)))
    (le-leb (nat_abs lat) (90 * 10 ^ 9) (omega (arith, bounds.1, abs-cut p.lat options.granularity)))
back-fits options (Way refs) fits = refl
back-fits options (Relation members) fits = refl

-- it weighs what it weighed
back-weight : (options : PbfOptions) (body : Body) → body_weight (body_back options body) ≡ body_weight body
back-weight options (Node None) = refl
back-weight options (Node (Some p)) = refl
back-weight options (Way refs) = refl
back-weight options (Relation members) = refl

-- what holds for the block of a table
abbrev pub setting_of : PbfOptions → List (List ℕ) → SettingValue
setting_of options table = record {
  texts = table;
  granularity = pos options.granularity;
  date_granularity = pos 1000;
  lat_offset = pos 0;
  lon_offset = pos 0;
}

-- a coded degree is cut
degrees-back : (options : PbfOptions) (z : ℤ) →
    degrees_at (pos 0) (pos options.granularity) (in_units options z) ≡ cut_degrees options z
degrees-back options z = omega (arith, ints)

-- the degree of no place
degrees-none : (options : PbfOptions) → degrees_at (pos 0) (pos options.granularity) (pos 0) ≡ pos 0
degrees-none options = omega (arith, ints)

-- the kind of a rank
kind-back : (kind : Kind) → kind_of_number (pos (kind_rank kind)) ≡ kind
kind-back OfNode = refl
kind-back OfWay = refl
kind-back OfRelation = refl

-- a rank is one of three
rank-below : (kind : Kind) → nat_lt (kind_rank kind) 3 ≡ true
rank-below OfNode = refl
rank-below OfWay = refl
rank-below OfRelation = refl

-- where all tests are passed nothing is wrong
faultless : (indexed empty placed late visible heavy : Bool) → indexed ≡ true → empty ≡ false → placed ≡ true →
    late ≡ false → visible ≡ true → heavy ≡ false →
    (if not indexed then Some BadIndex
    else if empty then Some BadField
    else if not placed then Some BadCoordinate
    else if late then Some BadTime
    else if not visible then Some Deleted
    else if heavy then Some TooHeavy
    else None) ≡ None
faultless indexed empty placed late visible heavy i e p l v h = rw (i, e, p, l, v, h) refl

-- an entity as a stream of entities has it
abbrev pub IsWritableEntity : EntityValue → Type 0
IsWritableEntity e = IsWritable Entities (record { act = Keep; entity = e })

module _ (options : PbfOptions) (texts : List (List ℕ)) where
  -- the table of the texts, and what holds for its block
  abbrev table : List (List ℕ)
  table = string_table texts

  -- what holds for its block
  abbrev setting : SettingValue
  setting = setting_of options table

  -- the tags of an entity come back
  tags-same : (tags : List Tag) → Each (λ tag. IsNamed table tag.key × IsNamed table tag.value) tags →
      map (entry_tag setting) (map (tag_coded table) tags) ≡ tags
  tags-same [] are = refl
  tags-same (tag ∷ tags) are =
      rw (named-at table tag.key are.0.0, named-at table tag.value are.0.1)
      (ap (λ more. tag ∷ more) (tags-same tags are.1))

  -- so do members
  members-same : (members : List Member) → Each (IsNamed table) (map (λ m. m.role) members) →
      map (entry_member setting) (map (member_coded table) members) ≡ members
  members-same [] are = refl
  members-same (m ∷ members) are =
      rw (kind-back m.kind, named-at table m.role are.0) (ap (λ more. m ∷ more) (members-same members are.1))

  -- a body comes back, cut to the granularity
  body-same : (body : Body) → Each (IsNamed table) (role_texts body) →
      entry_body setting (body_coded options table body) ≡ body_back options body
  body-same (Node None) are = rw (degrees-none options) refl
  body-same (Node (Some p)) are = rw (degrees-back options p.lon, degrees-back options p.lat) refl
  body-same (Way refs) are = refl
  body-same (Relation members) are = ap Relation (members-same members are)

  -- the indexes of tags are those of texts
  tags-indexed : (tags : List Tag) → Each (λ tag. IsNamed table tag.key × IsNamed table tag.value) tags →
      list_all (is_tag_index table) (map (tag_coded table) tags) ≡ true
  tags-indexed [] are = refl
  tags-indexed (tag ∷ tags) are =
      rw (
        lt-ltb (text_number table tag.key) (length table) (named-below table tag.key are.0.0),
        lt-ltb (text_number table tag.value) (length table) (named-below table tag.value are.0.1),
      ) (tags-indexed tags are.1)

  -- those of members too
  members-indexed : (members : List Member) → Each (IsNamed table) (map (λ m. m.role) members) →
      list_all (is_member_index table) (map (member_coded table) members) ≡ true
  members-indexed [] are = refl
  members-indexed (m ∷ members) are =
      rw (rank-below m.kind, lt-ltb (text_number table m.role) (length table) (named-below table m.role are.0))
      (members-indexed members are.1)

  -- those of a body are those of texts
  body-indexed : (body : Body) → Each (IsNamed table) (role_texts body) →
      has_body_indexes table (body_coded options table body) ≡ true
  body-indexed (Node place) are = refl
  body-indexed (Way refs) are = refl
  body-indexed (Relation members) are = members-indexed members are

  -- no key is empty
  keys-some : (tags : List Tag) → Each (λ tag. IsNamed table tag.key × IsNamed table tag.value) tags →
      Each (λ tag. tag.key ≢ []) tags → list_any (has_empty_key table) (map (tag_coded table) tags) ≡ false
  keys-some [] are some = refl
  keys-some (tag ∷ tags) are some =
      or_from (has_empty_key table (tag_coded table tag)) (list_any (has_empty_key table) (map (tag_coded table) tags))
      (rw (named-at table tag.key are.0.0) (ne_eqb (length tag.key) 0 (λ none. some.0 (nil_from_length tag.key none))))
      (keys-some tags are.1 some.1)

  -- an entity comes back, with what its metadata and its body come back as
  entity-same : (e : EntityValue) → e.time < 2 ^ 32 → AreNamed options table e →
      entry_entity setting (entry_coded options table e) ≡ entity_back options e
  entity-same e time are = elim (cases_Bool options.omitmetadata) [
    | inl omitted ↦ rw (omitted, tags-same e.tags are.tags, body-same e.body are.roles) refl
    | inr written ↦
        let user : IsNamed table e.user =
        (subst (λ (b : Bool). Each (IsNamed table) (if b then [] else e.user ∷ [])) written are.user).0 in
        let seconds : seconds_at (pos 1000) (pos e.time) ≡ e.time = omega arith in
        rw (written, seconds, named-at table e.user user, tags-same e.tags are.tags, body-same e.body are.roles) refl
  ]

  -- the index of its user is that of a text
  user-indexed : (e : EntityValue) → AreNamed options table e →
      is_user_index table (entry_coded options table e).info.user ≡ true
  user-indexed e are = elim (cases_Bool options.omitmetadata) [
    | inl omitted ↦ rw omitted (lt-ltb 0 (length table) (omega arith))
    | inr written ↦
        let user : IsNamed table e.user =
        (subst (λ (b : Bool). Each (IsNamed table) (if b then [] else e.user ∷ [])) written are.user).0 in
        rw written (lt-ltb (text_number table e.user) (length table) (named-below table e.user user))
  ]

  -- its time is a time
  time-fits : (e : EntityValue) → e.time < 2 ^ 32 →
      nat_lt last_second (seconds_at (pos 1000) (entry_coded options table e).info.timestamp) ≡ false
  time-fits e time = elim (cases_Bool options.omitmetadata) [
    | inl omitted ↦ rw omitted refl
    | inr written ↦
        let seconds : seconds_at (pos 1000) (pos e.time) ≡ e.time = omega arith in
        rw (written, seconds) (le-ltb last_second e.time (omega (arith, time)))
  ]

  -- it is there
  is-visible : (e : EntityValue) → (entry_coded options table e).info.visible ≡ true
  is-visible e = elim (cases_Bool options.omitmetadata) [
    | inl omitted ↦ rw omitted refl
    | inr written ↦ rw written refl
  ]

  -- it is light
  weight-fits : (e : EntityValue) → weight_of e ≤ greatest_weight →
      nat_lt greatest_weight (weight_of (entity_back options e)) ≡ false
  weight-fits e light =
      let user : length (user_back options e.user) ≤ length e.user =
      cond_both options.omitmetadata [] e.user (λ text. length text ≤ length e.user) (λ _. omega arith)
      (λ _. omega arith) in
      le-ltb greatest_weight (weight_of (entity_back options e))
      (omega (arith, light, user, back-weight options e.body))

  -- nothing is wrong with its entry
  entry-good : (e : EntityValue) → IsWritableEntity e → AreNamed options table e →
      entry_fault setting (entry_coded options table e) ≡ None
  unfolding entry_fault
  entry-good e kept are =
      let some = recursion_from_All (λ t. t.key ≢ []) e.tags kept.entity.named in
      let entry = entry_coded options table e in
      let indexed : has_indexes table entry ≡ true =
      and_from (list_all (is_tag_index table) entry.tags && is_user_index table entry.info.user)
      (has_body_indexes table entry.body)
      (and_from (list_all (is_tag_index table) entry.tags) (is_user_index table entry.info.user)
      (tags-indexed e.tags are.tags) (user-indexed e are)) (body-indexed e.body are.roles) in
      let placed : body_fits (entry_body setting entry.body) ≡ true =
      ap body_fits (body-same e.body are.roles) ∙ back-fits options e.body kept.entity.in_range in
      let light : nat_lt greatest_weight (weight_of (entry_entity setting entry)) ≡ false =
      ap (λ entity. nat_lt greatest_weight (weight_of entity)) (entity-same e kept.time are)
      ∙ weight-fits e kept.entity.light in
      faultless (has_indexes table entry) (list_any (has_empty_key table) entry.tags)
      (body_fits (entry_body setting entry.body))
      (nat_lt last_second (seconds_at (pos 1000) entry.info.timestamp)) entry.info.visible
      (nat_lt greatest_weight (weight_of (entry_entity setting entry))) indexed (keys-some e.tags are.tags some) placed
      (time-fits e kept.time) (is-visible e) light

  -- nothing is wrong with the entries of a run
  run-good : (run : List EntityValue) → Each IsWritableEntity run → Each (AreNamed options table) run →
      entries_fault setting (map (entry_coded options table) run) ≡ None
  run-good [] kept are = refl
  run-good (e ∷ run) kept are = rw (entry-good e kept.0 are.0) (run-good run kept.1 are.1)

  -- and they are the items that come back
  run-same : (run : List EntityValue) → Each IsWritableEntity run → Each (AreNamed options table) run →
      map (entry_item setting) (map (entry_coded options table) run) ≡ map (item_back options) run
  run-same [] kept are = refl
  run-same (e ∷ run) kept are =
      let more = map (entry_item setting) (map (entry_coded options table) run) in
      ap (λ entity. record { act = Keep; entity = entity } ∷ more)
      (entity-same e kept.0.time are.0)
      ∙ ap (λ more. item_back options e ∷ more) (run-same run kept.1 are.1)

  -- the items of entries of a run, where nothing is wrong
  pub run-items : (run : List EntityValue) → Each IsWritableEntity run → Each (AreNamed options table) run →
      entries_said setting (map (entry_coded options table) run) ≡ Ok (map (item_back options) run)
  run-items run kept are =
      rw (run-good run kept are) (ap Ok (run-same run kept are))
