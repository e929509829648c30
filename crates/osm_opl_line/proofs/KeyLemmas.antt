-- The keys of tags that were read from a line aren't empty.
use Rattle.std.proofs.Common.{◌≡◌, ◌≢◌, ◌<◌, ◌∷◌, ◌++◌, [], ℕ, Bool, true, false, List, length, Option, None, Some, Result, Ok, Err, refl, arith, ap, sym, subst, length-append}
use Rattle.std.specs.Prelude.{All, if◌then◌else◌, ◌==◌, ◌&&◌, nat_lt}
use Rattle.std.specs.Char.{encode_utf8}
use Rattle.std.specs.Fmt.{◌++?◌}
use Rattle.std.specs.List.{after_first, before_first, slice_split}
use Rattle.std.specs.Option.{option_map, ok_or}
use Rattle.std.specs.Result.{result_unwrap_or}
use Rattle.std.proofs.lemmas.Bool.{and_parts, ltb-true}
use Rattle.std.proofs.lemmas.List.{length-take-le}
use Rattle.std.proofs.lemmas.List.Elements.{All-nil, All-cons}
use Rattle.std.proofs.lemmas.List.Splits.{join_with_byte-slice_split}
use Rattle.std.proofs.lemmas.Str.{length-encode, len_utf8_bounds}
use Rattle.osm_entity.specs.declared.parts.Tag.{Tag}
use Rattle.osm_entity.specs.declared.verdict.Cause.{Cause}
use Rattle.osm_entity.specs.declared.verdict.Cause.TheVariants.{BadEscape, BadField}
use Rattle.osm_text.specs.Escapes.{escape_code, unescaped, unescaped_parts}
use Rattle.osm_opl_line.specs.Contents.{all_in, before_all, position_of_equals, is_equals, parts_of, tag_in, tag_of, tags_in, text_in}
use Rattle.osm_opl_line.specs.Item.{value_of}

-- a text with a character in it isn't empty
char-not_empty : (plain : List ℕ) (code : Option ℕ) (more : Option (List ℕ)) →
    Some plain ++? option_map encode_utf8 code ++? more ≡ Some [] → ⊥
char-not_empty plain None more is = cc
char-not_empty plain (Some c) None is = cc
char-not_empty plain (Some c) (Some text) is =
    let joined : plain ++ (encode_utf8 c ++ text) ≡ [] = cc in
    omega (
      arith,
      ap length joined,
      length-append plain (encode_utf8 c ++ text),
      length-append (encode_utf8 c) text,
      length-encode c,
      (len_utf8_bounds c).0,
    )

-- parts that say the empty text are one, and empty
unescaped_parts-empty : (parts : List (List ℕ)) → unescaped_parts parts ≡ Some [] → parts ≡ [] ∷ []
unescaped_parts-empty [] is = cc
unescaped_parts-empty (plain ∷ []) is = cc
unescaped_parts-empty (plain ∷ code ∷ parts) is =
    absurd (char-not_empty plain (escape_code code) (unescaped_parts parts) is)

-- only the empty text says the empty text
unescaped-empty : (bytes : List ℕ) → unescaped bytes ≡ Some [] → bytes ≡ []
unescaped-empty bytes is =
    sym (rw (unescaped_parts-empty (slice_split (λ b. b == 37) bytes) is) at (join_with_byte-slice_split 37 bytes))

-- a text without a cause is there
ok_or-ok : (said : Option (List ℕ)) (text : List ℕ) → ok_or said BadEscape ≡ Ok text → said ≡ Some text
ok_or-ok None text is = cc
ok_or-ok (Some bytes) text is = cc

-- the key of a tag of two texts is the first of them
tag_of-key : (key value : Result (List ℕ) Cause) (tag : Tag) → tag_of key value ≡ Ok tag → key ≡ Ok tag.key
tag_of-key (Err cause) value tag is = cc
tag_of-key (Ok key) (Err cause) tag is = cc
tag_of-key (Ok key) (Ok value) tag is =
    let same : record { key = key; value = value } ≡ tag = cc in
    ap (λ t. Ok t.key) same

-- a tag that a test let through passed it
cond-ok : (test : Bool) (said : Result Tag Cause) (tag : Tag) → (if test then said else Err BadField) ≡ Ok tag →
    (test ≡ true) × (said ≡ Ok tag)
cond-ok true said tag is = (refl, is)
cond-ok false said tag is = cc

-- the key of a tag that was read isn't empty
tag_in-named : (part : List ℕ) (tag : Tag) → tag_in part ≡ Ok tag → tag.key ≢ []
tag_in-named part tag is empty =
    let parts = cond-ok (nat_lt 0 (position_of_equals part) && nat_lt (position_of_equals part) (length part))
    (tag_of (text_in (before_first is_equals part)) (text_in (after_first is_equals part))) tag is in
    let tests = and_parts (nat_lt 0 (position_of_equals part)) (nat_lt (position_of_equals part) (length part))
    parts.0 in
    let key = tag_of-key (text_in (before_first is_equals part)) (text_in (after_first is_equals part)) tag parts.1 in
    let none : before_first is_equals part ≡ [] =
    unescaped-empty (before_first is_equals part)
    (ok_or-ok (unescaped (before_first is_equals part)) [] (rw empty at key)) in
    let from : 0 < position_of_equals part = ltb-true 0 (position_of_equals part) tests.0 in
    let to : position_of_equals part < length part = ltb-true (position_of_equals part) (length part) tests.1 in
    omega (arith, ap length none, length-take-le (position_of_equals part) part (omega arith))

-- values that were read are a first one and the rest
before_all-ok : {T : Type 0} (said : Result T Cause) (more : Result (List T) Cause) (values : List T) →
    before_all said more ≡ Ok values →
    (value : T) × (rest : List T) × (said ≡ Ok value) × (more ≡ Ok rest) × (values ≡ value ∷ rest)
before_all-ok (Err cause) more values is = cc
before_all-ok (Ok value) (Err cause) values is = cc
before_all-ok (Ok value) (Ok rest) values is = (value, rest, refl, refl, cc)

-- what holds of each value that was read holds of all of them
all_in-All : {T : Type 0} (says : List ℕ → Result T Cause) (P : T → Type 0) →
    ((part : List ℕ) (value : T) → says part ≡ Ok value → P value) → (parts : List (List ℕ)) (values : List T) →
    all_in says parts ≡ Ok values → All P values
all_in-All says P each [] values is =
    let none : [] ≡ values = cc in
    subst (λ v. All P v) none (All-nil P)
all_in-All says P each (part ∷ parts) values is =
    let read = before_all-ok (says part) (all_in says parts) values is in
    rw read.4
    (All-cons P read.0 read.1 (each part read.0 read.2) (all_in-All says P each parts read.1 read.3))

-- the keys of the tags of a field aren't empty
pub tags-named : (field : Option (List ℕ)) → All (λ t. t.key ≢ []) (value_of [] tags_in field)
tags-named None = All-nil (λ t. t.key ≢ [])
tags-named (Some content) =
    of_result (tags_in content) (all_in-All tag_in (λ t. t.key ≢ []) tag_in-named (parts_of content))
  where
    of_result : (said : Result (List Tag) Cause) → ((tags : List Tag) → said ≡ Ok tags → All (λ t. t.key ≢ []) tags) →
        All (λ t. t.key ≢ []) (result_unwrap_or said [])
    of_result (Ok tags) each = each tags refl
    of_result (Err cause) each = All-nil (λ t. t.key ≢ [])
