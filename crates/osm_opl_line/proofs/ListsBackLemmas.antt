-- What is written of tags, refs and members says them again.
use Rattle.std.proofs.Common.{◌≡◌, ℕ, ℤ, ◌+◌, ◌<◌, ◌≤◌, List, [], ◌∷◌, ◌++◌, length, get_or, drop, Some, Result, Bool, true, false, arith, refl, subst, append_assoc}
use Rattle.std.specs.Prelude.{◌==◌, ◌≢◌, All, Ok, map, FitsSigned}
use Rattle.std.specs.Fmt.{signed_decimal}
use Rattle.std.specs.Int.{w64}
use Rattle.std.specs.List.{AllByRecursion, join_with_byte, position_or_len, before_first, after_first, list_any}
use Rattle.std.specs.Str.{IsUtf8}
use Rattle.std.proofs.lemmas.Bool.{lt-ltb, ne_eqb, cond_both, or_right}
use Rattle.std.proofs.lemmas.Int.{ints}
use Rattle.std.proofs.lemmas.List.{length-append, length_push, take_at, drop_at}
use Rattle.std.proofs.lemmas.List.Elements.{All-cons, All-append, All-head, All-tail, All-weaker, recursion_from_All}
use Rattle.osm_entity.specs.declared.kind.Kind.{Kind}
use Rattle.osm_entity.specs.declared.kind.Kind.TheVariants.{Node, Way, Relation}
use Rattle.osm_entity.specs.declared.parts.Member.{Member}
use Rattle.osm_entity.specs.declared.parts.Tag.{Tag}
use Rattle.osm_entity.specs.declared.verdict.Cause.{Cause}
use Rattle.osm_text.specs.Escapes.{escaped, escaped_byte, hex_escape, is_reserved}
use Rattle.osm_opl_line.specs.Contents.{parts_of, all_in, tag_in, ref_in, member_in, kind_by, is_equals, is_at_sign}
use Rattle.osm_entity.specs.Writable.{IsTagText, IsMemberText}
use Rattle.osm_opl_line.specs.Writing.{kind_letter, tag_text, ref_text, member_text}
use Rattle.osm_opl_line.proofs.ContentsBackLemmas.{WholeBack, EscapedBack, text_in-escaped}
use Rattle.osm_opl_line.proofs.EscapedTextLemmas.{IsEscapedByte, escaped-escaped, escaped-utf8}
use Rattle.osm_opl_line.proofs.JoinedLemmas.{HasNone, joined-all, joined-utf8, parts_of-joined}
use Rattle.osm_opl_line.proofs.PlainTextLemmas.{IsNumeric, signed_decimal-numeric, utf8-low}

-- what is written of an element says it again, is UTF-8, and stands between commas in a line
pub record ReadsBack {T : Type 0} (says : List ℕ → Result T Cause) (text : T → List ℕ) (element : T) : Type 0 where
  pub back : says (text element) ≡ Ok element
  pub some : 0 < length (text element)
  pub no_comma : HasNone (λ b. b == 44) (text element)
  pub visible : All (λ b. 32 < b) (text element)
  pub utf8 : IsUtf8 (text element)

-- the written elements say the elements
all_in-map : {T : Type 0} (says : List ℕ → Result T Cause) (text : T → List ℕ) (elements : List T) →
    AllByRecursion (ReadsBack says text) elements → all_in says (map text elements) ≡ Ok elements
all_in-map says text [] each = refl
all_in-map says text (element ∷ elements) each =
    rw (each.0.back, all_in-map says text elements each.1) refl

-- a fact of each element is one of each written element
map-all : {T : Type 0} (P : T → Type 0) (Q : List ℕ → Type 0) (text : T → List ℕ) →
    ((element : T) → P element → Q (text element)) → (elements : List T) → AllByRecursion P elements →
    AllByRecursion Q (map text elements)
map-all P Q text so [] each = tt
map-all P Q text so (element ∷ elements) each = (so element each.0, map-all P Q text so elements each.1)

-- a written list says its elements again, is UTF-8, and stands within a line's piece
pub record ListReadsBack {T : Type 0} (says : List ℕ → Result T Cause) (text : T → List ℕ) (elements : List T)
    : Type 0 where
  pub back : all_in says (parts_of (join_with_byte 44 (map text elements))) ≡ Ok elements
  pub visible : All (λ b. 32 < b) (join_with_byte 44 (map text elements))
  pub utf8 : IsUtf8 (join_with_byte 44 (map text elements))

-- elements that read back, joined by commas
list-joined : {T : Type 0} (says : List ℕ → Result T Cause) (text : T → List ℕ) (elements : List T) →
    AllByRecursion (ReadsBack says text) elements → ListReadsBack says text elements
list-joined says text elements each =
    let R = ReadsBack says text in
    let some = map-all R (λ part. 0 < length part) text (λ element reads. reads.some) elements each in
    let none = map-all R (HasNone (λ b. b == 44)) text (λ element reads. reads.no_comma) elements each in
    let visible = map-all R (All (λ b. 32 < b)) text (λ element reads. reads.visible) elements each in
    let utf8 = map-all R IsUtf8 text (λ element reads. reads.utf8) elements each in
    record {
      back = rw (parts_of-joined (map text elements) some none) (all_in-map says text elements each);
      visible = joined-all (λ b. 32 < b) 44 (map text elements) (omega arith) visible;
      utf8 = joined-utf8 44 (map text elements) (omega arith) utf8;
    }

-- the first byte that passes stands after those that don't
position-past : (test : ℕ → Bool) (head : List ℕ) (b : ℕ) (rest : List ℕ) → HasNone test head → test b ≡ true →
    position_or_len test (head ++ b ∷ rest) ≡ length head
position-past test [] b rest none passes = rw passes refl
position-past test (c ∷ cs) b rest none passes =
    rw (
      All-head (λ c. test c ≡ false) c cs none,
      position-past test cs b rest (All-tail (λ c. test c ≡ false) c cs none) passes,
    ) (omega arith)

-- what stands before and after that byte
before-past : (test : ℕ → Bool) (head : List ℕ) (b : ℕ) (rest : List ℕ) → HasNone test head → test b ≡ true →
    before_first test (head ++ b ∷ rest) ≡ head
before-past test head b rest none passes =
    rw (position-past test head b rest none passes) (take_at head (b ∷ rest) (length head) refl)

after-past : (test : ℕ → Bool) (head : List ℕ) (b : ℕ) (rest : List ℕ) → HasNone test head → test b ≡ true →
    after_first test (head ++ b ∷ rest) ≡ rest
after-past test head b rest none passes =
    rw (position-past test head b rest none passes)
    (subst (λ bytes. drop (length head + 1) bytes ≡ rest) (append_assoc head (b ∷ []) rest)
    (drop_at (head ++ b ∷ []) rest (length head + 1) (length_push head b)))

-- the written form of a byte is not empty
escaped_byte-nonempty : (b : ℕ) → 0 < length (escaped_byte b)
escaped_byte-nonempty b =
    cond_both (is_reserved b) (hex_escape b) (b ∷ []) (λ text. 0 < length text) (λ _. omega arith) (λ _. omega arith)

-- nor is that of a text that isn't
escaped-nonempty : (text : List ℕ) → text ≢ [] → 0 < length (escaped text)
escaped-nonempty [] some = absurd (some refl)
escaped-nonempty (b ∷ text) some =
    omega (arith, escaped_byte-nonempty b, length-append (escaped_byte b) (escaped text))

-- a tag is its key and its value again
tag_in-tag_text : EscapedBack → (tag : Tag) → tag.key ≢ [] → tag_in (tag_text tag) ≡ Ok tag
tag_in-tag_text escaped_back tag named =
    let none : HasNone is_equals (escaped tag.key) =
    All-weaker IsEscapedByte (λ b. is_equals b ≡ false) (λ b is. ne_eqb b 61 is.no_equals) (escaped tag.key)
    (escaped-escaped tag.key) in
    let place = position-past is_equals (escaped tag.key) 61 (escaped tag.value) none refl in
    let before = before-past is_equals (escaped tag.key) 61 (escaped tag.value) none refl in
    let after = after-past is_equals (escaped tag.key) 61 (escaped tag.value) none refl in
    let some = lt-ltb 0 (length (escaped tag.key)) (escaped-nonempty tag.key named) in
    let within = lt-ltb (length (escaped tag.key)) (length (tag_text tag))
    (omega (arith, length-append (escaped tag.key) (61 ∷ escaped tag.value))) in
    rw (
      before,
      after,
      place,
      some,
      within,
      text_in-escaped escaped_back tag.key,
      text_in-escaped escaped_back tag.value,
    ) refl

-- a written tag
tag-reads_back : EscapedBack → (tag : Tag) → tag.key ≢ [] → IsTagText tag → ReadsBack tag_in tag_text tag
tag-reads_back escaped_back tag named texts =
    let key = escaped-escaped tag.key in
    let value = escaped-escaped tag.value in
    let all : (P : ℕ → Type 0) → ((b : ℕ) → IsEscapedByte b → P b) → P 61 → All P (tag_text tag) =
    λ P so here. All-append P (escaped tag.key) (61 ∷ escaped tag.value)
    (All-weaker IsEscapedByte P so (escaped tag.key) key)
    (All-cons P 61 (escaped tag.value) here (All-weaker IsEscapedByte P so (escaped tag.value) value)) in
    record {
      back = tag_in-tag_text escaped_back tag named;
      some = omega (arith, length-append (escaped tag.key) (61 ∷ escaped tag.value));
      no_comma = all (λ b. (b == 44) ≡ false) (λ b is. ne_eqb b 44 is.no_comma) refl;
      visible = all (λ b. 32 < b) (λ b is. is.visible) (omega arith);
      utf8 = joined-utf8 61 (escaped tag.key ∷ escaped tag.value ∷ []) (omega arith)
          (escaped-utf8 tag.key texts.key, (escaped-utf8 tag.value texts.value, tt));
    }

-- written tags
pub tags-read_back : EscapedBack → (tags : List Tag) → All (λ tag. tag.key ≢ []) tags → All IsTagText tags →
    ListReadsBack tag_in tag_text tags
tags-read_back escaped_back tags named texts =
    let both : All (ReadsBack tag_in tag_text) tags =
    λ k d below. tag-reads_back escaped_back (get_or tags k d) (named k d below) (texts k d below) in
    list-joined tag_in tag_text tags (recursion_from_All (ReadsBack tag_in tag_text) tags both)

-- an id's text is UTF-8, and stands between commas and before an @
id-all : (P : ℕ → Type 0) → ((b : ℕ) → IsNumeric b → P b) → (id : ℤ) → FitsSigned w64 id →
    All P (signed_decimal id)
id-all P so id fits =
    All-weaker IsNumeric P so (signed_decimal id) (signed_decimal-numeric id (omega (arith, ints)))

-- a written ref
ref-reads_back : WholeBack → (id : ℤ) → FitsSigned w64 id → ReadsBack ref_in ref_text id
ref-reads_back whole_back id fits =
    let all : (P : ℕ → Type 0) → ((b : ℕ) → IsNumeric b → P b) → P 110 → All P (ref_text id) =
    λ P so here. All-cons P 110 (signed_decimal id) here (id-all P so id fits) in
    record {
      back = rw (whole_back id fits) refl;
      some = omega arith;
      no_comma = all (λ b. (b == 44) ≡ false) (λ b is. ne_eqb b 44 (omega (arith, is))) refl;
      visible = all (λ b. 32 < b) (λ b is. omega (arith, is)) (omega arith);
      utf8 = utf8-low (ref_text id) (all (λ b. b < 128) (λ b is. omega (arith, is)) (omega arith));
    }

-- written refs
pub refs-read_back : WholeBack → (refs : List ℤ) → All (λ id. FitsSigned w64 id) refs →
    ListReadsBack ref_in ref_text refs
refs-read_back whole_back refs fit =
    let each : All (ReadsBack ref_in ref_text) refs =
    λ k d below. ref-reads_back whole_back (get_or refs k d) (fit k d below) in
    list-joined ref_in ref_text refs (recursion_from_All (ReadsBack ref_in ref_text) refs each)

-- a kind's letter says it again
pub kind_by-kind_letter : (kind : Kind) → kind_by (kind_letter kind) ≡ Some kind
kind_by-kind_letter Node = refl
kind_by-kind_letter Way = refl
kind_by-kind_letter Relation = refl

-- a kind's letter is a small letter
pub kind_letter-small : (kind : Kind) → (97 ≤ kind_letter kind) × (kind_letter kind ≤ 122)
kind_letter-small Node = (omega arith, omega arith)
kind_letter-small Way = (omega arith, omega arith)
kind_letter-small Relation = (omega arith, omega arith)

-- an @ after a number is found
any-past : (test : ℕ → Bool) (head : List ℕ) (b : ℕ) (rest : List ℕ) → test b ≡ true →
    list_any test (head ++ b ∷ rest) ≡ true
any-past test [] b rest passes = rw passes refl
any-past test (c ∷ cs) b rest passes =
    or_right (test c) (list_any test (cs ++ b ∷ rest)) (any-past test cs b rest passes)

-- a member is its kind, its id and its role again
member_in-member_text : WholeBack → EscapedBack → (member : Member) → FitsSigned w64 member.id →
    member_in (member_text member) ≡ Ok member
member_in-member_text whole_back escaped_back member fits =
    let none : HasNone is_at_sign (signed_decimal member.id) =
    id-all (λ b. is_at_sign b ≡ false) (λ b is. ne_eqb b 64 (omega (arith, is))) member.id fits in
    let before = before-past is_at_sign (signed_decimal member.id) 64 (escaped member.role) none refl in
    let after = after-past is_at_sign (signed_decimal member.id) 64 (escaped member.role) none refl in
    let found = any-past is_at_sign (signed_decimal member.id) 64 (escaped member.role) refl in
    rw (
      found,
      before,
      after,
      kind_by-kind_letter member.kind,
      whole_back member.id fits,
      text_in-escaped escaped_back member.role,
    ) refl

-- a written member
member-reads_back : WholeBack → EscapedBack → (member : Member) → IsMemberText member →
    ReadsBack member_in member_text member
member-reads_back whole_back escaped_back member texts =
    let letter = kind_letter-small member.kind in
    let all : (P : ℕ → Type 0) → ((b : ℕ) → IsNumeric b → P b) → ((b : ℕ) → IsEscapedByte b → P b) → P 64 →
    P (kind_letter member.kind) → All P (member_text member) =
    λ P numeric escapes at first. All-cons P (kind_letter member.kind)
    (signed_decimal member.id ++ 64 ∷ escaped member.role) first
    (All-append P (signed_decimal member.id) (64 ∷ escaped member.role) (id-all P numeric member.id texts.id)
    (All-cons P 64 (escaped member.role) at
    (All-weaker IsEscapedByte P escapes (escaped member.role) (escaped-escaped member.role)))) in
    record {
      back = member_in-member_text whole_back escaped_back member texts.id;
      some = omega arith;
      no_comma = all (λ b. (b == 44) ≡ false) (λ b is. ne_eqb b 44 (omega (arith, is)))
          (λ b is. ne_eqb b 44 is.no_comma) refl (ne_eqb (kind_letter member.kind) 44 (omega arith));
      visible = all (λ b. 32 < b) (λ b is. omega (arith, is)) (λ b is. is.visible) (omega arith) (omega arith);
      utf8 = joined-utf8 64 ((kind_letter member.kind ∷ signed_decimal member.id) ∷ escaped member.role ∷ [])
          (omega arith) (
            utf8-low (kind_letter member.kind ∷ signed_decimal member.id)
                (All-cons (λ b. b < 128) (kind_letter member.kind) (signed_decimal member.id) (omega arith)
                (id-all (λ b. b < 128) (λ b is. omega (arith, is)) member.id texts.id)),
            (escaped-utf8 member.role texts.role, tt),
          );
    }

-- written members
pub members-read_back : WholeBack → EscapedBack → (members : List Member) → All IsMemberText members →
    ListReadsBack member_in member_text members
members-read_back whole_back escaped_back members texts =
    let each : All (ReadsBack member_in member_text) members =
    λ k d below. member-reads_back whole_back escaped_back (get_or members k d) (texts k d below) in
    list-joined member_in member_text members (recursion_from_All (ReadsBack member_in member_text) members each)
