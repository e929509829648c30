-- How long written texts are: a line of what an entity keeps is no longer than a line may be.
use Rattle.std.proofs.Common.{◌≡◌, ◌<◌, ◌≤◌, ◌+◌, ◌*◌, ◌/◌, ◌%◌, ◌^◌, ℕ, ℤ, suc, zero, List, [], ◌∷◌, ◌++◌, Bool, true, false, length, get_or, map, refl, arith, None, Some, inl, inr}
use Rattle.std.specs.Prelude.{All, FitsSigned, codes, decimal, IsTrue, nat_abs, nat_le, pos, negsuc, sum_by, ⊤}
use Rattle.std.specs.Fmt.{signed_decimal}
use Rattle.std.specs.Int.{w64}
use Rattle.std.specs.List.{join_with_byte}
use Rattle.std.proofs.lemmas.Bool.{and_parts, cases_lt, le-ltb, leb-true, ne_eqb}
use Rattle.std.proofs.lemmas.Bool.Decides.{nat_tests}
use Rattle.std.proofs.lemmas.Fmt.{hex_one_digit, hex_two_digits, length-decimal-le, length_signed_le}
use Rattle.std.proofs.lemmas.Int.{ints}
use Rattle.std.proofs.lemmas.List.{length-append, length-replicate, length-take}
use Rattle.std.proofs.lemmas.List.Sums.{sum_by-cons}
use Rattle.osm_entity.specs.Entities.{IsEntity, body_fits, body_weight, degree, member_weight, place_fits, tag_weight}
use Rattle.osm_entity.specs.Items.{ItemValue}
use Rattle.osm_entity.specs.declared.item.Act.{Act}
use Rattle.osm_entity.specs.declared.item.Act.TheVariants.{Keep, Create, Modify, Delete}
use Rattle.osm_entity.specs.declared.parts.Body.{Body}
use Rattle.osm_entity.specs.declared.parts.Body.TheVariants.{Node, Way, Relation}
use Rattle.osm_entity.specs.declared.parts.Member.{Member}
use Rattle.osm_entity.specs.declared.parts.Place.{Place}
use Rattle.osm_entity.specs.declared.parts.Tag.{Tag}
use Rattle.osm_text.specs.Escapes.{escaped, escaped_byte, hex_escape, is_reserved}
use Rattle.osm_text.specs.Numbers.{fraction_text, nano_text, nine_digits, trimmed}
use Rattle.osm_text.specs.Times.{time_text}
use Rattle.osm_opl_line.specs.Line.{longest_line}
use Rattle.osm_opl_line.specs.Writing.{act_text, body_text, line_text, member_text, place_text, ref_text, tag_text, time_field}

-- the escape of an ASCII character is at most four bytes
length-hex_escape-le : (b : ℕ) → b < 128 → length (hex_escape b) ≤ 4
length-hex_escape-le b ascii = elim (cases_lt b 16) [
  | inl low ↦ rw (hex_one_digit false b low) (omega arith)
  | inr high ↦ rw (hex_two_digits false b high (omega arith)) (omega arith)
]

-- a reserved byte is ASCII
reserved-ascii : (b : ℕ) → is_reserved b ≡ true → b < 128
reserved-ascii b reserved = grind (arith, nat_tests)

-- a byte is written in at most four
length-escaped_byte-le : (b : ℕ) (reserved : Bool) → is_reserved b ≡ reserved → length (escaped_byte b) ≤ 4
length-escaped_byte-le b true is = rw is (length-hex_escape-le b (reserved-ascii b is))
length-escaped_byte-le b false is = rw is (omega arith)

-- an escaped text is at most four times as long as the text
pub length-escaped-le : (text : List ℕ) → length (escaped text) ≤ 4 * length text
length-escaped-le [] = omega arith
length-escaped-le (b ∷ text) =
    let one = length-escaped_byte-le b (is_reserved b) refl in
    let more = length-escaped-le text in
    rw length-append (omega arith)

-- a number below 2^64 has at most twenty digits
pub length-decimal-twenty : (n : ℕ) → n < 2 ^ 64 → length (decimal n) ≤ 20
length-decimal-twenty n small = length-decimal-le 20 n (omega arith) (omega arith) small

-- a signed number of 64 bits is written in at most twenty bytes
pub length-signed_decimal-le : (z : ℤ) → FitsSigned w64 z → length (signed_decimal z) ≤ 20
length-signed_decimal-le z fits =
    length_signed_le 19 z (omega (arith, ints, fits)) (omega (arith, ints, fits))

-- nine digits without the zeros at their end are at most nine
length-trimmed-le : (n : ℕ) → n < 10 ^ 9 → length (trimmed (nine_digits n)) ≤ 9
length-trimmed-le n small =
    let fits : length (decimal n) ≤ 9 = length-decimal-le 9 n (omega arith) small (omega arith) in
    let nine : length (nine_digits n) ≡ 9 = rw (length-append, length-replicate) (omega arith) in
    rw (length-take, nine) (omega arith)

-- what follows whole degrees is at most ten bytes
length-fraction_text-le : (n : ℕ) → n < 10 ^ 9 → length (fraction_text n) ≤ 10
length-fraction_text-le zero small = omega arith
length-fraction_text-le (suc n) small =
    let digits = length-trimmed-le (suc n) small in
    rw (ne_eqb (suc n) 0 (λ is. omega arith)) (omega arith)

-- nanodegrees up to 10^18 in size are written in at most 32 bytes
pub length-nano_text-le : (z : ℤ) → nat_abs z ≤ 10 ^ 18 → length (nano_text z) ≤ 32
length-nano_text-le (pos n) small =
    let degrees = length-decimal-twenty (n / 10 ^ 9) (omega arith) in
    let rest = length-fraction_text-le (n % 10 ^ 9) (omega arith) in
    rw (le-ltb n 0 (omega arith))
    (omega (arith, length-append (decimal (n / 10 ^ 9)) (fraction_text (n % 10 ^ 9))))
length-nano_text-le (negsuc n) small =
    let degrees = length-decimal-twenty (suc n / 10 ^ 9) (omega arith) in
    let rest = length-fraction_text-le (suc n % 10 ^ 9) (omega arith) in
    omega (arith, length-append (decimal (suc n / 10 ^ 9)) (fraction_text (suc n % 10 ^ 9)))

-- a time is twenty bytes
pub length-time_text : (seconds : ℕ) → length (time_text seconds) ≡ 20
unfolding time_text
length-time_text seconds = refl

-- a time, where it is known, is twenty bytes
length-time_field-le : (seconds : ℕ) → length (time_field seconds) ≤ 20
length-time_field-le zero = omega arith
length-time_field-le (suc seconds) = omega (arith, length-time_text (suc seconds))

-- parts with commas are at most four times as long as the sum of their weights, where each part and a comma are
length-joined-le : {T : Type 0} (text : T → List ℕ) (weight : T → ℕ) (parts : List T) →
    All (λ part. length (text part) + 1 ≤ 4 * weight part) parts →
    length (join_with_byte 44 (map text parts)) ≤ 4 * sum_by weight parts
length-joined-le text weight [] each = omega arith
length-joined-le text weight (x ∷ []) each =
    let one = each 0 x (omega arith) in
    rw (sum_by-cons weight x []) (omega arith)
length-joined-le text weight (x ∷ y ∷ parts) each =
    let one = each 0 x (omega arith) in
    let more = length-joined-le text weight (y ∷ parts) (λ k d below. each (suc k) d (omega arith)) in
    rw (length-append, sum_by-cons weight x (y ∷ parts)) (omega arith)

-- a tag and a comma are at most four times as long as what it weighs
length-tag_text-le : (t : Tag) → length (tag_text t) + 1 ≤ 4 * tag_weight t
length-tag_text-le t =
    let key = length-escaped-le t.key in
    let value = length-escaped-le t.value in
    rw length-append (omega arith)

-- a ref and a comma are at most 128 bytes
length-ref_text-le : (id : ℤ) → FitsSigned w64 id → length (ref_text id) + 1 ≤ 4 * 32
length-ref_text-le id fits = omega (arith, length-signed_decimal-le id fits)

-- a member and a comma are at most four times as long as what it weighs
length-member_text-le : (m : Member) → FitsSigned w64 m.id → length (member_text m) + 1 ≤ 4 * member_weight m
length-member_text-le m fits =
    let id = length-signed_decimal-le m.id fits in
    let role = length-escaped-le m.role in
    rw length-append (omega arith)

-- 32 for each is 32 times their number
sum_by-constant : (refs : List ℤ) → sum_by (λ id. 32) refs ≡ 32 * length refs
sum_by-constant [] = refl
sum_by-constant (id ∷ refs) = omega (arith, sum_by-cons (λ id. 32) id refs, sum_by-constant refs)

-- the refs and the members' ids of a body fit 64 bits
abbrev pub IdsFit : Body → Type 0
IdsFit (Node place) = ⊤
IdsFit (Way refs) = All (λ id. FitsSigned w64 id) refs
IdsFit (Relation members) = All (λ m. FitsSigned w64 m.id) members

-- four texts one after another are as long as all of them
length-four : (a b c d : List ℕ) → length (a ++ b ++ c ++ d) ≡ length a + length b + length c + length d
length-four a b c d = simp length-append

-- a place that fits is written in at most 68 bytes
length-place_text-le : (p : Place) → IsTrue (place_fits p) → length (place_text p) ≤ 68
length-place_text-le p within =
    let both = and_parts (nat_le (nat_abs p.lon) (180 * degree)) (nat_le (nat_abs p.lat) (90 * degree)) within in
    let lon_within = leb-true (nat_abs p.lon) (180 * degree) both.0 in
    let lat_within = leb-true (nat_abs p.lat) (90 * degree) both.1 in
    let lon = length-nano_text-le p.lon (omega arith) in
    let lat = length-nano_text-le p.lat (omega arith) in
    omega (arith, length-four (codes " x") (nano_text p.lon) (codes " y") (nano_text p.lat))

-- what a body adds to a line is at most 70 bytes and four times what it weighs
length-body_text-le : (body : Body) → IsTrue (body_fits body) → IdsFit body →
    length (body_text body) ≤ 70 + 4 * body_weight body
length-body_text-le (Node None) within fit = omega arith
length-body_text-le (Node (Some p)) within fit = omega (arith, length-place_text-le p within)
length-body_text-le (Way refs) within fit =
    let each : All (λ id. length (ref_text id) + 1 ≤ 4 * 32) refs =
    λ k d below. length-ref_text-le (get_or refs k d) (fit k d below) in
    let joined = length-joined-le ref_text (λ id. 32) refs each in
    omega (arith, joined, sum_by-constant refs)
length-body_text-le (Relation members) within fit =
    let each : All (λ m. length (member_text m) + 1 ≤ 4 * member_weight m) members =
    λ k d below. length-member_text-le (get_or members k d) (fit k d below) in
    let joined = length-joined-le member_text member_weight members each in
    omega (arith, joined)

-- what is done is said by one letter
length-act_text : (act : Act) → length (act_text act) ≡ 1
length-act_text Keep = refl
length-act_text Create = refl
length-act_text Modify = refl
length-act_text Delete = refl

-- the line of an item is no longer than a line may be
pub length-line_text-le : (item : ItemValue) → IsEntity item.entity → FitsSigned w64 item.entity.id →
    IdsFit item.entity.body → length (line_text item) ≤ longest_line
length-line_text-le item entity fits fit =
    let id = length-signed_decimal-le item.entity.id fits in
    let version = length-decimal-twenty item.entity.version (omega (arith, entity.version)) in
    let act = length-act_text item.act in
    let changeset = length-decimal-twenty item.entity.changeset (omega (arith, entity.changeset)) in
    let time = length-time_field-le item.entity.time in
    let uid = length-decimal-twenty item.entity.uid (omega (arith, entity.uid)) in
    let user = length-escaped-le item.entity.user in
    let tags = length-joined-le tag_text tag_weight item.entity.tags
    (λ k d below. length-tag_text-le (get_or item.entity.tags k d)) in
    let body = length-body_text-le item.entity.body entity.in_range fit in
    simp length-append (omega (arith, entity.light))
