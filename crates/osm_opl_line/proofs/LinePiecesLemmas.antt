-- The pieces of an item's line: they are its fields in order, and keep what a line has to keep.
use Rattle.std.proofs.Common.{◌≡◌, ℕ, ℤ, zero, suc, ◌*◌, ◌^◌, ◌<◌, ◌≤◌, List, [], ◌∷◌, ◌++◌, length, Some, None, true, false, nat_abs, arith, refl, append_assoc}
use Rattle.std.specs.Prelude.{◌==◌, All, map, decimal, codes, nat_le}
use Rattle.std.specs.Fmt.{signed_decimal}
use Rattle.std.specs.List.{AllByRecursion, join_with_byte, list_any}
use Rattle.std.specs.Str.{IsUtf8}
use Rattle.std.proofs.lemmas.Bool.{and_parts, leb-true}
use Rattle.std.proofs.lemmas.Bool.Decides.{nat_tests}
use Rattle.std.proofs.lemmas.Int.{ints}
use Rattle.std.proofs.lemmas.List.Elements.{All-nil, All-cons, All-weaker}
use Rattle.std.proofs.lemmas.List.Folds.{list_any_none}
use Rattle.std.proofs.lemmas.Str.{IsUtf8-nil, IsUtf8-append}
use Rattle.osm_entity.specs.Entities.{body_fits, degree}
use Rattle.osm_entity.specs.Items.{ItemValue, kind_of}
use Rattle.osm_entity.specs.declared.item.Act.{Act}
use Rattle.osm_entity.specs.declared.item.Act.TheVariants.{Keep, Create, Modify, Delete}
use Rattle.osm_entity.specs.declared.kind.Flow.{Flow}
use Rattle.osm_entity.specs.declared.parts.Body.{Body}
use Rattle.osm_entity.specs.declared.parts.Body.TheVariants.{Node, Way, Relation}
use Rattle.osm_text.specs.Escapes.{escaped}
use Rattle.osm_text.specs.Numbers.{nano_text}
use Rattle.osm_text.specs.Times.{time_text}
use Rattle.osm_opl_line.specs.Fields.{is_blank, pieces}
use Rattle.osm_opl_line.specs.Line.{is_control}
use Rattle.osm_entity.specs.Writable.{IsBodyText, IsWritable}
use Rattle.osm_opl_line.specs.Writing.{kind_letter, act_text, time_field, tag_text, ref_text, member_text, body_text, line_text}
use Rattle.osm_opl_line.proofs.ContentsBackLemmas.{WholeBack, TimeBack, EscapedBack}
use Rattle.osm_opl_line.proofs.EscapedTextLemmas.{IsEscapedByte, escaped-escaped, escaped-utf8}
use Rattle.osm_opl_line.proofs.ListsBackLemmas.{tags-read_back, refs-read_back, members-read_back, kind_letter-small}
use Rattle.osm_opl_line.proofs.JoinedLemmas.{HasNone, slice_split-joined, filter-nonempty, joined-all, joined-utf8}
use Rattle.osm_opl_line.proofs.PlainTextLemmas.{IsNumeric, IsOfTime, decimal-numeric, signed_decimal-numeric, nano_text-numeric, time_text-of_time, utf8-low}

-- the pieces that only a kind has
abbrev pub body_parts : Body → List (List ℕ)
body_parts (Node (Some p)) = (120 ∷ nano_text p.lon) ∷ (121 ∷ nano_text p.lat) ∷ []
body_parts (Node None) = (120 ∷ []) ∷ (121 ∷ []) ∷ []
body_parts (Way refs) = (78 ∷ join_with_byte 44 (map ref_text refs)) ∷ []
body_parts (Relation members) = (77 ∷ join_with_byte 44 (map member_text members)) ∷ []

-- the first piece: a kind and an id
abbrev pub head_part : ItemValue → List ℕ
head_part item = kind_letter (kind_of item.entity.body) ∷ signed_decimal item.entity.id

-- the pieces after it
abbrev pub field_parts : ItemValue → List (List ℕ)
field_parts item =
    (118 ∷ decimal item.entity.version) ∷ (100 ∷ act_text item.act) ∷ (99 ∷ decimal item.entity.changeset)
    ∷ (116 ∷ time_field item.entity.time) ∷ (105 ∷ decimal item.entity.uid) ∷ (117 ∷ escaped item.entity.user)
    ∷ (84 ∷ join_with_byte 44 (map tag_text item.entity.tags)) ∷ body_parts item.entity.body

-- the line of an item, without its newline
abbrev pub item_line : ItemValue → List ℕ
item_line item = join_with_byte 32 (head_part item ∷ field_parts item)

-- two fields of degrees, joined by a space
place-joined : (tags lon lat : List ℕ) →
    tags ++ (codes " x" ++ lon ++ codes " y" ++ lat) ≡ tags ++ 32 ∷ ((120 ∷ lon) ++ 32 ∷ (121 ∷ lat))
place-joined tags lon lat = simp append_assoc

-- the last pieces are joined by spaces
body_text-joined : (tags : List ℕ) (body : Body) →
    tags ++ body_text body ≡ join_with_byte 32 (tags ∷ body_parts body)
body_text-joined tags (Node (Some p)) = place-joined tags (nano_text p.lon) (nano_text p.lat)
body_text-joined tags (Node None) = refl
body_text-joined tags (Way refs) = refl
body_text-joined tags (Relation members) = refl

-- the fields that all kinds have, joined by spaces
fields-joined : (letter : ℕ) (id v d c t i u tags body : List ℕ) →
    letter ∷ id ++ codes " v" ++ v ++ codes " d" ++ d ++ codes " c" ++ c ++ codes " t" ++ t ++ codes " i" ++ i
    ++ codes " u" ++ u ++ codes " T" ++ tags ++ body ++ codes "\n"
    ≡ ((letter ∷ id) ++ 32 ∷ ((118 ∷ v) ++ 32 ∷ ((100 ∷ d) ++ 32 ∷ ((99 ∷ c) ++ 32 ∷ ((116 ∷ t) ++ 32 ∷
    ((105 ∷ i) ++ 32 ∷ ((117 ∷ u) ++ 32 ∷ ((84 ∷ tags) ++ body)))))))) ++ 10 ∷ []
fields-joined letter id v d c t i u tags body = simp append_assoc

-- an item's line is its pieces, joined by spaces, and a newline
pub line_text-joined : (item : ItemValue) → line_text item ≡ item_line item ++ 10 ∷ []
line_text-joined item =
    let tags = join_with_byte 44 (map tag_text item.entity.tags) in
    rw (← body_text-joined (84 ∷ tags) item.entity.body)
    (fields-joined (kind_letter (kind_of item.entity.body)) (signed_decimal item.entity.id)
    (decimal item.entity.version) (act_text item.act) (decimal item.entity.changeset) (time_field item.entity.time)
    (decimal item.entity.uid) (escaped item.entity.user) tags (body_text item.entity.body))

-- a content is UTF-8, and has no space, tab or control byte
pub record IsContent (content : List ℕ) : Type 0 where
  pub visible : All (λ b. 32 < b) content
  pub utf8 : IsUtf8 content

-- a piece is a content with at least one byte
pub record IsPiece (piece : List ℕ) : Type 0 where
  pub some : 0 < length piece
  pub visible : All (λ b. 32 < b) piece
  pub utf8 : IsUtf8 piece

-- a letter and a content are a piece
letter-piece : (letter : ℕ) (content : List ℕ) → 32 < letter → letter < 128 → IsContent content →
    IsPiece (letter ∷ content)
letter-piece letter content visible ascii is = record {
  some = omega arith;
  visible = All-cons (λ b. 32 < b) letter content visible is.visible;
  utf8 = IsUtf8-append (letter ∷ []) content
      (utf8-low (letter ∷ []) (All-cons (λ b. b < 128) letter [] ascii (All-nil (λ b. b < 128)))) is.utf8;
}

-- nothing is a content
nil-content : IsContent []
nil-content = record { visible = All-nil (λ b. 32 < b); utf8 = IsUtf8-nil }

-- bytes of times are a content, and so are those of numbers
time-content : (bytes : List ℕ) → All IsOfTime bytes → IsContent bytes
time-content bytes each = record {
  visible = All-weaker IsOfTime (λ b. 32 < b) (λ b is. omega (arith, is)) bytes each;
  utf8 = utf8-low bytes (All-weaker IsOfTime (λ b. b < 128) (λ b is. omega (arith, is)) bytes each);
}

numeric-content : (bytes : List ℕ) → All IsNumeric bytes → IsContent bytes
numeric-content bytes each =
    time-content bytes
    (All-weaker IsNumeric IsOfTime (λ b is. (omega (arith, is), omega (arith, is))) bytes each)

-- V or D is a content
act_text-content : (act : Act) → IsContent (act_text act)
act_text-content act =
    let one : (letter : ℕ) → 45 ≤ letter → letter ≤ 90 → IsContent (letter ∷ []) =
    λ letter low high. time-content (letter ∷ []) (All-cons IsOfTime letter [] (low, high) (All-nil IsOfTime)) in
    elim act as (λ a. IsContent (act_text a)) [
      | Keep ↦ one 86 (omega arith) (omega arith)
      | Create ↦ one 86 (omega arith) (omega arith)
      | Modify ↦ one 86 (omega arith) (omega arith)
      | Delete ↦ one 68 (omega arith) (omega arith)
    ]

-- a time's field is a content
time_field-content : TimeBack → (t : ℕ) → t < 2 ^ 32 → IsContent (time_field t)
time_field-content time_back zero small = nil-content
time_field-content time_back (suc t) small =
    time-content (time_text (suc t)) (time_text-of_time (suc t) (time_back (suc t) small))

-- an escaped text is a content
escaped-content : (text : List ℕ) → IsUtf8 text → IsContent (escaped text)
escaped-content text utf8 = record {
  visible = All-weaker IsEscapedByte (λ b. 32 < b) (λ b is. is.visible) (escaped text) (escaped-escaped text);
  utf8 = escaped-utf8 text utf8;
}

-- degrees within bounds have a content
nano_text-content : (most : ℕ) (z : ℤ) → most ≤ 180 → nat_le (nat_abs z) (most * degree) ≡ true →
    IsContent (nano_text z)
nano_text-content most z bound fits =
    numeric-content (nano_text z) (nano_text-numeric z (omega (arith, leb-true (nat_abs z) (most * degree) fits)))

-- the pieces of a kind
body_parts-pieces : WholeBack → EscapedBack → (body : Body) → body_fits body ≡ true → IsBodyText body →
    AllByRecursion IsPiece (body_parts body)
body_parts-pieces whole_back escaped_back (Node (Some p)) fits texts =
    let parts = and_parts (nat_le (nat_abs p.lon) (180 * degree)) (nat_le (nat_abs p.lat) (90 * degree)) fits in
    let lon = nano_text-content 180 p.lon (omega arith) parts.0 in
    let lat = nano_text-content 90 p.lat (omega arith) parts.1 in
    let x = letter-piece 120 (nano_text p.lon) (omega arith) (omega arith) lon in
    let y = letter-piece 121 (nano_text p.lat) (omega arith) (omega arith) lat in
    (x, (y, tt))
body_parts-pieces whole_back escaped_back (Node None) fits texts =
    let x = letter-piece 120 [] (omega arith) (omega arith) nil-content in
    let y = letter-piece 121 [] (omega arith) (omega arith) nil-content in
    (x, (y, tt))
body_parts-pieces whole_back escaped_back (Way refs) fits texts =
    let list = refs-read_back whole_back refs texts in
    (letter-piece 78 _ (omega arith) (omega arith) (record { visible = list.visible; utf8 = list.utf8 }), tt)
body_parts-pieces whole_back escaped_back (Relation members) fits texts =
    let list = members-read_back whole_back escaped_back members texts in
    (letter-piece 77 _ (omega arith) (omega arith) (record { visible = list.visible; utf8 = list.utf8 }), tt)

-- a number that isn't negative is a content
decimal-content : (n : ℕ) → n < 2 ^ 63 → IsContent (decimal n)
decimal-content n small = numeric-content (decimal n) (decimal-numeric n (omega arith))

-- all pieces of a line
pub item-pieces : WholeBack → TimeBack → EscapedBack → (flow : Flow) (item : ItemValue) → IsWritable flow item →
    AllByRecursion IsPiece (head_part item ∷ field_parts item)
item-pieces whole_back time_back escaped_back flow item writable =
    let e = item.entity in
    let kind = kind_letter-small (kind_of e.body) in
    let id = numeric-content (signed_decimal e.id)
    (signed_decimal-numeric e.id (omega (arith, ints, writable.id))) in
    let head : IsPiece (head_part item) =
    letter-piece (kind_letter (kind_of e.body)) (signed_decimal e.id) (omega (arith, kind)) (omega (arith, kind)) id in
    let version = letter-piece 118 (decimal e.version) (omega arith) (omega arith)
    (decimal-content e.version (omega (arith, writable.entity.version))) in
    let deleted = letter-piece 100 (act_text item.act) (omega arith) (omega arith) (act_text-content item.act) in
    let changeset = letter-piece 99 (decimal e.changeset) (omega arith) (omega arith)
    (decimal-content e.changeset writable.entity.changeset) in
    let time = letter-piece 116 (time_field e.time) (omega arith) (omega arith)
    (time_field-content time_back e.time writable.time) in
    let uid = letter-piece 105 (decimal e.uid) (omega arith) (omega arith)
    (decimal-content e.uid (omega (arith, writable.entity.uid))) in
    let user = letter-piece 117 (escaped e.user) (omega arith) (omega arith)
    (escaped-content e.user writable.user) in
    let list = tags-read_back escaped_back e.tags writable.entity.named writable.tags in
    let tags = letter-piece 84 (join_with_byte 44 (map tag_text e.tags)) (omega arith) (omega arith)
    (record { visible = list.visible; utf8 = list.utf8 }) in
    let own = body_parts-pieces whole_back escaped_back e.body writable.entity.in_range writable.body in
    (head, (version, (deleted, (changeset, (time, (uid, (user, (tags, own))))))))

-- what each piece keeps, each keeps of it
pieces-weaker : (P : List ℕ → Type 0) → ((piece : List ℕ) → IsPiece piece → P piece) → (parts : List (List ℕ)) →
    AllByRecursion IsPiece parts → AllByRecursion P parts
pieces-weaker P so [] each = tt
pieces-weaker P so (piece ∷ parts) each = (so piece each.0, pieces-weaker P so parts each.1)

-- pieces joined by spaces are the pieces again
pub pieces-joined : (piece : List ℕ) (parts : List (List ℕ)) → AllByRecursion IsPiece (piece ∷ parts) →
    pieces (join_with_byte 32 (piece ∷ parts)) ≡ piece ∷ parts
pieces-joined piece parts each =
    let some = pieces-weaker (λ p. 0 < length p) (λ p is. is.some) (piece ∷ parts) each in
    let blank : (b : ℕ) → 32 < b → is_blank b ≡ false = λ b visible. grind (arith, nat_tests) in
    let none = pieces-weaker (HasNone is_blank)
    (λ p is. All-weaker (λ b. 32 < b) (λ b. is_blank b ≡ false) blank p is.visible) (piece ∷ parts) each in
    rw (slice_split-joined is_blank 32 piece parts refl none) (filter-nonempty (piece ∷ parts) some)

-- pieces joined by spaces are UTF-8
pub pieces-utf8 : (parts : List (List ℕ)) → AllByRecursion IsPiece parts → IsUtf8 (join_with_byte 32 parts)
pieces-utf8 parts each =
    joined-utf8 32 parts (omega arith) (pieces-weaker IsUtf8 (λ p is. is.utf8) parts each)

-- pieces joined by spaces have no newline and no control byte
pieces-high : (parts : List (List ℕ)) → AllByRecursion IsPiece parts → All (λ b. 32 ≤ b) (join_with_byte 32 parts)
pieces-high parts each =
    joined-all (λ b. 32 ≤ b) 32 parts (omega arith)
    (pieces-weaker (All (λ b. 32 ≤ b))
    (λ p is. All-weaker (λ b. 32 < b) (λ b. 32 ≤ b) (λ b visible. omega (arith, visible)) p is.visible) parts each)

pub pieces-no_control : (parts : List (List ℕ)) → AllByRecursion IsPiece parts →
    list_any is_control (join_with_byte 32 parts) ≡ false
pieces-no_control parts each =
    let control : (b : ℕ) → 32 ≤ b → is_control b ≡ false = λ b high. grind (arith, nat_tests) in
    list_any_none is_control (join_with_byte 32 parts)
    (All-weaker (λ b. 32 ≤ b) (λ b. is_control b ≡ false) control (join_with_byte 32 parts) (pieces-high parts each))

pub pieces-no_newline : (parts : List (List ℕ)) → AllByRecursion IsPiece parts →
    HasNone (λ b. b == 10) (join_with_byte 32 parts)
pieces-no_newline parts each =
    let newline : (b : ℕ) → 32 ≤ b → (b == 10) ≡ false = λ b high. grind (arith, nat_tests) in
    All-weaker (λ b. 32 ≤ b) (λ b. (b == 10) ≡ false) newline (join_with_byte 32 parts) (pieces-high parts each)
