-- The fields of an item's pieces have no fault, and say the item.
use Rattle.std.proofs.Common.{◌≡◌, ℕ, ℤ, ◌*◌, ◌≤◌, List, [], ◌∷◌, Option, Some, None, Bool, true, nat_abs, arith, refl}
use Rattle.std.specs.Prelude.{Ok, map, nat_le}
use Rattle.std.specs.List.{join_with_byte}
use Rattle.std.proofs.lemmas.Bool.{and_parts, leb-true}
use Rattle.osm_entity.specs.Entities.{body_fits, degree}
use Rattle.osm_entity.specs.Items.{kind_of}
use Rattle.osm_entity.specs.declared.kind.Flow.{Flow}
use Rattle.osm_entity.specs.declared.kind.Kind.{Kind}
use Rattle.osm_entity.specs.declared.parts.Body.{Body}
use Rattle.osm_entity.specs.declared.parts.Body.TheVariants.{Node, Way, Relation}
use Rattle.osm_entity.specs.declared.parts.Tag.{Tag}
use Rattle.osm_text.specs.Numbers.{nano_text}
use Rattle.osm_opl_line.specs.Contents.{count_in, changeset_in, deleted_in, time_in, text_in, degrees_in, tags_in}
use Rattle.osm_opl_line.specs.Fields.{Fields, fields_from, fault_among}
use Rattle.osm_opl_line.specs.Item.{body_of}
use Rattle.osm_entity.specs.Writable.{IsBodyText}
use Rattle.osm_opl_line.specs.Writing.{ref_text, member_text}
use Rattle.osm_opl_line.proofs.ContentsBackLemmas.{WholeBack, NanoBack, EscapedBack, degrees_in-nano_text}
use Rattle.osm_opl_line.proofs.LinePiecesLemmas.{body_parts}
use Rattle.osm_opl_line.proofs.ListsBackLemmas.{refs-read_back, members-read_back}

-- the content of a body's x, if it has one
abbrev pub x_of : Body → Option (List ℕ)
x_of (Node (Some p)) = Some (nano_text p.lon)
x_of (Node None) = Some []
x_of (Way refs) = None
x_of (Relation members) = None

-- the content of a body's y
abbrev pub y_of : Body → Option (List ℕ)
y_of (Node (Some p)) = Some (nano_text p.lat)
y_of (Node None) = Some []
y_of (Way refs) = None
y_of (Relation members) = None

-- the content of a body's list
abbrev pub list_of : Body → Option (List ℕ)
list_of (Node place) = None
list_of (Way refs) = Some (join_with_byte 44 (map ref_text refs))
list_of (Relation members) = Some (join_with_byte 44 (map member_text members))

-- the fields of these contents and a body
abbrev pub fields_with : Flow → ℤ → List ℕ → List ℕ → List ℕ → List ℕ → List ℕ → List ℕ → List ℕ → Body → Fields
fields_with flow id v d c t i u tags body = record {
  flow = flow;
  kind = kind_of body;
  id = id;
  v = Some v;
  d = Some d;
  c = Some c;
  t = Some t;
  i = Some i;
  u = Some u;
  tags = Some tags;
  x = x_of body;
  y = y_of body;
  list = list_of body;
}

-- the pieces of these contents and a body
abbrev pub parts_with : List ℕ → List ℕ → List ℕ → List ℕ → List ℕ → List ℕ → List ℕ → Body → List (List ℕ)
parts_with v d c t i u tags body =
    (118 ∷ v) ∷ (100 ∷ d) ∷ (99 ∷ c) ∷ (116 ∷ t) ∷ (105 ∷ i) ∷ (117 ∷ u) ∷ (84 ∷ tags) ∷ body_parts body

-- the pieces have those fields
pub fields_from-parts : (flow : Flow) (id : ℤ) (v d c t i u tags : List ℕ) (body : Body) →
    fields_from flow (kind_of body) id (parts_with v d c t i u tags body) ≡ fields_with flow id v d c t i u tags body
fields_from-parts flow id v d c t i u tags (Node (Some p)) = refl
fields_from-parts flow id v d c t i u tags (Node None) = refl
fields_from-parts flow id v d c t i u tags (Way refs) = refl
fields_from-parts flow id v d c t i u tags (Relation members) = refl

-- degrees within bounds read back
pub degrees-back : NanoBack → (most : ℕ) (z : ℤ) → most ≤ 180 → nat_le (nat_abs z) (most * degree) ≡ true →
    degrees_in most (nano_text z) ≡ Ok (Some z)
degrees-back nano_back most z bound fits =
    let within = leb-true (nat_abs z) (most * degree) fits in
    degrees_in-nano_text nano_back most z within (omega arith)

-- the letters of the fields that all kinds have, the last first
abbrev pub common_letters : List ℕ
common_letters = 84 ∷ 117 ∷ 105 ∷ 116 ∷ 99 ∷ 100 ∷ 118 ∷ []

-- the fields of a body have no fault
pub body_parts-no_fault : WholeBack → NanoBack → EscapedBack → (body : Body) → body_fits body ≡ true → IsBodyText body →
    fault_among (kind_of body) common_letters (body_parts body) ≡ None
body_parts-no_fault whole_back nano_back escaped_back (Node (Some p)) fits texts =
    let parts = and_parts (nat_le (nat_abs p.lon) (180 * degree)) (nat_le (nat_abs p.lat) (90 * degree)) fits in
    rw (degrees-back nano_back 180 p.lon (omega arith) parts.0, degrees-back nano_back 90 p.lat (omega arith) parts.1)
    refl
body_parts-no_fault whole_back nano_back escaped_back (Node None) fits texts = refl
body_parts-no_fault whole_back nano_back escaped_back (Way refs) fits texts =
    rw (refs-read_back whole_back refs texts).back refl
body_parts-no_fault whole_back nano_back escaped_back (Relation members) fits texts =
    rw (members-read_back whole_back escaped_back members texts).back refl

-- the fields that all kinds have, without a fault, leave those of the body
pub common-no_fault : (kind : Kind) (v d c t i u tags : List ℕ) (own : List (List ℕ)) (version changeset time uid : ℕ)
    (deleted : Bool) (user : List ℕ) (list : List Tag) →
    count_in v ≡ Ok version → deleted_in d ≡ Ok deleted → changeset_in c ≡ Ok changeset → time_in t ≡ Ok time →
    count_in i ≡ Ok uid → text_in u ≡ Ok user → tags_in tags ≡ Ok list →
    fault_among kind [] ((118 ∷ v) ∷ (100 ∷ d) ∷ (99 ∷ c) ∷ (116 ∷ t) ∷ (105 ∷ i) ∷ (117 ∷ u) ∷ (84 ∷ tags) ∷ own)
    ≡ fault_among kind common_letters own
common-no_fault kind v d c t i u tags own version changeset time uid deleted user list says_v says_d says_c says_t
    says_i says_u says_tags =
    rw (says_v, says_d, says_c, says_t, says_i, says_u, says_tags) refl

-- the body of these fields is that body
pub body_of-fields : WholeBack → NanoBack → EscapedBack → (flow : Flow) (id : ℤ) (v d c t i u tags : List ℕ)
    (body : Body) → body_fits body ≡ true → IsBodyText body →
    body_of (kind_of body) (fields_with flow id v d c t i u tags body) ≡ body
body_of-fields whole_back nano_back escaped_back flow id v d c t i u tags (Node (Some p)) fits texts =
    let parts = and_parts (nat_le (nat_abs p.lon) (180 * degree)) (nat_le (nat_abs p.lat) (90 * degree)) fits in
    rw (degrees-back nano_back 180 p.lon (omega arith) parts.0, degrees-back nano_back 90 p.lat (omega arith) parts.1)
    refl
body_of-fields whole_back nano_back escaped_back flow id v d c t i u tags (Node None) fits texts = refl
body_of-fields whole_back nano_back escaped_back flow id v d c t i u tags (Way refs) fits texts =
    rw (refs-read_back whole_back refs texts).back refl
body_of-fields whole_back nano_back escaped_back flow id v d c t i u tags (Relation members) fits texts =
    rw (members-read_back whole_back escaped_back members texts).back refl
