-- How string tables grow, and what stays as they do.
use Rattle.std.proofs.Common.{◌≡◌, ℕ, ◌+◌, ◌≤◌, List, [], ◌∷◌, ◌++◌, ◌<◌, length, map, drop, get_or, take, true, false, refl, sym, ap, ◌∙◌, cond, subst, arith, append_assoc, append-nil, inl, inr}
use Rattle.std.specs.Prelude.{Bool, ◌||◌, not, bytes_eq, sum_by}
use Rattle.std.specs.Cmp.Lexicographic.{bytes_decides}
use Rattle.std.specs.List.{AllByRecursion, flat_map, list_any}
use Rattle.std.proofs.lemmas.Bool.{cond_both, false≢true, or_cases, or_left, or_right}
use Rattle.std.proofs.lemmas.List.{length-append}
use Rattle.std.proofs.lemmas.List.Elements.{filter-append}
use Rattle.std.proofs.lemmas.List.Sums.{fold-append, prefix_len-le-length, sum_by-append, sum_by-cons}
use Rattle.osm_entity.specs.Entities.{EntityValue, body_weight, member_weight, tag_weight, weight_of}
use Rattle.osm_entity.specs.Prefixes.{IsPrefix}
use Rattle.osm_entity.specs.declared.parts.Body.{Body}
use Rattle.osm_entity.specs.declared.parts.Body.TheVariants.{Node, Way, Relation}
use Rattle.osm_entity.specs.declared.parts.Member.{Member}
use Rattle.osm_entity.specs.declared.parts.Tag.{Tag}
use Rattle.osm_block_write.specs.declared.options.PbfOptions.{PbfOptions}
use Rattle.osm_block_write.proofs.ListLemmas.{begins-onward, drop-next}
use Rattle.osm_block_write.specs.Tables.{first_uses, text_number, role_texts, string_table, tag_texts, texts_of, user_texts, with_text, with_texts, without}

-- whether a text is in a table
abbrev pub is_in : List (List ℕ) → List ℕ → Bool
is_in table text = list_any (bytes_eq text) table

-- a text equals itself
pub bytes_eq-self : (text : List ℕ) → bytes_eq text text ≡ true
bytes_eq-self text = (bytes_decides text text).1 refl

-- two texts are equal in either order
pub bytes_eq-turned : (a b : List ℕ) → bytes_eq a b ≡ false → bytes_eq b a ≡ false
bytes_eq-turned a b differ =
    cond_both (bytes_eq b a) true false (λ _. bytes_eq b a ≡ false)
    (λ is. absurd (false≢true (sym differ ∙ (bytes_decides a b).1 (sym ((bytes_decides b a).0 is))))) (λ not. not)

-- a test more that is one of the others
or_again : (a l : Bool) → (a || l) ≡ (a || (a || l))
or_again true l = refl
or_again false l = refl

-- a test between two others
or_between : (a b w l : Bool) → (a || w) ≡ (a || l) → (a || (b || w)) ≡ (a || (b || l))
or_between true b w l same = refl
or_between false b w l same = ap (λ x. b || x) same

-- where a text is taken out of those behind it, the table holds the same texts; by whether the next one is it
is_in-next : (text first next : List ℕ) (more : List (List ℕ)) (same : Bool) → bytes_eq first next ≡ same →
    is_in (first ∷ without first more) text ≡ is_in (first ∷ more) text →
    is_in (first ∷ without first (next ∷ more)) text ≡ is_in (first ∷ next ∷ more) text
is_in-next text first next more true is rest =
    let other : bytes_eq text first ≡ bytes_eq text next = ap (bytes_eq text) ((bytes_decides first next).0 is) in
    rw is
    (rest ∙ or_again (bytes_eq text first) (is_in more text)
    ∙ ap (λ b. bytes_eq text first || (b || is_in more text)) other)
is_in-next text first next more false is rest =
    rw is
    (or_between (bytes_eq text first) (bytes_eq text next) (is_in (without first more) text) (is_in more text) rest)

-- where a text is taken out of those behind it, the table holds the same texts
is_in-without : (text first : List ℕ) (more : List (List ℕ)) →
    is_in (first ∷ without first more) text ≡ is_in (first ∷ more) text
is_in-without text first [] = refl
is_in-without text first (next ∷ more) =
    is_in-next text first next more (bytes_eq first next) refl (is_in-without text first more)

-- a table that holds a text is the same with it
pub with_text-known : (table : List (List ℕ)) (text : List ℕ) → is_in table text ≡ true → with_text table text ≡ table
with_text-known table text is = rw is refl

-- a table that lacks a text has it last
pub with_text-new : (table : List (List ℕ)) (text : List ℕ) → is_in table text ≡ false →
    with_text table text ≡ table ++ text ∷ []
with_text-new table text is = rw is refl

-- a text more behind a first one; by whether it is the first, and whether it is among the others
first-with_text : (first text : List ℕ) (more : List (List ℕ)) (same known : Bool) →
    bytes_eq text first ≡ same → is_in more text ≡ known →
    first ∷ without first (with_text more text) ≡ with_text (first ∷ without first more) text
first-with_text first text more true true same known =
    rw (known) (sym (with_text-known (first ∷ without first more) text (is_in-without text first more ∙ rw same refl)))
first-with_text first text more false true same known =
    rw (known)
    (sym (with_text-known (first ∷ without first more) text (is_in-without text first more ∙ rw (same, known) refl)))
first-with_text first text more true false same known =
    let own : bytes_eq first text ≡ true =
    (bytes_decides first text).1 (sym ((bytes_decides text first).0 same)) in
    ap (λ t. first ∷ without first t) (with_text-new more text known)
    ∙ ap (λ t. first ∷ t)
    (filter-append (λ t. not (bytes_eq first t)) more (text ∷ []) ∙ rw own (append-nil (without first more)))
    ∙ sym (with_text-known (first ∷ without first more) text (is_in-without text first more ∙ rw same refl))
first-with_text first text more false false same known =
    let other : bytes_eq first text ≡ false = bytes_eq-turned text first same in
    ap (λ t. first ∷ without first t) (with_text-new more text known)
    ∙ ap (λ t. first ∷ t) (filter-append (λ t. not (bytes_eq first t)) more (text ∷ []) ∙ rw other refl)
    ∙ sym (with_text-new (first ∷ without first more) text (is_in-without text first more ∙ rw (same, known) refl))

-- the first uses of texts and one more are those of the texts, with it
first_uses-push : (texts : List (List ℕ)) (text : List ℕ) →
    first_uses (texts ++ text ∷ []) ≡ with_text (first_uses texts) text
first_uses-push [] text = refl
first_uses-push (first ∷ more) text =
    ap (λ t. first ∷ without first t) (first_uses-push more text)
    ∙ first-with_text first text (first_uses more) (bytes_eq text first) (is_in (first_uses more) text) refl refl

-- the first uses of texts and others are those of the texts, with the others
first_uses-append : (texts others : List (List ℕ)) →
    first_uses (texts ++ others) ≡ with_texts (first_uses texts) others
first_uses-append texts [] = ap first_uses (append-nil texts)
first_uses-append texts (text ∷ others) =
    ap first_uses (sym (append_assoc texts (text ∷ []) others))
    ∙ first_uses-append (texts ++ text ∷ []) others
    ∙ ap (λ t. with_texts t others) (first_uses-push texts text)

-- the string table of texts and others is that of the texts, with the others
pub string_table-append : (texts others : List (List ℕ)) →
    string_table (texts ++ others) ≡ with_texts (string_table texts) others
string_table-append texts others = first_uses-append ([] ∷ texts) others

-- texts and others in a table
pub with_texts-append : (table texts others : List (List ℕ)) →
    with_texts table (texts ++ others) ≡ with_texts (with_texts table texts) others
with_texts-append table texts others = fold-append with_text table texts others

-- a table with a text more begins with what it was
pub with_text-begins : (table : List (List ℕ)) (text : List ℕ) → IsPrefix table (with_text table text)
with_text-begins table text =
    cond_both (is_in table text) table (table ++ text ∷ []) (λ new. IsPrefix table new)
    (λ _. record { rest = []; joined = sym (append-nil table) }) (λ _. record { rest = text ∷ []; joined = refl })

-- a table with texts more begins with what it was
pub with_texts-begins : (table texts : List (List ℕ)) → IsPrefix table (with_texts table texts)
with_texts-begins table [] = record { rest = []; joined = sym (append-nil table) }
with_texts-begins table (text ∷ texts) =
    begins-onward table (with_text table text) (with_texts (with_text table text) texts) (with_text-begins table text)
    (with_texts-begins (with_text table text) texts)

-- a text that is in a table is in every one that begins with it
is_in-append : (table more : List (List ℕ)) (text : List ℕ) → is_in table text ≡ true →
    is_in (table ++ more) text ≡ true
is_in-append [] more text is = absurd (false≢true is)
is_in-append (first ∷ table) more text is =
    elim (or_cases (bytes_eq text first) (is_in table text) is) as (λ _. is_in (first ∷ table ++ more) text ≡ true) [
      | inl same ↦ or_left (bytes_eq text first) (is_in (table ++ more) text) same
      | inr rest ↦ or_right (bytes_eq text first) (is_in (table ++ more) text) (is_in-append table more text rest)
    ]

-- a text at the end of a table is in it
is_in-last : (table : List (List ℕ)) (text : List ℕ) → is_in (table ++ text ∷ []) text ≡ true
is_in-last [] text = rw (bytes_eq-self text) refl
is_in-last (first ∷ table) text =
    or_right (bytes_eq text first) (is_in (table ++ text ∷ []) text) (is_in-last table text)

-- a text is in a table with it
pub is_in-with_text : (table : List (List ℕ)) (text : List ℕ) → is_in (with_text table text) text ≡ true
is_in-with_text table text =
    cond_both (is_in table text) table (table ++ text ∷ []) (λ new. is_in new text ≡ true) (λ is. is)
    (λ _. is_in-last table text)

-- texts are in a table
abbrev pub AreIn : List (List ℕ) → List (List ℕ) → Type 0
AreIn table texts = AllByRecursion (λ t. is_in table t ≡ true) texts

-- a text that is in a table is in every one that begins with it
pub is_in-begins : (table new : List (List ℕ)) (text : List ℕ) → IsPrefix table new → is_in table text ≡ true →
    is_in new text ≡ true
is_in-begins table new text begins is =
    subst (λ t. is_in t text ≡ true) (sym begins.joined) (is_in-append table begins.rest text is)

-- texts are in a table with them
pub AreIn-with_texts : (table texts : List (List ℕ)) → AreIn (with_texts table texts) texts
AreIn-with_texts table [] = tt
AreIn-with_texts table (text ∷ texts) =
    let one = with_text table text in (
      is_in-begins one (with_texts one texts) text (with_texts-begins one texts) (is_in-with_text table text),
      AreIn-with_texts one texts,
    )

-- texts that are in a table are in every one that begins with it
pub AreIn-begins : (table new texts : List (List ℕ)) → IsPrefix table new → AreIn table texts → AreIn new texts
AreIn-begins table new [] begins are = tt
AreIn-begins table new (text ∷ texts) begins are =
    (is_in-begins table new text begins are.0, AreIn-begins table new texts begins are.1)

-- of texts that are in a table, the first and the last are
pub AreIn-parts : (table first last : List (List ℕ)) → AreIn table (first ++ last) →
    AreIn table first × AreIn table last
AreIn-parts table [] last are = (tt, are)
AreIn-parts table (text ∷ first) last are =
    let parts = AreIn-parts table first last are.1 in ((are.0, parts.0), parts.1)

-- texts and others that are in a table are in it together
pub AreIn-append : (table first last : List (List ℕ)) → AreIn table first → AreIn table last →
    AreIn table (first ++ last)
AreIn-append table [] last first_are last_are = last_are
AreIn-append table (text ∷ first) last first_are last_are =
    (first_are.0, AreIn-append table first last first_are.1 last_are)

-- the number of a text that is in a table stays as the table grows
text_number-append : (table more : List (List ℕ)) (text : List ℕ) → is_in table text ≡ true →
    text_number (table ++ more) text ≡ text_number table text
text_number-append [] more text is = absurd (false≢true is)
text_number-append (first ∷ table) more text is =
    cond_both (bytes_eq text first) true false
    (λ _. text_number (first ∷ table ++ more) text ≡ text_number (first ∷ table) text) (λ same. rw same refl)
    (λ not. rw not (ap (λ n. 1 + n) (text_number-append table more text (sym (rw not refl) ∙ is))))

-- the number of a text that is in a table is its number in every one that begins with it
pub text_number-begins : (table new : List (List ℕ)) (text : List ℕ) → IsPrefix table new → is_in table text ≡ true →
    text_number new text ≡ text_number table text
text_number-begins table new text begins is =
    ap (λ t. text_number t text) begins.joined ∙ text_number-append table begins.rest text is

-- a table that begins with the empty text does so with a text more
headed-with_text : (table : List (List ℕ)) (text : List ℕ) → take 1 table ≡ [] ∷ [] →
    take 1 (with_text table text) ≡ [] ∷ []
headed-with_text [] text headed = cc
headed-with_text (first ∷ table) text headed =
    cond_both (is_in (first ∷ table) text) (first ∷ table) (first ∷ table ++ text ∷ []) (λ new. take 1 new ≡ [] ∷ [])
    (λ _. headed) (λ _. headed)

-- a table that begins with the empty text does so with texts more
pub headed-with_texts : (table texts : List (List ℕ)) → take 1 table ≡ [] ∷ [] →
    take 1 (with_texts table texts) ≡ [] ∷ []
headed-with_texts table [] headed = headed
headed-with_texts table (text ∷ texts) headed =
    headed-with_texts (with_text table text) texts (headed-with_text table text headed)

-- a text that isn't empty adds one text at most
length-with_text : (table : List (List ℕ)) (text : List ℕ) → take 1 table ≡ [] ∷ [] →
    length (with_text table text) ≤ length table + length text
length-with_text [] text headed = absurd cc
length-with_text (first ∷ table) [] headed =
    let own : first ≡ [] = cc in
    rw (with_text-known (first ∷ table) [] (rw own refl)) (omega arith)
length-with_text (first ∷ table) (b ∷ text) headed =
    cond_both (is_in (first ∷ table) (b ∷ text)) (first ∷ table) (first ∷ table ++ (b ∷ text) ∷ [])
    (λ new. length new ≤ length (first ∷ table) + length (b ∷ text)) (λ _. omega arith)
    (λ _. omega (arith, length-append (first ∷ table) ((b ∷ text) ∷ [])))

-- a table has no more texts than those that it gets have bytes
pub length-with_texts : (table texts : List (List ℕ)) → take 1 table ≡ [] ∷ [] →
    length (with_texts table texts) ≤ length table + sum_by length texts
length-with_texts table [] headed = omega arith
length-with_texts table (text ∷ texts) headed = omega (
  arith,
  length-with_texts (with_text table text) texts (headed-with_text table text headed),
  length-with_text table text headed,
  sum_by-cons {X = List ℕ} length text texts,
)

-- the bytes of the texts of tags
tags-bytes : (tags : List Tag) → sum_by length (flat_map tag_texts tags) ≤ sum_by tag_weight tags
tags-bytes [] = omega arith
tags-bytes (tag ∷ tags) = omega (
  arith,
  tags-bytes tags,
  sum_by-cons tag_weight tag tags,
  sum_by-cons {X = List ℕ} length tag.key (tag.value ∷ flat_map tag_texts tags),
  sum_by-cons {X = List ℕ} length tag.value (flat_map tag_texts tags),
)

-- the bytes of the roles of members
roles-bytes : (members : List Member) → sum_by length (map (λ m. m.role) members) ≤ sum_by member_weight members
roles-bytes [] = omega arith
roles-bytes (member ∷ members) = omega (
  arith,
  roles-bytes members,
  sum_by-cons member_weight member members,
  sum_by-cons {X = List ℕ} length member.role (map (λ m. m.role) members),
)

-- the bytes of the texts that only a relation has
body-bytes : (body : Body) → sum_by length (role_texts body) ≤ body_weight body
body-bytes (Node place) = omega arith
body-bytes (Way refs) = omega arith
body-bytes (Relation members) = roles-bytes members

-- the bytes of a user that may be written
user-bytes : (options : PbfOptions) (e : EntityValue) → sum_by length (user_texts options e) ≤ length e.user
user-bytes options e =
    cond_both options.omitmetadata [] (e.user ∷ []) (λ texts. sum_by length texts ≤ length e.user) (λ _. omega arith)
    (λ _. omega (arith, sum_by-cons {X = List ℕ} length e.user []))

-- the texts of an entity have no more bytes than it weighs
pub texts-bytes : (options : PbfOptions) (e : EntityValue) → sum_by length (texts_of options e) ≤ weight_of e
texts-bytes options e = omega (
  arith,
  sum_by-append {X = List ℕ} length (user_texts options e ++ flat_map tag_texts e.tags) (role_texts e.body),
  sum_by-append {X = List ℕ} length (user_texts options e) (flat_map tag_texts e.tags),
  user-bytes options e,
  tags-bytes e.tags,
  body-bytes e.body,
)

-- the number of a text is no more than the table's length
pub text_number-within : (table : List (List ℕ)) (text : List ℕ) → text_number table text ≤ length table
text_number-within table text = prefix_len-le-length (λ t. not (bytes_eq text t)) table

-- a table with texts more, as it was made, begins with what it was
pub with_texts-begins_by : (table texts new : List (List ℕ)) → new ≡ with_texts table texts → IsPrefix table new
with_texts-begins_by table texts new is = subst (IsPrefix table) (sym is) (with_texts-begins table texts)

-- a tag more is taken: what the others make of the table is what all made of it
pub tags-next : (table one two total : List (List ℕ)) (tags : List Tag) (at : ℕ) (tag : Tag) → at < length tags →
    tag ≡ get_or tags at tag → one ≡ with_text table tag.key → two ≡ with_text one tag.value →
    with_texts table (flat_map tag_texts (drop at tags)) ≡ total →
    with_texts two (flat_map tag_texts (drop (at + 1) tags)) ≡ total
tags-next table one two total tags at tag within is key value known =
    rw (value, key)
    (ap (λ rest. with_texts table (flat_map tag_texts rest)) (sym (drop-next tags at tag within is)) ∙ known)

-- a table with a text more, as it was made, begins with what it was
pub with_text-begins_by : (table : List (List ℕ)) (text : List ℕ) (new : List (List ℕ)) →
    new ≡ with_text table text → IsPrefix table new
with_text-begins_by table text new is = subst (IsPrefix table) (sym is) (with_text-begins table text)

-- a text at the end of a table has the number that it had where it wasn't there
text_number-last : (table : List (List ℕ)) (text : List ℕ) →
    text_number (table ++ text ∷ []) text ≡ text_number table text
text_number-last [] text = rw (bytes_eq-self text) refl
text_number-last (first ∷ table) text =
    ap (λ n. cond (not (bytes_eq text first)) (1 + n) 0) (text_number-last table text)

-- a text has the number that it had before it was put into the table
pub text_number-with_text : (table : List (List ℕ)) (text : List ℕ) →
    text_number (with_text table text) text ≡ text_number table text
text_number-with_text table text =
    cond_both (is_in table text) table (table ++ text ∷ []) (λ new. text_number new text ≡ text_number table text)
    (λ _. refl) (λ _. text_number-last table text)
