-- Rows whose lists grow at their ends say what they said.
use Rattle.std.proofs.Common.{◌≡◌, ◌∙◌, ◌≤◌, ◌-◌, ◌+◌, ◌++◌, ◌∷◌, [], ℕ, ℤ, Bool, List, Some, length, take, drop, refl, sym, ap, subst, arith}
use Rattle.std.proofs.lemmas.List.{length-append, drop-append-le, take-append-le, take_all, length-drop, drop_at, map-append}
use Rattle.std.proofs.lemmas.List.Elements.{All-head, All-tail, All-nil, All-cons, All-push}
use Rattle.std.specs.Prelude.{All, ◌==◌, ◌&&◌}
use Rattle.osm_entity.specs.Prefixes.{IsPrefix}
use Rattle.osm_entity.proofs.PrefixLemmas.{prefix_itself}
use Rattle.osm_block_read.specs.Entries.{Entry, EntryBody}
use Rattle.osm_wire.specs.Entries.{repeated, singular}
use Rattle.osm_wire.specs.Messages.{FieldValue}
use Rattle.osm_block_read.specs.Plain.{entry_tags, entry_with, info, no_info}
use Rattle.osm_block_read.specs.declared.entry.EntryInfo.{EntryInfo}
use Rattle.osm_block_read.specs.Rows.{AreGrown, AreRowsIn, IsAdded, IsBodyIn, IsRowIn, IsSaidAdded, body_in, entries_in, entries_of, entry_in}
use Rattle.osm_block_read.specs.Spans.{IsPartAdded, IsSpanIn, part_in}
use Rattle.osm_block_read.specs.WayCodes.{entry_tagged}
use Rattle.osm_block_read.specs.declared.entry.EntryTag.{EntryTag}
use Rattle.osm_block_read.specs.declared.row.Lists.{Lists}
use Rattle.osm_block_read.specs.declared.row.Row.{Row}
use Rattle.osm_block_read.specs.declared.row.Rows.{Rows}
use Rattle.osm_block_read.specs.declared.row.RowBody.{RowBody}
use Rattle.osm_block_read.specs.declared.row.RowBody.TheVariants.{At as AtPlace, Along as AlongRefs, Having as HavingMembers}
use Rattle.osm_block_read.specs.declared.span.Span.{Span}

-- a span within a list is within what it grew to
pub span-grown : {T : Type 0} (xs ys : List T) (span : Span) → IsPrefix xs ys → IsSpanIn (length xs) span →
    IsSpanIn (length ys) span
span-grown xs ys span grown is = record {
  ordered = is.ordered;
  within = omega (arith, is.within, ap length grown.joined, length-append xs grown.rest);
}

-- and its part stays
pub part-grown : {T : Type 0} (xs ys : List T) (span : Span) → IsPrefix xs ys → IsSpanIn (length xs) span →
    part_in ys span ≡ part_in xs span
part-grown xs ys span grown is =
    let first : span.start ≤ length xs = omega (arith, is.ordered, is.within) in
    let last : span.end - span.start ≤ length (drop span.start xs) =
    omega (arith, is.ordered, is.within, length-drop span.start xs) in
    ap (λ list. part_in list span) grown.joined
    ∙ ap (take (span.end - span.start)) (drop-append-le span.start xs grown.rest first)
    ∙ take-append-le (span.end - span.start) (drop span.start xs) grown.rest last

-- the part that was added, and its span
pub part-added : {T : Type 0} (old new part : List T) (span : Span) → IsPartAdded old new part span →
    part_in new span ≡ part
part-added old new part span is =
    let long : length new ≡ length old + length part = ap length is.joined ∙ length-append old part in
    let size : span.end - span.start ≡ length part = omega (arith, is.start, is.end, long) in
    ap (λ list. part_in list span) is.joined
    ∙ ap (λ start. take (span.end - span.start) (drop start (old ++ part))) is.start
    ∙ ap (take (span.end - span.start)) (drop_at old part (length old) refl)
    ∙ take_all (span.end - span.start) part (omega (arith, size))

pub span-added : {T : Type 0} (old new part : List T) (span : Span) → IsPartAdded old new part span →
    IsSpanIn (length new) span
span-added old new part span is = record {
  ordered = omega (arith, is.start, is.end, ap length is.joined, length-append old part);
  within = omega (arith, is.end);
}

pub prefix-added : {T : Type 0} (old new part : List T) (span : Span) → IsPartAdded old new part span → IsPrefix old new
prefix-added old new part span is = record { rest = part; joined = is.joined }

-- what is proper to a kind stays as the lists grow
pub body-grown : (a b : Lists) (body : RowBody) → AreGrown a b → IsBodyIn a body → body_in b body ≡ body_in a body
body-grown a b (AtPlace lat lon) grown is = refl
body-grown a b (AlongRefs span) grown is = ap EntryBody.Along (part-grown a.refs.items b.refs.items span grown.refs is)
body-grown a b (HavingMembers span) grown is =
    ap EntryBody.Having (part-grown a.members.items b.members.items span grown.members is)

pub body-in-grown : (a b : Lists) (body : RowBody) → AreGrown a b → IsBodyIn a body → IsBodyIn b body
body-in-grown a b (AtPlace lat lon) grown is = is
body-in-grown a b (AlongRefs span) grown is = span-grown a.refs.items b.refs.items span grown.refs is
body-in-grown a b (HavingMembers span) grown is = span-grown a.members.items b.members.items span grown.members is

-- a row stays within lists that grow, and says what it said
pub row-grown : (a b : Lists) (row : Row) → AreGrown a b → IsRowIn a row → IsRowIn b row
row-grown a b row grown is = record {
  tags = span-grown a.tags.items b.tags.items row.tags grown.tags is.tags;
  body = body-in-grown a b row.body grown is.body;
}

abbrev entry-with : Row → List EntryTag → EntryBody → Entry
entry-with row tags body = record { even = row.even; id = row.id; info = row.info; tags = tags; body = body }

pub entry-grown : (a b : Lists) (row : Row) → AreGrown a b → IsRowIn a row → entry_in b row ≡ entry_in a row
entry-grown a b row grown is =
    ap (λ tags. entry-with row tags (body_in b row.body)) (part-grown a.tags.items b.tags.items row.tags grown.tags
    is.tags)
    ∙ ap (entry-with row (part_in a.tags.items row.tags)) (body-grown a b row.body grown is.body)

-- so do all rows
pub rows-grown : (a b : Lists) (rows : List Row) → AreGrown a b → All (IsRowIn a) rows → All (IsRowIn b) rows
rows-grown a b [] grown is = All-nil (IsRowIn b)
rows-grown a b (row ∷ rows) grown is =
    All-cons (IsRowIn b) row rows (row-grown a b row grown (All-head (IsRowIn a) row rows is))
    (rows-grown a b rows grown (All-tail (IsRowIn a) row rows is))

pub entries-grown : (a b : Lists) (rows : List Row) → AreGrown a b → All (IsRowIn a) rows →
    entries_in b rows ≡ entries_in a rows
entries-grown a b [] grown is = refl
entries-grown a b (row ∷ rows) grown is =
    ap (λ e. e ∷ entries_in b rows) (entry-grown a b row grown (All-head (IsRowIn a) row rows is))
    ∙ ap (λ more. entry_in a row ∷ more) (entries-grown a b rows grown (All-tail (IsRowIn a) row rows is))

-- a row more, behind lists that grew
pub row-added : (old new : Rows) (row : Row) → AreRowsIn old → AreGrown old.lists new.lists →
    new.rows.items ≡ old.rows.items ++ row ∷ [] → IsRowIn new.lists row →
    IsAdded old new (entry_in new.lists row ∷ [])
row-added old new row is grown pushed within = record {
  within = subst (All (IsRowIn new.lists)) (sym pushed)
      (All-push (IsRowIn new.lists) old.rows.items row (rows-grown old.lists new.lists old.rows.items grown is) within);
  joined =
      ap (entries_in new.lists) pushed ∙ map-append (entry_in new.lists) old.rows.items (row ∷ [])
      ∙ ap (λ entries. entries ++ entry_in new.lists row ∷ [])
      (entries-grown old.lists new.lists old.rows.items grown is);
}

-- an entity more, with these tags and this metadata
pub entity-added : (old new : Rows) (id : ℤ) (body : RowBody) (all_even even : Bool) (keys values : List ℕ)
    (known : EntryInfo) (span : Span) → AreRowsIn old → IsBodyIn old.lists body →
    IsPartAdded old.lists.tags.items new.lists.tags.items (entry_tags keys values) span →
    new.lists.refs ≡ old.lists.refs → new.lists.members ≡ old.lists.members →
    even ≡ (all_even && (length keys == length values)) →
    new.rows.items ≡ old.rows.items ++ record { even = even; id = id; info = known; tags = span; body = body } ∷ [] →
    IsSaidAdded old new (Some (entry_tagged id (body_in old.lists body) all_even keys values known))
entity-added old new id body all_even even keys values known span rows within added refs members is_even pushed =
    let row : Row = record { even = even; id = id; info = known; tags = span; body = body } in
    let grown : AreGrown old.lists new.lists = record {
      tags = prefix-added old.lists.tags.items new.lists.tags.items (entry_tags keys values) span added;
      refs = subst (λ v. IsPrefix old.lists.refs.items v.items) (sym refs) (prefix_itself old.lists.refs.items);
      members = subst (λ v. IsPrefix old.lists.members.items v.items) (sym members)
          (prefix_itself old.lists.members.items);
    } in
    let row_in : IsRowIn new.lists row = record {
      tags = span-added old.lists.tags.items new.lists.tags.items (entry_tags keys values) span added;
      body = body-in-grown old.lists new.lists body grown within;
    } in
    let all = row-added old new row rows grown pushed row_in in
    let entry : Entry = entry_tagged id (body_in old.lists body) all_even keys values known in
    let is : entry_in new.lists row ≡ entry =
    ap (λ tags. entry-with row tags (body_in new.lists body))
    (part-added old.lists.tags.items new.lists.tags.items (entry_tags keys values) span added)
    ∙ ap (entry-with row (entry_tags keys values)) (body-grown old.lists new.lists body grown within)
    ∙ ap (λ e. record { even = e; id = id; info = known; tags = entry_tags keys values; body = body_in old.lists body })
    is_even in
    record {
      entry = entry;
      said_is = refl;
      added = record { within = all.within; joined = all.joined ∙ ap (λ e. entries_of old ++ e ∷ []) is };
    }

-- the same, where its fields say so
pub entity-said : (old new : Rows) (id : ℤ) (body : EntryBody) (even : Bool) (fields : List FieldValue)
    (keys values : List ℕ)
    (known : EntryInfo) → repeated 2 fields ≡ Some keys → repeated 3 fields ≡ Some values →
    singular no_info info 4 fields ≡ Some known →
    IsSaidAdded old new (Some (entry_tagged id body even keys values known)) →
    IsSaidAdded old new (entry_with id body even fields)
entity-said old new id body even fields keys values known is_keys is_values is_info added =
    rw (is_keys, is_values, is_info) added
