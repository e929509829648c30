-- Ways and relations that were added, whose refs or members were added before.
use Rattle.std.proofs.Common.{◌≡◌, ◌∙◌, ◌++◌, ◌∷◌, [], ℕ, ℤ, Bool, true, List, Option, Some, length, map, w64, refl, sym, ap, subst}
use Rattle.std.specs.Prelude.{◌==◌, ◌&&◌}
use Rattle.osm_entity.specs.Prefixes.{IsPrefix}
use Rattle.osm_entity.proofs.PrefixLemmas.{prefix_itself}
use Rattle.osm_wire.specs.Entries.{◌>>=◌, message_fields, needed, repeated, said_or}
use Rattle.osm_wire.specs.Integers.{int32, int64, unzigzagged}
use Rattle.osm_wire.specs.Messages.{FieldValue}
use Rattle.osm_block_read.specs.Entries.{Along, Entry, Having}
use Rattle.osm_block_read.specs.Numbers.{summed}
use Rattle.osm_block_read.specs.Plain.{entry_members, entry_with, info, no_info, relation_entry, way_entry}
use Rattle.osm_block_read.specs.Rows.{AreGrown, AreRowsIn, IsSaidAdded, body_in, entries_in, entries_of}
use Rattle.osm_block_read.specs.Spans.{IsPartAdded}
use Rattle.osm_block_read.specs.WayCodes.{WayCodes, entry_tagged, way_said, way_told}
use Rattle.osm_block_read.specs.declared.entry.EntryInfo.{EntryInfo}
use Rattle.osm_block_read.specs.declared.row.Rows.{Rows}
use Rattle.osm_block_read.specs.declared.row.RowBody.TheVariants.{Along as AlongRefs, Having as HavingMembers}
use Rattle.osm_block_read.specs.declared.span.Span.{Span}
use Rattle.osm_block_read.proofs.RowLemmas.{entries-grown, part-added, prefix-added}
use Rattle.osm_block_read.proofs.WayLemmas.{way-by-parts}

-- rows that were added behind rows that say the same
added-behind : (old mid new : Rows) (said other : Option Entry) → IsSaidAdded mid new other → other ≡ said →
    entries_of mid ≡ entries_of old → IsSaidAdded old new said
added-behind old mid new said other added is same = record {
  entry = added.entry;
  said_is = sym is ∙ added.said_is;
  added = record {
    within = added.added.within;
    joined = added.added.joined ∙ ap (λ entries. entries ++ added.entry ∷ []) same;
  };
}

-- a way, whose refs were added before it
pub way-added : (old mid new : Rows) (message : List ℕ) (way : WayCodes) (shown : ℤ) (known : EntryInfo) (span : Span) →
    AreRowsIn old → way_said message ≡ Some way → said_or no_info info way.described ≡ Some known →
    shown ≡ int64 way.id →
    IsPartAdded old.lists.refs.items mid.lists.refs.items (summed w64 (map unzigzagged way.refs)) span →
    mid.lists.tags ≡ old.lists.tags → mid.lists.members ≡ old.lists.members → mid.rows ≡ old.rows →
    IsSaidAdded mid new
    (Some (entry_tagged shown (body_in mid.lists (AlongRefs span)) true way.keys way.values known)) →
    IsSaidAdded old new (way_entry message)
way-added old mid new message way shown known span within is is_known is_shown part tags members rows added =
    let refs : List ℤ = summed w64 (map unzigzagged way.refs) in
    let grown : AreGrown old.lists mid.lists = record {
      tags = subst (λ v. IsPrefix old.lists.tags.items v.items) (sym tags) (prefix_itself old.lists.tags.items);
      refs = prefix-added old.lists.refs.items mid.lists.refs.items refs span part;
      members = subst (λ v. IsPrefix old.lists.members.items v.items) (sym members)
          (prefix_itself old.lists.members.items);
    } in
    let said : way_entry message ≡ Some (entry_tagged (int64 way.id) (Along refs) true way.keys way.values known) =
    way-by-parts message ∙ ap (λ said. said >>= way_told) is
    ∙ ap
    (λ info. info
    >>= (λ known. Some (entry_tagged (int64 way.id) (Along refs) true way.keys way.values known)))
    is_known in
    let other : Some (entry_tagged shown (body_in mid.lists (AlongRefs span)) true way.keys way.values known)
    ≡ way_entry message =
    ap (λ n. Some (entry_tagged n (body_in mid.lists (AlongRefs span)) true way.keys way.values known)) is_shown
    ∙ ap (λ list. Some (entry_tagged (int64 way.id) (Along list) true way.keys way.values known))
    (part-added old.lists.refs.items mid.lists.refs.items refs span part) ∙ sym said in
    let same : entries_of mid ≡ entries_of old =
    ap (λ v. entries_in mid.lists v.items) rows ∙ entries-grown old.lists mid.lists old.rows.items grown within in
    added-behind old mid new (way_entry message) _ added other same

-- a relation, whose members were added before it
pub relation-added : (old mid new : Rows) (message : List ℕ) (fields : List FieldValue) (id : ℕ) (shown : ℤ)
    (even : Bool)
    (roles ids kinds : List ℕ) (span : Span) →
    AreRowsIn old → message_fields message ≡ Some fields → needed 1 fields ≡ Some id → shown ≡ int64 id →
    even ≡ ((length kinds == length ids) && (length roles == length ids)) → repeated 8 fields ≡ Some roles →
    repeated 9 fields ≡ Some ids → repeated 10 fields ≡ Some kinds →
    IsPartAdded old.lists.members.items mid.lists.members.items
    (entry_members (map int32 kinds) (summed w64 (map unzigzagged ids)) (map int32 roles)) span →
    mid.lists.tags ≡ old.lists.tags → mid.lists.refs ≡ old.lists.refs → mid.rows ≡ old.rows →
    IsSaidAdded mid new (entry_with shown (body_in mid.lists (HavingMembers span)) even fields) →
    IsSaidAdded old new (relation_entry message)
relation-added old mid new message fields id shown even roles ids kinds span within is is_id is_shown is_even is_roles
    is_ids is_kinds part tags refs rows added =
    let members = entry_members (map int32 kinds) (summed w64 (map unzigzagged ids)) (map int32 roles) in
    let grown : AreGrown old.lists mid.lists = record {
      tags = subst (λ v. IsPrefix old.lists.tags.items v.items) (sym tags) (prefix_itself old.lists.tags.items);
      refs = subst (λ v. IsPrefix old.lists.refs.items v.items) (sym refs) (prefix_itself old.lists.refs.items);
      members = prefix-added old.lists.members.items mid.lists.members.items members span part;
    } in
    let said : relation_entry message
    ≡ entry_with (int64 id) (Having members) ((length kinds == length ids) && (length roles == length ids)) fields =
    rw (is, is_id, is_roles, is_ids, is_kinds) refl in
    let other : entry_with shown (body_in mid.lists (HavingMembers span)) even fields ≡ relation_entry message =
    ap (λ n. entry_with n (body_in mid.lists (HavingMembers span)) even fields) is_shown
    ∙ ap (λ e. entry_with (int64 id) (body_in mid.lists (HavingMembers span)) e fields) is_even
    ∙ ap (λ list. entry_with (int64 id) (Having list) ((length kinds == length ids) && (length roles == length ids))
    fields)
    (part-added old.lists.members.items mid.lists.members.items members span part) ∙ sym said in
    let same : entries_of mid ≡ entries_of old =
    ap (λ v. entries_in mid.lists v.items) rows ∙ entries-grown old.lists mid.lists old.rows.items grown within in
    added-behind old mid new (relation_entry message) _ added other same
