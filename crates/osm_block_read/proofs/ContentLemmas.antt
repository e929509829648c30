-- What was read of a block, part after part.
use Rattle.std.proofs.Common.{◌≡◌, ◌∙◌, ◌∷◌, [], ℕ, Bool, false, List, Option, Some, None, length, map, refl, sym, ap, subst}
use Rattle.std.specs.Prelude.{All, if◌then◌else◌}
use Rattle.std.specs.Option.{option_map}
use Rattle.osm_entity.specs.declared.kind.Kind.TheVariants.{Node, Way, Relation}
use Rattle.osm_wire.specs.Entries.{◌>>=◌, all_said, message_fields, messages, scalar, single_bytes, singular}
use Rattle.osm_wire.specs.Integers.{int32, int64}
use Rattle.osm_wire.specs.Messages.{FieldValue}
use Rattle.osm_block_read.specs.Block.{Block, Group, all_entries, block, dense_in, dense_part, group, group_entries, joined}
use Rattle.osm_block_read.specs.Content.{IsPartRead, IsBlockRead, entries_read, entry_said, scale_said}
use Rattle.osm_block_read.specs.Dense.{dense}
use Rattle.osm_block_read.specs.Entries.{Entry}
use Rattle.osm_block_read.specs.Rows.{entries_of}
use Rattle.osm_block_read.specs.Seen.{setting_of}
use Rattle.osm_block_read.specs.Spans.{IsSpanIn, part_in}
use Rattle.osm_block_read.specs.Strings.{table_texts}
use Rattle.osm_block_read.specs.declared.content.Content.{Content}
use Rattle.osm_block_read.specs.declared.setting.Scale.{Scale}
use Rattle.osm_block_read.proofs.OptionLemmas.{joined-joined, joined-parts, none_some, said-more, some_equal}

-- the entities of some groups after those that were read
abbrev pub with_groups : Option (List Entry) → Option (List Group) → Option (Option (List Entry))
with_groups before said = option_map (λ groups. joined before (all_entries groups)) said

-- a group before others
with_groups-more : (before : Option (List Entry)) (g : Group) (said : Option (List Group)) →
    with_groups before (option_map (λ more. g ∷ more) said) ≡ with_groups (joined before (group_entries g)) said
with_groups-more before g None = refl
with_groups-more before g (Some groups) = ap Some (sym (joined-joined before (group_entries g) (all_entries groups)))

-- a group more of those that are still to come
pub groups-more : (before now : Option (List Entry)) (bytes : List ℕ) (g : Group) (coming : Option (List (List ℕ))) →
    group bytes ≡ Some g → now ≡ joined before (group_entries g) →
    with_groups now (coming >>= all_said group) ≡ with_groups before
    (option_map (λ more. bytes ∷ more) coming >>= all_said group)
groups-more before now bytes g coming is added =
    ap (λ entries. with_groups entries (coming >>= all_said group)) added
    ∙ sym (with_groups-more before g (coming >>= all_said group))
    ∙ ap (with_groups before) (sym (said-more group bytes g coming is))

-- a group was read, part after part
pub group-read : (message : List ℕ) (fields : List FieldValue) (o a b d n : Content) →
    message_fields message ≡ Some fields →
    IsPartRead o a (messages (entry_said Node) 1 fields) Some →
    IsPartRead a b (singular None dense_part 2 fields) dense_in →
    IsPartRead b d (messages (entry_said Way) 3 fields) Some →
    IsPartRead d n (messages (entry_said Relation) 4 fields) Some →
    IsPartRead o n (group message) group_entries
group-read message fields o a b d n is nodes dense ways relations = record {
  part = record { nodes = nodes.part; dense = dense.part; ways = ways.part; relations = relations.part };
  said_is = rw (is, nodes.said_is, dense.said_is, ways.said_is, relations.said_is) refl;
  more = record {
    within = relations.more.within;
    entries =
        relations.more.entries
        ∙ ap (λ entries. joined entries (Some relations.part))
        (ways.more.entries ∙ ap (λ entries. joined entries (Some ways.part))
        (dense.more.entries ∙ ap (λ entries. joined entries (dense_in dense.part)) nodes.more.entries))
        ∙ joined-parts (entries_read o) (dense_in dense.part) nodes.part ways.part relations.part;
    texts = relations.more.texts ∙ ways.more.texts ∙ dense.more.texts ∙ nodes.more.texts;
  };
}

-- four numbers as a scale, where each is there
abbrev scale_of : Option ℕ → Option ℕ → Option ℕ → Option ℕ → Option Scale
scale_of a b c d = do
  granularity ← a
  date_granularity ← b
  lat_offset ← c
  lon_offset ← d
  Some (record {
    granularity = int32 granularity;
    date_granularity = int32 date_granularity;
    lat_offset = int64 lat_offset;
    lon_offset = int64 lon_offset;
  })

-- texts, groups and four numbers as a block, where each number is there
abbrev block_of : List (List ℕ) → List Group → Option ℕ → Option ℕ → Option ℕ → Option ℕ → Option Block
block_of texts groups a b c d = do
  granularity ← a
  date_granularity ← b
  lat_offset ← c
  lon_offset ← d
  Some (record {
    setting = record {
      texts = texts;
      granularity = int32 granularity;
      date_granularity = int32 date_granularity;
      lat_offset = int64 lat_offset;
      lon_offset = int64 lon_offset;
    };
    groups = groups;
  })

-- texts, groups and a scale as a block
abbrev block_with : List (List ℕ) → List Group → Scale → Block
block_with texts groups s = record {
  setting = record {
    texts = texts;
    granularity = s.granularity;
    date_granularity = s.date_granularity;
    lat_offset = s.lat_offset;
    lon_offset = s.lon_offset;
  };
  groups = groups;
}

-- where the numbers are a scale, they make a block
block_of-scale : (texts : List (List ℕ)) (groups : List Group) (a b c d : Option ℕ) (s : Scale) →
    scale_of a b c d ≡ Some s →
    block_of texts groups a b c d ≡ Some (block_with texts groups s)
block_of-scale texts groups None b c d s is = absurd (none_some s is)
block_of-scale texts groups (Some g) None c d s is = absurd (none_some s is)
block_of-scale texts groups (Some g) (Some t) None d s is = absurd (none_some s is)
block_of-scale texts groups (Some g) (Some t) (Some lat) None s is = absurd (none_some s is)
block_of-scale texts groups (Some g) (Some t) (Some lat) (Some lon) s is =
    ap (λ scale. Some (block_with texts groups scale)) (some_equal _ s is)

-- a block, part after part
pub block-said : (raw : List ℕ) (fields : List FieldValue) (table : List ℕ) (texts : List (List ℕ))
    (groups : List Group) (s : Scale) →
    message_fields raw ≡ Some fields → single_bytes 1 fields ≡ Some (Some table) → table_texts table ≡ Some texts →
    messages group 2 fields ≡ Some groups → scale_said fields ≡ Some s → block raw ≡ Some (block_with texts groups s)
block-said raw fields table texts groups s is one read said scale =
    rw (is, one, read, said)
    (block_of-scale texts groups (scalar 100 17 fields) (scalar 1000 18 fields) (scalar 0 19 fields)
    (scalar 0 20 fields) s scale)

-- the entries read so far, where the lengths of all dense nodes fit
abbrev read_if : Bool → List Entry → Option (List Entry)
read_if uneven entries = if uneven then None else Some entries

-- a list that is there and has nothing before others
joined-first : {T : Type 0} (more : Option (List T)) → joined (Some []) more ≡ more
joined-first None = refl
joined-first (Some more) = refl

-- a block was read whole: its table first, then its groups and its scale
pub read-whole : (raw : List ℕ) (fields : List FieldValue) (table : List ℕ) (old mid : Content) (scale : Scale) →
    message_fields raw ≡ Some fields → single_bytes 1 fields ≡ Some (Some table) →
    table_texts table ≡ Some (map (part_in raw) old.texts.items) → All (IsSpanIn (length raw)) old.texts.items →
    entries_of old.rows ≡ [] → old.uneven ≡ false → IsPartRead old mid (messages group 2 fields) all_entries →
    scale_said fields ≡ Some scale → IsBlockRead raw (record mid { scale = scale })
read-whole raw fields table old mid scale is one texts within none even groups numbers = record {
  said = block_with (map (part_in raw) old.texts.items) groups.part scale;
  said_is = block-said raw fields table (map (part_in raw) old.texts.items) groups.part scale is one texts
      groups.said_is numbers;
  setting = ap (λ v. setting_of (map (part_in raw) v.items) scale) (sym groups.more.texts);
  entries =
      groups.more.entries
      ∙ ap (λ entries. joined entries (all_entries groups.part))
      (ap (λ u. read_if u (entries_of old.rows)) even ∙ ap Some none)
      ∙ joined-first (all_entries groups.part);
  texts = subst (λ v. All (IsSpanIn (length raw)) v.items) (sym groups.more.texts) within;
  rows = groups.more.within;
}
