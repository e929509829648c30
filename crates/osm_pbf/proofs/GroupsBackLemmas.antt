-- The group of a run that is written message by message is read back.
use Rattle.std.proofs.Common.{◌≡◌, ◌∙◌, ◌<◌, ◌^◌, ◌++◌, ◌∷◌, [], ℕ, List, Option, Some, None, length, map, refl, sym, ap, subst, lit<, arith, append-nil}
use Rattle.std.specs.List.{AllByRecursion as Each}
use Rattle.std.proofs.lemmas.Bool.{eq-eqb, ne_eqb}
use Rattle.osm_entity.specs.Entities.{EntityValue}
use Rattle.osm_entity.specs.Items.{kind_of}
use Rattle.osm_entity.specs.declared.kind.Kind.{Kind}
use Rattle.osm_entity.specs.declared.kind.Kind.TheVariants.{Node as OfNode, Way as OfWay, Relation as OfRelation}
use Rattle.osm_entity.specs.declared.parts.Body.{Body}
use Rattle.osm_entity.specs.declared.parts.Body.TheVariants.{Node, Way, Relation}
use Rattle.osm_wire.specs.Entries.{◌>>=◌, all_said, as_bytes, messages, payloads_of}
use Rattle.osm_wire.specs.Messages.{Bytes, FieldValue, IsFieldNumber}
use Rattle.osm_wire.specs.Written.{written_field, written_message}
use Rattle.osm_block_read.specs.Block.{Group, dense_part, group, group_entries}
use Rattle.osm_block_read.specs.Entries.{Entry}
use Rattle.osm_block_read.specs.Plain.{node_entry, relation_entry, way_entry}
use Rattle.osm_block_write.specs.declared.options.PbfOptions.{PbfOptions}
use Rattle.osm_block_write.specs.Columns.{bytes_field}
use Rattle.osm_block_write.specs.Messages.{body_field, entity_field, node_fields, relation_fields, way_fields}
use Rattle.osm_block_write.specs.Numbered.{with_numbers}
use Rattle.osm_pbf.proofs.FieldsBackLemmas.{AreSound, bytes-within, message-back, singular-none}
use Rattle.osm_pbf.proofs.PlainBackLemmas.{IsBodyCodable, IsCodable, body_coded, entry_coded, entry_of, node-back, relation-back, way-back}
use Rattle.osm_pbf.proofs.SizeLemmas.{message-next}

-- one map after another
pub map-twice : {A B C : Type 0} (f : B → C) (g : A → B) (xs : List A) → map f (map g xs) ≡ map (λ x. f (g x)) xs
map-twice f g [] = refl
map-twice f g (x ∷ xs) = ap (λ more. f (g x) ∷ more) (map-twice f g xs)

-- payloads of bytes say the bytes
pub bytes-said : (contents : List (List ℕ)) → all_said as_bytes (map Bytes contents) ≡ Some contents
bytes-said [] = refl
bytes-said (content ∷ contents) = rw (bytes-said contents) refl

-- a repeated field of messages that isn't given
pub messages-none : {T : Type 0} (says : List ℕ → Option T) (number : ℕ) (fields : List FieldValue) →
    payloads_of number fields ≡ [] → messages says number fields ≡ Some []
messages-none says number fields is = rw is refl

-- the field of an element holds a message that says its entry
pub record IsSaid {E : Type 0} (number : ℕ) (says : List ℕ → Option Entry) (field : E → FieldValue) (entry : E → Entry)
    (e : E) : Type 0 where
  pub content : List ℕ
  pub held : field e ≡ bytes_field number content
  pub said : says content ≡ Some (entry e)

module _ {E : Type 0} (number : ℕ) (says : List ℕ → Option Entry) (field : E → FieldValue) (entry : E → Entry) where
  -- the messages of elements, and what they say
  fields-own : (run : List E) → Each (IsSaid number says field entry) run →
      (contents : List (List ℕ)) × (payloads_of number (map field run) ≡ map Bytes contents)
      × (all_said says contents ≡ Some (map entry run))
  fields-own [] all = ([], refl, refl)
  fields-own (e ∷ run) all =
      let more = fields-own run all.1 in
      let s = all.0 in (
        s.content ∷ more.0,
        ap (λ f. payloads_of number (f ∷ map field run)) s.held
            ∙ rw (eq-eqb number number refl) (ap (λ list. Bytes s.content ∷ list) more.1),
        rw (s.said, more.2) refl,
      )

  -- the messages say the entries
  pub messages-back : (run : List E) → Each (IsSaid number says field entry) run →
      messages says number (map field run) ≡ Some (map entry run)
  messages-back run all =
      let own = fields-own run all in
      ap (λ payloads. all_said as_bytes payloads >>= all_said says) own.1
      ∙ ap (λ contents. contents >>= all_said says) (bytes-said own.0) ∙ own.2

  -- and no other field is given
  pub fields-other : (other : ℕ) (run : List E) → (number ≡ other → ⊥) → Each (IsSaid number says field entry) run →
      payloads_of other (map field run) ≡ []
  fields-other other [] differ all = refl
  fields-other other (e ∷ run) differ all =
      ap (λ f. payloads_of other (f ∷ map field run)) all.0.held
      ∙ rw (ne_eqb number other differ) (fields-other other run differ all.1)

  -- the fields are good to write
  pub fields-sound : IsFieldNumber number → (run : List E) → Each (IsSaid number says field entry) run →
      AreSound (map field run)
  fields-sound fits [] all = tt
  fields-sound fits (e ∷ run) all =
      let rest = fields-sound fits run all.1 in
      subst (λ f. AreSound (f ∷ map field run)) (sym all.0.held) ((fits, tt), rest)

-- the field of a kind's messages in a group, and what says one
abbrev field_of : Kind → ℕ
field_of OfNode = 1
field_of OfWay = 3
field_of OfRelation = 4

-- what a message of a kind says
abbrev says_of : Kind → List ℕ → Option Entry
says_of OfNode = node_entry
says_of OfWay = way_entry
says_of OfRelation = relation_entry

module _ (options : PbfOptions) (table : List (List ℕ)) where
  -- an entity as a field of its group
  abbrev field_in : EntityValue → FieldValue
  field_in e = entity_field options (with_numbers options table e)

  -- the message of an entity says its entry
  entity-said : (e : EntityValue) (body : Body) → e.body ≡ body → IsCodable options table e →
      length (written_field (field_in e)) < 2 ^ 64 →
      IsSaid (field_of (kind_of body)) (says_of (kind_of body)) field_in (entry_coded options table) e
  entity-said e (Node place) is can few =
      let n = with_numbers options table e in
      let held : field_in e ≡ bytes_field 1 (written_message (node_fields options place n)) =
      ap (λ body. body_field options body n) is in
      let fit = subst (IsBodyCodable options table) is can.body in
      record {
        content = written_message (node_fields options place n);
        held = held;
        said =
            node-back options table e place can fit.0 fit.1
            (omega (
              arith,
              few,
              ap (λ f. length (written_field f)) held,
              bytes-within 1 (written_message (node_fields options place n)),
            ))
            ∙ ap (λ body. Some (entry_of options table e (body_coded options table body))) (sym is);
      }
  entity-said e (Way refs) is can few =
      let n = with_numbers options table e in
      let held : field_in e ≡ bytes_field 3 (written_message (way_fields options refs n)) =
      ap (λ body. body_field options body n) is in
      record {
        content = written_message (way_fields options refs n);
        held = held;
        said =
            way-back options table e refs can (subst (IsBodyCodable options table) is can.body)
            (omega (
              arith,
              few,
              ap (λ f. length (written_field f)) held,
              bytes-within 3 (written_message (way_fields options refs n)),
            ))
            ∙ ap (λ body. Some (entry_of options table e (body_coded options table body))) (sym is);
      }
  entity-said e (Relation members) is can few =
      let n = with_numbers options table e in
      let held : field_in e ≡ bytes_field 4 (written_message (relation_fields options members n)) =
      ap (λ body. body_field options body n) is in
      record {
        content = written_message (relation_fields options members n);
        held = held;
        said =
            relation-back options table e members is can (subst (IsBodyCodable options table) is can.body)
            (omega (
              arith,
              few,
              ap (λ f. length (written_field f)) held,
              bytes-within 4 (written_message (relation_fields options members n)),
            ))
            ∙ ap (λ body. Some (entry_of options table e (body_coded options table body))) (sym is);
      }

  -- so do the messages of entities of one kind
  run-said : (kind : Kind) (run : List EntityValue) → Each (λ e. kind_of e.body ≡ kind) run →
      Each (IsCodable options table) run → length (written_message (map field_in run)) < 2 ^ 64 →
      Each (IsSaid (field_of kind) (says_of kind) field_in (entry_coded options table)) run
  run-said kind [] alike can few = tt
  run-said kind (e ∷ run) alike can few =
      let short = message-next (field_in e) (map field_in run) in (
        subst (λ k. IsSaid (field_of k) (says_of k) field_in (entry_coded options table) e) alike.0
            (entity-said e e.body refl can.0 (omega (arith, few, short))),
        run-said kind run alike.1 can.1 (omega (arith, few, short)),
      )

  -- the group of entities of one kind says their entries
  pub plain-group : (kind : Kind) (run : List EntityValue) → Each (λ e. kind_of e.body ≡ kind) run →
      Each (IsCodable options table) run → length (written_message (map field_in run)) < 2 ^ 64 →
      (g : Group) × (group (written_message (map field_in run)) ≡ Some g)
      × (group_entries g ≡ Some (map (entry_coded options table) run))
  plain-group OfNode run alike can few =
      let said = run-said OfNode run alike can few in
      let entries = map (entry_coded options table) run in
      let own = messages-back 1 node_entry field_in (entry_coded options table) run said in
      let fields = map field_in run in
      let other = λ (number : ℕ) (differ : 1 ≡ number → ⊥).
      fields-other 1 node_entry field_in (entry_coded options table) number run differ said in (
        record { nodes = entries; dense = None; ways = []; relations = [] },
        rw (
          message-back fields
              (fields-sound 1 node_entry field_in (entry_coded options table) (lit< tt, lit< tt) run said) few,
          own,
          singular-none None dense_part 2 fields (other 2 (λ is. omega (arith, is))),
          messages-none way_entry 3 fields (other 3 (λ is. omega (arith, is))),
          messages-none relation_entry 4 fields (other 4 (λ is. omega (arith, is))),
        ) refl,
        ap Some (append-nil ((entries ++ []) ++ []) ∙ append-nil (entries ++ []) ∙ append-nil entries),
      )
  plain-group OfWay run alike can few =
      let said = run-said OfWay run alike can few in
      let entries = map (entry_coded options table) run in
      let own = messages-back 3 way_entry field_in (entry_coded options table) run said in
      let fields = map field_in run in
      let other = λ (number : ℕ) (differ : 3 ≡ number → ⊥).
      fields-other 3 way_entry field_in (entry_coded options table) number run differ said in (
        record { nodes = []; dense = None; ways = entries; relations = [] },
        rw (
          message-back fields
              (fields-sound 3 way_entry field_in (entry_coded options table) (lit< tt, lit< tt) run said) few,
          messages-none node_entry 1 fields (other 1 (λ is. omega (arith, is))),
          singular-none None dense_part 2 fields (other 2 (λ is. omega (arith, is))),
          own,
          messages-none relation_entry 4 fields (other 4 (λ is. omega (arith, is))),
        ) refl,
        ap Some (append-nil entries),
      )
  plain-group OfRelation run alike can few =
      let said = run-said OfRelation run alike can few in
      let entries = map (entry_coded options table) run in
      let own = messages-back 4 relation_entry field_in (entry_coded options table) run said in
      let fields = map field_in run in
      let other = λ (number : ℕ) (differ : 4 ≡ number → ⊥).
      fields-other 4 relation_entry field_in (entry_coded options table) number run differ said in (
        record { nodes = []; dense = None; ways = []; relations = entries },
        rw (
          message-back fields
              (fields-sound 4 relation_entry field_in (entry_coded options table) (lit< tt, lit< tt) run said) few,
          messages-none node_entry 1 fields (other 1 (λ is. omega (arith, is))),
          singular-none None dense_part 2 fields (other 2 (λ is. omega (arith, is))),
          messages-none way_entry 3 fields (other 3 (λ is. omega (arith, is))),
          own,
        ) refl,
        refl,
      )
