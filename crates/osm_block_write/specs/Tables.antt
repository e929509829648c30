-- String tables: which texts a block holds, and by which number each is named.
-- Here a table is made of all texts at once; the code looks up each text as it comes.
use Rattle.std.specs.Prelude.{ℕ, List, [], ◌∷◌, ◌++◌, map, not, if◌then◌else◌, bytes_eq}
use Rattle.std.specs.List.{filter, flat_map, fold, list_any, position_or_len}
use Rattle.osm_entity.specs.Entities.{EntityValue}
use Rattle.osm_entity.specs.declared.parts.Body.{Body}
use Rattle.osm_entity.specs.declared.parts.Body.TheVariants.{Node, Way, Relation}
use Rattle.osm_entity.specs.declared.parts.Tag.{Tag}
use Rattle.osm_block_write.specs.declared.options.PbfOptions.{PbfOptions}

-- texts without a text
abbrev pub without : List ℕ → List (List ℕ) → List (List ℕ)
without text texts = filter (λ t. not (bytes_eq text t)) texts

-- each text once, in the order of first use
abbrev pub first_uses : List (List ℕ) → List (List ℕ)
first_uses [] = []
first_uses (text ∷ more) = text ∷ without text (first_uses more)

-- the string table of texts: the empty text, and then the others in the order of first use
abbrev pub string_table : List (List ℕ) → List (List ℕ)
string_table texts = first_uses ([] ∷ texts)

-- a table with a text more, where it lacks it
abbrev pub with_text : List (List ℕ) → List ℕ → List (List ℕ)
with_text table text = if list_any (bytes_eq text) table then table else table ++ text ∷ []

-- a table with texts more, one after the other
abbrev pub with_texts : List (List ℕ) → List (List ℕ) → List (List ℕ)
with_texts table texts = fold with_text table texts

-- the number of a text in a table: how many texts stand before it
abbrev pub text_number : List (List ℕ) → List ℕ → ℕ
text_number table text = position_or_len (bytes_eq text) table

-- the texts of a tag: its key, and then its value
abbrev pub tag_texts : Tag → List (List ℕ)
tag_texts tag = tag.key ∷ tag.value ∷ []

-- the texts that only a relation has: the roles of its members
abbrev pub role_texts : Body → List (List ℕ)
role_texts (Node place) = []
role_texts (Way refs) = []
role_texts (Relation members) = map (λ m. m.role) members

-- the user, where metadata is written
abbrev pub user_texts : PbfOptions → EntityValue → List (List ℕ)
user_texts options e = if options.omitmetadata then [] else e.user ∷ []

-- the texts that an entity uses: its user, then the key and the value of each tag, then its roles
abbrev pub texts_of : PbfOptions → EntityValue → List (List ℕ)
texts_of options e = user_texts options e ++ flat_map tag_texts e.tags ++ role_texts e.body

-- the string table of a run: that of the texts that its entities use
abbrev pub table_of : PbfOptions → List EntityValue → List (List ℕ)
table_of options run = string_table (flat_map (texts_of options) run)
