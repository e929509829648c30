-- What a block says, by what was read of it.
use Rattle.std.proofs.Common.{◌≡◌, ◌∙◌, ℕ, true, false, List, Some, None, Err, map, refl, sym, ap}
use Rattle.std.specs.List.{list_all}
use Rattle.std.specs.Str.{is_utf8}
use Rattle.osm_entity.specs.declared.verdict.Cause.{Cause}
use Rattle.osm_entity.specs.declared.verdict.Cause.TheVariants.{BadText, BadLengths, BadWire}
use Rattle.osm_block_read.specs.Block.{block, block_said, items_or_cause}
use Rattle.osm_block_read.specs.Content.{IsBlockRead, entries_read}
use Rattle.osm_block_read.specs.Entries.{SettingValue}
use Rattle.osm_block_read.specs.Faults.{entries_fault}
use Rattle.osm_block_read.specs.Planned.{IsChecked, IsRefused}
use Rattle.osm_block_read.specs.Rows.{entries_of}
use Rattle.osm_block_read.specs.Seen.{setting_of}
use Rattle.osm_block_read.specs.Spans.{part_in}
use Rattle.osm_block_read.specs.Told.{BadTextWhere, BadWireWhere}
use Rattle.osm_block_read.specs.declared.content.Content.{Content}
use Rattle.osm_block_read.specs.declared.error.BlockError.{BlockError}
use Rattle.osm_block_read.specs.declared.error.BlockError.TheVariants.{Bad, Memory}
use Rattle.osm_block_read.specs.declared.span.Span.{Span}

-- a block that isn't well formed
pub said-wire : (raw : List ℕ) → block raw ≡ None → block_said raw ≡ Err BadWire
unfolding block_said
said-wire raw none = rw none refl

-- the texts that were read
abbrev pub texts_read : List ℕ → Content → List (List ℕ)
texts_read raw c = map (part_in raw) c.texts.items

-- the setting of a content that was read, with its texts
abbrev pub setting_read : List (List ℕ) → Content → SettingValue
setting_read texts c = setting_of texts c.scale

-- a block with a text that isn't UTF-8
said-text : (raw : List ℕ) (c : Content) → IsBlockRead raw c → list_all is_utf8 (texts_read raw c) ≡ false →
    block_said raw ≡ Err BadText
unfolding block_said
said-text raw c read bad = rw (read.said_is, read.setting, bad) refl

pub refused-text : (raw : List ℕ) (c : Content) (spans : List Span) (refusal : BlockError) → IsBlockRead raw c →
    spans ≡ c.texts.items → BadTextWhere (list_all is_utf8 (map (part_in raw) spans) ≡ false) refusal →
    IsRefused (block_said raw) refusal
refused-text raw c spans (Bad cause) read same where_bad =
    said-text raw c read (ap (λ list. list_all is_utf8 (map (part_in raw) list)) (sym same) ∙ where_bad.1)
    ∙ ap Err (sym where_bad.0)
refused-text raw c spans Memory read same where_bad = tt

-- a content that was read, and its texts, which are UTF-8
pub record AreRead (raw : List ℕ) (texts : List (List ℕ)) (c : Content) : Type 0 where
  pub read : IsBlockRead raw c
  pub made : texts ≡ texts_read raw c
  pub utf8 : list_all is_utf8 (texts_read raw c) ≡ true

pub are_read : (raw : List ℕ) (texts : List (List ℕ)) (c : Content) (spans : List Span) → IsBlockRead raw c →
    spans ≡ c.texts.items → texts ≡ map (part_in raw) spans →
    list_all is_utf8 (map (part_in raw) spans) ≡ true → AreRead raw texts c
are_read raw texts c spans read same made utf8 = record {
  read = read;
  made = made ∙ ap (map (part_in raw)) same;
  utf8 = ap (λ list. list_all is_utf8 (map (part_in raw) list)) (sym same) ∙ utf8;
}

-- a block whose texts are UTF-8
said-read : (raw : List ℕ) (texts : List (List ℕ)) (c : Content) → AreRead raw texts c →
    block_said raw ≡ items_or_cause (setting_read texts c) (entries_read c)
unfolding block_said
said-read raw texts c are = rw (are.read.said_is, are.read.setting, are.utf8, are.made, sym are.read.entries) refl

-- a block with dense nodes whose lengths don't fit
pub said-uneven : (raw : List ℕ) (texts : List (List ℕ)) (c : Content) → AreRead raw texts c →
    c.uneven ≡ true → block_said raw ≡ Err BadLengths
said-uneven raw texts c are uneven = said-read raw texts c are ∙ rw uneven refl

-- a block with an entity that is wrong
pub said-fault : (raw : List ℕ) (texts : List (List ℕ)) (c : Content) (cause : Cause) → AreRead raw texts c →
    c.uneven ≡ false → entries_fault (setting_read texts c) (entries_of c.rows) ≡ Some cause →
    block_said raw ≡ Err cause
said-fault raw texts c cause are even found = said-read raw texts c are ∙ rw (even, found) refl

-- a block in which nothing is wrong
pub said-checked : (raw : List ℕ) (texts : List (List ℕ)) (c : Content) → AreRead raw texts c →
    c.uneven ≡ false → entries_fault (setting_read texts c) (entries_of c.rows) ≡ None → IsChecked raw texts c
said-checked raw texts c are even none = record {
  rows = are.read.rows;
  items = said-read raw texts c are ∙ rw (even, none) refl;
  fine = none;
}

-- a refusal of a block that isn't well formed
pub refused-wire : (raw : List ℕ) (refusal : BlockError) → BadWireWhere (block raw ≡ None) refusal →
    IsRefused (block_said raw) refusal
refused-wire raw (Bad cause) where_bad = said-wire raw where_bad.1 ∙ ap Err (sym where_bad.0)
refused-wire raw Memory where_bad = tt
