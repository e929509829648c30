-- The entries of a plan from a place on, and what is wrong with them.
use Rattle.std.proofs.Common.{◌≡◌, ◌∙◌, ◌+◌, ◌∷◌, [], ℕ, zero, suc, List, Option, Some, None, map, drop, refl, sym, ap, add-one}
use Rattle.std.proofs.lemmas.List.{drop_more}
use Rattle.std.proofs.lemmas.Option.{slice_get_within, get_or_from_slice_get}
use Rattle.std.specs.Prelude.{slice_get}
use Rattle.std.specs.Option.{option_or}
use Rattle.osm_entity.specs.declared.verdict.Cause.{Cause}
use Rattle.osm_block_read.specs.Entries.{Entry, SettingValue, entry_item}
use Rattle.osm_block_read.specs.Faults.{entries_fault, entry_fault}
use Rattle.osm_block_read.specs.Planned.{entries_from, items_from}
use Rattle.osm_block_read.specs.Rows.{entries_of}
use Rattle.osm_block_read.specs.Seen.{setting_of}
use Rattle.osm_block_read.specs.declared.content.Content.{Content}

-- the element at a place, and those after it
pub drop-get : {X : Type 0} (xs : List X) (at : ℕ) (x : X) → slice_get xs at ≡ Some x →
    drop at xs ≡ x ∷ drop (at + 1) xs
drop-get xs at x is =
    drop_more xs at x (slice_get_within xs at x is) ∙ ap (λ y. y ∷ drop (at + 1) xs)
    (get_or_from_slice_get xs at x x is)

-- where nothing is wrong with an entry, the fault is that of those after it
pub entries_fault-more : (s : SettingValue) (entries : List Entry) (at : ℕ) (e : Entry) →
    slice_get entries at ≡ Some e →
    entry_fault s e ≡ None → entries_fault s (drop at entries) ≡ entries_fault s (drop (at + 1) entries)
entries_fault-more s entries at e is fine = rw (drop-get entries at e is, fine) refl

-- what is wrong with an entry is the first fault
pub entries_fault-found : (s : SettingValue) (entries : List Entry) (at : ℕ) (e : Entry) (cause : Cause) →
    slice_get entries at ≡ Some e →
    entry_fault s e ≡ Some cause → entries_fault s (drop at entries) ≡ Some cause
entries_fault-found s entries at e cause is found = rw (drop-get entries at e is, found) refl

-- without a fault among all, the first has none
fine-first : (first more : Option Cause) → option_or first more ≡ None → first ≡ None
fine-first None more fine = refl
fine-first (Some cause) more fine = cc

-- the entry that a plan comes to next: nothing is wrong with it, and its item is the next
pub next-entry : (texts : List (List ℕ)) (c : Content) (at : ℕ) (e : Entry) →
    entries_fault (setting_of texts c.scale) (entries_from at c) ≡ None →
    slice_get (entries_of c.rows) at ≡ Some e →
    (entry_fault (setting_of texts c.scale) e ≡ None)
    × (slice_get (items_from at texts c) 0 ≡ Some (entry_item (setting_of texts c.scale) e))
next-entry texts c at e fine is =
    let s : SettingValue = setting_of texts c.scale in
    let here : entries_from at c ≡ e ∷ entries_from (at + 1) c = drop-get (entries_of c.rows) at e is in (
      fine-first (entry_fault s e) (entries_fault s (entries_from (at + 1) c))
          (ap (entries_fault s) (sym here) ∙ fine),
      ap (λ entries. slice_get (map (entry_item s) entries) 0) here,
    )

-- without a fault among all, those after the first have none
rest-fine : (first more : Option Cause) → option_or first more ≡ None → more ≡ None
rest-fine None more none = none
rest-fine (Some cause) more none = cc

fine-rest : (s : SettingValue) (entries : List Entry) → entries_fault s entries ≡ None →
    entries_fault s (drop 1 entries) ≡ None
fine-rest s [] none = refl
fine-rest s (e ∷ more) none = rest-fine (entry_fault s e) (entries_fault s more) none

drop-one : {X : Type 0} (xs : List X) (at : ℕ) → drop (suc at) xs ≡ drop 1 (drop at xs)
drop-one [] zero = refl
drop-one [] (suc at) = refl
drop-one (x ∷ xs) zero = refl
drop-one (x ∷ xs) (suc at) = drop-one xs at

-- the entries once one more was passed
entries-passed : (c : Content) (at : ℕ) → entries_from (at + 1) c ≡ drop 1 (entries_from at c)
entries-passed c at = ap (λ n. drop n (entries_of c.rows)) (add-one at) ∙ drop-one (entries_of c.rows) at

map-drop-one : {X Y : Type 0} (f : X → Y) (xs : List X) → map f (drop 1 xs) ≡ drop 1 (map f xs)
map-drop-one f [] = refl
map-drop-one f (x ∷ xs) = refl

-- the items then
pub items-passed : (texts : List (List ℕ)) (c : Content) (at : ℕ) →
    items_from (at + 1) texts c ≡ drop 1 (items_from at texts c)
items-passed texts c at =
    ap (map (entry_item (setting_of texts c.scale))) (entries-passed c at)
    ∙ map-drop-one (entry_item (setting_of texts c.scale)) (entries_from at c)

-- of which nothing is wrong with any
pub fine-passed : (texts : List (List ℕ)) (c : Content) (at : ℕ) →
    entries_fault (setting_of texts c.scale) (entries_from at c) ≡ None →
    entries_fault (setting_of texts c.scale) (entries_from (at + 1) c) ≡ None
fine-passed texts c at fine =
    ap (entries_fault (setting_of texts c.scale)) (entries-passed c at)
    ∙ fine-rest (setting_of texts c.scale) (entries_from at c) fine
