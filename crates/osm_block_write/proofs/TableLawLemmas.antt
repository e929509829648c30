-- What holds of every string table: each text is there once, at its number.
use Rattle.std.proofs.Common.{◌≡◌, ℕ, List, [], ◌∷◌, true, false, refl, sym, ap, ◌∙◌, subst, Some, inl, inr}
use Rattle.std.specs.Prelude.{IsTrue, not, bytes_eq, find, slice_get}
use Rattle.std.specs.Cmp.Lexicographic.{bytes_decides}
use Rattle.std.specs.List.{AllByRecursion, IsDistinct, list_any}
use Rattle.std.proofs.lemmas.Bool.{cond_both, false≢true, not-true, or_cases}
use Rattle.std.proofs.lemmas.List.Folds.{find_at}
use Rattle.osm_block_write.specs.Tables.{first_uses, string_table, text_number, without}
use Rattle.osm_block_write.proofs.TablesLemmas.{AreIn, AreIn-with_texts, is_in, string_table-append}

-- a text that is among some texts is in a table that has them
is_in-among : (table texts : List (List ℕ)) (text : List ℕ) → AreIn table texts →
    list_any (bytes_eq text) texts ≡ true → is_in table text ≡ true
is_in-among table [] text are is = absurd (false≢true is)
is_in-among table (first ∷ texts) text are is =
    elim (or_cases (bytes_eq text first) (list_any (bytes_eq text) texts) is) as (λ _. is_in table text ≡ true) [
      | inl same ↦ subst (λ t. is_in table t ≡ true) (sym ((bytes_decides text first).0 same)) are.0
      | inr rest ↦ is_in-among table texts text are.1 rest
    ]

-- a text that is in a table is found there
find-in : (table : List (List ℕ)) (text : List ℕ) → is_in table text ≡ true → find (bytes_eq text) table ≡ Some text
find-in [] text is = absurd (false≢true is)
find-in (first ∷ table) text is =
    cond_both (bytes_eq text first) true false (λ _. find (bytes_eq text) (first ∷ table) ≡ Some text)
    (λ same. rw same (ap Some (sym ((bytes_decides text first).0 same))))
    (λ other. rw other (find-in table text (sym (rw other refl) ∙ is)))

-- each text is at its number
pub named : (texts : List (List ℕ)) (text : List ℕ) → IsTrue (list_any (bytes_eq text) texts) →
    slice_get (string_table texts) (text_number (string_table texts) text) ≡ Some text
named texts text among =
    let table = string_table texts in
    let are = subst (λ t. AreIn t texts) (sym (string_table-append [] texts)) (AreIn-with_texts ([] ∷ []) texts) in
    sym (find_at (bytes_eq text) table) ∙ find-in table text (is_in-among table texts text are among)

-- none of the others is the text that is taken out of them
without-differ : (text : List ℕ) (texts : List (List ℕ)) →
    AllByRecursion (λ t. bytes_eq text t ≡ false) (without text texts)
without-differ text [] = tt
without-differ text (first ∷ texts) =
    cond_both (not (bytes_eq text first)) (first ∷ without text texts) (without text texts)
    (λ kept. AllByRecursion (λ t. bytes_eq text t ≡ false) kept)
    (λ differ. (not-true (bytes_eq text first) differ, without-differ text texts)) (λ _. without-differ text texts)

-- what holds of texts holds of those that are kept
all-without : (P : List ℕ → Type 0) (text : List ℕ) (texts : List (List ℕ)) → AllByRecursion P texts →
    AllByRecursion P (without text texts)
all-without P text [] all = tt
all-without P text (first ∷ texts) all =
    cond_both (not (bytes_eq text first)) (first ∷ without text texts) (without text texts) (AllByRecursion P)
    (λ _. (all.0, all-without P text texts all.1)) (λ _. all-without P text texts all.1)

-- of distinct texts those that are kept are distinct
distinct-without : (text : List ℕ) (texts : List (List ℕ)) → IsDistinct bytes_eq texts →
    IsDistinct bytes_eq (without text texts)
unfolding IsDistinct
distinct-without text [] distinct = tt
distinct-without text (first ∷ texts) distinct =
    cond_both (not (bytes_eq text first)) (first ∷ without text texts) (without text texts) (IsDistinct bytes_eq)
    (λ _. (all-without (λ t. bytes_eq first t ≡ false) text texts distinct.0, distinct-without text texts distinct.1))
    (λ _. distinct-without text texts distinct.1)

-- first uses are distinct
distinct-first_uses : (texts : List (List ℕ)) → IsDistinct bytes_eq (first_uses texts)
unfolding IsDistinct
distinct-first_uses [] = tt
distinct-first_uses (text ∷ texts) =
    (without-differ text (first_uses texts), distinct-without text (first_uses texts) (distinct-first_uses texts))

-- a table has no text twice
pub once : (texts : List (List ℕ)) → IsDistinct bytes_eq (string_table texts)
once texts = distinct-first_uses ([] ∷ texts)
