-- A table of texts over a set of keys that hold them.
use Rattle.std.proofs.Common.{◌≡◌, ℕ, zero, suc, ◌+◌, ◌≤◌, List, [], ◌∷◌, ◌++◌, length, map, take, true, false, refl, sym, ap, ◌∙◌, subst, arith, cond, Some, None}
use Rattle.std.specs.Prelude.{◌||◌, not, bytes_eq, nat_lt}
use Rattle.std.specs.List.{AllByRecursion, IsDistinct, flat_map, list_any, position, position_or_len, slice_get}
use Rattle.std.proofs.lemmas.Bool.{cond_both, ltb-false, or_left, or_right}
use Rattle.std.proofs.lemmas.List.{map-append, take_all}
use Rattle.std.proofs.lemmas.List.Folds.{flat_map-map}
use Rattle.std.proofs.lemmas.List.Sums.{prefix_len-le-length}
use Rattle.indexmap.specs.IndexSet.{insert_key}
use Rattle.osm_wire.specs.Written.{written_field, written_message}
use Rattle.osm_block_write.specs.Columns.{bytes_field}
use Rattle.osm_block_write.specs.Tables.{text_number, with_text}
use Rattle.osm_block_write.proofs.TablesLemmas.{bytes_eq-self, bytes_eq-turned, with_text-known}

module _ {K : Type 0} (held : K → List ℕ) where
  -- the place of a text among keys is that among the texts that they hold
  text_number-map : (keys : List K) (text : List ℕ) →
      text_number (map held keys) text ≡ position_or_len (λ k. bytes_eq text (held k)) keys
  text_number-map [] text = refl
  text_number-map (k ∷ keys) text = ap (λ n. cond (not (bytes_eq text (held k))) (1 + n) 0) (text_number-map keys text)

  -- whether a key holds a text
  is_in-map : (keys : List K) (text : List ℕ) →
      list_any (bytes_eq text) (map held keys) ≡ list_any (λ k. bytes_eq text (held k)) keys
  is_in-map [] text = refl
  is_in-map (k ∷ keys) text = ap (λ b. bytes_eq text (held k) || b) (is_in-map keys text)

  -- the place at which a text is found is its number
  pub number-found : (keys : List K) (table : List (List ℕ)) (text : List ℕ) (n : ℕ) → map held keys ≡ table →
      Some n ≡ position (λ k. bytes_eq text (held k)) keys → n ≡ text_number table text
  number-found keys table text n holds found =
      let place = position_or_len (λ k. bytes_eq text (held k)) keys in
      cond_both (nat_lt place (length keys)) (Some place) None (λ r. Some n ≡ r → n ≡ place) (λ _ e. cc)
      (λ _ e. cc) found
      ∙ sym (text_number-map keys text) ∙ ap (λ t. text_number t text) holds

  -- the number of a text that isn't found is how many there are
  pub number-absent : (keys : List K) (table : List (List ℕ)) (text : List ℕ) → map held keys ≡ table →
      None ≡ position (λ k. bytes_eq text (held k)) keys → length keys ≡ text_number table text
  number-absent keys table text holds absent =
      let place = position_or_len (λ k. bytes_eq text (held k)) keys in
      cond_both (nat_lt place (length keys)) (Some place) None (λ r. None ≡ r → length keys ≡ place) (λ _ e. cc)
      (λ past e. omega (
        arith,
        ltb-false place (length keys) past,
        prefix_len-le-length (λ k. not (bytes_eq text (held k))) keys,
      )) absent ∙ sym (text_number-map keys text) ∙ ap (λ t. text_number t text) holds

  -- a text that is found leaves the table as it is
  pub table-found : (keys : List K) (table : List (List ℕ)) (text : List ℕ) → map held keys ≡ table →
      true ≡ list_any (λ k. bytes_eq text (held k)) keys → table ≡ with_text table text
  table-found keys table text holds found =
      sym (with_text-known table text (ap (list_any (bytes_eq text)) (sym holds) ∙ is_in-map keys text ∙ sym found))

  -- what holds of all keys holds of the one at a place
  all-at : (P : K → Type 0) (keys : List K) (n : ℕ) (k : K) → AllByRecursion P keys → slice_get keys n ≡ Some k → P k
  all-at P [] n k all is = absurd cc
  all-at P (first ∷ keys) zero k all is =
      let same : first ≡ k = cc in
      subst P same all.0
  all-at P (first ∷ keys) (suc n) k all is = all-at P keys n k all.1 is

  -- a key at a place among distinct ones is found there
  place-at : (keys : List K) (n : ℕ) (k : K) → IsDistinct (λ a b. bytes_eq (held a) (held b)) keys →
      slice_get keys n ≡ Some k → position_or_len (λ x. bytes_eq (held k) (held x)) keys ≡ n
  unfolding IsDistinct
  place-at [] n k distinct is = absurd cc
  place-at (first ∷ keys) zero k distinct is =
      let same : k ≡ first = cc in
      let own : bytes_eq (held k) (held first) ≡ true =
      ap (λ x. bytes_eq (held k) (held x)) (sym same) ∙ bytes_eq-self (held k) in
      rw own refl
  place-at (first ∷ keys) (suc n) k distinct is =
      let differ = all-at (λ x. bytes_eq (held first) (held x) ≡ false) keys n k distinct.0 is in
      let one : 1 + n ≡ suc n = omega arith in
      rw (bytes_eq-turned (held first) (held k) differ) (ap (λ i. 1 + i) (place-at keys n k distinct.1 is) ∙ one)

  -- a key at a place is among the keys
  is_in-at : (keys : List K) (n : ℕ) (k : K) → slice_get keys n ≡ Some k →
      list_any (λ x. bytes_eq (held k) (held x)) keys ≡ true
  is_in-at [] n k is = absurd cc
  is_in-at (first ∷ keys) zero k is =
      let same : k ≡ first = cc in
      or_left (bytes_eq (held k) (held first)) (list_any (λ x. bytes_eq (held k) (held x)) keys)
      (ap (λ x. bytes_eq (held k) (held x)) (sym same) ∙ bytes_eq-self (held k))
  is_in-at (first ∷ keys) (suc n) k is =
      or_right (bytes_eq (held k) (held first)) (list_any (λ x. bytes_eq (held k) (held x)) keys) (is_in-at keys n k is)

  -- the place at which a key holds a text is its number
  pub number-at : (keys : List K) (table : List (List ℕ)) (text : List ℕ) (n : ℕ) (k : K) → map held keys ≡ table →
      IsDistinct (λ a b. bytes_eq (held a) (held b)) keys → slice_get keys n ≡ Some k → held k ≡ text →
      n ≡ text_number table text
  number-at keys table text n k holds distinct is same =
      sym (place-at keys n k distinct is) ∙ ap (λ t. position_or_len (λ x. bytes_eq t (held x)) keys) same
      ∙ sym (text_number-map keys text) ∙ ap (λ t. text_number t text) holds

  -- a text that a key holds leaves the table as it is
  pub table-at : (keys : List K) (table : List (List ℕ)) (text : List ℕ) (n : ℕ) (k : K) → map held keys ≡ table →
      slice_get keys n ≡ Some k → held k ≡ text → table ≡ with_text table text
  table-at keys table text n k holds is same =
      table-found keys table text holds
      (sym (is_in-at keys n k is) ∙ ap (λ t. list_any (λ x. bytes_eq t (held x)) keys) same)

  -- a text that isn't found is none of the table's
  pub table-lacks : (keys : List K) (table : List (List ℕ)) (text : List ℕ) → map held keys ≡ table →
      false ≡ list_any (λ k. bytes_eq text (held k)) keys → list_any (bytes_eq text) table ≡ false
  table-lacks keys table text holds absent =
      ap (list_any (bytes_eq text)) (sym holds) ∙ is_in-map keys text ∙ sym absent

  -- a key that is put among keys that don't hold its text is put last
  pub table-pushed : (keys new : List K) (copy : K) (table : List (List ℕ)) (text : List ℕ) → map held keys ≡ table →
      list_any (bytes_eq text) table ≡ false → held copy ≡ text →
      new ≡ insert_key (λ a b. bytes_eq (held a) (held b)) keys copy → map held new ≡ table ++ text ∷ []
  table-pushed keys new copy table text holds absent is inserted =
      let lacks : list_any (λ k. bytes_eq (held copy) (held k)) keys ≡ false =
      rw is (sym (is_in-map keys text) ∙ ap (list_any (bytes_eq text)) holds ∙ absent) in
      ap (map held) (inserted ∙ rw lacks refl) ∙ map-append held keys (copy ∷ [])
      ∙ ap (λ first. first ++ held copy ∷ []) holds ∙ ap (λ t. table ++ t ∷ []) is

  -- the texts of keys, appended one by one as fields, are a string table
  pub table-loop : (keys : List K) (at : ℕ) (room : List ℕ) (table : List (List ℕ)) → length keys ≤ at →
      map held keys ≡ table → room ≡ flat_map (λ k. written_field (bytes_field 1 (held k))) (take at keys) →
      room ≡ written_message (map (bytes_field 1) table)
  table-loop keys at room table past holds is =
      is ∙ ap (flat_map (λ k. written_field (bytes_field 1 (held k)))) (take_all at keys past)
      ∙ sym (flat_map-map (λ text. written_field (bytes_field 1 text)) held keys)
      ∙ sym (flat_map-map written_field (bytes_field 1) (map held keys))
      ∙ ap (λ texts. written_message (map (bytes_field 1) texts)) holds
