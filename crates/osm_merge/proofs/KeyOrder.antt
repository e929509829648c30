-- Lemmas on the order of keys: by the tests that tell it, any two keys can be told apart.
use Rattle.std.proofs.Common.{◌≡◌, ◌⊎◌, inl, inr, true, false, refl, sym, ap, ◌∙◌}
use Rattle.std.proofs.lemmas.Bool.{eq-eqb as number_same, eqb-true as same_number, and_parts, and_from, false_from_ne_true, false≢true}
use Rattle.std.proofs.lemmas.Bool.Decides.{Decides-int_eq}
use Rattle.osm_entity.proofs.KeyLemmas.{keys_told, before_third, not_before_back, before_differs}
use Rattle.osm_entity.specs.Keys.{is_key_before, kind_rank}
use Rattle.osm_entity.specs.declared.kind.Key.{Key}
use Rattle.osm_entity.specs.declared.kind.Kind.{Kind}
use Rattle.osm_entity.specs.declared.kind.Kind.TheVariants.{Node, Way, Relation}
use Rattle.osm_merge.specs.Rules.{is_same_key}

-- one key stands before another, and doesn't stand behind it
abbrev pub Lt : Key → Key → Type 0
Lt a b = is_key_before a b ≡ true

abbrev pub Le : Key → Key → Type 0
Le a b = is_key_before b a ≡ false

pub lt_trans : (a b c : Key) → Lt a b → Lt b c → Lt a c
lt_trans a b c left right = before_third a b c left right

pub lt_le : (a b : Key) → Lt a b → Le a b
lt_le a b less = not_before_back a b less

pub lt_ne : (a b : Key) → Lt a b → a ≡ b → ⊥
lt_ne a b less same = before_differs a b less same

pub lt_ne_back : (a b : Key) → Lt a b → b ≡ a → ⊥
lt_ne_back a b less same = before_differs a b less (sym same)

pub le_refl : (a : Key) → Le a a
le_refl a = false_from_ne_true (is_key_before a a) (λ less. before_differs a a less refl)

pub eq_le : (a b : Key) → a ≡ b → Le a b
eq_le a b same = rw same (le_refl b)

pub eq_ge : (a b : Key) → b ≡ a → Le a b
eq_ge a b same = rw same (le_refl a)

pub not_both : (a b : Key) → Lt a b → Le b a → ⊥
not_both a b less le = false≢true (sym le ∙ less)

-- a key before another, equal to it, or behind it
pub keys_compare : (a b : Key) → (a ≡ b) ⊎ (Lt a b ⊎ Lt b a)
keys_compare a b = turned (keys_told a b)
  where
    turned : Lt a b ⊎ ((a ≡ b) ⊎ Lt b a) → (a ≡ b) ⊎ (Lt a b ⊎ Lt b a)
    turned (inl less) = inr (inl less)
    turned (inr (inl same)) = inl same
    turned (inr (inr more)) = inr (inr more)

pub le_lt : (a b c : Key) → Le a b → Lt b c → Lt a c
le_lt a b c le less = by (keys_compare a b)
  where
    by : (a ≡ b) ⊎ (Lt a b ⊎ Lt b a) → Lt a c
    by (inl same) = rw same less
    by (inr (inl before)) = lt_trans a b c before less
    by (inr (inr behind)) = absurd (not_both b a behind le)

pub lt_le_trans : (a b c : Key) → Lt a b → Le b c → Lt a c
lt_le_trans a b c less le = by (keys_compare b c)
  where
    by : (b ≡ c) ⊎ (Lt b c ⊎ Lt c b) → Lt a c
    by (inl same) = rw (← same) less
    by (inr (inl before)) = lt_trans a b c less before
    by (inr (inr behind)) = absurd (not_both c b behind le)

pub le_trans : (a b c : Key) → Le a b → Le b c → Le a c
le_trans a b c left right = false_from_ne_true (is_key_before c a)
    (λ less. not_both c b (lt_le_trans c a b less left) right)

pub keys_equal : (a b : Key) → (a ≡ b) ⊎ (a ≡ b → ⊥)
keys_equal a b = by (keys_compare a b)
  where
    by : (a ≡ b) ⊎ (Lt a b ⊎ Lt b a) → (a ≡ b) ⊎ (a ≡ b → ⊥)
    by (inl same) = inl same
    by (inr (inl before)) = inr (lt_ne a b before)
    by (inr (inr behind)) = inr (lt_ne_back b a behind)

pub ruleset order = (lt_trans, lt_le, le_refl, eq_le, eq_ge, lt_ne, lt_ne_back, not_both, le_lt, lt_le_trans, le_trans)

same_kind : (a b : Kind) → kind_rank a ≡ kind_rank b → a ≡ b
same_kind Node Node is = refl
same_kind Way Way is = refl
same_kind Relation Relation is = refl
same_kind Node Way is = cc
same_kind Node Relation is = cc
same_kind Way Node is = cc
same_kind Way Relation is = cc
same_kind Relation Node is = cc
same_kind Relation Way is = cc

-- the test of equal keys
pub same_key : (a b : Key) → is_same_key a b ≡ true → a ≡ b
unfolding is_same_key
same_key a b is =
    let parts = and_parts _ _ is in
    let kinds : a.kind ≡ b.kind = same_kind a.kind b.kind (same_number (kind_rank a.kind) (kind_rank b.kind) parts.0) in
    let ids : a.id ≡ b.id = (Decides-int_eq a.id b.id).0 parts.1 in
    λ i. record { kind = kinds i; id = ids i }

pub key_same : (a b : Key) → a ≡ b → is_same_key a b ≡ true
unfolding is_same_key
key_same a b same = and_from _ _
    (number_same (kind_rank a.kind) (kind_rank b.kind) (ap (λ (k : Key). kind_rank k.kind) same))
    ((Decides-int_eq a.id b.id).1 (ap (λ (k : Key). k.id) same))

pub key_other : (a b : Key) → (a ≡ b → ⊥) → is_same_key a b ≡ false
key_other a b other = false_from_ne_true (is_same_key a b) (λ is. other (same_key a b is))
