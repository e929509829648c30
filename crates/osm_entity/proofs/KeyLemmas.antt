-- Lemmas on the order of keys: it is strict and total, and the one by which keys are compared.
use Rattle.std.proofs.Common.{◌≡◌, ◌≢◌, ◌⊎◌, inl, inr, ℤ, Bool, true, false, refl, sym, ap, ◌∙◌, arith}
use Rattle.std.proofs.lemmas.Int.{ints}
use Rattle.std.specs.Ordering.{ordering_reverse}
use Rattle.std.specs.Prelude.{Some, int_lt, if◌then◌else◌}
use Rattle.std.specs.declared.cmp.Ordering.{Ordering}
use Rattle.std.specs.declared.cmp.Ordering.TheVariants.{Less, Equal, Greater}
use Rattle.osm_entity.specs.Keys.{is_key_before, key_order}
use Rattle.osm_entity.specs.contracts.kind.KeyOrd.TheImpl as compared
use Rattle.osm_entity.specs.contracts.kind.KeyPartialOrd.TheImpl as partly
use Rattle.osm_entity.specs.contracts.kind.KeyOrd.TheImpl.Laws as laws
use Rattle.osm_entity.specs.declared.kind.Kind.{Kind}
use Rattle.osm_entity.specs.declared.kind.Kind.TheVariants.{Node, Way, Relation}
use Rattle.osm_entity.specs.declared.kind.Key.{Key}

-- the key of this kind and id
abbrev key : Kind → ℤ → Key
key kind id = record { kind = kind; id = id }

cmp_by : (k l : Kind) (i j : ℤ) → compared.ghosts.cmp (key k i) (key l j) ≡ key_order (key k i) (key l j)
cmp_by Node Node i j = refl
cmp_by Node Way i j = refl
cmp_by Node Relation i j = refl
cmp_by Way Node i j = refl
cmp_by Way Way i j = refl
cmp_by Way Relation i j = refl
cmp_by Relation Node i j = refl
cmp_by Relation Way i j = refl
cmp_by Relation Relation i j = refl

-- keys are compared by their order
pub cmp_is : (a b : Key) → compared.ghosts.cmp a b ≡ key_order a b
cmp_is a b = cmp_by a.kind b.kind a.id b.id

partial_cmp_by : (k l : Kind) (i j : ℤ) →
    partly.ghosts.partial_cmp (key k i) (key l j) ≡ Some (key_order (key k i) (key l j))
partial_cmp_by Node Node i j = refl
partial_cmp_by Node Way i j = refl
partial_cmp_by Node Relation i j = refl
partial_cmp_by Way Node i j = refl
partial_cmp_by Way Way i j = refl
partial_cmp_by Way Relation i j = refl
partial_cmp_by Relation Node i j = refl
partial_cmp_by Relation Way i j = refl
partial_cmp_by Relation Relation i j = refl

-- and so by a partial comparison
pub partial_cmp_is : (a b : Key) → partly.ghosts.partial_cmp a b ≡ Some (key_order a b)
partial_cmp_is a b = partial_cmp_by a.kind b.kind a.id b.id

less_by : (p q : Bool) → (if p then Less else if q then Greater else Equal) ≡ Less → p ≡ true
less_by true q is = refl
less_by false true is = cc
less_by false false is = cc

-- two ids are equal, or one is below the other
ids_told : (i j : ℤ) → (int_lt i j ≡ true) ⊎ ((i ≡ j) ⊎ (int_lt j i ≡ true))
ids_told i j = grind (arith, ints)

one_kind : {P Q : Type 0} {i j : ℤ} (k : Kind) → P ⊎ ((i ≡ j) ⊎ Q) → P ⊎ ((key k i ≡ key k j) ⊎ Q)
one_kind k (inl first) = inl first
one_kind k (inr (inl same)) = inr (inl (ap (key k) same))
one_kind k (inr (inr second)) = inr (inr second)

told_by : (k l : Kind) (i j : ℤ) → (is_key_before (key k i) (key l j) ≡ true) ⊎
    ((key k i ≡ key l j) ⊎ (is_key_before (key l j) (key k i) ≡ true))
told_by Node Node i j = one_kind Node (ids_told i j)
told_by Node Way i j = inl refl
told_by Node Relation i j = inl refl
told_by Way Node i j = inr (inr refl)
told_by Way Way i j = one_kind Way (ids_told i j)
told_by Way Relation i j = inl refl
told_by Relation Node i j = inr (inr refl)
told_by Relation Way i j = inr (inr refl)
told_by Relation Relation i j = one_kind Relation (ids_told i j)

-- one of two keys stands before the other, or they are equal
pub keys_told : (a b : Key) → (is_key_before a b ≡ true) ⊎ ((a ≡ b) ⊎ (is_key_before b a ≡ true))
keys_told a b = told_by a.kind b.kind a.id b.id

less : (a b : Key) → is_key_before a b ≡ true → compared.ghosts.cmp a b ≡ Less
less a b is = cmp_is a b ∙ ap (λ test. if test then Less else if is_key_before b a then Greater else Equal) is

before : (a b : Key) → compared.ghosts.cmp a b ≡ Less → is_key_before a b ≡ true
before a b is = less_by (is_key_before a b) (is_key_before b a) (sym (cmp_is a b) ∙ is)

-- a key that is before one which is before a third is before that
pub before_third : (a b c : Key) → is_key_before a b ≡ true → is_key_before b c ≡ true → is_key_before a c ≡ true
before_third a b c left right = before a c (laws.total-law.trans a b c (less a b left) (less b c right))

not_both : (p q : Bool) (r : Ordering) → r ≡ Less →
    r ≡ ordering_reverse (if q then Less else if p then Greater else Equal) → q ≡ false
not_both p true r is turned = cc
not_both p false r is turned = refl

-- of two keys at most one is before the other
pub not_before_back : (a b : Key) → is_key_before a b ≡ true → is_key_before b a ≡ false
not_before_back a b is = not_both (is_key_before a b) (is_key_before b a) (compared.ghosts.cmp a b) (less a b is)
    (laws.total-law.antisymm a b ∙ ap ordering_reverse (cmp_is b a))

-- a key before another is another
pub before_differs : (a b : Key) → is_key_before a b ≡ true → a ≢ b
before_differs a b is same = let once : is_key_before b a ≡ false = not_before_back a b is in
    let twice : is_key_before b a ≡ true = rw (← same) (rw (← same) at is) in cc
