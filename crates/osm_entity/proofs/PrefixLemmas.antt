-- Lemmas on prefixes of lists.
use Rattle.std.proofs.Common.{◌≡◌, ℕ, List, [], ◌∷◌, ◌++◌, length, take, drop, refl, sym, ap, ◌∙◌, arith, append_assoc}
use Rattle.std.proofs.lemmas.List.{append-nil, length-append, take-append-drop}
use Rattle.osm_entity.specs.Prefixes.{IsPrefix}

-- each list is a prefix of itself
pub prefix_itself : {T : Type 0} (xs : List T) → IsPrefix xs xs
prefix_itself xs = record { rest = []; joined = sym (append-nil xs) }

-- no elements are a prefix of any list
pub prefix_none : {T : Type 0} (xs : List T) → IsPrefix [] xs
prefix_none xs = record { rest = xs; joined = refl }

-- a list is a prefix of it with more behind
pub prefix_append : {T : Type 0} (xs ys : List T) → IsPrefix xs (xs ++ ys)
prefix_append xs ys = record { rest = ys; joined = refl }

-- the first n elements are a prefix
pub prefix_take : {T : Type 0} (n : ℕ) (xs : List T) → IsPrefix (take n xs) xs
prefix_take n xs = record { rest = drop n xs; joined = sym (take-append-drop n xs) }

-- a prefix of a prefix is a prefix
pub prefix_onward : {T : Type 0} (xs ys zs : List T) → IsPrefix xs ys → IsPrefix ys zs → IsPrefix xs zs
prefix_onward xs ys zs left right = record {
  rest = left.rest ++ right.rest;
  joined = right.joined ∙ ap (λ list. list ++ right.rest) left.joined ∙ append_assoc xs left.rest right.rest;
}

no_rest : {T : Type 0} (xs rest other : List T) → xs ≡ (xs ++ rest) ++ other → rest ≡ []
no_rest xs [] other is = refl
no_rest xs (x ∷ rest) other is =
    absurd (omega (arith, ap length is, length-append (xs ++ x ∷ rest) other, length-append xs (x ∷ rest)))

-- two lists that are prefixes of each other are one
pub prefix_both : {T : Type 0} (xs ys : List T) → IsPrefix xs ys → IsPrefix ys xs → xs ≡ ys
prefix_both xs ys left right =
    let none : left.rest ≡ [] =
    no_rest xs left.rest right.rest (right.joined ∙ ap (λ list. list ++ right.rest) left.joined) in
    sym (left.joined ∙ ap (λ rest. xs ++ rest) none ∙ append-nil xs)
