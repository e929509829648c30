-- A step of a loop over a list, by what is still to come of it.
use Rattle.std.proofs.Common.{◌≡◌, ℕ, ◌+◌, ◌<◌, List, [], ◌∷◌, ◌++◌, length, drop, get_or, sym, ap, ◌∙◌, add-one, suc, append_assoc, append-nil, drop-cons}
use Rattle.osm_entity.specs.Prefixes.{IsPrefix}

-- what is to come of a list from an element on is that element, and what is to come behind it
pub drop-next : {T : Type 0} (items : List T) (at : ℕ) (item : T) → at < length items → item ≡ get_or items at item →
    drop at items ≡ item ∷ drop (at + 1) items
drop-next items at item within is =
    rw add-one (drop-cons items at item within ∙ ap (λ x. x ∷ drop (suc at) items) (sym is))

-- a list begins with itself
pub begins-itself : {T : Type 0} (a : List T) → IsPrefix a a
begins-itself a = record { rest = []; joined = sym (append-nil a) }

-- what begins a list begins it with more behind it
pub begins-more : {T : Type 0} (a b c new : List T) → IsPrefix a b → new ≡ b ++ c → IsPrefix a new
begins-more a b c new one is = record {
  rest = one.rest ++ c;
  joined = is ∙ ap (λ l. l ++ c) one.joined ∙ append_assoc a one.rest c;
}

-- a prefix of a prefix is one
pub begins-onward : {T : Type 0} (a b c : List T) → IsPrefix a b → IsPrefix b c → IsPrefix a c
begins-onward a b c one two = begins-more a b two.rest c one two.joined
