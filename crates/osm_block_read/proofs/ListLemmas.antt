-- Tags and members from their codes, code after code.
use Rattle.std.proofs.Common.{◌≡◌, ◌∙◌, ◌<◌, ◌≤◌, inl, inr, ◌+◌, ◌++◌, ◌∷◌, [], ℕ, ℤ, pos, ◌+ℤ◌, List, length, drop, map, get_or, refl, sym, ap, append_assoc, arith, min}
use Rattle.std.proofs.lemmas.List.{drop_more, drop_all, append-nil}
use Rattle.std.proofs.lemmas.Bool.{cases_lt}
use Rattle.std.specs.Int.{w64, int_wrap}
use Rattle.osm_wire.specs.Integers.{int32, uint32, unzigzagged}
use Rattle.osm_block_read.specs.ListCodes.{member_of_codes}
use Rattle.osm_block_read.specs.Numbers.{running}
use Rattle.osm_block_read.specs.Plain.{entry_members, entry_tags}
use Rattle.osm_block_read.specs.declared.entry.EntryMember.{EntryMember}
use Rattle.osm_block_read.specs.declared.entry.EntryTag.{EntryTag}
use Rattle.osm_block_read.proofs.SumLemmas.{running-wrapped}

-- a tag from the codes at a place, and those after it
pub entry_tags-more : (tags : List EntryTag) (keys values : List ℕ) (at : ℕ) → at < length keys → at < length values →
    (tags ++ record { key = pos (uint32 (get_or keys at 0)); value = pos (uint32 (get_or values at 0)) } ∷ [])
    ++ entry_tags (drop (at + 1) keys) (drop (at + 1) values)
    ≡ tags ++ entry_tags (drop at keys) (drop at values)
entry_tags-more tags keys values at in_keys in_values =
    append_assoc tags (record { key = pos (uint32 (get_or keys at 0)); value = pos (uint32 (get_or values at 0)) } ∷ [])
    (entry_tags (drop (at + 1) keys) (drop (at + 1) values))
    ∙ ap (λ more. tags ++ more) (sym (rw (drop_more keys at 0 in_keys, drop_more values at 0 in_values) refl))

no_tags : (keys : List ℕ) → entry_tags keys [] ≡ []
no_tags [] = refl
no_tags (key ∷ keys) = refl

-- no tags are left where one list has ended
pub entry_tags-end : (keys values : List ℕ) (at : ℕ) → min (length keys) (length values) ≤ at →
    entry_tags (drop at keys) (drop at values) ≡ []
entry_tags-end keys values at past = elim (cases_lt at (length keys)) [
  | inl within ↦ rw (drop_all at values (omega (arith, past, within))) (no_tags (drop at keys))
  | inr over ↦ rw (drop_all at keys over) refl
]

-- the ids from a sum on
abbrev pub ids_from : ℤ → List ℕ → List ℤ
ids_from last codes = map (int_wrap w64) (running last (map unzigzagged codes))

-- the ids from a sum on are the next, and those from it on
pub ids_from-more : (last next : ℤ) (codes : List ℕ) (at : ℕ) → at < length codes →
    next ≡ int_wrap w64 (last +ℤ unzigzagged (get_or codes at 0)) →
    ids_from last (drop at codes) ≡ next ∷ ids_from next (drop (at + 1) codes)
ids_from-more last next codes at within is =
    ap (ids_from last) (drop_more codes at 0 within)
    ∙ rw (is, running-wrapped w64 (last +ℤ unzigzagged (get_or codes at 0)) (map unzigzagged (drop (at + 1) codes)))
    refl

-- an id more behind those that were added; the sums may have gone through their bits
pub ids-more : (now new : List ℤ) (last held next kept : ℤ) (codes : List ℕ) (at : ℕ) (all : List ℤ) →
    at < length codes →
    new ≡ now ++ next ∷ [] → next ≡ int_wrap w64 (held +ℤ unzigzagged (get_or codes at 0)) →
    now ++ ids_from last (drop at codes) ≡ all → held ≡ last → kept ≡ next →
    new ++ ids_from kept (drop (at + 1) codes) ≡ all
ids-more now new last held next kept codes at all within got is before same stays =
    let sum : next ≡ int_wrap w64 (last +ℤ unzigzagged (get_or codes at 0)) =
    is ∙ ap (λ s. int_wrap w64 (s +ℤ unzigzagged (get_or codes at 0))) same in
    ap (λ s. new ++ ids_from s (drop (at + 1) codes)) stays
    ∙ ap (λ list. list ++ ids_from next (drop (at + 1) codes)) got
    ∙ append_assoc now (next ∷ []) (ids_from next (drop (at + 1) codes))
    ∙ ap (λ more. now ++ more) (sym (ids_from-more last next codes at within sum)) ∙ before

-- no ids are left past the last code
pub ids-end : (now : List ℤ) (last : ℤ) (codes : List ℕ) (at : ℕ) (all : List ℤ) → length codes ≤ at →
    now ++ ids_from last (drop at codes) ≡ all → now ≡ all
ids-end now last codes at all past is =
    sym (append-nil now) ∙ ap (λ left. now ++ ids_from last left) (sym (drop_all at codes past)) ∙ is

no_members : (kinds : List ℤ) (ids : List ℤ) → entry_members kinds ids [] ≡ []
no_members [] ids = refl
no_members (kind ∷ kinds) [] = refl
no_members (kind ∷ kinds) (id ∷ ids) = refl

no_ids : (kinds roles : List ℤ) → entry_members kinds [] roles ≡ []
no_ids [] roles = refl
no_ids (kind ∷ kinds) roles = refl

-- a member from the codes at a place, and those after it
pub entry_members-more : (members : List EntryMember) (last next : ℤ) (kinds ids roles : List ℕ) (at : ℕ) →
    at < length kinds → at < length ids → at < length roles →
    next ≡ int_wrap w64 (last +ℤ unzigzagged (get_or ids at 0)) →
    (members ++ record { kind = int32 (get_or kinds at 0); id = next; role = int32 (get_or roles at 0) } ∷ [])
    ++ entry_members (map int32 (drop (at + 1) kinds)) (ids_from next (drop (at + 1) ids))
    (map int32 (drop (at + 1) roles))
    ≡ members ++ entry_members (map int32 (drop at kinds)) (ids_from last (drop at ids)) (map int32 (drop at roles))
entry_members-more members last next kinds ids roles at in_kinds in_ids in_roles is =
    append_assoc members (record { kind = int32 (get_or kinds at 0); id = next; role = int32 (get_or roles at 0) } ∷ [])
    (entry_members (map int32 (drop (at + 1) kinds)) (ids_from next (drop (at + 1) ids))
    (map int32 (drop (at + 1) roles)))
    ∙ ap (λ more. members ++ more)
    (sym
    (rw (drop_more kinds at 0 in_kinds, ids_from-more last next ids at in_ids is, drop_more roles at 0 in_roles) refl))

-- no members are left where one list has ended
pub entry_members-end : (last : ℤ) (kinds ids roles : List ℕ) (at : ℕ) →
    min (min (length kinds) (length ids)) (length roles) ≤ at →
    entry_members (map int32 (drop at kinds)) (ids_from last (drop at ids)) (map int32 (drop at roles)) ≡ []
entry_members-end last kinds ids roles at past = elim (cases_lt at (length kinds)) [
  | inl in_kinds ↦ elim (cases_lt at (length ids)) [
    | inl in_ids ↦ rw (drop_all at roles (omega (arith, past, in_kinds, in_ids)))
        (no_members (map int32 (drop at kinds)) (ids_from last (drop at ids)))
    | inr over ↦ rw (drop_all at ids over) (no_ids (map int32 (drop at kinds)) (map int32 (drop at roles)))
  ]
  | inr over ↦ rw (drop_all at kinds over) refl
]

-- a member more behind those that were added; the sums may have gone through their bits
pub members-more : (now new : List EntryMember) (last held next kept : ℤ) (kinds ids roles : List ℕ) (at : ℕ)
    (all : List EntryMember)
    (member : EntryMember) → at < length kinds → at < length ids → at < length roles → new ≡ now ++ member ∷ [] →
    member ≡ member_of_codes (get_or kinds at 0) kept (get_or roles at 0) →
    next ≡ int_wrap w64 (held +ℤ unzigzagged (get_or ids at 0)) →
    now ++ entry_members (map int32 (drop at kinds)) (ids_from last (drop at ids)) (map int32 (drop at roles)) ≡ all →
    held ≡ last → kept ≡ next →
    new ++ entry_members (map int32 (drop (at + 1) kinds)) (ids_from kept (drop (at + 1) ids))
    (map int32 (drop (at + 1) roles)) ≡ all
members-more now new last held next kept kinds ids roles at all member in_kinds in_ids in_roles got made is before same
    stays =
    let sum : kept ≡ int_wrap w64 (last +ℤ unzigzagged (get_or ids at 0)) =
    stays ∙ is ∙ ap (λ s. int_wrap w64 (s +ℤ unzigzagged (get_or ids at 0))) same in
    ap
    (λ list. list ++ entry_members (map int32 (drop (at + 1) kinds)) (ids_from kept (drop (at + 1) ids))
    (map int32 (drop (at + 1) roles)))
    (got ∙ ap (λ m. now ++ m ∷ []) made)
    ∙ entry_members-more now last kept kinds ids roles at in_kinds in_ids in_roles sum ∙ before

-- no members are left where one list has ended
pub members-end : (now : List EntryMember) (last : ℤ) (kinds ids roles : List ℕ) (at : ℕ) (all : List EntryMember) →
    min (min (length kinds) (length ids)) (length roles) ≤ at →
    now ++ entry_members (map int32 (drop at kinds)) (ids_from last (drop at ids)) (map int32 (drop at roles)) ≡ all →
    now ≡ all
members-end now last kinds ids roles at all past is =
    sym (append-nil now) ∙ ap (λ more. now ++ more) (sym (entry_members-end last kinds ids roles at past)) ∙ is
