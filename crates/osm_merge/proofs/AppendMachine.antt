-- The joining of two streams grows, and its machines keep their rule.
use Rattle.std.proofs.Common.{◌≡◌, ◌⊎◌, inl, inr, ℕ, List, [], ◌∷◌, ◌++◌, true, false, cond, None, option_to_list, refl, sym, ap, ◌∙◌, append_assoc}
use Rattle.std.proofs.lemmas.List.{append-nil}
use Rattle.osm_entity.proofs.GrowthLemmas.{monotone, monotone_in_both}
use Rattle.osm_entity.proofs.PortLemmas.{end_of-none, fixed_before, has_end-fixed, items_of-fixed, none_before, stream_of-fixed}
use Rattle.osm_entity.proofs.StreamLemmas.{before_itself}
use Rattle.osm_entity.specs.Growth.{IsMonotone, IsMonotoneInBoth, broken_after}
use Rattle.osm_entity.specs.Items.{ItemValue as Item}
use Rattle.osm_entity.specs.Ports.{end_of, fixed, has_end, items_of, stream_of}
use Rattle.osm_entity.specs.Streams.{Stream, IsBefore}
use Rattle.osm_entity.specs.Tasks.{verdict_as}
use Rattle.osm_entity.specs.declared.stream.End.{End}
use Rattle.osm_entity.specs.declared.stream.End.TheVariants.{Done, Broken}
use Rattle.osm_entity.specs.declared.stream.Message.{Message}
use Rattle.osm_entity.specs.declared.stream.Want.TheVariants.{Take, Give, Ended}
use Rattle.osm_merge.specs.Append.{AppendStands, appending, end_appended, finish_appended, appended}
use Rattle.osm_merge.specs.Rules.{is_done}
use Rattle.osm_merge.specs.declared.append.Append.{Append}
use Rattle.osm_merge.proofs.TwoInputLemmas.{KeepsRuleOfTwo}
use Rattle.osm_merge.proofs.AppendCalls.{appended_broken, end_all, give_held, never_cut, never_pulls, no_end, runs, some_end, take_empty, take_some, verdict_by}

-- ---- the rule grows

appended_end : (xs us : List Item) (end : End) →
    cond (is_done end) (xs ++ us) xs ≡ xs ++ cond (is_done end) us []
appended_end xs us Done = refl
appended_end xs us Broken = sym (append-nil xs)

first_grows : (u : Stream) → IsMonotone (λ s. appended s u)
first_grows u = monotone (λ s. appended s u) (record {
  more = λ xs x. x ∷ [];
  item = λ xs x. refl;
  last = λ xs end. cond (is_done end) u.items [];
  ended = λ xs end. appended_end xs u.items end;
  broken = λ xs. refl;
})

second_by : (items : List Item) (end : End) → IsMonotone (appended (record { items = items; end = end }))
second_by items Done = monotone (appended (record { items = items; end = Done })) (record {
  more = λ xs x. x ∷ [];
  item = λ xs x. sym (append_assoc items xs (x ∷ []));
  last = λ xs end. [];
  ended = λ xs end. sym (append-nil (items ++ xs));
  broken = λ xs. refl;
})
second_by items Broken = λ s t before. before_itself (broken_after items)

pub appended_grows : IsMonotoneInBoth appended
appended_grows = monotone_in_both appended first_grows (λ s. second_by s.items s.end)

-- ---- its laws

module _ (a : Append) (x z y : List Message) (s : AppendStands a x z y) where
  is_before : IsBefore (stream_of y) (appended (stream_of x) (stream_of z))
  is_before = fixed_before y (option_to_list a.held) (appended (stream_of x) (stream_of z)) (has_end z) s.gave
      (λ going. ap (end_appended (end_of x)) (end_of-none z going) ∙ appended_broken (end_of x))

  gave_all : a.held ≡ None → fixed (has_end z) (appended (stream_of x) (stream_of z)) ≡ y
  gave_all none = s.gave ∙ ap (λ h. y ++ option_to_list h) none ∙ append-nil y

  all_over : appending.wanted a ≡ Ended → (has_end x ≡ true) × (has_end z ≡ true)
      × (fixed true (appended (stream_of x) (stream_of z)) ≡ y)
      × (appending.verdict a ≡ verdict_as 0 0 (finish_appended (stream_of x) (stream_of z)))
  all_over want =
      let all = end_all a.held a.first a.second want in
      let first = some_end (has_end x) (end_of x) all.1.0 (sym all.1.1 ∙ s.first) in
      let second = some_end (has_end z) (end_of z) all.2.0 (sym all.2.1 ∙ s.second) in (
        first.0,
        second.0,
        sym (ap (λ b. fixed b (appended (stream_of x) (stream_of z))) second.0) ∙ gave_all all.0,
        verdict_by a.held a.first a.second all.1.0 all.2.0 (end_of x) (end_of z) all.0 all.1.1 all.2.1 first.1 second.1,
      )

  takes_at : (port : ℕ) → appending.wanted a ≡ Take port →
      ((port ≡ 0) × (has_end x ≡ false)) ⊎ ((port ≡ 1) × (has_end z ≡ false))
  takes_at port want = by (take_empty a.held a.first a.second port want).1
    where
      by : ((port ≡ 0) × (a.first ≡ None)) ⊎ ((port ≡ 1) × (a.second ≡ None)) →
          ((port ≡ 0) × (has_end x ≡ false)) ⊎ ((port ≡ 1) × (has_end z ≡ false))
      by (inl at) = inl (at.0, no_end (has_end x) (end_of x) (sym at.1 ∙ s.first))
      by (inr at) = inr (at.0, no_end (has_end z) (end_of z) (sym at.1 ∙ s.second))

  turn_is : (port : ℕ) → appending.wanted a ≡ Take port → appending.turn x z port ≡ true
  turn_is port want = by (take_empty a.held a.first a.second port want).1
    where
      by : ((port ≡ 0) × (a.first ≡ None)) ⊎ ((port ≡ 1) × (a.second ≡ None)) → appending.turn x z port ≡ true
      by (inl at) = rw (at.0, no_end (has_end x) (end_of x) (sym at.1 ∙ s.first)) refl
      by (inr at) =
          let first = take_some a.held a.first a.second port want at.0 in
          rw (at.0, (some_end (has_end x) (end_of x) first.0 (sym first.1 ∙ s.first)).0) refl

  gives_at : (port : ℕ) → appending.wanted a ≡ Give port → (port ≡ 0) × (has_end y ≡ false)
  gives_at port want =
      let held = give_held a.held a.first a.second port want in (
        held.0,
        none_before y held.1.0 [] (appended (stream_of x) (stream_of z)) (has_end z)
            (s.gave ∙ ap (λ h. y ++ option_to_list h) held.1.1),
      )

-- machines of append-change keep their rule
pub append_keeps : KeepsRuleOfTwo appending
append_keeps = record {
  before = λ a x z y s. is_before a x z y s;
  ended = λ a x z y s want.
      let all = all_over a x z y s want in
      (all.0, all.1, sym (ap has_end all.2) ∙ has_end-fixed true (appended (stream_of x) (stream_of z)));
  whole = λ a x z y s want.
      sym (ap stream_of (all_over a x z y s want).2) ∙ stream_of-fixed (appended (stream_of x) (stream_of z));
  judged = λ a x z y s want. (all_over a x z y s want).3;
  takes = λ a x z y port s want. takes_at a x z y s port want;
  turns = λ a x z y port s want. turn_is a x z y s port want;
  given = λ a x z y port s want.
      sym (ap items_of (gave_all a x z y s (take_empty a.held a.first a.second port want).0))
      ∙ items_of-fixed (has_end z) (appended (stream_of x) (stream_of z));
  hands = λ a x z y port s want. gives_at a x z y s port want;
  running = λ a x z y s. runs a.held a.first a.second;
  never_pulls = λ a. never_pulls a.held a.first a.second;
  never_cut = λ a s t. never_cut (end_appended s.end t.end);
  monotone = λ a. appended_grows;
}
