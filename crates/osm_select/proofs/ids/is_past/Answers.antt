use Rattle.std.proofs.Common.{◌≡◌, of_z, rules, subst, to_z, true, w64}
use Rattle.std.specs.Prelude.{int_lt}
use Rattle.std.proofs.lemmas.Int.{to_z-of_z}
use Rattle.osm_select.proofs.RisingLemmas.{past_last}
use Rattle.osm_select.proofs.ids.is_past.Goals as goal

pub returns-in-Some : goal.returns-in-Some
returns-in-Some c = λ less.
    let last = c.in-Some.last.now in
    let same : to_z w64 (of_z w64 c.args.id) ≡ c.args.id = search (rules, to_z-of_z) in
    let last_same : to_z w64 (of_z w64 last) ≡ last = search (rules, to_z-of_z) in
    past_last c.args.rising.now last c.args.id c.requires (search rules)
    (subst (λ n. int_lt last n ≡ true) same
    (subst (λ n. int_lt n (to_z w64 (of_z w64 c.args.id)) ≡ true) last_same less))
