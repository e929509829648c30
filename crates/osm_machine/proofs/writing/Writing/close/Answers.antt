use Rattle.std.proofs.Common.{rules, ◌≡◌, None, ap, refl, ◌∙◌}
use Rattle.std.specs.Prelude.{◌≢◌, Some}
use Rattle.osm_entity.specs.declared.stream.Message.TheVariants.{End as Last}
use Rattle.osm_machine.specs.Writing.{WritingValue}
use Rattle.osm_machine.specs.declared.puts.Puts.TheVariants.{Good}
use Rattle.osm_machine.proofs.ResultLemmas.{OnErr-weaker, OnOk-weaker}
use Rattle.osm_machine.proofs.WritingLemmas.{drop_takes, put_end, put_stops, put_takes}
use Rattle.osm_machine.proofs.writing.Writing.close.Goals as goal

pub returns-then-not-is_good-clause-takes : goal.returns-then-not-is_good-clause-takes
returns-then-not-is_good-clause-takes g c =
    let bad : c.self.inside.puts ≢ Good = search rules in
    let open_end : c.self.inside.end ≡ None = ap (λ (v : WritingValue). v.end) c.self.view_is ∙ c.requires in
    rw (← c.self.view_is) (drop_takes _ (Last c.args.end) (Some c.args.end) bad open_end refl)

pub returns-clause-takes : goal.returns-clause-takes
returns-clause-takes g c =
    let good : c.self.inside.puts ≡ Good = search rules in
    let open_end : c.self.inside.end ≡ None = ap (λ (v : WritingValue). v.end) c.self.view_is ∙ c.requires in
    OnOk-weaker c.go_on.result
    (λ runs. rw (← c.self.view_is) (put_takes _ (Last c.args.end) (Some c.args.end) c.end-put.new.self _ good open_end
    refl c.end-put.result c.after-self-inside.result c.after-self-inside.ensures runs
    (put_end c.args.end c.end-put.result c.self.inside.writer c.end-put.new.self _ _
    c.end-put.ensures.file c.end-put.ensures.some c.end-put.ensures.form c.end-put.ensures.faults)))
    c.go_on.ensures.ok

pub returns-clause-stops : goal.returns-clause-stops
returns-clause-stops g c =
    let good : c.self.inside.puts ≡ Good = search rules in
    let open_end : c.self.inside.end ≡ None = ap (λ (v : WritingValue). v.end) c.self.view_is ∙ c.requires in
    OnErr-weaker c.go_on.result
    (λ stops. rw (← c.self.view_is) (put_stops _ (Last c.args.end) (Some c.args.end) c.end-put.new.self _ good open_end
    refl c.end-put.result c.after-self-inside.result c.after-self-inside.ensures stops
    (put_end c.args.end c.end-put.result c.self.inside.writer c.end-put.new.self _ _
    c.end-put.ensures.file c.end-put.ensures.some c.end-put.ensures.form c.end-put.ensures.faults)))
    c.go_on.ensures.err
