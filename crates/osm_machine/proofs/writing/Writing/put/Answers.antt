use Rattle.std.proofs.Common.{rules, ◌≡◌, None, ap, ◌∙◌}
use Rattle.std.specs.Prelude.{◌≢◌}
use Rattle.osm_entity.specs.declared.stream.Message.TheVariants.{Item as One}
use Rattle.osm_machine.specs.Writing.{WritingValue}
use Rattle.osm_machine.specs.declared.puts.Puts.TheVariants.{Good}
use Rattle.osm_machine.proofs.ResultLemmas.{OnErr-weaker, OnOk-weaker}
use Rattle.osm_machine.proofs.WritingLemmas.{drop_takes, put_item, put_stops, put_takes}
use Rattle.osm_machine.proofs.writing.Writing.put.Goals as goal

pub returns-then-not-is_good-clause-takes : goal.returns-then-not-is_good-clause-takes
returns-then-not-is_good-clause-takes g c =
    let bad : c.self.inside.puts ≢ Good = search rules in
    let open_end : c.self.inside.end ≡ None = ap (λ (v : WritingValue). v.end) c.self.view_is ∙ c.requires in
    rw (← c.self.view_is) (drop_takes _ (One c.args.item.now) c.self.inside.end bad open_end open_end)

pub returns-clause-takes : goal.returns-clause-takes
returns-clause-takes g c =
    let good : c.self.inside.puts ≡ Good = search rules in
    let open_end : c.self.inside.end ≡ None = ap (λ (v : WritingValue). v.end) c.self.view_is ∙ c.requires in
    OnOk-weaker c.go_on.result
    (λ runs. rw (← c.self.view_is) (put_takes _ (One c.args.item.now) c.self.inside.end c.put-put.new.self _ good open_end
    open_end c.put-put.result c.after-self-inside.result c.after-self-inside.ensures runs
    (put_item c.args.item.now c.self.inside.end open_end c.put-put.result c.self.inside.writer c.put-put.new.self _ _
    c.put-put.ensures.wrote c.put-put.ensures.some c.put-put.ensures.form c.put-put.ensures.faults)))
    c.go_on.ensures.ok

pub returns-clause-stops : goal.returns-clause-stops
returns-clause-stops g c =
    let good : c.self.inside.puts ≡ Good = search rules in
    let open_end : c.self.inside.end ≡ None = ap (λ (v : WritingValue). v.end) c.self.view_is ∙ c.requires in
    OnErr-weaker c.go_on.result
    (λ stops. rw (← c.self.view_is) (put_stops _ (One c.args.item.now) c.self.inside.end c.put-put.new.self _ good open_end
    open_end c.put-put.result c.after-self-inside.result c.after-self-inside.ensures stops
    (put_item c.args.item.now c.self.inside.end open_end c.put-put.result c.self.inside.writer c.put-put.new.self _ _
    c.put-put.ensures.wrote c.put-put.ensures.some c.put-put.ensures.form c.put-put.ensures.faults)))
    c.go_on.ensures.err
