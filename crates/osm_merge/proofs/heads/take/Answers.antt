use Rattle.std.proofs.Common.{◌∙◌, sym, ap, None}
use Rattle.osm_merge.specs.Choices.{seen_from}
use Rattle.osm_merge.specs.Rules.{is_above}
use Rattle.osm_merge.proofs.HeadLemmas.{seen_from_is}
use Rattle.osm_merge.proofs.TakeLemmas.{end_dropped, end_refused, end_taken, item_dropped, item_refused, item_taken}
use Rattle.osm_merge.proofs.heads.take.Goals as goal

pub returns-then-is_some : goal.returns-then-is_some
returns-then-is_some g c x z given isnt turn s =
    item_dropped (seen_from c.args.side (g.C.Chooser.chosen c.args.chooser.now))
    (seen_from_is c.args.side (g.C.Chooser.chosen c.args.chooser.now) (g.met.C.Chooser.good c.args.chooser.now))
    c.args.side c.args.own.now c.args.other.now c.args.cut.now c.args.message x z given isnt turn s
    c.in-Item.item c.in-Item.is (sym c.is_some.ensures ∙ c.if-is_some.true)

pub returns-then-is_next : goal.returns-then-is_next
returns-then-is_next g c x z given isnt turn s =
    item_taken (seen_from c.args.side (g.C.Chooser.chosen c.args.chooser.now))
    (seen_from_is c.args.side (g.C.Chooser.chosen c.args.chooser.now) (g.met.C.Chooser.good c.args.chooser.now))
    c.args.side c.args.own.now c.args.other.now c.args.cut.now c.args.message x z given isnt turn s
    c.in-Item.item c.advance.new.own c.advance.new.other c.advance.result c.in-Item.is
    (sym c.is_some.ensures ∙ c.if-is_some.false) (λ none stood. c.advance.ensures x z given isnt none stood)

pub returns-else-is_next : goal.returns-else-is_next
returns-else-is_next g c x z given isnt turn s =
    item_refused (seen_from c.args.side (g.C.Chooser.chosen c.args.chooser.now))
    (seen_from_is c.args.side (g.C.Chooser.chosen c.args.chooser.now) (g.met.C.Chooser.good c.args.chooser.now))
    c.args.side c.args.own.now c.args.other.now c.args.cut.now c.args.message x z given isnt turn s
    c.in-Item.item c.out_of_order.result c.in-Item.is (sym c.is_some.ensures ∙ c.if-is_some.false)
    (ap (is_above c.args.own.now.last) (sym c.key.ensures) ∙ sym c.is_next.ensures ∙ c.if-is_next.false)
    c.out_of_order.ensures

pub returns-then-is_some-2 : goal.returns-then-is_some-2
returns-then-is_some-2 g c x z given isnt turn s =
    end_dropped (seen_from c.args.side (g.C.Chooser.chosen c.args.chooser.now))
    (seen_from_is c.args.side (g.C.Chooser.chosen c.args.chooser.now) (g.met.C.Chooser.good c.args.chooser.now))
    c.args.side c.args.own.now c.args.other.now c.args.cut.now c.args.message x z given isnt turn s
    c.in-End.end c.in-End.is (sym c.is_some-in-End.ensures ∙ c.if-is_some-2.true)

pub returns-in-Done : goal.returns-in-Done
returns-in-Done g c x z given isnt turn s =
    end_taken (seen_from c.args.side (g.C.Chooser.chosen c.args.chooser.now))
    (seen_from_is c.args.side (g.C.Chooser.chosen c.args.chooser.now) (g.met.C.Chooser.good c.args.chooser.now))
    c.args.side c.args.own.now c.args.other.now c.args.cut.now c.args.message x z given isnt turn s
    c.in-End.end c.choose_from.result c.take.new.self c.in-End.is c.in-Done.is
    (sym c.is_some-in-End.ensures ∙ c.if-is_some-2.false) c.take.ensures.after
    (c.choose_from.ensures
    ∙ ap (seen_from c.args.side (g.C.Chooser.chosen c.args.chooser.now) None) c.take.ensures.value)

pub returns-in-Broken : goal.returns-in-Broken
returns-in-Broken g c x z given isnt turn s =
    end_refused (seen_from c.args.side (g.C.Chooser.chosen c.args.chooser.now))
    (seen_from_is c.args.side (g.C.Chooser.chosen c.args.chooser.now) (g.met.C.Chooser.good c.args.chooser.now))
    c.args.side c.args.own.now c.args.other.now c.args.cut.now c.args.message x z given isnt turn s
    c.in-End.end c.in-End.is c.in-Broken.is (sym c.is_some-in-End.ensures ∙ c.if-is_some-2.false)
