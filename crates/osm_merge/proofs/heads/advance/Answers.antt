use Rattle.std.proofs.Common.{◌∙◌, sym, ap, None, Some}
use Rattle.osm_merge.specs.Choices.{seen_from}
use Rattle.osm_merge.specs.Heads.{head_reaches}
use Rattle.osm_merge.specs.Rules.{is_before_last}
use Rattle.osm_merge.proofs.AdvanceLemmas.{advanced_beyond, advanced_before, advanced_to}
use Rattle.osm_merge.proofs.HeadLemmas.{seen_from_is}
use Rattle.osm_merge.proofs.heads.advance.Goals as goal

pub returns-then-not-reaches : goal.returns-then-not-reaches
returns-then-not-reaches g c x z given isnt none s = rw c.key-key.ensures
    (advanced_beyond (seen_from c.args.side (g.C.Chooser.chosen c.args.chooser.now))
    (seen_from_is c.args.side (g.C.Chooser.chosen c.args.chooser.now) (g.met.C.Chooser.good c.args.chooser.now))
    c.args.side c.args.own.now c.args.other.now x z given isnt none s c.args.item c.saturating_add-own.result
    c.requires c.saturating_add-own.ensures c.choose_from.result c.take.new.self
    (ap (head_reaches c.args.other.now) (sym c.key-key.ensures) ∙ sym c.reaches.ensures ∙ c.if-not-reaches.true)
    c.take.ensures.after
    (c.choose_from.ensures
    ∙ ap (seen_from c.args.side (g.C.Chooser.chosen c.args.chooser.now) None) c.take.ensures.value))

pub returns-then-has_passed : goal.returns-then-has_passed
returns-then-has_passed g c x z given isnt none s = rw c.key-key.ensures
    (advanced_before (seen_from c.args.side (g.C.Chooser.chosen c.args.chooser.now))
    (seen_from_is c.args.side (g.C.Chooser.chosen c.args.chooser.now) (g.met.C.Chooser.good c.args.chooser.now))
    c.args.side c.args.own.now c.args.other.now x z given isnt none s c.args.item c.saturating_add-own.result
    c.requires c.saturating_add-own.ensures c.choose_from-then-has_passed.result
    (ap (λ k. is_before_last k c.args.other.now.last) (sym c.key-key.ensures) ∙ sym c.has_passed.ensures
    ∙ c.if-has_passed.true)
    c.choose_from-then-has_passed.ensures)

pub returns : goal.returns
returns g c x z given isnt none s = rw c.key-key.ensures
    (advanced_to (seen_from c.args.side (g.C.Chooser.chosen c.args.chooser.now))
    (seen_from_is c.args.side (g.C.Chooser.chosen c.args.chooser.now) (g.met.C.Chooser.good c.args.chooser.now))
    c.args.side c.args.own.now c.args.other.now x z given isnt none s c.args.item c.saturating_add-own.result
    c.requires c.saturating_add-own.ensures c.choose_from-2.result c.take-2.new.self
    (ap (head_reaches c.args.other.now) (sym c.key-key.ensures) ∙ sym c.reaches.ensures ∙ c.if-not-reaches.false)
    (ap (λ k. is_before_last k c.args.other.now.last) (sym c.key-key.ensures) ∙ sym c.has_passed.ensures
    ∙ c.if-has_passed.false)
    c.take-2.ensures.after
    (c.choose_from-2.ensures
    ∙ ap (seen_from c.args.side (g.C.Chooser.chosen c.args.chooser.now) (Some c.args.item)) c.take-2.ensures.value))
