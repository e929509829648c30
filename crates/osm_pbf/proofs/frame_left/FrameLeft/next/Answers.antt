use Rattle.std.proofs.Common.{◌≡◌, Ok, refl, sym, ap, subst, ◌∙◌}
use Rattle.osm_block_read.specs.Block.{block_said}
use Rattle.osm_pbf.specs.FrameLeft.{said_at}
use Rattle.osm_pbf.proofs.FrameLeftLemmas.{answers_memory, answers_planned}
use Rattle.osm_pbf.proofs.frame_left.FrameLeft.next.Goals as goal

pub returns-in_err-next_planned-in-Unchecked : goal.returns-in_err-next_planned-in-Unchecked
returns-in_err-next_planned-in-Unchecked c =
    let plan = c.check_block.new.plan in
    let was : c.args.self.now ≡ Ok plan =
    sym c.self.view_is
    ∙ ap (λ stage. said_at stage c.self.inside.raw c.self.inside.plan) c.in-Unchecked.is
    ∙ subst (λ bytes. block_said bytes ≡ Ok plan) c.as_slice.ensures
    c.in_ok-check_block-in-Unchecked.ensures.items in
    answers_memory _ _ _ (c.from_residual-in_err-next_planned-in-Unchecked.ensures.1)
    (ap Ok c.in_err-next_planned-in-Unchecked.ensures.err ∙ sym was)

pub returns-in_ok-next_planned-in-Unchecked : goal.returns-in_ok-next_planned-in-Unchecked
returns-in_ok-next_planned-in-Unchecked c =
    let plan = c.check_block.new.plan in
    let was : c.args.self.now ≡ Ok plan =
    sym c.self.view_is
    ∙ ap (λ stage. said_at stage c.self.inside.raw c.self.inside.plan) c.in-Unchecked.is
    ∙ subst (λ bytes. block_said bytes ≡ Ok plan) c.as_slice.ensures
    c.in_ok-check_block-in-Unchecked.ensures.items in
    answers_planned _ _ plan c.next_planned.new.plan c.in_ok-next_planned-in-Unchecked.field-0 was refl
    c.in_ok-next_planned-in-Unchecked.ensures.some c.in_ok-next_planned-in-Unchecked.ensures.none
    c.in_ok-next_planned-in-Unchecked.ensures.ended

pub returns-in_ok-next_planned-in-Checked : goal.returns-in_ok-next_planned-in-Checked
returns-in_ok-next_planned-in-Checked c =
    let raw = c.self.inside.raw in
    answers_planned _ _ c.self.inside.plan c.next_planned-in-Checked.new.plan
    c.in_ok-next_planned-in-Checked.field-0
    (sym c.self.view_is ∙ ap (λ stage. said_at stage raw c.self.inside.plan) c.in-Checked.is)
    (ap (λ stage. said_at stage raw c.next_planned-in-Checked.new.plan) c.in-Checked.is)
    c.in_ok-next_planned-in-Checked.ensures.some c.in_ok-next_planned-in-Checked.ensures.none
    c.in_ok-next_planned-in-Checked.ensures.ended
