-- How the machine stands that passes its items on.
-- Here all that passed its two ports is known; the code has the ids that it kept, one message at most, and an end.
use Rattle.std.specs.Prelude.{◌≡◌, List, ◌++◌, length, fold, false, if◌then◌else◌, Option, Some, None, option_to_list}
use Rattle.osm_entity.specs.OneInput.{OneInput}
use Rattle.osm_entity.specs.Ports.{end_of, fixed, has_end, items_of, stream_of}
use Rattle.osm_entity.specs.Tasks.{verdict_as}
use Rattle.osm_entity.specs.declared.stream.End.{End}
use Rattle.osm_entity.specs.declared.stream.Message.{Message}
use Rattle.osm_entity.specs.declared.stream.Want.{Want}
use Rattle.osm_entity.specs.declared.stream.Want.TheVariants.{Take, Give, Ended}
use Rattle.osm_entity.specs.declared.verdict.Verdict.{Verdict}
use Rattle.osm_entity.specs.declared.verdict.Verdict.TheVariants.{Running, Memory}
use Rattle.osm_select.specs.Kept.{sets_of}
use Rattle.osm_select.specs.Kinds.{area_finish}
use Rattle.osm_select.specs.Order.{IsOrderOf, finish_in}
use Rattle.osm_select.specs.Passed.{kept_after, nothing_kept, stream_passed}
use Rattle.osm_select.specs.declared.order.Order.{Order}
use Rattle.osm_select.specs.declared.passing.Passing.{Passing}

-- all that its rule fixes was given or is held, it knows the end and the order of kinds, and while no kind went
-- back the ids that it kept; out of memory it stands for nothing
pub record PassingStands (p : Passing) (x y : List Message) : Type 0 where
  pub goes : p.stopped ≡ false
  pub given : fixed (has_end x) (stream_passed p.area p.clip (stream_of x)) ≡ y ++ option_to_list p.held
  pub met : p.end ≡ (if has_end x then Some (end_of x) else None)
  pub order : IsOrderOf p.order (items_of x)
  pub kept : p.order.fault ≡ None → sets_of p.kept ≡ fold (kept_after p.area) nothing_kept (items_of x)

-- it gives the message that it holds; with none it takes until the end came
abbrev pub passing_wants : Option Message → Option End → Want
passing_wants (Some message) end = Give 0
passing_wants None None = Take 0
passing_wants None (Some end) = Ended

-- it runs until it gave its end, and then tells how it ended
abbrev pub passing_ran : Order → Option Message → Option End → Verdict
passing_ran order (Some message) end = Running
passing_ran order None None = Running
passing_ran order None (Some end) = verdict_as 0 0 (finish_in order end)

-- out of memory it says so
abbrev pub passing_verdict : Passing → Verdict
passing_verdict p = if p.stopped then Memory else passing_ran p.order p.held p.end

-- the machine that passes its items on: it gives at once, and can still give the message that it holds
abbrev pub passing : OneInput Passing
passing = record {
  rule = λ p. stream_passed p.area p.clip;
  finish = λ p. area_finish;
  stands = PassingStands;
  wanted = λ p. passing_wants p.held p.end;
  verdict = passing_verdict;
  holds = λ p. false;
  left = λ p. length (option_to_list p.held);
}
