-- How the machine of a tag filter stands.
-- Here all that passed its two ports is known; the code has one message at most, and the end that came.
use Rattle.std.specs.Prelude.{◌≡◌, List, ◌++◌, length, false, if◌then◌else◌, Option, Some, None, option_to_list}
use Rattle.osm_entity.specs.Meaning.{finish_after}
use Rattle.osm_entity.specs.OneInput.{OneInput}
use Rattle.osm_entity.specs.Ports.{end_of, fixed, has_end, stream_of}
use Rattle.osm_entity.specs.Tasks.{verdict_as}
use Rattle.osm_entity.specs.declared.stream.End.{End}
use Rattle.osm_entity.specs.declared.stream.Message.{Message}
use Rattle.osm_entity.specs.declared.stream.Want.{Want}
use Rattle.osm_entity.specs.declared.stream.Want.TheVariants.{Take, Give, Ended}
use Rattle.osm_entity.specs.declared.verdict.Verdict.{Verdict}
use Rattle.osm_entity.specs.declared.verdict.Verdict.TheVariants.{Running}
use Rattle.osm_filter.specs.Filters.{FilterOptions, filtered}

-- a filter: what is asked of it, the message that it has to give, and the end that came
pub record FilterValue : Type 0 where
  pub options : FilterOptions
  pub held : Option Message
  pub end : Option End

-- all that its rule fixes of what it took was given or is held, and it knows the end that came
pub record FilterStands (f : FilterValue) (x y : List Message) : Type 0 where
  pub given : fixed (has_end x) (filtered f.options (stream_of x)) ≡ y ++ option_to_list f.held
  pub met : f.end ≡ (if has_end x then Some (end_of x) else None)

-- a filter gives the message that it holds; with none it takes until the end came
abbrev pub filter_wants : Option Message → Option End → Want
filter_wants (Some message) end = Give 0
filter_wants None None = Take 0
filter_wants None (Some end) = Ended

-- a filter runs until it gave its end; then it is clean, or passed a broken end on
abbrev pub filter_verdict : Option Message → Option End → Verdict
filter_verdict (Some message) end = Running
filter_verdict None None = Running
filter_verdict None (Some end) = verdict_as 0 0 (finish_after end)

-- the machine of a tag filter: it gives at once, and can still give the message that it holds
abbrev pub filtering : OneInput FilterValue
filtering = record {
  rule = λ f. filtered f.options;
  finish = λ f s. finish_after s.end;
  stands = FilterStands;
  wanted = λ f. filter_wants f.held f.end;
  verdict = λ f. filter_verdict f.held f.end;
  holds = λ f. false;
  left = λ f. length (option_to_list f.held);
}
