use Rattle.std.proofs.Common.{◌≡◌, ap, of_z, refl, rules, sym, to_z, w64, false, true, ◌∙◌}
use Rattle.std.proofs.lemmas.Int.{to_z-of_z}
use Rattle.std.proofs.lemmas.Result.{IfOk-weaker}
use Rattle.osm_area.specs.declared.area.Area.{Area}
use Rattle.osm_area.specs.declared.area.Area.TheVariants.{Box}
use Rattle.osm_entity.specs.OneInput.{meanings_of}
use Rattle.osm_entity.specs.declared.kind.Kind.TheVariants.{Node, Way}
use Rattle.osm_change.specs.Applying.{applying}
use Rattle.osm_change.specs.Changes.{laid_over}
use Rattle.osm_change.specs.Simplified.{stream_simplified}
use Rattle.osm_change.specs.Simplifying.{simplifying}
use Rattle.osm_filter.specs.Filtering.{filtering}
use Rattle.osm_filter.specs.Filters.{FilterOptions, filtered}
use Rattle.osm_merge.specs.Append.{appending}
use Rattle.osm_merge.specs.Choices.{chosen_by}
use Rattle.osm_merge.specs.Merging.{merging}
use Rattle.osm_merge.specs.TwoInputs.{meanings_of_two}
use Rattle.osm_select.specs.Selected.{area_selected}
use Rattle.osm_select.specs.Selecting.{selecting}
use Rattle.osm_sort.specs.Sorted.{stream_sorted}
use Rattle.osm_sort.specs.SortMachine.{sorting}
use Rattle.osm_used.specs.Used.{used_only}
use Rattle.osm_used.specs.Using.{keeping_used}
use Rattle.osm_machine.specs.Copying.{copying, copying_task}
use Rattle.osm_machine.specs.Emptying.{dropping, dropping_task, empty_task, emptying}
use Rattle.osm_machine.specs.Making.{made_task, making}
use Rattle.osm_machine.specs.TaskMeanings.{area_or_none, area_task, merge_task, rule_task}
use Rattle.osm_machine.specs.Writers.{form_of}
use Rattle.osm_machine.specs.Written.{PbfForm, writer_task}
use Rattle.osm_machine.specs.declared.kind.MachineKind.TheVariants.{Appends, Applies, Copies, Drops, Filters, Make, Merges, Nothing, Selects, Simplifies, Sorts, UsesNodes, UsesWays}
use Rattle.osm_machine.proofs.MachineParts.{appends_part, applies_part, copies_part, drops_part, filters_part, make_part, merges_part, simplifies_part, nothing_part, selects_part, sorts_part, uses_nodes_part, uses_ways_part}
use Rattle.osm_machine.proofs.MakingMachines.{area_machine, made_without, made_writer}
use Rattle.osm_machine.proofs.OptionLemmas.{options_of-itself}
use Rattle.osm_machine.proofs.machine_making.make_kind.Goals as goal

pub returns-in-ReadEmpty : goal.returns-in-ReadEmpty
returns-in-ReadEmpty g c = made_without c.args.kind.now _ c.in-ReadEmpty.is c.args.area c.args.source _ c.args.sink _ _ _ emptying Nothing nothing_part
    c.new.result (empty_task) refl refl c.requires.source c.requires.sink refl refl c.new.ensures (refl) refl

pub returns-in-ReadMade : goal.returns-in-ReadMade
returns-in-ReadMade g c = made_without c.args.kind.now _ c.in-ReadMade.is c.args.area c.args.source _ c.args.sink _ _ _ making Make make_part
    c.new-in-ReadMade.result (made_task c.in-ReadMade.count c.in-ReadMade.seed) refl refl c.requires.source c.requires.sink refl refl c.new-in-ReadMade.ensures.new (c.new-in-ReadMade.ensures.task) refl

pub returns-in_ok-pbf-in-WritePbf : goal.returns-in_ok-pbf-in-WritePbf
returns-in_ok-pbf-in-WritePbf g c =
    let form = c.in_ok-pbf-in-WritePbf.ensures.form in
    IfOk-weaker c.write.result _ _
    (λ m made. made_writer c.args.kind.now _ c.in-WritePbf.is c.args.area c.args.source _ c.args.sink _ _ m
    (writer_task (form_of c.in_ok-pbf-in-WritePbf.field-0)) refl c.requires.source
    (ap (λ options. writer_task (PbfForm options)) (options_of-itself (record {
      batchlimit = c.in-WritePbf.batchlimit;
      usedense = c.in-WritePbf.usedense;
      omitmetadata = c.in-WritePbf.omitmetadata;
      granularity = c.in-WritePbf.granularity;
      some = _;
      few = _;
      fine = _;
      coarse = _;
    })) ∙ sym (ap writer_task form)) made) c.write.ensures

pub returns-in-WriteNull : goal.returns-in-WriteNull
returns-in-WriteNull g c = made_without c.args.kind.now _ c.in-WriteNull.is c.args.area c.args.source _ c.args.sink _ _ _ dropping Drops drops_part
    c.new-in-WriteNull.result (dropping_task) refl refl c.requires.source c.requires.sink refl refl c.new-in-WriteNull.ensures (refl) refl

pub returns-in-Tee : goal.returns-in-Tee
returns-in-Tee g c = made_without c.args.kind.now _ c.in-Tee.is c.args.area c.args.source _ c.args.sink _ _ _ copying Copies copies_part
    c.new-in-Tee.result (copying_task c.in-Tee.outputs) refl refl c.requires.source c.requires.sink refl refl c.new-in-Tee.ensures.new (c.new-in-Tee.ensures.task) refl

pub returns-in_ok-new-in-TagFilter : goal.returns-in_ok-new-in-TagFilter
returns-in_ok-new-in-TagFilter g c =
    let tests = c.in_ok-tests-in-TagFilter.ensures ∙ c.as_slice.ensures in
    let same = c.in_ok-new-in-TagFilter.ensures.options ∙ ap (λ all.
    let o : FilterOptions = record { accept = c.in-TagFilter.accept; kind = c.in-TagFilter.kind; tests = all } in o) tests in
    made_without c.args.kind.now _ c.in-TagFilter.is c.args.area c.args.source _ c.args.sink _ _ _ (meanings_of filtering) Filters
    filters_part c.in_ok-new-in-TagFilter.field-0 _ refl refl c.requires.source c.requires.sink refl refl
    c.in_ok-new-in-TagFilter.ensures.new (ap (λ o. rule_task false (filtered o)) same) refl

pub returns-in_ok-new-in-UsedNode : goal.returns-in_ok-new-in-UsedNode
returns-in_ok-new-in-UsedNode g c = made_without c.args.kind.now _ c.in-UsedNode.is c.args.area c.args.source _ c.args.sink _ _ _ (meanings_of keeping_used) UsesNodes uses_nodes_part
    c.in_ok-new-in-UsedNode.field-0 (rule_task true (used_only Node)) refl refl c.requires.source c.requires.sink refl refl c.in_ok-new-in-UsedNode.ensures.new (ap (λ kind. rule_task true (used_only kind)) c.in_ok-new-in-UsedNode.ensures.kind) refl

pub returns-in_ok-new-in-UsedWay : goal.returns-in_ok-new-in-UsedWay
returns-in_ok-new-in-UsedWay g c = made_without c.args.kind.now _ c.in-UsedWay.is c.args.area c.args.source _ c.args.sink _ _ _ (meanings_of keeping_used) UsesWays uses_ways_part
    c.in_ok-new-in-UsedWay.field-0 (rule_task true (used_only Way)) refl refl c.requires.source c.requires.sink refl refl c.in_ok-new-in-UsedWay.ensures.new (ap (λ kind. rule_task true (used_only kind)) c.in_ok-new-in-UsedWay.ensures.kind) refl

pub returns-in_ok-new-in-Sort : goal.returns-in_ok-new-in-Sort
returns-in_ok-new-in-Sort g c = made_without c.args.kind.now _ c.in-Sort.is c.args.area c.args.source _ c.args.sink _ _ _ (meanings_of sorting) Sorts sorts_part
    c.in_ok-new-in-Sort.field-0 (rule_task true stream_sorted) refl refl c.requires.source c.requires.sink refl refl c.in_ok-new-in-Sort.ensures.new (refl) refl

pub returns-in_ok-new-in-SortChange : goal.returns-in_ok-new-in-SortChange
returns-in_ok-new-in-SortChange g c = made_without c.args.kind.now _ c.in-SortChange.is c.args.area c.args.source _ c.args.sink _ _ _ (meanings_of sorting) Sorts sorts_part
    c.in_ok-new-in-SortChange.field-0 (rule_task true stream_sorted) refl refl c.requires.source c.requires.sink refl refl c.in_ok-new-in-SortChange.ensures.new (refl) refl

pub returns-in-Spool : goal.returns-in-Spool
returns-in-Spool g c = made_without c.args.kind.now _ c.in-Spool.is c.args.area c.args.source _ c.args.sink _ _ _ copying Copies copies_part
    c.new-in-Spool.result (copying_task 1) refl refl c.requires.source c.requires.sink refl refl c.new-in-Spool.ensures.new (c.new-in-Spool.ensures.task) refl

pub returns-in-Buffer : goal.returns-in-Buffer
returns-in-Buffer g c = made_without c.args.kind.now _ c.in-Buffer.is c.args.area c.args.source _ c.args.sink _ _ _ copying Copies copies_part
    c.new-in-Buffer.result (copying_task 1) refl refl c.requires.source c.requires.sink refl refl c.new-in-Buffer.ensures.new (c.new-in-Buffer.ensures.task) refl

pub returns-in_ok-new-in-Merge : goal.returns-in_ok-new-in-Merge
returns-in_ok-new-in-Merge g c = made_without c.args.kind.now _ c.in-Merge.is c.args.area c.args.source _ c.args.sink _ _ _ (meanings_of_two merging) Merges merges_part
    c.in_ok-new-in-Merge.field-0 (merge_task (chosen_by c.in-Merge.resolution)) refl refl c.requires.source c.requires.sink refl refl c.in_ok-new-in-Merge.ensures.new (ap (λ r. merge_task (chosen_by r)) c.in_ok-new-in-Merge.ensures.resolution) refl

pub returns-in_ok-new-in-MergeChange : goal.returns-in_ok-new-in-MergeChange
returns-in_ok-new-in-MergeChange g c = made_without c.args.kind.now _ c.in-MergeChange.is c.args.area c.args.source _ c.args.sink _ _ _ (meanings_of_two merging) Merges merges_part
    c.in_ok-new-in-MergeChange.field-0 (merge_task (chosen_by c.in-MergeChange.resolution)) refl refl c.requires.source c.requires.sink refl refl c.in_ok-new-in-MergeChange.ensures.new (ap (λ r. merge_task (chosen_by r)) c.in_ok-new-in-MergeChange.ensures.resolution) refl

pub returns-in_ok-new-in-AppendChange : goal.returns-in_ok-new-in-AppendChange
returns-in_ok-new-in-AppendChange g c = made_without c.args.kind.now _ c.in-AppendChange.is c.args.area c.args.source _ c.args.sink _ _ _ (meanings_of_two appending) Appends appends_part
    c.in_ok-new-in-AppendChange.field-0 (_) refl refl c.requires.source c.requires.sink refl refl c.in_ok-new-in-AppendChange.ensures.new (refl) refl

pub returns-in_ok-new-in-ApplyChange : goal.returns-in_ok-new-in-ApplyChange
returns-in_ok-new-in-ApplyChange g c = made_without c.args.kind.now _ c.in-ApplyChange.is c.args.area c.args.source _ c.args.sink _ _ _ (meanings_of_two applying) Applies applies_part
    c.in_ok-new-in-ApplyChange.field-0 (merge_task laid_over) refl refl c.requires.source c.requires.sink refl refl c.in_ok-new-in-ApplyChange.ensures.new (refl) refl

pub returns-in_ok-new-in-SimplifyChange : goal.returns-in_ok-new-in-SimplifyChange
returns-in_ok-new-in-SimplifyChange g c = made_without c.args.kind.now _ c.in-SimplifyChange.is c.args.area c.args.source _ c.args.sink _ _ _ (meanings_of simplifying) Simplifies simplifies_part
    c.in_ok-new-in-SimplifyChange.field-0 (rule_task true stream_simplified) refl refl c.requires.source c.requires.sink refl refl c.in_ok-new-in-SimplifyChange.ensures.new (refl) refl

pub returns-in_ok-new-in-BoundingBox : goal.returns-in_ok-new-in-BoundingBox
returns-in_ok-new-in-BoundingBox g c =
    let at = c.in-BoundingBox in
    let left : to_z w64 (of_z w64 at.left) ≡ at.left = search (rules, to_z-of_z) in
    let right : to_z w64 (of_z w64 at.right) ≡ at.right = search (rules, to_z-of_z) in
    let top : to_z w64 (of_z w64 at.top) ≡ at.top = search (rules, to_z-of_z) in
    let bottom : to_z w64 (of_z w64 at.bottom) ≡ at.bottom = search (rules, to_z-of_z) in
    let copied : Area = Box (to_z w64 (of_z w64 at.left)) (to_z w64 (of_z w64 at.right)) (to_z w64 (of_z w64 at.top))
    (to_z w64 (of_z w64 at.bottom)) in
    let area : Area = Box at.left at.right at.top at.bottom in
    let same : copied ≡ area = λ i. Box (left i) (right i) (top i) (bottom i) in
    made_without c.args.kind.now _ at.is c.args.area c.args.source _ c.args.sink _ _ _ (meanings_of selecting) Selects
    selects_part c.in_ok-new-in-BoundingBox.field-0 (area_task area at.options) refl refl c.requires.source
    c.requires.sink refl refl c.in_ok-new-in-BoundingBox.ensures.new
    (area_machine copied at.options c.in_ok-new-in-BoundingBox.field-0 c.in_ok-new-in-BoundingBox.ensures.rule
    c.in_ok-new-in-BoundingBox.ensures.holds ∙ ap (λ box. area_task box at.options) same) refl

pub returns-in_ok-new-in-BoundingPolygon : goal.returns-in_ok-new-in-BoundingPolygon
returns-in_ok-new-in-BoundingPolygon g c =
    let at = c.in-BoundingPolygon in
    let area : Area = area_or_none c.args.area in
    made_without c.args.kind.now _ at.is c.args.area c.args.source _ c.args.sink _ _ _ (meanings_of selecting) Selects
    selects_part c.in_ok-new-in-BoundingPolygon.field-0 (area_task area at.options) refl refl c.requires.source
    c.requires.sink refl refl c.in_ok-new-in-BoundingPolygon.ensures.new
    (area_machine area at.options c.in_ok-new-in-BoundingPolygon.field-0
    (c.in_ok-new-in-BoundingPolygon.ensures.rule
    ∙ ap (λ given. area_selected given at.options) c.area_given-area.ensures)
    c.in_ok-new-in-BoundingPolygon.ensures.holds) refl
