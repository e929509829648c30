-- A machine that passes each message on meets the contract: it keeps its rule and is lawful, and so do its calls.
use Rattle.std.proofs.Common.{◌≡◌, ℕ, List, [], ◌∷◌, ◌++◌, length, Bool, true, false, Option, Some, None, option_to_list, refl, sym, ap, subst, ◌∙◌, arith}
use Rattle.std.specs.Prelude.{◌≢◌, ◌↔◌, if◌then◌else◌}
use Rattle.std.proofs.lemmas.List.{append-nil}
use Rattle.osm_entity.specs.Calls.{Takes, Gives}
use Rattle.osm_entity.specs.Machines.{AreLawful, IsNew}
use Rattle.osm_entity.specs.Meaning.{Cut, finish_after}
use Rattle.osm_entity.specs.OneInput.{OneInput, KeepsItsRule, meanings_of}
use Rattle.osm_entity.specs.Ports.{items_of, end_of, has_end, stream_of}
use Rattle.osm_entity.specs.Tasks.{verdict_as}
use Rattle.osm_entity.specs.declared.stream.End.{End}
use Rattle.osm_entity.specs.declared.stream.End.TheVariants.{Done, Broken}
use Rattle.osm_entity.specs.declared.stream.Message.{Message}
use Rattle.osm_entity.specs.declared.stream.Message.TheVariants.{Item as One, End as Last}
use Rattle.osm_entity.specs.declared.stream.Want.{Want}
use Rattle.osm_entity.specs.declared.stream.Want.TheVariants.{Pull, Take, Give, Ended}
use Rattle.osm_entity.specs.declared.verdict.Verdict.{Verdict}
use Rattle.osm_entity.specs.declared.verdict.Verdict.TheVariants.{Running}
use Rattle.osm_entity.proofs.OneInputLemmas.{rule_is_lawful, takes_by, gives_by}
use Rattle.osm_entity.proofs.PortLemmas.{has_end-item, has_end-end, end_of-end, prefix_before}

-- the message that it holds, and the end that came
record Passing : Type 0 where
  held : Option Message
  end : Option End

abbrev end_met : List Message → Option End
end_met x = if has_end x then Some (end_of x) else None

record Passes (held : Option Message) (end : Option End) (x y : List Message) : Type 0 where
  all : x ≡ y ++ option_to_list held
  met : end ≡ end_met x
  unended : held ≢ None → has_end y ≡ false

abbrev wants : Option Message → Option End → Want
wants (Some message) end = Give 0
wants None None = Take 0
wants None (Some end) = Ended

abbrev says : Option Message → Option End → Verdict
says (Some message) end = Running
says None None = Running
says None (Some end) = verdict_as 0 0 (finish_after end)

abbrev passing : OneInput Passing
passing = record {
  rule = λ m s. s;
  finish = λ m s. finish_after s.end;
  stands = λ m x y. Passes m.held m.end x y;
  wanted = λ m. wants m.held m.end;
  verdict = λ m. says m.held m.end;
  holds = λ m. false;
  left = λ m. length (option_to_list m.held);
}

came : (b : Bool) (e f : End) → Some f ≡ (if b then Some e else None) → (b ≡ true) × (e ≡ f)
came true e f is = (refl, cc)
came false e f is = absurd cc

none_came : (b : Bool) (e : End) → None ≡ (if b then Some e else None) → b ≡ false
none_came true e is = absurd cc
none_came false e is = refl

-- where it holds nothing, it gave what it took
given_all : (end : Option End) (x y : List Message) → Passes None end x y → y ≡ x
given_all end x y s = sym (s.all ∙ append-nil y)

ends : (held : Option Message) (end : Option End) (x y : List Message) → Passes held end x y → wants held end ≡ Ended →
    (has_end x ≡ true) × (y ≡ x) × (says held end ≡ verdict_as 0 0 (finish_after (end_of x)))
ends (Some message) end x y s w = absurd cc
ends None None x y s w = absurd cc
ends None (Some e) x y s w =
    let met = came (has_end x) (end_of x) e s.met in
    (met.0, given_all (Some e) x y s, ap (λ d. verdict_as 0 0 (finish_after d)) (sym met.1))

takes : (held : Option Message) (end : Option End) (x y : List Message) (port : ℕ) → Passes held end x y →
    wants held end ≡ Take port →
    (port ≡ 0) × (has_end x ≡ false) × (y ≡ x)
takes (Some message) end x y port s w = absurd cc
takes None None x y port s w = (cc, none_came (has_end x) (end_of x) s.met, given_all None x y s)
takes None (Some e) x y port s w = absurd cc

hands : (held : Option Message) (end : Option End) (x y : List Message) (port : ℕ) → Passes held end x y →
    wants held end ≡ Give port →
    (port ≡ 0) × (has_end y ≡ false)
hands (Some message) end x y port s w = (cc, s.unended (λ none. cc))
hands None None x y port s w = absurd cc
hands None (Some e) x y port s w = absurd cc

runs : (held : Option Message) (end : Option End) → (says held end ≡ Running) ↔ (wants held end ≢ Ended)
runs (Some message) end = (λ is w. cc, λ no. refl)
runs None None = (λ is w. cc, λ no. refl)
runs None (Some Done) = (λ is w. cc, λ no. absurd (no refl))
runs None (Some Broken) = (λ is w. cc, λ no. absurd (no refl))

never_pulls : (held : Option Message) (end : Option End) → wants held end ≢ Pull
never_pulls (Some message) end = λ is. cc
never_pulls None None = λ is. cc
never_pulls None (Some e) = λ is. cc

never_cut : (end : End) → finish_after end ≢ Cut
never_cut Done = λ is. cc
never_cut Broken = λ is. cc

passing_keeps : KeepsItsRule passing
passing_keeps = record {
  before = λ m x y s. prefix_before y x (record { rest = option_to_list m.held; joined = s.all });
  ended = λ m x y s w. let all = ends m.held m.end x y s w in (all.0, ap has_end all.1 ∙ all.0);
  whole = λ m x y s w. ap stream_of (ends m.held m.end x y s w).1;
  judged = λ m x y s w. (ends m.held m.end x y s w).2;
  takes = λ m x y port s w. let all = takes m.held m.end x y port s w in (all.0, all.1);
  hands = λ m x y port s w. hands m.held m.end x y port s w;
  running = λ m x y s. runs m.held m.end;
  never_pulls = λ m x y s. never_pulls m.held m.end;
  never_cut = λ m s. never_cut s.end;
  monotone = λ m s t before. before;
}

passing_is_lawful : AreLawful (meanings_of passing)
passing_is_lawful = rule_is_lawful passing passing_keeps
    (λ m x y port passes s w. ap items_of (takes m.held m.end x y port s w).2) (λ m x y port holds s w. absurd cc)

abbrev new : Passing
new = record { held = None; end = None }

new_stands : IsNew (meanings_of passing) new
new_stands = record { all = refl; met = refl; unended = λ some. refl }

abbrev accepted : Message → Passing
accepted message = record { held = Some message; end = end_met (message ∷ []) }

met_more : (message : Message) (x : List Message) → has_end x ≡ false →
    end_met (message ∷ []) ≡ end_met (x ++ message ∷ [])
met_more (One item) x none =
    sym (ap (λ b. if b then Some (end_of (x ++ One item ∷ [])) else None) (has_end-item x item ∙ none))
met_more (Last end) x none = rw (has_end-end x end, end_of-end x end none) refl

took : (held : Option Message) (end : Option End) (message : Message) (x y : List Message) → held ≡ None → end ≡ None →
    Passes held end x y → Passes (Some message) (end_met (message ∷ [])) (x ++ message ∷ []) y
took held end message x y no_held no_end s =
    let same : y ≡ x = given_all end x y (subst (λ h. Passes h end x y) no_held s) in
    let none : has_end x ≡ false = none_came (has_end x) (end_of x) (sym no_end ∙ s.met) in
    record {
      all = ap (λ ms. ms ++ message ∷ []) (sym same);
      met = met_more message x none;
      unended = λ some. ap has_end same ∙ none;
    }

gave : (held : Option Message) (end : Option End) (message : Message) (x y : List Message) → held ≡ Some message →
    Passes held end x y → Passes None end x (y ++ message ∷ [])
gave held end message x y is s = record {
  all = s.all ∙ ap (λ h. y ++ option_to_list h) is ∙ sym (append-nil (y ++ message ∷ []));
  met = s.met;
  unended = λ some. absurd (some refl);
}

empty : (held : Option Message) (end : Option End) (port : ℕ) → wants held end ≡ Take port →
    (port ≡ 0) × (held ≡ None) × (end ≡ None)
empty (Some message) end port w = absurd cc
empty None None port w = (cc, refl, refl)
empty None (Some e) port w = absurd cc

first : (held : Option Message) (end : Option End) (port : ℕ) → wants held end ≡ Give port → port ≡ 0
first (Some message) end port w = cc
first None None port w = absurd cc
first None (Some e) port w = absurd cc

passing_takes : (m : Passing) (message : Message) (port : ℕ) → wants m.held m.end ≡ Take port →
    Takes (meanings_of passing) port message m (accepted message)
passing_takes m message port w =
    let at = empty m.held m.end port w in
    takes_by passing port message m (accepted message) at.0
    (λ x y s. took m.held m.end message x y at.1 at.2 s) (omega arith)

passing_gives : (m : Passing) (message : Message) (port : ℕ) → m.held ≡ Some message → wants m.held m.end ≡ Give port →
    Gives (meanings_of passing) port message m (record { held = None; end = m.end })
passing_gives m message port held w = gives_by passing port message m (record { held = None; end = m.end })
    (first m.held m.end port w) (λ x y s. gave m.held m.end message x y held s) (rw held (omega arith))
