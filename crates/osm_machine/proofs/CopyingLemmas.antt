-- The machine that gives its input at each of its outputs is lawful, call by call.
use Rattle.std.proofs.Common.{◌≡◌, ℕ, ◌<◌, ◌≤◌, ◌+◌, inl, inr, List, [], ◌∷◌, ◌++◌, length, Bool, true, false, Option, Some, None, option_to_list, refl, sym, ap, subst, ◌∙◌, arith}
use Rattle.std.specs.Prelude.{◌≢◌, ◌↔◌, ◌==◌, nat_lt, if◌then◌else◌}
use Rattle.std.proofs.lemmas.Bool.{cases_order, cond_both, cond-false, cond-true, eq-eqb, le-ltb, lt-ltb, ne_eqb}
use Rattle.std.proofs.lemmas.List.{append-nil}
use Rattle.osm_entity.specs.Calls.{Takes, Gives, StopsInGive}
use Rattle.osm_entity.specs.Machines.{Given, AreLawful, IsBehind, IsNew, MayWant}
use Rattle.osm_entity.specs.Meaning.{finish_after}
use Rattle.osm_entity.specs.Ports.{Ports, added, end_of, has_end, items_of, stream_of}
use Rattle.osm_entity.specs.Streams.{IsBefore}
use Rattle.osm_entity.specs.Tasks.{verdict_as}
use Rattle.osm_entity.specs.declared.stream.End.{End}
use Rattle.osm_entity.specs.declared.stream.End.TheVariants.{Done, Broken}
use Rattle.osm_entity.specs.declared.stream.Message.{Message}
use Rattle.osm_entity.specs.declared.stream.Message.TheVariants.{Item as One, End as Last}
use Rattle.osm_entity.specs.declared.stream.Want.TheVariants.{Pull, Take, Give, Ended}
use Rattle.osm_entity.specs.declared.verdict.Verdict.TheVariants.{Running}
use Rattle.osm_entity.proofs.PortLemmas.{end_of-end, has_end-end, has_end-item, prefix_before}
use Rattle.osm_entity.proofs.PrefixLemmas.{prefix_itself}
use Rattle.osm_machine.specs.Copying.{CopiesAll, CopyingValue, copying, copying_verdict, copying_wants, end_taken, still_held}

-- ---- the end that came

pub came : (x : List Message) (e : End) → Some e ≡ end_taken x → (has_end x ≡ true) × (end_of x ≡ e)
came x e is = by (has_end x) (end_of x) is refl where
  by : (b : Bool) (f : End) → Some e ≡ (if b then Some f else None) → has_end x ≡ b → (has_end x ≡ true) × (f ≡ e)
  by true f is has = (has, cc)
  by false f is has = absurd cc

pub none_came : (x : List Message) → None ≡ end_taken x → has_end x ≡ false
none_came x is = by (has_end x) (end_of x) is refl where
  by : (b : Bool) (f : End) → None ≡ (if b then Some f else None) → has_end x ≡ b → has_end x ≡ false
  by true f is has = absurd cc
  by false f is has = has

pub end_taken-more : (message : Message) (x : List Message) → has_end x ≡ false →
    end_taken (message ∷ []) ≡ end_taken (x ++ message ∷ [])
end_taken-more (One item) x none =
    sym (ap (λ b. if b then Some (end_of (x ++ One item ∷ [])) else None) (has_end-item x item ∙ none))
end_taken-more (Last end) x none = rw (has_end-end x end, end_of-end x end none) refl

-- ---- what an output lacks

still_none : (next port : ℕ) → still_held None next port ≡ []
still_none next port = cond_both (nat_lt port next) [] [] (λ ms. ms ≡ []) (λ over. refl) (λ later. refl)

still_later : (held : Option Message) (next port : ℕ) → next ≤ port → still_held held next port ≡ option_to_list held
still_later held next port later = cond-false (nat_lt port next) [] (option_to_list held) (le-ltb port next later)

still_over : (held : Option Message) (next port : ℕ) → port < next → still_held held next port ≡ []
still_over held next port over = cond-true (nat_lt port next) [] (option_to_list held) (lt-ltb port next over)

-- ---- what it stands for

no_held : (held : Option Message) (next port : ℕ) → held ≡ None → still_held held next port ≡ []
no_held held next port none = ap (λ h. still_held h next port) none ∙ still_none next port

-- where it holds nothing, each output gave what was taken
gave_all : (c : CopyingValue) (x : List Message) (y : Ports) (port : ℕ) → c.held ≡ None → CopiesAll c x y →
    port < c.outputs → y port ≡ x
gave_all c x y port none s known =
    sym (s.gave port known ∙ ap (λ more. y port ++ more) (no_held c.held c.next port none) ∙ append-nil (y port))

gave_before : (c : CopyingValue) (x : List Message) (y : Ports) (port : ℕ) → CopiesAll c x y → port < c.outputs →
    IsBefore (stream_of (y port)) (stream_of x)
gave_before c x y port s known =
    prefix_before (y port) x (record { rest = still_held c.held c.next port; joined = s.gave port known })

copying_behind : (c : CopyingValue) (x y : Ports) (given : Given CopyingValue) → CopiesAll c (x 0) y →
    IsBehind copying c x y given
copying_behind c x y given s =
    record { gave = λ port known. gave_before c (x 0) y port s known; wrote = tt; devices = tt }

-- how a task ends by the end of its input doesn't depend on a source
pub verdict_at_end : (limit count : ℕ) (end : End) →
    verdict_as 0 0 (finish_after end) ≡ verdict_as limit count (finish_after end)
verdict_at_end limit count Done = refl
verdict_at_end limit count Broken = refl

wants_by : (c : CopyingValue) (held : Option Message) (end : Option End) (x y : Ports) (given : Given CopyingValue) →
    c.held ≡ held → c.end ≡ end → CopiesAll c (x 0) y → MayWant copying c x y given (copying_wants held c.next end)
wants_by c (Some message) end x y given holds ends s = record {
  its_own = s.turn;
  unended = s.unended (λ none. let some = sym holds ∙ none in cc) c.next (omega arith) s.turn;
  held = λ held. absurd cc;
}
wants_by c None None x y given holds ends s = record {
  its_own = omega arith;
  unended = none_came (x 0) (sym ends ∙ s.met);
  turn = refl;
  gave = λ passes port known. ap items_of (gave_all c (x 0) y port holds s known);
}
wants_by c None (Some e) x y given holds ends s =
    let over = came (x 0) e (sym ends ∙ s.met) in
    record {
      took_ends = λ port known. subst (λ p. has_end (x p) ≡ true) (first_port port known) over.0;
      gave_ends = λ port known. ap has_end (gave_all c (x 0) y port holds s known) ∙ over.0;
      whole = λ port known. ap stream_of (gave_all c (x 0) y port holds s known);
      wrote = λ other. tt;
      judged = λ other. rw (s.runs, holds, ends, over.1) (verdict_at_end 0 (length given.bytes) e);
    }
  where
    first_port : (port : ℕ) → port < 1 → 0 ≡ port
    first_port port known = omega arith

runs_by : (held : Option Message) (next : ℕ) (end : Option End) →
    (copying_verdict false held end ≡ Running) ↔ (copying_wants held next end ≢ Ended)
runs_by (Some message) next end = (λ is w. cc, λ no. refl)
runs_by None next None = (λ is w. cc, λ no. refl)
runs_by None next (Some Done) = (λ is w. cc, λ no. absurd (no refl))
runs_by None next (Some Broken) = (λ is w. cc, λ no. absurd (no refl))

pub copying_is_lawful : AreLawful copying
copying_is_lawful = record {
  behind = λ c x y given s. copying_behind c x y given s;
  wants = λ c x y given s. wants_by c c.held c.end x y given refl refl s;
  running = λ c x y given s.
      subst (λ b. (copying_verdict b c.held c.end ≡ Running) ↔ (copying_wants c.held c.next c.end ≢ Ended))
      (sym s.runs) (runs_by c.held c.next c.end);
  onward = λ c. record {
    gives = λ bytes came f g before port. before 0;
    text = λ f g before. prefix_itself [];
  };
}

-- ---- the calls

pub empty : (held : Option Message) (next : ℕ) (end : Option End) (port : ℕ) → copying_wants held next end ≡ Take port →
    (port ≡ 0) × (held ≡ None) × (end ≡ None)
empty (Some message) next end port w = absurd cc
empty None next None port w = (cc, refl, refl)
empty None next (Some e) port w = absurd cc

pub full : (held : Option Message) (next : ℕ) (end : Option End) (port : ℕ) → copying_wants held next end ≡ Give port →
    (port ≡ next) × (held ≢ None)
full (Some message) next end port w = (cc, λ none. cc)
full None next None port w = absurd cc
full None next (Some e) port w = absurd cc

pub copying_pulls_none : (held : Option Message) (next : ℕ) (end : Option End) → copying_wants held next end ≢ Pull
copying_pulls_none (Some message) next end = λ is. cc
copying_pulls_none None next None = λ is. cc
copying_pulls_none None next (Some e) = λ is. cc

-- a machine that took a message where it held none
abbrev copying_took : CopyingValue → Message → CopyingValue
copying_took c message = record c { held = Some message; end = end_taken (message ∷ []) }

took : (c : CopyingValue) (message : Message) (x : List Message) (y : Ports) → c.held ≡ None → c.end ≡ None →
    CopiesAll c x y → CopiesAll (copying_took c message) (x ++ message ∷ []) y
took c message x y none open_end s = record {
  runs = s.runs;
  turn = s.turn;
  first = λ is. absurd cc;
  gave = λ port known. ap (λ ms. ms ++ message ∷ []) (sym (gave_all c x y port none s known))
      ∙ ap (λ more. y port ++ more) (sym (still_later (Some message) c.next port (omega (arith, s.first none))));
  met = end_taken-more message x (none_came x (sym open_end ∙ s.met));
  unended = λ some port later known. ap has_end (gave_all c x y port none s known)
      ∙ none_came x (sym open_end ∙ s.met);
}

pub copying_takes : (c : CopyingValue) (message : Message) (port : ℕ) (end : Option End) →
    end ≡ end_taken (message ∷ []) → copying_wants c.held c.next c.end ≡ Take port →
    Takes copying port message c (record c { held = Some message; end = end })
copying_takes c message port end is w =
    let at = empty c.held c.next c.end port w in
    rw (is, at.0) (record {
      stands = λ x y given s. took c message (x 0) y at.1 at.2 s;
      left = rw at.1 (omega arith);
    })

-- a machine that gave a copy of the message that it holds, or the message itself
abbrev copying_gave : CopyingValue → CopyingValue
copying_gave c = record c { next = c.next + 1 }

abbrev copying_gave_last : CopyingValue → CopyingValue
copying_gave_last c = record c { held = None; next = 0 }

other_port : (message : Message) (next : ℕ) (y : Ports) (port : ℕ) → port ≢ next → y port ≡ added y next message port
other_port message next y port other =
    sym (cond-false (port == next) (y port ++ message ∷ []) (y port) (ne_eqb port next other))

-- one output more has the message
one_more : (held : Option Message) (message : Message) (next : ℕ) (x : List Message) (y : Ports) (port : ℕ) →
    held ≡ Some message → x ≡ y port ++ still_held held next port →
    x ≡ added y next message port ++ still_held held (next + 1) port
one_more held message next x y port holds gave = elim (cases_order port next) [
  | inl here ↦
      gave ∙ ap (λ more. y port ++ more) (still_later held next port (omega (arith, here)) ∙ ap option_to_list holds)
      ∙ sym (cond-true (port == next) (y port ++ message ∷ []) (y port) (eq-eqb port next here))
      ∙ sym (append-nil (added y next message port))
      ∙ ap (λ more. added y next message port ++ more) (sym (still_over held (next + 1) port (omega (arith, here))))
  | inr (inl over) ↦
      gave ∙ ap (λ more. y port ++ more)
      (still_over held next port over ∙ sym (still_over held (next + 1) port (omega (arith, over))))
      ∙ ap (λ ms. ms ++ still_held held (next + 1) port)
      (other_port message next y port (λ same. absurd (omega (arith, over, same))))
  | inr (inr later) ↦
      gave ∙ ap (λ more. y port ++ more)
      (still_later held next port (omega (arith, later)) ∙ sym (still_later held (next + 1) port (omega (arith, later))))
      ∙ ap (λ ms. ms ++ still_held held (next + 1) port)
      (other_port message next y port (λ same. absurd (omega (arith, later, same))))
]

gave_more : (c : CopyingValue) (message : Message) (x : List Message) (y : Ports) → c.held ≡ Some message →
    c.next + 1 < c.outputs → CopiesAll c x y → CopiesAll (copying_gave c) x (added y c.next message)
gave_more c message x y holds more s = record {
  runs = s.runs;
  turn = more;
  first = λ none. absurd (let some = sym holds ∙ none in cc);
  gave = λ port known. one_more c.held message c.next x y port holds (s.gave port known);
  met = s.met;
  unended = λ some port later known.
      ap has_end (sym (other_port message c.next y port (λ same. absurd (omega (arith, later, same)))))
      ∙ s.unended some port (omega (arith, later)) known;
}

gave_last : (c : CopyingValue) (message : Message) (x : List Message) (y : Ports) → c.held ≡ Some message →
    c.next + 1 ≡ c.outputs → CopiesAll c x y → CopiesAll (copying_gave_last c) x (added y c.next message)
gave_last c message x y holds last s = record {
  runs = s.runs;
  turn = omega (arith, s.turn);
  first = λ none. refl;
  gave = λ port known. one_more c.held message c.next x y port holds (s.gave port known)
      ∙ ap (λ more. added y c.next message port ++ more)
      (still_over c.held (c.next + 1) port (omega (arith, known, last)) ∙ sym (still_none 0 port));
  met = s.met;
  unended = λ some. absurd (some refl);
}

pub copying_gives : (c : CopyingValue) (message : Message) (port next : ℕ) →
    copying_wants c.held c.next c.end ≡ Give port → c.held ≡ Some message → next ≡ port + 1 → next < c.outputs →
    Gives copying port message c (record c { next = next })
copying_gives c message port next w holds is more =
    let at : port ≡ c.next = (full c.held c.next c.end port w).0 in
    rw (is, at) (record {
      stands = λ x y given s. gave_more c message (x 0) y holds (omega (arith, more, is, at)) s;
      left = rw holds (omega (arith, more, is, at));
    })

pub copying_gives_last : (c : CopyingValue) (message : Message) (port : ℕ) →
    copying_wants c.held c.next c.end ≡ Give port → c.held ≡ Some message → c.outputs ≤ port + 1 →
    c.next < c.outputs → Gives copying port message c (record c { held = None; next = 0 })
copying_gives_last c message port w holds last turn =
    let at : port ≡ c.next = (full c.held c.next c.end port w).0 in
    rw at (record {
      stands = λ x y given s. gave_last c message (x 0) y holds (omega (arith, last, turn, at)) s;
      left = rw holds (omega (arith, last, turn, at));
    })

pub copying_stops : (c : CopyingValue) → StopsInGive copying c (record c { stopped = true })
copying_stops c x y given s = record {
  behind = record { gave = λ port known. gave_before c (x 0) y port s known; wrote = tt; devices = tt };
  verdict = refl;
}

pub copying_is_new : (outputs : ℕ) → 0 < outputs →
    IsNew copying (record { outputs = outputs; held = None; next = 0; end = None; stopped = false })
copying_is_new outputs some = record {
  runs = refl;
  turn = some;
  first = λ none. refl;
  gave = λ port known. sym (still_none 0 port);
  met = refl;
  unended = λ held. absurd (held refl);
}
