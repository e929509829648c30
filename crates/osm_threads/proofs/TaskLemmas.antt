-- Lemmas on a machine at work over its ports, step by step.
use Rattle.std.proofs.Common.{◌≡◌, ℕ, Bool, true, false, Some, None, refl, sym, ap, subst, ◌∙◌}
use Rattle.std.specs.Prelude.{IsSome}
use Rattle.std.proofs.lemmas.Bool.{cond-false, cond-true}
use Rattle.osm_entity.specs.Calls.{Gives, Pulls, StopsInGive, StopsInPull, StopsInTake, Takes}
use Rattle.osm_entity.specs.Machines.{AreLawful, HasEnded, IsBehind, IsSameTask, MayGive, MayTake, MayWant, Meanings, StandsFor, nothing_given, with_piece}
use Rattle.osm_entity.specs.Ports.{Ports, added, has_end, no_messages, stream_of}
use Rattle.osm_entity.specs.Tasks.{TaskMeaning}
use Rattle.osm_entity.specs.declared.stream.End.TheVariants.{Broken}
use Rattle.osm_entity.specs.declared.stream.Message.{Message}
use Rattle.osm_entity.specs.declared.stream.Message.TheVariants.{End as Last}
use Rattle.osm_entity.specs.declared.stream.Want.TheVariants.{Ended, Give, Take}
use Rattle.osm_entity.proofs.MachineLemmas.{behind_less, behind_onward}
use Rattle.osm_entity.proofs.PortLemmas.{broken_end, prefix_added}
use Rattle.osm_pipe.specs.Pipes.{HalfValue}
use Rattle.osm_threads.specs.Homes.{IsReadyJob}
use Rattle.osm_threads.specs.Ports.{HavePipes, PortHalf, broken_off, in_row, is_shut, messages_at, passed_at, pipes_at, port_more}
use Rattle.osm_threads.specs.Work.{HasLeftOff, HasWorked, HaveBrokenOff, HaveSamePipes, IsAtWork, IsWired}
use Rattle.osm_threads.specs.declared.homing.Job.{Job}
use Rattle.osm_threads.specs.declared.ports.TaskPorts.{TaskPorts}
use Rattle.osm_threads.proofs.PortLemmas.{half_there, have_pipes, off_shut}

-- ---- same ports

pub pipes_onward : (a b c : TaskPorts) → HaveSamePipes a b → HaveSamePipes b c → HaveSamePipes a c
pipes_onward a b c left right =
    record { inlets = right.inlets ∙ left.inlets; outlets = right.outlets ∙ left.outlets }

module _ {M : Type 0} (of : Meanings M) where
  -- a machine keeps its pipes
  pub wired_after : (m n : M) (old new : TaskPorts) → IsSameTask of m n → HaveSamePipes old new → IsWired of m old →
      IsWired of n new
  wired_after m n old new same pipes wired = record {
    inputs = subst (λ (t : TaskMeaning). HavePipes t.inputs new.inlets.items) (sym same)
        (have_pipes (of.task m).inputs old.inlets.items new.inlets.items pipes.inlets wired.inputs);
    outputs = subst (λ (t : TaskMeaning). HavePipes t.outputs new.outlets.items) (sym same)
        (have_pipes (of.task m).outputs old.outlets.items new.outlets.items pipes.outlets wired.outputs);
  }

  -- a job that is ready is at work
  pub ready_work : (job : Job M) → IsReadyJob of job → IsAtWork of job.machine job.machine job.ports
  ready_work job ready = record {
    wired = ready.wired;
    given = nothing_given job.machine;
    made_is = refl;
    stands = subst
        (λ (x : Ports). StandsFor of job.machine x (messages_at job.ports.outlets.items) (nothing_given job.machine))
        (sym ready.nothing_taken)
        (subst (λ (y : Ports). StandsFor of job.machine no_messages y (nothing_given job.machine))
        (sym ready.nothing_given) ready.new);
  }

  -- ---- what is wanted can be had

  may_take : AreLawful of → (made m : M) (ports : TaskPorts) (port : ℕ) → (work : IsAtWork of made m ports) →
      of.wanted m ≡ Take port →
      MayTake of m (messages_at ports.inlets.items) (messages_at ports.outlets.items) work.given port
  may_take laws made m ports port work wants =
      let x : Ports = messages_at ports.inlets.items in
      let y : Ports = messages_at ports.outlets.items in
      subst (MayWant of m x y work.given) wants (laws.wants m x y work.given work.stands)

  pub take_there : AreLawful of → (made m : M) (ports : TaskPorts) (port : ℕ) → IsAtWork of made m ports →
      of.wanted m ≡ Take port → IsSome (in_row ports.inlets.items port)
  take_there laws made m ports port work wants =
      half_there (of.task m).inputs ports.inlets.items port work.wired.inputs
      (may_take laws made m ports port work wants).its_own

  pub take_open : AreLawful of → (made m : M) (ports : TaskPorts) (port : ℕ) → IsAtWork of made m ports →
      of.wanted m ≡ Take port → has_end (messages_at ports.inlets.items port) ≡ false
  take_open laws made m ports port work wants = (may_take laws made m ports port work wants).unended

  may_give : AreLawful of → (made m : M) (ports : TaskPorts) (port : ℕ) → IsAtWork of made m ports →
      of.wanted m ≡ Give port →
      MayGive of m (messages_at ports.inlets.items) (messages_at ports.outlets.items) port
  may_give laws made m ports port work wants =
      let x : Ports = messages_at ports.inlets.items in
      let y : Ports = messages_at ports.outlets.items in
      subst (MayWant of m x y work.given) wants (laws.wants m x y work.given work.stands)

  pub give_there : AreLawful of → (made m : M) (ports : TaskPorts) (port : ℕ) → IsAtWork of made m ports →
      of.wanted m ≡ Give port → IsSome (in_row ports.outlets.items port)
  give_there laws made m ports port work wants =
      half_there (of.task m).outputs ports.outlets.items port work.wired.outputs
      (may_give laws made m ports port work wants).its_own

  pub give_open : AreLawful of → (made m : M) (ports : TaskPorts) (port : ℕ) → IsAtWork of made m ports →
      of.wanted m ≡ Give port → has_end (messages_at ports.outlets.items port) ≡ false
  give_open laws made m ports port work wants = (may_give laws made m ports port work wants).unended

  -- ---- one step

  pub work_pulled : (made m n : M) (ports : TaskPorts) → IsAtWork of made m ports → IsSameTask of m n → Pulls of m n →
      IsAtWork of made n ports
  work_pulled made m n ports work same pulls = record {
    wired = wired_after m n ports ports same (record { inlets = refl; outlets = refl }) work.wired;
    given = with_piece (of.task m).limit pulls.piece pulls.came work.given;
    made_is = work.made_is;
    stands = pulls.stands (messages_at ports.inlets.items) (messages_at ports.outlets.items) work.given work.stands;
  }

  pub left_pulled : (made m n : M) (ports : TaskPorts) → IsAtWork of made m ports → StopsInPull of m n →
      HasLeftOff of made n ports
  left_pulled made m n ports work stops = record {
    given = with_piece (of.task m).limit stops.piece stops.came work.given;
    made_is = work.made_is;
    behind = (stops.stopped (messages_at ports.inlets.items) (messages_at ports.outlets.items) work.given
        work.stands).behind;
  }

  pub work_took : (made m n : M) (old new : TaskPorts) (port : ℕ) (message : Message) → IsAtWork of made m old →
      IsSameTask of m n → pipes_at new.inlets.items ≡ pipes_at old.inlets.items →
      messages_at new.inlets.items ≡ added (messages_at old.inlets.items) port message →
      new.outlets.items ≡ old.outlets.items → Takes of port message m n → IsAtWork of made n new
  work_took made m n old new port message work same pipes more kept takes = record {
    wired = wired_after m n old new same (record { inlets = pipes; outlets = ap pipes_at kept }) work.wired;
    given = work.given;
    made_is = work.made_is;
    stands = subst (λ (x : Ports). StandsFor of n x (messages_at new.outlets.items) work.given) (sym more)
        (subst (λ row. StandsFor of n (added (messages_at old.inlets.items) port message) (messages_at row) work.given)
        (sym kept)
        (takes.stands (messages_at old.inlets.items) (messages_at old.outlets.items) work.given work.stands));
  }

  pub left_took : (made m n : M) (old new : TaskPorts) (port : ℕ) (message : Message) → IsAtWork of made m old →
      messages_at new.inlets.items ≡ added (messages_at old.inlets.items) port message →
      new.outlets.items ≡ old.outlets.items → StopsInTake of port message m n → HasLeftOff of made n new
  left_took made m n old new port message work more kept stops = record {
    given = work.given;
    made_is = work.made_is;
    behind = subst (λ (x : Ports). IsBehind of n x (messages_at new.outlets.items) work.given) (sym more)
        (subst (λ row. IsBehind of n (added (messages_at old.inlets.items) port message) (messages_at row) work.given)
        (sym kept)
        (stops (messages_at old.inlets.items) (messages_at old.outlets.items) work.given work.stands).behind);
  }

  pub work_gave : (made m n : M) (old new : TaskPorts) (port : ℕ) (message : Message) → IsAtWork of made m old →
      IsSameTask of m n → pipes_at new.outlets.items ≡ pipes_at old.outlets.items →
      messages_at new.outlets.items ≡ added (messages_at old.outlets.items) port message →
      new.inlets.items ≡ old.inlets.items → Gives of port message m n → IsAtWork of made n new
  work_gave made m n old new port message work same pipes more kept gives = record {
    wired = wired_after m n old new same (record { inlets = ap pipes_at kept; outlets = pipes }) work.wired;
    given = work.given;
    made_is = work.made_is;
    stands = subst (λ (y : Ports). StandsFor of n (messages_at new.inlets.items) y work.given) (sym more)
        (subst (λ row. StandsFor of n (messages_at row) (added (messages_at old.outlets.items) port message) work.given)
        (sym kept)
        (gives.stands (messages_at old.inlets.items) (messages_at old.outlets.items) work.given work.stands));
  }

  pub left_gave : (made m n : M) (ports : TaskPorts) → IsAtWork of made m ports → StopsInGive of m n →
      HasLeftOff of made n ports
  left_gave made m n ports work stops = record {
    given = work.given;
    made_is = work.made_is;
    behind = (stops (messages_at ports.inlets.items) (messages_at ports.outlets.items) work.given work.stands).behind;
  }

  -- a message was given by the machine, and its pipe did not take it
  pub left_kept : AreLawful of → (made m n : M) (old new : TaskPorts) (port : ℕ) (message : Message) →
      IsAtWork of made m old → messages_at new.outlets.items ≡ messages_at old.outlets.items →
      new.inlets.items ≡ old.inlets.items → Gives of port message m n → HasLeftOff of made n new
  left_kept laws made m n old new port message work same kept gives =
      let x : Ports = messages_at old.inlets.items in
      let y : Ports = messages_at old.outlets.items in
      record {
        given = work.given;
        made_is = work.made_is;
        behind = subst (λ (z : Ports). IsBehind of n (messages_at new.inlets.items) z work.given) (sym same)
            (subst (λ row. IsBehind of n (messages_at row) y work.given) (sym kept)
            (behind_less of n x (added y port message) y work.given (prefix_added y port message)
            (laws.behind n x (added y port message) work.given (gives.stands x y work.given work.stands))));
      }

-- ---- the end of the work

off_stream_by : (h : HalfValue) (b : Bool) → has_end h.list ≡ b →
    stream_of (passed_at (broken_off (Some h))) ≡ stream_of h.list
off_stream_by h true is =
    ap (λ port. stream_of (passed_at port)) (cond-true _ (Some h) (port_more (Some h) (Last Broken)) is)
off_stream_by h false is =
    ap (λ port. stream_of (passed_at port)) (cond-false _ (Some h) (port_more (Some h) (Last Broken)) is)
    ∙ broken_end h.list

-- a broken end changes no stream
off_stream : (port : PortHalf) → stream_of (passed_at (broken_off port)) ≡ stream_of (passed_at port)
off_stream None = refl
off_stream (Some h) = off_stream_by h (has_end h.list) refl

shut_by : (port : PortHalf) → has_end (passed_at port) ≡ true → is_shut port ≡ true
shut_by None closed = refl
shut_by (Some h) closed = closed

module _ {M : Type 0} (of : Meanings M) (laws : AreLawful of) (made m : M) where
  has_ended : (ports : TaskPorts) → (work : IsAtWork of made m ports) → of.wanted m ≡ Ended →
      HasEnded of m (messages_at ports.inlets.items) (messages_at ports.outlets.items) work.given
  has_ended ports work ended =
      let x : Ports = messages_at ports.inlets.items in
      let y : Ports = messages_at ports.outlets.items in
      subst (MayWant of m x y work.given) ended (laws.wants m x y work.given work.stands)

  -- a machine that broke off has worked
  pub worked_off : (old new : TaskPorts) → HasLeftOff of made m old → HaveBrokenOff old new →
      HasWorked of made m new false
  worked_off old new left off = record {
    given = left.given;
    made_is = left.made_is;
    behind = behind_onward of m (messages_at old.inlets.items) (messages_at new.inlets.items)
        (messages_at old.outlets.items) (messages_at new.outlets.items) left.given (laws.onward m)
        (λ port. (off.inlets port).more)
        (λ port. ap (λ h. stream_of (passed_at h)) (off.outlets port) ∙ off_stream (in_row old.outlets.items port))
        left.behind;
    ended = λ is. cc;
    stands = λ is. cc;
    closed = λ port within. ap is_shut (off.outlets port) ∙ off_shut (in_row old.outlets.items port);
  }

  -- a machine that has ended has worked
  pub worked_whole : (ports : TaskPorts) → IsAtWork of made m ports → of.wanted m ≡ Ended →
      HasWorked of made m ports true
  worked_whole ports work ended = record {
    given = work.given;
    made_is = work.made_is;
    behind = laws.behind m (messages_at ports.inlets.items) (messages_at ports.outlets.items) work.given work.stands;
    ended = λ is. ended;
    stands = λ is. work.stands;
    closed = λ port within. shut_by (in_row ports.outlets.items port) ((has_ended ports work ended).gave_ends port within);
  }
