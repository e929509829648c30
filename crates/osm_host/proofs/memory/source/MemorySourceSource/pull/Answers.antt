use Rattle.std.proofs.Common.{◌≡◌, ℕ, ◌+◌, ◌-◌, ◌≤◌, List, ◌++◌, length, take, drop, ap, ◌∙◌, arith, Some}
use Rattle.std.proofs.lemmas.Grind.{common_steps}
use Rattle.osm_host.proofs.memory.source.MemorySourceSource.pull.Goals as goal

-- a prefix that was copied before a tail, and what comes after the prefix, are the whole
split : (n : ℕ) (rest tail : List ℕ) → n ≤ length rest → rest ≡ take n (take n rest ++ tail) ++ drop n rest
split n rest tail fits = grind (arith, common_steps)

-- bytes dropped at twice are dropped at once
later : (at n : ℕ) (bytes : List ℕ) → drop n (drop at bytes) ≡ drop (at + n) bytes
later at n bytes = grind (arith, common_steps)

-- a slice from a place to the end is all that comes after the place
all_left : (at : ℕ) (bytes : List ℕ) → take (length bytes - at) (drop at bytes) ≡ drop at bytes
all_left at bytes = grind (arith, common_steps)

-- the same over the slice that the pull copies from
gives : (at n : ℕ) (bytes slice copied tail : List ℕ) → slice ≡ bytes →
    n ≤ length (take (length slice - at) (drop at slice)) → copied ≡ take n (take (length slice - at) (drop at slice)) →
    drop at bytes ≡ take n (copied ++ tail) ++ drop (at + n) bytes
gives at n bytes slice copied tail same fits copy =
    let rest = take (length slice - at) (drop at slice) in
    let left : rest ≡ drop at bytes = all_left at slice ∙ ap (drop at) same in
    let copied_left : copied ≡ take n rest = copy in
    rw (copied_left, ← later at n bytes, ← left) (split n rest tail fits)

pub returns-clause-gives : goal.returns-clause-gives
returns-clause-gives c =
    ap Some (gives c.args.self.now.place c.min-count.result c.args.self.now.bytes c.as_slice.result.now
    c.copy_from_slice.new.self _
    c.as_slice.ensures (omega (arith, c.min.ensures, c.min-count.ensures)) c.copy_from_slice.ensures.after)
