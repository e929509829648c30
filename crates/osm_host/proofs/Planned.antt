-- What a call does to the plan of a host in memory: each planned call of its kind on its name comes nearer.
use Rattle.std.proofs.Common.{◌≡◌, ℕ, ◌+◌, ◌-◌, ◌<◌, ◌==◌, Bool, true, false, cond, ◌&&◌, ◌||◌, List, [], ◌∷◌, refl, ap, ◌∙◌, arith}
use Rattle.std.proofs.lemmas.Slice.Eq.{bytes_eq-Decides}
use Rattle.std.proofs.lemmas.Bool.Decides.{Decides-eqb, nat_tests}
use Rattle.std.specs.Str.{bytes_eq}
use Rattle.osm_host.specs.Counts.{is_at, op_number}
use Rattle.osm_host.specs.Plans.{is_planned, after_call}
use Rattle.osm_host.specs.declared.outside.Op.{Op}
use Rattle.osm_host.specs.declared.memory.plan.FailAt.{FailAt}

-- both tests of two that hold together
both : (a b : Bool) → (a && b) ≡ true → (a ≡ true) × (b ≡ true)
both true true h = (refl, refl)
both true false h = cc
both false b h = cc

-- a planned call of one kind on one name is met by the calls that are of that kind on that name
alike : (op o x : Op) (name n m : List ℕ) → is_at o n x m ≡ true → is_at op name x m ≡ is_at op name o n
alike op o x name n m h =
    let tests = both (op_number x == op_number o) (bytes_eq m n) h in
    let kind : op_number x ≡ op_number o = (Decides-eqb (op_number x) (op_number o)).0 tests.0 in
    let same : m ≡ n = (bytes_eq-Decides m n).0 tests.1 in
    rw (kind, same) refl

-- one less is k where it was one more than k
one_less : (here : Bool) (nth k : ℕ) → 0 < k → (cond here (nth - 1) nth == k) ≡ (nth == cond here (k + 1) k)
one_less true nth k some = grind (arith, nat_tests)
one_less false nth k some = refl

-- the same for one planned call, whose own test is the first
nearer_one : (own here there : Bool) (nth k : ℕ) → 0 < k → (own ≡ true → here ≡ there) →
    (own && (cond here (nth - 1) nth == k)) ≡ (own && (nth == cond there (k + 1) k))
nearer_one false here there nth k some same = refl
nearer_one true here there nth k some same =
    ap (λ b. cond b (nth - 1) nth == k) (same refl) ∙ one_less there nth k some

-- the same for all planned calls
pub nearer_all : (op o : Op) (name n : List ℕ) (k : ℕ) (fails : List FailAt) → 0 < k →
    is_planned o n k (after_call op name fails) ≡ is_planned o n (cond (is_at op name o n) (k + 1) k) fails
nearer_all op o name n k [] some = refl
nearer_all op o name n k (f ∷ fails) some =
    ap (λ b. b || is_planned o n k (after_call op name fails))
    (nearer_one (is_at o n f.op f.name) (is_at op name f.op f.name) (is_at op name o n) f.nth k some
    (alike op o f.op name n f.name))
    ∙ ap (λ b. (is_at o n f.op f.name && f.nth == cond (is_at op name o n) (k + 1) k) || b)
    (nearer_all op o name n k fails some)
