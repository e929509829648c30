-- What is on the way in a queue between two halves.
-- Here what was sent and taken are whole lists that no value stores; the code moves one message at a time.
use Rattle.std.specs.Prelude.{◌≡◌, ℕ, ◌≤◌, Bool, true, false, List, [], ◌∷◌, ◌++◌, length, Option, Some, None, ⊤}
use mathlib.Core.Option.{some}
use lib.ListN.{get_elem?}
use Rattle.osm_pipe.specs.declared.rule.Hand.{Hand}

-- a number is within a limit, and any number is where there is none
abbrev pub IsWithin : Option ℕ → ℕ → Type 0
IsWithin None n = ⊤
IsWithin (Some most) n = n ≤ most

module _ {T : Type 0} where
  -- what a half knows: whether it sends and takes, its limit, and what it sent and took
  abbrev pub hand : Bool → Bool → Option ℕ → List T → List T → Hand T
  hand sends takes limit sent taken = record { sends = sends; takes = takes; limit = limit; sent = sent; taken = taken }

  -- a half that only sends, within a limit
  abbrev pub SendsOnly : Option ℕ → Hand T → Type 0
  SendsOnly limit v = v ≡ hand true false limit v.sent []

  -- a half that only takes, within a limit
  abbrev pub TakesOnly : Option ℕ → Hand T → Type 0
  TakesOnly limit v = v ≡ hand false true limit [] v.taken

  -- a half that sent a message
  abbrev pub HasSent : Hand T → T → Hand T → Type 0
  HasSent v x w = w ≡ hand v.sends v.takes v.limit (v.sent ++ x ∷ []) v.taken

  -- a half that took a message
  abbrev pub HasTaken : Hand T → T → Hand T → Type 0
  HasTaken v x w = w ≡ hand v.sends v.takes v.limit v.sent (v.taken ++ x ∷ [])

  -- what is on the way: what was sent without what was taken, within the limit
  pub record IsOnTheWay (v : Hand T) (items : List T) : Type 0 where
    pub joined : v.sent ≡ v.taken ++ items
    pub within : IsWithin v.limit (length items)

  -- what a half knows is so: of what was sent and the limit if it sends, of what was taken if it takes
  pub record Knows (giver taker : ℕ) (whole : Hand T) (port : ℕ) (v : Hand T) : Type 0 where
    pub giving : v.sends ≡ true → (port ≡ giver) × (v.limit ≡ whole.limit) × (v.sent ≡ whole.sent)
    pub taking : v.takes ≡ true → (port ≡ taker) × (v.taken ≡ whole.taken)

  -- what a queue holds is what was sent without what was taken, and one half at most sends and one at most takes
  pub record IsInOrder (items : List T) (views : List (Hand T)) : Type 0 where
    pub giver : ℕ
    pub taker : ℕ
    pub whole : Hand T
    pub way : IsOnTheWay whole items
    pub known : (port : ℕ) (v : Hand T) → get_elem? views port ≡ some v → Knows giver taker whole port v
