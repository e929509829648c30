-- Each move of a half keeps the rule of the queue.
use Rattle.std.proofs.Common.{◌≡◌, ◌≢◌, ℕ, ◌<◌, ◌≤◌, ◌-◌, zero, suc, true, false, true≢false, List, [], ◌∷◌, ◌++◌, length, set, refl, sym, ap, ◌∙◌, subst, ⊎_elim, append_assoc, arith, Option, Some, None}
use mathlib.Core.Option.{some, some-ne-none}
use lib.ListN.{get_elem?}
use Rattle.std.proofs.lemmas.List.{length-append}
use Rattle.atomic_table.proofs.Lists.{at_set, at_snoc}
use Rattle.crossbeam_channel.specs.Fifo.{Pushes, Pops, Forks, Merges, Learns}
use Rattle.osm_pipe.specs.Rule.{IsWithin, hand, HasSent, HasTaken, IsOnTheWay, Knows, IsInOrder}
use Rattle.osm_pipe.specs.declared.rule.Hand.{Hand}

-- fewer is within the same limit
within_less : (limit : Option ℕ) (n m : ℕ) → m ≤ n → IsWithin limit n → IsWithin limit m
within_less None n m less is = tt
within_less (Some most) n m less is = omega arith

-- nothing is within any limit
within_none : (limit : Option ℕ) → IsWithin limit 0
within_none None = tt
within_none (Some most) = omega arith

-- a queue of n places keeps a limit of n
pub within_full : (limit : Option ℕ) (n : ℕ) → limit ≡ Some n → IsWithin limit n
within_full limit n is = let own : n ≤ n = omega arith in subst (λ l. IsWithin l n) (sym is) own

-- any queue keeps no limit
pub within_any : (limit : Option ℕ) (n : ℕ) → limit ≡ None → IsWithin limit n
within_any limit n is = subst (λ l. IsWithin l n) (sym is) tt

-- one message more is within the places of a queue that was not full
one_more : {T : Type 0} (items : List T) (x : T) (n : ℕ) → length items < n → length (items ++ x ∷ []) ≤ n
one_more items x n short = let more = length-append items (x ∷ []) in omega arith

module _ {T : Type 0} where
  -- what stands only in the longer list stands at its end
  at_end : (l : List (Hand T)) (a b : Hand T) (j : ℕ) → get_elem? l j ≢ some b →
      get_elem? (l ++ a ∷ []) j ≡ some b → j ≡ length l
  at_end [] a b zero n e = refl
  at_end [] a b (suc j) n e = absurd (some-ne-none b (sym e))
  at_end (x ∷ xs) a b zero n e = absurd (n e)
  at_end (x ∷ xs) a b (suc j) n e = ap suc (at_end xs a b j n e)

  -- the halves of a queue, each with what it knows
  abbrev EachKnows : (ℕ → Hand T → Type 0) → List (Hand T) → Type 0
  EachKnows F views = (port : ℕ) (v : Hand T) → get_elem? views port ≡ some v → F port v

  -- one half knows more, and the others what they knew
  each-set : (F : ℕ → Hand T → Type 0) (views : List (Hand T)) (port : ℕ) (w : Hand T) → F port w →
      ((j : ℕ) (u : Hand T) → j ≢ port → get_elem? views j ≡ some u → F j u) → EachKnows F (set views port w)
  each-set F views port w mine others j u e = ⊎_elim
      (λ (x : (j ≡ port) × (w ≡ u)). subst (λ (y : ℕ × Hand T). F y.0 y.1) (λ i. (sym x.0 i, x.1 i)) mine)
      (λ (x : (j ≢ port) × (get_elem? views j ≡ some u)). others j u x.0 x.1) (at_set views port j w u e)

  -- the rule of a new queue
  pub begins : IsInOrder {T = T} [] (hand true true (Some 0) [] [] ∷ [])
  begins = let first : Hand T = hand true true (Some 0) [] [] in record {
    giver = 0;
    taker = 0;
    whole = first;
    way = record { joined = refl; within = omega arith };
    known = each-set (Knows 0 0 first) (first ∷ []) 0 first
        (record { giving = λ _. (refl, refl, refl); taking = λ _. (refl, refl) })
        (λ j u other e. absurd (other (at_end [] first u j (λ x. some-ne-none u (sym x)) e)));
  }

  -- a message is sent
  pub sends : (n port : ℕ) (v : Hand T) (x : T) → v.sends ≡ true → IsWithin v.limit n →
      Pushes IsInOrder n port v x (HasSent v x)
  sends n port v x may fits items views short h at =
      let w : Hand T = hand v.sends v.takes v.limit (v.sent ++ x ∷ []) v.taken in
      let mine = h.known port v at in
      let own = mine.giving may in
      let whole : Hand T = hand h.whole.sends h.whole.takes h.whole.limit (h.whole.sent ++ x ∷ []) h.whole.taken in
      let new : IsInOrder (items ++ x ∷ []) (set views port w) = record {
        giver = h.giver;
        taker = h.taker;
        whole = whole;
        way = record {
          joined = ap (λ l. l ++ x ∷ []) h.way.joined ∙ append_assoc h.whole.taken items (x ∷ []);
          within = subst (λ l. IsWithin l (length (items ++ x ∷ []))) own.1
              (within_less v.limit n (length (items ++ x ∷ [])) (one_more items x n short) fits);
        };
        known = each-set (Knows h.giver h.taker whole) views port w
            (record { giving = λ _. (own.0, own.1, ap (λ l. l ++ x ∷ []) own.2); taking = mine.taking })
            (λ j u other e. record {
              giving = λ p. absurd (other (((h.known j u e).giving p).0 ∙ sym own.0));
              taking = (h.known j u e).taking;
            });
      } in
      (w, new, refl)

  -- a message is taken
  pub takes : (port : ℕ) (v : Hand T) → v.takes ≡ true → Pops IsInOrder port v (HasTaken v)
  takes port v may x items views h at =
      let w : Hand T = hand v.sends v.takes v.limit v.sent (v.taken ++ x ∷ []) in
      let mine = h.known port v at in
      let own = mine.taking may in
      let whole : Hand T = hand h.whole.sends h.whole.takes h.whole.limit h.whole.sent (h.whole.taken ++ x ∷ []) in
      let new : IsInOrder items (set views port w) = record {
        giver = h.giver;
        taker = h.taker;
        whole = whole;
        way = record {
          joined = h.way.joined ∙ sym (append_assoc h.whole.taken (x ∷ []) items);
          within = within_less h.whole.limit (suc (length items)) (length items) (omega arith) h.way.within;
        };
        known = each-set (Knows h.giver h.taker whole) views port w
            (record { giving = mine.giving; taking = λ _. (own.0, ap (λ l. l ++ x ∷ []) own.1) })
            (λ j u other e. record {
              giving = (h.known j u e).giving;
              taking = λ p. absurd (other (((h.known j u e).taking p).0 ∙ sym own.0));
            });
      } in
      (w, new, refl)

  -- the first pass is cut into the giver's and the taker's while nothing is on the way
  pub splits : (port : ℕ) (v : Hand T) (limit : Option ℕ) → v ≡ hand true true (Some 0) [] [] →
      Forks IsInOrder port v (hand true false limit v.sent []) (hand false true limit [] v.taken)
  splits port v limit is items views h at =
      let left : Hand T = hand true false limit v.sent [] in
      let right : Hand T = hand false true limit [] v.taken in
      let mine = h.known port v at in
      let give = mine.giving (ap (λ (x : Hand T). x.sends) is) in
      let take = mine.taking (ap (λ (x : Hand T). x.takes) is) in
      let nought : h.whole.limit ≡ Some 0 = sym give.1 ∙ ap (λ (x : Hand T). x.limit) is in
      let empty : IsWithin (Some 0) (length items) = subst (λ l. IsWithin l (length items)) nought h.way.within in
      let none : length items ≡ 0 = omega arith in
      let whole : Hand T = hand h.whole.sends h.whole.takes limit h.whole.sent h.whole.taken in
      let cut : List (Hand T) = set views port left in
      let Old : ℕ → Hand T → Type 0 = λ j u.
      (u.sends ≡ true → (j ≡ h.giver) × (u.limit ≡ limit) × (u.sent ≡ h.whole.sent)) × (u.takes ≢ true) in
      let old : EachKnows Old cut = each-set Old views port left
      ((λ _. (give.0, refl, give.2)), λ p. true≢false (sym p))
      (λ j u other e. let was = h.known j u e in
      ((λ p. absurd (other ((was.giving p).0 ∙ sym give.0))), λ p. other ((was.taking p).0 ∙ sym take.0))) in
      record {
        giver = h.giver;
        taker = length cut;
        whole = whole;
        way = record { joined = h.way.joined; within = subst (λ n. IsWithin limit n) (sym none) (within_none limit) };
        known = λ j u e. ⊎_elim
            (λ (x : get_elem? cut j ≡ some u). let was = old j u x in
            record { giving = was.0; taking = λ p. absurd (was.1 p) })
            (λ (same : right ≡ u). record {
              giving = λ p. absurd (true≢false (sym (ap (λ (y : Hand T). y.sends) same ∙ p)));
              taking = λ p. (
                at_end cut right u j (λ x. (old j u x).1 p) e,
                ap (λ (y : Hand T). y.taken) (sym same) ∙ take.1,
              );
            })
            (at_snoc cut right u j e);
      }

  -- the giver's pass takes in the taker's
  pub joins : (port : ℕ) (v : Hand T) (other : ℕ) (u : Hand T) → v.sends ≡ true → u.takes ≡ true →
      Merges IsInOrder port v other u (hand true true v.limit v.sent u.taken) (hand false false None [] [])
  joins port v other u a b items views h at two at' =
      let both : Hand T = hand true true v.limit v.sent u.taken in
      let spent : Hand T = hand false false None [] [] in
      let joined : List (Hand T) = set views port both in
      let was : get_elem? views other ≡ some u =
      ⊎_elim (λ x. absurd (two x.0)) (λ x. x.1) (at_set views port other both u at') in
      let give = (h.known port v at).giving a in
      let take = (h.known other u was).taking b in
      let Now : ℕ → Hand T → Type 0 = λ j y. j ≢ other → Knows h.giver port h.whole j y in
      let now : EachKnows Now joined = each-set Now views port both
      (λ _. record { giving = λ _. give; taking = λ _. (refl, take.1) })
      (λ j y _ e apart. record {
        giving = (h.known j y e).giving;
        taking = λ p. absurd (apart (((h.known j y e).taking p).0 ∙ sym take.0));
      }) in
      record {
        giver = h.giver;
        taker = port;
        whole = h.whole;
        way = h.way;
        known = each-set (Knows h.giver port h.whole) joined other spent
            (record { giving = λ p. absurd (true≢false (sym p)); taking = λ p. absurd (true≢false (sym p)) })
            (λ j y apart e. now j y e apart);
      }

  -- the joined pass knows what is on the way
  pub tells : (port : ℕ) (v : Hand T) → v.sends ≡ true → v.takes ≡ true → Learns IsInOrder port v (IsOnTheWay v)
  tells port v a b items views h at = let mine = h.known port v at in record {
    joined = ((mine.giving a).2 ∙ h.way.joined) ∙ ap (λ l. l ++ items) (sym (mine.taking b).1);
    within = subst (λ l. IsWithin l (length items)) (sym (mine.giving a).1) h.way.within;
  }

  -- no more is on the way than was sent
  pub holds_less : (port : ℕ) (v : Hand T) → v.sends ≡ true →
      Learns IsInOrder port v (λ items. length items ≤ length v.sent)
  holds_less port v a items views h at = let give = (h.known port v at).giving a in
      let both : length v.sent ≡ length (h.whole.taken ++ items) = ap length (give.2 ∙ h.way.joined) in
      let parts = length-append h.whole.taken items in
      omega arith

  -- what was sent and is not yet taken is within the limit
  pub left_within : (v : Hand T) (items : List T) → IsOnTheWay v items →
      IsWithin v.limit (length v.sent - length v.taken)
  left_within v items way =
      let both : length v.sent ≡ length (v.taken ++ items) = ap length way.joined in
      let parts = length-append v.taken items in
      let left : length v.sent - length v.taken ≤ length items = omega arith in
      within_less v.limit (length items) (length v.sent - length v.taken) left way.within
