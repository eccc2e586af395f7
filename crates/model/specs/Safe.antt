-- What an accepted table says of a configuration (01, "The list in demand 3").
use Rattle.std.specs.Prelude.{ℕ, ◌+◌, ◌≤◌, ◌<◌, ◌≡◌, Bool, true, cond, [], ◌∷◌, eqb, get_or}
use Rattle.laws.specs.Search.{sum}
use Rattle.laws.specs.Lists.{All, one}
use Rattle.model.specs.Tree.{Array, proc_at, is_free}
use Rattle.model.specs.Calculus.{Marker, Cell, unheld, holds, Thread, Config}
use Rattle.model.specs.Rules.{Table, in_set}

-- the sum of a number over all threads
unfoldable pub total : {X C : Type 0} → (Thread X C → ℕ) → Config X C → ℕ
total w [] = 0
total w (t ∷ ts) = w t + total w ts

module _ {X C : Type 0} where
  -- the weights of all threads' agents, added up without wrapping
  abbrev pub weighed : (ℕ → ℕ) → Config X C → ℕ
  weighed w c = total (λ t. w t.agent) c

  -- how many threads' agents pass a test
  abbrev pub count : (ℕ → Bool) → Config X C → ℕ
  count f c = total (λ t. one (f t.agent)) c

-- "the sum of its agents' counts, each agent taken once" (02, request i): over the nodes below n that are in claim q's set. It is the number
-- of threads whose agent is in the set (proofs/Sets: count-sums).
abbrev pub set_sum : {X C : Type 0} → ℕ → Table → ℕ → Config X C → ℕ
set_sum n t q c = sum n λ i. cond (in_set t q i) (count (λ j. eqb j i) c) 0

-- "for every thread and every name free in its agent, the name's row has the bit of its opening's new": the name has an opening
abbrev pub Flows : Array → Table → Thread Marker Cell → Type 0
Flows a t th =
    (v : ℕ) → is_free (proc_at a th.agent) v ≡ true
    → (o : ℕ) × (m : Marker) × (get_or th.env v unheld ≡ holds o m) × (t.row v o ≡ true)

-- "for every balance, the weights of all threads' agents add up, without wrapping, to at most its bound; for every claim, at
-- most `most` threads are of its agent": of an agent in its set (02, request i), which is its own where it stands alone (proofs/Sets:
-- single-count)
pub record Safe (a : Array) (t : Table) (c : Config Marker Cell) : Type 0 where
  pub flows : All (Flows a t) c
  pub balances : (k : ℕ) → k < t.balances → weighed (t.balance k).weight c ≤ (t.balance k).bound
  pub claims : (q : ℕ) → q < t.claims → count (in_set t q) c ≤ (t.claim q).most
