-- Refusal 23: what the test says of lent lists, and that what says so passes the test.
use Prim.Native.Nat.{ℕ, ◌≤◌, ◌<◌}
use native.Mathlib.Nat.{le_trans, le_of_lt}
use native.Mathlib.Omega.{arith}
use mathlib.Core.Path.{◌≡◌, refl, sym, ap, ◌∙◌}
use mathlib.Core.Logic.{◌⊎◌, inl, inr, ◌≢◌}
use mathlib.Core.Bool.{Bool, true, false, not, ◌&&◌, false≢true, true≢false}
use mathlib.Core.List.{List}
use mathlib.Core.Option.{some}
use lib.Dec.{eqb, ltb, leb}
use lib.ListN.{length, get_or, get_or-eq_default}
use borrow.Author.Tests.{eqb-true, eqb-false, eq-eqb, ne_eqb, leb-true, le-leb, ltb-true, ltb-false, not-true}
use Rattle.laws.specs.Search.{every}
use Rattle.laws.specs.Lists.{All}
use Rattle.laws.proofs.Search.{decided, and_split, and-join, every_true, true-every}
use Rattle.laws.proofs.Lists.{every-All, All-every}
use Rattle.model.specs.Tree.{Array, Node, node_at, is_agent, Proc, Agent, proc_at, is_free, is_new}
use Rattle.model.specs.Nodes.{agent_of}
use Rattle.model.specs.Formed.{WellFormed}
use Rattle.model.specs.Calculus.{Thread, Config}
use Rattle.model.specs.Numbers.{Entry, no_entry, same_entry, Listed, nobody}
use Rattle.model.specs.Memory.{opening, new_in, marker_in, words, Memory, config_of, entries_of, thread_room, marker_room, is_resource, is_out}
use Rattle.model.specs.Memory.{word_formed, thread_formed, entry_formed, unlike, formed}
use Rattle.model.proofs.Tree.{agent-inside, wf-proc_at}
use Rattle.model.proofs.Nodes.{agent-at, acts-agent, free-below}
use Rattle.model.proofs.Markers.{entry-eq, entry-same}
use Rattle.model.proofs.Memory.{length-threads, length-entries}
use Rattle.model.proofs.Covers as C

-- an agent node acts
agent-of : (f : ℕ → Proc) (n : Node) → is_agent n ≡ true → (g : Agent) × (agent_of f n ≡ some g)
unfolding is_agent agent_of
agent-of f Node.stop e = absurd (false≢true e)
agent-of f (Node.new n l) e = absurd (false≢true e)
agent-of f (Node.par l r) e = absurd (false≢true e)
agent-of f (Node.choice l r) e = absurd (false≢true e)
agent-of f (Node.agent s x ys l) e = (record { sort = s; channel = x; args = ys; body = f l }, refl)

-- ---- threads

-- a free name's word: an opening by a new, under a marker that is listed
pub record Holds (a : Array) (k x v : ℕ) : Type 0 where
  pub held : x ≢ 0
  pub new : is_new a (new_in x) ≡ true
  pub marker : marker_in x ≤ k

pub opens : (a : Array) (k : ℕ) → k ≤ 4096 → (es : List Entry) (n m : ℕ) → n < a.names → is_new a n ≡ true → m ≤ k → Holds a k ((words es).holds n m) n
unfolding words
opens a k few es n m h r l =
    let q : new_in (opening n m) ≡ n = omega arith in
    let z : marker_in (opening n m) ≡ m = omega arith in
    record { held = λ e. absurd (omega arith); new = rw q r; marker = rw z l }

-- threads that fit a marker count of k
abbrev pub Ok : (a : Array) → WellFormed a → (k : ℕ) → k ≤ 4096 → List Entry → Thread ℕ ℕ → Type 0
Ok a wf k few es = C.Ok (words es) a wf (Holds a k) (λ m. m ≤ k) (opens a k few es)

module _ (a : Array) (wf : WellFormed a) (k : ℕ) (few : k ≤ 4096) (es : List Entry) where
  word_held : (x v : ℕ) → word_formed a k true x ≡ true → Holds a k x v
  unfolding word_formed
  word_held x v e =
      let s = and_split (not (eqb x 0)) (is_new a (new_in x) && leb (marker_in x) k) e in
      let t = and_split (is_new a (new_in x)) (leb (marker_in x) k) s.1 in
      record { held = eqb-false x 0 (not-true (eqb x 0) s.0); new = t.0; marker = leb-true (marker_in x) k t.1 }

  held_word : (x v : ℕ) → Holds a k x v → word_formed a k true x ≡ true
  unfolding word_formed
  held_word x v h = and-join (ap not (ne_eqb x 0 h.held)) (and-join h.new (le-leb (marker_in x) k h.marker))

  module _ (t : Thread ℕ ℕ) where
    abbrev P : Proc
    P = proc_at a t.agent

    abbrev test : ℕ → Bool
    test v = word_formed a k (is_free P v) (get_or t.env v 0)

    pub formed-ok : length t.env ≡ a.names → thread_formed a k t ≡ true → Ok a wf k few es t
    unfolding thread_formed word_formed words
    formed-ok w e =
        let s₁ = and_split (is_agent (node_at a t.agent)) (leb t.marker k && every a.names test) e in
        let s₂ = and_split (leb t.marker k) (every a.names test) s₁.1 in
        let b = agent-inside a t.agent s₁.0 in
        let g = agent-of (λ l. proc_at a l) (node_at a t.agent) s₁.0 in
        let wfp = wf-proc_at a wf.children wf.named t.agent b in
        record {
          below = b;
          acts = (g.0, agent-at a wf.children t.agent b ∙ g.1);
          fine = leb-true t.marker k s₂.0;
          width = w;
          covers = λ v f.
              word_held (get_or t.env v 0) v
              (ap (λ (x : Bool). word_formed a k x (get_or t.env v 0)) (sym f) ∙ every_true a.names test s₂.1 v (free-below a P v wfp f));
          bare = λ v f. bare v f s₂.1 (decided (ltb v a.names));
        }
      where
        bare : (v : ℕ) → is_free P v ≡ false → every a.names test ≡ true → (ltb v a.names ≡ true) ⊎ (ltb v a.names ≡ false) → get_or t.env v 0 ≡ 0
        bare v f h (inl q) =
            eqb-true (get_or t.env v 0) 0
            (ap (λ (x : Bool). word_formed a k x (get_or t.env v 0)) (sym f) ∙ every_true a.names test h v (ltb-true v a.names q))
        bare v f h (inr q) = let z = ltb-false v a.names q in get_or-eq_default t.env 0 (omega arith)

    pub ok-formed : Ok a wf k few es t → thread_formed a k t ≡ true
    unfolding thread_formed word_formed words
    ok-formed ok =
        and-join (acts-agent a wf.children t.agent ok.acts.0 ok.acts.1)
        (and-join (le-leb t.marker k ok.fine) (true-every a.names test (λ v h. at v (decided (is_free P v)))))
      where
        at : (v : ℕ) → (is_free P v ≡ true) ⊎ (is_free P v ≡ false) → test v ≡ true
        at v (inl f) = ap (λ (x : Bool). word_formed a k x (get_or t.env v 0)) f ∙ held_word (get_or t.env v 0) v (ok.covers v f)
        at v (inr f) = ap (λ (x : Bool). word_formed a k x (get_or t.env v 0)) f ∙ eq-eqb (get_or t.env v 0) 0 (ok.bare v f)

-- ---- entries

-- "a marker entry has a resource, an out"
abbrev pub Kinds : Array → Entry → Type 0
Kinds a e = (is_resource (node_at a e.resource) ≡ true) × (is_out (node_at a e.out) ≡ true)

module _ (a : Array) (es : List Entry) where
  abbrev at : ℕ → Entry
  at i = get_or es i no_entry

  entry-parts : (i : ℕ) (e : Entry) → entry_formed a i e ≡ true → Kinds a e × ((e.left ≤ i) × (e.right ≤ i))
  unfolding entry_formed
  entry-parts i e h =
      let s₁ = and_split (is_resource (node_at a e.resource)) _ h in
      let s₂ = and_split (is_out (node_at a e.out)) _ s₁.1 in
      let s₃ = and_split (leb e.left i) (leb e.right i) s₂.1 in
      ((s₁.0, s₂.0), (leb-true e.left i s₃.0, leb-true e.right i s₃.1))

  parts-entry : (i : ℕ) (e : Entry) → Kinds a e → e.left ≤ i → e.right ≤ i → entry_formed a i e ≡ true
  unfolding entry_formed
  parts-entry i e k l r = and-join k.0 (and-join k.1 (and-join (le-leb e.left i l) (le-leb e.right i r)))

  -- two entries that are not in order are not equal
  earlier : every (length es) (unlike es) ≡ true → (j i : ℕ) → j < i → i < length es → at j ≡ at i → ⊥
  unfolding unlike
  earlier h j i l b e =
      let z = every_true i (λ k. not (same_entry (at k) (at i))) (every_true (length es) (unlike es) h i b) j l in
      true≢false (sym (entry-same (at i)) ∙ ap (λ (x : Entry). same_entry x (at i)) (sym e) ∙ not-true (same_entry (at j) (at i)) z)

  pub formed-listed : every (length es) (λ i. entry_formed a i (at i)) ≡ true → every (length es) (unlike es) ≡ true → Listed es
  formed-listed h u = record {
    ordered = λ k b. (entry-parts k (at k) (every_true (length es) (λ i. entry_formed a i (at i)) h k b)).1;
    distinct = λ k l bk bl e. which k l bk bl e (decided (ltb k l)) (decided (ltb l k));
  }
    where
      which : (k l : ℕ) → k < length es → l < length es → at k ≡ at l → (ltb k l ≡ true) ⊎ (ltb k l ≡ false) → (ltb l k ≡ true) ⊎ (ltb l k ≡ false) → k ≡ l
      which k l bk bl e (inl p) q = absurd (earlier u k l (ltb-true k l p) bl e)
      which k l bk bl e (inr p) (inl q) = absurd (earlier u l k (ltb-true l k q) bk (sym e))
      which k l bk bl e (inr p) (inr q) = let x = ltb-false k l p in let y = ltb-false l k q in omega arith

  pub formed-kinds : every (length es) (λ i. entry_formed a i (at i)) ≡ true → (i : ℕ) → i < length es → Kinds a (at i)
  formed-kinds h i b = (entry-parts i (at i) (every_true (length es) (λ j. entry_formed a j (at j)) h i b)).0

  pub listed-formed : Listed es → ((i : ℕ) → i < length es → Kinds a (at i)) → every (length es) (λ i. entry_formed a i (at i)) ≡ true
  listed-formed ok k =
      true-every (length es) (λ i. entry_formed a i (at i)) λ i b. let o = ok.ordered i b in parts-entry i (at i) (k i b) o.0 o.1

  pub listed-unlike : Listed es → every (length es) (unlike es) ≡ true
  unfolding unlike
  listed-unlike ok = true-every (length es) (unlike es) λ i b. true-every i _ λ j l. differs i j l b (decided (same_entry (at j) (at i)))
    where
      differs : (i j : ℕ) → j < i → i < length es → (same_entry (at j) (at i) ≡ true) ⊎ (same_entry (at j) (at i) ≡ false) → not (same_entry (at j) (at i)) ≡ true
      differs i j l b (inl e) = let z = ok.distinct j i (le_trans l (le_of_lt b)) b (entry-eq (at j) (at i) e) in absurd (omega arith)
      differs i j l b (inr e) = ap not e

-- ---- the whole test

pub record Sound (a : Array) (m : Memory) : Type 0 where
  pub threads_fit : m.thread_count ≤ thread_room a.names m.threads
  pub markers_fit : m.marker_count ≤ marker_room m.markers
  pub listed : Listed (entries_of m)
  pub kinds : (i : ℕ) → i < length (entries_of m) → Kinds a (get_or (entries_of m) i no_entry)
  pub threads : All (λ t. thread_formed a m.marker_count t ≡ true) (config_of a m)

module _ (a : Array) (m : Memory) where
  abbrev es : List Entry
  es = entries_of m

  abbrev c : Config ℕ ℕ
  c = config_of a m

  abbrev len : length es ≡ m.marker_count
  len = length-entries m.marker_count m.markers

  abbrev count : length c ≡ m.thread_count
  count = length-threads a.names m.thread_count m.threads

  pub formed-sound : formed a m ≡ true → Sound a m
  unfolding formed
  formed-sound h =
      let s₁ = and_split (leb m.thread_count (thread_room a.names m.threads)) _ h in
      let s₂ = and_split (leb m.marker_count (marker_room m.markers)) _ s₁.1 in
      let s₃ = and_split (every m.thread_count (λ i. thread_formed a m.marker_count (get_or c i nobody))) _ s₂.1 in
      let s₄ = and_split (every m.marker_count (λ i. entry_formed a i (get_or es i no_entry))) _ s₃.1 in
      let e₁ : every (length es) (λ i. entry_formed a i (get_or es i no_entry)) ≡ true = rw len s₄.0 in
      let e₂ : every (length es) (unlike es) ≡ true = rw len s₄.1 in
      record {
        threads_fit = leb-true _ _ s₁.0;
        markers_fit = leb-true _ _ s₂.0;
        listed = formed-listed a es e₁ e₂;
        kinds = formed-kinds a es e₁;
        threads = every-All (thread_formed a m.marker_count) nobody c (rw count s₃.0);
      }

  pub sound-formed : Sound a m → formed a m ≡ true
  unfolding formed
  sound-formed s =
      and-join (le-leb _ _ s.threads_fit)
      (and-join (le-leb _ _ s.markers_fit)
      (and-join (rw count at (All-every (thread_formed a m.marker_count) nobody c s.threads))
      (and-join (rw len at (listed-formed a es s.listed s.kinds)) (rw len at (listed-unlike a es s.listed)))))
