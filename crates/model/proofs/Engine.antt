-- Start, step and walk on lent lists: they keep what refusal 23 asks, and what they leave stands for what the calculus leaves.
use Prim.Native.Nat.{ℕ, zero, suc, ◌≤◌, ◌<◌, zero-le}
use native.Mathlib.Nat.{le_trans, le_refl}
use native.Mathlib.Omega.{arith}
use mathlib.Core.Path.{◌≡◌, refl, sym, ap, ap₂, ◌∙◌, subst}
use mathlib.Core.Logic.{◌⊎◌, inl, inr}
use mathlib.Core.Bool.{Bool, true, false, cond, not, false≢true, true≢false}
use mathlib.Core.List.{List, [], ◌∷◌, ◌++◌, map}
use mathlib.Core.Option.{some}
use lib.Dec.{ltb, leb}
use lib.ListN.{length, get_or, length-map}
use borrow.Author.Tests.{leb-true, leb-false, not-false}
use Rattle.laws.specs.Search.{Found, clear, hit, test}
use Rattle.laws.specs.Lists.{All, put}
use Rattle.laws.proofs.Search.{decided, first-same, first-hit, test-hit}
use Rattle.laws.proofs.Lists.{All-append, All-slice_index, All-map, slice_index-All, below-All}
use Rattle.laws.proofs.Put.{put_front, length-put}
use Rattle.model.specs.Tree.{Array, Sort, out, inp, resource, Node, node_at, Proc, Agent, proc_at, is_free, receives}
use Rattle.model.specs.Nodes.{agent_of}
use Rattle.model.specs.Formed.{WellFormed}
use Rattle.model.specs.Calculus.{Marker, Cell, calculus, Choices, Thread, Config, Attempt, Answer, refused, next, no_thread, stepped, attempt, start}
use Rattle.model.specs.Numbers.{Entry, no_entry, decode, Listed, position, extend, list_after, markers_after}
use Rattle.model.specs.Memory.{marker_in, words, threads_in, words_of, entries_in, numbers_of, Memory, config_of, entries_of, thread_room, marker_room}
use Rattle.model.specs.Memory.{is_resource, is_out, thread_formed}
use Rattle.model.specs.Memory.{Result, stops, leaves, store, fitted, start_in, on_answer, step_in, is_next, try, first_ready}
use Rattle.model.specs.declared.Ending.{Ending}
use Rattle.model.specs.declared.Ending.TheVariants.{Quiet, Spent, Full}
use Rattle.model.specs.Memory.{Walked, ends, more, on_pair, on_step, walk_in, decode_word, stands_for, Starts, Follows, Walks, Ends}
use Rattle.model.proofs.Nodes.{agent-at}
use Rattle.model.proofs.Stepped.{Meet, attempt-next}
use Rattle.model.proofs.Memory.{Wide, length-entries, length-words, length-numbers, threads-words, entries-numbers, thread-room, marker-room}
use Rattle.model.proofs.Memory.{threads-wide}
use Rattle.model.proofs.Natural.{map_answer}
use Rattle.model.proofs.Words.{decoded, Fits, none-listed, start-words, Kept, after_is, after_kept, marker-fits, attempt-words}
use Rattle.model.proofs.Lent.{Holds, Ok, formed-ok, ok-formed, Kinds, Sound}
use Rattle.model.proofs.Covers as C

-- ---- the kinds of the agents that make a marker

resource-node : (f : ℕ → Proc) (n : Node) (g : Agent) → agent_of f n ≡ some g → g.sort ≡ resource → is_resource n ≡ true
unfolding agent_of is_resource
resource-node f Node.stop g e h = cc
resource-node f (Node.new n l) g e h = cc
resource-node f (Node.par l r) g e h = cc
resource-node f (Node.choice l r) g e h = cc
resource-node f (Node.agent s x ys l) g e h =
    let z : ◌≡◌ {A = Agent} record { sort = s; channel = x; args = ys; body = f l } g = cc in
    let q : s ≡ resource = ap (λ (y : Agent). y.sort) z ∙ h in
    subst (λ (y : Sort). is_resource (Node.agent y x ys l) ≡ true) (sym q) refl

out-node : (f : ℕ → Proc) (n : Node) (g : Agent) → agent_of f n ≡ some g → receives g.sort ≡ false → is_out n ≡ true
unfolding agent_of is_out receives
out-node f Node.stop g e h = cc
out-node f (Node.new n l) g e h = cc
out-node f (Node.par l r) g e h = cc
out-node f (Node.choice l r) g e h = cc
out-node f (Node.agent s x ys l) g e h =
    let z : ◌≡◌ {A = Agent} record { sort = s; channel = x; args = ys; body = f l } g = cc in
    go s (ap (λ (y : Agent). receives y.sort) z ∙ h)
  where
    go : (s : Sort) → receives s ≡ false → is_out (Node.agent s x ys l) ≡ true
    go out k = refl
    go inp k = absurd (true≢false k)
    go resource k = absurd (true≢false k)

-- ---- threads that are well formed

module _ (a : Array) (wf : WellFormed a) (k : ℕ) (few : k ≤ 4096) (es : List Entry) (t : Thread ℕ ℕ) (ok : Ok a wf k few es t) where
  word_fits : (v : ℕ) → (is_free (proc_at a t.agent) v ≡ true) ⊎ (is_free (proc_at a t.agent) v ≡ false) → marker_in (get_or t.env v 0) ≤ k
  unfolding words
  word_fits v (inl f) = (ok.covers v f).marker
  word_fits v (inr f) = rw (ok.bare v f) zero-le

  pub ok-fits : Fits k t
  ok-fits = (ok.fine, slice_index-All (λ x. marker_in x ≤ k) t.env 0 (λ v. word_fits v (decided (is_free (proc_at a t.agent) v))))

  pub ok-more : (j : ℕ) (less : j ≤ 4096) → k ≤ j → Ok a wf j less es t
  ok-more j less h = record {
    below = ok.below;
    acts = ok.acts;
    fine = le_trans ok.fine h;
    width = ok.width;
    covers = λ v f. let c = ok.covers v f in record { held = c.held; new = c.new; marker = le_trans c.marker h };
    bare = ok.bare;
  }

-- ---- one attempt on lists that are well formed

module _ (a : Array) (wf : WellFormed a) (m : Memory) (s : Sound a m) where
  abbrev es : List Entry
  es = entries_of m

  abbrev c : Config ℕ ℕ
  c = config_of a m

  len : length es ≡ m.marker_count
  len = length-entries m.marker_count m.markers

  pub few : length es ≤ 4096
  few = rw len (marker-room m.marker_count m.markers s.markers_fit).0

  wide : Wide a.names c
  wide = threads-wide a.names m.thread_count m.threads (thread-room a.names m.thread_count m.threads s.threads_fit).1

  formed-all : (c : Config ℕ ℕ) → Wide a.names c → All (λ t. thread_formed a m.marker_count t ≡ true) c → All (Ok a wf (length es) few es) c
  formed-all [] w h = tt
  formed-all (t ∷ c) w h = (formed-ok a wf (length es) few es t w.0 (rw len h.0), formed-all c w.1 h.1)

  pub oks : All (Ok a wf (length es) few es) c
  oks = formed-all c wide s.threads

  pub fits : All (Fits (length es)) c
  fits = All-map (ok-fits a wf (length es) few es) c oks

  module _ (u : Attempt) where
    abbrev ds : List Entry
    ds = markers_after a es c u

    -- the attempt on words is that of the calculus
    pub decoded-attempt : map_answer (decode ds) (decode_word ds) (attempt (words es) a c u) ≡ attempt calculus a (stands_for a m) u
    unfolding stands_for
    decoded-attempt = attempt-words a es s.listed c fits u few

    kept : Kept es ds
    kept = after_kept a es s.listed c fits u

    -- the two threads meet, and the markers fit
    module _ (x : Meet (words es) a c u) (less : length ds ≤ 4096) where
      abbrev R : Thread ℕ ℕ
      R = get_or c u.receiver (no_thread (words es))

      abbrev S : Thread ℕ ℕ
      S = get_or c u.sender (no_thread (words es))

      more-oks : All (Ok a wf (length ds) less es) c
      more-oks = All-map (λ t ok. ok-more a wf (length es) few es t ok (length ds) less kept.longer) c oks

      R-ok : Ok a wf (length es) few es R
      R-ok = All-slice_index (Ok a wf (length es) few es) c u.receiver (no_thread (words es)) oks x.below.0

      S-ok : Ok a wf (length es) few es S
      S-ok = All-slice_index (Ok a wf (length es) few es) c u.sender (no_thread (words es)) oks x.below.1

      next-oks : All (Ok a wf (length ds) less es) (stepped (words es) c u x.p x.q)
      next-oks =
          C.step_ok (words es) a wf (Holds a (length ds)) (λ n. n ≤ length ds) _ c more-oks u x
          (λ n h.
          let g = C.sent-fits (words es) a wf (Holds a (length es)) (λ n. n ≤ length es) _ S S-ok x.q x.sender x.sends n (rw (← x.arities) h) in
          record { held = g.held; new = g.new; marker = le_trans g.marker kept.longer })
          (marker-fits a es s.listed c fits u x.p x.receiver)

      new-kinds : (y : Sort) → x.p.sort ≡ y → All (Kinds a) es → All (Kinds a) (list_after es y R S)
      unfolding list_after extend
      new-kinds out e h = h
      new-kinds inp e h = h
      new-kinds resource e h = go (ltb (position made es) (length es))
        where
          made : Entry
          made = record { resource = R.agent; out = S.agent; left = R.marker; right = S.marker }

          made-kinds : Kinds a made
          made-kinds = (
            resource-node (λ l. proc_at a l) (node_at a R.agent) x.p (sym (agent-at a wf.children R.agent R-ok.below) ∙ x.receiver) e,
            out-node (λ l. proc_at a l) (node_at a S.agent) x.q (sym (agent-at a wf.children S.agent S-ok.below) ∙ x.sender) x.sends,
          )

          go : (b : Bool) → All (Kinds a) (cond b es (es ++ (made ∷ [])))
          go true = h
          go false = All-append (Kinds a) es (made ∷ []) h (made-kinds, tt)

      ds-kinds : All (Kinds a) ds
      ds-kinds = rw (after_is a es s.listed c fits u x.p x.receiver) (new-kinds x.p.sort refl (below-All (Kinds a) no_entry es s.kinds))

-- ---- what is stored is what is read

module _ (a : Array) (m : Memory) (d : Config ℕ ℕ) (ds : List Entry) (w : Wide a.names d) where
  pub stored-config : config_of a (store m d ds) ≡ d
  unfolding store
  stored-config = ap (threads_in a.names (length d)) (put_front (words_of d) m.threads) ∙ threads-words a.names d _ w

  pub stored-entries : entries_of (store m d ds) ≡ ds
  unfolding store
  stored-entries = ap (entries_in (length ds)) (put_front (numbers_of ds) m.markers) ∙ entries-numbers ds _

  module _ (ht : length d ≤ thread_room a.names m.threads) (hm : length ds ≤ marker_room m.markers) where
    same-threads : length (put 0 (words_of d) m.threads) ≡ length m.threads
    same-threads =
        let e = length-words a.names d w in
        let r = (thread-room a.names (length d) m.threads ht).1 in
        length-put 0 (words_of d) m.threads (omega arith)

    same-markers : length (put 0 (numbers_of ds) m.markers) ≡ length m.markers
    same-markers =
        let e = length-numbers ds in
        let r = (marker-room (length ds) m.markers hm).1 in
        length-put 0 (numbers_of ds) m.markers (omega arith)

    pub store-sound : Listed ds → All (Kinds a) ds → All (λ t. thread_formed a (length ds) t ≡ true) d → Sound a (store m d ds)
    unfolding store
    store-sound ok kinds threads = record {
      threads_fit = rw same-threads ht;
      markers_fit = rw same-markers hm;
      listed = rw stored-entries ok;
      kinds = λ i b. rw stored-entries (All-slice_index (Kinds a) ds i no_entry kinds (rw stored-entries at b));
      threads = rw stored-config threads;
    }

    pub store-stands : stands_for a (store m d ds) ≡ map (decoded ds) d
    unfolding stands_for
    store-stands = ap₂ (λ (y : List Entry) (z : Config ℕ ℕ). map (decoded y) z) stored-entries stored-config

-- what becomes of a configuration and its entries: stopped by 28 or 29, or stored
pub data Fate (a : Array) (m : Memory) (d : Config ℕ ℕ) (ds : List Entry) (r : Result) : Type 0 where
  crowded : r ≡ stops 28 → thread_room a.names m.threads < length d → Fate a m d ds r
  unlisted : r ≡ stops 29 → marker_room m.markers < length ds → Fate a m d ds r
  stored : r ≡ leaves (store m d ds) → length d ≤ thread_room a.names m.threads → length ds ≤ marker_room m.markers → Fate a m d ds r

pub fitted-fate : (a : Array) (m : Memory) (d : Config ℕ ℕ) (ds : List Entry) → Fate a m d ds (fitted a m d ds)
unfolding fitted
fitted-fate a m d ds = go (decided (leb (length d) room)) (decided (leb (length ds) most))
  where
    room : ℕ
    room = thread_room a.names m.threads

    most : ℕ
    most = marker_room m.markers

    go : (leb (length d) room ≡ true) ⊎ (leb (length d) room ≡ false) → (leb (length ds) most ≡ true) ⊎ (leb (length ds) most ≡ false)
        → Fate a m d ds (cond (leb (length d) room) (cond (leb (length ds) most) (leaves (store m d ds)) (stops 29)) (stops 28))
    go (inr p) q = crowded (rw p) (leb-false (length d) room p)
    go (inl p) (inr q) = unlisted (rw (p, q)) (leb-false (length ds) most q)
    go (inl p) (inl q) = stored (rw (p, q)) (leb-true (length d) room p) (leb-true (length ds) most q)

-- ---- one step

stop-leave : {B : Type 0} (k : ℕ) (n : Memory) → stops k ≡ leaves n → B
stop-leave k n e = let z : true ≡ false = cc in absurd (true≢false z)

leaves-inj : {m n : Memory} → leaves m ≡ leaves n → m ≡ n
leaves-inj e = cc

module _ (a : Array) (wf : WellFormed a) (m : Memory) (s : Sound a m) (u : Attempt) where
  abbrev ES : List Entry
  ES = entries_of m

  abbrev CF : Config ℕ ℕ
  CF = config_of a m

  abbrev DS : List Entry
  DS = markers_after a ES CF u

  -- what a step that is made leaves is well formed
  made-oks : (d : Config ℕ ℕ) → attempt (words ES) a CF u ≡ next d → (less : length DS ≤ 4096) → All (Ok a wf (length DS) less ES) d
  made-oks d e less =
      let x = attempt-next (words ES) a CF u d e in
      subst (All (Ok a wf (length DS) less ES)) (sym x.1) (next-oks a wf m s u x.0 less)

  made-kinds : (d : Config ℕ ℕ) → attempt (words ES) a CF u ≡ next d → length DS ≤ 4096 → All (Kinds a) DS
  made-kinds d e less = ds-kinds a wf m s u (attempt-next (words ES) a CF u d e).0 less

  few-markers : length DS ≤ marker_room m.markers → length DS ≤ 4096
  few-markers h = (marker-room (length DS) m.markers h).0

  pub step-wide : (d : Config ℕ ℕ) → attempt (words ES) a CF u ≡ next d → length DS ≤ marker_room m.markers → Wide a.names d
  step-wide d e h = All-map (λ t ok. ok.width) d (made-oks d e (few-markers h))

  pub step_follows : Follows a m u (attempt calculus a (stands_for a m) u) (step_in a m u)
  unfolding step_in on_answer map_answer
  step_follows = subst (λ x. Follows a m u x (step_in a m u)) (decoded-attempt a wf m s u) (go (attempt (words ES) a CF u) refl)
    where
      go : (x : Answer ℕ ℕ) → attempt (words ES) a CF u ≡ x → Follows a m u (map_answer (decode DS) (decode_word DS) x) (on_answer a m DS x)
      go (refused n) e = refl
      go (next d) e = fate (fitted a m d DS) (fitted-fate a m d DS)
        where
          fate : (r : Result) → Fate a m d DS r → Follows a m u (next (map (decoded DS) d)) r
          fate r (crowded q h) = inl (q, rw (length-map d (decoded DS)) h)
          fate r (unlisted q h) = inr (inl (q, h))
          fate r (stored q h k) = inr (inr (store m d DS, q, store-stands a m d DS (step-wide d e k) h k))

  -- a step that is made: the attempt on words, and what it stores
  pub step-made : (n : Memory) → step_in a m u ≡ leaves n → (d : Config ℕ ℕ) × (attempt (words ES) a CF u ≡ next d) × (store m d DS ≡ n)
      × (length d ≤ thread_room a.names m.threads) × (length DS ≤ marker_room m.markers)
  unfolding step_in on_answer
  step-made n = go (attempt (words ES) a CF u) refl
    where
      go : (x : Answer ℕ ℕ) → attempt (words ES) a CF u ≡ x → on_answer a m DS x ≡ leaves n
          → (d : Config ℕ ℕ) × (attempt (words ES) a CF u ≡ next d) × (store m d DS ≡ n) × (length d ≤ thread_room a.names m.threads)
          × (length DS ≤ marker_room m.markers)
      go (refused k) e l = stop-leave k n l
      go (next d) e l = fate (fitted a m d DS) (fitted-fate a m d DS) l
        where
          fate : (r : Result) → Fate a m d DS r → r ≡ leaves n
              → (d : Config ℕ ℕ) × (attempt (words ES) a CF u ≡ next d) × (store m d DS ≡ n) × (length d ≤ thread_room a.names m.threads)
              × (length DS ≤ marker_room m.markers)
          fate r (crowded q h) l = stop-leave 28 n (sym q ∙ l)
          fate r (unlisted q h) l = stop-leave 29 n (sym q ∙ l)
          fate r (stored q h k) l = (d, e, leaves-inj (sym q ∙ l), h, k)

  module _ (n : Memory) (r : step_in a m u ≡ leaves n) where
    -- "a step keeps it": lists that are well formed stay so
    pub step-sound : Sound a n
    step-sound =
        let x = step-made n r in
        let f = few-markers x.4 in
        let all = made-oks x.0 x.1 f in
        subst (Sound a) x.2
        (store-sound a m x.0 DS (step-wide x.0 x.1 x.4) x.3 x.4 (kept a wf m s u).listed (made-kinds x.0 x.1 f)
        (All-map (λ t ok. ok-formed a wf (length DS) f ES t ok) x.0 all))

    pub step-entries : entries_of n ≡ DS
    step-entries =
        let x = step-made n r in
        subst (λ y. entries_of y ≡ DS) x.2 (stored-entries a m x.0 DS (step-wide x.0 x.1 x.4))

    -- what it leaves stands for what the calculus leaves
    pub step-stands : attempt calculus a (stands_for a m) u ≡ next (stands_for a n)
    unfolding map_answer
    step-stands =
        let x = step-made n r in
        sym (decoded-attempt a wf m s u) ∙ ap (map_answer (decode DS) (decode_word DS)) x.1
        ∙ ap next (sym (store-stands a m x.0 DS (step-wide x.0 x.1 x.4) x.3 x.4) ∙ ap (stands_for a) x.2)

-- ---- the start

module _ (a : Array) (wf : WellFormed a) (ch : Choices) (m : Memory) where
  abbrev begun : Config ℕ ℕ
  begun = start (words []) a ch

  begun-oks : All (Ok a wf 0 zero-le []) begun
  unfolding words
  begun-oks = C.start-ok (words []) a wf (Holds a 0) (λ n. n ≤ 0) _ empty-fine ch
    where
      empty-fine : (words []).empty ≤ 0
      empty-fine = le_refl 0

  pub start-wide : Wide a.names begun
  start-wide = All-map (λ t ok. ok.width) begun begun-oks

  pub start-follows : Starts a ch m (start_in a ch m)
  unfolding start_in
  start-follows = fate (fitted a m begun []) (fitted-fate a m begun [])
    where
      same : length (start calculus a ch) ≡ length begun
      same = ap length (sym (start-words a ch)) ∙ length-map begun (decoded [])

      fate : (r : Result) → Fate a m begun [] r → Starts a ch m r
      fate r (crowded q h) = inl (q, rw same h)
      fate r (unlisted q h) = absurd (omega arith)
      fate r (stored q h k) = inr (store m begun [], q, store-stands a m begun [] start-wide h k ∙ start-words a ch)

  pub start-sound : (n : Memory) → start_in a ch m ≡ leaves n → Sound a n
  unfolding start_in
  start-sound n = fate (fitted a m begun []) (fitted-fate a m begun [])
    where
      fate : (r : Result) → Fate a m begun [] r → r ≡ leaves n → Sound a n
      fate r (crowded q h) l = stop-leave 28 n (sym q ∙ l)
      fate r (unlisted q h) l = stop-leave 29 n (sym q ∙ l)
      fate r (stored q h k) l =
          subst (Sound a) (leaves-inj (sym q ∙ l))
          (store-sound a m begun [] start-wide h k none-listed tt (All-map (λ t ok. ok-formed a wf 0 zero-le [] t ok) begun begun-oks))

-- ---- the walk

mapped_next : {X Y C D : Type 0} (f : X → Y) (g : C → D) (x : Answer X C) → is_next (map_answer f g x) ≡ is_next x
unfolding is_next map_answer
mapped_next f g (refused n) = refl
mapped_next f g (next c) = refl

-- the first ready pair of the words is that of the calculus
pub first-decoded : (a : Array) → WellFormed a → (m : Memory) → Sound a m → (ch : Choices)
    → first_ready (words (entries_of m)) a ch (config_of a m) ≡ first_ready calculus a ch (stands_for a m)
unfolding first_ready stands_for
first-decoded a wf m s ch =
    rw (length-map (config_of a m) (decoded (entries_of m)))
    (first-same (length (config_of a m)) _ _ λ i hi. first-same (length (config_of a m)) _ _ λ j hj.
    ap (λ (b : Bool). test (not b) (try ch i j))
    (sym (mapped_next (decode (DS a wf m s (try ch i j))) (decode_word (DS a wf m s (try ch i j))) (attempt (words (entries_of m)) a (config_of a m) (try ch i j)))
    ∙ ap is_next (decoded-attempt a wf m s (try ch i j))))

-- a pair that is found makes a step of the calculus
next_of : {X C : Type 0} (x : Answer X C) → is_next x ≡ true → (d : Config X C) × (x ≡ next d)
unfolding is_next
next_of (refused n) e = absurd (false≢true e)
next_of (next d) e = (d, refl)

found-ready : (a : Array) (ch : Choices) (c : Config Marker Cell) (u : Attempt) → first_ready calculus a ch c ≡ hit u
    → (d : Config Marker Cell) × (attempt calculus a c u ≡ next d)
unfolding first_ready
found-ready a ch c u e =
    let x = first-hit (length c) _ u e in
    let y = first-hit (length c) _ u x.2 in
    let v = try ch x.0 y.0 in
    let z = test-hit (not (is_next (attempt calculus a c v))) v u y.2 in
    subst (λ w. (d : Config Marker Cell) × (attempt calculus a c w ≡ next d)) z.1 (next_of (attempt calculus a c v) (not-false _ z.0))

-- what a walk says of the calculus
pub record Told (a : Array) (ch : Choices) (allowed : ℕ) (m : Memory) (w : Walked) : Type 0 where
  pub walks : Walks a ch w.steps (stands_for a m) (stands_for a w.left)
  pub ending : Ends a ch allowed w w.ending
  pub sound : Sound a w.left

module _ (a : Array) (wf : WellFormed a) (ch : Choices) where
  abbrev ready : Memory → Found Attempt
  ready m = first_ready (words (entries_of m)) a ch (config_of a m)

  at_once : (k : ℕ) (m : Memory) → Sound a m → ready m ≡ clear → Told a ch k m (ends Quiet m)
  at_once k m s e = record { walks = refl; ending = sym (first-decoded a wf m s ch) ∙ e; sound = s }

  -- a ready pair whose step the lists cannot hold
  pub no_room : (m : Memory) (s : Sound a m) (u : Attempt) (n : ℕ) → first_ready calculus a ch (stands_for a m) ≡ hit u → step_in a m u ≡ stops n
      → (step_in a m u ≡ stops 28) ⊎ (step_in a m u ≡ stops 29)
  no_room m s u n e r =
      let x = found-ready a ch (stands_for a m) u e in
      go (subst (λ y. Follows a m u y (step_in a m u)) x.1 (step_follows a wf m s u))
    where
      go : {d : Config Marker Cell} → Follows a m u (next d) (step_in a m u) → (step_in a m u ≡ stops 28) ⊎ (step_in a m u ≡ stops 29)
      go (inl p) = inl p.0
      go (inr (inl p)) = inr p.0
      go (inr (inr p)) = stop-leave n p.0 (sym r ∙ p.1)

  -- one step more, made first
  one_more : (k : ℕ) (m : Memory) (s : Sound a m) (u : Attempt) (n : Memory) (w : Walked) → first_ready calculus a ch (stands_for a m) ≡ hit u
      → step_in a m u ≡ leaves n → Told a ch k n w → Told a ch (suc k) m (more w)
  one_more k m s u n w e r t = record {
    walks = (u, stands_for a n, e, step-stands a wf m s u n r, t.walks);
    ending = later w.ending t.ending;
    sound = t.sound;
  }
    where
      later : (x : Ending) → Ends a ch k w x → Ends a ch (suc k) (more w) x
      later Quiet h = h
      later Spent h = (ap suc h.0, h.1)
      later Full h = (omega (arith, h.0), h.1)

  pub walk-follows : (k : ℕ) (m : Memory) → Sound a m → Told a ch k m (walk_in a ch k m)
  unfolding walk_in on_pair on_step
  walk-follows zero m s = go (ready m) refl
    where
      go : (x : Found Attempt) → ready m ≡ x → Told a ch 0 m (on_pair x (ends Quiet m) (λ u. ends Spent m))
      go clear e = at_once 0 m s e
      go (hit u) e = record { walks = refl; ending = (refl, (u, sym (first-decoded a wf m s ch) ∙ e)); sound = s }
  walk-follows (suc k) m s = go (ready m) refl (λ n t. walk-follows k n t)
    where
      found : {u : Attempt} → ready m ≡ hit u → first_ready calculus a ch (stands_for a m) ≡ hit u
      found e = sym (first-decoded a wf m s ch) ∙ e

      step : (u : Attempt) → ready m ≡ hit u → (r : Result) → step_in a m u ≡ r → ((n : Memory) → Sound a n → Told a ch k n (walk_in a ch k n))
          → Told a ch (suc k) m (on_step r (ends Full m) (λ n. more (walk_in a ch k n)))
      step u e (stops n) q ih = record { walks = refl; ending = (omega arith, (u, found e, no_room m s u n (found e) q)); sound = s }
      step u e (leaves n) q ih = one_more k m s u n (walk_in a ch k n) (found e) q (ih n (step-sound a wf m s u n q))

      go : (x : Found Attempt) → ready m ≡ x → ((n : Memory) → Sound a n → Told a ch k n (walk_in a ch k n))
          → Told a ch (suc k) m (on_pair x (ends Quiet m) (λ u. on_step (step_in a m u) (ends Full m) (λ n. more (walk_in a ch k n))))
      go clear e ih = at_once (suc k) m s e
      go (hit u) e ih = step u e (step_in a m u) refl ih
